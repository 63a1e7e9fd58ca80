use Rattle.key_index.proofs.RowLaws.{index-added}
use Rattle.volume_breaks.specs.CallIndex.{row_call_key, row_handle_key}
use Rattle.volume_breaks.proofs.call_index.CallIndex.add.Goals as goal

pub returns-clause-calls : goal.returns-clause-calls
returns-clause-calls c rows blockers is =
    let i = c.self.inside in
    index-added row_call_key rows i.calls.entries c.add.new.self.entries c.args.turn (record { call = c.args.call.now; blockers = blockers }) (rw (← c.self.view_is) at is)
    (rw c.call_key.ensures at c.add.ensures.added)

pub returns-clause-handles : goal.returns-clause-handles
returns-clause-handles c rows blockers is =
    let i = c.self.inside in
    index-added row_handle_key rows i.handles.entries c.add-2.new.self.entries c.args.turn (record { call = c.args.call.now; blockers = blockers }) (rw (← c.self.view_is) at is)
    (rw c.handle_key.ensures at c.add-2.ensures.added)
