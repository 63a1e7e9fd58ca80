use Rattle.std.proofs.Common.{◌∙◌, sym}
use Rattle.fsa_model.specs.Edits.{is_call}
use Rattle.volume_tables.proofs.IndexLaws.{number-by_key}
use Rattle.volume_tables.specs.CallKey.{call_key_of}
use Rattle.volume_breaks.specs.CallIndex.{row_call_key}
use Rattle.volume_breaks.proofs.TurnLemmas.{IsNumbered-rise, call-only, sum_of}
use Rattle.volume_breaks.proofs.pending_calls.PendingCalls.find_turn.Goals as goal

pub returns-then-self-clause-found : goal.returns-then-self-clause-found
returns-then-self-clause-found c =
    let i = c.self.inside in
    let rows = i.rows.items in
    rw (← c.self.view_is) ((rw (c.of_call.ensures, ← c.self.view_is) at c.find_call.ensures)
    ∙ sym (number-by_key row_call_key (call_key_of c.args.client c.args.number) (is_call c.args.client c.args.number) (call-only c.args.client c.args.number) rows (sum_of rows) i.turns.calls
    (IsNumbered-rise rows (c.self.invariant.2 c.if-self.true)) (c.self.invariant.4 c.if-self.true)))

pub returns-then-self-clause-calls : goal.returns-then-self-clause-calls
returns-then-self-clause-calls c = rw (← c.self.view_is) c.self.invariant.0

pub returns-else-self-clause-calls : goal.returns-else-self-clause-calls
returns-else-self-clause-calls c = rw (← c.self.view_is) c.self.invariant.0
