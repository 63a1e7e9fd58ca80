use Rattle.fsa_types.proofs.OplockLemmas.{chosen-are}
use Rattle.volume_breaks.specs.Marks.{is_oplock_marked, is_opened_before}
use Rattle.volume_breaks.proofs.oplock_list.Oplocks.choose_marked.Goals as goal

pub returns-clause-sound : goal.returns-clause-sound
returns-clause-sound c =
    let are = chosen-are is_opened_before (is_oplock_marked c.args.marked.now c.args.acting c.args.key) c.self.inside.rows.items c.self.inside.last c.self.invariant.1 in
    rw (c.choose_marked.ensures.chosen, c.deref.ensures.value) are.0

pub returns-clause-copies : goal.returns-clause-copies
returns-clause-copies c =
    let are = chosen-are is_opened_before (is_oplock_marked c.args.marked.now c.args.acting c.args.key) c.self.inside.rows.items c.self.inside.last c.self.invariant.1 in
    rw (← c.self.view_is, c.choose_marked.ensures.chosen, c.deref.ensures.value) are.1
