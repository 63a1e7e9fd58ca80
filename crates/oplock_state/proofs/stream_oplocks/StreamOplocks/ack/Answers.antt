use Rattle.std.proofs.Common.{length, arith}
use Rattle.std.specs.Vec.{vec_capacity}
use Rattle.fsa_types.specs.OplockGrants.{after_answer}
use Rattle.volume_tables.specs.Rooms.{room_in}
use Rattle.oplock_state.proofs.OplockCounts.{answer-few, marks-none, room-kept}
use Rattle.oplock_state.proofs.stream_oplocks.StreamOplocks.ack.Goals as goal

pub invariant_of-self-2 : goal.invariant_of-self-2
invariant_of-self-2 c =
    let few = answer-few c.args.handle c.in_both-kept.result c.args.turn c.self.inside.list.rows in
    let places = c.self.invariant.0 in
    let same = c.clear.ensures.capacity in
    rw (c.answer.ensures, c.clear.ensures.items) (omega arith, marks-none _)

pub returns-clause-room : goal.returns-clause-room
returns-clause-room c =
    let few = answer-few c.args.handle c.in_both-kept.result c.args.turn c.self.inside.list.rows in
    let same = c.clear.ensures.capacity in
    rw (← c.self.view_is, c.answer.ensures)
    (room-kept (room_in c.self.inside.list.rooms 0) (room_in c.self.inside.list.rooms 0) (vec_capacity c.self.inside.marked) (vec_capacity c.clear.new.self)
    (length c.self.inside.list.rows) (length (after_answer c.args.handle c.in_both-kept.result c.args.turn c.self.inside.list.rows)) (omega arith) (omega arith) few)
