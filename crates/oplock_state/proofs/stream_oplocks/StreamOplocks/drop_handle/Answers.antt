use Rattle.std.proofs.Common.{length, arith}
use Rattle.std.specs.Vec.{vec_capacity}
use Rattle.fsa_types.specs.OplockLists.{without_oplock_of}
use Rattle.volume_tables.specs.Rooms.{room_in}
use Rattle.oplock_state.proofs.OplockCounts.{marks-none, room-kept, without-few}
use Rattle.oplock_state.proofs.stream_oplocks.StreamOplocks.drop_handle.Goals as goal

pub invariant_of-self : goal.invariant_of-self
invariant_of-self c =
    let few = without-few c.args.handle c.self.inside.list.rows in
    let places = c.self.invariant.0 in
    let same = c.clear.ensures.capacity in
    rw (c.drop_of.ensures, c.clear.ensures.items) (omega arith, marks-none _)

pub returns-clause-room : goal.returns-clause-room
returns-clause-room c =
    let few = without-few c.args.handle c.self.inside.list.rows in
    let same = c.clear.ensures.capacity in
    rw (← c.self.view_is, c.drop_of.ensures)
    (room-kept (room_in c.self.inside.list.rooms 0) (room_in c.self.inside.list.rooms 0) (vec_capacity c.self.inside.marked) (vec_capacity c.clear.new.self)
    (length c.self.inside.list.rows) (length (without_oplock_of c.args.handle c.self.inside.list.rows)) (omega arith) (omega arith) few)
