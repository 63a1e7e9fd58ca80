use Rattle.std.proofs.Common.{◌∙◌, length, refl, sym, arith}
use Rattle.std.specs.Vec.{vec_capacity}
use Rattle.volume_tables.specs.Rooms.{room_in}
use Rattle.oplock_state.proofs.OplockCounts.{fresh-parts, marks-fit, marks-more, room-kept}
use Rattle.oplock_state.proofs.stream_oplocks.StreamOplocks.mark.Goals as goal

pub mark-requires : goal.mark-requires
mark-requires c =
    let fresh = fresh-parts _ _ (rw (← c.self.view_is) at (sym c.can_be_marked.ensures ∙ c.if-not-can_be_marked.false)) in
    let fit = marks-fit c.self.inside.marked.items c.self.inside.list.rows c.args.handle c.self.invariant.1 fresh.0 fresh.1 in
    let places = c.self.invariant.0 in
    omega arith

pub invariant_of-self : goal.invariant_of-self
invariant_of-self c =
    let fresh = fresh-parts _ _ (rw (← c.self.view_is) at (sym c.can_be_marked.ensures ∙ c.if-not-can_be_marked.false)) in
    let places = c.self.invariant.0 in
    let kept = c.mark.ensures.room in (
      omega arith,
      rw c.mark.ensures.marked (marks-more c.self.inside.marked.items c.self.inside.list.rows c.args.handle c.self.invariant.1 fresh.0 fresh.1),
    )

pub returns-clause-marked : goal.returns-clause-marked
returns-clause-marked c =
    let fresh = rw (← c.self.view_is) at (sym c.can_be_marked.ensures ∙ c.if-not-can_be_marked.false) in
    rw (← c.self.view_is, fresh, c.mark.ensures.marked) refl

pub returns-clause-room : goal.returns-clause-room
returns-clause-room c =
    let kept = c.mark.ensures.room in
    rw (← c.self.view_is)
    (room-kept (room_in c.self.inside.list.rooms 0) (room_in c.self.inside.list.rooms 0) (vec_capacity c.self.inside.marked) (vec_capacity c.mark.new.marked)
    (length c.self.inside.list.rows) (length c.self.inside.list.rows) (omega arith) (omega arith) (omega arith))
