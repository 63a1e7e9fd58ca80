use Rattle.std.proofs.Common.{arith}
use Rattle.std.proofs.lemmas.List.Elements.{All-take}
use Rattle.fsa_machine.specs.Spare.{HasLists}
use Rattle.fsa_machine.proofs.spare.SpareRooms.turn_spare.Goals as goal

pub invariant_of-self : goal.invariant_of-self
invariant_of-self g c = (
  rw c.pop.ensures.rest (All-take (HasLists c.self.inside.calls) _ c.self.inside.rooms.items c.self.invariant.0),
  c.turn_in_room.ensures.emptied,
  λ some. (let enough = c.self.invariant.2 (omega (arith, some, c.in-Some.ensures.len)) in omega (arith, enough, c.turn_in_room.ensures.ended_room)),
  c.self.invariant.3,
)

pub invariant_of-self-2 : goal.invariant_of-self-2
invariant_of-self-2 g c = (
  rw c.pop.ensures.rest (All-take (HasLists c.self.inside.calls) _ c.self.inside.rooms.items c.self.invariant.0),
  c.turn_in_room.ensures.emptied,
  λ some. (let enough = c.self.invariant.2 (omega (arith, some, c.in-Some.ensures.len)) in omega (arith, enough, c.turn_in_room.ensures.ended_room)),
  c.self.invariant.3,
)
