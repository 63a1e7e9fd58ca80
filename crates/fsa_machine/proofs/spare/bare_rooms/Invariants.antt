use Rattle.std.proofs.Common.{◌≡◌, All}
use Rattle.std.specs.Vec.{vec_len}
use Rattle.fsa_machine.specs.Spare.{HasLists}
use Rattle.fsa_machine.proofs.spare.bare_rooms.Given as goal

abbrev pub invariant-loop-turn : goal.invariant-loop-turn
invariant-loop-turn l = record {
  len : vec_len l.rooms ≡ l.turn;
  lists : All (HasLists l.calls) l.rooms.items;
}
