use Rattle.std.proofs.Common.{◌≡◌, ◌+◌, length}
use Rattle.fsa_types.specs.Paths.{components}
use Rattle.fsa_model.specs.Walk.{walk_from}
use Rattle.volume_state.specs.Living.{CanHold}
use Rattle.op_parts.proofs.paths.walk.Given as goal

abbrev pub invariant-loop-name : goal.invariant-loop-name
invariant-loop-name l = record {
  goes : walk_from l.volume.content l.dir l.place l.name-iterator ≡ walk_from l.volume.content 1 0 (components l.parts);
  count : l.place + length l.name-iterator ≡ length (components l.parts);
  holds : CanHold l.volume.content l.dir;
}
