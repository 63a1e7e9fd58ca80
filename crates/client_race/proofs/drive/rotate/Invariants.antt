use Rattle.std.proofs.Common.{◌≡◌, vec_len}
use Rattle.client_race.specs.Lists.{Pointwise, Each}
use Rattle.client_race.specs.Tasks.{IsFit, Moves}
use Rattle.client_race.proofs.drive.rotate.Given as goal

abbrev pub invariant-loop : goal.invariant-loop
invariant-loop g l = record {
  one_each : vec_len l.tasks ≡ vec_len l.fn.tasks;
  fit : Each (IsFit l.volume) l.tasks.items;
  moves : Pointwise (Moves l.volume) l.fn.tasks.items l.tasks.items;
}
