use Rattle.std.proofs.Common.{◌≡◌, ◌+◌, vec_len, vec_capacity}
use Rattle.client_race.specs.Lists.{Faces, Leads, Each}
use Rattle.client_race.specs.Tasks.{IsTaskOf, IsFit}
use Rattle.client_race.proofs.drive.start_all.Given as goal

abbrev pub invariant-loop-runner : goal.invariant-loop-runner
invariant-loop-runner g l = record {
  left : Leads l.runners.items l.fn.runners.items;
  count : vec_len l.runners + vec_len l.tasks ≡ vec_len l.fn.runners;
  room : vec_capacity l.tasks ≡ vec_capacity l.fn.tasks;
  stands : Faces (IsTaskOf l.volume) l.fn.runners.items l.tasks.items;
  fit : Each (IsFit l.volume) l.tasks.items;
}

abbrev pub decreases-loop-runner : goal.decreases-loop-runner
decreases-loop-runner g l = goal.left-loop-runner g l
