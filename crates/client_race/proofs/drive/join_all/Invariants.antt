use Rattle.std.proofs.Common.{◌≡◌, ◌+◌, vec_len, vec_capacity}
use Rattle.client_race.specs.Lists.{Faces, Leads}
use Rattle.client_race.specs.Tasks.{GivesRunner}
use Rattle.client_race.proofs.drive.join_all.Given as goal

abbrev pub invariant-loop-task : goal.invariant-loop-task
invariant-loop-task g l = record {
  left : Leads l.tasks.items l.fn.tasks.items;
  count : vec_len l.tasks + vec_len l.runners ≡ vec_len l.fn.tasks;
  room : vec_capacity l.runners ≡ vec_capacity l.fn.runners;
  gives : Faces GivesRunner l.fn.tasks.items l.runners.items;
}

abbrev pub decreases-loop-task : goal.decreases-loop-task
decreases-loop-task g l = goal.left-loop-task g l
