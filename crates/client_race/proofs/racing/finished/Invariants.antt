use Rattle.std.proofs.Common.{◌≡◌, ◌+◌, [], vec_len, vec_capacity}
use Rattle.client_race.specs.Lists.{Faces, Leads}
use Rattle.client_race.specs.Runners.{todo_of}
use Rattle.client_race.proofs.racing.finished.Given as goal

abbrev pub invariant-loop-runner : goal.invariant-loop-runner
invariant-loop-runner l = record {
  left : Leads l.runners.items l.fn.runners.items;
  count : vec_len l.runners + vec_len l.passes ≡ vec_len l.fn.runners;
  room : vec_capacity l.passes ≡ vec_capacity l.fn.passes;
  made : Faces (λ runner pass. (runner.pass ≡ pass) × (todo_of runner ≡ [])) l.fn.runners.items l.passes.items;
}

abbrev pub decreases-loop-runner : goal.decreases-loop-runner
decreases-loop-runner l = vec_len l.runners
