use Rattle.std.proofs.Common.{◌≡◌, ◌+◌, vec_len, vec_capacity}
use Rattle.client_race.specs.Lists.{Faces, Leads}
use Rattle.client_race.specs.Runners.{todo_of, IsFresh}
use Rattle.client_race.proofs.racing.paired.Given as goal

abbrev pub invariant-loop-pass : goal.invariant-loop-pass
invariant-loop-pass l = record {
  left : Leads l.passes.items l.fn.passes.items;
  others : Leads l.lines.items l.fn.lines.items;
  both : vec_len l.passes ≡ vec_len l.lines;
  count : vec_len l.passes + vec_len l.runners ≡ vec_len l.fn.passes;
  room : vec_capacity l.runners ≡ vec_capacity l.fn.runners;
  passes : Faces (λ pass runner. (runner.pass ≡ pass) × IsFresh runner) l.fn.passes.items l.runners.items;
  lines : Faces (λ line runner. todo_of runner ≡ line.items) l.fn.lines.items l.runners.items;
}

abbrev pub decreases-loop-pass : goal.decreases-loop-pass
decreases-loop-pass l = vec_len l.passes
