use Rattle.std.proofs.Common.{◌≡◌, ◌==◌, ◌++◌, drop, filter}
use Rattle.client_race.proofs.calls.own_lines.Given as goal

abbrev pub invariant-loop-call : goal.invariant-loop-call
invariant-loop-call l = l.own.items ++ filter (λ call. call.client == l.client) (drop l.call-index l.lines) ≡ filter (λ call. call.client == l.client) l.lines
