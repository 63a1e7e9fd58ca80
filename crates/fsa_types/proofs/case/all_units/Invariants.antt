use Rattle.std.proofs.Common.{ℕ, ◌≡◌, ◌<◌, vec_len, get_or}
use Rattle.fsa_types.proofs.case.all_units.Given as goal

abbrev pub invariant-loop-place : goal.invariant-loop-place
invariant-loop-place l = record {
  all : vec_len l.units ≡ l.place;
  each : (unit : ℕ) → unit < l.place → get_or l.units.items unit 0 ≡ unit;
}
