use Rattle.std.proofs.Common.{◌≡◌, ℕ, ◌<◌, get_or}
use Rattle.fsa_types.specs.CaseTable.{up}
use Rattle.name_match.proofs.ends.upcase.Given as goal

abbrev pub invariant-loop-place : goal.invariant-loop-place
invariant-loop-place l = (k : ℕ) → k < l.place → get_or l.upcased k 0 ≡ up l.table (get_or l.units k 0)
