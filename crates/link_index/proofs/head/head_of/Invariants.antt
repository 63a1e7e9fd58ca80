use Rattle.std.proofs.Common.{◌≡◌}
use Rattle.fsa_types.specs.CaseTable.{upcased}
use Rattle.link_index.specs.Heads.{is_exact, units_packed}
use Rattle.link_index.proofs.head.head_of.Given as goal

-- the units before the place are packed
abbrev pub invariant-loop-place : goal.invariant-loop-place
invariant-loop-place l = record {
  packed : l.head ≡ units_packed (upcased l.upcase l.units) l.place;
  exact : l.exact ≡ is_exact (upcased l.upcase l.units) l.place;
}
