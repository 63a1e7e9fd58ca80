-- Whether handles are open, and how many are.
use Rattle.std.proofs.Common.{◌≡◌, suc, Bool, not, List, [], ◌∷◌, length, refl, arith, inl, inr}
use Rattle.std.specs.List.{filter, list_any}
use Rattle.std.specs.Prelude.{◌==◌}
use Rattle.std.proofs.lemmas.Bool.{cases_Bool, ne_eqb}

-- some item passes exactly where those that do are more than none
pub any-count : {T : Type 0} (test : T → Bool) (items : List T) → not (length (filter test items) == 0) ≡ list_any test items
any-count test [] = refl
any-count test (item ∷ items) = elim (cases_Bool (test item)) [
  | inl passes ↦ rw (passes, ne_eqb (suc (length (filter test items))) 0 (λ e. absurd (omega arith))) refl
  | inr fails ↦ rw fails (any-count test items)
]
