-- The least of some numbers is the first in order.
use Rattle.std.proofs.Common.{◌≡◌, ℕ, ◌<◌, List, [], ◌∷◌, refl, ap, ◌∙◌, arith, inl, inr, Some}
use Rattle.std.specs.Prelude.{map, nat_lt, option_map, slice_get}
use Rattle.std.proofs.lemmas.Bool.{cases_Bool, ltb-true, ltb-false}
use Rattle.fsa_types.specs.Sorting.{put_in_order, in_order}
use Rattle.pending_queue.specs.Lists.{least, least_of, sorted}

-- what stands first in order is the least
put-first : {X : Type 0} (row : ℕ × X) (rows : List (ℕ × X))
    → option_map (λ e. e.0) (slice_get (put_in_order (λ a b. nat_lt a.0 b.0) row rows) 0) ≡ Some (least_of (option_map (λ e. e.0) (slice_get rows 0)) row.0)
put-first row [] = refl
put-first row (first ∷ rows) =
    elim (cases_Bool (nat_lt row.0 first.0)) [
      | inl less ↦ (let below : row.0 < first.0 = ltb-true row.0 first.0 less in rw less (ap Some (omega arith)))
      | inr no_less ↦ (let above = ltb-false row.0 first.0 no_less in rw no_less (ap Some (omega arith)))
    ]

pub in_order-first : {X : Type 0} (rows : List (ℕ × X)) → option_map (λ e. e.0) (slice_get (in_order (λ a b. nat_lt a.0 b.0) rows) 0) ≡ least (map (λ e. e.0) rows)
in_order-first [] = refl
in_order-first (row ∷ rows) = put-first row (in_order (λ a b. nat_lt a.0 b.0) rows) ∙ ap (λ first. Some (least_of first row.0)) (in_order-first rows)

put-least : (number : ℕ) (numbers : List ℕ) → slice_get (put_in_order nat_lt number numbers) 0 ≡ Some (least_of (slice_get numbers 0) number)
put-least number [] = refl
put-least number (first ∷ numbers) = elim (cases_Bool (nat_lt number first)) [
  | inl less ↦ (let below : number < first = ltb-true number first less in rw less (ap Some (omega arith)))
  | inr above ↦ (let over = ltb-false number first above in rw above (ap Some (omega arith)))
]

pub sorted-first : (numbers : List ℕ) → slice_get (sorted numbers) 0 ≡ least numbers
sorted-first [] = refl
sorted-first (number ∷ numbers) = put-least number (sorted numbers) ∙ ap (λ first. Some (least_of first number)) (sorted-first numbers)
