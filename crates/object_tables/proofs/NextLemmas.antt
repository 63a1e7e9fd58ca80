-- Among rows whose numbers rise the first number above another is the least.
use Rattle.std.proofs.Common.{◌≡◌, ℕ, zero, suc, ◌<◌, ◌≤◌, ◌-◌, true, List, Option, [], ◌∷◌, length, get_or, refl, ap, sym, ◌∙◌, arith, inl, inr, Some, None, eq-eqb}
use Rattle.std.specs.Prelude.{find, map, nat_lt, slice_get, ◌==◌}
use Rattle.std.specs.List.{All, position_or_len}
use Rattle.std.specs.List.Sorted.{IsNonDecreasingBy, IsPartitionPoint}
use Rattle.std.proofs.lemmas.Bool.{cases_Bool, cases_lt, eqb-true, false≢true, le-ltb, lt-ltb, ltb-true, ltb-false, or_right}
use Rattle.std.proofs.lemmas.List.Folds.{find_at}
use Rattle.std.proofs.lemmas.List.Sums.{position_or_len_is}
use Rattle.fsa_types.specs.Rows.{lives}
use Rattle.fsa_types.proofs.RowLemmas.{AreRising, AreRising-first, AreRising-rest, lives-map}
use Rattle.object_tables.specs.Next.{IsNext, next_number_after}

-- the first row above a number stands where those up to it end
next-some : {T : Type 0} (xs : List (ℕ × T)) (i after : ℕ) (some : ℕ × T) → i ≤ length xs → IsPartitionPoint (λ e. e.0 ≤ after) (λ e. after < e.0) xs i → slice_get xs i ≡ find (λ e. nat_lt after e.0) xs
next-some {T} xs i after some bound point =
    let place : position_or_len (λ (e : ℕ × T). nat_lt after e.0) xs ≡ i = position_or_len_is (λ (e : ℕ × T). nat_lt after e.0) xs i some bound
    (λ k below. le-ltb after (get_or xs k some).0 (point.0 k some (omega arith) below))
    (λ within. lt-ltb after (get_or xs i some).0 (point.1 i some (omega arith) within)) in
    ap (slice_get xs) (sym place) ∙ sym (find_at (λ (e : ℕ × T). nat_lt after e.0) xs)

pub next-here : {T : Type 0} (xs : List (ℕ × T)) (i after : ℕ) → i ≤ length xs → IsPartitionPoint (λ e. e.0 ≤ after) (λ e. after < e.0) xs i → slice_get xs i ≡ find (λ e. nat_lt after e.0) xs
next-here [] zero after bound point = refl
next-here [] (suc i) after bound point = absurd (omega arith)
next-here (x ∷ xs) i after bound point = next-some (x ∷ xs) i after x bound point

pub rising-steps : {T : Type 0} (xs : List (ℕ × T)) → AreRising xs → IsNonDecreasingBy (λ e. e.0) xs
rising-steps xs rising i j d le within = elim (cases_lt i j) [
  | inl less ↦ (let step = rising i j d less within in omega arith)
  | inr not_less ↦ (let same : i ≡ j = omega arith in rw same (omega arith))
]

-- rows up to a number end where the one before is up to it and the one there is above
pub end-here : {T : Type 0} (xs : List (ℕ × T)) (i after : ℕ) → AreRising xs → (0 < i → (d : ℕ × T) → (get_or xs (i - 1) d).0 ≤ after) → (i < length xs → (d : ℕ × T) → after < (get_or xs i d).0)
    → i ≤ length xs → IsPartitionPoint (λ e. e.0 ≤ after) (λ e. after < e.0) xs i
end-here xs i after rising low high bound = (
  (λ k d from below.
      let step : (get_or xs k d).0 ≤ (get_or xs (i - 1) d).0 = rising-steps xs rising k (i - 1) d (omega arith) (omega arith) in
      let least : (get_or xs (i - 1) d).0 ≤ after = low (omega arith) d in
      omega arith),
  (λ k d from within.
      let step : (get_or xs i d).0 ≤ (get_or xs k d).0 = rising-steps xs rising i k d from within in
      let most : after < (get_or xs i d).0 = high (omega arith) d in
      omega arith),
)

-- a row that lives among rows above a number is above it
lives-above : {T : Type 0} (xs : List (ℕ × T)) (least other : ℕ) → All (λ y. least < y.0) xs → lives xs other ≡ true → least < other
lives-above [] least other above living = absurd (false≢true living)
lives-above (x ∷ xs) least other above living = elim (cases_Bool (x.0 == other)) [
  | inl here ↦ (let same = eqb-true x.0 other here in let more : least < x.0 = above 0 x (omega arith) in omega arith)
  | inr on ↦ lives-above xs least other (λ k d within. above (suc k) d (omega arith)) (rw on at living)
]

one-more : {T : Type 0} (x : ℕ × T) (xs : List (ℕ × T)) (after : ℕ) (next : Option ℕ) → x.0 ≤ after → IsNext xs after next → IsNext (x ∷ xs) after next
one-more x xs after None below is = record {
  live = tt;
  above = tt;
  least = tt;
  none = λ other living. elim (cases_Bool (x.0 == other)) [
    | inl here ↦ (let same = eqb-true x.0 other here in omega arith)
    | inr on ↦ is.none other (rw on at living)
  ];
}
one-more x xs after (Some id) below is = record {
  live = or_right (x.0 == id) (lives xs id) is.live;
  above = is.above;
  least = λ other living more. elim (cases_Bool (x.0 == other)) [
    | inl here ↦ (let same = eqb-true x.0 other here in absurd (omega arith))
    | inr on ↦ is.least other (rw on at living) more
  ];
  none = tt;
}

pub next-least : {T : Type 0} (rows : List (ℕ × T)) (after : ℕ) → AreRising rows → IsNext rows after (next_number_after rows after)
next-least [] after rising = record { live = tt; above = tt; least = tt; none = λ other living. absurd (false≢true living) }
next-least (x ∷ rows) after rising = elim (cases_Bool (nat_lt after x.0)) [
  | inl more ↦ rw more (record {
    live = (let same : (x.0 == x.0) ≡ true = eq-eqb x.0 x.0 refl in rw same refl);
    above = ltb-true after x.0 more;
    least = λ other living above. elim (cases_Bool (x.0 == other)) [
      | inl here ↦ (let same = eqb-true x.0 other here in omega arith)
      | inr on ↦ (let later = lives-above rows x.0 other (AreRising-first x rows rising) (rw on at living) in omega arith)
    ];
    none = tt;
  })
  | inr less ↦ rw less (one-more x rows after (next_number_after rows after) (ltb-false after x.0 less) (next-least rows after (AreRising-rest x rows rising)))
]

-- rows as they are seen have the same numbers
pub next-seen : {R S : Type 0} (view : R → S) (rows : List (ℕ × R)) (after : ℕ) (next : Option ℕ) → IsNext rows after next → IsNext {R = S} (map (λ e. (e.0, view e.1)) rows) after next
next-seen view rows after None is = record {
  live = tt;
  above = tt;
  least = tt;
  none = λ other living. is.none other (sym (lives-map view rows other) ∙ living);
}
next-seen view rows after (Some id) is = record {
  live = lives-map view rows id ∙ is.live;
  above = is.above;
  least = λ other living more. is.least other (sym (lives-map view rows other) ∙ living) more;
  none = tt;
}
