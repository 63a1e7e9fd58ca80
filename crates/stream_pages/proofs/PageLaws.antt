-- Laws of pages under rising numbers that are cut off.
use Rattle.std.proofs.Common.{◌≡◌, ℕ, zero, suc, ◌<◌, ◌≤◌, true, false, List, [], ◌∷◌, length, take, get_or, refl, sym, arith, inl, inr, None, eq-eqb}
use Rattle.std.specs.List.{All}
use Rattle.std.specs.Prelude.{◌==◌, nat_lt, if◌then◌else◌}
use Rattle.std.proofs.lemmas.Bool.{ne_eqb, cases_Bool, cases_eq, lt-ltb, ltb-true}
use Rattle.fsa_types.proofs.RowLemmas.{AreRising}
use Rattle.fsa_types.specs.Places.{IsAt, StandsAt}
use Rattle.fsa_types.specs.Rows.{row_of}
use Rattle.stream_pages.specs.Pages.{Splits}

abbrev pub Rows : Type 0
Rows = List (ℕ × List ℕ)

pub splits-at : (xs : Rows) (number i : ℕ) → AreRising xs → IsAt xs number i → Splits xs number i
splits-at xs number i rising at =
    let inside : i < length xs = at.within in
    record {
      within = omega arith;
      before = λ k d less. let less_number : (get_or xs k d).0 < (get_or xs i d).0 = rising k i d less inside in let here : (get_or xs i d).0 ≡ number = at.here d in omega arith;
      after = λ k d from within. elim (cases_eq i k) [
        | inl same ↦ (let here : (get_or xs i d).0 ≡ number = at.here d in rw (← same) (omega arith))
        | inr apart ↦ (let more : (get_or xs i d).0 < (get_or xs k d).0 = rising i k d (omega arith) within in let here : (get_or xs i d).0 ≡ number = at.here d in omega arith)
      ];
    }

pub splits-stands : (xs : Rows) (number i : ℕ) → StandsAt xs number i → Splits xs number i
splits-stands xs number i at = record {
  within = at.within;
  before = at.before;
  after = λ k d from within. let more : number < (get_or xs k d).0 = at.after k d from within in omega arith;
}

-- none has a number below all of theirs
row_of-above : (xs : Rows) (id : ℕ) → All (λ y. id < y.0) xs → row_of xs id ≡ None
row_of-above [] id above = refl
row_of-above (x ∷ xs) id above =
    let here : id < x.0 = above 0 x (omega arith) in
    let other : (x.0 == id) ≡ false = ne_eqb x.0 id (λ e. absurd (omega arith)) in
    rw other (row_of-above xs id (λ k d within. above (suc k) d (omega arith)))

pub row_of-cut : (xs : Rows) (number i other : ℕ) → Splits xs number i → row_of (take i xs) other ≡ (if nat_lt other number then row_of xs other else None)
row_of-cut xs number zero other at = elim (cases_Bool (nat_lt other number)) [
  | inl less ↦ rw less (sym (row_of-above xs other (λ k d within. let more : number ≤ (get_or xs k d).0 = at.after k d (omega arith) within in let low : other < number = ltb-true other number less in omega arith)))
  | inr more ↦ rw more refl
]
row_of-cut [] number (suc i) other at = elim (cases_Bool (nat_lt other number)) [ inl less ↦ rw less refl | inr more ↦ rw more refl ]
row_of-cut (x ∷ xs) number (suc i) other at =
    let rest : Splits xs number i = record {
      within = let w = at.within in omega arith;
      before = λ k d less. at.before (suc k) d (omega arith);
      after = λ k d from inside. at.after (suc k) d (omega arith) (omega arith);
    } in
    let low : x.0 < number = at.before 0 x (omega arith) in
    elim (cases_eq x.0 other) [
      | inl same ↦ (let here : (x.0 == other) ≡ true = eq-eqb x.0 other same in let less : nat_lt other number ≡ true = lt-ltb other number (omega arith) in rw (here, less) refl)
      | inr apart ↦ (let there : (x.0 == other) ≡ false = ne_eqb x.0 other apart in rw there (row_of-cut xs number i other rest))
    ]
