-- Laws of rows under rising numbers that are looked for by halves: where a number is found, and what is found once a row is
-- set or put in.
use Rattle.std.proofs.Common.{◌≡◌, ℕ, Bool, zero, suc, ◌<◌, ◌≤◌, true, false, List, [], ◌∷◌, length, get_or, refl, ap, sym, arith, inl, inr, Some, None, Ok, Err, Result, eq-eqb, ◌∙◌, get_or-set_same}
use Rattle.std.specs.List.{All, insert}
use Rattle.std.specs.List.Sorted.{IsBinarySearchResult, IsNonDecreasingBy, IsSearchInRange}
use Rattle.std.specs.Ordering.{nat_cmp, ordering_index}
use Rattle.std.specs.Prelude.{◌==◌, if◌then◌else◌, IfOk, IfErr}
use Rattle.std.proofs.Math.ListN.{set, length-set}
use Rattle.std.proofs.lemmas.Bool.{ne_eqb, cases_Bool}
use Rattle.std.proofs.lemmas.Bool.Decides.{nat_tests}
use Rattle.std.proofs.lemmas.Cmp.{ranked}
use Rattle.std.proofs.lemmas.List.Elements.{All-cons}
use Rattle.std.proofs.lemmas.List.Kept.{AllPairs-cons}
use Rattle.fsa_types.specs.Places.{IsAt, StandsAt}
use Rattle.fsa_types.specs.Rows.{row_of}
use Rattle.fsa_types.proofs.RowLemmas.{AreRising, AreRising-first, AreRising-rest, number-set, row_of-at}

-- ---- the place of a number

module _ {T : Type 0} (rows : List (ℕ × T)) (number : ℕ) (rising : AreRising rows) where
  -- the comparisons with a number rise along the rows
  comparisons_rise : IsNonDecreasingBy (λ e. ordering_index (nat_cmp e.0 number)) rows
  comparisons_rise i j d le within = grind (arith, nat_tests, rising i j d, λ (same : i ≡ j). ap (λ k. (get_or rows k d).0) same)

  pub there-searched : (r : Result ℕ ℕ) → IsSearchInRange r (length rows) → IsBinarySearchResult (λ e. nat_cmp e.0 number) rows r → IfOk r (λ place. IsAt rows number place)
  there-searched (Ok i) within equal = record { within = within; here = λ d. ranked _ number _ (sym (equal d)) }
  there-searched (Err i) within parted = tt

  pub missing-searched : (r : Result ℕ ℕ) → IsSearchInRange r (length rows) → IsBinarySearchResult (λ e. nat_cmp e.0 number) rows r → IfErr r (λ place. StandsAt rows number place)
  missing-searched (Ok i) within equal = tt
  missing-searched (Err i) within parted =
      let parts = parted comparisons_rise in
      record {
        within = within;
        before = λ k d less. ranked _ number _ (sym (parts.0 k d (omega arith) less));
        after = λ k d from inside. ranked _ number _ (sym (parts.1 k d from inside));
      }

-- ---- a row set in its place

IsAt-rest : {T : Type 0} (x : ℕ × T) (xs : List (ℕ × T)) (number i : ℕ) → IsAt (x ∷ xs) number (suc i) → IsAt xs number i
IsAt-rest x xs number i at = record { within = let w = at.within in omega arith; here = λ d. at.here d }

pub row_of-set_other : {T : Type 0} (xs : List (ℕ × T)) (number i : ℕ) (row : T) (another : ℕ) → IsAt xs number i → (another == number) ≡ false → row_of (set xs i (number, row)) another ≡ row_of xs another
row_of-set_other [] number i row another at apart = let w = at.within in absurd (omega arith)
row_of-set_other (x ∷ xs) number zero row another at apart =
    let here : x.0 ≡ number = at.here x in
    let other : (number == another) ≡ false = ne_eqb number another (λ e. grind (arith, nat_tests, apart, e)) in
    rw (here, other) refl
row_of-set_other (x ∷ xs) number (suc i) row another at apart =
    elim (cases_Bool (x.0 == another)) [
      | inl same ↦ rw same refl
      | inr other ↦ rw other (row_of-set_other xs number i row another (IsAt-rest x xs number i at) apart)
    ]

pub AreRising-set : {T : Type 0} (xs : List (ℕ × T)) (number i : ℕ) (row : T) → AreRising xs → IsAt xs number i → AreRising (set xs i (number, row))
AreRising-set {T} xs number i row rising at =
    λ j k d below within. rw (number-set xs number i row at j d, number-set xs number i row at k d) (rising j k d below (omega (arith, length-set {A = ℕ × T})))

pub row_of-set_own : {T : Type 0} (xs : List (ℕ × T)) (number i : ℕ) (row : T) → AreRising xs → IsAt xs number i → row_of (set xs i (number, row)) number ≡ Some row
row_of-set_own {T} xs number i row rising at =
    let within : i < length xs = at.within in
    let here = get_or-set_same xs i (number, row) (number, row) within in
    row_of-at (set xs i (number, row)) i (number, row) number (AreRising-set xs number i row rising at) (omega (arith, length-set {A = ℕ × T})) (ap (λ (e : ℕ × T). e.0) here)
    ∙ ap (λ (e : ℕ × T). Some e.1) here

-- ---- a row put in

StandsAt-rest : {T : Type 0} (x : ℕ × T) (xs : List (ℕ × T)) (number i : ℕ) → StandsAt (x ∷ xs) number (suc i) → StandsAt xs number i
StandsAt-rest x xs number i at =
    record {
      within = let w = at.within in omega arith;
      before = λ k d less. at.before (suc k) d (omega arith);
      after = λ k d from inside. at.after (suc k) d (omega arith) (omega arith);
    }

-- what stands there isn't there yet
pub row_of-missing : {T : Type 0} (xs : List (ℕ × T)) (number i : ℕ) → StandsAt xs number i → row_of xs number ≡ None
row_of-missing [] number i at = refl
row_of-missing (x ∷ xs) number zero at =
    let above : number < x.0 = at.after 0 x (omega arith) (omega arith) in
    let other : (x.0 == number) ≡ false = ne_eqb x.0 number (λ e. absurd (omega arith)) in
    rw other (row_of-missing xs number 0 (record { within = omega arith; before = λ k d less. absurd (omega arith); after = λ k d from inside. at.after (suc k) d (omega arith) (omega arith) }))
row_of-missing (x ∷ xs) number (suc i) at =
    let below : x.0 < number = at.before 0 x (omega arith) in
    let other : (x.0 == number) ≡ false = ne_eqb x.0 number (λ e. absurd (omega arith)) in
    rw other (row_of-missing xs number i (StandsAt-rest x xs number i at))

pub row_of-insert_own : {T : Type 0} (xs : List (ℕ × T)) (number i : ℕ) (row : T) → StandsAt xs number i → row_of (insert xs i (number, row)) number ≡ Some row
row_of-insert_own xs number zero row at = let same : (number == number) ≡ true = eq-eqb number number refl in rw same refl
row_of-insert_own [] number (suc i) row at = let w = at.within in absurd (omega arith)
row_of-insert_own (x ∷ xs) number (suc i) row at =
    let below : x.0 < number = at.before 0 x (omega arith) in
    let other : (x.0 == number) ≡ false = ne_eqb x.0 number (λ e. absurd (omega arith)) in
    rw other (row_of-insert_own xs number i row (StandsAt-rest x xs number i at))

pub row_of-insert_other : {T : Type 0} (xs : List (ℕ × T)) (number i : ℕ) (row : T) (another : ℕ) → StandsAt xs number i → (another == number) ≡ false → row_of (insert xs i (number, row)) another ≡ row_of xs another
row_of-insert_other xs number zero row another at apart =
    let other : (number == another) ≡ false = ne_eqb number another (λ e. grind (arith, nat_tests, apart, e)) in
    rw other refl
row_of-insert_other [] number (suc i) row another at apart = let w = at.within in absurd (omega arith)
row_of-insert_other (x ∷ xs) number (suc i) row another at apart =
    elim (cases_Bool (x.0 == another)) [
      | inl same ↦ rw same refl
      | inr other ↦ rw other (row_of-insert_other xs number i row another (StandsAt-rest x xs number i at) apart)
    ]

All-insert : {T : Type 0} (P : ℕ × T → Type 0) (xs : List (ℕ × T)) (i : ℕ) (x : ℕ × T) → i ≤ length xs → P x → All P xs → All P (insert xs i x)
All-insert P xs zero x within here all = All-cons P x xs here all
All-insert P [] (suc i) x within here all = absurd (omega arith)
All-insert P (y ∷ ys) (suc i) x within here all =
    All-cons P y (insert ys i x) (all 0 y (omega arith)) (All-insert P ys i x (omega arith) here (λ k d w. all (suc k) d (omega arith)))

pub AreRising-insert : {T : Type 0} (xs : List (ℕ × T)) (number i : ℕ) (row : T) → AreRising xs → StandsAt xs number i → AreRising (insert xs i (number, row))
AreRising-insert xs number zero row rising at = AllPairs-cons (λ a b. a.0 < b.0) (number, row) xs (λ k d w. at.after k d (omega arith) w) rising
AreRising-insert [] number (suc i) row rising at = let w = at.within in absurd (omega arith)
AreRising-insert (x ∷ xs) number (suc i) row rising at =
    let rest = StandsAt-rest x xs number i at in
    AllPairs-cons (λ a b. a.0 < b.0) x (insert xs i (number, row))
    (All-insert (λ y. x.0 < y.0) xs i (number, row) rest.within (at.before 0 x (omega arith)) (AreRising-first x xs rising))
    (AreRising-insert xs number i row (AreRising-rest x xs rising) rest)

-- ---- .. or not, where there was no memory

pub AreRising-inserted : {T : Type 0} (done : Bool) (xs : List (ℕ × T)) (number i : ℕ) (row : T) → AreRising xs → StandsAt xs number i → AreRising (if done then insert xs i (number, row) else xs)
AreRising-inserted true xs number i row rising at = AreRising-insert xs number i row rising at
AreRising-inserted false xs number i row rising at = rising

pub row_of-inserted_other : {T : Type 0} (done : Bool) (xs : List (ℕ × T)) (number i : ℕ) (row : T) (another : ℕ) → StandsAt xs number i → (another == number) ≡ false
    → row_of (if done then insert xs i (number, row) else xs) another ≡ row_of xs another
row_of-inserted_other true xs number i row another at apart = row_of-insert_other xs number i row another at apart
row_of-inserted_other false xs number i row another at apart = refl
