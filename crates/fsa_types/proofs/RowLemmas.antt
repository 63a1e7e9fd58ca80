-- Laws of rows under rising numbers: what is at the place of a number.
use Rattle.std.proofs.Common.{◌≡◌, ℕ, zero, suc, ◌+◌, ◌<◌, ◌≤◌, Bool, true, false, not, List, [], ◌∷◌, length, get_or, refl, ap, sym, arith, inl, inr, ◌⊎◌, Option, Some, None, eq-eqb, get_or-set_same, get_or-set_other}
use Rattle.std.specs.List.{filter, remove, All, AllPairs, position, position_or_len, items_where_true}
use Rattle.std.specs.Option.{option_map_or}
use Rattle.std.specs.Prelude.{◌==◌, ◌||◌, map, option_map}
use Rattle.std.proofs.lemmas.Bool.{ne_eqb, cases_Bool, cases_eq, cases_lt, lt-ltb}
use Rattle.std.proofs.lemmas.List.Sums.{prefix_len-le-length, fails_before_first}
use Rattle.std.proofs.lemmas.List.Quantifiers.{position-Some}
use Rattle.std.proofs.lemmas.Bool.{eqb-true}
use Rattle.std.proofs.Math.ListN.{set}
use Rattle.std.proofs.lemmas.List.Kept.{AllPairs-filter, AllPairs-cons}
use Rattle.std.proofs.lemmas.List.Elements.{All-filter}
use Rattle.fsa_types.specs.Places.{IsAt}
use Rattle.fsa_types.specs.Rows.{IsNumbered}
use Rattle.fsa_types.specs.Rows.{row_of, lives, without_row, with_row_changed}

-- the numbers rise
abbrev pub AreRising : {T : Type 0} → List (ℕ × T) → Type 0
AreRising rows = AllPairs (λ a b. a.0 < b.0) rows

pub AreRising-rest : {T : Type 0} (x : ℕ × T) (xs : List (ℕ × T)) → AreRising (x ∷ xs) → AreRising xs
AreRising-rest x xs rising i j d below within = rising (suc i) (suc j) d (omega arith) (omega arith)

pub AreRising-first : {T : Type 0} (x : ℕ × T) (xs : List (ℕ × T)) → AreRising (x ∷ xs) → All (λ y. x.0 < y.0) xs
AreRising-first x xs rising k d within = rising 0 (suc k) d (omega arith) (omega arith)

-- no row has a number below all of theirs
pub without_row-above : {T : Type 0} (xs : List (ℕ × T)) (id : ℕ) → All (λ y. id < y.0) xs → without_row xs id ≡ xs
without_row-above [] id above = refl
without_row-above (x ∷ xs) id above =
    let here : id < x.0 = above 0 x (omega arith) in
    let other : (x.0 == id) ≡ false = ne_eqb x.0 id (λ e. absurd (omega arith)) in
    rw other (ap (λ rest. x ∷ rest) (without_row-above xs id (λ k d within. above (suc k) d (omega arith))))

pub with_row_changed-above : {T : Type 0} (change : T → T) (xs : List (ℕ × T)) (id : ℕ) → All (λ y. id < y.0) xs → with_row_changed change xs id ≡ xs
with_row_changed-above change [] id above = refl
with_row_changed-above change (x ∷ xs) id above =
    let here : id < x.0 = above 0 x (omega arith) in
    let other : (x.0 == id) ≡ false = ne_eqb x.0 id (λ e. absurd (omega arith)) in
    rw other (ap (λ rest. x ∷ rest) (with_row_changed-above change xs id (λ k d within. above (suc k) d (omega arith))))

-- the row at the place of its number is that number's
pub row_of-at : {T : Type 0} (xs : List (ℕ × T)) (i : ℕ) (d : ℕ × T) (id : ℕ) → AreRising xs → i < length xs → (get_or xs i d).0 ≡ id
    → row_of xs id ≡ Some (get_or xs i d).1
row_of-at [] i d id rising within here = absurd (omega arith)
row_of-at (x ∷ xs) zero d id rising within here = let same : (x.0 == id) ≡ true = eq-eqb x.0 id here in rw same refl
row_of-at (x ∷ xs) (suc i) d id rising within here =
    let below : x.0 < (get_or xs i d).0 = AreRising-first x xs rising i d (omega arith) in
    let other : (x.0 == id) ≡ false = ne_eqb x.0 id (λ e. absurd (omega arith)) in
    rw other (row_of-at xs i d id (AreRising-rest x xs rising) (omega arith) here)

-- to take it out is to leave that place out
pub remove-at : {T : Type 0} (xs : List (ℕ × T)) (i : ℕ) (d : ℕ × T) (id : ℕ) → AreRising xs → i < length xs → (get_or xs i d).0 ≡ id
    → remove xs i ≡ without_row xs id
remove-at [] i d id rising within here = absurd (omega arith)
remove-at (x ∷ xs) zero d id rising within here =
    let same : (x.0 == id) ≡ true = eq-eqb x.0 id here in
    let above : All (λ y. id < y.0) xs = λ k e w. let b : x.0 < (get_or xs k e).0 = AreRising-first x xs rising k e w in omega arith in
    rw same (sym (without_row-above xs id above))
remove-at (x ∷ xs) (suc i) d id rising within here =
    let below : x.0 < (get_or xs i d).0 = AreRising-first x xs rising i d (omega arith) in
    let other : (x.0 == id) ≡ false = ne_eqb x.0 id (λ e. absurd (omega arith)) in
    rw other (ap (λ rest. x ∷ rest) (remove-at xs i d id (AreRising-rest x xs rising) (omega arith) here))

-- to change it is to change that place
pub set-at : {T : Type 0} (xs : List (ℕ × T)) (i : ℕ) (d : ℕ × T) (id : ℕ) (change : T → T) → AreRising xs → i < length xs → (get_or xs i d).0 ≡ id
    → set xs i (id, change (get_or xs i d).1) ≡ with_row_changed change xs id
set-at [] i d id change rising within here = absurd (omega arith)
set-at (x ∷ xs) zero d id change rising within here =
    let same : (x.0 == id) ≡ true = eq-eqb x.0 id here in
    let above : All (λ y. id < y.0) xs = λ k e w. let b : x.0 < (get_or xs k e).0 = AreRising-first x xs rising k e w in omega arith in
    rw same (rw (with_row_changed-above change xs id above) (ap (λ n. (n, change x.1) ∷ xs) (sym here)))
set-at (x ∷ xs) (suc i) d id change rising within here =
    let below : x.0 < (get_or xs i d).0 = AreRising-first x xs rising i d (omega arith) in
    let other : (x.0 == id) ≡ false = ne_eqb x.0 id (λ e. absurd (omega arith)) in
    rw other (ap (λ rest. x ∷ rest) (set-at xs i d id change (AreRising-rest x xs rising) (omega arith) here))

-- where no place has the number, each row has another
pub fails-none : {T : Type 0} (xs : List (ℕ × T)) (id : ℕ) → position (λ e. e.0 == id) xs ≡ None → All (λ e. (e.0 == id) ≡ false) xs
fails-none xs id none k d within =
    let bound : position_or_len (λ e. e.0 == id) xs ≤ length xs = prefix_len-le-length (λ e. not (e.0 == id)) xs in
    elim (cases_lt (position_or_len (λ e. e.0 == id) xs) (length xs)) [
      | inl less ↦ (let test = lt-ltb _ _ less in let other : Some (position_or_len (λ e. e.0 == id) xs) ≡ None = rw test at none in cc)
      | inr not_less ↦ fails_before_first (λ e. e.0 == id) xs k d (omega arith)
    ]

row_of-fails : {T : Type 0} (xs : List (ℕ × T)) (id : ℕ) → All (λ e. (e.0 == id) ≡ false) xs → row_of xs id ≡ None
row_of-fails [] id fails = refl
row_of-fails (x ∷ xs) id fails =
    let other : (x.0 == id) ≡ false = fails 0 x (omega arith) in
    rw other (row_of-fails xs id (λ k d within. fails (suc k) d (omega arith)))

without_row-fails : {T : Type 0} (xs : List (ℕ × T)) (id : ℕ) → All (λ e. (e.0 == id) ≡ false) xs → without_row xs id ≡ xs
without_row-fails [] id fails = refl
without_row-fails (x ∷ xs) id fails =
    let other : (x.0 == id) ≡ false = fails 0 x (omega arith) in
    rw other (ap (λ rest. x ∷ rest) (without_row-fails xs id (λ k d within. fails (suc k) d (omega arith))))

-- then there is no row, and nothing to take out
pub row_of-none : {T : Type 0} (xs : List (ℕ × T)) (id : ℕ) → position (λ e. e.0 == id) xs ≡ None → row_of xs id ≡ None
row_of-none xs id none = row_of-fails xs id (fails-none xs id none)

pub without_row-none : {T : Type 0} (xs : List (ℕ × T)) (id : ℕ) → position (λ e. e.0 == id) xs ≡ None → without_row xs id ≡ xs
without_row-none xs id none = without_row-fails xs id (fails-none xs id none)

pub IsAt-position : {T : Type 0} (xs : List (ℕ × T)) (id i : ℕ) (some : ℕ × T) → position (λ e. e.0 == id) xs ≡ Some i → IsAt xs id i
IsAt-position xs id i some found =
    record {
      within = (position-Some (λ e. e.0 == id) xs i some found).0;
      here = λ d. eqb-true _ _ (position-Some (λ e. e.0 == id) xs i d found).1;
    }

-- a table without the row at a place is a table
pub IsNumbered-remove : {T : Type 0} (xs : List (ℕ × T)) (last id i : ℕ) (some : ℕ × T) → IsNumbered xs last → position (λ e. e.0 == id) xs ≡ Some i → IsNumbered (remove xs i) last
IsNumbered-remove xs last id i some table found =
    let at = IsAt-position xs id i some found in
    rw (remove-at xs i some id table.rising at.within (at.here some)) (record {
      rising = AllPairs-filter (λ a b. a.0 < b.0) (λ e. not (e.0 == id)) xs table.rising;
      given = All-filter (λ e. not (e.0 == id)) (λ e. e.0 ≤ last) xs table.given;
    })

-- another row at that place has the same number
pub number-set : {T : Type 0} (xs : List (ℕ × T)) (id i : ℕ) (row : T) → IsAt xs id i → (k : ℕ) (d : ℕ × T) → (get_or (set xs i (id, row)) k d).0 ≡ (get_or xs k d).0
number-set {T} xs id i row at k d =
    elim (cases_eq k i) [
      | inl same ↦ rw same (let within : i < length xs = at.within in rw (get_or-set_same xs i (id, row) d within) (sym (at.here d)))
      | inr other ↦ ap (λ (e : ℕ × T). e.0) (get_or-set_other {A = ℕ × T} xs i k (id, row) d other)
    ]

-- to change the row of a number is to put there what the change makes of it
pub with_row_changed-one : {T : Type 0} (xs : List (ℕ × T)) (id : ℕ) (row : T) (change : T → T) → AreRising xs → row_of xs id ≡ Some row
    → with_row_changed (λ _. change row) xs id ≡ with_row_changed change xs id
with_row_changed-one [] id row change rising found = refl
with_row_changed-one (x ∷ xs) id row change rising found =
    elim (cases_Bool (x.0 == id)) [
      | inl same ↦ (let is : Some x.1 ≡ Some row = rw same at found in
          let here : x.1 ≡ row = cc in
          let above : All (λ y. id < y.0) xs = λ k e w. let b : x.0 < (get_or xs k e).0 = AreRising-first x xs rising k e w in let n = eqb-true x.0 id same in omega arith in
          rw (same, with_row_changed-above (λ _. change row) xs id above, with_row_changed-above change xs id above, here) refl)
      | inr other ↦ rw other (ap (λ rest. x ∷ rest) (with_row_changed-one xs id row change (AreRising-rest x xs rising) (rw other at found)))
    ]

-- where there is no such row, nothing changes
pub with_row_changed-none : {T : Type 0} (xs : List (ℕ × T)) (id : ℕ) (change : T → T) → row_of xs id ≡ None → with_row_changed change xs id ≡ xs
with_row_changed-none [] id change none = refl
with_row_changed-none (x ∷ xs) id change none =
    elim (cases_Bool (x.0 == id)) [
      | inl same ↦ (let impossible : Some x.1 ≡ None = rw same at none in cc)
      | inr other ↦ rw other (ap (λ rest. x ∷ rest) (with_row_changed-none xs id change (rw other at none)))
    ]

option_cases : {X : Type 0} (o : Option X) → (o ≡ None) ⊎ ((x : X) × (o ≡ Some x))
option_cases None = inl refl
option_cases (Some x) = inr (x, refl)

-- both at once
pub changes_one : {T : Type 0} (xs : List (ℕ × T)) (id : ℕ) (change : T → T) → AreRising xs
    → option_map_or (λ row. with_row_changed (λ _. change row) xs id) (row_of xs id) xs ≡ with_row_changed change xs id
changes_one xs id change rising =
    elim (option_cases (row_of xs id)) [
      | inl none ↦ rw none (sym (with_row_changed-none xs id change none))
      | inr some ↦ rw some.1 (with_row_changed-one xs id some.0 change rising some.1)
    ]

-- what is true of all is true of those that are kept
pub All-where : {T : Type 0} (P : ℕ × T → Type 0) (bs : List Bool) (xs : List (ℕ × T)) → All P xs → All P (items_where_true bs xs)
All-where P [] xs all k d within = absurd (omega arith)
All-where P (b ∷ bs) [] all k d within = absurd (omega arith)
All-where P (true ∷ bs) (x ∷ xs) all zero d within = all zero d (omega arith)
All-where P (true ∷ bs) (x ∷ xs) all (suc k) d within = All-where P bs xs (λ j e w. all (suc j) e (omega arith)) k d (omega arith)
All-where P (false ∷ bs) (x ∷ xs) all k d within = All-where P bs xs (λ j e w. all (suc j) e (omega arith)) k d within

AreRising-where : {T : Type 0} (bs : List Bool) (xs : List (ℕ × T)) → AreRising xs → AreRising (items_where_true bs xs)
AreRising-where [] xs rising = λ i j d below within. absurd (omega arith)
AreRising-where (b ∷ bs) [] rising = λ i j d below within. absurd (omega arith)
AreRising-where (true ∷ bs) (x ∷ xs) rising =
    AllPairs-cons (λ a b. a.0 < b.0) x (items_where_true bs xs)
    (All-where (λ y. x.0 < y.0) bs xs (AreRising-first x xs rising)) (AreRising-where bs xs (AreRising-rest x xs rising))
AreRising-where (false ∷ bs) (x ∷ xs) rising = AreRising-where bs xs (AreRising-rest x xs rising)

-- so the numbers of those that are kept rise
pub IsNumbered-where : {T : Type 0} (bs : List Bool) (xs : List (ℕ × T)) (last : ℕ) → IsNumbered xs last → IsNumbered (items_where_true bs xs) last
IsNumbered-where bs xs last numbered = record {
  rising = AreRising-where bs xs numbered.rising;
  given = All-where (λ entry. entry.0 ≤ last) bs xs numbered.given;
}

-- rows seen by a view: what changes one row changes what is seen of it
pub map-change : {R S : Type 0} (view : R → S) (change : R → R) (seen_change : S → S) (rows : List (ℕ × R)) (id : ℕ)
    → ((row : R) → view (change row) ≡ seen_change (view row))
    → map (λ e. (e.0, view e.1)) (with_row_changed change rows id) ≡ with_row_changed seen_change (map (λ e. (e.0, view e.1)) rows) id
map-change view change seen_change [] id seen = refl
map-change view change seen_change (x ∷ xs) id seen =
    elim (cases_Bool (x.0 == id)) [
      | inl here ↦ rw (here, map-change view change seen_change xs id seen, seen x.1) refl
      | inr other ↦ rw (other, map-change view change seen_change xs id seen) refl
    ]

-- a change that is not seen
pub map-unseen : {R S : Type 0} (view : R → S) (change : R → R) (rows : List (ℕ × R)) (id : ℕ) → ((row : R) → view (change row) ≡ view row)
    → map {B = ℕ × S} (λ e. (e.0, view e.1)) (with_row_changed change rows id) ≡ map (λ e. (e.0, view e.1)) rows
map-unseen view change [] id same = refl
map-unseen view change (x ∷ xs) id same =
    elim (cases_Bool (x.0 == id)) [
      | inl here ↦ rw (here, map-unseen view change xs id same, same x.1) refl
      | inr other ↦ rw (other, map-unseen view change xs id same) refl
    ]

pub row_of-map : {R S : Type 0} (view : R → S) (rows : List (ℕ × R)) (id : ℕ) → row_of (map (λ e. (e.0, view e.1)) rows) id ≡ option_map view (row_of rows id)
row_of-map view [] id = refl
row_of-map view (x ∷ xs) id =
    elim (cases_Bool (x.0 == id)) [
      | inl here ↦ rw here refl
      | inr other ↦ rw other (row_of-map view xs id)
    ]

pub lives-map : {R S : Type 0} (view : R → S) (rows : List (ℕ × R)) (id : ℕ) → lives (map (λ e. (e.0, view e.1)) rows) id ≡ lives rows id
lives-map view [] id = refl
lives-map view (x ∷ xs) id = ap (λ rest. x.0 == id || rest) (lives-map view xs id)

-- a filter by what is seen
pub map-filter_seen : {R S : Type 0} (view : R → S) (keep : ℕ × S → Bool) (rows : List (ℕ × R))
    → map (λ e. (e.0, view e.1)) (filter (λ e. keep (e.0, view e.1)) rows) ≡ filter keep (map (λ e. (e.0, view e.1)) rows)
map-filter_seen view keep [] = refl
map-filter_seen view keep (x ∷ xs) =
    elim (cases_Bool (keep (x.0, view x.1))) [
      | inl kept ↦ rw kept (ap (λ rest. (x.0, view x.1) ∷ rest) (map-filter_seen view keep xs))
      | inr gone ↦ rw gone (map-filter_seen view keep xs)
    ]

-- there are no more rows than numbers, 0 among them
rising-from : {T : Type 0} (xs : List (ℕ × T)) (d : ℕ × T) (k : ℕ) → AreRising xs → k < length xs → k ≤ (get_or xs k d).0
rising-from xs d zero rising within = omega arith
rising-from xs d (suc k) rising within =
    let before = rising-from xs d k rising (omega arith) in
    let next : (get_or xs k d).0 < (get_or xs (suc k) d).0 = rising k (suc k) d (omega arith) within in
    omega arith

pub length-numbered : {T : Type 0} (xs : List (ℕ × T)) (last : ℕ) → IsNumbered xs last → length xs ≤ last + 1
length-numbered [] last numbered = omega arith
length-numbered {T} (x ∷ xs) last numbered =
    let k : ℕ = length xs in
    let most = rising-from (x ∷ xs) x k numbered.rising (omega arith) in
    let given : (get_or (x ∷ xs) k x).0 ≤ last = numbered.given k x (omega arith) in
    omega arith

pub length-filter_le : {X : Type 0} (p : X → Bool) (xs : List X) → length (filter p xs) ≤ length xs
length-filter_le p [] = omega arith
length-filter_le p (x ∷ xs) =
    let rest = length-filter_le p xs in
    elim (cases_Bool (p x)) [ inl kept ↦ rw kept (omega arith) | inr gone ↦ rw gone (omega arith) ]
