-- Entries in the order of keys: those of one key stand together, and stay so where one comes or goes.
use Rattle.std.proofs.Common.{◌≡◌, ℕ, zero, suc, ◌<◌, ◌≤◌, ◌+◌, ◌-◌, ◌++◌, true, false, Bool, cond, List, [], ◌∷◌, length, get_or, refl, ap, sym, ◌∙◌, arith, inl, inr, Option, Some, None, eq-eqb}
use Rattle.std.specs.Prelude.{take, drop, filter, find, insert, not, remove, position, option_map, slice_get, nat_lt, ◌==◌}
use Rattle.std.specs.List.{All, AllWithin, position_or_len}
use Rattle.std.proofs.lemmas.List.{append-nil, get_or-drop, get_or-take, length-drop, length-take-le}
use Rattle.fsa_types.specs.Ranges.{without_first}
use Rattle.std.specs.List.Sorted.{IsNonDecreasingBy, IsPartitionPoint}
use Rattle.std.proofs.lemmas.Bool.{cases_Bool, cases_lt, and_left, ne_eqb, lt-ltb, le-ltb, eqb-true}
use Rattle.std.proofs.lemmas.List.Elements.{filter-append}
use Rattle.std.proofs.lemmas.List.Folds.{find_at}
use Rattle.std.proofs.lemmas.List.Sums.{position_or_len_is}
use Rattle.std.proofs.lemmas.List.Quantifiers.{position-Some}
use Rattle.key_index.specs.Index.{entries_under, has_key, has_greater_key, is_entry, IsSameByKey}

-- ---- the first that passes, and its place

pub filter-none : {T : Type 0} (p : T → Bool) (xs : List T) → All (λ x. p x ≡ false) xs → filter p xs ≡ []
filter-none p [] fails = refl
filter-none p (x ∷ xs) fails =
    let here : p x ≡ false = fails 0 x (omega arith) in
    rw here (filter-none p xs (λ k d within. fails (suc k) d (omega arith)))

-- the place of the first among one more
pub position-passes : {T : Type 0} (p : T → Bool) (x : T) (xs : List T) → p x ≡ true → position p (x ∷ xs) ≡ Some 0
position-passes p x xs passes =
    let within : nat_lt 0 (length (x ∷ xs)) ≡ true = lt-ltb _ _ (omega arith) in
    rw (passes, within) refl

pub position-fails : {T : Type 0} (p : T → Bool) (x : T) (xs : List T) → p x ≡ false → position p (x ∷ xs) ≡ option_map suc (position p xs)
position-fails p x xs fails =
    let next : 1 + position_or_len p xs ≡ suc (position_or_len p xs) = omega arith in
    elim (cases_lt (position_or_len p xs) (length xs)) [
      | inl less ↦ (
          let there : nat_lt (position_or_len p xs) (length xs) ≡ true = lt-ltb _ _ less in
          let here : nat_lt (1 + position_or_len p xs) (length (x ∷ xs)) ≡ true = lt-ltb _ _ (omega arith) in
          rw (fails, there, here) (ap Some next))
      | inr past ↦ (
          let there : nat_lt (position_or_len p xs) (length xs) ≡ false = le-ltb _ _ past in
          let here : nat_lt (1 + position_or_len p xs) (length (x ∷ xs)) ≡ false = le-ltb _ _ (omega arith) in
          rw (fails, there, here) refl)
    ]

pub position-none : {T : Type 0} (p : T → Bool) (xs : List T) → All (λ x. p x ≡ false) xs → position p xs ≡ None
position-none p [] fails = refl
position-none p (x ∷ xs) fails = position-fails p x xs (fails 0 x (omega arith)) ∙ ap (option_map suc) (position-none p xs (λ k d within. fails (suc k) d (omega arith)))

-- none passes from this place on
pub position-front : {T : Type 0} (p : T → Bool) (xs : List T) (j : ℕ) → AllWithin (λ x. p x ≡ false) xs j (length xs) → position p (take j xs) ≡ position p xs
position-front p xs zero fails = sym (position-none p xs (λ k d within. fails k d (omega arith) within))
position-front p [] (suc j) fails = refl
position-front p (x ∷ xs) (suc j) fails =
    let rest = position-front p xs j (λ k d from within. fails (suc k) d (omega arith) (omega arith)) in
    elim (cases_Bool (p x)) [
      | inl passes ↦ position-passes p x (take j xs) passes ∙ sym (position-passes p x xs passes)
      | inr other ↦ position-fails p x (take j xs) other ∙ ap (option_map suc) rest ∙ sym (position-fails p x xs other)
    ]

-- none passes before this place
same-option : (o : Option ℕ) → option_map (λ n. 0 + n) o ≡ o
same-option None = refl
same-option (Some n) = ap Some (omega arith)

more-option : (i : ℕ) (o : Option ℕ) → option_map (λ n. suc i + n) o ≡ option_map suc (option_map (λ n. i + n) o)
more-option i None = refl
more-option i (Some n) = ap Some (omega arith)

pub position-back : {T : Type 0} (p : T → Bool) (xs : List T) (i : ℕ) → AllWithin (λ x. p x ≡ false) xs 0 i → option_map (λ n. i + n) (position p (drop i xs)) ≡ position p xs
position-back p xs zero fails = same-option (position p xs)
position-back p [] (suc i) fails = refl
position-back p (x ∷ xs) (suc i) fails =
    more-option i (position p (drop i xs))
    ∙ ap (option_map suc) (position-back p xs i (λ k d from below. fails (suc k) d (omega arith) (omega arith)))
    ∙ sym (position-fails p x xs (fails 0 x (omega arith) (omega arith)))

-- ---- where the entries of lower keys end, and those of keys up to one

-- lower keys end where the entry before has one and that there hasn't
pub begin-here : (xs : List (ℕ × ℕ)) (i key : ℕ) → IsNonDecreasingBy (λ e. e.0) xs → i ≤ length xs → (0 < i → (d : ℕ × ℕ) → (get_or xs (i - 1) d).0 < key) → (i < length xs → (d : ℕ × ℕ) → key ≤ (get_or xs i d).0)
    → IsPartitionPoint (λ e. e.0 < key) (λ e. key ≤ e.0) xs i
begin-here xs i key rising bound low high = (
  (λ k d from below.
      let step : (get_or xs k d).0 ≤ (get_or xs (i - 1) d).0 = rising k (i - 1) d (omega arith) (omega arith) in
      let least : (get_or xs (i - 1) d).0 < key = low (omega arith) d in
      omega arith),
  (λ k d from within.
      let step : (get_or xs i d).0 ≤ (get_or xs k d).0 = rising i k d from within in
      let most : key ≤ (get_or xs i d).0 = high (omega arith) d in
      omega arith),
)

-- keys up to one end where they do among the first ones, if none is behind these
pub end-near : (xs : List (ℕ × ℕ)) (n j key : ℕ) → IsNonDecreasingBy (λ e. e.0) xs → n ≤ length xs → j ≤ n → (n < length xs → (d : ℕ × ℕ) → key < (get_or xs n d).0)
    → IsPartitionPoint (λ e. e.0 ≤ key) (λ e. key < e.0) (take n xs) j → IsPartitionPoint (λ e. e.0 ≤ key) (λ e. key < e.0) xs j
end-near xs n j key rising bound within behind near = (
  (λ k d from below. let same = near.0 k d from below in rw (get_or-take n xs k d (omega arith)) at same),
  (λ k d from inside. elim (cases_lt k n) [
    | inl less ↦ (let same = near.1 k d from (omega (arith, length-take-le n xs bound)) in rw (get_or-take n xs k d less) at same)
    | inr more ↦ (
        let step : (get_or xs n d).0 ≤ (get_or xs k d).0 = rising n k d more inside in
        let past : key < (get_or xs n d).0 = behind (omega arith) d in
        omega arith)
  ]),
)

-- ---- the entries of a key

-- those that begin behind the lower keys, and end before the greater ones
pub part-here : (xs : List (ℕ × ℕ)) (i j key : ℕ) → IsPartitionPoint (λ e. e.0 < key) (λ e. key ≤ e.0) xs i → IsPartitionPoint (λ e. e.0 ≤ key) (λ e. key < e.0) (drop i xs) j
    → take j (drop i xs) ≡ entries_under xs key
part-here [] zero zero key low high = refl
part-here [] zero (suc j) key low high = refl
part-here [] (suc i) zero key low high = refl
part-here [] (suc i) (suc j) key low high = refl
part-here (x ∷ xs) zero zero key low high = sym (filter-none (has_key key) (x ∷ xs) (λ k d within. ne_eqb _ key (λ e. absurd (omega (arith, e, high.1 k d (omega arith) within)))))
part-here (x ∷ xs) zero (suc j) key low high =
    let below : x.0 ≤ key = high.0 0 x (omega arith) (omega arith) in
    let above : key ≤ x.0 = low.1 0 x (omega arith) (omega arith) in
    let here : (x.0 == key) ≡ true = eq-eqb x.0 key (omega arith) in
    rw here (ap (λ (rest : List (ℕ × ℕ)). x ∷ rest) (part-here xs zero j key
    (λ k d from within. absurd (omega arith), λ k d from within. low.1 (suc k) d (omega arith) (omega arith))
    (λ k d from within. high.0 (suc k) d (omega arith) (omega arith), λ k d from within. high.1 (suc k) d (omega arith) (omega arith))))
part-here (x ∷ xs) (suc i) j key low high =
    let below : x.0 < key = low.0 0 x (omega arith) (omega arith) in
    let other : (x.0 == key) ≡ false = ne_eqb x.0 key (λ e. absurd (omega arith)) in
    rw other (part-here xs i j key (λ k d from within. low.0 (suc k) d (omega arith) (omega arith), λ k d from within. low.1 (suc k) d (omega arith) (omega arith)) high)

-- an entry's place is that in its key's part
pub place-here : (xs : List (ℕ × ℕ)) (i j key number : ℕ) → IsPartitionPoint (λ e. e.0 < key) (λ e. key ≤ e.0) xs i → IsPartitionPoint (λ e. e.0 ≤ key) (λ e. key < e.0) (drop i xs) j
    → option_map (λ n. i + n) (position (is_entry key number) (take j (drop i xs))) ≡ position (is_entry key number) xs
place-here xs i j key number low high =
    ap (option_map (λ n. i + n)) (position-front (is_entry key number) (drop i xs) j (λ k d from within. above (get_or (drop i xs) k d) (high.1 k d from within)))
    ∙ position-back (is_entry key number) xs i (λ k d from below. under (get_or xs k d) (low.0 k d from below))
  where
    above : (e : ℕ × ℕ) → key < e.0 → is_entry key number e ≡ false
    above e more = and_left (e.0 == key) (e.1 == number) (ne_eqb e.0 key (λ same. absurd (omega (arith, same))))

    under : (e : ℕ × ℕ) → e.0 < key → is_entry key number e ≡ false
    under e less = and_left (e.0 == key) (e.1 == number) (ne_eqb e.0 key (λ same. absurd (omega (arith, same))))

-- the entries up to a key end where its part ends
pub end-here : (xs : List (ℕ × ℕ)) (i j key : ℕ) → IsPartitionPoint (λ e. e.0 < key) (λ e. key ≤ e.0) xs i → IsPartitionPoint (λ e. e.0 ≤ key) (λ e. key < e.0) (drop i xs) j
    → IsPartitionPoint (λ e. e.0 ≤ key) (λ e. key < e.0) xs (i + j)
end-here xs i j key low high = (
  (λ k d from below. elim (cases_lt k i) [
    | inl less ↦ (let under : (get_or xs k d).0 < key = low.0 k d (omega arith) less in omega arith)
    | inr more ↦ (let upto : (get_or (drop i xs) (k - i) d).0 ≤ key = high.0 (k - i) d (omega arith) (omega arith) in rw (moved k d more) at upto)
  ]),
  (λ k d from within.
      let above : key < (get_or (drop i xs) (k - i) d).0 = high.1 (k - i) d (omega arith) (omega (arith, length-drop i xs)) in
      rw (moved k d (omega arith)) at above),
)
  where
    moved : (k : ℕ) (d : ℕ × ℕ) → i ≤ k → get_or (drop i xs) (k - i) d ≡ get_or xs k d
    moved k d more = let back : i + (k - i) ≡ k = omega arith in get_or-drop i xs (k - i) d ∙ ap (λ n. get_or xs n d) back

-- what stands before the part of a key and behind it are those of other keys
filter-others : (key : ℕ) (xs : List (ℕ × ℕ)) → All (λ e. (e.0 == key) ≡ false) xs → filter (λ e. not (has_key key e)) xs ≡ xs
filter-others key [] other = refl
filter-others key (x ∷ xs) other =
    let here : (x.0 == key) ≡ false = other 0 x (omega arith) in
    rw here (ap (λ (rest : List (ℕ × ℕ)). x ∷ rest) (filter-others key xs (λ k d within. other (suc k) d (omega arith))))

pub part-others : (xs : List (ℕ × ℕ)) (i j key : ℕ) → IsPartitionPoint (λ e. e.0 < key) (λ e. key ≤ e.0) xs i → IsPartitionPoint (λ e. e.0 ≤ key) (λ e. key < e.0) (drop i xs) j
    → take i xs ++ drop j (drop i xs) ≡ filter (λ e. not (has_key key e)) xs
part-others [] zero zero key low high = refl
part-others [] zero (suc j) key low high = refl
part-others [] (suc i) zero key low high = refl
part-others [] (suc i) (suc j) key low high = refl
part-others (x ∷ xs) zero zero key low high = sym (filter-others key (x ∷ xs) (λ k d within. ne_eqb _ key (λ e. absurd (omega (arith, e, high.1 k d (omega arith) within)))))
part-others (x ∷ xs) zero (suc j) key low high =
    let below : x.0 ≤ key = high.0 0 x (omega arith) (omega arith) in
    let above : key ≤ x.0 = low.1 0 x (omega arith) (omega arith) in
    let here : (x.0 == key) ≡ true = eq-eqb x.0 key (omega arith) in
    rw here (part-others xs zero j key
    (λ k d from within. absurd (omega arith), λ k d from within. low.1 (suc k) d (omega arith) (omega arith))
    (λ k d from within. high.0 (suc k) d (omega arith) (omega arith), λ k d from within. high.1 (suc k) d (omega arith) (omega arith)))
part-others (x ∷ xs) (suc i) j key low high =
    let below : x.0 < key = low.0 0 x (omega arith) (omega arith) in
    let other : (x.0 == key) ≡ false = ne_eqb x.0 key (λ e. absurd (omega arith)) in
    rw other (ap (λ (rest : List (ℕ × ℕ)). x ∷ rest)
    (part-others xs i j key (λ k d from within. low.0 (suc k) d (omega arith) (omega arith), λ k d from within. low.1 (suc k) d (omega arith) (omega arith)) high))

-- the first of a key stands where the lower ones end, if there is one
pub first-here : (xs : List (ℕ × ℕ)) (i key : ℕ) (e : ℕ × ℕ) → IsPartitionPoint (λ e. e.0 < key) (λ e. key ≤ e.0) xs i → slice_get xs i ≡ Some e → e.0 ≡ key → slice_get (entries_under xs key) 0 ≡ Some e
first-here [] zero key e low there is = cc
first-here [] (suc i) key e low there is = cc
first-here (x ∷ xs) zero key e low there is =
    let same : x ≡ e = cc in
    let here : (x.0 == key) ≡ true = eq-eqb x.0 key (ap (λ (y : ℕ × ℕ). y.0) same ∙ is) in
    rw here there
first-here (x ∷ xs) (suc i) key e low there is =
    let below : x.0 < key = low.0 0 x (omega arith) (omega arith) in
    let other : (x.0 == key) ≡ false = ne_eqb x.0 key (λ e. absurd (omega arith)) in
    rw other (first-here xs i key e (λ k d from within. low.0 (suc k) d (omega arith) (omega arith), λ k d from within. low.1 (suc k) d (omega arith) (omega arith)) there is)

pub first-past : (xs : List (ℕ × ℕ)) (i key : ℕ) → IsNonDecreasingBy (λ e. e.0) xs → IsPartitionPoint (λ e. e.0 < key) (λ e. key ≤ e.0) xs i → (i < length xs → (d : ℕ × ℕ) → ((get_or xs i d).0 ≡ key → ⊥))
    → slice_get (entries_under xs key) 0 ≡ None
first-past xs i key rising low past =
    let none : entries_under xs key ≡ [] = filter-none (has_key key) xs (λ k d within. ne_eqb _ key (λ same. elim (cases_lt k i) [
      | inl less ↦ absurd (omega (arith, same, low.0 k d (omega arith) less))
      | inr more ↦ (
          let step : (get_or xs i d).0 ≤ (get_or xs k d).0 = rising i k d more within in
          let least : key ≤ (get_or xs i d).0 = low.1 i d (omega arith) (omega arith) in
          past (omega arith) d (omega (arith, same)))
    ])) in
    rw none refl

-- the first of a greater key stands where those up to this one end
pub after-here : (xs : List (ℕ × ℕ)) (i key : ℕ) → i ≤ length xs → IsPartitionPoint (λ e. e.0 ≤ key) (λ e. key < e.0) xs i → slice_get xs i ≡ find (has_greater_key key) xs
after-here xs i key bound high =
    let place : position_or_len (has_greater_key key) xs ≡ i = position_or_len_is (has_greater_key key) xs i (0, 0) bound
    (λ k below. le-ltb key (get_or xs k (0, 0)).0 (high.0 k (0, 0) (omega arith) below))
    (λ within. lt-ltb key (get_or xs i (0, 0)).0 (high.1 i (0, 0) (omega arith) within)) in
    ap (slice_get xs) (sym place) ∙ sym (find_at (has_greater_key key) xs)

-- ---- one more

-- what stands behind its key's entries is for each key the same as what stands at the end
pub insert-same : (xs : List (ℕ × ℕ)) (i : ℕ) (e : ℕ × ℕ) → IsPartitionPoint (λ y. y.0 ≤ e.0) (λ y. e.0 < y.0) xs i → IsSameByKey (insert xs i e) (xs ++ e ∷ [])
insert-same xs zero e high key =
    let split : filter (has_key key) (xs ++ e ∷ []) ≡ filter (has_key key) xs ++ filter (has_key key) (e ∷ []) = filter-append (has_key key) xs (e ∷ []) in
    elim (cases_Bool (e.0 == key)) [
      | inl here ↦ (
          let none : filter (has_key key) xs ≡ [] = filter-none (has_key key) xs (λ k d within. ne_eqb _ key (λ same. absurd (omega (arith, same, eqb-true e.0 key here, high.1 k d (omega arith) within)))) in
          rw (split, none, here) refl)
      | inr other ↦ rw (split, other) (sym (append-nil (filter (has_key key) xs)))
    ]
insert-same [] (suc i) e high key = refl
insert-same (x ∷ xs) (suc i) e high key =
    ap (λ (rest : List (ℕ × ℕ)). cond (x.0 == key) (x ∷ rest) rest) (insert-same xs i e (λ k d from within. high.0 (suc k) d (omega arith) (omega arith), λ k d from within. high.1 (suc k) d (omega arith) (omega arith)) key)

-- ---- one less

pub remove-first : {T : Type 0} (p : T → Bool) (xs : List T) (i : ℕ) → (i < length xs) → ((d : T) → p (get_or xs i d) ≡ true) → ((k : ℕ) (d : T) → k < i → p (get_or xs k d) ≡ false)
    → remove xs i ≡ without_first p xs
remove-first p [] i within here before = absurd (omega arith)
remove-first p (x ∷ xs) zero within here before = let passes : p x ≡ true = here x in rw passes refl
remove-first p (x ∷ xs) (suc i) within here before =
    let fails : p x ≡ false = before 0 x (omega arith) in
    rw fails (ap (λ rest. x ∷ rest) (remove-first p xs i (omega arith) here (λ k d below. before (suc k) d (omega arith))))

pub remove-position : {T : Type 0} (p : T → Bool) (xs : List T) (i : ℕ) (some : T) → position p xs ≡ Some i → remove xs i ≡ without_first p xs
remove-position p xs i some found =
    remove-first p xs i (position-Some p xs i some found).0 (λ d. (position-Some p xs i d found).1) (λ k d below. (position-Some p xs i d found).2 k below)

without_first-past : {T : Type 0} (p : T → Bool) (xs : List T) → length xs ≤ position_or_len p xs → without_first p xs ≡ xs
without_first-past p [] past = refl
without_first-past p (x ∷ xs) past =
    elim (cases_Bool (p x)) [
      | inl passes ↦ (let here = rw passes at past in absurd (omega arith))
      | inr fails ↦ (let here = rw fails at past in rw fails (ap (λ rest. x ∷ rest) (without_first-past p xs (omega arith))))
    ]

pub without_first-none : {T : Type 0} (p : T → Bool) (xs : List T) → position p xs ≡ None → without_first p xs ≡ xs
without_first-none p xs none =
    elim (cases_lt (position_or_len p xs) (length xs)) [
      | inl less ↦ (let test = lt-ltb _ _ less in let other : Some (position_or_len p xs) ≡ None = rw test at none in cc)
      | inr past ↦ without_first-past p xs past
    ]
