-- What an index beside a table tells of its rows, and that it is kept where a row comes and where one goes.
use Rattle.std.proofs.Common.{◌≡◌, ℕ, zero, suc, ◌<◌, ◌++◌, true, false, Bool, List, [], ◌∷◌, length, get_or, refl, ap, sym, ◌∙◌, arith, inl, inr, Some, eq-eqb}
use Rattle.std.specs.Prelude.{filter, find, not, option_map, slice_get, ◌==◌, ◌&&◌, ◌||◌}
use Rattle.std.specs.List.{All, list_any}
use Rattle.std.proofs.lemmas.Bool.{cases_Bool, and_right, and_from, or_right, eqb-true, ne_eqb, false≢true}
use Rattle.std.proofs.lemmas.List.{length-map}
use Rattle.std.proofs.lemmas.List.Elements.{All-filter, All-map, filter-append}
use Rattle.fsa_types.specs.Ranges.{without_first}
use Rattle.fsa_types.specs.Rows.{IsNumbered, lives, row_of, with_row_changed, without_row}
use Rattle.fsa_types.proofs.RowLemmas.{AreRising, AreRising-first, AreRising-rest, row_of-at, without_row-above}
use Rattle.key_index.specs.Index.{IsSameByKey, entries_under, has_key, is_entry}
use Rattle.key_index.specs.RowsByKey.{IsIndexOf, pairs, row_passes, rows_of_entries, rows_with}

-- ---- one test after another

pub filter-both : {T : Type 0} (p q : T → Bool) (xs : List T) → filter (λ x. p x && q x) xs ≡ filter q (filter p xs)
filter-both p q [] = refl
filter-both p q (x ∷ xs) = elim (cases_Bool (p x)) [
  | inl first ↦ elim (cases_Bool (q x)) [
    | inl second ↦ simp (first, second) (ap (λ rest. x ∷ rest) (filter-both p q xs))
    | inr other ↦ simp (first, other) (filter-both p q xs)
  ]
  | inr fails ↦ rw fails (filter-both p q xs)
]

pub find-both : {T : Type 0} (p q : T → Bool) (xs : List T) → find (λ x. p x && q x) xs ≡ find q (filter p xs)
find-both p q [] = refl
find-both p q (x ∷ xs) = elim (cases_Bool (p x)) [
  | inl first ↦ elim (cases_Bool (q x)) [
    | inl second ↦ simp (first, second) refl
    | inr other ↦ simp (first, other) (find-both p q xs)
  ]
  | inr fails ↦ rw fails (find-both p q xs)
]

pub any-both : {T : Type 0} (p q : T → Bool) (xs : List T) → list_any (λ x. p x && q x) xs ≡ list_any q (filter p xs)
any-both p q [] = refl
any-both p q (x ∷ xs) = elim (cases_Bool (p x)) [
  | inl first ↦ rw first (ap (λ rest. q x || rest) (any-both p q xs))
  | inr fails ↦ rw fails (any-both p q xs)
]

-- what is found is the first of what is kept
find-first : {T : Type 0} (p : T → Bool) (xs : List T) → find p xs ≡ slice_get (filter p xs) 0
find-first p [] = refl
find-first p (x ∷ xs) = elim (cases_Bool (p x)) [
  | inl passes ↦ rw passes refl
  | inr fails ↦ rw fails (find-first p xs)
]

-- ---- all but the first

-- what passes the first test passes the second
pub without_first-kept : {T : Type 0} (p q : T → Bool) → ((x : T) → p x ≡ true → q x ≡ true) → (xs : List T) → filter q (without_first p xs) ≡ without_first p (filter q xs)
without_first-kept p q also [] = refl
without_first-kept p q also (x ∷ xs) = elim (cases_Bool (p x)) [
  | inl passes ↦ (let second : q x ≡ true = also x passes in simp (passes, second) refl)
  | inr fails ↦ elim (cases_Bool (q x)) [
    | inl second ↦ simp (fails, second) (ap (λ rest. x ∷ rest) (without_first-kept p q also xs))
    | inr other ↦ simp (fails, other) (without_first-kept p q also xs)
  ]
]

-- what passes the first test fails the second
pub without_first-other : {T : Type 0} (p q : T → Bool) → ((x : T) → p x ≡ true → q x ≡ false) → (xs : List T) → filter q (without_first p xs) ≡ filter q xs
without_first-other p q never [] = refl
without_first-other p q never (x ∷ xs) = elim (cases_Bool (p x)) [
  | inl passes ↦ (let second : q x ≡ false = never x passes in simp (passes, second) refl)
  | inr fails ↦ elim (cases_Bool (q x)) [
    | inl second ↦ simp (fails, second) (ap (λ rest. x ∷ rest) (without_first-other p q never xs))
    | inr other ↦ simp (fails, other) (without_first-other p q never xs)
  ]
]

pub key_of : (key number : ℕ) (e : ℕ × ℕ) → is_entry key number e ≡ true → e.0 ≡ key
key_of key number e is = elim (cases_Bool (e.0 == key)) [
  | inl same ↦ eqb-true e.0 key same
  | inr other ↦ absurd (false≢true (sym (rw other refl) ∙ is))
]

-- entries that are the same by key stay so without the first of an entry
pub same-without : (one other : List (ℕ × ℕ)) (key number : ℕ) → IsSameByKey one other → IsSameByKey (without_first (is_entry key number) one) (without_first (is_entry key number) other)
same-without one other key number same k = elim (cases_Bool (key == k)) [
  | inl here ↦ (
      let also : (e : ℕ × ℕ) → is_entry key number e ≡ true → has_key k e ≡ true = λ e is. eq-eqb e.0 k (key_of key number e is ∙ eqb-true key k here) in
      without_first-kept (is_entry key number) (has_key k) also one ∙ ap (without_first (is_entry key number)) (same k) ∙ sym (without_first-kept (is_entry key number) (has_key k) also other))
  | inr apart ↦ (
      let never : (e : ℕ × ℕ) → is_entry key number e ≡ true → has_key k e ≡ false = λ e is. ne_eqb e.0 k (λ equal. false≢true (sym apart ∙ eq-eqb key k (sym (key_of key number e is) ∙ equal))) in
      without_first-other (is_entry key number) (has_key k) never one ∙ same k ∙ sym (without_first-other (is_entry key number) (has_key k) never other))
]

-- one filter after another, in either order
pub filter-swap : {T : Type 0} (p q : T → Bool) (xs : List T) → filter p (filter q xs) ≡ filter q (filter p xs)
filter-swap p q [] = refl
filter-swap p q (x ∷ xs) = elim (cases_Bool (p x)) [
  | inl first ↦ elim (cases_Bool (q x)) [
    | inl second ↦ simp (first, second) (ap (λ rest. x ∷ rest) (filter-swap p q xs))
    | inr other ↦ simp (first, other) (filter-swap p q xs)
  ]
  | inr fails ↦ elim (cases_Bool (q x)) [
    | inl second ↦ simp (fails, second) (filter-swap p q xs)
    | inr other ↦ simp (fails, other) (filter-swap p q xs)
  ]
]

module _ {R : Type 0} (key : R → ℕ) where
  -- ---- keys and numbers of rows

  pairs-push : (rows : List (ℕ × R)) (x : ℕ × R) → pairs key (rows ++ x ∷ []) ≡ pairs key rows ++ (key x.1, x.0) ∷ []
  pairs-push [] x = refl
  pairs-push (y ∷ rows) x = ap (λ (rest : List (ℕ × ℕ)). (key y.1, y.0) ∷ rest) (pairs-push rows x)

  pairs-with : (rows : List (ℕ × R)) (k : ℕ) → entries_under (pairs key rows) k ≡ pairs key (rows_with key rows k)
  pairs-with [] k = refl
  pairs-with (x ∷ rows) k = elim (cases_Bool (key x.1 == k)) [
    | inl here ↦ rw here (ap (λ (rest : List (ℕ × ℕ)). (key x.1, x.0) ∷ rest) (pairs-with rows k))
    | inr other ↦ rw other (pairs-with rows k)
  ]

  pairs-without : (rows : List (ℕ × R)) (id : ℕ) (row : R) → AreRising rows → row_of rows id ≡ Some row → without_first (is_entry (key row) id) (pairs key rows) ≡ pairs key (without_row rows id)
  pairs-without [] id row rising found = refl
  pairs-without (x ∷ rows) id row rising found = elim (cases_Bool (x.0 == id)) [
    | inl same ↦ (
        let is : Some x.1 ≡ Some row = rw same at found in
        let here : x.1 ≡ row = cc in
        let above : All (λ (y : ℕ × R). id < y.0) rows = λ k e w. let b : x.0 < (get_or rows k e).0 = AreRising-first x rows rising k e w in let n = eqb-true x.0 id same in omega arith in
        let passes : is_entry (key row) id (key x.1, x.0) ≡ true = and_from (key x.1 == key row) (x.0 == id) (eq-eqb (key x.1) (key row) (ap key here)) same in
        rw (passes, same, without_row-above rows id above) refl)
    | inr other ↦ (
        let fails : is_entry (key row) id (key x.1, x.0) ≡ false = and_right (key x.1 == key row) (x.0 == id) other in
        rw (fails, other) (ap (λ (rest : List (ℕ × ℕ)). (key x.1, x.0) ∷ rest) (pairs-without rows id row (AreRising-rest x rows rising) (rw other at found))))
  ]

  pairs-changed : (change : R → R) (rows : List (ℕ × R)) (id : ℕ) → ((row : R) → key (change row) ≡ key row) → pairs key (with_row_changed change rows id) ≡ pairs key rows
  pairs-changed change [] id same = refl
  pairs-changed change (x ∷ rows) id same = elim (cases_Bool (x.0 == id)) [
    | inl here ↦ rw (here, same x.1, pairs-changed change rows id same) refl
    | inr other ↦ rw (other, pairs-changed change rows id same) refl
  ]

  -- ---- a row comes, one goes, and one changes but for its key

  pub index-added : (rows : List (ℕ × R)) (old new : List (ℕ × ℕ)) (id : ℕ) (row : R) → IsIndexOf key rows old → IsSameByKey new (old ++ (key row, id) ∷ []) → IsIndexOf key (rows ++ (id, row) ∷ []) new
  index-added rows old new id row index same k =
      let e : ℕ × ℕ = (key row, id) in
      same k ∙ filter-append (has_key k) old (e ∷ []) ∙ ap (λ (front : List (ℕ × ℕ)). front ++ filter (has_key k) (e ∷ [])) (index k)
      ∙ sym (filter-append (has_key k) (pairs key rows) (e ∷ [])) ∙ ap (λ (all : List (ℕ × ℕ)). entries_under all k) (sym (pairs-push rows (id, row)))

  pub index-removed : (rows : List (ℕ × R)) (last : ℕ) (entries : List (ℕ × ℕ)) (id : ℕ) (row : R) → IsNumbered rows last → IsIndexOf key rows entries → row_of rows id ≡ Some row
      → IsIndexOf key (without_row rows id) (without_first (is_entry (key row) id) entries)
  index-removed rows last entries id row numbered index found k =
      same-without entries (pairs key rows) (key row) id index k ∙ ap (λ (all : List (ℕ × ℕ)). entries_under all k) (pairs-without rows id row numbered.rising found)

  pub index-changed : (change : R → R) (rows : List (ℕ × R)) (entries : List (ℕ × ℕ)) (id : ℕ) → ((row : R) → key (change row) ≡ key row) → IsIndexOf key rows entries
      → IsIndexOf key (with_row_changed change rows id) entries
  index-changed change rows entries id same index k = index k ∙ ap (λ (all : List (ℕ × ℕ)). entries_under all k) (sym (pairs-changed change rows id same))

  pairs-cleared : (rows : List (ℕ × R)) (k : ℕ) → filter (λ e. not (has_key k e)) (pairs key rows) ≡ pairs key (filter (λ row. not (key row.1 == k)) rows)
  pairs-cleared [] k = refl
  pairs-cleared (x ∷ rows) k = elim (cases_Bool (key x.1 == k)) [
    | inl gone ↦ rw gone (pairs-cleared rows k)
    | inr kept ↦ rw kept (ap (λ (rest : List (ℕ × ℕ)). (key x.1, x.0) ∷ rest) (pairs-cleared rows k))
  ]

  pub index-cleared : (rows : List (ℕ × R)) (entries : List (ℕ × ℕ)) (k : ℕ) → IsIndexOf key rows entries → IsIndexOf key (filter (λ row. not (key row.1 == k)) rows) (filter (λ e. not (has_key k e)) entries)
  index-cleared rows entries k index other =
      filter-swap (has_key other) (λ e. not (has_key k e)) entries ∙ ap (filter (λ e. not (has_key k e))) (index other)
      ∙ sym (filter-swap (has_key other) (λ e. not (has_key k e)) (pairs key rows)) ∙ ap (λ (all : List (ℕ × ℕ)). entries_under all other) (pairs-cleared rows k)

  -- ---- what a key's entries tell

  pub index-entries : (rows : List (ℕ × R)) (entries : List (ℕ × ℕ)) (k : ℕ) → IsIndexOf key rows entries → entries_under entries k ≡ pairs key (rows_with key rows k)
  index-entries rows entries k index = index k ∙ pairs-with rows k

  lives-at : (rows : List (ℕ × R)) (i : ℕ) (d : ℕ × R) → i < length rows → lives rows (get_or rows i d).0 ≡ true
  lives-at [] i d within = absurd (omega arith)
  lives-at (x ∷ rows) zero d within = let here : (x.0 == x.0) ≡ true = eq-eqb x.0 x.0 refl in rw here refl
  lives-at (x ∷ rows) (suc i) d within = or_right (x.0 == (get_or rows i d).0) (lives rows (get_or rows i d).0) (lives-at rows i d (omega arith))

  pub index-live : (rows : List (ℕ × R)) (entries : List (ℕ × ℕ)) (k : ℕ) → IsIndexOf key rows entries → All (λ entry. lives rows entry.1 ≡ true) (entries_under entries k)
  index-live rows entries k index =
      rw (index-entries rows entries k index) (All-map (λ (entry : ℕ × ℕ). lives rows entry.1 ≡ true) (λ (row : ℕ × R). (key row.1, row.0)) (rows_with key rows k)
      (All-filter (λ row. key row.1 == k) (λ row. lives rows row.0 ≡ true) rows (λ i d within. lives-at rows i d within)))

  first-number : (some : List (ℕ × R)) → option_map (λ (row : ℕ × R). row.0) (slice_get some 0) ≡ option_map (λ (entry : ℕ × ℕ). entry.1) (slice_get (pairs key some) 0)
  first-number [] = refl
  first-number (x ∷ some) = refl

  pub index-first : (rows : List (ℕ × R)) (entries : List (ℕ × ℕ)) (k : ℕ) → IsIndexOf key rows entries
      → option_map (λ (row : ℕ × R). row.0) (find (λ row. key row.1 == k) rows) ≡ option_map (λ (entry : ℕ × ℕ). entry.1) (slice_get (entries_under entries k) 0)
  index-first rows entries k index =
      ap (option_map (λ (row : ℕ × R). row.0)) (find-first (λ row. key row.1 == k) rows) ∙ first-number (rows_with key rows k)
      ∙ ap (λ (some : List (ℕ × ℕ)). option_map (λ (entry : ℕ × ℕ). entry.1) (slice_get some 0)) (sym (index-entries rows entries k index))

  pub index-length : (rows : List (ℕ × R)) (entries : List (ℕ × ℕ)) (k : ℕ) → IsIndexOf key rows entries → length (filter (λ row. key row.1 == k) rows) ≡ length (entries_under entries k)
  index-length rows entries k index = sym (length-map (rows_with key rows k) (λ (row : ℕ × R). (key row.1, row.0))) ∙ ap length (sym (index-entries rows entries k index))

  -- ---- rows that are looked up

  module _ (rows : List (ℕ × R)) where
    at-pairs : (some : List (ℕ × R)) → All (λ row. row_of rows row.0 ≡ Some row.1) some → rows_of_entries rows (pairs key some) ≡ some
    at-pairs [] there = refl
    at-pairs (x ∷ some) there =
        let here : row_of rows x.0 ≡ Some x.1 = there 0 x (omega arith) in
        rw here (ap (λ (rest : List (ℕ × R)). x ∷ rest) (at-pairs some (λ i d within. there (suc i) d (omega arith))))

    module _ (test : ℕ × R → Bool) where
      passes-there : (x : ℕ × R) → row_of rows x.0 ≡ Some x.1 → row_passes rows test (key x.1, x.0) ≡ test x
      passes-there x here = rw here refl

      find-pairs : (some : List (ℕ × R)) → All (λ row. row_of rows row.0 ≡ Some row.1) some
          → option_map (λ (row : ℕ × R). row.0) (find test some) ≡ option_map (λ (entry : ℕ × ℕ). entry.1) (find (row_passes rows test) (pairs key some))
      find-pairs [] there = refl
      find-pairs (x ∷ some) there =
          let same : row_passes rows test (key x.1, x.0) ≡ test x = passes-there x (there 0 x (omega arith)) in
          elim (cases_Bool (test x)) [
            | inl passes ↦ rw (same, passes) refl
            | inr fails ↦ rw (same, fails) (find-pairs some (λ i d within. there (suc i) d (omega arith)))
          ]

      any-pairs : (some : List (ℕ × R)) → All (λ row. row_of rows row.0 ≡ Some row.1) some → list_any test some ≡ list_any (row_passes rows test) (pairs key some)
      any-pairs [] there = refl
      any-pairs (x ∷ some) there =
          let same : row_passes rows test (key x.1, x.0) ≡ test x = passes-there x (there 0 x (omega arith)) in
          rw same (ap (λ rest. test x || rest) (any-pairs some (λ i d within. there (suc i) d (omega arith))))

      count-pairs : (some : List (ℕ × R)) → All (λ row. row_of rows row.0 ≡ Some row.1) some → length (filter test some) ≡ length (filter (row_passes rows test) (pairs key some))
      count-pairs [] there = refl
      count-pairs (x ∷ some) there =
          let same : row_passes rows test (key x.1, x.0) ≡ test x = passes-there x (there 0 x (omega arith)) in
          elim (cases_Bool (test x)) [
            | inl passes ↦ rw (same, passes) (ap suc (count-pairs some (λ i d within. there (suc i) d (omega arith))))
            | inr fails ↦ rw (same, fails) (count-pairs some (λ i d within. there (suc i) d (omega arith)))
          ]

  there : (rows : List (ℕ × R)) (last : ℕ) (k : ℕ) → IsNumbered rows last → All (λ row. row_of rows row.0 ≡ Some row.1) (rows_with key rows k)
  there rows last k numbered = All-filter (λ row. key row.1 == k) (λ row. row_of rows row.0 ≡ Some row.1) rows (λ i d within. row_of-at rows i d (get_or rows i d).0 numbered.rising within refl)

  pub index-rows : (rows : List (ℕ × R)) (last : ℕ) (entries : List (ℕ × ℕ)) (k : ℕ) → IsNumbered rows last → IsIndexOf key rows entries → rows_of_entries rows (entries_under entries k) ≡ rows_with key rows k
  index-rows rows last entries k numbered index = ap (rows_of_entries rows) (index-entries rows entries k index) ∙ at-pairs rows (rows_with key rows k) (there rows last k numbered)

  pub index-listed : (rows : List (ℕ × R)) (last : ℕ) (entries : List (ℕ × ℕ)) (k : ℕ) (test : ℕ × R → Bool) → IsNumbered rows last → IsIndexOf key rows entries
      → filter (λ row. key row.1 == k && test row) rows ≡ filter test (rows_of_entries rows (entries_under entries k))
  index-listed rows last entries k test numbered index = filter-both (λ row. key row.1 == k) test rows ∙ ap (filter test) (sym (index-rows rows last entries k numbered index))

  pub index-found : (rows : List (ℕ × R)) (last : ℕ) (entries : List (ℕ × ℕ)) (k : ℕ) (test : ℕ × R → Bool) → IsNumbered rows last → IsIndexOf key rows entries
      → option_map (λ (row : ℕ × R). row.0) (find (λ row. key row.1 == k && test row) rows) ≡ option_map (λ (entry : ℕ × ℕ). entry.1) (find (row_passes rows test) (entries_under entries k))
  index-found rows last entries k test numbered index =
      ap (option_map (λ (row : ℕ × R). row.0)) (find-both (λ row. key row.1 == k) test rows) ∙ find-pairs rows test (rows_with key rows k) (there rows last k numbered)
      ∙ ap (λ (some : List (ℕ × ℕ)). option_map (λ (entry : ℕ × ℕ). entry.1) (find (row_passes rows test) some)) (sym (index-entries rows entries k index))

  pub index-any : (rows : List (ℕ × R)) (last : ℕ) (entries : List (ℕ × ℕ)) (k : ℕ) (test : ℕ × R → Bool) → IsNumbered rows last → IsIndexOf key rows entries
      → list_any (λ row. key row.1 == k && test row) rows ≡ list_any (row_passes rows test) (entries_under entries k)
  index-any rows last entries k test numbered index =
      any-both (λ row. key row.1 == k) test rows ∙ any-pairs rows test (rows_with key rows k) (there rows last k numbered) ∙ ap (list_any (row_passes rows test)) (sym (index-entries rows entries k index))

  pub index-counted : (rows : List (ℕ × R)) (last : ℕ) (entries : List (ℕ × ℕ)) (k : ℕ) (test : ℕ × R → Bool) → IsNumbered rows last → IsIndexOf key rows entries
      → length (filter (λ row. key row.1 == k && test row) rows) ≡ length (filter (row_passes rows test) (entries_under entries k))
  index-counted rows last entries k test numbered index =
      ap length (filter-both (λ row. key row.1 == k) test rows) ∙ count-pairs rows test (rows_with key rows k) (there rows last k numbered)
      ∙ ap (λ (some : List (ℕ × ℕ)). length (filter (row_passes rows test) some)) (sym (index-entries rows entries k index))
