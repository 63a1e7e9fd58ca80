-- Those of some links that pass a test, where they stand together: those behind a name, among links in the order of
-- names.
use Rattle.std.proofs.Common.{◌≡◌, ℕ, zero, suc, ◌-◌, ◌≤◌, Bool, true, false, not, List, [], ◌∷◌, length, take, drop, refl, ap, subst, sym, arith, inl, inr, Option, None, ◌∙◌}
use Rattle.std.specs.Prelude.{◌==◌, map}
use Rattle.std.specs.List.{All, AllWithin, filter, list_any}
use Rattle.std.proofs.lemmas.Bool.{cases_Bool, ne_eqb}
use Rattle.std.proofs.lemmas.List.{drop-map, get_or-map, length-map, take-map}
use Rattle.fsa_types.specs.Sorting.{in_order, put_in_order}
use Rattle.fsa_model.specs.Volume.{Link}
use Rattle.volume_rows.specs.Children.{is_child_after, is_name_after}
use Rattle.link_index.specs.Directory.{IsBegin, link_numbered, links_at}
use Rattle.link_index.proofs.NameLemmas.{Links, numbers-at}

-- ---- those that pass a test, where they stand together

filter-none : {X : Type 0} (p : X → Bool) (xs : List X) → All (λ x. p x ≡ false) xs → filter p xs ≡ []
filter-none p [] fails = refl
filter-none p (x ∷ xs) fails =
    let here : p x ≡ false = fails 0 x (omega arith) in
    rw here (filter-none p xs (λ k d within. fails (suc k) d (omega arith)))

pub filter-between : {X : Type 0} (p : X → Bool) (xs : List X) (i j : ℕ) → i ≤ j → j ≤ length xs → AllWithin (λ x. p x ≡ false) xs 0 i → AllWithin (λ x. p x ≡ true) xs i j
    → AllWithin (λ x. p x ≡ false) xs j (length xs) → filter p xs ≡ take (j - i) (drop i xs)
filter-between p [] zero zero order bound before between behind = refl
filter-between p [] zero (suc j) order bound before between behind = absurd (omega arith)
filter-between p [] (suc i) j order bound before between behind = absurd (omega arith)
filter-between p (x ∷ xs) zero zero order bound before between behind = filter-none p (x ∷ xs) (λ k d within. behind k d (omega arith) within)
filter-between {X} p (x ∷ xs) zero (suc j) order bound before between behind =
    let passes : p x ≡ true = between 0 x (omega arith) (omega arith) in
    let rest : filter p xs ≡ take (j - 0) xs
    = filter-between p xs zero j (omega arith) (omega arith) (λ k d from below. absurd (omega arith)) (λ k d from below. between (suc k) d (omega arith) (omega arith))
    (λ k d from within. behind (suc k) d (omega arith) (omega arith)) in
    let one : suc (j - 0) ≡ suc j - 0 = omega arith in
    rw passes (ap (λ (ys : List X). x ∷ ys) rest) ∙ ap (λ n. take n (x ∷ xs)) one
filter-between p (x ∷ xs) (suc i) zero order bound before between behind = absurd (omega arith)
filter-between p (x ∷ xs) (suc i) (suc j) order bound before between behind =
    let fails : p x ≡ false = before 0 x (omega arith) (omega arith) in
    let rest : filter p xs ≡ take (j - i) (drop i xs)
    = filter-between p xs i j (omega arith) (omega arith) (λ k d from below. before (suc k) d (omega arith) (omega arith)) (λ k d from below. between (suc k) d (omega arith) (omega arith))
    (λ k d from within. behind (suc k) d (omega arith) (omega arith)) in
    let one : j - i ≡ suc j - suc i = omega arith in
    rw fails rest ∙ ap (λ n. take n (drop i xs)) one

filter-all : {X : Type 0} (p : X → Bool) (xs : List X) → All (λ x. p x ≡ true) xs → filter p xs ≡ xs
filter-all p [] passes = refl
filter-all {X} p (x ∷ xs) passes =
    let here : p x ≡ true = passes 0 x (omega arith) in
    rw here (ap (λ (ys : List X). x ∷ ys) (filter-all p xs (λ k d within. passes (suc k) d (omega arith))))

pub filter-behind : {X : Type 0} (p : X → Bool) (xs : List X) (i : ℕ) → i ≤ length xs → AllWithin (λ x. p x ≡ false) xs 0 i → AllWithin (λ x. p x ≡ true) xs i (length xs) → filter p xs ≡ drop i xs
filter-behind p xs zero bound before behind = filter-all p xs (λ k d within. behind k d (omega arith) within)
filter-behind p [] (suc i) bound before behind = absurd (omega arith)
filter-behind p (x ∷ xs) (suc i) bound before behind =
    let fails : p x ≡ false = before 0 x (omega arith) (omega arith) in
    rw fails (filter-behind p xs i (omega arith) (λ k d from below. before (suc k) d (omega arith) (omega arith)) (λ k d from within. behind (suc k) d (omega arith) (omega arith)))

-- ---- links and their numbers

-- a part of the numbers has that part of the links
pub numbers-between : (rows : Links) (numbers : List ℕ) (i n : ℕ) → map (λ (e : ℕ × Link). e.0) (take n (drop i (links_at rows numbers))) ≡ take n (drop i numbers)
numbers-between rows numbers i n =
    sym (take-map (λ (e : ℕ × Link). e.0) n (drop i (links_at rows numbers)))
    ∙ ap (take n) (sym (drop-map (λ (e : ℕ × Link). e.0) i (links_at rows numbers)))
    ∙ ap (λ (ids : List ℕ). take n (drop i ids)) (numbers-at rows numbers)

-- what is told of the link of each number is told of each link
pub links-each : (rows : Links) (numbers : List ℕ) (P : ℕ × Link → Type 0) (low high : ℕ) → high ≤ length numbers → AllWithin (λ id. P (link_numbered rows id)) numbers low high → AllWithin P (links_at rows numbers) low high
links-each rows numbers P low high bound all k d from below = subst P (sym (get_or-map (link_numbered rows) numbers k 0 d (omega arith))) (all k 0 from below)

-- those behind a name are the numbers from the place on where they begin
pub numbers-behind : (table : List (ℕ × ℕ)) (rows : Links) (numbers : List ℕ) (after : Option (List ℕ)) (i : ℕ) → i ≤ length numbers → IsBegin table (links_at rows numbers) after i
    → drop i numbers ≡ map (λ (e : ℕ × Link). e.0) (filter (λ (e : ℕ × Link). is_name_after table after e.1.name) (links_at rows numbers))
numbers-behind table rows numbers after i bound begin =
    let long : length (links_at rows numbers) ≡ length numbers = length-map numbers (link_numbered rows) in
    ap (drop i) (sym (numbers-at rows numbers))
    ∙ drop-map (λ (e : ℕ × Link). e.0) i (links_at rows numbers)
    ∙ ap (map (λ (e : ℕ × Link). e.0)) (sym (filter-behind (λ (e : ℕ × Link). is_name_after table after e.1.name) (links_at rows numbers) i (omega arith) begin.before begin.behind))

-- ---- whether there is one

some-listed : (x : ℕ × Link) (ys : Links) → not (length (map (λ (e : ℕ × Link). e.0) (x ∷ ys)) == 0) ≡ true
some-listed x ys = let some : (length (map (λ (e : ℕ × Link). e.0) (x ∷ ys)) == 0) ≡ false = ne_eqb (length (map (λ (e : ℕ × Link). e.0) (x ∷ ys))) 0 (λ none. absurd (omega arith)) in ap not some

put-some : (before : ℕ × Link → ℕ × Link → Bool) (x : ℕ × Link) (ys : Links) → not (length (map (λ (e : ℕ × Link). e.0) (put_in_order before x ys)) == 0) ≡ true
put-some before x [] = some-listed x []
put-some before x (y ∷ ys) = elim (cases_Bool (before x y)) [ inl less ↦ rw less (some-listed x (y ∷ ys)) | inr more ↦ rw more (some-listed y (put_in_order before x ys)) ]

pub any-listed : (before : ℕ × Link → ℕ × Link → Bool) (p : ℕ × Link → Bool) (rows : Links) → not (length (map (λ (e : ℕ × Link). e.0) (in_order before (filter p rows))) == 0) ≡ list_any p rows
any-listed before p [] = refl
any-listed before p (x ∷ rows) = elim (cases_Bool (p x)) [
  | inl passes ↦ rw passes (put-some before x (in_order before (filter p rows)))
  | inr fails ↦ rw fails (any-listed before p rows)
]

pub first-each : (table : List (ℕ × ℕ)) (dir : ℕ) (link : Link) → is_child_after table dir None link ≡ (link.parent == dir)
first-each table dir link = elim (cases_Bool (link.parent == dir)) [ inl same ↦ rw same refl | inr other ↦ rw other refl ]
