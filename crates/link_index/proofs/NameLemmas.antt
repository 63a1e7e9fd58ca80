-- What numbers in the order of names tell of their links.
use Rattle.std.proofs.Common.{◌≡◌, ℕ, zero, suc, ◌+◌, ◌<◌, ◌≤◌, true, false, not, Bool, List, [], ◌∷◌, length, get_or, refl, ap, subst, sym, arith, inl, inr, Option, None, Some, Ok, Err, Result, ◌∙◌}
use Rattle.std.specs.Prelude.{map, option_map}
use Rattle.std.specs.List.{All, filter, find, insert, remove, slice_get}
use Rattle.std.specs.List.Sorted.{IsBinarySearchResult, IsNonDecreasingBy, IsSearchInRange}
use Rattle.std.specs.Cmp.Lexicographic.{texts_ties}
use Rattle.std.specs.Ordering.{ordering_index, ordering_reverse, is_lt, is_eq}
use Rattle.std.specs.declared.cmp.Ordering.{Ordering}
use Rattle.std.specs.declared.cmp.Ordering.TheVariants.{Less, Equal, Greater}
use Rattle.std.proofs.lemmas.Bool.{cases_Bool, cases_lt}
use Rattle.std.proofs.lemmas.Cmp.{nat_list_cmp_total, nat_list_eq_equiv}
use Rattle.std.proofs.lemmas.List.{get_or-map, length-map}
use Rattle.std.proofs.lemmas.List.Kept.{AllPairs-filter}
use Rattle.std.proofs.lemmas.Option.{slice_get-map}
use Rattle.fsa_types.specs.CaseTable.{cmp_name, same_name, upcased}
use Rattle.fsa_types.specs.Rows.{IsNumbered, row_of}
use Rattle.fsa_types.specs.Sorting.{put_in_order}
use Rattle.fsa_model.specs.Volume.{Link}
use Rattle.fsa_model.proofs.RowLaws.{find-same, row_of-here}
use Rattle.link_index.specs.Keyed.{AreInKeyOrder, IsKeyPlace, cmp_keys, is_key_before}
use Rattle.link_index.proofs.KeyLaws.{found-here, found-none, greater-back, place-searched, put-ordered, with-here, without-here, without-none}
use Rattle.link_index.specs.Beginnings.{name_key}
use Rattle.link_index.specs.Directory.{AreInNameOrder, IsBegin, IsNamePut, IsNameTaken, DirectoryView, link_numbered, links_at}
use Rattle.link_index.specs.Heads.{link_head}

abbrev pub Links : Type 0
Links = List (ℕ × Link)

-- ---- names and keys

pub same-key : (table : List (ℕ × ℕ)) (one other : List ℕ) → same_name table one other ≡ is_eq (cmp_keys (upcased table one) (upcased table other))
same-key table one other = texts_ties (upcased table one) (upcased table other)

pub name-swap : (table : List (ℕ × ℕ)) (left right : List ℕ) → same_name table left right ≡ same_name table right left
name-swap table left right = nat_list_eq_equiv.symm (upcased table left) (upcased table right)

-- ---- links by their numbers

pub found-each : (rows : Links) (last : ℕ) → IsNumbered rows last → All (λ (e : ℕ × Link). row_of rows e.0 ≡ Some e.1) rows
found-each rows last numbered k d within = row_of-here rows last k d numbered within

pub at-found : (rows items : Links) → All (λ (e : ℕ × Link). row_of rows e.0 ≡ Some e.1) items → links_at rows (map (λ (e : ℕ × Link). e.0) items) ≡ items
at-found rows [] all = refl
at-found rows (x ∷ items) all =
    let here : row_of rows x.0 ≡ Some x.1 = all 0 x (omega arith) in
    rw here (ap (λ (rest : Links). x ∷ rest) (at-found rows items (λ k d within. all (suc k) d (omega arith))))

pub numbers-at : (rows : Links) (numbers : List ℕ) → map (λ (e : ℕ × Link). e.0) (links_at rows numbers) ≡ numbers
numbers-at rows [] = refl
numbers-at rows (id ∷ numbers) = ap (λ (rest : List ℕ). id ∷ rest) (numbers-at rows numbers)

-- those that are kept of the links of numbers are the links of their numbers
pub at-kept : (rows : Links) (keep : ℕ × Link → Bool) (numbers : List ℕ) → links_at rows (map (λ (e : ℕ × Link). e.0) (filter keep (links_at rows numbers))) ≡ filter keep (links_at rows numbers)
at-kept rows keep [] = refl
at-kept rows keep (id ∷ numbers) = elim (cases_Bool (keep (link_numbered rows id))) [
  | inl stays ↦ rw stays (ap (λ (rest : Links). link_numbered rows id ∷ rest) (at-kept rows keep numbers))
  | inr goes ↦ rw goes (at-kept rows keep numbers)
]

-- ---- the search among numbers is one among their links

module _ (table : List (ℕ × ℕ)) (rows : Links) (numbers : List ℕ) (wanted : List ℕ) where
  at_place : (P : Ordering → Type 0) (k : ℕ) (e : ℕ × Link) → k < length numbers → P (cmp_keys (name_key table (link_numbered rows (get_or numbers k 0))) wanted) → P (cmp_keys (name_key table (get_or (links_at rows numbers) k e)) wanted)
  at_place P k e within here = subst (λ x. P (cmp_keys (name_key table x) wanted)) (sym (get_or-map (link_numbered rows) numbers k 0 e within)) here

  rises_at : (j k d : ℕ) → j ≤ k → k < length numbers → IsNonDecreasingBy (λ e. ordering_index (cmp_keys (name_key table e) wanted)) (links_at rows numbers)
      → ordering_index (cmp_keys (name_key table (link_numbered rows (get_or numbers j d))) wanted) ≤ ordering_index (cmp_keys (name_key table (link_numbered rows (get_or numbers k d))) wanted)
  rises_at j k d le inside rise =
      let more = rise j k (link_numbered rows d) le (rw (length-map numbers (link_numbered rows)) inside) in
      let at_j = get_or-map (link_numbered rows) numbers j d (link_numbered rows d) (omega arith) in
      let at_k = get_or-map (link_numbered rows) numbers k d (link_numbered rows d) inside in
      subst (λ x. ordering_index (cmp_keys (name_key table x) wanted) ≤ ordering_index (cmp_keys (name_key table (link_numbered rows (get_or numbers k d))) wanted)) at_j
      (subst (λ y. ordering_index (cmp_keys (name_key table (get_or (links_at rows numbers) j (link_numbered rows d))) wanted) ≤ ordering_index (cmp_keys (name_key table y) wanted)) at_k more)

  links-searched : (r : Result ℕ ℕ) → IsSearchInRange r (length numbers) → IsBinarySearchResult (λ id. cmp_keys (name_key table (link_numbered rows id)) wanted) numbers r
      → IsBinarySearchResult (λ e. cmp_keys (name_key table e) wanted) (links_at rows numbers) r
  links-searched (Ok i) within equal = λ e. at_place (λ o. o ≡ Equal) i e within (equal 0)
  links-searched (Err i) within parted = λ rise.
      let parts = parted (λ j k d le inside. rises_at j k d le inside rise) in (
        λ k e from below. at_place (λ o. o ≡ Less) k e (omega arith) (parts.0 k 0 from below),
        λ k e from inside. (let short : k < length numbers = rw (length-map numbers (link_numbered rows)) at inside in at_place (λ o. o ≡ Greater) k e short (parts.1 k 0 from short)),
      )

  pub place-of : AreInKeyOrder (name_key table) (links_at rows numbers) → (r : Result ℕ ℕ) → IsSearchInRange r (length numbers) → IsBinarySearchResult (λ id. cmp_keys (name_key table (link_numbered rows id)) wanted) numbers r
      → IsKeyPlace (name_key table) (links_at rows numbers) wanted r
  place-of ordered r within searched =
      place-searched (name_key table) (links_at rows numbers) wanted ordered r (rw (length-map numbers (link_numbered rows)) within) (links-searched r within searched)

-- ---- a name that is found, or not

number-of : (rows : Links) (o : Option ℕ) → o ≡ option_map (λ (e : ℕ × Link). e.0) (option_map (link_numbered rows) o)
number-of rows None = refl
number-of rows (Some id) = refl

pub number-at : (rows : Links) (numbers : List ℕ) (i : ℕ) → slice_get numbers i ≡ option_map (λ (e : ℕ × Link). e.0) (slice_get (links_at rows numbers) i)
number-at rows numbers i = number-of rows (slice_get numbers i) ∙ ap (option_map (λ (e : ℕ × Link). e.0)) (sym (slice_get-map (link_numbered rows) numbers i))

module _ (table : List (ℕ × ℕ)) (rows : Links) (numbers name : List ℕ) where
  named-found : find (λ e. is_eq (cmp_keys (name_key table e) (upcased table name))) (links_at rows numbers) ≡ find (λ e. same_name table e.1.name name) (links_at rows numbers)
  named-found =
      find-same (λ e. is_eq (cmp_keys (name_key table e) (upcased table name))) (λ e. same_name table e.1.name name) (links_at rows numbers) (λ e. sym (same-key table e.1.name name))

  pub child-here : (i : ℕ) → IsKeyPlace (name_key table) (links_at rows numbers) (upcased table name) (Ok i)
      → slice_get numbers i ≡ option_map (λ (e : ℕ × Link). e.0) (find (λ e. same_name table e.1.name name) (links_at rows numbers))
  child-here i place = number-at rows numbers i ∙ ap (option_map (λ (e : ℕ × Link). e.0)) (found-here (name_key table) (links_at rows numbers) (upcased table name) i place ∙ named-found)

  pub child-none : (i : ℕ) → IsKeyPlace (name_key table) (links_at rows numbers) (upcased table name) (Err i)
      → None ≡ option_map (λ (e : ℕ × Link). e.0) (find (λ e. same_name table e.1.name name) (links_at rows numbers))
  child-none i place = ap (option_map (λ (e : ℕ × Link). e.0)) (sym (found-none (name_key table) (links_at rows numbers) (upcased table name) i place) ∙ named-found)

-- ---- where the links behind a name begin

module _ (table : List (ℕ × ℕ)) (name : List ℕ) where
  after-not : (o : Ordering) (e : ℕ × Link) → cmp_keys (name_key table e) (upcased table name) ≡ o → is_lt (ordering_reverse o) ≡ false → is_lt (cmp_name table name e.1.name) ≡ false
  after-not o e is low = ap is_lt (nat_list_cmp_total.antisymm (upcased table name) (upcased table e.1.name) ∙ ap ordering_reverse is) ∙ low

  after-each : (e : ℕ × Link) → cmp_keys (name_key table e) (upcased table name) ≡ Greater → is_lt (cmp_name table name e.1.name) ≡ true
  after-each e greater = ap is_lt (greater-back (upcased table e.1.name) (upcased table name) greater)

  module _ (items : Links) (i : ℕ) where
    pub begin-here : IsKeyPlace (name_key table) items (upcased table name) (Ok i) → IsBegin table items (Some name) (i + 1)
    begin-here place = record {
      before = λ k d from below. elim (cases_lt k i) [
        | inl less ↦ after-not Less (get_or items k d) (place.1 k d from less) refl
        | inr more ↦ (let same : k ≡ i = omega arith in rw same (after-not Equal (get_or items i d) (place.2 d) refl))
      ];
      behind = λ k d from within. after-each (get_or items k d) (place.3 k d from within);
    }

    pub begin-new : IsKeyPlace (name_key table) items (upcased table name) (Err i) → IsBegin table items (Some name) i
    begin-new place = record {
      before = λ k d from below. after-not Less (get_or items k d) (place.1 k d from below) refl;
      behind = λ k d from within. after-each (get_or items k d) (place.2 k d from within);
    }

-- ---- a number that is put in, or taken out

module _ (f : ℕ × Link → ℕ) where
  map-insert : (xs : Links) (i : ℕ) (x : ℕ × Link) → insert (map f xs) i (f x) ≡ map f (insert xs i x)
  map-insert [] zero x = refl
  map-insert [] (suc i) x = refl
  map-insert (y ∷ xs) zero x = refl
  map-insert (y ∷ xs) (suc i) x = ap (λ (rest : List ℕ). f y ∷ rest) (map-insert xs i x)

  map-remove : (xs : Links) (i : ℕ) → remove (map f xs) i ≡ map f (remove xs i)
  map-remove [] zero = refl
  map-remove [] (suc i) = refl
  map-remove (y ∷ xs) zero = refl
  map-remove (y ∷ xs) (suc i) = ap (λ (rest : List ℕ). f y ∷ rest) (map-remove xs i)

module _ (table : List (ℕ × ℕ)) (items : Links) (x : ℕ × Link) (i : ℕ) (place : IsKeyPlace (name_key table) items (name_key table x) (Err i)) where
  -- what each item has, where one is put in
  pub mapped-put : (f : ℕ × Link → ℕ) (ys : List ℕ) → ys ≡ map f items → insert ys i (f x) ≡ map f (put_in_order (is_key_before (name_key table)) x items)
  mapped-put f ys are = ap (λ (l : List ℕ). insert l i (f x)) are ∙ map-insert f items i x ∙ ap (map f) (with-here (name_key table) items x i place)

pub filter-where : (p q : ℕ × Link → Bool) (xs : Links) → All (λ e. p e ≡ q e) xs → filter p xs ≡ filter q xs
filter-where p q [] same = refl
filter-where p q (x ∷ xs) same =
    let here : p x ≡ q x = same 0 x (omega arith) in
    let rest = filter-where p q xs (λ k d within. same (suc k) d (omega arith)) in
    elim (cases_Bool (q x)) [
      | inl stays ↦ (let also : p x ≡ true = here ∙ stays in rw (stays, also) (ap (λ (l : Links). x ∷ l) rest))
      | inr goes ↦ (let also : p x ≡ false = here ∙ goes in rw (goes, also) rest)
    ]

module _ (table : List (ℕ × ℕ)) (items : Links) (name : List ℕ) (i : ℕ) where
  same-kept : filter (λ e. not (is_eq (cmp_keys (name_key table e) (upcased table name)))) items ≡ filter (λ e. not (same_name table e.1.name name)) items
  same-kept = filter-where (λ e. not (is_eq (cmp_keys (name_key table e) (upcased table name)))) (λ e. not (same_name table e.1.name name)) items
      (λ k d within. ap not (sym (same-key table (get_or items k d).1.name name)))

  -- .. and where that of a name is taken out
  pub mapped-taken : (f : ℕ × Link → ℕ) (ys : List ℕ) → ys ≡ map f items → IsKeyPlace (name_key table) items (upcased table name) (Ok i) → remove ys i ≡ map f (filter (λ e. not (same_name table e.1.name name)) items)
  mapped-taken f ys are place = ap (λ (l : List ℕ). remove l i) are ∙ map-remove f items i ∙ ap (map f) (without-here (name_key table) items (upcased table name) i place ∙ same-kept)

  -- .. or there is none
  pub mapped-none : (f : ℕ × Link → ℕ) (ys : List ℕ) → ys ≡ map f items → IsKeyPlace (name_key table) items (upcased table name) (Err i) → ys ≡ map f (filter (λ e. not (same_name table e.1.name name)) items)
  mapped-none f ys are place = are ∙ ap (map f) (without-none (name_key table) items (upcased table name) i place ∙ same-kept)

-- ---- the links stay in order

-- the links of numbers with one more are the links of these numbers with one more
at-put : (rows : Links) (id : ℕ) (before : ℕ × Link → ℕ × Link → Bool) (numbers : List ℕ)
    → links_at rows (map (λ (e : ℕ × Link). e.0) (put_in_order before (link_numbered rows id) (links_at rows numbers))) ≡ put_in_order before (link_numbered rows id) (links_at rows numbers)
at-put rows id before [] = refl
at-put rows id before (n ∷ numbers) = elim (cases_Bool (before (link_numbered rows id) (link_numbered rows n))) [
  | inl less ↦ rw less (ap (λ (rest : List ℕ). link_numbered rows id ∷ link_numbered rows n ∷ links_at rows rest) (numbers-at rows numbers))
  | inr more ↦ rw more (ap (λ (rest : Links). link_numbered rows n ∷ rest) (at-put rows id before numbers))
]

module _ (table : List (ℕ × ℕ)) (rows : Links) (name : List ℕ) (old new : DirectoryView) (order : AreInNameOrder table rows old) where
  -- .. once one is put in, in a table that has it under its name
  pub put-stays : (newer : Links) (id : ℕ) → All (λ e. same_name table e.1.name name ≡ false) (links_at rows old.numbers) → IsNamePut table rows id name old new → links_at newer old.numbers ≡ links_at rows old.numbers
      → (link_numbered newer id).1.name ≡ name → AreInNameOrder table newer new
  put-stays newer id apart put same named =
      let x : ℕ × Link = link_numbered newer id in
      let before : ℕ × Link → ℕ × Link → Bool = is_key_before (name_key table) in
      let is : put_in_order before (id, record { parent = x.1.parent; name = name; file = x.1.file; deleted = x.1.deleted }) (links_at rows old.numbers) ≡ put_in_order before x (links_at newer old.numbers)
      = ap (λ (n : List ℕ). put_in_order before (id, record { parent = x.1.parent; name = n; file = x.1.file; deleted = x.1.deleted }) (links_at rows old.numbers)) (sym named) ∙ ap (put_in_order before x) (sym same) in
      let listed : links_at newer new.numbers ≡ put_in_order before x (links_at newer old.numbers)
      = ap (links_at newer) (put.numbers x.1.parent x.1.file x.1.deleted ∙ ap (map (λ (e : ℕ × Link). e.0)) is) ∙ at-put newer id before old.numbers in
      record {
        ordered = rw (listed, same) (put-ordered (name_key table) x (links_at rows old.numbers)
            (λ k d within. sym (same-key table x.1.name (get_or (links_at rows old.numbers) k d).1.name) ∙ ap (λ (n : List ℕ). same_name table n (get_or (links_at rows old.numbers) k d).1.name) named
            ∙ name-swap table name (get_or (links_at rows old.numbers) k d).1.name ∙ apart k d within) order.ordered);
        heads = put.heads x.1.parent x.1.file x.1.deleted ∙ ap (map (link_head table)) (is ∙ sym listed);
      }

  -- .. and once one is taken out
  pub taken-stays : IsNameTaken table rows name old new → AreInNameOrder table rows new
  taken-stays taken =
      let keep : ℕ × Link → Bool = λ e. not (same_name table e.1.name name) in
      let listed : links_at rows new.numbers ≡ filter keep (links_at rows old.numbers) = ap (links_at rows) taken.numbers ∙ at-kept rows keep old.numbers in
      record {
        ordered = rw listed (AllPairs-filter (λ one other. cmp_keys (name_key table one) (name_key table other) ≡ Less) keep (links_at rows old.numbers) order.ordered);
        heads = taken.heads ∙ ap (map (link_head table)) (sym listed);
      }
