-- The links of a directory in the order of names: what its index tells of them, and what they are once a link comes,
-- goes, or gets another name.
use Rattle.std.proofs.Common.{◌≡◌, ℕ, suc, ◌<◌, Bool, true, false, not, List, [], ◌∷◌, ◌++◌, length, get_or, refl, ap, subst, sym, arith, inl, inr, Option, Some, ◌∙◌}
use Rattle.std.specs.Prelude.{◌==◌, ◌&&◌, map}
use Rattle.std.specs.List.{All, AllPairs, filter, find, list_any}
use Rattle.std.specs.Ordering.{is_eq}
use Rattle.std.proofs.lemmas.Bool.{and_parts, cases_Bool, eq-eqb, eqb-true}
use Rattle.std.proofs.lemmas.Cmp.{nat_list_cmp_total, tied_itself}
use Rattle.std.proofs.lemmas.List.{append-nil}
use Rattle.std.proofs.lemmas.List.Elements.{All-cons, All-filter, filter-append, filter_passes}
use Rattle.std.proofs.lemmas.List.Kept.{AllPairs-filter}
use Rattle.fsa_types.specs.CaseTable.{same_name, upcased}
use Rattle.fsa_types.specs.Rows.{IsNumbered, row_of, with_row_changed, without_row}
use Rattle.fsa_types.specs.Sorting.{in_order, put_in_order}
use Rattle.fsa_types.proofs.RowLemmas.{with_row_changed-above, without_row-above}
use Rattle.fsa_model.specs.Lookups.{is_named}
use Rattle.fsa_model.specs.Volume.{Link}
use Rattle.fsa_model.proofs.RowLaws.{AllPairs-map, change_at, change_at-number, change_at-same, eqb-swap, find-same, none-all, row_of-all}
use Rattle.link_index.specs.Keyed.{AreInKeyOrder, KeysDiffer, cmp_keys, is_key_before}
use Rattle.link_index.proofs.KeyLaws.{All-in_order, in_order-added, in_order-ordered, in_order-removed, key-in_order, put-both}
use Rattle.volume_rows.specs.Children.{is_name_after, links_after}
use Rattle.link_index.specs.Beginnings.{name_key}
use Rattle.volume_tables.specs.Directories.{HasLinksOf, NamesDiffer, links_by_name, links_in}
use Rattle.link_index.specs.Heads.{head_of, link_head}
use Rattle.link_index.specs.Directory.{AreInNameOrder, DirectoryView, links_at}
use Rattle.link_index.proofs.NameLemmas.{Links, at-found, filter-where, found-each, name-swap, same-key}

-- ---- some of some

filter-both : (p q : ℕ × Link → Bool) (xs : Links) → filter p (filter q xs) ≡ filter (λ e. q e && p e) xs
filter-both p q [] = refl
filter-both p q (x ∷ xs) = elim (cases_Bool (q x)) [
  | inl within ↦ elim (cases_Bool (p x)) [
    | inl stays ↦ rw (within, stays) (ap (λ (l : Links). x ∷ l) (filter-both p q xs))
    | inr goes ↦ rw (within, goes) (filter-both p q xs)
  ]
  | inr outside ↦ rw outside (filter-both p q xs)
]

find-both : (p q : ℕ × Link → Bool) (xs : Links) → find p (filter q xs) ≡ find (λ e. q e && p e) xs
find-both p q [] = refl
find-both p q (x ∷ xs) = elim (cases_Bool (q x)) [
  | inl within ↦ elim (cases_Bool (p x)) [
    | inl found ↦ rw (within, found) refl
    | inr other ↦ rw (within, other) (find-both p q xs)
  ]
  | inr outside ↦ rw outside (find-both p q xs)
]

abbrev pub is_in : ℕ → ℕ × Link → Bool
is_in dir entry = entry.1.parent == dir

-- ---- one directory

module _ (table : List (ℕ × ℕ)) (dir : ℕ) (rows : Links) where
  -- the names in it differ
  keys-differ : NamesDiffer table rows → KeysDiffer (name_key table) (links_in dir rows)
  keys-differ differ i j d less within =
      let links : Links = links_in dir rows in
      let a : ℕ × Link = get_or links i d in
      let b : ℕ × Link = get_or links j d in
      let apart : (a.1.parent == b.1.parent && same_name table a.1.name b.1.name) ≡ false
      = AllPairs-filter (λ one other. is_named table other.1.parent other.1.name one.1 ≡ false) (is_in dir) rows differ i j d less within in
      let first : (a.1.parent == dir) ≡ true = filter_passes (is_in dir) rows i d (omega arith) in
      let second : (b.1.parent == dir) ≡ true = filter_passes (is_in dir) rows j d within in
      let same : (a.1.parent == b.1.parent) ≡ true = eq-eqb a.1.parent b.1.parent (eqb-true a.1.parent dir first ∙ sym (eqb-true b.1.parent dir second)) in
      sym (same-key table a.1.name b.1.name) ∙ rw same at apart

  -- a name that none of its links has
  keys-apart : (name : List ℕ) → All (λ e. is_named table dir name e.1 ≡ false) rows → All (λ e. is_eq (cmp_keys (name_key table e) (upcased table name)) ≡ false) (links_in dir rows)
  keys-apart name none k d within =
      let e : ℕ × Link = get_or (links_in dir rows) k d in
      let apart : (e.1.parent == dir && same_name table e.1.name name) ≡ false = All-filter (is_in dir) (λ (x : ℕ × Link). is_named table dir name x.1 ≡ false) rows none k d within in
      let here : (e.1.parent == dir) ≡ true = filter_passes (is_in dir) rows k d within in
      sym (same-key table e.1.name name) ∙ rw here at apart

  -- a name that none of them has
  pub listed-without : (name : List ℕ) → All (λ (e : ℕ × Link). is_named table dir name e.1 ≡ false) rows → All (λ (e : ℕ × Link). same_name table e.1.name name ≡ false) (links_by_name table dir rows)
  listed-without name none =
      All-in_order (name_key table) (λ (e : ℕ × Link). same_name table e.1.name name ≡ false) (links_in dir rows)
      (λ k d within. same-key table (get_or (links_in dir rows) k d).1.name name ∙ keys-apart name none k d within)

  module _ (last : ℕ) (numbered : IsNumbered rows last) (numbers : List ℕ) (are : numbers ≡ map (λ (e : ℕ × Link). e.0) (links_by_name table dir rows)) where
    -- the links of its numbers
    pub links-listed : links_at rows numbers ≡ links_by_name table dir rows
    links-listed = ap (links_at rows) are
        ∙ at-found rows (links_by_name table dir rows)
        (All-in_order (name_key table) (λ (e : ℕ × Link). row_of rows e.0 ≡ Some e.1) (links_in dir rows) (All-filter (is_in dir) (λ (e : ℕ × Link). row_of rows e.0 ≡ Some e.1) rows (found-each rows last numbered)))

    -- a name is found among them or not at all
    pub child-listed : (name : List ℕ) → NamesDiffer table rows → find (λ (e : ℕ × Link). same_name table e.1.name name) (links_at rows numbers) ≡ find (λ (e : ℕ × Link). is_named table dir name e.1) rows
    child-listed name differ =
        let wanted : ℕ × Link → Bool = λ e. is_eq (cmp_keys (name_key table e) (upcased table name)) in
        let named : ℕ × Link → Bool = λ e. same_name table e.1.name name in
        find-same named wanted (links_at rows numbers) (λ e. same-key table e.1.name name)
        ∙ ap (find wanted) links-listed
        ∙ key-in_order (name_key table) (links_in dir rows) (upcased table name) (keys-differ differ)
        ∙ find-same wanted named (links_in dir rows) (λ e. sym (same-key table e.1.name name))
        ∙ find-both named (is_in dir) rows

    -- those behind a name
    pub children-listed : (after : Option (List ℕ)) → NamesDiffer table rows → filter (λ (e : ℕ × Link). is_name_after table after e.1.name) (links_at rows numbers) ≡ links_after table dir after rows
    children-listed after differ =
        let test : ℕ × Link → Bool = λ e. is_name_after table after e.1.name in
        ap (filter test) links-listed
        ∙ sym (in_order-removed (name_key table) test (links_in dir rows) (keys-differ differ))
        ∙ ap (in_order (is_key_before (name_key table))) (filter-both test (is_in dir) rows)

    -- a name that is new to the directory is new to them
    pub listed-new : (name : List ℕ) → All (λ (e : ℕ × Link). is_named table dir name e.1 ≡ false) rows → All (λ (e : ℕ × Link). same_name table e.1.name name ≡ false) (links_at rows numbers)
    listed-new name none =
        rw links-listed (listed-without name none)

  -- those that are left once one is taken out, still looked up among all
  pub kept-listed : (last : ℕ) → IsNumbered rows last → (id : ℕ) (numbers : List ℕ) → numbers ≡ map (λ (e : ℕ × Link). e.0) (links_by_name table dir (without_row rows id)) → links_at rows numbers ≡ links_by_name table dir (without_row rows id)
  kept-listed last numbered id numbers are = ap (links_at rows) are
      ∙ at-found rows (links_by_name table dir (without_row rows id))
      (All-in_order (name_key table) (λ (e : ℕ × Link). row_of rows e.0 ≡ Some e.1) (links_in dir (without_row rows id))
      (All-filter (is_in dir) (λ (e : ℕ × Link). row_of rows e.0 ≡ Some e.1) (without_row rows id) (All-filter (λ e. not (e.0 == id)) (λ (e : ℕ × Link). row_of rows e.0 ≡ Some e.1) rows (found-each rows last numbered))))

  pub listed-ordered : NamesDiffer table rows → AreInKeyOrder (name_key table) (links_by_name table dir rows)
  listed-ordered differ = in_order-ordered (name_key table) (links_in dir rows) (keys-differ differ)

-- the index of a directory is in the order of names
pub index-ordered : (table : List (ℕ × ℕ)) (dir : ℕ) (rows : Links) (last : ℕ) (index : DirectoryView) → IsNumbered rows last → NamesDiffer table rows → HasLinksOf table rows dir index → AreInNameOrder table rows index
index-ordered table dir rows last index numbered differ has =
    let listed = links-listed table dir rows last numbered index.numbers has.numbers in
    record {
      ordered = rw listed (listed-ordered table dir rows differ);
      heads = has.heads ∙ ap (map (link_head table)) (sym listed);
    }

-- ---- a link that comes

module _ (table : List (ℕ × ℕ)) (dir : ℕ) (rows : Links) (id : ℕ) (link : Link) where
  pub added-here : (link.parent == dir) ≡ true → All (λ (e : ℕ × Link). is_named table dir link.name e.1 ≡ false) rows
      → links_by_name table dir (rows ++ (id, link) ∷ []) ≡ put_in_order (is_key_before (name_key table)) (id, link) (links_by_name table dir rows)
  added-here here none =
      let last : filter (is_in dir) ((id, link) ∷ []) ≡ (id, link) ∷ [] = rw here refl in
      ap (in_order (is_key_before (name_key table))) (filter-append (is_in dir) rows ((id, link) ∷ []) ∙ ap (λ (l : Links). links_in dir rows ++ l) last)
      ∙ in_order-added (name_key table) (links_in dir rows) (id, link) (keys-apart table dir rows link.name none)

  pub added-beside : (link.parent == dir) ≡ false → links_by_name table dir (rows ++ (id, link) ∷ []) ≡ links_by_name table dir rows
  added-beside other =
      let last : filter (is_in dir) ((id, link) ∷ []) ≡ [] = rw other refl in
      ap (in_order (is_key_before (name_key table))) (filter-append (is_in dir) rows ((id, link) ∷ []) ∙ ap (λ (l : Links). links_in dir rows ++ l) last ∙ append-nil (links_in dir rows))

-- ---- one that goes

pub name-itself : (table : List (ℕ × ℕ)) (name : List ℕ) → same_name table name name ≡ true
name-itself table name = same-key table name name ∙ ap is_eq (tied_itself nat_list_cmp_total (upcased table name))

pub named-itself : (table : List (ℕ × ℕ)) (link : Link) → is_named table link.parent link.name link ≡ true
named-itself table link = let here : (link.parent == link.parent) ≡ true = eq-eqb link.parent link.parent refl in rw (here, name-itself table link.name) refl

named-swap : (table : List (ℕ × ℕ)) (a b : Link) → is_named table a.parent a.name b ≡ is_named table b.parent b.name a
named-swap table a b = rw (eqb-swap b.parent a.parent, name-swap table b.name a.name) refl

module _ (table : List (ℕ × ℕ)) (id : ℕ) (row : Link) where
  -- only the link of this number has its name
  named-only : (rows : Links) → AllPairs (λ (a : ℕ × Link) b. a.0 < b.0) rows → NamesDiffer table rows → row_of rows id ≡ Some row → All (λ (e : ℕ × Link). is_named table row.parent row.name e.1 ≡ (e.0 == id)) rows
  named-only [] rising differ found = λ k d within. absurd (omega arith)
  named-only (x ∷ rows) rising differ found = elim (cases_Bool (x.0 == id)) [
    | inl here ↦ first here (rw here at found)
    | inr other ↦ All-cons (λ (e : ℕ × Link). is_named table row.parent row.name e.1 ≡ (e.0 == id)) x rows
        (row_of-all (λ link. is_named table link.parent link.name x.1 ≡ false) rows id row (rw other at found) (λ k d within. differ 0 (suc k) d (omega arith) (omega arith)) ∙ sym other)
        (named-only rows (λ j k d below within. rising (suc j) (suc k) d (omega arith) (omega arith)) (λ j k d below within. differ (suc j) (suc k) d (omega arith) (omega arith)) (rw other at found))
  ]
    where
      first : (x.0 == id) ≡ true → Some x.1 ≡ Some row → All (λ (e : ℕ × Link). is_named table row.parent row.name e.1 ≡ (e.0 == id)) (x ∷ rows)
      first here is =
          let same : x.1 ≡ row = cc in
          let number : x.0 ≡ id = eqb-true x.0 id here in
          All-cons (λ (e : ℕ × Link). is_named table row.parent row.name e.1 ≡ (e.0 == id)) x rows
          (subst (λ link. is_named table link.parent link.name x.1 ≡ (x.0 == id)) same (named-itself table x.1 ∙ sym here))
          (λ k d within. subst (λ link. is_named table link.parent link.name (get_or rows k d).1 ≡ ((get_or rows k d).0 == id)) same
          (named-swap table x.1 (get_or rows k d).1 ∙ differ 0 (suc k) d (omega arith) (omega arith) ∙ sym (later k d within number)))
        where
          later : (k : ℕ) (d : ℕ × Link) → k < length rows → x.0 ≡ id → ((get_or rows k d).0 == id) ≡ false
          later k d within number = elim (cases_Bool ((get_or rows k d).0 == id)) [
            | inl also ↦ (let equal : (get_or rows k d).0 ≡ id = eqb-true (get_or rows k d).0 id also in let more = rising 0 (suc k) d (omega arith) (omega arith) in absurd (omega arith))
            | inr apart ↦ apart
          ]

  module _ (rows : Links) (last : ℕ) (numbered : IsNumbered rows last) (differ : NamesDiffer table rows) (found : row_of rows id ≡ Some row) where
    only : All (λ (e : ℕ × Link). is_named table row.parent row.name e.1 ≡ (e.0 == id)) rows
    only = named-only rows numbered.rising differ found

    -- out of its directory goes what has its name
    pub gone-here : filter (λ (e : ℕ × Link). not (same_name table e.1.name row.name)) (links_by_name table row.parent rows) ≡ links_by_name table row.parent (without_row rows id)
    gone-here =
        let keep : ℕ × Link → Bool = λ e. not (same_name table e.1.name row.name) in
        sym (in_order-removed (name_key table) keep (links_in row.parent rows) (keys-differ table row.parent rows differ))
        ∙ ap (in_order (is_key_before (name_key table)))
        (filter-both keep (is_in row.parent) rows
        ∙ filter-where (λ e. is_in row.parent e && keep e) (λ e. not (e.0 == id) && is_in row.parent e) rows (λ k d within. one (get_or rows k d) (only k d within))
        ∙ sym (filter-both (is_in row.parent) (λ e. not (e.0 == id)) rows))
      where
        both : (p s : Bool) → (p && not s) ≡ (not (p && s) && p)
        both true true = refl
        both true false = refl
        both false s = refl

        one : (e : ℕ × Link) → is_named table row.parent row.name e.1 ≡ (e.0 == id) → (is_in row.parent e && not (same_name table e.1.name row.name)) ≡ (not (e.0 == id) && is_in row.parent e)
        one e is = both (e.1.parent == row.parent) (same_name table e.1.name row.name) ∙ ap (λ b. not b && is_in row.parent e) is

    -- the other directories keep theirs
    pub gone-beside : (dir : ℕ) → (row.parent == dir) ≡ false → links_by_name table dir (without_row rows id) ≡ links_by_name table dir rows
    gone-beside dir other =
        ap (in_order (is_key_before (name_key table)))
        (filter-both (is_in dir) (λ e. not (e.0 == id)) rows
        ∙ filter-where (λ e. not (e.0 == id) && is_in dir e) (is_in dir) rows (λ k d within. one (get_or rows k d) (only k d within)))
      where
        one : (e : ℕ × Link) → is_named table row.parent row.name e.1 ≡ (e.0 == id) → (not (e.0 == id) && is_in dir e) ≡ is_in dir e
        one e is = elim (cases_Bool (e.0 == id)) [
          | inl here ↦ (let parent : (e.1.parent == row.parent) ≡ true = (and_parts (e.1.parent == row.parent) (same_name table e.1.name row.name) (is ∙ here)).0 in
              let out : (e.1.parent == dir) ≡ false = ap (λ (p : ℕ). p == dir) (eqb-true e.1.parent row.parent parent) ∙ other in
              rw (here, out) refl)
          | inr apart ↦ rw apart refl
        ]

pub differ-without : (table : List (ℕ × ℕ)) (rows : Links) (id : ℕ) → NamesDiffer table rows → NamesDiffer table (without_row rows id)
differ-without table rows id differ = AllPairs-filter (λ a b. is_named table b.1.parent b.1.name a.1 ≡ false) (λ e. not (e.0 == id)) rows differ

-- ---- one that is marked keeps its place

module _ (table : List (ℕ × ℕ)) (change : Link → Link) (id : ℕ) (parent_kept : (link : Link) → (change link).parent ≡ link.parent) (name_kept : (link : Link) → (change link).name ≡ link.name) where
  before-at : (x y : ℕ × Link) → is_key_before (name_key table) (change_at change id x) (change_at change id y) ≡ is_key_before (name_key table) x y
  before-at x y = rw (change_at-same change id (λ link. link.name) name_kept x, change_at-same change id (λ link. link.name) name_kept y) refl

  put-at : (x : ℕ × Link) (ys : Links) → put_in_order (is_key_before (name_key table)) (change_at change id x) (map (change_at change id) ys) ≡ map (change_at change id) (put_in_order (is_key_before (name_key table)) x ys)
  put-at x [] = refl
  put-at x (y ∷ ys) = elim (cases_Bool (is_key_before (name_key table) x y)) [
    | inl less ↦ (let also : is_key_before (name_key table) (change_at change id x) (change_at change id y) ≡ true = before-at x y ∙ less in rw (less, also) refl)
    | inr more ↦ (let also : is_key_before (name_key table) (change_at change id x) (change_at change id y) ≡ false = before-at x y ∙ more in
        rw (more, also) (ap (λ (rest : Links). change_at change id y ∷ rest) (put-at x ys)))
  ]

  in_order-at : (xs : Links) → in_order (is_key_before (name_key table)) (map (change_at change id) xs) ≡ map (change_at change id) (in_order (is_key_before (name_key table)) xs)
  in_order-at [] = refl
  in_order-at (x ∷ xs) = ap (put_in_order (is_key_before (name_key table)) (change_at change id x)) (in_order-at xs) ∙ put-at x (in_order (is_key_before (name_key table)) xs)

  links_in-at : (dir : ℕ) (xs : Links) → links_in dir (map (change_at change id) xs) ≡ map (change_at change id) (links_in dir xs)
  links_in-at dir [] = refl
  links_in-at dir (x ∷ xs) =
      let same : is_in dir (change_at change id x) ≡ is_in dir x = ap (λ (p : ℕ). p == dir) (change_at-same change id (λ link. link.parent) parent_kept x) in
      elim (cases_Bool (is_in dir x)) [
        | inl within ↦ (let also : is_in dir (change_at change id x) ≡ true = same ∙ within in rw (within, also) (ap (λ (rest : Links). change_at change id x ∷ rest) (links_in-at dir xs)))
        | inr outside ↦ (let also : is_in dir (change_at change id x) ≡ false = same ∙ outside in rw (outside, also) (links_in-at dir xs))
      ]

  numbers-at_change : (xs : Links) → map (λ (e : ℕ × Link). e.0) (map (change_at change id) xs) ≡ map (λ (e : ℕ × Link). e.0) xs
  numbers-at_change [] = refl
  numbers-at_change (x ∷ xs) = (λ i. change_at-number change id x i ∷ numbers-at_change xs i)

  heads-at_change : (xs : Links) → map (link_head table) (map (change_at change id) xs) ≡ map (link_head table) xs
  heads-at_change [] = refl
  heads-at_change (x ∷ xs) = (λ i. head_of table (change_at-same change id (λ link. link.name) name_kept x i) ∷ heads-at_change xs i)

  listed-at : (dir : ℕ) (rows : Links) → links_by_name table dir (with_row_changed change rows id) ≡ map (change_at change id) (links_by_name table dir rows)
  listed-at dir rows = ap (in_order (is_key_before (name_key table))) (links_in-at dir rows) ∙ in_order-at (links_in dir rows)

  pub links-marked : (dir : ℕ) (rows : Links) (index : DirectoryView) → HasLinksOf table rows dir index → HasLinksOf table (with_row_changed change rows id) dir index
  links-marked dir rows index has = record {
    numbers = has.numbers ∙ sym (numbers-at_change (links_by_name table dir rows)) ∙ ap (map (λ (e : ℕ × Link). e.0)) (sym (listed-at dir rows));
    heads = has.heads ∙ sym (heads-at_change (links_by_name table dir rows)) ∙ ap (map (link_head table)) (sym (listed-at dir rows));
  }

  pub differ-marked : (rows : Links) → NamesDiffer table rows → NamesDiffer table (with_row_changed change rows id)
  differ-marked rows differ = AllPairs-map (λ a b. is_named table b.1.parent b.1.name a.1 ≡ false) (change_at change id) rows (λ j k d below within. rw (
    change_at-same change id (λ link. link.parent) parent_kept (get_or rows j d),
    change_at-same change id (λ link. link.parent) parent_kept (get_or rows k d),
    change_at-same change id (λ link. link.name) name_kept (get_or rows j d),
    change_at-same change id (λ link. link.name) name_kept (get_or rows k d),
  ) (differ j k d below within))

-- ---- one that gets another name goes to another place, and mostly to another directory

module _ (table : List (ℕ × ℕ)) (id parent : ℕ) (name : List ℕ) where
  abbrev pub moved : Link → Link
  moved row = record row { parent = parent; name = name }

  module _ (row : Link) where
    pub moved-here : (rows : Links) → AllPairs (λ (a : ℕ × Link) b. a.0 < b.0) rows → row_of rows id ≡ Some row
        → All (λ (e : ℕ × Link). (e.0 == id) ≡ false → is_named table parent name e.1 ≡ false) rows
        → links_by_name table parent (with_row_changed moved rows id) ≡ put_in_order (is_key_before (name_key table)) (id, moved row) (links_by_name table parent (without_row rows id))
    moved-here [] rising found apart = cc
    moved-here (x ∷ rows) rising found apart = elim (cases_Bool (x.0 == id)) [
      | inl here ↦ first here (rw here at found)
      | inr other ↦ (
          let rest = moved-here rows (λ j k d below within. rising (suc j) (suc k) d (omega arith) (omega arith)) (rw other at found) (λ k d within. apart (suc k) d (omega arith)) in
          elim (cases_Bool (x.1.parent == parent)) [
            | inl within ↦ (
                let differs : is_eq (cmp_keys (name_key table x) (upcased table name)) ≡ false = sym (same-key table x.1.name name) ∙ rw within at (apart 0 x (omega arith) other) in
                rw (other, within) (ap (put_in_order (is_key_before (name_key table)) x) rest ∙ put-both (name_key table) x (id, moved row) (links_by_name table parent (without_row rows id)) differs))
            | inr outside ↦ rw (other, outside) rest
          ])
    ]
      where
        first : (x.0 == id) ≡ true → Some x.1 ≡ Some row
            → links_by_name table parent (with_row_changed moved (x ∷ rows) id) ≡ put_in_order (is_key_before (name_key table)) (id, moved row) (links_by_name table parent (without_row (x ∷ rows) id))
        first here is =
            let same : x.1 ≡ row = cc in
            let number : x.0 ≡ id = eqb-true x.0 id here in
            let within : (parent == parent) ≡ true = eq-eqb parent parent refl in
            let above : All (λ (y : ℕ × Link). id < y.0) rows = λ k d inside. (let more = rising 0 (suc k) d (omega arith) (omega arith) in omega arith) in
            rw (here, with_row_changed-above moved rows id above, without_row-above rows id above, within)
            (λ i. put_in_order (is_key_before (name_key table)) (number i, moved (same i)) (links_by_name table parent rows))

    pub moved-beside : (dir : ℕ) → (parent == dir) ≡ false → (rows : Links) → links_in dir (with_row_changed moved rows id) ≡ links_in dir (without_row rows id)
    moved-beside dir other [] = refl
    moved-beside dir other (x ∷ rows) = elim (cases_Bool (x.0 == id)) [
      | inl here ↦ rw (here, other) (moved-beside dir other rows)
      | inr apart ↦ elim (cases_Bool (x.1.parent == dir)) [
        | inl within ↦ rw (apart, within) (ap (λ (l : Links). x ∷ l) (moved-beside dir other rows))
        | inr outside ↦ rw (apart, outside) (moved-beside dir other rows)
      ]
    ]

  module _ (rows : Links) (last : ℕ) (numbered : IsNumbered rows last) (free : list_any (λ (e : ℕ × Link). not (e.0 == id) && is_named table parent name e.1) rows ≡ false) where
    not_taken : All (λ (e : ℕ × Link). (not (e.0 == id) && is_named table parent name e.1) ≡ false) rows
    not_taken = none-all (λ (e : ℕ × Link). not (e.0 == id) && is_named table parent name e.1) rows free

    pub other-named : All (λ (e : ℕ × Link). (e.0 == id) ≡ false → is_named table parent name e.1 ≡ false) rows
    other-named k d within other = rw other at (not_taken k d within)

    pub without-named : All (λ (e : ℕ × Link). is_named table parent name e.1 ≡ false) (without_row rows id)
    without-named = others rows not_taken
      where
        others : (xs : Links) → All (λ (e : ℕ × Link). (not (e.0 == id) && is_named table parent name e.1) ≡ false) xs → All (λ (e : ℕ × Link). is_named table parent name e.1 ≡ false) (without_row xs id)
        others [] all = λ k d within. absurd (omega arith)
        others (x ∷ xs) all = elim (cases_Bool (x.0 == id)) [
          | inl here ↦ rw here (others xs (λ k d within. all (suc k) d (omega arith)))
          | inr other ↦ rw other (All-cons (λ (e : ℕ × Link). is_named table parent name e.1 ≡ false) x (without_row xs id) (rw other at (all 0 x (omega arith))) (others xs (λ k d within. all (suc k) d (omega arith))))
        ]

    pub differ-moved : NamesDiffer table rows → NamesDiffer table (with_row_changed moved rows id)
    differ-moved differ = AllPairs-map (λ a b. is_named table b.1.parent b.1.name a.1 ≡ false) (change_at moved id) rows
        (λ j k d below within. let before : j < length rows = omega arith in
        elim (cases_Bool ((get_or rows j d).0 == id)) [
          | inl here_j ↦ elim (cases_Bool ((get_or rows k d).0 == id)) [
            | inl here_k ↦ (let rising = numbered.rising j k d below within in
                let same_j = eqb-true (get_or rows j d).0 id here_j in
                let same_k = eqb-true (get_or rows k d).0 id here_k in absurd (omega arith))
            | inr other_k ↦ (let free_k : ((get_or rows k d).1.parent == parent && same_name table (get_or rows k d).1.name name) ≡ false = other-named k d within other_k in
                rw (here_j, other_k, eqb-swap parent (get_or rows k d).1.parent, name-swap table name (get_or rows k d).1.name) free_k)
          ]
          | inr other_j ↦ elim (cases_Bool ((get_or rows k d).0 == id)) [
            | inl here_k ↦ (let free_j : is_named table parent name (get_or rows j d).1 ≡ false = other-named j d before other_j in rw (other_j, here_k) free_j)
            | inr other_k ↦ rw (other_j, other_k) (differ j k d below within)
          ]
        ])
