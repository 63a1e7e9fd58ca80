-- The links of a directory in the order of their names, by their numbers.
use Rattle.std.proofs.Common.{◌≡◌, ℕ, zero, suc, Bool, true, false, List, [], ◌∷◌, get_or, map, refl, ap, sym, ◌∙◌, arith, inl, inr, ◌⊎◌, Option, Some, cond}
use Rattle.std.specs.List.{All, AllPairs, filter}
use Rattle.std.specs.Ordering.{is_eq, is_lt, ordering_reverse}
use Rattle.std.specs.Cmp.Lexicographic.{texts_ties}
use Rattle.std.specs.Prelude.{◌==◌, ◌&&◌}
use Rattle.std.specs.declared.cmp.Ordering.{Ordering}
use Rattle.std.specs.declared.cmp.Ordering.TheVariants.{Less, Equal, Greater}
use Rattle.std.proofs.lemmas.Bool.{cases_Bool, eq-eqb, eqb-true}
use Rattle.std.proofs.lemmas.Cmp.{nat_list_cmp_total}
use Rattle.std.proofs.lemmas.List.Elements.{All-cons, All-filter, All-head, All-tail, filter_passes}
use Rattle.std.proofs.lemmas.List.Kept.{AllPairs-cons, AllPairs-filter}
use Rattle.fsa_types.specs.CaseTable.{cmp_name, same_name, upcased}
use Rattle.fsa_types.specs.Rows.{row_of}
use Rattle.fsa_types.specs.Sorting.{in_order, put_in_order}
use Rattle.fsa_model.specs.Lookups.{is_named}
use Rattle.fsa_model.specs.QueryDir.{is_listed_before, listed_links}
use Rattle.fsa_model.specs.Sound.{IsSound}
use Rattle.fsa_model.specs.Volume.{Link, Volume}
use Rattle.fsa_model.proofs.RowLaws.{row_of-here}
use Rattle.volume_rows.specs.Children.{is_child_after, is_name_after}
use Rattle.volume_state.specs.Children.{children_after, is_unmarked, links_under}

-- ---- the order of names

is_less : (o : Ordering) → is_lt o ≡ true → o ≡ Less
is_less Less is = refl
is_less Equal is = absurd (cc)
is_less Greater is = absurd (cc)

names-trans : (table : List (ℕ × ℕ)) (a b c : List ℕ) → is_lt (cmp_name table a b) ≡ true → is_lt (cmp_name table b c) ≡ true → is_lt (cmp_name table a c) ≡ true
names-trans table a b c ab bc =
    ap is_lt (nat_list_cmp_total.trans (upcased table a) (upcased table b) (upcased table c) (is_less (cmp_name table a b) ab) (is_less (cmp_name table b c) bc))

one-less : (o p : Ordering) → p ≡ ordering_reverse o → is_eq o ≡ false → (is_lt o ≡ true) ⊎ (is_lt p ≡ true)
one-less Less p back differ = inl refl
one-less Equal p back differ = absurd (cc)
one-less Greater p back differ = inr (ap is_lt back)

names-apart : (table : List (ℕ × ℕ)) (a b : List ℕ) → same_name table a b ≡ false → (is_lt (cmp_name table a b) ≡ true) ⊎ (is_lt (cmp_name table b a) ≡ true)
names-apart table a b differ =
    one-less (cmp_name table a b) (cmp_name table b a) (nat_list_cmp_total.antisymm (upcased table b) (upcased table a))
    (sym (texts_ties (upcased table a) (upcased table b)) ∙ differ)

-- ---- lists in order

AllPairs-first : {X : Type 0} (R : X → X → Type 0) (x : X) (xs : List X) → AllPairs R (x ∷ xs) → All (R x) xs
AllPairs-first R x xs pairs k d within = pairs zero (suc k) d (omega arith) (omega arith)

AllPairs-rest : {X : Type 0} (R : X → X → Type 0) (x : X) (xs : List X) → AllPairs R (x ∷ xs) → AllPairs R xs
AllPairs-rest R x xs pairs i j d below within = pairs (suc i) (suc j) d (omega arith) (omega arith)

AllPairs-none : {X : Type 0} (R : X → X → Type 0) → AllPairs R []
AllPairs-none R i j d below within = absurd (omega arith)

All-put : {X : Type 0} (P : X → Type 0) (before : X → X → Bool) (item : X) (items : List X) → P item → All P items → All P (put_in_order before item items)
All-put P before item [] holds all = All-cons P item [] holds all
All-put P before item (first ∷ items) holds all = elim (cases_Bool (before item first)) [
  | inl here ↦ rw here (All-cons P item (first ∷ items) holds all)
  | inr later ↦ rw later (All-cons P first (put_in_order before item items) (All-head P first items all) (All-put P before item items holds (All-tail P first items all)))
]

All-in_order : {X : Type 0} (P : X → Type 0) (before : X → X → Bool) (items : List X) → All P items → All P (in_order before items)
All-in_order P before [] all = all
All-in_order P before (item ∷ items) all = All-put P before item (in_order before items) (All-head P item items all) (All-in_order P before items (All-tail P item items all))

abbrev IsTransitive : {X : Type 0} → (X → X → Bool) → Type 0
IsTransitive {X} before = (a b c : X) → before a b ≡ true → before b c ≡ true → before a c ≡ true

-- each two are in some order; each is before all later ones
abbrev AreApart : {X : Type 0} → (X → X → Bool) → List X → Type 0
AreApart before items = AllPairs (λ a b. (before a b ≡ true) ⊎ (before b a ≡ true)) items

abbrev AreOrdered : {X : Type 0} → (X → X → Bool) → List X → Type 0
AreOrdered before items = AllPairs (λ a b. before a b ≡ true) items

AreOrdered-put : {X : Type 0} (before : X → X → Bool) (item : X) (items : List X) → IsTransitive before → All (λ other. (before item other ≡ true) ⊎ (before other item ≡ true)) items
    → AreOrdered before items → AreOrdered before (put_in_order before item items)
AreOrdered-put before item [] trans apart ordered = AllPairs-cons (λ a b. before a b ≡ true) item [] (λ k d within. absurd (omega arith)) ordered
AreOrdered-put {X} before item (first ∷ items) trans apart ordered =
    let behind : All (λ other. before first other ≡ true) items = AllPairs-first (λ a b. before a b ≡ true) first items ordered in
    let rest : AreOrdered before items = AllPairs-rest (λ a b. before a b ≡ true) first items ordered in
    elim (cases_Bool (before item first)) [
      | inl here ↦ rw here (AllPairs-cons (λ a b. before a b ≡ true) item (first ∷ items)
          (All-cons (λ other. before item other ≡ true) first items here (λ k d within. trans item first (get_or items k d) here (behind k d within))) ordered)
      | inr later ↦ (let less : before first item ≡ true = other-way later (apart zero first (omega arith)) in
          rw later (AllPairs-cons (λ a b. before a b ≡ true) first (put_in_order before item items)
          (All-put (λ other. before first other ≡ true) before item items less behind)
          (AreOrdered-put before item items trans (All-tail (λ other. (before item other ≡ true) ⊎ (before other item ≡ true)) first items apart) rest)))
    ]
  where
    other-way : before item first ≡ false → (before item first ≡ true) ⊎ (before first item ≡ true) → before first item ≡ true
    other-way later (inl is) = absurd (let impossible : false ≡ true = sym later ∙ is in cc)
    other-way later (inr is) = is

AreOrdered-in_order : {X : Type 0} (before : X → X → Bool) (items : List X) → IsTransitive before → AreApart before items → AreOrdered before (in_order before items)
AreOrdered-in_order before [] trans apart = AllPairs-none (λ a b. before a b ≡ true)
AreOrdered-in_order before (item ∷ items) trans apart =
    AreOrdered-put before item (in_order before items) trans
    (All-in_order (λ other. (before item other ≡ true) ⊎ (before other item ≡ true)) before items (AllPairs-first (λ a b. (before a b ≡ true) ⊎ (before b a ≡ true)) item items apart))
    (AreOrdered-in_order before items trans (AllPairs-rest (λ a b. (before a b ≡ true) ⊎ (before b a ≡ true)) item items apart))

-- ---- filters

pub filter-all : {X : Type 0} (p : X → Bool) (xs : List X) → All (λ x. p x ≡ true) xs → filter p xs ≡ xs
filter-all p [] all = refl
filter-all p (x ∷ xs) all =
    let here : p x ≡ true = All-head (λ x. p x ≡ true) x xs all in
    rw here (ap (λ rest. x ∷ rest) (filter-all p xs (All-tail (λ x. p x ≡ true) x xs all)))

pub filter-both : {X : Type 0} (p q : X → Bool) (xs : List X) → filter (λ x. p x && q x) xs ≡ filter q (filter p xs)
filter-both p q [] = refl
filter-both p q (x ∷ xs) = elim (cases_Bool (p x)) [
  | inl yes_p ↦ elim (cases_Bool (q x)) [
    | inl yes_q ↦ rw (yes_p, yes_q) (ap (λ rest. x ∷ rest) (filter-both p q xs))
    | inr no_q ↦ rw (yes_p, no_q) (filter-both p q xs)
  ]
  | inr no_p ↦ rw no_p (filter-both p q xs)
]

filter-swap : {X : Type 0} (p q : X → Bool) (xs : List X) → filter p (filter q xs) ≡ filter q (filter p xs)
filter-swap p q [] = refl
filter-swap p q (x ∷ xs) = elim (cases_Bool (p x)) [
  | inl yes_p ↦ elim (cases_Bool (q x)) [
    | inl yes_q ↦ rw (yes_p, yes_q, yes_p) (ap (λ rest. x ∷ rest) (filter-swap p q xs))
    | inr no_q ↦ rw (yes_p, no_q) (filter-swap p q xs)
  ]
  | inr no_p ↦ elim (cases_Bool (q x)) [
    | inl yes_q ↦ rw (yes_q, no_p) (filter-swap p q xs)
    | inr no_q ↦ rw (no_q, no_p) (filter-swap p q xs)
  ]
]

-- what passes one passes the other
pub filter-stronger : {X : Type 0} (p q : X → Bool) (xs : List X) → ((x : X) → q x ≡ true → p x ≡ true) → filter q (filter p xs) ≡ filter q xs
filter-stronger p q [] weaker = refl
filter-stronger p q (x ∷ xs) weaker = elim (cases_Bool (q x)) [
  | inl yes_q ↦ (let yes_p : p x ≡ true = weaker x yes_q in rw (yes_p, yes_q) (ap (λ rest. x ∷ rest) (filter-stronger p q xs weaker)))
  | inr no_q ↦ elim (cases_Bool (p x)) [
    | inl yes_p ↦ rw (yes_p, no_q) (filter-stronger p q xs weaker)
    | inr no_p ↦ rw (no_p, no_q) (filter-stronger p q xs weaker)
  ]
]

put-first : {X : Type 0} (before : X → X → Bool) (item : X) (items : List X) → All (λ other. before item other ≡ true) items → put_in_order before item items ≡ item ∷ items
put-first before item [] all = refl
put-first before item (first ∷ items) all = let here : before item first ≡ true = All-head (λ other. before item other ≡ true) first items all in rw here refl

filter-put : {X : Type 0} (p : X → Bool) (before : X → X → Bool) (item : X) (items : List X) → IsTransitive before → p item ≡ true → AreOrdered before items
    → filter p (put_in_order before item items) ≡ put_in_order before item (filter p items)
filter-put p before item [] trans kept ordered = rw kept refl
filter-put p before item (first ∷ items) trans kept ordered =
    let behind : All (λ other. before first other ≡ true) items = AllPairs-first (λ a b. before a b ≡ true) first items ordered in
    let more = filter-put p before item items trans kept (AllPairs-rest (λ a b. before a b ≡ true) first items ordered) in
    elim (cases_Bool (before item first)) [
      | inl here ↦ (let all : All (λ other. before item other ≡ true) (first ∷ items) = All-cons (λ other. before item other ≡ true) first items here (λ k d within. trans item first (get_or items k d) here (behind k d within)) in
          let end = put-first before item (filter p (first ∷ items)) (All-filter p (λ other. before item other ≡ true) (first ∷ items) all) in
          ap (filter p) (put-here here) ∙ passes-here kept ∙ sym end)
      | inr later ↦ elim (cases_Bool (p first)) [
        | inl passes ↦ rw (later, passes, later) (ap (λ rest. first ∷ rest) more)
        | inr fails ↦ rw (later, fails) more
      ]
    ]
  where
    put-here : before item first ≡ true → put_in_order before item (first ∷ items) ≡ item ∷ first ∷ items
    put-here here = rw here refl

    passes-here : p item ≡ true → filter p (item ∷ first ∷ items) ≡ item ∷ filter p (first ∷ items)
    passes-here kept = rw kept refl

filter-put_gone : {X : Type 0} (p : X → Bool) (before : X → X → Bool) (item : X) (items : List X) → p item ≡ false → filter p (put_in_order before item items) ≡ filter p items
filter-put_gone p before item [] gone = rw gone refl
filter-put_gone p before item (first ∷ items) gone =
    let more = filter-put_gone p before item items gone in
    elim (cases_Bool (before item first)) [
      | inl here ↦ rw (here, gone) refl
      | inr later ↦ rw later (ap (λ rest. cond (p first) (first ∷ rest) rest) more)
    ]

filter-in_order : {X : Type 0} (p : X → Bool) (before : X → X → Bool) (items : List X) → IsTransitive before → AreApart before items
    → filter p (in_order before items) ≡ in_order before (filter p items)
filter-in_order p before [] trans apart = refl
filter-in_order p before (item ∷ items) trans apart =
    let behind = AllPairs-rest (λ a b. (before a b ≡ true) ⊎ (before b a ≡ true)) item items apart in
    let more = filter-in_order p before items trans behind in
    elim (cases_Bool (p item)) [
      | inl kept ↦ rw kept (filter-put p before item (in_order before items) trans kept (AreOrdered-in_order before items trans behind) ∙ ap (put_in_order before item) more)
      | inr gone ↦ rw gone (filter-put_gone p before item (in_order before items) gone ∙ more)
    ]

-- ---- the links of a directory

abbrev in_dir : ℕ → ℕ × Link → Bool
in_dir dir entry = entry.1.parent == dir

abbrev is_behind : List (ℕ × ℕ) → Option (List ℕ) → ℕ × Link → Bool
is_behind table after entry = is_name_after table after entry.1.name

-- all of them in order
abbrev children : Volume → ℕ → List (ℕ × Link)
children v dir = in_order (is_listed_before v.table) (filter (in_dir dir) v.links)

links-trans : (table : List (ℕ × ℕ)) → IsTransitive (is_listed_before table)
links-trans table a b c ab bc = names-trans table a.1.name b.1.name c.1.name ab bc

links-apart : (v : Volume) (dir : ℕ) → IsSound v → AreApart (is_listed_before v.table) (filter (in_dir dir) v.links)
links-apart v dir sound i j d below within =
    let links : List (ℕ × Link) = filter (in_dir dir) v.links in
    let a : ℕ × Link = get_or links i d in
    let b : ℕ × Link = get_or links j d in
    let differ : is_named v.table b.1.parent b.1.name a.1 ≡ false
    = AllPairs-filter (λ a b. is_named v.table b.1.parent b.1.name a.1 ≡ false) (in_dir dir) v.links sound.tree.link_names_differ i j d below within in
    let first : (a.1.parent == dir) ≡ true = filter_passes (in_dir dir) v.links i d (omega arith) in
    let second : (b.1.parent == dir) ≡ true = filter_passes (in_dir dir) v.links j d within in
    let same : (a.1.parent == b.1.parent) ≡ true = eq-eqb a.1.parent b.1.parent (eqb-true a.1.parent dir first ∙ sym (eqb-true b.1.parent dir second)) in
    names-apart v.table a.1.name b.1.name (apart-by same differ)
  where
    apart-by : {p q : Bool} → p ≡ true → (p && q) ≡ false → q ≡ false
    apart-by {p} {q} same differ = rw same at differ

children-filtered : (v : Volume) (dir : ℕ) (p : ℕ × Link → Bool) → IsSound v → in_order (is_listed_before v.table) (filter (λ entry. in_dir dir entry && p entry) v.links) ≡ filter p (children v dir)
children-filtered v dir p sound =
    ap (in_order (is_listed_before v.table)) (filter-both (in_dir dir) p v.links)
    ∙ sym (filter-in_order p (is_listed_before v.table) (filter (in_dir dir) v.links) (links-trans v.table) (links-apart v dir sound))

children-behind : (v : Volume) (dir : ℕ) (after : Option (List ℕ)) → IsSound v → children_after v dir after ≡ filter (is_behind v.table after) (children v dir)
children-behind v dir after sound = children-filtered v dir (is_behind v.table after) sound

-- a link that is found under its number
abbrev IsFound : Volume → ℕ × Link → Type 0
IsFound v entry = row_of v.links entry.0 ≡ Some entry.1

children-found : (v : Volume) (dir : ℕ) (after : Option (List ℕ)) → IsSound v → All (IsFound v) (children_after v dir after)
children-found v dir after sound =
    All-in_order (IsFound v) (is_listed_before v.table) (filter (λ entry. is_child_after v.table dir after entry.1) v.links)
    (All-filter (λ entry. is_child_after v.table dir after entry.1) (IsFound v) v.links (λ k d within. row_of-here v.links v.last_link k d sound.links_numbered within))

-- ---- what is told of their numbers

under-found : (v : Volume) (links : List (ℕ × Link)) → All (IsFound v) links → links_under v (map (λ (entry : ℕ × Link). entry.0) links) ≡ links
under-found v [] found = refl
under-found v (first ∷ rest) found =
    let here : row_of v.links first.0 ≡ Some first.1 = All-head (IsFound v) first rest found in
    rw here (ap (λ (links : List (ℕ × Link)). first ∷ links) (under-found v rest (All-tail (IsFound v) first rest found)))

-- the links of the numbers of some links behind a name are these
pub children-under : (v : Volume) (dir : ℕ) (after : Option (List ℕ)) (p : ℕ × Link → Bool) → IsSound v
    → links_under v (map (λ (entry : ℕ × Link). entry.0) (filter p (children_after v dir after))) ≡ filter p (children_after v dir after)
children-under v dir after p sound = under-found v (filter p (children_after v dir after)) (All-filter p (IsFound v) (children_after v dir after) (children-found v dir after sound))

-- those that aren't marked are those that are listed behind the name
pub children-listed : (v : Volume) (dir : ℕ) (after : Option (List ℕ)) (p : ℕ × Link → Bool) → IsSound v
    → filter is_unmarked (filter p (children_after v dir after)) ≡ filter p (filter (λ entry. is_name_after v.table after entry.1.name) (listed_links v dir))
children-listed v dir after p sound =
    filter-swap is_unmarked p (children_after v dir after)
    ∙ ap (filter p) (ap (filter is_unmarked) (children-behind v dir after sound)
    ∙ filter-swap is_unmarked (is_behind v.table after) (children v dir)
    ∙ ap (filter (is_behind v.table after)) (sym (children-filtered v dir is_unmarked sound)))
