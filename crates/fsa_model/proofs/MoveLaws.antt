-- What stays true of a volume when a link goes to another directory.
use Rattle.std.proofs.Common.{◌≡◌, ℕ, zero, suc, ◌<◌, ◌≤◌, Bool, true, false, not, List, [], ◌∷◌, length, get_or, refl, ap, sym, subst, ◌∙◌, arith, inl, inr, ◌⊎◌, Option, Some, None}
use Rattle.std.specs.List.{find, filter, list_any, All, AllPairs}
use Rattle.std.specs.Option.{option_map_or}
use Rattle.std.specs.Prelude.{◌==◌, ◌&&◌, option_map, IfSome}
use Rattle.std.proofs.lemmas.Bool.{eqb-true, eq-eqb, both_ways, cases_Bool, or_cases, and_cases, and_parts, and_from, and_right}
use Rattle.std.proofs.lemmas.Cmp.{nat_list_eq_equiv}
use Rattle.std.proofs.lemmas.List.{get_or_default}
use Rattle.std.proofs.lemmas.List.Folds.{list_any_none, map_fixed}
use Rattle.std.proofs.lemmas.List.Elements.{All-map, filter_passes}
use Rattle.fsa_types.proofs.RowLemmas.{length-filter_le}
use Rattle.fsa_types.specs.CaseTable.{same_name, upcased}
use Rattle.fsa_types.specs.Rows.{row_of, lives, with_row_changed, IsNumbered}
use Rattle.fsa_model.specs.Edits.{with_link_moved}
use Rattle.fsa_model.specs.Lookups.{child_of, is_at_or_below, is_named, is_directory, has_child, has_row, leads_to, link_of_file, linked_file}
use Rattle.fsa_model.specs.Sound.{IsSound, IsSoundTree, LeadsUp, is_stream_of_link}
use Rattle.fsa_model.specs.Volume.{File, Link, Volume}
use Rattle.fsa_model.proofs.RowLaws.{any-map, any-same, find-all, find-filter, find-map, find-same, AllPairs-map, change_at, change_at-same, change_at-number, IsNumbered-change, row_of-here, eqb-swap, find-none, number_of-none, option_map-none, or_right, option_cases, none-all}
use Rattle.fsa_model.proofs.SoundLaws.{is_of_living-more, has_its_stream-more, tree_of, with_links_sound}
use Rattle.fsa_model.proofs.WaitLaws.{find-passes}

-- ---- what leads up

-- a filter that loses one item that it is asked about is shorter
filter-shorter : {X : Type 0} (p q : X → Bool) (xs : List X) (x : X) → find p xs ≡ Some x → ((y : X) → p y ≡ true → q y ≡ false) → length (filter q xs) < length xs
filter-shorter p q [] x found loses = cc
filter-shorter p q (y ∷ xs) x found loses = elim (cases_Bool (p y)) [
  | inl here ↦ (let le = length-filter_le q xs in rw (loses y here) (omega arith))
  | inr other ↦ (let rest = filter-shorter p q xs x (rw other at found) loses in elim (cases_Bool (q y)) [
    | inl kept ↦ rw kept (omega arith)
    | inr lost ↦ rw lost (omega arith)
  ])
]

-- one step up, taken apart and made
abbrev pub Up : ℕ → List (ℕ × Link) → ℕ → ℕ → Type 0
Up steps links above dir = (entry : ℕ × Link) × ((link_of_file links dir ≡ Some entry) × (leads_to steps links above entry.1.parent ≡ true))

pub step_of : (steps : ℕ) (links : List (ℕ × Link)) (above dir : ℕ) → leads_to (suc steps) links above dir ≡ true → ((dir == above) ≡ true) ⊎ Up steps links above dir
step_of steps links above dir leads =
    let next_up : Option (ℕ × Link) → Bool = λ o. option_map_or (λ entry. leads_to steps links above entry.1.parent) o false in
    elim (or_cases (dir == above) (next_up (link_of_file links dir)) leads) [
      | inl here ↦ inl here
      | inr up ↦ elim (option_cases (link_of_file links dir)) [
        | inl none ↦ (let impossible : false ≡ true = rw none at up in cc)
        | inr some ↦ (let next : leads_to steps links above some.0.1.parent ≡ true = rw some.1 at up in inr (some.0, (some.1, next)))
      ]
    ]

step_up : (steps : ℕ) (links : List (ℕ × Link)) (above dir : ℕ) (entry : ℕ × Link) → link_of_file links dir ≡ Some entry
    → leads_to steps links above entry.1.parent ≡ true → leads_to (suc steps) links above dir ≡ true
step_up steps links above dir entry found next = or_right (dir == above) _ (rw found next)

-- with more steps
leads_to-within : (steps most : ℕ) (links : List (ℕ × Link)) (above dir : ℕ) → steps ≤ most → leads_to steps links above dir ≡ true → leads_to most links above dir ≡ true
leads_to-within zero zero links above dir within leads = leads
leads_to-within zero (suc most) links above dir within leads = rw leads refl
leads_to-within (suc steps) zero links above dir within leads = absurd (omega arith)
leads_to-within (suc steps) (suc most) links above dir within leads = elim (step_of steps links above dir leads) [
  | inl here ↦ rw here refl
  | inr up ↦ step_up most links above dir up.0 up.1.0 (leads_to-within steps most links above up.0.1.parent (omega arith) up.1.1)
]

-- the links but those of one file
abbrev links_but : List (ℕ × Link) → ℕ → List (ℕ × Link)
links_but links file = filter (λ entry. not (entry.1.file == file)) links

links_but-same : (links : List (ℕ × Link)) (file dir : ℕ) → (dir == file) ≡ false → link_of_file (links_but links file) dir ≡ link_of_file links dir
links_but-same links file dir other =
    find-filter (λ e. e.1.file == dir) (λ e. not (e.1.file == file)) links (λ k d within here. rw (eqb-true (get_or links k d).1.file dir here, other) refl)

-- they lead as far, or the way goes by that file
leads_to-by : (steps : ℕ) (links : List (ℕ × Link)) (file above dir : ℕ) → leads_to steps links above dir ≡ true
    → (leads_to steps (links_but links file) above dir ≡ true) ⊎ ((m : ℕ) × ((m ≤ steps) × (leads_to m links above file ≡ true)))
leads_to-by zero links file above dir leads = inl leads
leads_to-by (suc steps) links file above dir leads = elim (cases_Bool (dir == file)) [
  | inl here ↦ (let same : dir ≡ file = eqb-true dir file here in inr (suc steps, (omega arith, rw (← same) leads)))
  | inr other ↦ elim (step_of steps links above dir leads) [
    | inl at ↦ inl (rw at refl)
    | inr up ↦ elim (leads_to-by steps links file above up.0.1.parent up.1.1) [
      | inl past ↦ inl (step_up steps (links_but links file) above dir up.0 (links_but-same links file dir other ∙ up.1.0) past)
      | inr by ↦ inr (by.0, (omega (arith, by.1.0), by.1.1))
    ]
  ]
]

-- and they lead no farther
leads_to-back : (steps : ℕ) (links : List (ℕ × Link)) (file above dir : ℕ) → leads_to steps (links_but links file) above dir ≡ true → leads_to steps links above dir ≡ true
leads_to-back zero links file above dir leads = leads
leads_to-back (suc steps) links file above dir leads = elim (step_of steps (links_but links file) above dir leads) [
  | inl at ↦ rw at refl
  | inr up ↦ (let next = leads_to-back steps links file above up.0.1.parent up.1.1 in elim (cases_Bool (dir == file)) [
    | inl here ↦ (let is : (up.0.1.file == dir) ≡ true = find-passes (λ e. e.1.file == dir) (links_but links file) up.0 up.1.0 in
        let kept : not (up.0.1.file == file) ≡ true = find-all (λ (e : ℕ × Link). not (e.1.file == file) ≡ true) (λ e. e.1.file == dir) (links_but links file) up.0 up.1.0
        (filter_passes (λ e. not (e.1.file == file)) links) in
        let at_file : (up.0.1.file == file) ≡ true = rw (eqb-true up.0.1.file dir is) here in
        let impossible : false ≡ true = rw at_file at kept in cc)
    | inr other ↦ step_up steps links above dir up.0 (sym (links_but-same links file dir other) ∙ up.1.0) next
  ])
]

-- as many steps as there are links lead as far as any number: the first way round is left out
leads_to-bound : (fuel most steps : ℕ) (links : List (ℕ × Link)) (above dir : ℕ) → length links ≤ fuel → steps ≤ most
    → leads_to steps links above dir ≡ true → leads_to fuel links above dir ≡ true
leads_to-bound fuel most zero links above dir fits within leads = leads_to-within zero fuel links above dir (omega arith) leads
leads_to-bound fuel zero (suc steps) links above dir fits within leads = absurd (omega arith)
leads_to-bound zero (suc most) (suc steps) [] above dir fits within leads = elim (step_of steps [] above dir leads) [
  | inl at ↦ at
  | inr up ↦ (let impossible = up.1.0 in cc)
]
leads_to-bound zero (suc most) (suc steps) (link ∷ links) above dir fits within leads = absurd (omega arith)
leads_to-bound (suc fuel) (suc most) (suc steps) links above dir fits within leads = elim (step_of steps links above dir leads) [
  | inl at ↦ rw at refl
  | inr up ↦ elim (leads_to-by steps links dir above up.0.1.parent up.1.1) [
    | inl past ↦ (let shorter = filter-shorter (λ e. e.1.file == dir) (λ e. not (e.1.file == dir)) links up.0 up.1.0 (λ e here. rw here refl) in
        step_up fuel links above dir up.0 up.1.0 (leads_to-back fuel links dir above up.0.1.parent
        (leads_to-bound fuel steps steps (links_but links dir) above up.0.1.parent (omega (arith, shorter)) (omega arith) past)))
    | inr again ↦ leads_to-bound (suc fuel) most again.0 links above dir fits (omega (arith, again.1.0)) again.1.1
  ]
]

-- the check asks for all that any number of steps could find
pub is_at_or_below-all : (links : List (ℕ × Link)) (above dir steps : ℕ) → leads_to steps links above dir ≡ true → is_at_or_below links above dir ≡ true
is_at_or_below-all links above dir steps leads = leads_to-bound (length links) steps steps links above dir (omega arith) (omega arith) leads

pub is_at_or_below-none : (links : List (ℕ × Link)) (above dir : ℕ) → is_at_or_below links above dir ≡ false → (steps : ℕ) → leads_to steps links above dir ≡ false
is_at_or_below-none links above dir none steps = elim (cases_Bool (leads_to steps links above dir)) [
  | inl leads ↦ absurd (both_ways (is_at_or_below links above dir) none (is_at_or_below-all links above dir steps leads))
  | inr never ↦ never
]

-- from directories links lead to directories
leads_to-directory : (steps : ℕ) (files : List (ℕ × File)) (links : List (ℕ × Link)) (above dir : ℕ) → All (λ entry. is_directory files entry.1.parent ≡ true) links
    → is_directory files dir ≡ true → leads_to steps links above dir ≡ true → is_directory files above ≡ true
leads_to-directory zero files links above dir parents directory leads = rw (← eqb-true dir above leads) directory
leads_to-directory (suc steps) files links above dir parents directory leads = elim (step_of steps links above dir leads) [
  | inl here ↦ rw (← eqb-true dir above here) directory
  | inr up ↦ leads_to-directory steps files links above up.0.1.parent parents
      (find-all (λ (e : ℕ × Link). is_directory files e.1.parent ≡ true) (λ e. e.1.file == dir) links up.0 up.1.0 parents) up.1.1
]

-- what the check of a rename says: no number of steps leads from the new directory to what is moved
pub never_above : (files : List (ℕ × File)) (links : List (ℕ × Link)) (file dir : ℕ) → All (λ entry. is_directory files entry.1.parent ≡ true) links
    → is_directory files dir ≡ true → (is_directory files file && is_at_or_below links file dir) ≡ false → (steps : ℕ) → leads_to steps links file dir ≡ false
never_above files links file dir parents directory checked steps = elim (and_cases (is_directory files file) (is_at_or_below links file dir) checked) [
  | inl no_directory ↦ elim (cases_Bool (leads_to steps links file dir)) [
    | inl leads ↦ absurd (both_ways (is_directory files file) no_directory (leads_to-directory steps files links file dir parents directory leads))
    | inr never ↦ never
  ]
  | inr not_below ↦ is_at_or_below-none links file dir not_below steps
]

-- one step up to where links lead up
LeadsUp-step : (links : List (ℕ × Link)) (dir : ℕ) (entry : ℕ × Link) → link_of_file links dir ≡ Some entry → LeadsUp links entry.1.parent → LeadsUp links dir
LeadsUp-step links dir entry found up = record { steps = suc up.steps; leads = step_up up.steps links 1 dir entry found up.leads }

-- the link that is found after a change of one that leaves its file
link_of_file-changed : (change : Link → Link) (links : List (ℕ × Link)) (link dir : ℕ) → ((row : Link) → (change row).file ≡ row.file)
    → link_of_file (with_row_changed change links link) dir ≡ option_map (change_at change link) (link_of_file links dir)
link_of_file-changed change links link dir file =
    find-map (λ e. e.1.file == dir) (change_at change link) links
    ∙ ap (λ o. option_map (change_at change link) o) (find-same (λ e. (change_at change link e).1.file == dir) (λ e. e.1.file == dir) links
    (λ e. rw (change_at-same change link (λ row. row.file) file e) refl))

-- the row of a number is the one that stands there
pub is_that_row : (links : List (ℕ × Link)) (last link : ℕ) (row : Link) → IsNumbered links last → row_of links link ≡ Some row
    → All (λ entry. (entry.0 == link) ≡ true → entry.1 ≡ row) links
is_that_row links last link row numbered found k d within here =
    let this : Some (get_or links k d).1 ≡ Some row
    = sym (row_of-here links last k d numbered within) ∙ ap (row_of links) (eqb-true (get_or links k d).0 link here) ∙ found in cc

-- where no step leads to the file of the moved link, the next step up is as it was, and leads to no such place either
pub unmoved-step : (change : Link → Link) (links : List (ℕ × Link)) (last link : ℕ) (row : Link) (dir : ℕ) → ((r : Link) → (change r).file ≡ r.file)
    → IsNumbered links last → row_of links link ≡ Some row → ((n : ℕ) → leads_to n links row.file dir ≡ false)
    → link_of_file (with_row_changed change links link) dir ≡ link_of_file links dir
unmoved-step change links last link row dir file numbered found never = elim (option_cases (link_of_file links dir)) [
  | inl none ↦ link_of_file-changed change links link dir file ∙ rw none refl
  | inr some ↦ elim (cases_Bool (some.0.0 == link)) [
    | inl moved ↦ (let is : some.0.1 ≡ row = find-all (λ (e : ℕ × Link). (e.0 == link) ≡ true → e.1 ≡ row) (λ e. e.1.file == dir) links some.0 some.1
        (is_that_row links last link row numbered found) moved in
        let of_dir : (some.0.1.file == dir) ≡ true = find-passes (λ e. e.1.file == dir) links some.0 some.1 in
        let at : (dir == row.file) ≡ true = rw (← is) (eq-eqb dir some.0.1.file (sym (eqb-true some.0.1.file dir of_dir))) in
        absurd (both_ways (dir == row.file) (never 0) at))
    | inr other ↦ link_of_file-changed change links link dir file ∙ rw (some.1, other) refl
  ]
]

pub never-next : (links : List (ℕ × Link)) (above dir : ℕ) (entry : ℕ × Link) → link_of_file links dir ≡ Some entry
    → ((n : ℕ) → leads_to n links above dir ≡ false) → (n : ℕ) → leads_to n links above entry.1.parent ≡ false
never-next links above dir entry found never n = elim (cases_Bool (leads_to n links above entry.1.parent)) [
  | inl leads ↦ absurd (both_ways (leads_to (suc n) links above dir) (never (suc n)) (step_up n links above dir entry found leads))
  | inr no_way ↦ no_way
]

-- links still lead up from where no step leads to the file of the moved link
LeadsUp-unmoved : (steps : ℕ) (change : Link → Link) (links : List (ℕ × Link)) (last link : ℕ) (row : Link) (dir : ℕ) → ((r : Link) → (change r).file ≡ r.file)
    → IsNumbered links last → row_of links link ≡ Some row → ((n : ℕ) → leads_to n links row.file dir ≡ false)
    → leads_to steps links 1 dir ≡ true → LeadsUp (with_row_changed change links link) dir
LeadsUp-unmoved zero change links last link row dir file numbered found never leads = record { steps = 0; leads = leads }
LeadsUp-unmoved (suc steps) change links last link row dir file numbered found never leads = elim (step_of steps links 1 dir leads) [
  | inl here ↦ record { steps = 0; leads = here }
  | inr up ↦ LeadsUp-step (with_row_changed change links link) dir up.0
      (unmoved-step change links last link row dir file numbered found never ∙ up.1.0)
      (LeadsUp-unmoved steps change links last link row up.0.1.parent file numbered found (never-next links row.file dir up.0 up.1.0 never) up.1.1)
]

-- and so they do from everywhere, where the moved link is in such a directory
LeadsUp-moved : (steps : ℕ) (change : Link → Link) (links : List (ℕ × Link)) (link parent dir : ℕ) → ((r : Link) → (change r).file ≡ r.file)
    → ((r : Link) → (change r).parent ≡ parent) → LeadsUp (with_row_changed change links link) parent
    → leads_to steps links 1 dir ≡ true → LeadsUp (with_row_changed change links link) dir
LeadsUp-moved zero change links link parent dir file to up leads = record { steps = 0; leads = leads }
LeadsUp-moved (suc steps) change links link parent dir file to parent_up leads = elim (step_of steps links 1 dir leads) [
  | inl here ↦ record { steps = 0; leads = here }
  | inr up ↦ elim (cases_Bool (up.0.0 == link)) [
    | inl moved ↦ LeadsUp-step (with_row_changed change links link) dir (up.0.0, change up.0.1)
        (link_of_file-changed change links link dir file ∙ rw (up.1.0, moved) refl) (rw (to up.0.1) parent_up)
    | inr other ↦ LeadsUp-step (with_row_changed change links link) dir up.0
        (link_of_file-changed change links link dir file ∙ rw (up.1.0, other) refl)
        (LeadsUp-moved steps change links link parent up.0.1.parent file to parent_up up.1.1)
  ]
]

-- ---- one link of a name

-- another link than this one has this name in this directory
abbrev pub is_taken : Volume → ℕ → ℕ → List ℕ → Bool
is_taken v link parent name = list_any (λ entry. not (entry.0 == link) && is_named v.table parent name entry.1) v.links

same_name-swap : (table : List (ℕ × ℕ)) (left right : List ℕ) → same_name table left right ≡ same_name table right left
same_name-swap table left right = nat_list_eq_equiv.symm (upcased table left) (upcased table right)

-- two links of which one hasn't the other's name don't both have a third name
named-apart : (table : List (ℕ × ℕ)) (dir : ℕ) (name : List ℕ) (a b : Link) → is_named table b.parent b.name a ≡ false
    → (is_named table dir name a && is_named table dir name b) ≡ false
named-apart table dir name a b apart = elim (cases_Bool (is_named table dir name a && is_named table dir name b)) [
  | inr one ↦ one
  | inl both ↦ (let parts = and_parts (is_named table dir name a) (is_named table dir name b) both in
      let of_a = and_parts (a.parent == dir) (same_name table a.name name) parts.0 in
      let of_b = and_parts (b.parent == dir) (same_name table b.name name) parts.1 in
      let one_parent : a.parent ≡ b.parent = eqb-true a.parent dir of_a.0 ∙ sym (eqb-true b.parent dir of_b.0) in
      let one_name : same_name table a.name b.name ≡ true
      = nat_list_eq_equiv.congr (upcased table a.name) (upcased table name) (upcased table b.name) of_a.1
      ∙ nat_list_eq_equiv.symm (upcased table name) (upcased table b.name) ∙ of_b.1 in
      absurd (both_ways (is_named table b.parent b.name a) apart (and_from (a.parent == b.parent) (same_name table a.name b.name) (eq-eqb a.parent b.parent one_parent) one_name)))
]

-- where no two pass, none but the one that is found does
find-only : {R : Type 0} (p : ℕ × R → Bool) (rows : List (ℕ × R)) (row : ℕ × R) → AllPairs (λ a b. (p a && p b) ≡ false) rows → find p rows ≡ Some row
    → All (λ e. (not (e.0 == row.0) && p e) ≡ false) rows
find-only p [] row apart found = cc
find-only {R} p (x ∷ xs) row apart found = elim (cases_Bool (p x)) [
  | inl here ↦ (let is : Some x ≡ Some row = rw here at found in let same : x ≡ row = cc in only_first same here)
  | inr other ↦ only_later other (find-only p xs row (λ j k d below within. apart (suc j) (suc k) d (omega arith) (omega arith)) (rw other at found))
]
  where
    only_first : x ≡ row → p x ≡ true → All (λ e. (not (e.0 == row.0) && p e) ≡ false) (x ∷ xs)
    only_first same here zero d within = rw (← same, eq-eqb x.0 x.0 refl) refl
    only_first same here (suc k) d within = (let pair = apart 0 (suc k) x (omega arith) within in
        let fails : p (get_or xs k x) ≡ false = rw here at pair in
        and_right (not ((get_or xs k d).0 == row.0)) (p (get_or xs k d)) (ap p (get_or_default xs k d x (omega arith)) ∙ fails))

    only_later : p x ≡ false → All (λ e. (not (e.0 == row.0) && p e) ≡ false) xs → All (λ e. (not (e.0 == row.0) && p e) ≡ false) (x ∷ xs)
    only_later other rest zero d within = and_right (not (x.0 == row.0)) (p x) other
    only_later other rest (suc k) d within = rest k d (omega arith)

pub number-found : {R : Type 0} (o : Option (ℕ × R)) (id : ℕ) → option_map (λ (entry : ℕ × R). entry.0) o ≡ Some id → (entry : ℕ × R) × ((o ≡ Some entry) × (entry.0 ≡ id))
number-found None id found = cc
number-found (Some entry) id found = (entry, (refl, cc))

-- the one link of this name in this directory
pub named-only : (v : Volume) (dir : ℕ) (name : List ℕ) (target : ℕ) → IsSoundTree v → child_of v dir name ≡ Some target → is_taken v target dir name ≡ false
named-only v dir name target sound found =
    let one = number-found (find (λ (e : ℕ × Link). is_named v.table dir name e.1) v.links) target found in
    list_any_none (λ e. not (e.0 == target) && is_named v.table dir name e.1) v.links
    (subst (λ id. All (λ (e : ℕ × Link). (not (e.0 == id) && is_named v.table dir name e.1) ≡ false) v.links) one.1.1
    (find-only (λ (e : ℕ × Link). is_named v.table dir name e.1) v.links one.0
    (λ j k d below within. named-apart v.table dir name (get_or v.links j d).1 (get_or v.links k d).1 (sound.tree.link_names_differ j k d below within)) one.1.0))

named-none : (v : Volume) (link dir : ℕ) (name : List ℕ) → child_of v dir name ≡ None → is_taken v link dir name ≡ false
named-none v link dir name none =
    let all = number_of-none (is_named v.table dir name) v.links none in
    list_any_none (λ e. not (e.0 == link) && is_named v.table dir name e.1) v.links (λ k d within. and_right (not ((get_or v.links k d).0 == link)) _ (all k d within))

-- the link of this name there, where there is one, is the one that moves
pub free-named : (v : Volume) (link dir : ℕ) (name : List ℕ) → IsSoundTree v → IfSome (child_of v dir name) (λ other. (other == link) ≡ true) → is_taken v link dir name ≡ false
free-named v link dir name sound free = elim (option_cases (child_of v dir name)) [
  | inl none ↦ named-none v link dir name none
  | inr some ↦ (let here : (some.0 == link) ≡ true = rw some.1 at free in
      named-only v dir name link sound (some.1 ∙ ap Some (eqb-true some.0 link here)))
]

-- ---- a sound volume

-- the link goes to a directory that isn't marked, from which links lead up, and that isn't what is moved or
-- below it; and it gets a name there that no other link has
pub IsSoundTree-with_link_moved : (v : Volume) (link parent : ℕ) (name : List ℕ) (row : Link) → IsSoundTree v → row_of v.links link ≡ Some row
    → is_directory v.files parent ≡ true → LeadsUp v.links parent → has_row (λ l. l.file == parent && l.deleted) v.links ≡ false
    → (is_directory v.files row.file && is_at_or_below v.links row.file parent) ≡ false
    → is_taken v link parent name ≡ false
    → IsSoundTree (with_link_moved v link parent name)
IsSoundTree-with_link_moved v link parent name row sound found directory leads unmarked not_below free =
    let change : Link → Link = λ r. record r { parent = parent; name = name } in
    let at : ℕ × Link → ℕ × Link = change_at change link in
    let links' : List (ℕ × Link) = with_row_changed change v.links link in
    let file_of : (e : ℕ × Link) → (at e).1.file ≡ e.1.file = change_at-same change link (λ r. r.file) (λ r. refl) in
    let deleted_of : (e : ℕ × Link) → (at e).1.deleted ≡ e.1.deleted = change_at-same change link (λ r. r.deleted) (λ r. refl) in
    let as_many : (id : ℕ) → lives links' id ≡ lives v.links id
    = λ id. any-map (λ e. e.0 == id) at v.links ∙ any-same (λ e. (at e).0 == id) (λ e. e.0 == id) v.links (λ e. rw (change_at-number change link e) refl) in
    let inner : (id file : ℕ) → list_any (λ l. l.0 == id && l.1.file == file) links' ≡ list_any (λ l. l.0 == id && l.1.file == file) v.links
    = λ id file. any-map (λ l. l.0 == id && l.1.file == file) at v.links
    ∙ any-same (λ l. (at l).0 == id && (at l).1.file == file) (λ l. l.0 == id && l.1.file == file) v.links (λ l. rw (change_at-number change link l, file_of l) refl) in
    let of_link : (id s : ℕ) → is_stream_of_link links' v.streams id s ≡ is_stream_of_link v.links v.streams id s
    = λ id s. any-same (λ e. e.0 == s && list_any (λ l. l.0 == id && l.1.file == e.1.file) links') (λ e. e.0 == s && list_any (λ l. l.0 == id && l.1.file == e.1.file) v.links) v.streams
    (λ e. rw (inner id e.1.file) refl) in
    let parent_up : LeadsUp links' parent = LeadsUp-unmoved leads.steps change v.links v.last_link link row parent (λ r. refl) sound.links_numbered found
    (never_above v.files v.links row.file parent sound.tree.parents_are_directories directory not_below) leads.leads in
    let up : (dir : ℕ) → LeadsUp v.links dir → LeadsUp links' dir
    = λ dir leads. LeadsUp-moved leads.steps change v.links link parent dir (λ r. refl) (λ r. refl) parent_up leads.leads in
    let not_taken : All (λ e. (not (e.0 == link) && is_named v.table parent name e.1) ≡ false) v.links
    = none-all (λ e. not (e.0 == link) && is_named v.table parent name e.1) v.links free in
    let still_empty : (dir : ℕ) → has_child v.links dir ≡ false → (parent == dir) ≡ false → has_child links' dir ≡ false
    = λ dir empty other. any-map (λ e. e.1.parent == dir) at v.links ∙ list_any_none (λ e. (at e).1.parent == dir) v.links
    (λ k d within. elim (cases_Bool ((get_or v.links k d).0 == link)) [
      | inl here ↦ rw here other
      | inr there ↦ rw there (none-all (λ e. e.1.parent == dir) v.links empty k d within)
    ]) in
    record {
      tree = record {
        link_names_differ = AllPairs-map (λ a b. is_named v.table b.1.parent b.1.name a.1 ≡ false) at v.links
            (λ j k d below within. let before : j < length v.links = omega arith in
            elim (cases_Bool ((get_or v.links j d).0 == link)) [
              | inl here_j ↦ elim (cases_Bool ((get_or v.links k d).0 == link)) [
                | inl here_k ↦ (let rising = sound.links_numbered.rising j k d below within in
                    let same_j = eqb-true (get_or v.links j d).0 link here_j in
                    let same_k = eqb-true (get_or v.links k d).0 link here_k in absurd (omega arith))
                | inr other_k ↦ (let taken_k = not_taken k d within in
                    let free_k : ((get_or v.links k d).1.parent == parent && same_name v.table (get_or v.links k d).1.name name) ≡ false = rw other_k at taken_k in
                    rw (here_j, other_k, eqb-swap parent (get_or v.links k d).1.parent, same_name-swap v.table name (get_or v.links k d).1.name) free_k)
              ]
              | inr other_j ↦ elim (cases_Bool ((get_or v.links k d).0 == link)) [
                | inl here_k ↦ (let taken_j = not_taken j d before in
                    let free_j : is_named v.table parent name (get_or v.links j d).1 ≡ false = rw other_j at taken_j in
                    rw (other_j, here_k) free_j)
                | inr other_k ↦ rw (other_j, other_k) (sound.tree.link_names_differ j k d below within)
              ]
            ]);
        stream_names_differ = sound.tree.stream_names_differ;
        link_files_live = All-map (λ entry. lives v.files entry.1.file ≡ true) at v.links (λ k d within. rw (file_of (get_or v.links k d)) (sound.tree.link_files_live k d within));
        stream_files_live = sound.tree.stream_files_live;
        parents_are_directories = All-map (λ entry. is_directory v.files entry.1.parent ≡ true) at v.links (λ k d within. elim (cases_Bool ((get_or v.links k d).0 == link)) [
          | inl here ↦ rw here directory
          | inr other ↦ rw other (sound.tree.parents_are_directories k d within)
        ]);
        parents_lead_up = All-map (λ entry. LeadsUp links' entry.1.parent) at v.links (λ k d within. elim (cases_Bool ((get_or v.links k d).0 == link)) [
          | inl here ↦ rw here parent_up
          | inr other ↦ rw other (up (get_or v.links k d).1.parent (sound.tree.parents_lead_up k d within))
        ]);
        root_is_directory = sound.tree.root_is_directory;
        root_has_no_link = All-map (λ entry. (entry.1.file == 1) ≡ false) at v.links (λ k d within. rw (file_of (get_or v.links k d)) (sound.tree.root_has_no_link k d within));
        directories_have_no_stream = sound.tree.directories_have_no_stream;
        directories_have_one_link = AllPairs-map (λ a b. (is_directory v.files b.1.file && a.1.file == b.1.file) ≡ false) at v.links
            (λ j k d below within. rw (file_of (get_or v.links j d), file_of (get_or v.links k d)) (sound.tree.directories_have_one_link j k d below within));
        marked_are_empty = All-map (λ entry. (entry.1.deleted && has_child links' entry.1.file) ≡ false) at v.links
            (λ k d within. rw (file_of (get_or v.links k d), deleted_of (get_or v.links k d))
            (elim (and_cases (get_or v.links k d).1.deleted (has_child v.links (get_or v.links k d).1.file) (sound.tree.marked_are_empty k d within)) [
              | inl kept ↦ rw kept refl
              | inr empty ↦ elim (and_cases ((get_or v.links k d).1.file == parent) (get_or v.links k d).1.deleted (none-all (λ e. e.1.file == parent && e.1.deleted) v.links unmarked k d within)) [
                | inl other ↦ and_right (get_or v.links k d).1.deleted _ (still_empty (get_or v.links k d).1.file empty (eqb-swap parent (get_or v.links k d).1.file ∙ other))
                | inr kept ↦ rw kept refl
              ]
            ]));
        numbers_are_not_0 = All-map (λ entry. (entry.0 == 0) ≡ false) at v.links (λ k d within. rw (change_at-number change link (get_or v.links k d)) (sound.tree.numbers_are_not_0 k d within));
      };
      are_of_living = λ k d within. is_of_living-more v.links links' v.streams v.streams (get_or v.handles k d).1
          (λ living. as_many _ ∙ living) (λ s is living. of_link _ s ∙ living) (sound.are_of_living k d within);
      have_streams = λ k d within. has_its_stream-more v.files v.files v.links links' (get_or v.handles k d).1
          (λ living. any-map (λ l. l.0 == (get_or v.handles k d).1.link && is_directory v.files l.1.file) at v.links
          ∙ any-same (λ l. (at l).0 == (get_or v.handles k d).1.link && is_directory v.files (at l).1.file) (λ l. l.0 == (get_or v.handles k d).1.link && is_directory v.files l.1.file) v.links
          (λ l. rw (change_at-number change link l, file_of l) refl) ∙ living) (sound.have_streams k d within);
      files_numbered = sound.files_numbered;
      links_numbered = IsNumbered-change change v.links v.last_link link sound.links_numbered;
      streams_numbered = sound.streams_numbered;
      handles_numbered = sound.handles_numbered;
    }

pub IsSound-with_link_moved : (v : Volume) (link parent : ℕ) (name : List ℕ) (row : Link) → IsSound v → row_of v.links link ≡ Some row
    → is_directory v.files parent ≡ true → LeadsUp v.links parent → has_row (λ l. l.file == parent && l.deleted) v.links ≡ false
    → (is_directory v.files row.file && is_at_or_below v.links row.file parent) ≡ false
    → is_taken v link parent name ≡ false
    → IsSound (with_link_moved v link parent name)
IsSound-with_link_moved v link parent name row sound found directory leads unmarked not_below free = with_links_sound v (with_link_moved v link parent name).links sound
    (IsSoundTree-with_link_moved v link parent name row (tree_of v sound) found directory leads unmarked not_below free)

-- a link that isn't there isn't moved
with_link_moved-none : (v : Volume) (link parent : ℕ) (name : List ℕ) → row_of v.links link ≡ None → with_link_moved v link parent name ≡ v
with_link_moved-none v link parent name none =
    ap (λ (links : List (ℕ × Link)). record v { links = links })
    (map_fixed (change_at (λ (row : Link). record row { parent = parent; name = name }) link) v.links
    (λ k d within. rw (none-all (λ (e : ℕ × Link). e.0 == link) v.links (find-none (λ (e : ℕ × Link). e.0 == link) v.links (option_map-none (λ (e : ℕ × Link). e.1) _ none)) k d within) refl))

-- so a volume stays sound where a link moves, told by what is looked up
pub IsSoundTree-moved : (v : Volume) (link parent : ℕ) (name : List ℕ) → IsSoundTree v
    → is_directory v.files parent ≡ true → LeadsUp v.links parent → has_row (λ l. l.file == parent && l.deleted) v.links ≡ false
    → (is_directory v.files (linked_file v link) && is_at_or_below v.links (linked_file v link) parent) ≡ false
    → IfSome (child_of v parent name) (λ other. (other == link) ≡ true)
    → IsSoundTree (with_link_moved v link parent name)
IsSoundTree-moved v link parent name sound directory leads unmarked not_below free = elim (option_cases (row_of v.links link)) [
  | inl none ↦ rw (with_link_moved-none v link parent name none) sound
  | inr some ↦ IsSoundTree-with_link_moved v link parent name some.0 sound some.1 directory leads unmarked (rw some.1 at not_below)
      (free-named v link parent name sound free)
]

pub IsSound-moved : (v : Volume) (link parent : ℕ) (name : List ℕ) → IsSound v
    → is_directory v.files parent ≡ true → LeadsUp v.links parent → has_row (λ l. l.file == parent && l.deleted) v.links ≡ false
    → (is_directory v.files (linked_file v link) && is_at_or_below v.links (linked_file v link) parent) ≡ false
    → IfSome (child_of v parent name) (λ other. (other == link) ≡ true)
    → IsSound (with_link_moved v link parent name)
IsSound-moved v link parent name sound directory leads unmarked not_below free = with_links_sound v (with_link_moved v link parent name).links sound
    (IsSoundTree-moved v link parent name (tree_of v sound) directory leads unmarked not_below free)
