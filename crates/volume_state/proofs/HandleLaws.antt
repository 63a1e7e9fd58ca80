-- What is true of a handle that is found by a test, and where none is found.
use Rattle.std.proofs.Common.{◌≡◌, ℕ, zero, suc, ◌<◌, Bool, true, false, not, List, get_or, refl, ap, sym, ◌∙◌, arith, inl, inr}
use Rattle.std.specs.List.{All, find, list_any}
use Rattle.std.specs.Option.{option_map_or}
use Rattle.std.specs.Prelude.{◌==◌, ◌&&◌, ◌||◌, is_some, nat_lt, IfSome, IfNone, Some}
use Rattle.std.proofs.lemmas.Bool.{both_ways, and_parts, and_cases, and_from, eqb-true, not-false, lt-ltb, ltb-true, false_from_ne_true}
use Rattle.std.proofs.lemmas.List.Folds.{list_any_none}
use Rattle.fsa_types.specs.Rows.{lives, row_of, IsNumbered}
use Rattle.fsa_model.specs.Lookups.{is_directory, linked_file, number_of}
use Rattle.fsa_model.specs.Sound.{IsSound, is_of_living, is_stream_of_link}
use Rattle.fsa_model.specs.Volume.{Handle, Link, Stream, Volume}
use Rattle.fsa_model.proofs.RowLaws.{any-weaker, find-all, find-none, number_of-none, option_cases, row_of-here}
use Rattle.volume_state.specs.Living.{CanBeLinked}
use Rattle.volume_state.proofs.OpenLaws.{find-passes}

-- the row of a number that is found passes the test, and each weaker one
pub number-passes : {R : Type 0} (test weaker : R → Bool) (rows : List (ℕ × R)) (last : ℕ) → IsNumbered rows last → ((row : R) → test row ≡ true → weaker row ≡ true)
    → IfSome (number_of test rows) (λ id. IfSome (row_of rows id) (λ row. weaker row ≡ true))
number-passes {R} test weaker rows last numbered implies =
    elim (option_cases (find (λ (entry : ℕ × R). test entry.1) rows)) [
      | inl none ↦ rw none tt
      | inr some ↦ (let here = find-all (λ (entry : ℕ × R). row_of rows entry.0 ≡ Some entry.1) (λ entry. test entry.1) rows some.0 some.1 (λ k d within. row_of-here rows last k d numbered within) in
          rw (some.1, here) (implies some.0.1 (find-passes (λ (entry : ℕ × R). test entry.1) rows some.0 some.1)))
    ]

-- what follows where no row passes is so where no number is found
pub number-unfound : {R : Type 0} (test : R → Bool) (rows : List (ℕ × R)) (P : Type 0) → (All (λ entry. test entry.1 ≡ false) rows → P) → IfNone (number_of test rows) P
number-unfound test rows P follows = elim (option_cases (number_of test rows)) [
  | inl none ↦ rw none (follows (number_of-none test rows none))
  | inr some ↦ rw some.1 tt
]

-- where each that passes has one below it that passes, none below a bound passes
none-below : {X : Type 0} (p : X → Bool) (key : X → ℕ) (xs : List X) → All (λ x. (p x && not (list_any (λ y. p y && nat_lt (key y) (key x)) xs)) ≡ false) xs
    → (bound : ℕ) → All (λ x. (p x && nat_lt (key x) bound) ≡ false) xs
none-below p key xs no_least zero k d within = false_from_ne_true _ (λ both. let below : key (get_or xs k d) < 0 = ltb-true _ _ (and_parts _ _ both).1 in absurd (omega arith))
none-below {X} p key xs no_least (suc bound) k d within =
    false_from_ne_true _ (λ both.
    let x : X = get_or xs k d in
    let passes : p x ≡ true = (and_parts _ _ both).0 in
    let below : key x < suc bound = ltb-true _ _ (and_parts _ _ both).1 in
    let some : list_any (λ y. p y && nat_lt (key y) (key x)) xs ≡ true
    = elim (and_cases (p x) (not (list_any (λ y. p y && nat_lt (key y) (key x)) xs)) (no_least k d within)) [
      | inl fails ↦ absurd (both_ways (p x) fails passes)
      | inr least ↦ not-false _ least
    ] in
    let lower : list_any (λ y. p y && nat_lt (key y) bound) xs ≡ true
    = any-weaker (λ y. p y && nat_lt (key y) (key x)) (λ y. p y && nat_lt (key y) bound) xs
    (λ y less. let parts = and_parts (p y) (nat_lt (key y) (key x)) less in let under : key y < key x = ltb-true _ _ parts.1 in and_from (p y) (nat_lt (key y) bound) parts.0 (lt-ltb _ _ (omega arith))) some in
    both_ways (list_any (λ y. p y && nat_lt (key y) bound) xs) (list_any_none (λ y. p y && nat_lt (key y) bound) xs (none-below p key xs no_least bound)) lower)

-- where none that passes is the least of those that pass, none passes
pub no-least : {X : Type 0} (p : X → Bool) (key : X → ℕ) (xs : List X) → All (λ x. (p x && not (list_any (λ y. p y && nat_lt (key y) (key x)) xs)) ≡ false) xs → list_any p xs ≡ false
no-least {X} p key xs no_least =
    list_any_none p xs (λ k d within.
    let x : X = get_or xs k d in
    elim (and_cases (p x) (nat_lt (key x) (suc (key x))) (none-below p key xs no_least (suc (key x)) k d within)) [
      | inl fails ↦ fails
      | inr above ↦ (let under = lt-ltb (key x) (suc (key x)) (omega arith) in absurd (both_ways (nat_lt (key x) (suc (key x))) above under))
    ])

-- what a stream that is one of a link's file tells of the file
linkable-of : (v : Volume) (link stream : ℕ) → IsSound v → is_stream_of_link v.links v.streams link stream ≡ true → CanBeLinked v (linked_file v link)
linkable-of v link stream sound is_of =
    let of_stream : ℕ × Stream → Bool = λ s. s.0 == stream && list_any (λ l. l.0 == link && l.1.file == s.1.file) v.links in
    elim (option_cases (find of_stream v.streams)) [
      | inl none ↦ absurd (both_ways (list_any of_stream v.streams) (find-none of_stream v.streams none) is_of)
      | inr s ↦ (let linked : list_any (λ l. l.0 == link && l.1.file == s.0.1.file) v.links ≡ true = (and_parts (s.0.0 == stream) _ (find-passes of_stream v.streams s.0 s.1)).1 in
          let of_link : ℕ × Link → Bool = λ l. l.0 == link && l.1.file == s.0.1.file in
          elim (option_cases (find of_link v.links)) [
            | inl none ↦ absurd (both_ways (list_any of_link v.links) (find-none of_link v.links none) linked)
            | inr l ↦ (let parts = and_parts (l.0.0 == link) (l.0.1.file == s.0.1.file) (find-passes of_link v.links l.0 l.1) in
                let here : row_of v.links l.0.0 ≡ Some l.0.1 = find-all (λ (e : ℕ × Link). row_of v.links e.0 ≡ Some e.1) of_link v.links l.0 l.1 (λ k d within. row_of-here v.links v.last_link k d sound.links_numbered within) in
                let found : row_of v.links link ≡ Some l.0.1 = ap (λ id. row_of v.links id) (sym (eqb-true l.0.0 link parts.0)) ∙ here in
                let file : linked_file v link ≡ l.0.1.file = rw found refl in
                let same : l.0.1.file ≡ s.0.1.file = eqb-true _ _ parts.1 in
                rw file (record {
                  living = find-all (λ (e : ℕ × Link). lives v.files e.1.file ≡ true) of_link v.links l.0 l.1 sound.tree.link_files_live;
                  no_directory = rw same (find-all (λ (e : ℕ × Stream). is_directory v.files e.1.file ≡ false) of_stream v.streams s.0 s.1 sound.tree.directories_have_no_stream);
                  not_root = find-all (λ (e : ℕ × Link). (e.1.file == 1) ≡ false) of_link v.links l.0 l.1 sound.tree.root_has_no_link;
                }))
          ])
    ]

-- what a handle with a stream is of can have a further link
pub linkable : (v : Volume) (handle : Handle) → IsSound v → is_of_living v.links v.streams handle ≡ true → is_some handle.stream ≡ true
    → CanBeLinked v (linked_file v handle.link)
linkable v handle sound living has = elim (option_cases handle.stream) [
  | inl none ↦ (let impossible : false ≡ true = rw none at has in cc)
  | inr stream ↦ (let parts = and_parts (handle.link == 0 || lives v.links handle.link) (option_map_or (λ s. is_stream_of_link v.links v.streams handle.link s) handle.stream true) living in
      linkable-of v handle.link stream.0 sound (rw stream.1 at parts.1))
]
