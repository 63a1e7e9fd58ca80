-- A link that moves: what a note of it takes then was told for the directory that it goes to.
use Rattle.std.proofs.Common.{◌≡◌, ℕ, zero, suc, ◌≤◌, ◌+◌, true, false, List, length, refl, ap, ◌∙◌, arith, inl, inr, Option, Some}
use Rattle.std.specs.List.{find}
use Rattle.std.specs.Prelude.{◌==◌, ◌&&◌}
use Rattle.std.proofs.lemmas.List.{length-map}
use Rattle.fsa_types.specs.Rows.{row_of, with_row_changed, IsNumbered}
use Rattle.fsa_model.specs.Changes.{stream_suffix, units_noted, dirs_noted}
use Rattle.fsa_model.specs.Edits.{with_link_moved}
use Rattle.fsa_model.specs.Lookups.{is_at_or_below, is_directory, leads_to, link_of_file, linked_file}
use Rattle.fsa_model.specs.Sound.{IsSound}
use Rattle.fsa_model.specs.Volume.{Link, Volume}
use Rattle.fsa_model.proofs.MoveLaws.{never_above, never-next, unmoved-step}
use Rattle.fsa_model.proofs.RowLaws.{option_cases, change_at}
use Rattle.volume_state.specs.Paths.{units_above, dirs_above, units_noted_in, dirs_in}
use Rattle.volume_state.proofs.MarkLaws.{row_of-change}
use Rattle.volume_state.proofs.OpenLaws.{find-passes, units_noted-found, dirs_noted-found}

-- what stands above a directory from which no step leads to what moves
units_above-moved : (most : ℕ) (change : Link → Link) (links : List (ℕ × Link)) (last link : ℕ) (row : Link) (dir : ℕ) → ((r : Link) → (change r).file ≡ r.file)
    → IsNumbered links last → row_of links link ≡ Some row → ((n : ℕ) → leads_to n links row.file dir ≡ false)
    → units_above most (with_row_changed change links link) dir ≡ units_above most links dir
units_above-moved zero change links last link row dir file numbered found never = refl
units_above-moved (suc most) change links last link row dir file numbered found never =
    let step = unmoved-step change links last link row dir file numbered found never in
    elim (option_cases (link_of_file links dir)) [
      | inl none ↦ rw (step, none) refl
      | inr some ↦ (let up = units_above-moved most change links last link row some.0.1.parent file numbered found (never-next links row.file dir some.0 some.1 never) in
          rw (step, some.1, up) refl)
    ]

dirs_above-moved : (most : ℕ) (change : Link → Link) (links : List (ℕ × Link)) (last link : ℕ) (row : Link) (dir : ℕ) → ((r : Link) → (change r).file ≡ r.file)
    → IsNumbered links last → row_of links link ≡ Some row → ((n : ℕ) → leads_to n links row.file dir ≡ false)
    → dirs_above most (with_row_changed change links link) dir ≡ dirs_above most links dir
dirs_above-moved zero change links last link row dir file numbered found never = refl
dirs_above-moved (suc most) change links last link row dir file numbered found never =
    let step = unmoved-step change links last link row dir file numbered found never in
    elim (option_cases (link_of_file links dir)) [
      | inl none ↦ rw (step, none) refl
      | inr some ↦ (let up = dirs_above-moved most change links last link row some.0.1.parent file numbered found (never-next links row.file dir some.0 some.1 never) in
          rw (step, some.1, up) refl)
    ]

pub units_noted-moved : (v : Volume) (link parent : ℕ) (name : List ℕ) (stream : Option ℕ) → IsSound v → is_directory v.files parent ≡ true
    → (is_directory v.files (linked_file v link) && is_at_or_below v.links (linked_file v link) parent) ≡ false
    → units_noted (with_link_moved v link parent name) link stream ≤ units_noted_in v parent (length name + length (stream_suffix v.streams stream))
units_noted-moved v link parent name stream sound directory not_below =
    let change : Link → Link = λ row. record row { parent = parent; name = name } in
    let row_is = row_of-change change v.links link link in
    elim (option_cases (find (λ (e : ℕ × Link). e.0 == link) v.links)) [
      | inl none ↦ rw (row_is, none) (omega arith)
      | inr some ↦ (let here : (some.0.0 == link) ≡ true = find-passes (λ (e : ℕ × Link). e.0 == link) v.links some.0 some.1 in
          let moved : row_of (with_row_changed change v.links link) link ≡ Some (change some.0.1) = row_is ∙ rw (some.1, here) refl in
          let found : row_of v.links link ≡ Some some.0.1 = rw some.1 refl in
          let never = never_above v.files v.links some.0.1.file parent sound.tree.parents_are_directories directory (rw found at not_below) in
          let noted = units_noted-found (with_link_moved v link parent name) link (change some.0.1) stream moved in
          let above = ap (λ n. units_above n (with_row_changed change v.links link) parent) (length-map v.links (change_at change link))
          ∙ units_above-moved (length v.links) change v.links v.last_link link some.0.1 parent (λ r. refl) sound.links_numbered found never in
          omega arith)
    ]

pub dirs_noted-moved : (v : Volume) (link parent : ℕ) (name : List ℕ) (stream : Option ℕ) → IsSound v → is_directory v.files parent ≡ true
    → (is_directory v.files (linked_file v link) && is_at_or_below v.links (linked_file v link) parent) ≡ false
    → dirs_noted (with_link_moved v link parent name) link stream ≤ dirs_in v parent
dirs_noted-moved v link parent name stream sound directory not_below =
    let change : Link → Link = λ row. record row { parent = parent; name = name } in
    let row_is = row_of-change change v.links link link in
    elim (option_cases (find (λ (e : ℕ × Link). e.0 == link) v.links)) [
      | inl none ↦ rw (row_is, none) (omega arith)
      | inr some ↦ (let here : (some.0.0 == link) ≡ true = find-passes (λ (e : ℕ × Link). e.0 == link) v.links some.0 some.1 in
          let moved : row_of (with_row_changed change v.links link) link ≡ Some (change some.0.1) = row_is ∙ rw (some.1, here) refl in
          let found : row_of v.links link ≡ Some some.0.1 = rw some.1 refl in
          let never = never_above v.files v.links some.0.1.file parent sound.tree.parents_are_directories directory (rw found at not_below) in
          let noted = dirs_noted-found (with_link_moved v link parent name) link (change some.0.1) stream moved in
          let above = ap (λ n. dirs_above n (with_row_changed change v.links link) parent) (length-map v.links (change_at change link))
          ∙ dirs_above-moved (length v.links) change v.links v.last_link link some.0.1 parent (λ r. refl) sound.links_numbered found never in
          omega arith)
    ]
