-- A mark of a link or of a stream leaves what a note of a link takes.
use Rattle.std.proofs.Common.{◌≡◌, ℕ, zero, suc, Bool, List, ◌∷◌, ◌++◌, ◌+◌, length, refl, ap, ◌∙◌, inl, inr, Option, Some, None}
use Rattle.std.specs.List.{find}
use Rattle.std.specs.Option.{option_map_or}
use Rattle.std.specs.Prelude.{◌==◌, option_map}
use Rattle.std.proofs.lemmas.List.{length-map}
use Rattle.fsa_types.specs.Rows.{row_of, with_row_changed}
use Rattle.fsa_model.specs.Changes.{ancestors, path_units, seen_from, stream_suffix, units_noted, dirs_noted}
use Rattle.fsa_model.specs.Edits.{with_link_marked, with_stream_marked}
use Rattle.fsa_model.specs.Lookups.{link_of_file}
use Rattle.fsa_model.specs.Volume.{Link, Stream, Volume}
use Rattle.fsa_model.proofs.RowLaws.{find-map, find-same, option_cases, change_at, change_at-number, change_at-same}

-- the links, one of them marked or cleared
abbrev marked : List (ℕ × Link) → ℕ → Bool → List (ℕ × Link)
marked links link deleted = with_row_changed (λ row. record row { deleted = deleted }) links link

-- the row of a number, where one is changed
pub row_of-change : {R : Type 0} (change : R → R) (rows : List (ℕ × R)) (id other : ℕ)
    → row_of (with_row_changed change rows id) other ≡ option_map (λ entry. (change_at change id entry).1) (find (λ entry. entry.0 == other) rows)
row_of-change {R} change rows id other =
    let moved = find-map (λ (entry : ℕ × R). entry.0 == other) (change_at change id) rows in
    let same = find-same (λ (entry : ℕ × R). (change_at change id entry).0 == other) (λ entry. entry.0 == other) rows (λ entry. ap (λ n. n == other) (change_at-number change id entry)) in
    elim (option_cases (find (λ (entry : ℕ × R). entry.0 == other) rows)) [
      | inl none ↦ rw (moved, same, none) refl
      | inr some ↦ rw (moved, same, some.1) refl
    ]

-- a step up
link_of_file-marked : (links : List (ℕ × Link)) (link : ℕ) (deleted : Bool) (dir : ℕ)
    → link_of_file (marked links link deleted) dir ≡ option_map (change_at (λ row. record row { deleted = deleted }) link) (link_of_file links dir)
link_of_file-marked links link deleted dir =
    let change : Link → Link = λ row. record row { deleted = deleted } in
    find-map (λ (entry : ℕ × Link). entry.1.file == dir) (change_at change link) links
    ∙ ap (option_map (change_at change link)) (find-same (λ (entry : ℕ × Link). (change_at change link entry).1.file == dir) (λ entry. entry.1.file == dir) links
    (λ entry. ap (λ n. n == dir) (change_at-same change link (λ row. row.file) (λ row. refl) entry)))

-- and all of them
ancestors-marked : (most : ℕ) (links : List (ℕ × Link)) (link : ℕ) (deleted : Bool) (dir : ℕ) (name : List ℕ)
    → ancestors most (marked links link deleted) dir name ≡ ancestors most links dir name
ancestors-marked zero links link deleted dir name = refl
ancestors-marked (suc most) links link deleted dir name =
    let change : Link → Link = λ row. record row { deleted = deleted } in
    let up = link_of_file-marked links link deleted dir in
    elim (option_cases (link_of_file links dir)) [
      | inl none ↦ rw (up, none) refl
      | inr some ↦ (let parent = change_at-same change link (λ row. row.parent) (λ row. refl) some.0 in
          let named = change_at-same change link (λ row. row.name) (λ row. refl) some.0 in
          rw (up, some.1, parent, named) (ap (λ above. (dir, name) ∷ above) (ancestors-marked most links link deleted some.0.1.parent (some.0.1.name ++ 92 ∷ name))))
    ]

-- what is measured of where a link is seen from
measured-marked : {X : Type 0} (measure : List (ℕ × List ℕ) → X) (none : X) (v : Volume) (link : ℕ) (deleted : Bool) (other : ℕ) (stream : Option ℕ)
    → option_map_or (λ row. measure (seen_from (marked v.links link deleted) row (stream_suffix v.streams stream))) (row_of (marked v.links link deleted) other) none
    ≡ option_map_or (λ row. measure (seen_from v.links row (stream_suffix v.streams stream))) (row_of v.links other) none
measured-marked measure none v link deleted other stream =
    let change : Link → Link = λ row. record row { deleted = deleted } in
    let row = row_of-change change v.links link other in
    elim (option_cases (find (λ (entry : ℕ × Link). entry.0 == other) v.links)) [
      | inl missing ↦ rw (row, missing) refl
      | inr some ↦ (let parent = change_at-same change link (λ row. row.parent) (λ row. refl) some.0 in
          let named = change_at-same change link (λ row. row.name) (λ row. refl) some.0 in
          rw (row, some.1, parent, named, length-map v.links (change_at change link)) (ap measure (ancestors-marked (length v.links + 1) v.links link deleted some.0.1.parent (some.0.1.name ++ stream_suffix v.streams stream))))
    ]

pub units_noted-link_marked : (v : Volume) (link : ℕ) (deleted : Bool) (other : ℕ) (stream : Option ℕ) → units_noted (with_link_marked v link deleted) other stream ≡ units_noted v other stream
units_noted-link_marked v link deleted other stream = measured-marked path_units 0 v link deleted other stream

pub dirs_noted-link_marked : (v : Volume) (link : ℕ) (deleted : Bool) (other : ℕ) (stream : Option ℕ) → dirs_noted (with_link_marked v link deleted) other stream ≡ dirs_noted v other stream
dirs_noted-link_marked v link deleted other stream = measured-marked length 0 v link deleted other stream

-- the name of a stream, where one is marked or cleared
suffix-marked : (streams : List (ℕ × Stream)) (id : ℕ) (deleted : Bool) (stream : Option ℕ)
    → stream_suffix (with_row_changed (λ row. record row { deleted = deleted }) streams id) stream ≡ stream_suffix streams stream
suffix-marked streams id deleted None = refl
suffix-marked streams id deleted (Some stream) =
    let change : Stream → Stream = λ row. record row { deleted = deleted } in
    let row = row_of-change change streams id stream in
    elim (option_cases (find (λ (entry : ℕ × Stream). entry.0 == stream) streams)) [
      | inl missing ↦ rw (row, missing) refl
      | inr some ↦ (let named = change_at-same change id (λ row. row.name) (λ row. refl) some.0 in rw (row, some.1, named) refl)
    ]

pub units_noted-stream_marked : (v : Volume) (id : ℕ) (deleted : Bool) (link : ℕ) (stream : Option ℕ) → units_noted (with_stream_marked v id deleted) link stream ≡ units_noted v link stream
units_noted-stream_marked v id deleted link stream =
    ap (λ (suffix : List ℕ). option_map_or (λ row. path_units (seen_from v.links row suffix)) (row_of v.links link) 0) (suffix-marked v.streams id deleted stream)

pub dirs_noted-stream_marked : (v : Volume) (id : ℕ) (deleted : Bool) (link : ℕ) (stream : Option ℕ) → dirs_noted (with_stream_marked v id deleted) link stream ≡ dirs_noted v link stream
dirs_noted-stream_marked v id deleted link stream =
    ap (λ (suffix : List ℕ). option_map_or (λ row. length (seen_from v.links row suffix)) (row_of v.links link) 0) (suffix-marked v.streams id deleted stream)
