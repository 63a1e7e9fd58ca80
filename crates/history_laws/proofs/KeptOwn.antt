-- A link that stays keeps its file, and a stream that stays its file and its name: no number is given twice, and each change of a row
-- leaves these as they were.
use Rattle.std.proofs.Common.{◌≡◌, ℕ, suc, ◌+◌, ◌≤◌, Bool, true, false, ◌==◌, not, List, [], ◌∷◌, ◌++◌, get_or, refl, ap, sym, subst, ◌∙◌, arith, inl, inr, Option, Some, None}
use Rattle.std.specs.Prelude.{All, filter, option_map}
use Rattle.std.proofs.lemmas.Bool.{cases_Bool, eqb-true}
use Rattle.std.proofs.lemmas.List.Elements.{All-filter, All-map, All-push}
use Rattle.fsa_types.specs.Rows.{IsNumbered, row_of, with_row_changed, without_row}
use Rattle.fsa_types.specs.StreamBytes.{put, cut}
use Rattle.fsa_types.specs.declared.request.DaclChange.{DaclChange}
use Rattle.fsa_types.specs.declared.request.DaclChange.TheVariants.{Keep, Remove, Put}
use Rattle.fsa_model.specs.Changes.{with_change_noted}
use Rattle.fsa_model.specs.Edits.{with_file, with_link, with_link_moved, with_stream, without_file_unless_linked, without_link, without_stream}
use Rattle.fsa_model.specs.Lookups.{has_row, parent_of}
use Rattle.fsa_model.specs.Security.{asks_something, with_dacl_asked, with_owner_asked}
use Rattle.fsa_model.specs.SetBasic.{basic_bits, with_basics}
use Rattle.fsa_model.specs.Volume.{File, Link, Stream, Volume}
use Rattle.fsa_model.proofs.RowLaws.{change_at, change_at-number, change_at-same, option_cases, row_of-here}
use Rattle.history_laws.specs.TreeChanges.{SameTree, TreeChange, MakesDirectory, MakesFile, MakesStream, AddsLink, MovesLink, RemovesLink, RemovesStream, MarksLink, MarksStream, Writes, Resizes, Overwrites, SetsBasics, SetsSecurity, SetsPoint, SetsChangeTime, filter_of_name, with_bytes_noted, with_move, with_security_of, with_tree_change, with_tree_changes}
use Rattle.history_laws.specs.TreeNotes.{KeepsOwn}

-- ---- rows

-- a row with a number that was given at first was there at first, with the same of what counts here; and the last number only rises
record KeptRows {R X : Type 0} (of : R → X) (first : List (ℕ × R)) (last : ℕ) (rows : List (ℕ × R)) (last_now : ℕ) : Type 0 where
  rises : last ≤ last_now
  were : All (λ entry. entry.0 ≤ last → option_map of (row_of first entry.0) ≡ Some (of entry.1)) rows

rows-begin : {R X : Type 0} (of : R → X) (rows : List (ℕ × R)) (last : ℕ) → IsNumbered rows last → KeptRows of rows last rows last
rows-begin {R} {X} of rows last numbered = record {
  rises = omega arith;
  were = λ k d within given. ap (λ (o : Option R). option_map of o) (row_of-here rows last k d numbered within);
}

-- with a row more, fewer rows, or a row changed in something else
rows-more : {R X : Type 0} (of : R → X) (first : List (ℕ × R)) (last : ℕ) (rows : List (ℕ × R)) (last_now : ℕ) (row : R) → KeptRows of first last rows last_now
    → KeptRows of first last (rows ++ (last_now + 1, row) ∷ []) (last_now + 1)
rows-more {R} {X} of first last rows last_now row kept =
    let rises : last ≤ last_now = kept.rises in
    record {
      rises = omega arith;
      were = All-push (λ (entry : ℕ × R). entry.0 ≤ last → option_map of (row_of first entry.0) ≡ Some (of entry.1)) rows (last_now + 1, row) kept.were (λ given. absurd (omega arith));
    }

rows-filter : {R X : Type 0} (of : R → X) (first : List (ℕ × R)) (last : ℕ) (rows : List (ℕ × R)) (last_now : ℕ) (keep : ℕ × R → Bool) → KeptRows of first last rows last_now
    → KeptRows of first last (filter keep rows) last_now
rows-filter {R} {X} of first last rows last_now keep kept = record {
  rises = kept.rises;
  were = All-filter keep (λ (entry : ℕ × R). entry.0 ≤ last → option_map of (row_of first entry.0) ≡ Some (of entry.1)) rows kept.were;
}

rows-changed : {R X : Type 0} (of : R → X) (first : List (ℕ × R)) (last : ℕ) (rows : List (ℕ × R)) (last_now : ℕ) (change : R → R) (id : ℕ) → ((row : R) → of (change row) ≡ of row)
    → KeptRows of first last rows last_now → KeptRows of first last (with_row_changed change rows id) last_now
rows-changed {R} {X} of first last rows last_now change id same kept = record {
  rises = kept.rises;
  were = All-map (λ (entry : ℕ × R). entry.0 ≤ last → option_map of (row_of first entry.0) ≡ Some (of entry.1)) (change_at change id) rows
      (λ k d within.
      subst (λ (n : ℕ). n ≤ last → option_map of (row_of first n) ≡ Some (of (change_at change id (get_or rows k d)).1)) (sym (change_at-number change id (get_or rows k d)))
      (subst (λ (x : X). (get_or rows k d).0 ≤ last → option_map of (row_of first (get_or rows k d).0) ≡ Some x) (sym (change_at-same change id of same (get_or rows k d)))
      (kept.were k d within)));
}

-- what is true of each number with its row is true of a row that is found
row_of-each : {R : Type 0} (P : ℕ × R → Type 0) (rows : List (ℕ × R)) (id : ℕ) (row : R) → row_of rows id ≡ Some row → All P rows → P (id, row)
row_of-each P [] id row found all = cc
row_of-each {R} P (x ∷ rows) id row found all = elim (cases_Bool (x.0 == id)) [
  | inl here ↦ (let is : Some x.1 ≡ Some row = rw here at found in let same : x.1 ≡ row = cc in
      subst (λ (n : ℕ). P (n, row)) (eqb-true x.0 id here) (subst (λ (r : R). P (x.0, r)) same (all 0 x (omega arith))))
  | inr other ↦ row_of-each P rows id row (rw other at found) (λ k d within. all (suc k) d (omega arith))
]

-- so a row that is there at first and later has the same
rows-end : {R X : Type 0} (of : R → X) (first : List (ℕ × R)) (last : ℕ) (rows : List (ℕ × R)) (last_now id : ℕ) (row row_now : R) → IsNumbered first last
    → KeptRows of first last rows last_now → row_of first id ≡ Some row → row_of rows id ≡ Some row_now → of row_now ≡ of row
rows-end {R} {X} of first last rows last_now id row row_now numbered kept before now =
    let given : id ≤ last = row_of-each (λ (entry : ℕ × R). entry.0 ≤ last) first id row before numbered.given in
    let was : option_map of (row_of first id) ≡ Some (of row_now) =
    row_of-each (λ (entry : ℕ × R). entry.0 ≤ last → option_map of (row_of first entry.0) ≡ Some (of entry.1)) rows id row_now now kept.were given in
    let both : Some (of row_now) ≡ Some (of row) = sym was ∙ ap (λ (o : Option R). option_map of o) before in
    cc

-- ---- links and streams

-- a link's file, and a stream's file and name
abbrev of_link : Link → ℕ
of_link row = row.file

abbrev of_stream : Stream → ℕ × List ℕ
of_stream row = (row.file, row.name)

-- they are kept since the first of these volumes
record Kept (first v : Volume) : Type 0 where
  links : KeptRows of_link first.links first.last_link v.links v.last_link
  streams : KeptRows of_stream first.streams first.last_stream v.streams v.last_stream

-- of another volume with the same links and streams
kept-same : (first v w : Volume) → w.links ≡ v.links → w.streams ≡ v.streams → w.last_link ≡ v.last_link → w.last_stream ≡ v.last_stream → Kept first v → Kept first w
kept-same first v w links streams last_link last_stream kept = record {
  links = rw (links, last_link) kept.links;
  streams = rw (streams, last_stream) kept.streams;
}

kept-noted : (first v : Volume) (link action bits : ℕ) (stream : Option ℕ) → Kept first v → Kept first (with_change_noted v link action bits stream)
kept-noted first v link action bits stream kept = elim (option_cases (row_of v.links link)) [
  | inl none ↦ rw none kept
  | inr some ↦ rw some.1 (record { links = kept.links; streams = kept.streams })
]

kept-files : (first v : Volume) (files : List (ℕ × File)) → Kept first v → Kept first (record v { files = files })
kept-files first v files kept = record { links = kept.links; streams = kept.streams }

kept-link_more : (first v : Volume) (dir : ℕ) (name : List ℕ) (file : ℕ) → Kept first v → Kept first (with_link v dir name file)
kept-link_more first v dir name file kept = record {
  links = rows-more of_link first.links first.last_link v.links v.last_link _ kept.links;
  streams = kept.streams;
}

kept-file_more : (first v : Volume) (dir : ℕ) (name : List ℕ) (file : File) → Kept first v → Kept first (with_link (with_file v file) dir name (v.last_file + 1))
kept-file_more first v dir name file kept =
    kept-link_more first (with_file v file) dir name (v.last_file + 1) (record { links = kept.links; streams = kept.streams })

kept-stream_more : (first v : Volume) (file : ℕ) (name : List ℕ) → Kept first v → Kept first (with_stream v file name)
kept-stream_more first v file name kept = record {
  links = kept.links;
  streams = rows-more of_stream first.streams first.last_stream v.streams v.last_stream _ kept.streams;
}

kept-link_changed : (first v : Volume) (change : Link → Link) (link : ℕ) → ((row : Link) → of_link (change row) ≡ of_link row) → Kept first v
    → Kept first (record v { links = with_row_changed change v.links link })
kept-link_changed first v change link same kept = record {
  links = rows-changed of_link first.links first.last_link v.links v.last_link change link same kept.links;
  streams = kept.streams;
}

kept-stream_changed : (first v : Volume) (change : Stream → Stream) (stream : ℕ) → ((row : Stream) → of_stream (change row) ≡ of_stream row) → Kept first v
    → Kept first (record v { streams = with_row_changed change v.streams stream })
kept-stream_changed first v change stream same kept = record {
  links = kept.links;
  streams = rows-changed of_stream first.streams first.last_stream v.streams v.last_stream change stream same kept.streams;
}

kept-without_stream : (first v : Volume) (stream : ℕ) → Kept first v → Kept first (without_stream v stream)
kept-without_stream first v stream kept = record {
  links = kept.links;
  streams = rows-filter of_stream first.streams first.last_stream v.streams v.last_stream (λ entry. not (entry.0 == stream)) kept.streams;
}

kept-without_file : (first v : Volume) (file : ℕ) → Kept first v → Kept first (without_file_unless_linked v file)
kept-without_file first v file kept = elim (cases_Bool (has_row (λ (link : Link). link.file == file) v.links)) [
  | inl linked ↦ rw linked kept
  | inr unlinked ↦ rw unlinked (record {
    links = kept.links;
    streams = rows-filter of_stream first.streams first.last_stream v.streams v.last_stream (λ entry. not (entry.1.file == file)) kept.streams;
  })
]

kept-without_link : (first v : Volume) (link : ℕ) → Kept first v → Kept first (without_link v link)
kept-without_link first v link kept = elim (option_cases (row_of v.links link)) [
  | inl none ↦ rw none kept
  | inr some ↦ rw some.1 (kept-without_file first (record v { links = without_row v.links link }) some.0.file (record {
    links = rows-filter of_link first.links first.last_link v.links v.last_link (λ entry. not (entry.0 == link)) kept.links;
    streams = kept.streams;
  }))
]

-- ---- each kind of change

kept-bytes_noted : (first v : Volume) (link stream : ℕ) (named : Bool) (filters stream_filters : ℕ) → Kept first v → Kept first (with_bytes_noted v link stream named filters stream_filters)
kept-bytes_noted first v link stream true filters stream_filters kept = kept-noted first v link _ stream_filters (Some stream) kept
kept-bytes_noted first v link stream false filters stream_filters kept = kept-noted first v link _ filters None kept

kept-bytes : (first v : Volume) (change : List ℕ → List ℕ) (stream : ℕ) → Kept first v
    → Kept first (record v { streams = with_row_changed (λ (row : Stream). record row { bytes = change row.bytes }) v.streams stream })
kept-bytes first v change stream kept = kept-stream_changed first v (λ row. record row { bytes = change row.bytes }) stream (λ row. refl) kept

kept-move : (first v : Volume) (link dir : ℕ) (name : List ℕ) (old new : ℕ) → Kept first v → Kept first (with_move v link dir name old new)
kept-move first v link dir name old new kept =
    kept-noted first (with_link_moved (with_change_noted v link old (filter_of_name v link) None) link dir name) link new (filter_of_name v link) None
    (kept-link_changed first (with_change_noted v link old (filter_of_name v link) None) (λ row. record row { parent = dir; name = name }) link (λ row. refl)
    (kept-noted first v link old (filter_of_name v link) None kept))

kept-owner : (first v : Volume) (file : ℕ) (owner : Option ℕ) → Kept first v → Kept first (with_owner_asked v file owner)
kept-owner first v file None kept = kept
kept-owner first v file (Some sid) kept = kept-files first v _ kept

kept-dacl : (first v : Volume) (file : ℕ) (dacl : DaclChange) → Kept first v → Kept first (with_dacl_asked v file dacl)
kept-dacl first v file Keep kept = kept
kept-dacl first v file Remove kept = kept-files first v _ kept
kept-dacl first v file (Put dacl) kept = kept-files first v _ kept

kept-security : (first v : Volume) (file : ℕ) (owner : Option ℕ) (dacl : DaclChange) → Kept first v → Kept first (with_security_of v file owner dacl)
kept-security first v file owner dacl kept =
    kept-files first (with_dacl_asked (with_owner_asked v file owner) file dacl) _ (kept-dacl first (with_owner_asked v file owner) file dacl (kept-owner first v file owner kept))

kept-change : (first v : Volume) (change : TreeChange) → Kept first v → Kept first (with_tree_change v change)
kept-change first v (MakesDirectory dir name file) kept = kept-noted first _ (v.last_link + 1) _ _ None (kept-file_more first v dir name file kept)
kept-change first v (MakesFile dir name file) kept =
    kept-noted first _ (v.last_link + 1) _ _ None
    (kept-stream_more first (with_link (with_file v file) dir name (v.last_file + 1)) (v.last_file + 1) [] (kept-file_more first v dir name file kept))
kept-change first v (MakesStream link file name) kept = kept-noted first _ link _ _ (Some (v.last_stream + 1)) (kept-stream_more first v file name kept)
kept-change first v (AddsLink dir name file) kept = kept-noted first _ (v.last_link + 1) _ _ None (kept-link_more first v dir name file kept)
kept-change first v (MovesLink link dir name) kept = elim (cases_Bool (parent_of v link == dir)) [
  | inl there ↦ rw there (kept-move first v link dir name _ _ kept)
  | inr elsewhere ↦ rw elsewhere (kept-move first v link dir name _ _ kept)
]
kept-change first v (RemovesLink link) kept = kept-without_link first _ link (kept-noted first v link _ (filter_of_name v link) None kept)
kept-change first v (RemovesStream link stream) kept = kept-without_stream first _ stream (kept-noted first v link _ _ (Some stream) kept)
kept-change first v (MarksLink link marked) kept = kept-link_changed first v (λ row. record row { deleted = marked }) link (λ row. refl) kept
kept-change first v (MarksStream stream marked) kept = kept-stream_changed first v (λ row. record row { deleted = marked }) stream (λ row. refl) kept
kept-change first v (Writes link stream at bytes) kept = kept-files first _ _ (kept-bytes first _ (λ old. put old at bytes) stream (kept-bytes_noted first v link stream _ _ _ kept))
kept-change first v (Resizes link stream end) kept = kept-files first _ _ (kept-bytes first _ (λ old. cut old end) stream (kept-bytes_noted first v link stream _ _ _ kept))
kept-change first v (Overwrites link file stream named attributes) kept =
    kept-files first _ _ (kept-bytes first _ (λ old. cut old 0) stream (kept-bytes_noted first v link stream named _ _ kept))
kept-change first v (SetsBasics link file basics) kept = elim (cases_Bool (basic_bits basics == 0)) [
  | inl none ↦ rw none (kept-files first v _ kept)
  | inr some ↦ rw some (kept-noted first (with_basics v file basics) link _ (basic_bits basics) None (kept-files first v _ kept))
]
kept-change first v (SetsSecurity link file owner dacl) kept = elim (cases_Bool (asks_something owner dacl)) [
  | inl asks ↦ rw asks (kept-noted first (with_security_of v file owner dacl) link _ _ None (kept-security first v file owner dacl kept))
  | inr asks_nothing ↦ rw asks_nothing (kept-security first v file owner dacl kept)
]
kept-change first v (SetsPoint link file point) kept = kept-noted first _ link _ _ None (kept-files first v _ kept)
kept-change first v (SetsChangeTime file) kept = kept-files first v _ kept

-- ---- lists of changes

kept-changes : (changes : List TreeChange) (first v : Volume) → Kept first v → Kept first (with_tree_changes v changes)
kept-changes [] first v kept = kept
kept-changes (change ∷ more) first v kept = kept-changes more first (with_tree_change v change) (kept-change first v change kept)

-- so it is of each volume that such changes leave
pub changes-keep : (v next : Volume) (changes : List TreeChange) → IsNumbered v.links v.last_link → IsNumbered v.streams v.last_stream
    → SameTree (with_tree_changes v changes) next → KeepsOwn v next
changes-keep v next changes links streams leaves = record {
  links = λ link row row_now before now. rows-end of_link v.links v.last_link next.links next.last_link link row row_now links kept.links before now;
  streams = λ stream row row_now before now. (let both : of_stream row_now ≡ of_stream row =
      rows-end of_stream v.streams v.last_stream next.streams next.last_stream stream row row_now streams kept.streams before now in
      (ap (λ (of : ℕ × List ℕ). of.0) both, ap (λ (of : ℕ × List ℕ). of.1) both));
}
  where
    begin : Kept v v
    begin = record {
      links = rows-begin of_link v.links v.last_link links;
      streams = rows-begin of_stream v.streams v.last_stream streams;
    }

    kept : Kept v next
    kept = kept-same v (with_tree_changes v changes) next leaves.links leaves.streams leaves.last_link leaves.last_stream (kept-changes changes v v begin)
