-- Nothing is left over by the changes that a call asks for, one after the other: each kind of change, what it asks of the volume
-- before it, and then lists of them.
use Rattle.std.proofs.Common.{◌≡◌, ℕ, ◌+◌, Bool, true, false, ◌==◌, List, [], get_or, refl, sym, ◌∙◌, inl, inr, Option, Some, None}
use Rattle.std.specs.Prelude.{All}
use Rattle.std.proofs.lemmas.Bool.{cases_Bool, eqb-true}
use Rattle.fsa_types.specs.Masks.{FILE_ACTION_ADDED, FILE_ACTION_ADDED_STREAM, FILE_ACTION_MODIFIED, FILE_ACTION_MODIFIED_STREAM, FILE_ACTION_REMOVED, FILE_ACTION_REMOVED_STREAM, FILE_ACTION_RENAMED_NEW_NAME, FILE_ACTION_RENAMED_OLD_NAME, FILE_NOTIFY_CHANGE_ATTRIBUTES, FILE_NOTIFY_CHANGE_DIR_NAME, FILE_NOTIFY_CHANGE_FILE_NAME, FILE_NOTIFY_CHANGE_SECURITY, FILE_NOTIFY_CHANGE_STREAM_NAME}
use Rattle.fsa_types.specs.Rows.{IsNumbered, lives, row_of, with_row_changed}
use Rattle.fsa_types.specs.StreamBytes.{put, cut}
use Rattle.fsa_types.specs.declared.request.DaclChange.{DaclChange}
use Rattle.fsa_types.specs.declared.request.DaclChange.TheVariants.{Keep, Remove, Put}
use Rattle.fsa_model.specs.Changes.{with_change_noted}
use Rattle.fsa_model.specs.Edits.{with_file, with_link, with_link_moved, with_point}
use Rattle.fsa_model.specs.Lookups.{parent_of}
use Rattle.fsa_model.specs.Security.{asks_something, mapped, with_dacl_asked, with_owner_asked}
use Rattle.fsa_model.specs.SetBasic.{basic_bits, with_basics}
use Rattle.fsa_model.specs.Volume.{Link, Stream, Volume}
use Rattle.fsa_model.proofs.RowLaws.{change_at, change_at-same, lives-last, option_cases}
use Rattle.history_laws.specs.TreeChanges.{TreeChange, MakesDirectory, MakesFile, MakesStream, AddsLink, MovesLink, RemovesLink, RemovesStream, MarksLink, MarksStream, Writes, Resizes, Overwrites, SetsBasics, SetsSecurity, SetsPoint, SetsChangeTime, filter_of_name, with_bytes_noted, with_move, with_security_of, with_tree_change}
use Rattle.history_laws.proofs.OverChanges.{Over, Over-file_changed, Over-file_more, Over-link_changed, Over-link_more, Over-noted, Over-stream_changed, Over-stream_more, Over-without_link, Over-without_stream}

-- what is noted changes neither files nor links nor streams, nor the numbers given
pub noted-files : (v : Volume) (link action bits : ℕ) (stream : Option ℕ) → (with_change_noted v link action bits stream).files ≡ v.files
noted-files v link action bits stream = elim (option_cases (row_of v.links link)) [ inl none ↦ rw none refl | inr some ↦ rw some.1 refl ]

pub noted-links : (v : Volume) (link action bits : ℕ) (stream : Option ℕ) → (with_change_noted v link action bits stream).links ≡ v.links
noted-links v link action bits stream = elim (option_cases (row_of v.links link)) [ inl none ↦ rw none refl | inr some ↦ rw some.1 refl ]

pub noted-last_link : (v : Volume) (link action bits : ℕ) (stream : Option ℕ) → (with_change_noted v link action bits stream).last_link ≡ v.last_link
noted-last_link v link action bits stream = elim (option_cases (row_of v.links link)) [ inl none ↦ rw none refl | inr some ↦ rw some.1 refl ]

-- ---- each kind of change

module _ (by on : ℕ → Bool) where
  -- what a change asks of the volume before it
  abbrev pub Fits : Volume → TreeChange → Type 0
  Fits v (MakesStream link file name) = lives v.files file ≡ true
  Fits v (AddsLink dir name file) = lives v.files file ≡ true
  Fits v (RemovesLink link) = IsNumbered v.links v.last_link
  Fits v (MarksLink link true) = by link ≡ true
  Fits v (MarksStream stream true) = on stream ≡ true
  Fits v _ = Unit {0}

  -- a change of bytes, or of a file's fields, noted or not
  over-bytes_noted : (v : Volume) (link stream : ℕ) (named : Bool) (filters stream_filters : ℕ) → Over by on v → Over by on (with_bytes_noted v link stream named filters stream_filters)
  over-bytes_noted v link stream true filters stream_filters over = Over-noted by on v link FILE_ACTION_MODIFIED_STREAM stream_filters (Some stream) over
  over-bytes_noted v link stream false filters stream_filters over = Over-noted by on v link FILE_ACTION_MODIFIED filters None over

  over-moved : (v : Volume) (link dir : ℕ) (name : List ℕ) → Over by on v → Over by on (with_link_moved v link dir name)
  over-moved v link dir name over = Over-link_changed by on v moved link (λ row. refl)
      (λ k d within marked. over.marked_links k d within (sym (change_at-same moved link (λ (row : Link). row.deleted) (λ row. refl) (get_or v.links k d)) ∙ marked)) over
    where
      moved : Link → Link
      moved row = record row { parent = dir; name = name }

  over-move : (v : Volume) (link dir : ℕ) (name : List ℕ) (old new : ℕ) → Over by on v → Over by on (with_move v link dir name old new)
  over-move v link dir name old new over =
      let first : Over by on (with_change_noted v link old (filter_of_name v link) None) = Over-noted by on v link old (filter_of_name v link) None over in
      Over-noted by on (with_link_moved (with_change_noted v link old (filter_of_name v link) None) link dir name) link new (filter_of_name v link) None
      (over-moved (with_change_noted v link old (filter_of_name v link) None) link dir name first)

  over-stream_bytes : (v : Volume) (change : List ℕ → List ℕ) (stream : ℕ) → Over by on v
      → Over by on (record v { streams = with_row_changed (λ (row : Stream). record row { bytes = change row.bytes }) v.streams stream })
  over-stream_bytes v change stream over = Over-stream_changed by on v changed stream (λ row. refl)
      (λ k d within marked. over.marked_streams k d within (sym (change_at-same changed stream (λ (row : Stream). row.deleted) (λ row. refl) (get_or v.streams k d)) ∙ marked)) over
    where
      changed : Stream → Stream
      changed row = record row { bytes = change row.bytes }

  pub over-link_marked : (v : Volume) (link : ℕ) (marked : Bool) → (marked ≡ true → by link ≡ true) → Over by on v
      → Over by on (record v { links = with_row_changed (λ (row : Link). record row { deleted = marked }) v.links link })
  over-link_marked v link marked held over = Over-link_changed by on v change link (λ row. refl) kept over
    where
      change : Link → Link
      change row = record row { deleted = marked }

      kept : All (λ entry. (change_at change link entry).1.deleted ≡ true → by entry.0 ≡ true) v.links
      kept k d within = elim (cases_Bool ((get_or v.links k d).0 == link)) [
        | inl here ↦ rw here (λ is. rw (eqb-true (get_or v.links k d).0 link here) (held is))
        | inr other ↦ rw other (over.marked_links k d within)
      ]

  pub over-stream_marked : (v : Volume) (stream : ℕ) (marked : Bool) → (marked ≡ true → on stream ≡ true) → Over by on v
      → Over by on (record v { streams = with_row_changed (λ (row : Stream). record row { deleted = marked }) v.streams stream })
  over-stream_marked v stream marked held over = Over-stream_changed by on v change stream (λ row. refl) kept over
    where
      change : Stream → Stream
      change row = record row { deleted = marked }

      kept : All (λ entry. (change_at change stream entry).1.deleted ≡ true → on entry.0 ≡ true) v.streams
      kept k d within = elim (cases_Bool ((get_or v.streams k d).0 == stream)) [
        | inl here ↦ rw here (λ is. rw (eqb-true (get_or v.streams k d).0 stream here) (held is))
        | inr other ↦ rw other (over.marked_streams k d within)
      ]

  over-owner : (v : Volume) (file : ℕ) (owner : Option ℕ) → Over by on v → Over by on (with_owner_asked v file owner)
  over-owner v file None over = over
  over-owner v file (Some sid) over = Over-file_changed by on v (λ row. record row { owner = sid }) file over

  over-dacl : (v : Volume) (file : ℕ) (dacl : DaclChange) → Over by on v → Over by on (with_dacl_asked v file dacl)
  over-dacl v file Keep over = over
  over-dacl v file Remove over = Over-file_changed by on v (λ row. record row { dacl = None }) file over
  over-dacl v file (Put dacl) over = Over-file_changed by on v (λ row. record row { dacl = Some (mapped dacl.items) }) file over

  over-security : (v : Volume) (file : ℕ) (owner : Option ℕ) (dacl : DaclChange) → Over by on v → Over by on (with_security_of v file owner dacl)
  over-security v file owner dacl over = Over-file_changed by on _ _ file (over-dacl (with_owner_asked v file owner) file dacl (over-owner v file owner over))

  -- what fits leaves nothing over
  pub over-change : (v : Volume) (change : TreeChange) → Fits v change → Over by on v → Over by on (with_tree_change v change)
  over-change v (MakesDirectory dir name file) fits over =
      Over-noted by on _ (v.last_link + 1) FILE_ACTION_ADDED FILE_NOTIFY_CHANGE_DIR_NAME None (Over-file_more by on v dir name file over)
  over-change v (MakesFile dir name file) fits over =
      Over-noted by on _ (v.last_link + 1) FILE_ACTION_ADDED FILE_NOTIFY_CHANGE_FILE_NAME None
      (Over-stream_more by on (with_link (with_file v file) dir name (v.last_file + 1)) (v.last_file + 1) [] (lives-last v.files (v.last_file + 1) file) (Over-file_more by on v dir name file over))
  over-change v (MakesStream link file name) fits over =
      Over-noted by on _ link FILE_ACTION_ADDED_STREAM FILE_NOTIFY_CHANGE_STREAM_NAME (Some (v.last_stream + 1)) (Over-stream_more by on v file name fits over)
  over-change v (AddsLink dir name file) fits over =
      Over-noted by on _ (v.last_link + 1) FILE_ACTION_ADDED FILE_NOTIFY_CHANGE_FILE_NAME None (Over-link_more by on v dir name file fits over)
  over-change v (MovesLink link dir name) fits over = elim (cases_Bool (parent_of v link == dir)) [
    | inl there ↦ rw there (over-move v link dir name FILE_ACTION_RENAMED_OLD_NAME FILE_ACTION_RENAMED_NEW_NAME over)
    | inr elsewhere ↦ rw elsewhere (over-move v link dir name FILE_ACTION_REMOVED FILE_ACTION_ADDED over)
  ]
  over-change v (RemovesLink link) fits over =
      Over-without_link by on (with_change_noted v link FILE_ACTION_REMOVED (filter_of_name v link) None) link
      (rw (noted-links v link FILE_ACTION_REMOVED (filter_of_name v link) None, noted-last_link v link FILE_ACTION_REMOVED (filter_of_name v link) None) fits)
      (Over-noted by on v link FILE_ACTION_REMOVED (filter_of_name v link) None over)
  over-change v (RemovesStream link stream) fits over =
      Over-without_stream by on (with_change_noted v link FILE_ACTION_REMOVED_STREAM FILE_NOTIFY_CHANGE_STREAM_NAME (Some stream)) stream
      (Over-noted by on v link FILE_ACTION_REMOVED_STREAM FILE_NOTIFY_CHANGE_STREAM_NAME (Some stream) over)
  over-change v (MarksLink link true) fits over = over-link_marked v link true (λ is. fits) over
  over-change v (MarksLink link false) fits over = over-link_marked v link false (λ is. cc) over
  over-change v (MarksStream stream true) fits over = over-stream_marked v stream true (λ is. fits) over
  over-change v (MarksStream stream false) fits over = over-stream_marked v stream false (λ is. cc) over
  over-change v (Writes link stream at bytes) fits over =
      Over-file_changed by on _ _ _ (over-stream_bytes _ (λ old. put old at bytes) stream (over-bytes_noted v link stream _ _ _ over))
  over-change v (Resizes link stream end) fits over =
      Over-file_changed by on _ _ _ (over-stream_bytes _ (λ old. cut old end) stream (over-bytes_noted v link stream _ _ _ over))
  over-change v (Overwrites link file stream named attributes) fits over =
      Over-file_changed by on _ _ file (over-stream_bytes _ (λ old. cut old 0) stream (over-bytes_noted v link stream named _ _ over))
  over-change v (SetsBasics link file basics) fits over = elim (cases_Bool (basic_bits basics == 0)) [
    | inl none ↦ rw none (Over-file_changed by on v _ file over)
    | inr some ↦ rw some (Over-noted by on (with_basics v file basics) link FILE_ACTION_MODIFIED (basic_bits basics) None (Over-file_changed by on v _ file over))
  ]
  over-change v (SetsSecurity link file owner dacl) fits over = elim (cases_Bool (asks_something owner dacl)) [
    | inl asks ↦ rw asks (Over-noted by on (with_security_of v file owner dacl) link FILE_ACTION_MODIFIED FILE_NOTIFY_CHANGE_SECURITY None (over-security v file owner dacl over))
    | inr asks_nothing ↦ rw asks_nothing (over-security v file owner dacl over)
  ]
  over-change v (SetsPoint link file point) fits over =
      Over-noted by on (with_point v file point) link FILE_ACTION_MODIFIED FILE_NOTIFY_CHANGE_ATTRIBUTES None (Over-file_changed by on v (λ row. record row { point = point }) file over)
  over-change v (SetsChangeTime file) fits over = Over-file_changed by on v _ file over
