-- Marks and closes keep the tree sound: only what is empty is marked, and what is marked is removed only where it has no handle left.
use Rattle.std.proofs.Common.{◌≡◌, ℕ, Bool, true, false, ◌==◌, ◌&&◌, ◌||◌, not, List, [], ◌∷◌, refl, inl, inr, Option, Some, None}
use Rattle.std.specs.Option.{option_map_or}
use Rattle.std.specs.Prelude.{IfSome}
use Rattle.std.proofs.lemmas.Bool.{and_parts, cases_Bool, not-true}
use Rattle.fsa_types.specs.Access.{has_any}
use Rattle.fsa_types.specs.Masks.{DELETE, FILE_ACTION_REMOVED, FILE_ACTION_REMOVED_STREAM, FILE_NOTIFY_CHANGE_STREAM_NAME}
use Rattle.fsa_types.specs.Rows.{row_of}
use Rattle.fsa_types.specs.declared.oplock.Class.TheVariants.{NameChange}
use Rattle.fsa_types.specs.declared.reply.Body.TheVariants.{Nothing}
use Rattle.fsa_types.specs.declared.request.Request.TheVariants as request
use Rattle.fsa_types.specs.declared.request.What.{What}
use Rattle.fsa_types.specs.declared.request.What.TheVariants.{Ask}
use Rattle.fsa_types.specs.declared.status.Status.{Status}
use Rattle.fsa_types.specs.declared.status.Status.TheVariants.{AccessDenied, CannotDelete, Cancelled, DirectoryNotEmpty, InvalidHandle, Success}
use Rattle.fsa_model.specs.Breaks.{with_breaks}
use Rattle.fsa_model.specs.Changes.{with_change_noted}
use Rattle.fsa_model.specs.Close.{close_at, closed_status, handles_of_client, is_call_on, is_left_behind, is_link_of_parent, is_link_over, is_stream_over, name_bit, named_stream, pending_by_turn, try_close, try_leave, with_all_closed, with_calls_ended, with_client_gone, with_closed, with_link_swept, with_mark_on_close, with_stream_swept, with_swept}
use Rattle.fsa_model.specs.Edits.{with_end, without_handle}
use Rattle.fsa_model.specs.Lookups.{handle_of, has_child, has_row, is_link_marked, is_marked, is_open_by, is_open_on, linked_file}
use Rattle.fsa_model.specs.Open.{is_readonly}
use Rattle.fsa_model.specs.Outcome.{Outcome, ends_with, refused}
use Rattle.fsa_model.specs.SetDisposition.{delete_by, delete_marked, marked_handles, set_disposition_at, set_disposition_by, try_set_disposition, with_mark}
use Rattle.fsa_model.specs.Sound.{IsSoundTree}
use Rattle.fsa_model.specs.Turn.{volume_after}
use Rattle.fsa_model.specs.Volume.{Handle, Link, Pending, Stream, Volume}
use Rattle.fsa_model.specs.Waits.{held_by, waits_for}
use Rattle.fsa_model.proofs.CoherenceClose.{handles-noted}
use Rattle.fsa_model.proofs.RowLaws.{found-all, option_cases}
use Rattle.fsa_model.proofs.SoundLaws.{IsSoundTree-stream_changed, IsSoundTree-with_link_marked, IsSoundTree-without_handle, IsSoundTree-without_link, IsSoundTree-without_stream}
use Rattle.history_laws.specs.TreeChanges.{by_handle, changes_marking, changes_of}
use Rattle.history_laws.proofs.FitLists.{by-if, by-option}
use Rattle.history_laws.proofs.OverKinds.{noted-links}
use Rattle.history_laws.proofs.SoundKinds.{IsEmpty, IsSoundTree-same, SoundFitsAll, sound-noted}

-- ---- marks

-- the file of a link has nothing in it, unless the link is that of a directory with a link in it
pub childless-empty : (v : Volume) (link : ℕ) → is_link_of_parent v link ≡ false → IsEmpty v link
childless-empty v link childless = elim (option_cases (row_of v.links link)) [
  | inl none ↦ rw none tt
  | inr some ↦ rw some.1 (rw some.1 at childless)
]

-- what an outcome of the call changes fits
abbrev FitsMarked : Volume → ℕ → ℕ → ℕ → Bool → Outcome → Type 0
FitsMarked v client number name delete outcome = SoundFitsAll v (changes_of v client number (Ask (request.SetDisposition name delete)) outcome)

-- a mark that is set fits where the handle's link has nothing in it, and one that is cleared anyway
marking-fits : (v : Volume) (handle : Handle) (delete : Bool) → (delete ≡ true → IsEmpty v handle.link) → SoundFitsAll v (changes_marking v handle delete)
marking-fits v handle true empty = elim (option_cases (named_stream v handle)) [
  | inl none ↦ rw none (empty refl, tt)
  | inr some ↦ rw some.1 (tt, tt)
]
marking-fits v handle false empty = elim (option_cases (named_stream v handle)) [
  | inl none ↦ rw none (tt, tt)
  | inr some ↦ rw some.1 (tt, tt)
]

delete_by-fits : (v : Volume) (client number name id : ℕ) (handle : Handle) → by_handle v client name (λ id row. changes_marking v row true) ≡ changes_marking v handle true
    → FitsMarked v client number name true (delete_by v id handle)
unfolding delete_by delete_marked
delete_by-fits v client number name id handle are =
    by-if (FitsMarked v client number name true) (handle.link == 0 || is_readonly v (linked_file v handle.link)) (refused v CannotDelete) _ (λ is. tt)
    (λ isnt. by-if (FitsMarked v client number name true) (is_link_of_parent v handle.link) (refused v DirectoryNotEmpty) _ (λ is. tt)
    (λ childless. by-if (FitsMarked v client number name true) (waits_for v (marked_handles v handle) NameChange (Some id) handle.key) (held_by v (marked_handles v handle) NameChange (Some id) handle.key)
    (ends_with (with_mark (with_breaks v (marked_handles v handle) NameChange (Some id) handle.key) handle true) Success) (λ is. tt)
    (λ isnt. rw are (marking-fits v handle true (λ is. childless-empty v handle.link childless)))))

set_disposition_by-fits : (v : Volume) (client number name id : ℕ) (handle : Handle) (delete : Bool)
    → by_handle v client name (λ id row. changes_marking v row delete) ≡ changes_marking v handle delete → FitsMarked v client number name delete (set_disposition_by v id handle delete)
unfolding set_disposition_by
set_disposition_by-fits v client number name id handle true are =
    by-if (FitsMarked v client number name true) (not (has_any handle.access DELETE)) (refused v AccessDenied) _ (λ is. tt) (λ isnt. delete_by-fits v client number name id handle are)
set_disposition_by-fits v client number name id handle false are =
    by-if (FitsMarked v client number name false) (not (has_any handle.access DELETE)) (refused v AccessDenied) _ (λ is. tt)
    (λ isnt. rw are (marking-fits v handle false (λ is. cc)))

set_disposition_at-fits : (v : Volume) (client number name id : ℕ) (delete : Bool) → handle_of v client name ≡ Some id
    → FitsMarked v client number name delete (set_disposition_at v id delete)
unfolding set_disposition_at
set_disposition_at-fits v client number name id delete found =
    by-option (FitsMarked v client number name delete) (row_of v.handles id) _ (refused v InvalidHandle)
    (λ handle row. set_disposition_by-fits v client number name id handle delete (rw (found, row) refl)) (λ none. tt)

-- what a mark changes fits, or its clearing
pub set_disposition-fits : (v : Volume) (client number handle : ℕ) (delete : Bool) → IsSoundTree v
    → SoundFitsAll v (changes_of v client number (Ask (request.SetDisposition handle delete)) (try_set_disposition v client handle delete))
unfolding try_set_disposition
set_disposition-fits v client number handle delete sound =
    by-option (FitsMarked v client number handle delete) (handle_of v client handle) (λ id. set_disposition_at v id delete) (refused v InvalidHandle)
    (λ id found. set_disposition_at-fits v client number handle id delete found) (λ none. tt)

-- ---- calls that end

IsSoundTree-calls_ended : (status_of : What → Status) (calls : List (ℕ × Pending)) (v : Volume) → IsSoundTree v → IsSoundTree (with_calls_ended status_of calls v)
IsSoundTree-calls_ended status_of [] v sound = sound
IsSoundTree-calls_ended status_of (entry ∷ more) v sound =
    (let first : Volume = with_end v entry.1.call.client entry.1.call.number (record { status = status_of entry.1.call.what; body = Nothing }) in
    IsSoundTree-calls_ended status_of more first (IsSoundTree-same v first refl refl refl refl refl refl refl refl refl sound))

-- ---- a handle's close

-- with DELETE_ON_CLOSE a named stream is marked, or a link with nothing in it
IsSoundTree-marked_on_close : (v : Volume) (handle : Handle) → IsSoundTree v → IsSoundTree (with_mark_on_close v handle)
IsSoundTree-marked_on_close v handle sound = elim (cases_Bool handle.delete_on_close) [
  | inr keeps ↦ rw keeps sound
  | inl deletes ↦ rw deletes (elim (option_cases (named_stream v handle)) [
    | inl none ↦ rw none (elim (cases_Bool (is_link_of_parent v handle.link)) [
      | inl parent ↦ rw parent sound
      | inr childless ↦ rw childless (IsSoundTree-with_link_marked v handle.link true sound (λ is. childless-empty v handle.link childless))
    ])
    | inr some ↦ rw some.1 (IsSoundTree-stream_changed v (λ (row : Stream). record row { deleted = true }) some.0 sound (λ row. refl) (λ row. refl))
  ])
]

-- a stream is removed that no handle is on
IsSoundTree-stream_swept : (v : Volume) (link stream : ℕ) → IsSoundTree v → IsSoundTree (with_stream_swept v link stream)
IsSoundTree-stream_swept v link stream sound = elim (cases_Bool (is_stream_over v stream)) [
  | inr stays ↦ rw stays sound
  | inl over ↦ rw over (IsSoundTree-without_stream (with_change_noted v link FILE_ACTION_REMOVED_STREAM FILE_NOTIFY_CHANGE_STREAM_NAME (Some stream)) stream
      (sound-noted v link FILE_ACTION_REMOVED_STREAM FILE_NOTIFY_CHANGE_STREAM_NAME (Some stream) sound)
      (rw (handles-noted v link FILE_ACTION_REMOVED_STREAM FILE_NOTIFY_CHANGE_STREAM_NAME (Some stream))
      (not-true (has_row (is_open_on stream) v.handles) (and_parts (is_marked v stream) (not (has_row (is_open_on stream) v.handles)) over).1)))
]

-- what is marked has nothing in it
pub marked-empty : (v : Volume) (link : ℕ) → IsSoundTree v → is_link_marked v link ≡ true → IsEmpty v link
marked-empty v link sound marked = elim (option_cases (row_of v.links link)) [
  | inl none ↦ rw none tt
  | inr some ↦ (let empty : IfSome (row_of v.links link) (λ (row : Link). (row.deleted && has_child v.links row.file) ≡ false)
      = found-all (λ (row : Link). (row.deleted && has_child v.links row.file) ≡ false) v.links link sound.tree.marked_are_empty in
      let here : (some.0.deleted && has_child v.links some.0.file) ≡ false = rw some.1 at empty in
      let deleted : some.0.deleted ≡ true = rw some.1 at marked in
      rw some.1 (rw deleted at here))
]

-- a link is removed that was marked, and that no handle is by
IsSoundTree-link_swept : (v : Volume) (link : ℕ) → IsSoundTree v → IsSoundTree (with_link_swept v link)
IsSoundTree-link_swept v link sound = elim (cases_Bool (is_link_over v link)) [
  | inr stays ↦ rw stays sound
  | inl over ↦ (let parts = and_parts (is_link_marked v link) (not (has_row (is_open_by link) v.handles)) over in
      rw over (IsSoundTree-without_link (with_change_noted v link FILE_ACTION_REMOVED (name_bit v link) None) link
      (sound-noted v link FILE_ACTION_REMOVED (name_bit v link) None sound)
      (rw (noted-links v link FILE_ACTION_REMOVED (name_bit v link) None) (marked-empty v link sound parts.0))
      (rw (handles-noted v link FILE_ACTION_REMOVED (name_bit v link) None) (not-true (has_row (is_open_by link) v.handles) parts.1))))
]

IsSoundTree-swept : (v : Volume) (handle : Handle) → IsSoundTree v → IsSoundTree (with_swept v handle)
IsSoundTree-swept v handle sound = elim (option_cases handle.stream) [
  | inl none ↦ rw none (IsSoundTree-link_swept v handle.link sound)
  | inr some ↦ rw some.1 (IsSoundTree-link_swept (with_stream_swept v handle.link some.0) handle.link (IsSoundTree-stream_swept v handle.link some.0 sound))
]

IsSoundTree-closed : (v : Volume) (id : ℕ) (handle : Handle) → IsSoundTree v → IsSoundTree (with_closed v id handle)
unfolding with_closed
IsSoundTree-closed v id handle sound =
    let ended : Volume = with_calls_ended closed_status (pending_by_turn (is_call_on handle) v) v in
    IsSoundTree-swept (with_mark_on_close (without_handle ended id) handle) handle
    (IsSoundTree-marked_on_close (without_handle ended id) handle
    (IsSoundTree-without_handle ended id (IsSoundTree-calls_ended closed_status (pending_by_turn (is_call_on handle) v) v sound)))

IsSoundTree-all_closed : (handles : List (ℕ × Handle)) (v : Volume) → IsSoundTree v → IsSoundTree (with_all_closed handles v)
IsSoundTree-all_closed [] v sound = sound
IsSoundTree-all_closed (entry ∷ more) v sound = IsSoundTree-all_closed more (with_closed v entry.0 entry.1) (IsSoundTree-closed v entry.0 entry.1 sound)

-- ---- the calls

-- a close keeps the tree sound
pub close-sound : (v : Volume) (client handle : ℕ) → IsSoundTree v → IsSoundTree (volume_after (try_close v client handle))
unfolding try_close close_at
close-sound v client handle sound = of_id (handle_of v client handle)
  where
    of_row : (id : ℕ) (row : Option Handle) → IsSoundTree (volume_after (option_map_or (λ held. ends_with (with_closed v id held) Success) row (refused v InvalidHandle)))
    of_row id None = sound
    of_row id (Some row) = IsSoundTree-closed v id row sound

    of_id : (id : Option ℕ) → IsSoundTree (volume_after (option_map_or (λ held. close_at v held) id (refused v InvalidHandle)))
    of_id None = sound
    of_id (Some id) = of_row id (row_of v.handles id)

-- a leaving keeps the tree sound
pub leave-sound : (v : Volume) (client : ℕ) → IsSoundTree v → IsSoundTree (volume_after (try_leave v client))
unfolding try_leave with_client_gone
leave-sound v client sound =
    let ended : Volume = with_calls_ended (λ _. Cancelled) (pending_by_turn (is_left_behind client) v) v in
    let gone : Volume = with_all_closed (handles_of_client v client) ended in
    IsSoundTree-same gone _ refl refl refl refl refl refl refl refl refl
    (IsSoundTree-all_closed (handles_of_client v client) ended (IsSoundTree-calls_ended (λ _. Cancelled) (pending_by_turn (is_left_behind client) v) v sound))
