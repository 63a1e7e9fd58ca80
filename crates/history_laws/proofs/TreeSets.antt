-- Writes, new lengths, marks, times and attributes, owners and access lists, and reparse points: each try leaves just what the
-- changes leave that it asks for.
use Rattle.std.proofs.Common.{◌≡◌, ℕ, ◌+◌, Bool, true, false, not, ◌==◌, List, [], ◌∷◌, length, refl, sym, ◌∙◌, inl, inr, Option, Some, None}
use Rattle.std.specs.Prelude.{◌||◌, nat_lt, unwrap_or, if◌then◌else◌}
use Rattle.std.proofs.lemmas.Bool.{cases_Bool}
use Rattle.fsa_types.specs.Access.{has_any}
use Rattle.fsa_types.specs.FixedBuffers.{read_reparse}
use Rattle.fsa_types.specs.Masks.{DELETE, WRITE_ATTRIBUTES, WRITE_DATA}
use Rattle.fsa_types.specs.Rows.{row_of}
use Rattle.fsa_types.specs.declared.oplock.Class.{Class}
use Rattle.fsa_types.specs.declared.oplock.Class.TheVariants.{Change, NameChange}
use Rattle.fsa_types.specs.declared.oplock.HandleSet.{HandleSet}
use Rattle.fsa_types.specs.declared.oplock.HandleSet.TheVariants as set
use Rattle.fsa_types.specs.declared.reply.Body.TheVariants.{Nothing, Count}
use Rattle.fsa_types.specs.declared.request.DaclChange.{DaclChange}
use Rattle.fsa_types.specs.declared.request.Request.TheVariants as request
use Rattle.fsa_types.specs.declared.request.What.{What}
use Rattle.fsa_types.specs.declared.request.What.TheVariants.{Ask}
use Rattle.fsa_types.specs.declared.status.Status.{Status}
use Rattle.fsa_types.specs.declared.status.Status.TheVariants.{Success, InvalidHandle, InvalidDeviceRequest, InvalidParameter, AccessDenied, CannotDelete, DirectoryNotEmpty, DiskFull, FileLockConflict, IoReparseDataInvalid, IoReparseTagInvalid, IoReparseTagMismatch, NotAReparsePoint, QuotaExceeded}
use Rattle.fsa_model.specs.Breaks.{with_breaks}
use Rattle.fsa_model.specs.Close.{is_link_of_parent, named_stream}
use Rattle.fsa_model.specs.Growth.{growth_fault}
use Rattle.fsa_model.specs.Locked.{write_is_locked}
use Rattle.fsa_model.specs.Lookups.{bytes_of, file_of_link, handle_of, largest_end, linked_file}
use Rattle.fsa_model.specs.Open.{is_readonly}
use Rattle.fsa_model.specs.Outcome.{Outcome, ends_with, refused}
use Rattle.fsa_model.specs.ReparsePoints.{delete_reparse_at, delete_reparse_by, delete_reparse_of, has_other_tag, is_no_tag, may_set_point, remove_point, set_buffer, set_point, set_reparse_at, set_reparse_by, try_delete_reparse, try_set_reparse, with_point_noted}
use Rattle.fsa_model.specs.Security.{is_foreign, lacks_right, passes_limit, set_security_at, set_security_by, set_security_of, try_set_security, with_security}
use Rattle.fsa_model.specs.SetBasic.{Basics, has_no_time, has_wrong_attributes, set_basic_at, set_basic_by, set_basic_of, try_set_basic, with_basics_noted}
use Rattle.fsa_model.specs.SetDisposition.{delete_by, delete_marked, marked_handles, set_disposition_at, set_disposition_by, try_set_disposition, with_mark}
use Rattle.fsa_model.specs.SetEnd.{set_end_at, set_end_by, set_end_grown, set_end_stream, set_end_to, try_set_end, with_end_set}
use Rattle.fsa_model.specs.Volume.{Handle, Volume}
use Rattle.fsa_model.specs.Waits.{held_by, waits_for}
use Rattle.fsa_model.specs.Walk.{point_of}
use Rattle.fsa_model.specs.Write.{can_write, try_write, with_written, write_at, write_at_place, write_by, write_bytes, write_grown, write_range, write_stream, write_unlocked}
use Rattle.fsa_model.proofs.RowLaws.{option_cases}
use Rattle.history_laws.specs.TreeChanges.{LeavesChanges, SameTree, TreeChange, Resizes, SetsBasics, SetsPoint, SetsSecurity, Writes, by_handle, changes_asked, changes_marking, changes_resizing, changes_with_point, changes_writing, of_file, where_success, with_tree_changes}
use Rattle.history_laws.proofs.TreeParts.{Alike, Alike-breaks, Alike-same, SameTree-same, leaves-held_by, leaves-if, leaves-made, leaves-none, leaves-option, leaves-refused}

-- ---- what all of them share

-- a handle that is found stands for its own changes
by_handle-is : (v : Volume) (client number id : ℕ) (handle : Handle) (changes : ℕ → Handle → List TreeChange) → handle_of v client number ≡ Some id → row_of v.handles id ≡ Some handle
    → by_handle v client number changes ≡ changes id handle
by_handle-is v client number id handle changes found row = rw (found, row) refl

-- and its link's file, where that is found, for the file's
of_file-is : (v : Volume) (handle : Handle) (file : ℕ) (changes : ℕ → List TreeChange) → file_of_link v.links handle.link ≡ Some file → of_file v handle changes ≡ changes file
of_file-is v handle file changes found = rw found refl

-- it's held by breaks or goes on after them
leaves-breaks : (v : Volume) (client number : ℕ) (what : What) (on : HandleSet) (class : Class) (acting : Option ℕ) (key : ℕ) (next : Outcome)
    → (Alike v (with_breaks v on class acting key) → LeavesChanges v client number what next)
    → LeavesChanges v client number what (if waits_for v on class acting key then held_by v on class acting key else next)
leaves-breaks v client number what on class acting key next after =
    leaves-if v client number what (waits_for v on class acting key) (held_by v on class acting key) next
    (λ is. leaves-held_by v v client number what on class acting key (Alike-same v))
    (λ isnt. after (Alike-breaks v on class acting key))

-- why a stream can't grow is never SUCCESS
fault-is : (fits passes full : Bool) (status : Status) (changes : List TreeChange) → (if fits then None else if passes then Some QuotaExceeded else if full then Some DiskFull else None) ≡ Some status
    → where_success status changes ≡ []
fault-is true passes full status changes is = cc
fault-is false true full status changes is = (let same : QuotaExceeded ≡ status = cc in rw (sym same) refl)
fault-is false false true status changes is = (let same : DiskFull ≡ status = cc in rw (sym same) refl)
fault-is false false false status changes is = cc

growth_fault-is : (v : Volume) (stream bytes : ℕ) (status : Status) (changes : List TreeChange) → growth_fault v stream bytes ≡ Some status → where_success status changes ≡ []
growth_fault-is v stream bytes status changes is = fault-is _ _ _ status changes is

-- so a try is refused by it
leaves-unfit : (v u : Volume) (client number : ℕ) (what : What) (stream bytes : ℕ) (status : Status) → Alike v u → growth_fault u stream bytes ≡ Some status
    → LeavesChanges v client number what (refused u status)
leaves-unfit v u client number what stream bytes status alike is =
    leaves-none v u client number what (record { status = status; body = Nothing }) (growth_fault-is u stream bytes status (changes_asked v client number what Nothing) is) alike

-- ---- writes

abbrev writes : ℕ → Option ℕ → List ℕ → What
writes name at bytes = Ask (request.Write name at bytes)

-- the changes of the client's handle of this name
abbrev written_by : Volume → ℕ → ℕ → Option ℕ → List ℕ → List TreeChange
written_by v client name at bytes = by_handle v client name (λ id row. changes_writing v row at bytes)

write_bytes-leaves : (v u : Volume) (client number name : ℕ) (at : Option ℕ) (link stream place : ℕ) (bytes : List ℕ) → Alike v u → written_by v client name at bytes ≡ Writes link stream place bytes ∷ []
    → LeavesChanges v client number (writes name at bytes) (write_bytes u link stream place bytes)
unfolding write_bytes
write_bytes-leaves v u client number name at link stream place bytes alike are =
    leaves-made v u (with_written u link stream place bytes) client number (writes name at bytes) (record { status = Success; body = Count (length bytes) }) (Writes link stream place bytes ∷ []) are alike
    (SameTree-same (with_written u link stream place bytes))

write_unlocked-leaves : (v u : Volume) (client number name id : ℕ) (at : Option ℕ) (link stream place : ℕ) (bytes : List ℕ) → Alike v u → written_by v client name at bytes ≡ Writes link stream place bytes ∷ []
    → LeavesChanges v client number (writes name at bytes) (write_unlocked u id link stream place bytes)
unfolding write_unlocked write_grown
write_unlocked-leaves v u client number name id at link stream place bytes alike are =
    leaves-if v client number (writes name at bytes) (write_is_locked u id stream place (length bytes)) (refused u FileLockConflict) _
    (λ is. leaves-none v u client number (writes name at bytes) (record { status = FileLockConflict; body = Nothing }) refl alike)
    (λ isnt. leaves-option v client number (writes name at bytes) (growth_fault u stream (place + length bytes))
    (λ status. refused u status) (write_bytes u link stream place bytes)
    (λ status is. leaves-unfit v u client number (writes name at bytes) stream (place + length bytes) status alike is)
    (λ none. write_bytes-leaves v u client number name at link stream place bytes alike are))

write_at_place-leaves : (v : Volume) (client number name id : ℕ) (handle : Handle) (at : Option ℕ) (stream place : ℕ) (bytes : List ℕ) → written_by v client name at bytes ≡ Writes handle.link stream place bytes ∷ []
    → LeavesChanges v client number (writes name at bytes) (write_at_place v id handle stream place bytes)
unfolding write_at_place write_range
write_at_place-leaves v client number name id handle at stream place bytes are =
    leaves-if v client number (writes name at bytes) (nat_lt largest_end (place + length bytes)) (refused v InvalidParameter) _
    (λ is. leaves-refused v client number (writes name at bytes) InvalidParameter refl)
    (λ isnt. leaves-breaks v client number (writes name at bytes) (set.Stream stream) Change (Some id) handle.key _
    (λ alike. write_unlocked-leaves v (with_breaks v (set.Stream stream) Change (Some id) handle.key) client number name id at handle.link stream place bytes alike are))

write_stream-leaves : (v : Volume) (client number name id : ℕ) (handle : Handle) (stream : ℕ) (at : Option ℕ) (bytes : List ℕ) → written_by v client name at bytes ≡ changes_writing v handle at bytes
    → handle.stream ≡ Some stream → LeavesChanges v client number (writes name at bytes) (write_stream v id handle stream at bytes)
unfolding write_stream
write_stream-leaves v client number name id handle stream at bytes are of =
    leaves-if v client number (writes name at bytes) (not (can_write handle.access at)) (refused v AccessDenied) _
    (λ is. leaves-refused v client number (writes name at bytes) AccessDenied refl)
    (λ isnt. leaves-if v client number (writes name at bytes) (length bytes == 0) _ _
    (λ none. leaves-none v v client number (writes name at bytes) (record { status = Success; body = Count 0 }) (rw (are, of, none) refl) (Alike-same v))
    (λ some. write_at_place-leaves v client number name id handle at stream (unwrap_or at (length (bytes_of v stream))) bytes (rw (are, of, some) refl)))

write_at-leaves : (v : Volume) (client number name id : ℕ) (at : Option ℕ) (bytes : List ℕ) → handle_of v client name ≡ Some id
    → LeavesChanges v client number (writes name at bytes) (write_at v id at bytes)
unfolding write_at write_by
write_at-leaves v client number name id at bytes found =
    leaves-option v client number (writes name at bytes) (row_of v.handles id) _ (refused v InvalidHandle)
    (λ handle row. leaves-option v client number (writes name at bytes) handle.stream (λ stream. write_stream v id handle stream at bytes) (refused v InvalidDeviceRequest)
    (λ stream of. write_stream-leaves v client number name id handle stream at bytes (by_handle-is v client name id handle (λ id row. changes_writing v row at bytes) found row) of)
    (λ none. leaves-refused v client number (writes name at bytes) InvalidDeviceRequest refl))
    (λ none. leaves-refused v client number (writes name at bytes) InvalidHandle refl)

-- a try of a write
pub write-leaves : (v : Volume) (client number handle : ℕ) (at : Option ℕ) (bytes : List ℕ) → LeavesChanges v client number (Ask (request.Write handle at bytes)) (try_write v client handle at bytes)
unfolding try_write
write-leaves v client number handle at bytes =
    leaves-option v client number (writes handle at bytes) (handle_of v client handle) (λ id. write_at v id at bytes) (refused v InvalidHandle)
    (λ id found. write_at-leaves v client number handle id at bytes found)
    (λ none. leaves-refused v client number (writes handle at bytes) InvalidHandle refl)

-- ---- new lengths

abbrev ends : ℕ → ℕ → What
ends name end = Ask (request.SetEnd name end)

abbrev resized_by : Volume → ℕ → ℕ → ℕ → List TreeChange
resized_by v client name end = by_handle v client name (λ id row. changes_resizing v row end)

-- a length that isn't the stream's
abbrev resizes : Volume → ℕ → ℕ → ℕ → List TreeChange
resizes v link stream end = if length (bytes_of v stream) == end then [] else Resizes link stream end ∷ []

end_set-same : (v : Volume) (link stream end : ℕ) → SameTree (with_tree_changes v (resizes v link stream end)) (with_end_set v link stream end)
end_set-same v link stream end = elim (cases_Bool (length (bytes_of v stream) == end)) [
  | inl same ↦ rw same (SameTree-same v)
  | inr other ↦ rw other (SameTree-same _)
]

resizes-alike : (v u : Volume) (link stream end : ℕ) → Alike v u → resizes v link stream end ≡ resizes u link stream end
resizes-alike v u link stream end alike = rw alike.streams refl

set_end_grown-leaves : (v u : Volume) (client number name : ℕ) (link stream end : ℕ) → Alike v u → resized_by v client name end ≡ resizes v link stream end
    → LeavesChanges v client number (ends name end) (set_end_grown u link stream end)
unfolding set_end_grown
set_end_grown-leaves v u client number name link stream end alike are =
    leaves-option v client number (ends name end) (growth_fault u stream end)
    (λ status. refused u status) (ends_with (with_end_set u link stream end) Success)
    (λ status is. leaves-unfit v u client number (ends name end) stream end status alike is)
    (λ none. leaves-made v u (with_end_set u link stream end) client number (ends name end) (record { status = Success; body = Nothing }) (resizes u link stream end)
    (are ∙ resizes-alike v u link stream end alike) alike (end_set-same u link stream end))

set_end_stream-leaves : (v : Volume) (client number name id : ℕ) (handle : Handle) (stream end : ℕ) → resized_by v client name end ≡ resizes v handle.link stream end
    → LeavesChanges v client number (ends name end) (set_end_stream v id handle stream end)
unfolding set_end_stream set_end_to
set_end_stream-leaves v client number name id handle stream end are =
    leaves-if v client number (ends name end) (not (has_any handle.access WRITE_DATA)) (refused v AccessDenied) _
    (λ is. leaves-refused v client number (ends name end) AccessDenied refl)
    (λ isnt. leaves-if v client number (ends name end) (nat_lt largest_end end) (refused v InvalidParameter) _
    (λ is. leaves-refused v client number (ends name end) InvalidParameter refl)
    (λ isnt. leaves-breaks v client number (ends name end) (set.Stream stream) Change (Some id) handle.key _
    (λ alike. set_end_grown-leaves v (with_breaks v (set.Stream stream) Change (Some id) handle.key) client number name handle.link stream end alike are)))

set_end_at-leaves : (v : Volume) (client number name id end : ℕ) → handle_of v client name ≡ Some id
    → LeavesChanges v client number (ends name end) (set_end_at v id end)
unfolding set_end_at set_end_by
set_end_at-leaves v client number name id end found =
    leaves-option v client number (ends name end) (row_of v.handles id) _ (refused v InvalidHandle)
    (λ handle row. leaves-option v client number (ends name end) handle.stream (λ stream. set_end_stream v id handle stream end) (refused v InvalidParameter)
    (λ stream of. set_end_stream-leaves v client number name id handle stream end (by_handle-is v client name id handle (λ id row. changes_resizing v row end) found row ∙ rw of refl))
    (λ none. leaves-refused v client number (ends name end) InvalidParameter refl))
    (λ none. leaves-refused v client number (ends name end) InvalidHandle refl)

-- a try of a new length
pub set_end-leaves : (v : Volume) (client number handle end : ℕ)
    → LeavesChanges v client number (Ask (request.SetEnd handle end)) (try_set_end v client handle end)
unfolding try_set_end
set_end-leaves v client number handle end =
    leaves-option v client number (ends handle end) (handle_of v client handle) (λ id. set_end_at v id end) (refused v InvalidHandle)
    (λ id found. set_end_at-leaves v client number handle id end found)
    (λ none. leaves-refused v client number (ends handle end) InvalidHandle refl)

-- ---- marks

abbrev marks : ℕ → Bool → What
marks name delete = Ask (request.SetDisposition name delete)

abbrev marked_by : Volume → ℕ → ℕ → Bool → List TreeChange
marked_by v client name delete = by_handle v client name (λ id row. changes_marking v row delete)

mark-same : (v : Volume) (handle : Handle) (delete : Bool) → SameTree (with_tree_changes v (changes_marking v handle delete)) (with_mark v handle delete)
mark-same v handle delete = elim (option_cases (named_stream v handle)) [
  | inl none ↦ rw none (SameTree-same _)
  | inr some ↦ rw some.1 (SameTree-same _)
]

marking-alike : (v u : Volume) (handle : Handle) (delete : Bool) → Alike v u → changes_marking v handle delete ≡ changes_marking u handle delete
marking-alike v u handle delete alike = rw alike.streams refl

leaves-marked : (v u : Volume) (client number name : ℕ) (handle : Handle) (delete : Bool) → Alike v u → marked_by v client name delete ≡ changes_marking v handle delete
    → LeavesChanges v client number (marks name delete) (ends_with (with_mark u handle delete) Success)
leaves-marked v u client number name handle delete alike are =
    leaves-made v u (with_mark u handle delete) client number (marks name delete) (record { status = Success; body = Nothing }) (changes_marking u handle delete)
    (are ∙ marking-alike v u handle delete alike) alike (mark-same u handle delete)

delete_by-leaves : (v : Volume) (client number name id : ℕ) (handle : Handle) → marked_by v client name true ≡ changes_marking v handle true
    → LeavesChanges v client number (marks name true) (delete_by v id handle)
unfolding delete_by delete_marked
delete_by-leaves v client number name id handle are =
    leaves-if v client number (marks name true) (handle.link == 0 || is_readonly v (linked_file v handle.link)) (refused v CannotDelete) _
    (λ is. leaves-refused v client number (marks name true) CannotDelete refl)
    (λ isnt. leaves-if v client number (marks name true) (is_link_of_parent v handle.link) (refused v DirectoryNotEmpty) _
    (λ is. leaves-refused v client number (marks name true) DirectoryNotEmpty refl)
    (λ isnt. leaves-breaks v client number (marks name true) (marked_handles v handle) NameChange (Some id) handle.key _
    (λ alike. leaves-marked v (with_breaks v (marked_handles v handle) NameChange (Some id) handle.key) client number name handle true alike are)))

set_disposition_by-leaves : (v : Volume) (client number name id : ℕ) (handle : Handle) (delete : Bool) → marked_by v client name delete ≡ changes_marking v handle delete
    → LeavesChanges v client number (marks name delete) (set_disposition_by v id handle delete)
unfolding set_disposition_by
set_disposition_by-leaves v client number name id handle true are =
    leaves-if v client number (marks name true) (not (has_any handle.access DELETE)) (refused v AccessDenied) _
    (λ is. leaves-refused v client number (marks name true) AccessDenied refl)
    (λ isnt. delete_by-leaves v client number name id handle are)
set_disposition_by-leaves v client number name id handle false are =
    leaves-if v client number (marks name false) (not (has_any handle.access DELETE)) (refused v AccessDenied) _
    (λ is. leaves-refused v client number (marks name false) AccessDenied refl)
    (λ isnt. leaves-marked v v client number name handle false (Alike-same v) are)

set_disposition_at-leaves : (v : Volume) (client number name id : ℕ) (delete : Bool) → handle_of v client name ≡ Some id
    → LeavesChanges v client number (marks name delete) (set_disposition_at v id delete)
unfolding set_disposition_at
set_disposition_at-leaves v client number name id delete found =
    leaves-option v client number (marks name delete) (row_of v.handles id) _ (refused v InvalidHandle)
    (λ handle row. set_disposition_by-leaves v client number name id handle delete (by_handle-is v client name id handle (λ id row. changes_marking v row delete) found row))
    (λ none. leaves-refused v client number (marks name delete) InvalidHandle refl)

-- a try of a mark, or of its clearing
pub set_disposition-leaves : (v : Volume) (client number handle : ℕ) (delete : Bool)
    → LeavesChanges v client number (Ask (request.SetDisposition handle delete)) (try_set_disposition v client handle delete)
unfolding try_set_disposition
set_disposition-leaves v client number handle delete =
    leaves-option v client number (marks handle delete) (handle_of v client handle) (λ id. set_disposition_at v id delete) (refused v InvalidHandle)
    (λ id found. set_disposition_at-leaves v client number handle id delete found)
    (λ none. leaves-refused v client number (marks handle delete) InvalidHandle refl)

-- ---- times and attributes

abbrev basics : ℕ → Basics → What
basics name asked = Ask (request.SetBasic name asked.creation asked.access asked.write asked.change asked.attributes)

abbrev basics_by : Volume → ℕ → ℕ → Basics → List TreeChange
basics_by v client name asked = by_handle v client name (λ id row. of_file v row (λ file. SetsBasics row.link file asked ∷ []))

set_basic_of-leaves : (v : Volume) (client number name link file : ℕ) (asked : Basics) → basics_by v client name asked ≡ SetsBasics link file asked ∷ []
    → LeavesChanges v client number (basics name asked) (set_basic_of v link file asked)
unfolding set_basic_of
set_basic_of-leaves v client number name link file asked are =
    leaves-if v client number (basics name asked) (has_no_time asked) (refused v InvalidParameter) _
    (λ is. leaves-refused v client number (basics name asked) InvalidParameter refl)
    (λ isnt. leaves-if v client number (basics name asked) (has_wrong_attributes v file asked.attributes) (refused v InvalidParameter) _
    (λ is. leaves-refused v client number (basics name asked) InvalidParameter refl)
    (λ isnt. leaves-made v v (with_basics_noted v link file asked) client number (basics name asked) (record { status = Success; body = Nothing }) (SetsBasics link file asked ∷ [])
    are (Alike-same v) (SameTree-same (with_basics_noted v link file asked))))

set_basic_at-leaves : (v : Volume) (client number name id : ℕ) (asked : Basics) → handle_of v client name ≡ Some id
    → LeavesChanges v client number (basics name asked) (set_basic_at v id asked)
unfolding set_basic_at set_basic_by
set_basic_at-leaves v client number name id asked found =
    leaves-option v client number (basics name asked) (row_of v.handles id) _ (refused v InvalidHandle)
    (λ handle row. leaves-if v client number (basics name asked) (not (has_any handle.access WRITE_ATTRIBUTES)) (refused v AccessDenied) _
    (λ is. leaves-refused v client number (basics name asked) AccessDenied refl)
    (λ isnt. leaves-option v client number (basics name asked) (file_of_link v.links handle.link) (λ file. set_basic_of v handle.link file asked) (refused v InvalidHandle)
    (λ file linked. set_basic_of-leaves v client number name handle.link file asked
    (by_handle-is v client name id handle (λ id row. of_file v row (λ file. SetsBasics row.link file asked ∷ [])) found row
    ∙ of_file-is v handle file (λ file. SetsBasics handle.link file asked ∷ []) linked))
    (λ none. leaves-refused v client number (basics name asked) InvalidHandle refl)))
    (λ none. leaves-refused v client number (basics name asked) InvalidHandle refl)

-- a try of setting times and attributes
pub set_basic-leaves : (v : Volume) (client number handle creation access write change attributes : ℕ)
    → LeavesChanges v client number (Ask (request.SetBasic handle creation access write change attributes)) (try_set_basic v client handle (record { creation = creation; access = access; write = write; change = change; attributes = attributes }))
unfolding try_set_basic
set_basic-leaves v client number handle creation access write change attributes =
    let asked : Basics = record { creation = creation; access = access; write = write; change = change; attributes = attributes } in
    leaves-option v client number (basics handle asked) (handle_of v client handle) (λ id. set_basic_at v id asked) (refused v InvalidHandle)
    (λ id found. set_basic_at-leaves v client number handle id asked found)
    (λ none. leaves-refused v client number (basics handle asked) InvalidHandle refl)

-- ---- owners and access lists

abbrev secures : ℕ → Option ℕ → DaclChange → What
secures name owner dacl = Ask (request.SetSecurity name owner dacl)

abbrev secured_by : Volume → ℕ → ℕ → Option ℕ → DaclChange → List TreeChange
secured_by v client name owner dacl = by_handle v client name (λ id row. of_file v row (λ file. SetsSecurity row.link file owner dacl ∷ []))

set_security_of-leaves : (v : Volume) (client number name link file : ℕ) (owner : Option ℕ) (dacl : DaclChange) → secured_by v client name owner dacl ≡ SetsSecurity link file owner dacl ∷ []
    → LeavesChanges v client number (secures name owner dacl) (set_security_of v client link file owner dacl)
unfolding set_security_of
set_security_of-leaves v client number name link file owner dacl are =
    leaves-if v client number (secures name owner dacl) (is_foreign v client owner) (refused v AccessDenied) _
    (λ is. leaves-refused v client number (secures name owner dacl) AccessDenied refl)
    (λ isnt. leaves-if v client number (secures name owner dacl) (passes_limit v file owner) (refused v QuotaExceeded) _
    (λ is. leaves-refused v client number (secures name owner dacl) QuotaExceeded refl)
    (λ isnt. leaves-made v v (with_security v link file owner dacl) client number (secures name owner dacl) (record { status = Success; body = Nothing }) (SetsSecurity link file owner dacl ∷ [])
    are (Alike-same v) (SameTree-same (with_security v link file owner dacl))))

set_security_at-leaves : (v : Volume) (client number name id : ℕ) (owner : Option ℕ) (dacl : DaclChange) → handle_of v client name ≡ Some id
    → LeavesChanges v client number (secures name owner dacl) (set_security_at v client id owner dacl)
unfolding set_security_at set_security_by
set_security_at-leaves v client number name id owner dacl found =
    leaves-option v client number (secures name owner dacl) (row_of v.handles id) _ (refused v InvalidHandle)
    (λ handle row. leaves-if v client number (secures name owner dacl) (lacks_right handle.access owner dacl) (refused v AccessDenied) _
    (λ is. leaves-refused v client number (secures name owner dacl) AccessDenied refl)
    (λ isnt. leaves-option v client number (secures name owner dacl) (file_of_link v.links handle.link) (λ file. set_security_of v client handle.link file owner dacl) (refused v InvalidHandle)
    (λ file linked. set_security_of-leaves v client number name handle.link file owner dacl
    (by_handle-is v client name id handle (λ id row. of_file v row (λ file. SetsSecurity row.link file owner dacl ∷ [])) found row
    ∙ of_file-is v handle file (λ file. SetsSecurity handle.link file owner dacl ∷ []) linked))
    (λ none. leaves-refused v client number (secures name owner dacl) InvalidHandle refl)))
    (λ none. leaves-refused v client number (secures name owner dacl) InvalidHandle refl)

-- a try of setting the owner and the access list
pub set_security-leaves : (v : Volume) (client number handle : ℕ) (owner : Option ℕ) (dacl : DaclChange)
    → LeavesChanges v client number (Ask (request.SetSecurity handle owner dacl)) (try_set_security v client handle owner dacl)
unfolding try_set_security
set_security-leaves v client number handle owner dacl =
    leaves-option v client number (secures handle owner dacl) (handle_of v client handle) (λ id. set_security_at v client id owner dacl) (refused v InvalidHandle)
    (λ id found. set_security_at-leaves v client number handle id owner dacl found)
    (λ none. leaves-refused v client number (secures handle owner dacl) InvalidHandle refl)

-- ---- a reparse point set

abbrev points : ℕ → List ℕ → What
points name bytes = Ask (request.SetReparse name bytes)

abbrev pointed_by : Volume → ℕ → ℕ → List ℕ → List TreeChange
pointed_by v client name bytes = by_handle v client name (λ id row. of_file v row (changes_with_point row bytes))

set_point-leaves : (v : Volume) (client number name : ℕ) (bytes : List ℕ) (link file tag : ℕ) (content : List ℕ) → pointed_by v client name bytes ≡ SetsPoint link file (Some (tag, content)) ∷ []
    → LeavesChanges v client number (points name bytes) (set_point v link file tag content)
unfolding set_point
set_point-leaves v client number name bytes link file tag content are =
    leaves-if v client number (points name bytes) (is_no_tag tag) (refused v IoReparseTagInvalid) _
    (λ is. leaves-refused v client number (points name bytes) IoReparseTagInvalid refl)
    (λ isnt. leaves-if v client number (points name bytes) (is_link_of_parent v link) (refused v DirectoryNotEmpty) _
    (λ is. leaves-refused v client number (points name bytes) DirectoryNotEmpty refl)
    (λ isnt. leaves-if v client number (points name bytes) (has_other_tag v file tag) (refused v IoReparseTagMismatch) _
    (λ is. leaves-refused v client number (points name bytes) IoReparseTagMismatch refl)
    (λ isnt. leaves-made v v (with_point_noted v link file (Some (tag, content))) client number (points name bytes) (record { status = Success; body = Nothing })
    (SetsPoint link file (Some (tag, content)) ∷ []) are (Alike-same v) (SameTree-same (with_point_noted v link file (Some (tag, content)))))))

set_buffer-leaves : (v : Volume) (client number name : ℕ) (handle : Handle) (file : ℕ) (bytes : List ℕ) → pointed_by v client name bytes ≡ changes_with_point handle bytes file
    → LeavesChanges v client number (points name bytes) (set_buffer v handle.link file bytes)
unfolding set_buffer
set_buffer-leaves v client number name handle file bytes are =
    leaves-option v client number (points name bytes) (read_reparse bytes) (λ point. set_point v handle.link file point.0 point.1) (refused v IoReparseDataInvalid)
    (λ point is. set_point-leaves v client number name bytes handle.link file point.0 point.1 (are ∙ rw is refl))
    (λ none. leaves-refused v client number (points name bytes) IoReparseDataInvalid refl)

set_reparse_at-leaves : (v : Volume) (client number name id : ℕ) (bytes : List ℕ) → handle_of v client name ≡ Some id
    → LeavesChanges v client number (points name bytes) (set_reparse_at v id bytes)
unfolding set_reparse_at set_reparse_by
set_reparse_at-leaves v client number name id bytes found =
    leaves-option v client number (points name bytes) (row_of v.handles id) _ (refused v InvalidHandle)
    (λ handle row. leaves-if v client number (points name bytes) (not (may_set_point handle)) (refused v AccessDenied) _
    (λ is. leaves-refused v client number (points name bytes) AccessDenied refl)
    (λ isnt. leaves-if v client number (points name bytes) (handle.link == 0) (refused v InvalidParameter) _
    (λ is. leaves-refused v client number (points name bytes) InvalidParameter refl)
    (λ isnt. leaves-option v client number (points name bytes) (file_of_link v.links handle.link) (λ file. set_buffer v handle.link file bytes) (refused v InvalidHandle)
    (λ file linked. set_buffer-leaves v client number name handle file bytes
    (by_handle-is v client name id handle (λ id row. of_file v row (changes_with_point row bytes)) found row ∙ of_file-is v handle file (changes_with_point handle bytes) linked))
    (λ none. leaves-refused v client number (points name bytes) InvalidHandle refl))))
    (λ none. leaves-refused v client number (points name bytes) InvalidHandle refl)

-- a try of setting a reparse point
pub set_reparse-leaves : (v : Volume) (client number handle : ℕ) (bytes : List ℕ)
    → LeavesChanges v client number (Ask (request.SetReparse handle bytes)) (try_set_reparse v client handle bytes)
unfolding try_set_reparse
set_reparse-leaves v client number handle bytes =
    leaves-option v client number (points handle bytes) (handle_of v client handle) (λ id. set_reparse_at v id bytes) (refused v InvalidHandle)
    (λ id found. set_reparse_at-leaves v client number handle id bytes found)
    (λ none. leaves-refused v client number (points handle bytes) InvalidHandle refl)

-- ---- a reparse point removed

abbrev unpoints : ℕ → ℕ → What
unpoints name tag = Ask (request.DeleteReparse name tag)

abbrev unpointed_by : Volume → ℕ → ℕ → List TreeChange
unpointed_by v client name = by_handle v client name (λ id row. of_file v row (λ file. SetsPoint row.link file None ∷ []))

delete_reparse_of-leaves : (v : Volume) (client number name tag link file : ℕ) → unpointed_by v client name ≡ SetsPoint link file None ∷ []
    → LeavesChanges v client number (unpoints name tag) (delete_reparse_of v link file tag)
unfolding delete_reparse_of remove_point
delete_reparse_of-leaves v client number name tag link file are =
    leaves-option v client number (unpoints name tag) (point_of v file) _ (refused v NotAReparsePoint)
    (λ point is. leaves-if v client number (unpoints name tag) (point.0 == tag) _ (refused v IoReparseTagMismatch)
    (λ is. leaves-made v v (with_point_noted v link file None) client number (unpoints name tag) (record { status = Success; body = Nothing }) (SetsPoint link file None ∷ [])
    are (Alike-same v) (SameTree-same (with_point_noted v link file None)))
    (λ isnt. leaves-refused v client number (unpoints name tag) IoReparseTagMismatch refl))
    (λ none. leaves-refused v client number (unpoints name tag) NotAReparsePoint refl)

delete_reparse_at-leaves : (v : Volume) (client number name id tag : ℕ) → handle_of v client name ≡ Some id
    → LeavesChanges v client number (unpoints name tag) (delete_reparse_at v id tag)
unfolding delete_reparse_at delete_reparse_by
delete_reparse_at-leaves v client number name id tag found =
    leaves-option v client number (unpoints name tag) (row_of v.handles id) _ (refused v InvalidHandle)
    (λ handle row. leaves-if v client number (unpoints name tag) (not (may_set_point handle)) (refused v AccessDenied) _
    (λ is. leaves-refused v client number (unpoints name tag) AccessDenied refl)
    (λ isnt. leaves-option v client number (unpoints name tag) (file_of_link v.links handle.link) (λ file. delete_reparse_of v handle.link file tag) (refused v InvalidHandle)
    (λ file linked. delete_reparse_of-leaves v client number name tag handle.link file
    (by_handle-is v client name id handle (λ id row. of_file v row (λ file. SetsPoint row.link file None ∷ [])) found row
    ∙ of_file-is v handle file (λ file. SetsPoint handle.link file None ∷ []) linked))
    (λ none. leaves-refused v client number (unpoints name tag) InvalidHandle refl)))
    (λ none. leaves-refused v client number (unpoints name tag) InvalidHandle refl)

-- a try of removing a reparse point
pub delete_reparse-leaves : (v : Volume) (client number handle tag : ℕ)
    → LeavesChanges v client number (Ask (request.DeleteReparse handle tag)) (try_delete_reparse v client handle tag)
unfolding try_delete_reparse
delete_reparse-leaves v client number handle tag =
    leaves-option v client number (unpoints handle tag) (handle_of v client handle) (λ id. delete_reparse_at v id tag) (refused v InvalidHandle)
    (λ id found. delete_reparse_at-leaves v client number handle id tag found)
    (λ none. leaves-refused v client number (unpoints handle tag) InvalidHandle refl)
