-- A close and a leaving change what their handles' closes ask for: the calls that end first leave files, links, streams and the
-- handles that are left as they were, and these alone tell what is marked and what is removed.
use Rattle.std.proofs.Common.{◌≡◌, ℕ, ◌+◌, ◌==◌, true, false, List, [], ◌∷◌, ◌++◌, refl, ap, sym, ◌∙◌, Option, Some, None, inl, inr}
use Rattle.std.specs.Option.{option_map_or}
use Rattle.std.proofs.lemmas.Bool.{cases_Bool}
use Rattle.fsa_types.specs.Masks.{FILE_ACTION_ADDED, FILE_ACTION_ADDED_STREAM, FILE_ACTION_MODIFIED, FILE_ACTION_MODIFIED_STREAM, FILE_ACTION_REMOVED, FILE_ACTION_REMOVED_STREAM, FILE_ACTION_RENAMED_NEW_NAME, FILE_ACTION_RENAMED_OLD_NAME, FILE_NOTIFY_CHANGE_ATTRIBUTES, FILE_NOTIFY_CHANGE_DIR_NAME, FILE_NOTIFY_CHANGE_FILE_NAME, FILE_NOTIFY_CHANGE_SECURITY, FILE_NOTIFY_CHANGE_STREAM_NAME}
use Rattle.fsa_types.specs.Rows.{row_of, without_row}
use Rattle.fsa_types.specs.declared.reply.Body.TheVariants.{Nothing}
use Rattle.fsa_types.specs.declared.request.DaclChange.{DaclChange}
use Rattle.fsa_types.specs.declared.request.DaclChange.TheVariants.{Keep, Remove, Put}
use Rattle.fsa_types.specs.declared.request.Request.TheVariants as request
use Rattle.fsa_types.specs.declared.request.What.{What}
use Rattle.fsa_types.specs.declared.request.What.TheVariants.{Ask, Leave}
use Rattle.fsa_types.specs.declared.status.Status.{Status}
use Rattle.fsa_types.specs.declared.status.Status.TheVariants.{Success, InvalidHandle, Cancelled}
use Rattle.fsa_model.specs.Changes.{with_change_noted}
use Rattle.fsa_model.specs.Close.{close_at, closed_status, handles_of_client, is_call_on, is_left_behind, is_link_of_parent, is_link_over, is_stream_over, name_bit, named_stream, pending_by_turn, try_close, try_leave, with_all_closed, with_calls_ended, with_client_gone, with_closed, with_link_swept, with_mark_on_close, with_stream_swept, with_swept}
use Rattle.fsa_model.specs.Edits.{with_file, with_left, with_link, with_link_moved, with_point, with_stream, without_file_unless_linked, without_handle, without_link}
use Rattle.fsa_model.specs.Lookups.{handle_of, has_row, is_named_stream, parent_of}
use Rattle.fsa_model.specs.Open.{overwrite_filters, stream_overwrite_filters}
use Rattle.fsa_model.specs.Security.{asks_something, with_change_time, with_dacl_asked, with_owner_asked}
use Rattle.fsa_model.specs.SetBasic.{basic_bits, with_basics}
use Rattle.fsa_model.specs.Volume.{Handle, Pending, Volume}
use Rattle.fsa_model.specs.Write.{lengthens, stream_write_filters, write_filters}
use Rattle.fsa_model.proofs.CoherenceClose.{handles-noted}
use Rattle.fsa_model.proofs.RowLaws.{option_cases}
use Rattle.history_laws.specs.TreeChanges.{LeavesChanges, TreeChange, MakesDirectory, MakesFile, MakesStream, AddsLink, MovesLink, RemovesLink, RemovesStream, MarksLink, MarksStream, Writes, Resizes, Overwrites, SetsBasics, SetsSecurity, SetsPoint, SetsChangeTime, changes_closing, changes_closing_all, marks_on_close, removed_link, removed_stream, sweeps, sweeps_stream, with_move, with_tree_change, with_tree_changes}
use Rattle.history_laws.proofs.TreeParts.{Alike, Alike-same, Alike-next, Alike-changes, Alike-calls_ended, Alike-tree, calls_ended-handles, leaves-made, leaves-option, leaves-refused}

-- ---- alike, with the same handles

-- alike, and the handles are the same too
pub record AlikeOpen (v w : Volume) : Type 0 where
  pub alike : Alike v w
  pub handles : w.handles ≡ v.handles

AlikeOpen-same : (v : Volume) → AlikeOpen v v
AlikeOpen-same v = record { alike = Alike-same v; handles = refl }

AlikeOpen-next : (u v w : Volume) → AlikeOpen u v → AlikeOpen v w → AlikeOpen u w
AlikeOpen-next u v w one two = record { alike = Alike-next u v w one.alike two.alike; handles = two.handles ∙ one.handles }

AlikeOpen-calls_ended : (status_of : What → Status) (calls : List (ℕ × Pending)) (v : Volume) → AlikeOpen v (with_calls_ended status_of calls v)
AlikeOpen-calls_ended status_of calls v = record { alike = Alike-calls_ended status_of calls v; handles = calls_ended-handles status_of calls v }

-- without one handle a volume is alike, and two that are alike with the same handles stay so
Alike-without : (v : Volume) (id : ℕ) → Alike v (without_handle v id)
Alike-without v id = record { table = refl; files = refl; links = refl; streams = refl; last_file = refl; last_link = refl; last_stream = refl; changes = refl; clock = refl }

AlikeOpen-without : (v w : Volume) (id : ℕ) → AlikeOpen v w → AlikeOpen (without_handle v id) (without_handle w id)
AlikeOpen-without v w id same = record {
  alike = record {
    table = same.alike.table;
    files = same.alike.files;
    links = same.alike.links;
    streams = same.alike.streams;
    last_file = same.alike.last_file;
    last_link = same.alike.last_link;
    last_stream = same.alike.last_stream;
    changes = same.alike.changes;
    clock = same.alike.clock;
  };
  handles = ap (λ handles. without_row handles id) same.handles;
}

-- ---- a change leaves the handles

unlinked-handles : (v : Volume) (file : ℕ) → (without_file_unless_linked v file).handles ≡ v.handles
unlinked-handles v file = elim (cases_Bool (has_row (λ link. link.file == file) v.links)) [
  | inl linked ↦ rw linked refl
  | inr not_linked ↦ rw not_linked refl
]

pub without_link-handles : (v : Volume) (link : ℕ) → (without_link v link).handles ≡ v.handles
without_link-handles v link = elim (option_cases (row_of v.links link)) [
  | inl none ↦ rw none refl
  | inr some ↦ rw some.1 (unlinked-handles _ some.0.file)
]

move-handles : (v : Volume) (link dir : ℕ) (name : List ℕ) (old new : ℕ) → (with_move v link dir name old new).handles ≡ v.handles
move-handles v link dir name old new =
    handles-noted (with_link_moved (with_change_noted v link old (name_bit v link) None) link dir name) link new (name_bit v link) None
    ∙ handles-noted v link old (name_bit v link) None

owner-handles : (v : Volume) (file : ℕ) (owner : Option ℕ) → (with_owner_asked v file owner).handles ≡ v.handles
owner-handles v file None = refl
owner-handles v file (Some sid) = refl

dacl-handles : (v : Volume) (file : ℕ) (dacl : DaclChange) → (with_dacl_asked v file dacl).handles ≡ v.handles
dacl-handles v file Keep = refl
dacl-handles v file Remove = refl
dacl-handles v file (Put dacl) = refl

change-handles : (v : Volume) (change : TreeChange) → (with_tree_change v change).handles ≡ v.handles
change-handles v (MakesDirectory dir name file) =
    handles-noted (with_link (with_file v file) dir name (v.last_file + 1)) (v.last_link + 1) FILE_ACTION_ADDED FILE_NOTIFY_CHANGE_DIR_NAME None
change-handles v (MakesFile dir name file) =
    handles-noted (with_stream (with_link (with_file v file) dir name (v.last_file + 1)) (v.last_file + 1) []) (v.last_link + 1) FILE_ACTION_ADDED FILE_NOTIFY_CHANGE_FILE_NAME None
change-handles v (MakesStream link file name) =
    handles-noted (with_stream v file name) link FILE_ACTION_ADDED_STREAM FILE_NOTIFY_CHANGE_STREAM_NAME (Some (v.last_stream + 1))
change-handles v (AddsLink dir name file) = handles-noted (with_link v dir name file) (v.last_link + 1) FILE_ACTION_ADDED FILE_NOTIFY_CHANGE_FILE_NAME None
change-handles v (MovesLink link dir name) = elim (cases_Bool (parent_of v link == dir)) [
  | inl there ↦ rw there (move-handles v link dir name FILE_ACTION_RENAMED_OLD_NAME FILE_ACTION_RENAMED_NEW_NAME)
  | inr elsewhere ↦ rw elsewhere (move-handles v link dir name FILE_ACTION_REMOVED FILE_ACTION_ADDED)
]
change-handles v (RemovesLink link) =
    without_link-handles (with_change_noted v link FILE_ACTION_REMOVED (name_bit v link) None) link ∙ handles-noted v link FILE_ACTION_REMOVED (name_bit v link) None
change-handles v (RemovesStream link stream) = handles-noted v link FILE_ACTION_REMOVED_STREAM FILE_NOTIFY_CHANGE_STREAM_NAME (Some stream)
change-handles v (MarksLink link marked) = refl
change-handles v (MarksStream stream marked) = refl
change-handles v (Writes link stream at bytes) = elim (cases_Bool (is_named_stream v stream)) [
  | inl named ↦ rw named (handles-noted v link FILE_ACTION_MODIFIED_STREAM (stream_write_filters (lengthens v stream at bytes)) (Some stream))
  | inr not_named ↦ rw not_named (handles-noted v link FILE_ACTION_MODIFIED (write_filters (lengthens v stream at bytes)) None)
]
change-handles v (Resizes link stream end) = elim (cases_Bool (is_named_stream v stream)) [
  | inl named ↦ rw named (handles-noted v link FILE_ACTION_MODIFIED_STREAM (stream_write_filters true) (Some stream))
  | inr not_named ↦ rw not_named (handles-noted v link FILE_ACTION_MODIFIED (write_filters true) None)
]
change-handles v (Overwrites link file stream true attributes) = handles-noted v link FILE_ACTION_MODIFIED_STREAM stream_overwrite_filters (Some stream)
change-handles v (Overwrites link file stream false attributes) = handles-noted v link FILE_ACTION_MODIFIED overwrite_filters None
change-handles v (SetsBasics link file basics) = elim (cases_Bool (basic_bits basics == 0)) [
  | inl none ↦ rw none refl
  | inr some ↦ rw some (handles-noted (with_basics v file basics) link FILE_ACTION_MODIFIED (basic_bits basics) None)
]
change-handles v (SetsSecurity link file owner dacl) = elim (cases_Bool (asks_something owner dacl)) [
  | inl asks ↦ rw asks
      (handles-noted (with_change_time (with_dacl_asked (with_owner_asked v file owner) file dacl) file) link FILE_ACTION_MODIFIED FILE_NOTIFY_CHANGE_SECURITY None
      ∙ dacl-handles (with_owner_asked v file owner) file dacl ∙ owner-handles v file owner)
  | inr asks_nothing ↦ rw asks_nothing (dacl-handles (with_owner_asked v file owner) file dacl ∙ owner-handles v file owner)
]
change-handles v (SetsPoint link file point) = handles-noted (with_point v file point) link FILE_ACTION_MODIFIED FILE_NOTIFY_CHANGE_ATTRIBUTES None
change-handles v (SetsChangeTime file) = refl

-- changes leave the handles
pub changes-handles : (changes : List TreeChange) (v : Volume) → (with_tree_changes v changes).handles ≡ v.handles
changes-handles [] v = refl
changes-handles (change ∷ more) v = changes-handles more (with_tree_change v change) ∙ change-handles v change

-- changes of two that are alike with the same handles leave them so
pub AlikeOpen-changes : (changes : List TreeChange) (v w : Volume) → AlikeOpen v w → AlikeOpen (with_tree_changes v changes) (with_tree_changes w changes)
AlikeOpen-changes changes v w same = record {
  alike = Alike-changes changes v w same.alike;
  handles = changes-handles changes w ∙ same.handles ∙ sym (changes-handles changes v);
}

-- some changes and then others
pub changes-after : (one two : List TreeChange) (v : Volume) → with_tree_changes v (one ++ two) ≡ with_tree_changes (with_tree_changes v one) two
changes-after [] two v = refl
changes-after (change ∷ more) two v = changes-after more two (with_tree_change v change)

-- ---- the changes of a close are the same for two such volumes

link_over-same : (v w : Volume) (link : ℕ) → AlikeOpen v w → is_link_over w link ≡ is_link_over v link
link_over-same v w link same = rw (same.alike.links, same.handles) refl

marks-same : (v w : Volume) (handle : Handle) → AlikeOpen v w → marks_on_close w handle ≡ marks_on_close v handle
marks-same v w handle same = rw (same.alike.links, same.alike.streams) refl

sweeps_stream-same : (v w : Volume) (handle : Handle) → AlikeOpen v w → sweeps_stream w handle ≡ sweeps_stream v handle
sweeps_stream-same v w handle same = rw (same.alike.streams, same.handles) refl

removed_link-same : (v w : Volume) (link : ℕ) → AlikeOpen v w → removed_link w link ≡ removed_link v link
removed_link-same v w link same = rw (link_over-same v w link same) refl

sweeps-same : (v w : Volume) (handle : Handle) → AlikeOpen v w → sweeps w handle ≡ sweeps v handle
sweeps-same v w handle same =
    rw (
      sweeps_stream-same v w handle same,
      removed_link-same (with_tree_changes v (sweeps_stream v handle)) (with_tree_changes w (sweeps_stream v handle)) handle.link (AlikeOpen-changes (sweeps_stream v handle) v w same),
    ) refl

closing-same : (v w : Volume) (handle : Handle) → AlikeOpen v w → changes_closing w handle ≡ changes_closing v handle
closing-same v w handle same =
    rw (
      marks-same v w handle same,
      sweeps-same (with_tree_changes v (marks_on_close v handle)) (with_tree_changes w (marks_on_close v handle)) handle (AlikeOpen-changes (marks_on_close v handle) v w same),
    ) refl

-- ---- the close of a handle makes them

marked-so : (v : Volume) (handle : Handle) → with_tree_changes v (marks_on_close v handle) ≡ with_mark_on_close v handle
marked-so v handle = elim (cases_Bool handle.delete_on_close) [
  | inl deletes ↦ rw deletes (elim (option_cases (named_stream v handle)) [
    | inl none ↦ rw none (elim (cases_Bool (is_link_of_parent v handle.link)) [
      | inl parent ↦ rw parent refl
      | inr not_parent ↦ rw not_parent refl
    ])
    | inr some ↦ rw some.1 refl
  ])
  | inr keeps ↦ rw keeps refl
]

stream_removed-so : (v : Volume) (link stream : ℕ) → with_tree_changes v (removed_stream v link stream) ≡ with_stream_swept v link stream
stream_removed-so v link stream = elim (cases_Bool (is_stream_over v stream)) [
  | inl over ↦ rw over refl
  | inr not_over ↦ rw not_over refl
]

stream_swept-so : (v : Volume) (link : ℕ) (stream : Option ℕ)
    → with_tree_changes v (option_map_or (λ stream. removed_stream v link stream) stream []) ≡ option_map_or (λ stream. with_stream_swept v link stream) stream v
stream_swept-so v link None = refl
stream_swept-so v link (Some stream) = stream_removed-so v link stream

link_swept-so : (v : Volume) (link : ℕ) → with_tree_changes v (removed_link v link) ≡ with_link_swept v link
link_swept-so v link = elim (cases_Bool (is_link_over v link)) [
  | inl over ↦ rw over refl
  | inr not_over ↦ rw not_over refl
]

swept-so : (v : Volume) (handle : Handle) → with_tree_changes v (sweeps v handle) ≡ with_swept v handle
swept-so v handle =
    changes-after (sweeps_stream v handle) (removed_link (with_tree_changes v (sweeps_stream v handle)) handle.link) v
    ∙ link_swept-so (with_tree_changes v (sweeps_stream v handle)) handle.link
    ∙ ap (λ u. with_link_swept u handle.link) (stream_swept-so v handle.link handle.stream)

closing-so : (v : Volume) (handle : Handle) → with_tree_changes v (changes_closing v handle) ≡ with_swept (with_mark_on_close v handle) handle
closing-so v handle =
    changes-after (marks_on_close v handle) (sweeps (with_tree_changes v (marks_on_close v handle)) handle) v
    ∙ swept-so (with_tree_changes v (marks_on_close v handle)) handle
    ∙ ap (λ u. with_swept u handle) (marked-so v handle)

-- so a close leaves what its changes leave, where calls have ended or not
closing-leaves : (v w : Volume) (handle : Handle) → AlikeOpen v w
    → AlikeOpen (with_tree_changes v (changes_closing v handle)) (with_swept (with_mark_on_close w handle) handle)
closing-leaves v w handle same =
    rw (sym (closing-so w handle), closing-same v w handle same) (AlikeOpen-changes (changes_closing v handle) v w same)

closed-leaves : (v w : Volume) (id : ℕ) (handle : Handle) → AlikeOpen v w
    → AlikeOpen (with_tree_changes (without_handle v id) (changes_closing (without_handle v id) handle)) (with_closed w id handle)
unfolding with_closed
closed-leaves v w id handle same =
    closing-leaves (without_handle v id) (without_handle (with_calls_ended closed_status (pending_by_turn (is_call_on handle) w) w) id) handle
    (AlikeOpen-without v (with_calls_ended closed_status (pending_by_turn (is_call_on handle) w) w) id
    (AlikeOpen-next v w _ same (AlikeOpen-calls_ended closed_status (pending_by_turn (is_call_on handle) w) w)))

-- and so do several, one after the other
all_closed-leaves : (handles : List (ℕ × Handle)) (v w : Volume) → AlikeOpen v w → Alike (with_tree_changes v (changes_closing_all v handles)) (with_all_closed handles w)
all_closed-leaves [] v w same = same.alike
all_closed-leaves (entry ∷ more) v w same =
    rw (changes-after one (changes_closing_all u more) v)
    (Alike-next _ _ _
    (Alike-changes (changes_closing_all u more) (with_tree_changes v one) u (Alike-changes one v (without_handle v entry.0) (Alike-without v entry.0)))
    (all_closed-leaves more u (with_closed w entry.0 entry.1) (closed-leaves v w entry.0 entry.1 same)))
  where
    one : List TreeChange
    one = changes_closing (without_handle v entry.0) entry.1

    u : Volume
    u = with_tree_changes (without_handle v entry.0) one

-- ---- the calls

-- what a close's try leaves
pub close-leaves : (v : Volume) (client number handle : ℕ) → LeavesChanges v client number (Ask (request.Close handle)) (try_close v client handle)
unfolding try_close close_at
close-leaves v client number handle =
    leaves-option v client number what (handle_of v client handle) _ _
    (λ id named. leaves-option v client number what (row_of v.handles id) _ _
    (λ row there. leaves-made v (without_handle v id) (with_closed v id row) client number what (record { status = Success; body = Nothing })
    (changes_closing (without_handle v id) row) (rw (named, there) refl) (Alike-without v id) (Alike-tree _ _ (closed-leaves v v id row (AlikeOpen-same v)).alike))
    (λ gone. leaves-refused v client number what InvalidHandle refl))
    (λ unknown. leaves-refused v client number what InvalidHandle refl)
  where
    what : What
    what = Ask (request.Close handle)

-- what a leaving's try leaves
pub leave-leaves : (v : Volume) (client number : ℕ) → LeavesChanges v client number Leave (try_leave v client)
unfolding try_leave with_client_gone
leave-leaves v client number =
    Alike-tree _ _
    (Alike-next _ _ _
    (all_closed-leaves (handles_of_client v client) v u (AlikeOpen-calls_ended (λ _. Cancelled) (pending_by_turn (is_left_behind client) v) v))
    (Alike-left (with_all_closed (handles_of_client v client) u) client))
  where
    u : Volume
    u = with_calls_ended (λ _. Cancelled) (pending_by_turn (is_left_behind client) v) v

    Alike-left : (w : Volume) (client : ℕ) → Alike w (with_left w client)
    Alike-left w client = record { table = refl; files = refl; links = refl; streams = refl; last_file = refl; last_link = refl; last_stream = refl; changes = refl; clock = refl }
