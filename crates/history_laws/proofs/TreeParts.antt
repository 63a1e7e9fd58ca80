-- Volumes that are alike in files, links, streams, what is noted, and the clock: the same changes leave them alike; and breaks, ends
-- of calls, and what else isn't of the tree leaves a volume alike. How a try leaves what its changes leave: where it's refused,
-- held, or tells what was done.
use Rattle.std.proofs.Common.{◌≡◌, ℕ, ◌+◌, Bool, true, false, ◌==◌, List, [], ◌∷◌, refl, sym, subst, ◌∙◌, Option, Some, None, inl, inr}
use Rattle.std.specs.Option.{option_map_or}
use Rattle.std.specs.Prelude.{if◌then◌else◌}
use Rattle.std.proofs.lemmas.Bool.{cases_Bool}
use Rattle.fsa_types.specs.Masks.{FILE_ACTION_ADDED, FILE_ACTION_ADDED_STREAM, FILE_ACTION_MODIFIED, FILE_ACTION_MODIFIED_STREAM, FILE_ACTION_REMOVED, FILE_ACTION_REMOVED_STREAM, FILE_ACTION_RENAMED_NEW_NAME, FILE_ACTION_RENAMED_OLD_NAME, FILE_NOTIFY_CHANGE_ATTRIBUTES, FILE_NOTIFY_CHANGE_DIR_NAME, FILE_NOTIFY_CHANGE_FILE_NAME, FILE_NOTIFY_CHANGE_SECURITY, FILE_NOTIFY_CHANGE_STREAM_NAME}
use Rattle.fsa_types.specs.Rows.{row_of}
use Rattle.fsa_types.specs.declared.oplock.Class.{Class}
use Rattle.fsa_types.specs.declared.oplock.HandleSet.{HandleSet}
use Rattle.fsa_types.specs.declared.reply.Body.TheVariants.{Nothing}
use Rattle.fsa_types.specs.declared.reply.Reply.{Reply}
use Rattle.fsa_types.specs.declared.request.DaclChange.{DaclChange}
use Rattle.fsa_types.specs.declared.request.DaclChange.TheVariants.{Keep, Remove, Put}
use Rattle.fsa_types.specs.declared.request.What.{What}
use Rattle.fsa_types.specs.declared.status.Status.{Status}
use Rattle.fsa_types.specs.declared.status.Status.TheVariants.{Stalled, Success}
use Rattle.fsa_model.specs.Breaks.{with_breaks}
use Rattle.fsa_model.specs.Changes.{with_change_noted}
use Rattle.fsa_model.specs.Close.{name_bit, with_calls_ended}
use Rattle.fsa_model.specs.Edits.{with_end, with_file, with_link, with_link_moved, with_point, with_stream, without_file_unless_linked, without_link}
use Rattle.fsa_model.specs.Lookups.{has_row, is_named_stream, parent_of}
use Rattle.fsa_model.specs.Open.{overwrite_filters, stream_overwrite_filters}
use Rattle.fsa_model.specs.Write.{lengthens, stream_write_filters, write_filters}
use Rattle.fsa_model.specs.Outcome.{Outcome, Done, refused}
use Rattle.fsa_model.specs.Security.{asks_something, with_change_time, with_dacl_asked, with_owner_asked}
use Rattle.fsa_model.specs.SetBasic.{basic_bits, with_basics}
use Rattle.fsa_model.specs.Volume.{Pending, Volume}
use Rattle.fsa_model.specs.Waiting.{all_wait, waits_in_order, with_stalled}
use Rattle.fsa_model.specs.Waits.{held_by}
use Rattle.fsa_model.proofs.BreakLaws.{with_breaks-rest}
use Rattle.fsa_model.proofs.RowLaws.{option_cases}
use Rattle.history_laws.specs.TreeChanges.{LeavesChanges, SameTree, TreeChange, MakesDirectory, MakesFile, MakesStream, AddsLink, MovesLink, RemovesLink, RemovesStream, MarksLink, MarksStream, Writes, Resizes, Overwrites, SetsBasics, SetsSecurity, SetsPoint, SetsChangeTime, changes_asked, where_success, with_move, with_tree_change, with_tree_changes}
use Rattle.history_laws.specs.WaitEnds.{is_success}
use Rattle.history_laws.proofs.FitLists.{by-if, by-option}

-- ---- alike

pub record Alike (v w : Volume) : Type 0 where
  pub table : w.table ≡ v.table
  pub files : w.files ≡ v.files
  pub links : w.links ≡ v.links
  pub streams : w.streams ≡ v.streams
  pub last_file : w.last_file ≡ v.last_file
  pub last_link : w.last_link ≡ v.last_link
  pub last_stream : w.last_stream ≡ v.last_stream
  pub changes : w.changes ≡ v.changes
  pub clock : w.clock ≡ v.clock

pub Alike-same : (v : Volume) → Alike v v
Alike-same v = record { table = refl; files = refl; links = refl; streams = refl; last_file = refl; last_link = refl; last_stream = refl; changes = refl; clock = refl }

pub Alike-next : (u v w : Volume) → Alike u v → Alike v w → Alike u w
Alike-next u v w one two = record {
  table = two.table ∙ one.table;
  files = two.files ∙ one.files;
  links = two.links ∙ one.links;
  streams = two.streams ∙ one.streams;
  last_file = two.last_file ∙ one.last_file;
  last_link = two.last_link ∙ one.last_link;
  last_stream = two.last_stream ∙ one.last_stream;
  changes = two.changes ∙ one.changes;
  clock = two.clock ∙ one.clock;
}

pub Alike-tree : (v w : Volume) → Alike v w → SameTree v w
Alike-tree v w alike = record {
  table = alike.table;
  files = alike.files;
  links = alike.links;
  streams = alike.streams;
  last_file = alike.last_file;
  last_link = alike.last_link;
  last_stream = alike.last_stream;
  changes = alike.changes;
}

pub SameTree-same : (v : Volume) → SameTree v v
SameTree-same v = Alike-tree v v (Alike-same v)

pub SameTree-next : (u v w : Volume) → SameTree u v → SameTree v w → SameTree u w
SameTree-next u v w one two = record {
  table = two.table ∙ one.table;
  files = two.files ∙ one.files;
  links = two.links ∙ one.links;
  streams = two.streams ∙ one.streams;
  last_file = two.last_file ∙ one.last_file;
  last_link = two.last_link ∙ one.last_link;
  last_stream = two.last_stream ∙ one.last_stream;
  changes = two.changes ∙ one.changes;
}

-- ---- what leaves a volume alike

pub Alike-end : (v : Volume) (client number : ℕ) (reply : Reply) → Alike v (with_end v client number reply)
Alike-end v client number reply = record { table = refl; files = refl; links = refl; streams = refl; last_file = refl; last_link = refl; last_stream = refl; changes = refl; clock = refl }

pub Alike-calls_ended : (status_of : What → Status) (calls : List (ℕ × Pending)) (v : Volume) → Alike v (with_calls_ended status_of calls v)
Alike-calls_ended status_of [] v = Alike-same v
Alike-calls_ended status_of (entry ∷ more) v =
    Alike-next v _ _ (Alike-end v entry.1.call.client entry.1.call.number (record { status = status_of entry.1.call.what; body = Nothing }))
    (Alike-calls_ended status_of more (with_end v entry.1.call.client entry.1.call.number (record { status = status_of entry.1.call.what; body = Nothing })))

-- nor do calls that end change the handles
pub calls_ended-handles : (status_of : What → Status) (calls : List (ℕ × Pending)) (v : Volume) → (with_calls_ended status_of calls v).handles ≡ v.handles
calls_ended-handles status_of [] v = refl
calls_ended-handles status_of (entry ∷ more) v =
    calls_ended-handles status_of more (with_end v entry.1.call.client entry.1.call.number (record { status = status_of entry.1.call.what; body = Nothing }))

pub stalled-handles : (v : Volume) → (with_stalled v).handles ≡ v.handles
stalled-handles v = elim (cases_Bool (all_wait v)) [
  | inl all ↦ rw all (calls_ended-handles (λ _. Stalled) (waits_in_order v) v)
  | inr some ↦ rw some refl
]

pub Alike-breaks : (v : Volume) (on : HandleSet) (class : Class) (acting : Option ℕ) (key : ℕ) → Alike v (with_breaks v on class acting key)
Alike-breaks v on class acting key =
    subst (λ w. Alike v w) (sym (with_breaks-rest v on class acting key))
    (record { table = refl; files = refl; links = refl; streams = refl; last_file = refl; last_link = refl; last_stream = refl; changes = refl; clock = refl })

-- ---- the same change of two that are alike

-- the second volume, with what the first has of this
abbrev over : Volume → Volume → Volume
over v w = record w {
  table = v.table;
  files = v.files;
  links = v.links;
  streams = v.streams;
  last_file = v.last_file;
  last_link = v.last_link;
  last_stream = v.last_stream;
  changes = v.changes;
  clock = v.clock;
}

over-is : (v w : Volume) → Alike v w → w ≡ over v w
over-is v w alike = rw (sym alike.table, sym alike.files, sym alike.links, sym alike.streams, sym alike.last_file, sym alike.last_link, sym alike.last_stream, sym alike.changes, sym alike.clock) refl

over-alike : (v w : Volume) → Alike v (over v w)
over-alike v w = record { table = refl; files = refl; links = refl; streams = refl; last_file = refl; last_link = refl; last_stream = refl; changes = refl; clock = refl }

over-noted : (v w : Volume) (link action bits : ℕ) (stream : Option ℕ) → with_change_noted (over v w) link action bits stream ≡ over (with_change_noted v link action bits stream) w
over-noted v w link action bits stream = elim (option_cases (row_of v.links link)) [
  | inl none ↦ rw none refl
  | inr some ↦ rw some.1 refl
]

over-unlinked : (v w : Volume) (file : ℕ) → without_file_unless_linked (over v w) file ≡ over (without_file_unless_linked v file) w
over-unlinked v w file = elim (cases_Bool (has_row (λ link. link.file == file) v.links)) [
  | inl linked ↦ rw linked refl
  | inr not_linked ↦ rw not_linked refl
]

over-without_link : (v w : Volume) (link : ℕ) → without_link (over v w) link ≡ over (without_link v link) w
over-without_link v w link = elim (option_cases (row_of v.links link)) [
  | inl none ↦ rw none refl
  | inr some ↦ rw some.1 (over-unlinked _ w some.0.file)
]

over-move : (v w : Volume) (link dir : ℕ) (name : List ℕ) (old new : ℕ) → with_move (over v w) link dir name old new ≡ over (with_move v link dir name old new) w
over-move v w link dir name old new =
    rw (over-noted v w link old (name_bit v link) None)
    (over-noted (with_link_moved (with_change_noted v link old (name_bit v link) None) link dir name) w link new (name_bit v link) None)

over-owner : (v w : Volume) (file : ℕ) (owner : Option ℕ) → with_owner_asked (over v w) file owner ≡ over (with_owner_asked v file owner) w
over-owner v w file None = refl
over-owner v w file (Some sid) = refl

over-dacl : (v w : Volume) (file : ℕ) (dacl : DaclChange) → with_dacl_asked (over v w) file dacl ≡ over (with_dacl_asked v file dacl) w
over-dacl v w file Keep = refl
over-dacl v w file Remove = refl
over-dacl v w file (Put dacl) = refl

over-change : (v w : Volume) (change : TreeChange) → with_tree_change (over v w) change ≡ over (with_tree_change v change) w
over-change v w (MakesDirectory dir name file) =
    over-noted (with_link (with_file v file) dir name (v.last_file + 1)) w (v.last_link + 1) FILE_ACTION_ADDED FILE_NOTIFY_CHANGE_DIR_NAME None
over-change v w (MakesFile dir name file) =
    over-noted (with_stream (with_link (with_file v file) dir name (v.last_file + 1)) (v.last_file + 1) []) w (v.last_link + 1) FILE_ACTION_ADDED FILE_NOTIFY_CHANGE_FILE_NAME None
over-change v w (MakesStream link file name) =
    over-noted (with_stream v file name) w link FILE_ACTION_ADDED_STREAM FILE_NOTIFY_CHANGE_STREAM_NAME (Some (v.last_stream + 1))
over-change v w (AddsLink dir name file) = over-noted (with_link v dir name file) w (v.last_link + 1) FILE_ACTION_ADDED FILE_NOTIFY_CHANGE_FILE_NAME None
over-change v w (MovesLink link dir name) = elim (cases_Bool (parent_of v link == dir)) [
  | inl there ↦ rw there (over-move v w link dir name FILE_ACTION_RENAMED_OLD_NAME FILE_ACTION_RENAMED_NEW_NAME)
  | inr elsewhere ↦ rw elsewhere (over-move v w link dir name FILE_ACTION_REMOVED FILE_ACTION_ADDED)
]
over-change v w (RemovesLink link) =
    rw (over-noted v w link FILE_ACTION_REMOVED (name_bit v link) None) (over-without_link (with_change_noted v link FILE_ACTION_REMOVED (name_bit v link) None) w link)
over-change v w (RemovesStream link stream) = rw (over-noted v w link FILE_ACTION_REMOVED_STREAM FILE_NOTIFY_CHANGE_STREAM_NAME (Some stream)) refl
over-change v w (MarksLink link marked) = refl
over-change v w (MarksStream stream marked) = refl
over-change v w (Writes link stream at bytes) = elim (cases_Bool (is_named_stream v stream)) [
  | inl named ↦ rw (named, over-noted v w link FILE_ACTION_MODIFIED_STREAM (stream_write_filters (lengthens v stream at bytes)) (Some stream)) refl
  | inr not_named ↦ rw (not_named, over-noted v w link FILE_ACTION_MODIFIED (write_filters (lengthens v stream at bytes)) None) refl
]
over-change v w (Resizes link stream end) = elim (cases_Bool (is_named_stream v stream)) [
  | inl named ↦ rw (named, over-noted v w link FILE_ACTION_MODIFIED_STREAM (stream_write_filters true) (Some stream)) refl
  | inr not_named ↦ rw (not_named, over-noted v w link FILE_ACTION_MODIFIED (write_filters true) None) refl
]
over-change v w (Overwrites link file stream true attributes) = rw (over-noted v w link FILE_ACTION_MODIFIED_STREAM stream_overwrite_filters (Some stream)) refl
over-change v w (Overwrites link file stream false attributes) = rw (over-noted v w link FILE_ACTION_MODIFIED overwrite_filters None) refl
over-change v w (SetsBasics link file basics) = elim (cases_Bool (basic_bits basics == 0)) [
  | inl none ↦ rw none refl
  | inr some ↦ rw some (over-noted (with_basics v file basics) w link FILE_ACTION_MODIFIED (basic_bits basics) None)
]
over-change v w (SetsSecurity link file owner dacl) = elim (cases_Bool (asks_something owner dacl)) [
  | inl asks ↦ rw (asks, over-owner v w file owner, over-dacl (with_owner_asked v file owner) w file dacl)
      (over-noted (with_change_time (with_dacl_asked (with_owner_asked v file owner) file dacl) file) w link FILE_ACTION_MODIFIED FILE_NOTIFY_CHANGE_SECURITY None)
  | inr asks_nothing ↦ rw (asks_nothing, over-owner v w file owner, over-dacl (with_owner_asked v file owner) w file dacl) refl
]
over-change v w (SetsPoint link file point) = over-noted (with_point v file point) w link FILE_ACTION_MODIFIED FILE_NOTIFY_CHANGE_ATTRIBUTES None
over-change v w (SetsChangeTime file) = refl

over-changes : (changes : List TreeChange) (v w : Volume) → with_tree_changes (over v w) changes ≡ over (with_tree_changes v changes) w
over-changes [] v w = refl
over-changes (change ∷ more) v w = rw (over-change v w change) (over-changes more (with_tree_change v change) w)

-- changes of alike volumes leave them alike
pub Alike-changes : (changes : List TreeChange) (v w : Volume) → Alike v w → Alike (with_tree_changes v changes) (with_tree_changes w changes)
Alike-changes changes v w alike =
    subst (λ u. Alike (with_tree_changes v changes) (with_tree_changes u changes)) (sym (over-is v w alike))
    (rw (over-changes changes v w) (over-alike (with_tree_changes v changes) w))

-- ---- how a try leaves what its changes leave

-- no changes, with any status
pub where_success-none : (status : Status) → where_success status [] ≡ []
where_success-none Success = refl
where_success-none _ = refl

-- nor where it doesn't succeed
pub where_success-fails : (status : Status) (changes : List TreeChange) → is_success status ≡ false → where_success status changes ≡ []
where_success-fails Success changes fails = cc
where_success-fails _ changes fails = refl

-- it ends with a reply that stands for no changes
pub leaves-none : (v w : Volume) (client number : ℕ) (what : What) (reply : Reply) → where_success reply.status (changes_asked v client number what reply.body) ≡ [] → Alike v w
    → LeavesChanges v client number what (Done w reply)
leaves-none v w client number what reply none alike = rw none (Alike-tree v w alike)

-- it's refused; the premise computes, since the status isn't SUCCESS
pub leaves-refused : (v : Volume) (client number : ℕ) (what : What) (status : Status) → where_success status (changes_asked v client number what Nothing) ≡ []
    → LeavesChanges v client number what (refused v status)
leaves-refused v client number what status none = leaves-none v v client number what (record { status = status; body = Nothing }) none (Alike-same v)

pub leaves-held_by : (v u : Volume) (client number : ℕ) (what : What) (on : HandleSet) (class : Class) (acting : Option ℕ) (key : ℕ) → Alike v u
    → LeavesChanges v client number what (held_by u on class acting key)
leaves-held_by v u client number what on class acting key alike = Alike-tree v _ (Alike-next v u _ alike (Alike-breaks u on class acting key))

-- it ends with a reply that stands for these changes, made after what leaves the volume alike
pub leaves-made : (v u w : Volume) (client number : ℕ) (what : What) (reply : Reply) (changes : List TreeChange) → where_success reply.status (changes_asked v client number what reply.body) ≡ changes
    → Alike v u → SameTree (with_tree_changes u changes) w → LeavesChanges v client number what (Done w reply)
leaves-made v u w client number what reply changes are alike same =
    rw are (SameTree-next (with_tree_changes v changes) (with_tree_changes u changes) w (Alike-tree _ _ (Alike-changes changes v u alike)) same)

-- by what a test or a search finds
pub leaves-if : (v : Volume) (client number : ℕ) (what : What) (test : Bool) (one other : Outcome) → (test ≡ true → LeavesChanges v client number what one) → (test ≡ false → LeavesChanges v client number what other)
    → LeavesChanges v client number what (if test then one else other)
leaves-if v client number what = by-if (LeavesChanges v client number what)

pub leaves-option : {T : Type 0} (v : Volume) (client number : ℕ) (what : What) (found : Option T) (some : T → Outcome) (none : Outcome)
    → ((item : T) → found ≡ Some item → LeavesChanges v client number what (some item)) → (found ≡ None → LeavesChanges v client number what none)
    → LeavesChanges v client number what (option_map_or some found none)
leaves-option v client number what = by-option (LeavesChanges v client number what)
