-- What a try has to note, said of the volumes before and after it alone: a link that comes, goes or moves, where it was and where it
-- is; and under a name of the file a named stream that comes, or that goes while its file stays, other bytes of a stream that stays,
-- and, but for the root, another owner, access list or reparse point, other times but that of the last change, and other attributes.
-- Of marks and of the change time nothing is said. Each note is seen from its first directory and from each above that up to the
-- root. After [MS-FSA] 'Algorithm for Reporting a Change Notification for a Directory'.
use Rattle.std.specs.Prelude.{◌≡◌, ◌==◌, ◌||◌, ℕ, Bool, true, false, List, [], ◌∷◌, ◌++◌, All, Option, Some, None, option_map}
use Rattle.fsa_types.specs.Access.{has_any}
use Rattle.fsa_types.specs.Masks.{FILE_ACTION_ADDED, FILE_ACTION_ADDED_STREAM, FILE_ACTION_MODIFIED, FILE_ACTION_MODIFIED_STREAM, FILE_ACTION_REMOVED, FILE_ACTION_REMOVED_STREAM, FILE_ACTION_RENAMED_NEW_NAME, FILE_ACTION_RENAMED_OLD_NAME, FILE_NOTIFY_CHANGE_ATTRIBUTES, FILE_NOTIFY_CHANGE_CREATION, FILE_NOTIFY_CHANGE_DIR_NAME, FILE_NOTIFY_CHANGE_FILE_NAME, FILE_NOTIFY_CHANGE_LAST_ACCESS, FILE_NOTIFY_CHANGE_LAST_WRITE, FILE_NOTIFY_CHANGE_SECURITY, FILE_NOTIFY_CHANGE_STREAM_NAME, FILE_NOTIFY_CHANGE_STREAM_WRITE}
use Rattle.fsa_types.specs.Rows.{row_of}
use Rattle.fsa_model.specs.History.{HistoryEntry}
use Rattle.fsa_model.specs.Setup.{Setup}
use Rattle.fsa_model.specs.Tries.{Tried, left_by, tries_of}
use Rattle.fsa_model.specs.Volume.{Change, File, Link, Stream, Volume}

-- ---- a note

-- among these notes is one with this action, with filters that pass this test, whose first directory is this one, with this name;
-- from which directories above it the note is seen, `IsSeenUp` says
pub record IsNoted (notes : List Change) (action : ℕ) (under : ℕ → Bool) (parent : ℕ) (name : List ℕ) : Type 0 where
  pub before : List Change
  pub note : Change
  pub after : List Change
  pub is_there : notes ≡ before ++ note ∷ after
  pub acts : note.action ≡ action
  pub filters : under note.bits ≡ true
  pub above : List (ℕ × List ℕ)
  pub seen : note.seen_from ≡ (parent, name) ∷ above

-- the filter of a directory's name, or that of a file's
abbrev pub is_of_name : ℕ → Bool
is_of_name bits = bits == FILE_NOTIFY_CHANGE_DIR_NAME || bits == FILE_NOTIFY_CHANGE_FILE_NAME

-- the filters have this one among them
abbrev pub has_filter : ℕ → ℕ → Bool
has_filter filter bits = has_any bits filter

-- ---- from where a note is seen

-- what is called `name` in this directory is called, in a directory that has a link of this one, by that link's name, `\` and `name`
pub record IsAbove (v : Volume) (dir : ℕ) (name : List ℕ) (above : ℕ × List ℕ) : Type 0 where
  pub link : ℕ
  pub row : Link
  pub is_there : row_of v.links link ≡ Some row
  pub of_dir : row.file ≡ dir
  pub seen : above ≡ (row.parent, row.name ++ 92 ∷ name)

-- the directories above this one, the nearest first, each with what something called `name` in this one is called from there: each has a
-- link of the one before it, and the last is the root, file 1; of the root there are none
abbrev pub IsWayUp : Volume → ℕ → List ℕ → List (ℕ × List ℕ) → Type 0
IsWayUp v dir name [] = dir ≡ 1
IsWayUp v dir name (next ∷ more) = IsAbove v dir name next × IsWayUp v next.0 next.1 more

-- a note is seen from its first directory, and from each above that up to the root, as these were before the try, with the name that it
-- has from each
pub record IsSeenUp (v : Volume) (note : Change) : Type 0 where
  pub parent : ℕ
  pub name : List ℕ
  pub above : List (ℕ × List ℕ)
  pub seen : note.seen_from ≡ (parent, name) ∷ above
  pub way : IsWayUp v parent name above

-- ---- links

-- the directory that a link is in, and its name there
abbrev pub place_of : Volume → ℕ → Option (ℕ × List ℕ)
place_of v link = option_map (λ row. (row.parent, row.name)) (row_of v.links link)

-- a link has left its place: FILE_ACTION_REMOVED or FILE_ACTION_RENAMED_OLD_NAME
pub data HasLeft (notes : List Change) (parent : ℕ) (name : List ℕ) : Type 0 where
  Removed : IsNoted notes FILE_ACTION_REMOVED is_of_name parent name → HasLeft notes parent name
  RenamedFrom : IsNoted notes FILE_ACTION_RENAMED_OLD_NAME is_of_name parent name → HasLeft notes parent name

-- a link has come to its place: FILE_ACTION_ADDED or FILE_ACTION_RENAMED_NEW_NAME
pub data HasCome (notes : List Change) (parent : ℕ) (name : List ℕ) : Type 0 where
  Added : IsNoted notes FILE_ACTION_ADDED is_of_name parent name → HasCome notes parent name
  RenamedTo : IsNoted notes FILE_ACTION_RENAMED_NEW_NAME is_of_name parent name → HasCome notes parent name

-- the place that a link had is noted as left, and the one that it has as come to
abbrev pub LeftIs : List Change → Option (ℕ × List ℕ) → Type 0
LeftIs notes (Some place) = HasLeft notes place.0 place.1
LeftIs notes None = Unit {0}

abbrev pub ComeIs : List Change → Option (ℕ × List ℕ) → Type 0
ComeIs notes (Some place) = HasCome notes place.0 place.1
ComeIs notes None = Unit {0}

-- a link is where it was, or it's noted where it was and where it is
pub data LinkNoted (v next : Volume) (notes : List Change) (link : ℕ) : Type 0 where
  StaysThere : place_of next link ≡ place_of v link → LinkNoted v next notes link
  LinkMoved : LeftIs notes (place_of v link) → ComeIs notes (place_of next link) → LinkNoted v next notes link

-- ---- streams

-- a link's directory, its name there, and its file
abbrev pub entry_of : Volume → ℕ → Option (ℕ × List ℕ × ℕ)
entry_of v link = option_map (λ row. (row.parent, row.name, row.file)) (row_of v.links link)

-- a link of this file has this name in this directory, before the try or after it
pub data IsThereThen (v next : Volume) (link parent : ℕ) (name : List ℕ) (file : ℕ) : Type 0 where
  Before : entry_of v link ≡ Some (parent, name, file) → IsThereThen v next link parent name file
  After : entry_of next link ≡ Some (parent, name, file) → IsThereThen v next link parent name file

-- noted under a name that a link of the file has before or after the try; for a named stream with `:` and its name behind
pub record NotedByLink (v next : Volume) (notes : List Change) (action : ℕ) (under : ℕ → Bool) (file : ℕ) (suffix : List ℕ) : Type 0 where
  pub link : ℕ
  pub parent : ℕ
  pub name : List ℕ
  pub is_there : IsThereThen v next link parent name file
  pub noted : IsNoted notes action under parent (name ++ suffix)

-- bytes have changed: for a file's default stream FILE_ACTION_MODIFIED, and for a named stream FILE_ACTION_MODIFIED_STREAM
abbrev pub BytesNoted : Volume → Volume → List Change → ℕ → List ℕ → Type 0
BytesNoted v next notes file [] = NotedByLink v next notes FILE_ACTION_MODIFIED (has_filter FILE_NOTIFY_CHANGE_LAST_WRITE) file []
BytesNoted v next notes file (unit ∷ more) = NotedByLink v next notes FILE_ACTION_MODIFIED_STREAM (has_filter FILE_NOTIFY_CHANGE_STREAM_WRITE) file (58 ∷ unit ∷ more)

-- a stream that was there and is there has the bytes that it had, or is noted
pub data StreamNoted (v next : Volume) (notes : List Change) (row row_now : Stream) : Type 0 where
  SameBytes : row_now.bytes ≡ row.bytes → StreamNoted v next notes row row_now
  OtherBytes : BytesNoted v next notes row.file row.name → StreamNoted v next notes row row_now

-- a stream that is gone is noted with FILE_ACTION_REMOVED_STREAM, unless its file is gone too
pub data StreamGone (v next : Volume) (notes : List Change) (row : Stream) : Type 0 where
  WithItsFile : row_of next.files row.file ≡ None → StreamGone v next notes row
  GoneAlone : NotedByLink v next notes FILE_ACTION_REMOVED_STREAM (has_filter FILE_NOTIFY_CHANGE_STREAM_NAME) row.file (58 ∷ row.name) → StreamGone v next notes row

-- ---- files

-- a file has the owner and the access list that it had, or is noted
pub data SecurityNoted (v next : Volume) (notes : List Change) (file : ℕ) (row row_now : File) : Type 0 where
  SameSecurity : row_now.owner ≡ row.owner → row_now.dacl ≡ row.dacl → SecurityNoted v next notes file row row_now
  OtherSecurity : NotedByLink v next notes FILE_ACTION_MODIFIED (has_filter FILE_NOTIFY_CHANGE_SECURITY) file [] → SecurityNoted v next notes file row row_now

-- it has the reparse point that it had, or none as before, or is noted
pub data PointNoted (v next : Volume) (notes : List Change) (file : ℕ) (row row_now : File) : Type 0 where
  SamePoint : row_now.point ≡ row.point → PointNoted v next notes file row row_now
  OtherPoint : NotedByLink v next notes FILE_ACTION_MODIFIED (has_filter FILE_NOTIFY_CHANGE_ATTRIBUTES) file [] → PointNoted v next notes file row row_now

-- a time of it is as it was, or noted under this filter
pub data TimeNoted (v next : Volume) (notes : List Change) (file filter old now : ℕ) : Type 0 where
  SameTime : now ≡ old → TimeNoted v next notes file filter old now
  OtherTime : NotedByLink v next notes FILE_ACTION_MODIFIED (has_filter filter) file [] → TimeNoted v next notes file filter old now

-- it is noted as written: itself, or one of its named streams
pub data WriteNoted (v next : Volume) (notes : List Change) (file : ℕ) : Type 0 where
  OfFile : NotedByLink v next notes FILE_ACTION_MODIFIED (has_filter FILE_NOTIFY_CHANGE_LAST_WRITE) file [] → WriteNoted v next notes file
  OfStream : (name : List ℕ) → NotedByLink v next notes FILE_ACTION_MODIFIED_STREAM (has_filter FILE_NOTIFY_CHANGE_STREAM_WRITE) file (58 ∷ name) → WriteNoted v next notes file

-- its time of the last write is as it was, or it's noted as written
pub data LastWriteNoted (v next : Volume) (notes : List Change) (file old now : ℕ) : Type 0 where
  SameLastWrite : now ≡ old → LastWriteNoted v next notes file old now
  OtherLastWrite : WriteNoted v next notes file → LastWriteNoted v next notes file old now

-- its attributes are as they were, or noted, or it's noted as written
pub data AttributesNoted (v next : Volume) (notes : List Change) (file old now : ℕ) : Type 0 where
  SameAttributes : now ≡ old → AttributesNoted v next notes file old now
  OtherAttributes : NotedByLink v next notes FILE_ACTION_MODIFIED (has_filter FILE_NOTIFY_CHANGE_ATTRIBUTES) file [] → AttributesNoted v next notes file old now
  AttributesWritten : WriteNoted v next notes file → AttributesNoted v next notes file old now

-- of a file that stays, owner and access list, reparse point, times of creation, of the last access and of the last write, and
-- attributes are as they were, or noted
pub record FileNoted (v next : Volume) (notes : List Change) (file : ℕ) (row row_now : File) : Type 0 where
  pub security : SecurityNoted v next notes file row row_now
  pub point : PointNoted v next notes file row row_now
  pub creation : TimeNoted v next notes file FILE_NOTIFY_CHANGE_CREATION row.creation row_now.creation
  pub access : TimeNoted v next notes file FILE_NOTIFY_CHANGE_LAST_ACCESS row.access row_now.access
  pub write : LastWriteNoted v next notes file row.write row_now.write
  pub attributes : AttributesNoted v next notes file row.attributes row_now.attributes

-- ---- one try, and all of a history

-- from one volume to the next notes are only added, and those named below are among them; the root, file 1, has no name to be noted
-- under
pub record NotesChanges (v next : Volume) : Type 0 where
  pub notes : List Change
  pub adds : next.changes ≡ v.changes ++ notes
  pub links : (link : ℕ) → LinkNoted v next notes link
  pub streams : (stream : ℕ) (row row_now : Stream) → row_of v.streams stream ≡ Some row → row_of next.streams stream ≡ Some row_now
      → StreamNoted v next notes row row_now
  -- a named stream that is there only afterwards is noted: FILE_ACTION_ADDED_STREAM
  pub streams_made : (stream unit : ℕ) (name : List ℕ) (row : Stream) → row_of v.streams stream ≡ None → row_of next.streams stream ≡ Some row → row.name ≡ unit ∷ name
      → NotedByLink v next notes FILE_ACTION_ADDED_STREAM (has_filter FILE_NOTIFY_CHANGE_STREAM_NAME) row.file (58 ∷ row.name)
  pub streams_gone : (stream : ℕ) (row : Stream) → row_of v.streams stream ≡ Some row → row_of next.streams stream ≡ None → StreamGone v next notes row
  pub files : (file : ℕ) (row row_now : File) → (file == 1) ≡ false → row_of v.files file ≡ Some row → row_of next.files file ≡ Some row_now
      → FileNoted v next notes file row row_now

-- a link that stays keeps its file, and a stream that stays its file and its name
pub record KeepsOwn (v next : Volume) : Type 0 where
  pub links : (link : ℕ) (row row_now : Link) → row_of v.links link ≡ Some row → row_of next.links link ≡ Some row_now → row_now.file ≡ row.file
  pub streams : (stream : ℕ) (row row_now : Stream) → row_of v.streams stream ≡ Some row → row_of next.streams stream ≡ Some row_now → (row_now.file ≡ row.file) × (row_now.name ≡ row.name)

-- so notes are added, and each of them, also one that isn't named above, is seen up to the root; and what stays keeps what it is of
pub record NotesWhatChanges (v next : Volume) : Type 0 where
  pub noted : NotesChanges v next
  pub seen : All (IsSeenUp v) noted.notes
  pub keeps : KeepsOwn v next

-- so it is from before to after each try of a history
abbrev pub ChangesAreNoted : Setup → List HistoryEntry → Type 0
ChangesAreNoted setup history = All (λ (t : Tried). NotesWhatChanges t.before (left_by t)) (tries_of setup history)
