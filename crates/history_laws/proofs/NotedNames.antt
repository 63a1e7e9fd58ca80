-- That what a new name changes is noted: what goes, or goes elsewhere, where a link is removed, moved or added; and how this holds of
-- several such changes, one after the other.
use Rattle.std.proofs.Common.{◌≡◌, ℕ, ◌+◌, Bool, false, ◌==◌, not, List, [], ◌∷◌, ◌++◌, append_assoc, append-nil, refl, sym, subst, ap, ◌∙◌, eq-eqb, inl, inr, Option, Some, None}
use Rattle.std.specs.Option.{option_map_or}
use Rattle.std.specs.Prelude.{filter}
use Rattle.std.proofs.lemmas.Bool.{cases_Bool, eqb-true, not_from_false}
use Rattle.fsa_types.specs.Masks.{FILE_ACTION_ADDED, FILE_ACTION_REMOVED, FILE_ACTION_REMOVED_STREAM, FILE_ACTION_RENAMED_NEW_NAME, FILE_ACTION_RENAMED_OLD_NAME, FILE_NOTIFY_CHANGE_FILE_NAME, FILE_NOTIFY_CHANGE_STREAM_NAME}
use Rattle.fsa_types.specs.Rows.{IsNumbered, row_of, with_row_changed, without_row}
use Rattle.fsa_types.proofs.RowLemmas.{AreRising, with_row_changed-none}
use Rattle.fsa_model.specs.Changes.{with_change_noted}
use Rattle.fsa_model.specs.Coherence.{IsTied}
use Rattle.fsa_model.specs.Edits.{with_link, with_link_moved, without_file, without_file_unless_linked, without_link}
use Rattle.fsa_model.specs.Lookups.{child_of, has_row, linked_file, parent_of}
use Rattle.fsa_model.specs.Rename.{replaced_link}
use Rattle.fsa_model.specs.Replacement.{Naming, new_name}
use Rattle.fsa_model.specs.Volume.{Change, Link, Stream, Volume}
use Rattle.fsa_model.specs.Walk.{Walked, Reached, Barred, Diverted}
use Rattle.fsa_model.proofs.CoherenceEdits.{row_of-filter_none, row_of-kept}
use Rattle.fsa_model.proofs.RowLaws.{IsNumbered-filter, option_cases, without_row-none}
use Rattle.history_laws.specs.TreeChanges.{AddsLink, MovesLink, RemovesLink, changes_linking, changes_renaming, filter_of_name, is_under, with_move, with_time_of_change, with_tree_change, with_tree_changes}
use Rattle.history_laws.specs.TreeNotes.{ComeIs, GoneAlone, HasCome, Added, RenamedTo, HasLeft, Removed, RenamedFrom, IsNoted, LeftIs, LinkNoted, StaysThere, LinkMoved, NotesChanges, Before, SameBytes, StreamGone, WithItsFile, entry_of, has_filter, is_of_name, place_of}
use Rattle.history_laws.proofs.NotedRows.{FilesStay, files-like, files-next, files-same, files-stay, files-timed, files-without, note_of, note_of-plain, noted-after, noted-before, noted-is, of_name, row_of-changed_none, row_of-changed_some, row_of-filter, row_of-none_above, row_of-push, row_of-pushed, row_of-unchanged, row_of-without}
use Rattle.history_laws.proofs.TreeParts.{Alike}

-- ---- rows

-- a number's row that is left was there: where one goes, and where rows go by any test and numbers rise
pub row_of-earlier : {R : Type 0} (rows : List (ℕ × R)) (gone id : ℕ) (row : R) → row_of (without_row rows gone) id ≡ Some row → row_of rows id ≡ Some row
row_of-earlier rows gone id row found = elim (cases_Bool (id == gone)) [
  | inl here ↦ (let impossible : Some row ≡ None = sym found ∙ row_of-without rows gone id ∙ rw here refl in cc)
  | inr apart ↦ sym (row_of-without rows gone id ∙ rw apart refl) ∙ found
]

row_of-rising : {R : Type 0} (keep : ℕ × R → Bool) (rows : List (ℕ × R)) (id : ℕ) (row : R) → AreRising rows → row_of (filter keep rows) id ≡ Some row
    → row_of rows id ≡ Some row
row_of-rising keep rows id row rising found = elim (option_cases (row_of rows id)) [
  | inl none ↦ (let impossible : Some row ≡ None = sym found ∙ row_of-filter_none keep rows id none in cc)
  | inr some ↦ elim (cases_Bool (keep (id, some.0))) [
    | inl stays ↦ some.1 ∙ sym (row_of-kept keep rows id some.0 some.1 stays) ∙ found
    | inr goes ↦ (let impossible : Some row ≡ None = sym found ∙ row_of-filter keep rows id some.0 rising some.1 ∙ rw goes refl in cc)
  ]
]

-- ---- notes

-- what is noted among the first notes, or among the second, is noted among both
left-first : (one two : List Change) (place : Option (ℕ × List ℕ)) → LeftIs one place → LeftIs (one ++ two) place
left-first one two None left = tt
left-first one two (Some place) (Removed is) = Removed (noted-before one two FILE_ACTION_REMOVED is_of_name place.0 place.1 is)
left-first one two (Some place) (RenamedFrom is) = RenamedFrom (noted-before one two FILE_ACTION_RENAMED_OLD_NAME is_of_name place.0 place.1 is)

left-second : (one two : List Change) (place : Option (ℕ × List ℕ)) → LeftIs two place → LeftIs (one ++ two) place
left-second one two None left = tt
left-second one two (Some place) (Removed is) = Removed (noted-after one two FILE_ACTION_REMOVED is_of_name place.0 place.1 is)
left-second one two (Some place) (RenamedFrom is) = RenamedFrom (noted-after one two FILE_ACTION_RENAMED_OLD_NAME is_of_name place.0 place.1 is)

come-first : (one two : List Change) (place : Option (ℕ × List ℕ)) → ComeIs one place → ComeIs (one ++ two) place
come-first one two None come = tt
come-first one two (Some place) (Added is) = Added (noted-before one two FILE_ACTION_ADDED is_of_name place.0 place.1 is)
come-first one two (Some place) (RenamedTo is) = RenamedTo (noted-before one two FILE_ACTION_RENAMED_NEW_NAME is_of_name place.0 place.1 is)

come-second : (one two : List Change) (place : Option (ℕ × List ℕ)) → ComeIs two place → ComeIs (one ++ two) place
come-second one two None come = tt
come-second one two (Some place) (Added is) = Added (noted-after one two FILE_ACTION_ADDED is_of_name place.0 place.1 is)
come-second one two (Some place) (RenamedTo is) = RenamedTo (noted-after one two FILE_ACTION_RENAMED_NEW_NAME is_of_name place.0 place.1 is)

-- ---- links, from one volume to a third

link-next : (u v w : Volume) (one two : List Change) (link : ℕ) → LinkNoted u v one link → LinkNoted v w two link → LinkNoted u w (one ++ two) link
link-next u v w one two link (StaysThere first) (StaysThere second) = StaysThere (second ∙ first)
link-next u v w one two link (StaysThere first) (LinkMoved left come) =
    LinkMoved (left-second one two (place_of u link) (subst (λ place. LeftIs two place) first left)) (come-second one two (place_of w link) come)
link-next u v w one two link (LinkMoved left come) (StaysThere second) =
    LinkMoved (left-first one two (place_of u link) left) (come-first one two (place_of w link) (subst (λ place. ComeIs one place) (sym second) come))
link-next u v w one two link (LinkMoved left come) (LinkMoved left_later come_later) =
    LinkMoved (left-first one two (place_of u link) left) (come-second one two (place_of w link) come_later)

link-like : (u v x y : Volume) (notes : List Change) (link : ℕ) → place_of x link ≡ place_of u link → place_of y link ≡ place_of v link
    → LinkNoted u v notes link → LinkNoted x y notes link
link-like u v x y notes link before after (StaysThere same) = StaysThere (after ∙ same ∙ sym before)
link-like u v x y notes link before after (LinkMoved left come) =
    LinkMoved (subst (λ place. LeftIs notes place) (sym before) left) (subst (λ place. ComeIs notes place) (sym after) come)

-- ---- what goes, and what stays as it was

-- a stream that is gone went with its file, or is noted under a name that its file had
pub data GoneNoted (v next : Volume) (notes : List Change) (row : Stream) : Type 0 where
  WithFile : row_of next.files row.file ≡ None → GoneNoted v next notes row
  ByLink : (link parent : ℕ) (name : List ℕ) → entry_of v link ≡ Some (parent, name, row.file)
      → IsNoted notes FILE_ACTION_REMOVED_STREAM (has_filter FILE_NOTIFY_CHANGE_STREAM_NAME) parent (name ++ 58 ∷ row.name) → GoneNoted v next notes row

-- the stream is of the file that it was of, and has its name and its bytes
pub record StaysStream (row now : Stream) : Type 0 where
  pub file : now.file ≡ row.file
  pub name : now.name ≡ row.name
  pub bytes : now.bytes ≡ row.bytes

-- the stream was there
pub record WasThere (v : Volume) (stream : ℕ) (now : Stream) : Type 0 where
  pub row : Stream
  pub found : row_of v.streams stream ≡ Some row
  pub stays : StaysStream row now

-- no file, no stream and no bytes come, each file that is left has the fields that it had but for the time of its last change, and what
-- changes is noted
pub record NotesLosses (v next : Volume) : Type 0 where
  pub notes : List Change
  pub adds : next.changes ≡ v.changes ++ notes
  pub links : (link : ℕ) → LinkNoted v next notes link
  pub files : (file : ℕ) → row_of v.files file ≡ None → row_of next.files file ≡ None
  pub files_stay : FilesStay v next
  pub streams : (stream : ℕ) (now : Stream) → row_of next.streams stream ≡ Some now → WasThere v stream now
  pub gone : (stream : ℕ) (row : Stream) → row_of v.streams stream ≡ Some row → row_of next.streams stream ≡ None → GoneNoted v next notes row

-- each link that is left is where it was, and of the same file
abbrev pub OnlyLeft : Volume → Volume → Type 0
OnlyLeft v next = (link : ℕ) (entry : ℕ × List ℕ × ℕ) → entry_of next link ≡ Some entry → entry_of v link ≡ Some entry

stays-same : (row : Stream) → StaysStream row row
stays-same row = record { file = refl; name = refl; bytes = refl }

pub was-there : (v : Volume) (stream : ℕ) (now : Stream) → row_of v.streams stream ≡ Some now → WasThere v stream now
was-there v stream now found = record { row = now; found = found; stays = stays-same now }

-- streams that are as they were
pub all-there : (v next : Volume) (notes : List Change) → next.streams ≡ v.streams → (stream : ℕ) (row : Stream) → row_of v.streams stream ≡ Some row
    → row_of next.streams stream ≡ None → GoneNoted v next notes row
all-there v next notes same stream row found none =
    (let there : row_of next.streams stream ≡ Some row = rw same found in let impossible : Some row ≡ None = sym there ∙ none in cc)

pub losses-none : (v : Volume) → NotesLosses v v
losses-none v = record {
  notes = [];
  adds = sym (append-nil v.changes);
  links = λ link. StaysThere refl;
  files = λ file none. none;
  files_stay = files-same v v refl;
  streams = λ stream now found. was-there v stream now found;
  gone = λ stream row found none. all-there v v [] refl stream row found none;
}

-- ---- one after the other

gone-first : (u v w : Volume) (one two : List Change) (row : Stream) → ((file : ℕ) → row_of v.files file ≡ None → row_of w.files file ≡ None)
    → GoneNoted u v one row → GoneNoted u w (one ++ two) row
gone-first u v w one two row files (WithFile none) = WithFile (files row.file none)
gone-first u v w one two row files (ByLink link parent name there noted) =
    ByLink link parent name there (noted-before one two FILE_ACTION_REMOVED_STREAM (has_filter FILE_NOTIFY_CHANGE_STREAM_NAME) parent (name ++ 58 ∷ row.name) noted)

gone-second : (u v w : Volume) (one two : List Change) (row now : Stream) → OnlyLeft u v → StaysStream row now → GoneNoted v w two now
    → GoneNoted u w (one ++ two) row
gone-second u v w one two row now left stays (WithFile none) = WithFile (subst (λ file. row_of w.files file ≡ None) stays.file none)
gone-second u v w one two row now left stays (ByLink link parent name there noted) =
    ByLink link parent name (subst (λ file. entry_of u link ≡ Some (parent, name, file)) stays.file (left link (parent, name, now.file) there))
    (noted-after one two FILE_ACTION_REMOVED_STREAM (has_filter FILE_NOTIFY_CHANGE_STREAM_NAME) parent (name ++ 58 ∷ row.name)
    (subst (λ own. IsNoted two FILE_ACTION_REMOVED_STREAM (has_filter FILE_NOTIFY_CHANGE_STREAM_NAME) parent (name ++ 58 ∷ own)) stays.name noted))

stays-next : (first second third : Stream) → StaysStream first second → StaysStream second third → StaysStream first third
stays-next first second third one two = record { file = two.file ∙ one.file; name = two.name ∙ one.name; bytes = two.bytes ∙ one.bytes }

was-next : (u v : Volume) (stream : ℕ) (now : Stream) → (later : WasThere v stream now) → WasThere u stream later.row → WasThere u stream now
was-next u v stream now later first = record { row = first.row; found = first.found; stays = stays-next first.row later.row now first.stays later.stays }

-- where no link moves first
pub losses-next : (u v w : Volume) → OnlyLeft u v → NotesLosses u v → NotesLosses v w → NotesLosses u w
losses-next u v w left one two = record {
  notes = one.notes ++ two.notes;
  adds = two.adds ∙ ap (λ (notes : List Change). notes ++ two.notes) one.adds ∙ append_assoc u.changes one.notes two.notes;
  links = λ link. link-next u v w one.notes two.notes link (one.links link) (two.links link);
  files = λ file none. two.files file (one.files file none);
  files_stay = files-next u v w one.files_stay two.files_stay two.files;
  streams = λ stream now found. (let later : WasThere v stream now = two.streams stream now found in
      was-next u v stream now later (one.streams stream later.row later.found));
  gone = λ stream row found none. elim (option_cases (row_of v.streams stream)) [
    | inl already ↦ gone-first u v w one.notes two.notes row two.files (one.gone stream row found already)
    | inr some ↦ gone_later stream row some.0 found none (one.streams stream some.0 some.1) some.1
  ];
}
  where
    gone_later : (stream : ℕ) (row now : Stream) → row_of u.streams stream ≡ Some row → row_of w.streams stream ≡ None
        → WasThere u stream now → row_of v.streams stream ≡ Some now → GoneNoted u w (one.notes ++ two.notes) row
    gone_later stream row now found none was there =
        let same : Some was.row ≡ Some row = sym was.found ∙ found in
        let is : was.row ≡ row = cc in
        gone-second u v w one.notes two.notes row now left (subst (λ own. StaysStream own now) is was.stays) (two.gone stream now there none)

-- with the same links, streams and notes, no file more, and each as it was but for its change time
pub record SameLosses (v next : Volume) : Type 0 where
  pub links : next.links ≡ v.links
  pub streams : next.streams ≡ v.streams
  pub changes : next.changes ≡ v.changes
  pub files : (file : ℕ) → row_of v.files file ≡ None → row_of next.files file ≡ None
  pub files_stay : FilesStay v next

gone-like : (v next w : Volume) (notes : List Change) (row : Stream) → ((file : ℕ) → row_of next.files file ≡ None → row_of w.files file ≡ None)
    → GoneNoted v next notes row → GoneNoted v w notes row
gone-like v next w notes row files (WithFile none) = WithFile (files row.file none)
gone-like v next w notes row files (ByLink link parent name there noted) = ByLink link parent name there noted

pub losses-after : (v next w : Volume) → SameLosses next w → NotesLosses v next → NotesLosses v w
losses-after v next w same losses = record {
  notes = losses.notes;
  adds = same.changes ∙ losses.adds;
  links = λ link. link-like v next v w losses.notes link refl (rw same.links refl) (losses.links link);
  files = λ file none. same.files file (losses.files file none);
  files_stay = files-next v next w losses.files_stay same.files_stay same.files;
  streams = λ stream now found. losses.streams stream now (rw same.streams at found);
  gone = λ stream row found none. gone-like v next w losses.notes row same.files (losses.gone stream row found (rw same.streams at none));
}

gone-before : (v next u : Volume) (notes : List Change) (row : Stream) → u.links ≡ v.links → GoneNoted v next notes row → GoneNoted u next notes row
gone-before v next u notes row same (WithFile none) = WithFile none
gone-before v next u notes row same (ByLink link parent name there noted) = ByLink link parent name (rw same there) noted

was-before : (v u : Volume) (stream : ℕ) (now : Stream) → u.streams ≡ v.streams → WasThere v stream now → WasThere u stream now
was-before v u stream now same was = record { row = was.row; found = rw same was.found; stays = was.stays }

-- of volumes that are alike before and after
pub losses-alike : (v next u w : Volume) → Alike v u → Alike next w → NotesLosses v next → NotesLosses u w
losses-alike v next u w before after losses =
    losses-after u next w (record { links = after.links; streams = after.streams; changes = after.changes; files = λ file none. rw after.files none; files_stay = files-same next w after.files })
    (record {
      notes = losses.notes;
      adds = losses.adds ∙ ap (λ (notes : List Change). notes ++ losses.notes) (sym before.changes);
      links = λ link. link-like v next u next losses.notes link (rw before.links refl) refl (losses.links link);
      files = λ file none. losses.files file (rw before.files at none);
      files_stay = files-like v next u next before.files refl losses.files_stay;
      streams = λ stream now found. was-before v u stream now before.streams (losses.streams stream now found);
      gone = λ stream row found none. gone-before v next u losses.notes row before.links (losses.gone stream row (rw before.streams at found) none);
    })

-- so what changes is noted
gone-noted : (v next : Volume) (notes : List Change) (row : Stream) → GoneNoted v next notes row → StreamGone v next notes row
gone-noted v next notes row (WithFile none) = WithItsFile none
gone-noted v next notes row (ByLink link parent name there noted) = GoneAlone (record { link = link; parent = parent; name = name; is_there = Before there; noted = noted })

pub losses-noted : (v next : Volume) → NotesLosses v next → NotesChanges v next
losses-noted v next losses = record {
  notes = losses.notes;
  adds = losses.adds;
  links = losses.links;
  streams = λ stream row now found found_now. (let was : WasThere v stream now = losses.streams stream now found_now in
      let same : Some was.row ≡ Some row = sym was.found ∙ found in
      let is : was.row ≡ row = cc in
      SameBytes (was.stays.bytes ∙ ap (λ (own : Stream). own.bytes) is));
  streams_made = λ stream unit name row none found named. (let was : WasThere v stream row = losses.streams stream row found in
      let impossible : Some was.row ≡ None = sym was.found ∙ none in cc);
  streams_gone = λ stream row found none. gone-noted v next losses.notes row (losses.gone stream row found none);
  files = files-stay v next losses.notes losses.files_stay;
}

-- ---- a link that is removed

-- noted, and gone, before its file is
abbrev noted_gone : Volume → ℕ → Link → Volume
noted_gone v link row = record v { links = without_row v.links link; changes = v.changes ++ note_of v row FILE_ACTION_REMOVED (filter_of_name v link) None ∷ [] }

removed-is : (v : Volume) (link : ℕ) (row : Link) → row_of v.links link ≡ Some row
    → with_tree_change v (RemovesLink link) ≡ without_file_unless_linked (noted_gone v link row) row.file
removed-is v link row found =
    ap (λ first. without_link first link) (noted-is v link FILE_ACTION_REMOVED (filter_of_name v link) None row found)
    ∙ ap (λ found. option_map_or (λ row. without_file_unless_linked (record first { links = without_row v.links link }) row.file) found first) found
  where
    first : Volume
    first = record v { changes = v.changes ++ note_of v row FILE_ACTION_REMOVED (filter_of_name v link) None ∷ [] }

removed-none : (v : Volume) (link : ℕ) → row_of v.links link ≡ None → with_tree_change v (RemovesLink link) ≡ v
removed-none v link none = ap (λ first. without_link first link) nothing ∙ rw none refl
  where
    nothing : with_change_noted v link FILE_ACTION_REMOVED (filter_of_name v link) None ≡ v
    nothing = rw none refl

removed-links : (v next : Volume) (link : ℕ) (row : Link) → row_of v.links link ≡ Some row → next.links ≡ without_row v.links link
    → (other : ℕ) → LinkNoted v next (note_of v row FILE_ACTION_REMOVED (filter_of_name v link) None ∷ []) other
removed-links v next link row found left other = elim (cases_Bool (other == link)) [
  | inl here ↦ (let is : other ≡ link = eqb-true other link here in
      let before : place_of v other ≡ Some (row.parent, row.name) = rw (is, found) refl in
      let after : place_of next other ≡ None = rw (left, row_of-without v.links link other, here) refl in
      LinkMoved (subst (λ place. LeftIs notes place) (sym before) (Removed (note_of-plain v row FILE_ACTION_REMOVED (filter_of_name v link) is_of_name (of_name v link))))
      (subst (λ place. ComeIs notes place) (sym after) tt))
  | inr apart ↦ StaysThere (rw (left, row_of-without v.links link other, apart) refl)
]
  where
    notes : List Change
    notes = note_of v row FILE_ACTION_REMOVED (filter_of_name v link) None ∷ []

-- the file has another link
row-losses : (v : Volume) (link : ℕ) (row : Link) → row_of v.links link ≡ Some row → NotesLosses v (noted_gone v link row)
row-losses v link row found = record {
  notes = note_of v row FILE_ACTION_REMOVED (filter_of_name v link) None ∷ [];
  adds = refl;
  links = λ other. removed-links v (noted_gone v link row) link row found refl other;
  files = λ file none. none;
  files_stay = files-same v (noted_gone v link row) refl;
  streams = λ stream now there. was-there v stream now there;
  gone = λ stream gone there none. all-there v (noted_gone v link row) (note_of v row FILE_ACTION_REMOVED (filter_of_name v link) None ∷ []) refl stream gone there none;
}

-- the file goes too, with its streams
file-losses : (v : Volume) (link : ℕ) (row : Link) → row_of v.links link ≡ Some row → AreRising v.streams
    → NotesLosses v (without_file (noted_gone v link row) row.file)
file-losses v link row found rising = record {
  notes = note_of v row FILE_ACTION_REMOVED (filter_of_name v link) None ∷ [];
  adds = refl;
  links = λ other. removed-links v (without_file (noted_gone v link row) row.file) link row found refl other;
  files = λ file none. row_of-filter_none (λ entry. not (entry.0 == row.file)) v.files file none;
  files_stay = files-without v (without_file (noted_gone v link row) row.file) row.file refl;
  streams = λ stream now there. was-there v stream now (row_of-rising (λ entry. not (entry.1.file == row.file)) v.streams stream now rising there);
  gone = λ stream gone there none. elim (cases_Bool (gone.file == row.file)) [
    | inl its ↦ (let is : gone.file ≡ row.file = eqb-true gone.file row.file its in WithFile (rw (row_of-without v.files row.file gone.file, its) refl))
    | inr other ↦ (let stays = row_of-kept (λ entry. not (entry.1.file == row.file)) v.streams stream gone there (not_from_false _ other) in
        let impossible : Some gone ≡ None = sym stays ∙ none in cc)
  ];
}

pub removed-losses : (v : Volume) (link : ℕ) → AreRising v.streams → NotesLosses v (with_tree_change v (RemovesLink link))
removed-losses v link rising = elim (option_cases (row_of v.links link)) [
  | inl none ↦ rw (removed-none v link none) (losses-none v)
  | inr some ↦ subst (λ next. NotesLosses v next) (sym (removed-is v link some.0 some.1))
      (elim (cases_Bool (has_row (λ l. l.file == some.0.file) (without_row v.links link))) [
        | inl linked ↦ rw linked (row-losses v link some.0 some.1)
        | inr not_linked ↦ rw not_linked (file-losses v link some.0 some.1 rising)
      ])
]

-- and the other links are left
links-removed : (v : Volume) (link : ℕ) → (with_tree_change v (RemovesLink link)).links ≡ without_row v.links link
links-removed v link = elim (option_cases (row_of v.links link)) [
  | inl none ↦ rw (removed-none v link none) (sym (without_row-none v.links link none))
  | inr some ↦ rw (removed-is v link some.0 some.1) (elim (cases_Bool (has_row (λ l. l.file == some.0.file) (without_row v.links link))) [
    | inl linked ↦ rw linked refl
    | inr not_linked ↦ rw not_linked refl
  ])
]

-- and so are handles and the last number
pub record SameRest (v next : Volume) : Type 0 where
  pub handles : next.handles ≡ v.handles
  pub last_link : next.last_link ≡ v.last_link

pub removed-rest : (v : Volume) (link : ℕ) → SameRest v (with_tree_change v (RemovesLink link))
removed-rest v link = elim (option_cases (row_of v.links link)) [
  | inl none ↦ rw (removed-none v link none) (record { handles = refl; last_link = refl })
  | inr some ↦ rw (removed-is v link some.0 some.1) (elim (cases_Bool (has_row (λ l. l.file == some.0.file) (without_row v.links link))) [
    | inl linked ↦ rw linked (record { handles = refl; last_link = refl })
    | inr not_linked ↦ rw not_linked (record { handles = refl; last_link = refl })
  ])
]

pub entry-of : (v : Volume) (link : ℕ) (entry : ℕ × List ℕ × ℕ) → entry_of v link ≡ Some entry
    → (row : Link) × (row_of v.links link ≡ Some row) × ((row.parent, row.name, row.file) ≡ entry)
entry-of v link entry there = elim (option_cases (row_of v.links link)) [
  | inl none ↦ (let impossible : None ≡ Some entry = rw none at there in cc)
  | inr some ↦ (let same : Some (some.0.parent, some.0.name, some.0.file) ≡ Some entry = rw some.1 at there in (some.0, some.1, cc))
]

pub removed-left : (v : Volume) (link : ℕ) → OnlyLeft v (with_tree_change v (RemovesLink link))
removed-left v link other entry there =
    let some : (row : Link) × (row_of (without_row v.links link) other ≡ Some row) × ((row.parent, row.name, row.file) ≡ entry)
    = entry-of (record v { links = without_row v.links link }) other entry (rw (links-removed v link) at there) in
    rw (row_of-earlier v.links link other some.0 some.1) (ap (λ (e : ℕ × List ℕ × ℕ). Some e) some.2)

-- ---- a link that is moved

-- its row then, and the volume where it's noted under its old name and moved; and that where it's noted under its new one too
abbrev moved_row : Link → ℕ → List ℕ → Link
moved_row row dir name = record row { parent = dir; name = name }

abbrev moved : Volume → ℕ → Link → ℕ → List ℕ → ℕ → Volume
moved v link row dir name old = with_link_moved (record v { changes = v.changes ++ note_of v row old (filter_of_name v link) None ∷ [] }) link dir name

abbrev moved_notes : Volume → ℕ → Link → ℕ → List ℕ → ℕ → ℕ → List Change
moved_notes v link row dir name old new = note_of (moved v link row dir name old) (moved_row row dir name) new (filter_of_name v link) None ∷ []

abbrev noted_moved : Volume → ℕ → Link → ℕ → List ℕ → ℕ → ℕ → Volume
noted_moved v link row dir name old new =
    record (moved v link row dir name old) { changes = (moved v link row dir name old).changes ++ moved_notes v link row dir name old new }

moved-there : (v : Volume) (link dir : ℕ) (name : List ℕ) (row : Link) (old : ℕ) → row_of v.links link ≡ Some row
    → row_of (moved v link row dir name old).links link ≡ Some (moved_row row dir name)
moved-there v link dir name row old found = row_of-changed_some (λ row. moved_row row dir name) v.links link link row found ∙ rw (eq-eqb link link refl) refl

moved-is : (v : Volume) (link dir : ℕ) (name : List ℕ) (old new : ℕ) (row : Link) → row_of v.links link ≡ Some row
    → with_move v link dir name old new ≡ noted_moved v link row dir name old new
moved-is v link dir name old new row found =
    ap (λ first. with_change_noted (with_link_moved first link dir name) link new (filter_of_name v link) None) (noted-is v link old (filter_of_name v link) None row found)
    ∙ noted-is (moved v link row dir name old) link new (filter_of_name v link) None (moved_row row dir name) (moved-there v link dir name row old found)

-- the two actions stand for leaving and for coming
record IsMove (old new : ℕ) : Type 0 where
  leaves : (notes : List Change) (parent : ℕ) (name : List ℕ) → IsNoted notes old is_of_name parent name → HasLeft notes parent name
  comes : (notes : List Change) (parent : ℕ) (name : List ℕ) → IsNoted notes new is_of_name parent name → HasCome notes parent name

move-losses : (v : Volume) (link dir : ℕ) (name : List ℕ) (old new : ℕ) → IsMove old new → NotesLosses v (with_move v link dir name old new)
move-losses v link dir name old new move = elim (option_cases (row_of v.links link)) [
  | inl none ↦ (let same : with_row_changed (λ row. moved_row row dir name) v.links link ≡ v.links
      = with_row_changed-none v.links link (λ row. moved_row row dir name) none in
      rw (none, same, none) (losses-none v))
  | inr some ↦ subst (λ next. NotesLosses v next) (sym (moved-is v link dir name old new some.0 some.1)) (losses some.0 some.1)
]
  where
    losses : (row : Link) → row_of v.links link ≡ Some row → NotesLosses v (noted_moved v link row dir name old new)
    losses row found = record {
      notes = first ++ second;
      adds = append_assoc v.changes first second;
      links = λ other. elim (cases_Bool (other == link)) [
        | inl here ↦ (let is : other ≡ link = eqb-true other link here in
            let before : place_of v other ≡ Some (row.parent, row.name) = rw (is, found) refl in
            let after : place_of next other ≡ Some (dir, name) = rw (is, moved-there v link dir name row old found) refl in
            LinkMoved
            (subst (λ place. LeftIs (first ++ second) place) (sym before)
            (move.leaves (first ++ second) row.parent row.name (noted-before first second old is_of_name row.parent row.name
            (note_of-plain v row old (filter_of_name v link) is_of_name (of_name v link)))))
            (subst (λ place. ComeIs (first ++ second) place) (sym after)
            (move.comes (first ++ second) dir name
            (noted-after first second new is_of_name dir name
            (note_of-plain (moved v link row dir name old) (moved_row row dir name) new (filter_of_name v link) is_of_name (of_name v link))))))
        | inr apart ↦ StaysThere (rw (row_of-unchanged (λ row. moved_row row dir name) v.links link other apart) refl)
      ];
      files = λ file none. none;
      files_stay = files-same v next refl;
      streams = λ stream now there. was-there v stream now there;
      gone = λ stream gone there none. all-there v next (first ++ second) refl stream gone there none;
    }
      where
        next : Volume
        next = noted_moved v link row dir name old new

        first : List Change
        first = note_of v row old (filter_of_name v link) None ∷ []

        second : List Change
        second = moved_notes v link row dir name old new

pub moved-losses : (v : Volume) (link dir : ℕ) (name : List ℕ) → NotesLosses v (with_tree_change v (MovesLink link dir name))
moved-losses v link dir name = elim (cases_Bool (parent_of v link == dir)) [
  | inl there ↦ rw there (move-losses v link dir name FILE_ACTION_RENAMED_OLD_NAME FILE_ACTION_RENAMED_NEW_NAME
      (record { leaves = λ notes parent name is. RenamedFrom is; comes = λ notes parent name is. RenamedTo is }))
  | inr elsewhere ↦ rw elsewhere (move-losses v link dir name FILE_ACTION_REMOVED FILE_ACTION_ADDED
      (record { leaves = λ notes parent name is. Removed is; comes = λ notes parent name is. Added is }))
]

-- ---- a link that is added

pub added-losses : (v : Volume) (dir : ℕ) (name : List ℕ) (file : ℕ) → IsNumbered v.links v.last_link → NotesLosses v (with_tree_change v (AddsLink dir name file))
added-losses v dir name file numbered =
    subst (λ next. NotesLosses v next) (sym (noted-is more (v.last_link + 1) FILE_ACTION_ADDED FILE_NOTIFY_CHANGE_FILE_NAME None row there)) (record {
      notes = notes;
      adds = refl;
      links = λ link. elim (cases_Bool (link == v.last_link + 1)) [
        | inl here ↦ (let is : link ≡ v.last_link + 1 = eqb-true link (v.last_link + 1) here in
            let before : place_of v link ≡ None = rw (row_of-none_above v.links v.last_link link numbered.given is) refl in
            let after : place_of more link ≡ Some (dir, name) = rw (is, there) refl in
            LinkMoved (subst (λ place. LeftIs notes place) (sym before) tt)
            (subst (λ place. ComeIs notes place) (sym after) (Added (note_of-plain more row FILE_ACTION_ADDED FILE_NOTIFY_CHANGE_FILE_NAME is_of_name refl))))
        | inr apart ↦ StaysThere (rw (row_of-pushed v.links (v.last_link + 1) link row apart) refl)
      ];
      files = λ other none. none;
      files_stay = files-same v (record more { changes = more.changes ++ notes }) refl;
      streams = λ stream now found. was-there v stream now found;
      gone = λ stream gone found none. all-there v (record more { changes = more.changes ++ notes }) notes refl stream gone found none;
    })
  where
    row : Link
    row = record { parent = dir; name = name; file = file; deleted = false }

    more : Volume
    more = with_link v dir name file

    notes : List Change
    notes = note_of more row FILE_ACTION_ADDED FILE_NOTIFY_CHANGE_FILE_NAME None ∷ []

    there : row_of more.links (v.last_link + 1) ≡ Some row
    there = row_of-push v.links v.last_link (v.last_link + 1) row numbered ∙ rw (eq-eqb (v.last_link + 1) (v.last_link + 1) refl) refl

-- ---- a change time

same-timed : (v : Volume) (file : ℕ) → SameLosses v (with_time_of_change v file)
same-timed v file = record {
  links = refl;
  streams = refl;
  changes = refl;
  files = λ other none. row_of-changed_none _ v.files file other none;
  files_stay = files-timed v (with_time_of_change v file) file v.clock refl;
}

-- ---- a new name

-- what an added link, or one that is moved, and the change time of its file change
moves-losses : (v : Volume) (link dir : ℕ) (name : List ℕ) (file : ℕ) → NotesLosses v (with_time_of_change (with_tree_change v (MovesLink link dir name)) file)
moves-losses v link dir name file =
    losses-after v (with_tree_change v (MovesLink link dir name)) _ (same-timed (with_tree_change v (MovesLink link dir name)) file) (moved-losses v link dir name)

adds-losses : (v : Volume) (dir : ℕ) (name : List ℕ) (file : ℕ) → IsNumbered v.links v.last_link
    → NotesLosses v (with_time_of_change (with_tree_change v (AddsLink dir name file)) file)
adds-losses v dir name file numbered =
    losses-after v (with_tree_change v (AddsLink dir name file)) _ (same-timed (with_tree_change v (AddsLink dir name file)) file) (added-losses v dir name file numbered)

pub renaming-noted : (v : Volume) (naming : Naming) (walked : Walked) → IsTied v → NotesChanges v (with_tree_changes v (changes_renaming v naming walked))
renaming-noted v naming (Reached dir) tied = losses-noted v _ (elim (cases_Bool (is_under v naming.link dir (new_name naming))) [
  | inl keeps ↦ rw keeps (losses-none v)
  | inr changes ↦ rw changes (elim (option_cases (replaced_link v naming dir)) [
    | inl none ↦ rw none (moves-losses v naming.link dir (new_name naming) naming.file)
    | inr some ↦ rw some.1 (losses-next v (with_tree_change v (RemovesLink some.0)) _ (removed-left v some.0) (removed-losses v some.0 tied.streams_numbered.rising)
        (moves-losses (with_tree_change v (RemovesLink some.0)) naming.link dir (new_name naming) naming.file))
  ])
])
renaming-noted v naming (Barred status) tied = losses-noted v v (losses-none v)
renaming-noted v naming (Diverted file next) tied = losses-noted v v (losses-none v)

links-numbered : (v : Volume) (link : ℕ) → IsNumbered v.links v.last_link
    → IsNumbered (with_tree_change v (RemovesLink link)).links (with_tree_change v (RemovesLink link)).last_link
links-numbered v link numbered =
    rw (links-removed v link, SameRest.last_link (removed-rest v link)) (IsNumbered-filter (λ entry. not (entry.0 == link)) v.links v.last_link numbered)

pub linking-noted : (v : Volume) (naming : Naming) (walked : Walked) → IsTied v → NotesChanges v (with_tree_changes v (changes_linking v naming walked))
linking-noted v naming (Reached dir) tied = losses-noted v _ (elim (option_cases (child_of v dir (new_name naming))) [
  | inl none ↦ rw none (adds-losses v dir (new_name naming) naming.file tied.links_numbered)
  | inr some ↦ rw some.1 (elim (cases_Bool (linked_file v some.0 == naming.file)) [
    | inl own ↦ rw own (losses-none v)
    | inr other ↦ rw other (losses-next v (with_tree_change v (RemovesLink some.0)) _ (removed-left v some.0) (removed-losses v some.0 tied.streams_numbered.rising)
        (adds-losses (with_tree_change v (RemovesLink some.0)) dir (new_name naming) naming.file (links-numbered v some.0 tied.links_numbered)))
  ])
])
linking-noted v naming (Barred status) tied = losses-noted v v (losses-none v)
linking-noted v naming (Diverted file next) tied = losses-noted v v (losses-none v)
