-- The tree stays sound by the changes that a call asks for, one after the other: what each kind of change asks of the volume before
-- it, and lists of them.
use Rattle.std.proofs.Common.{◌++◌, ◌≡◌, ℕ, ◌+◌, Bool, true, false, List, [], ◌∷◌, refl, sym, subst, ◌∙◌, inl, inr, Option, Some, None}
use Rattle.std.specs.Prelude.{◌==◌, ◌&&◌, IfSome}
use Rattle.std.proofs.lemmas.Bool.{and_right, both_ways, cases_Bool, eqb-true}
use Rattle.fsa_types.specs.Masks.{FILE_ACTION_ADDED, FILE_ACTION_ADDED_STREAM, FILE_ACTION_MODIFIED, FILE_ACTION_MODIFIED_STREAM, FILE_ACTION_REMOVED, FILE_ACTION_REMOVED_STREAM, FILE_ACTION_RENAMED_NEW_NAME, FILE_ACTION_RENAMED_OLD_NAME, FILE_NOTIFY_CHANGE_ATTRIBUTES, FILE_NOTIFY_CHANGE_DIR_NAME, FILE_NOTIFY_CHANGE_FILE_NAME, FILE_NOTIFY_CHANGE_SECURITY, FILE_NOTIFY_CHANGE_STREAM_NAME}
use Rattle.fsa_types.specs.Rows.{lives, row_of, with_row_changed}
use Rattle.fsa_types.specs.StreamBytes.{put, cut}
use Rattle.fsa_types.specs.declared.request.DaclChange.{DaclChange}
use Rattle.fsa_types.specs.declared.request.DaclChange.TheVariants.{Keep, Remove, Put}
use Rattle.fsa_model.specs.Changes.{with_change_noted}
use Rattle.fsa_model.specs.Edits.{with_file, with_link, with_link_moved, with_point, with_stream, without_link, without_stream}
use Rattle.fsa_model.specs.Lookups.{child_of, has_child, has_row, is_at_or_below, is_directory, is_open_by, is_open_on, is_stream_named, linked_file, parent_of, stream_of}
use Rattle.fsa_model.specs.Security.{asks_something, mapped, with_dacl_asked, with_owner_asked}
use Rattle.fsa_model.specs.SetBasic.{basic_bits, with_basics}
use Rattle.fsa_model.specs.Sound.{IsSoundTree, LeadsUp}
use Rattle.fsa_model.specs.Volume.{Change, File, Stream, Volume}
use Rattle.fsa_model.proofs.MoveLaws.{IsSoundTree-moved}
use Rattle.fsa_model.proofs.RowLaws.{any-push, lives-last, number-none, option_cases}
use Rattle.fsa_model.proofs.SoundLaws.{IsSoundTree-file_changed, IsSoundTree-stream_changed, IsSoundTree-with_file, IsSoundTree-with_link, IsSoundTree-with_link_marked, IsSoundTree-with_stream, IsSoundTree-without_link, IsSoundTree-without_stream, next-directory, next-no_stream, next-not_root, next-unlinked}
use Rattle.history_laws.specs.TreeChanges.{TreeChange, MakesDirectory, MakesFile, MakesStream, AddsLink, MovesLink, RemovesLink, RemovesStream, MarksLink, MarksStream, Writes, Resizes, Overwrites, SetsBasics, SetsSecurity, SetsPoint, SetsChangeTime, filter_of_name, with_bytes_noted, with_move, with_security_of, with_tree_change, with_tree_changes}

-- a directory that may get an entry: it isn't marked, and links lead up from it to the root
pub record TakesEntries (v : Volume) (dir : ℕ) : Type 0 where
  pub directory : is_directory v.files dir ≡ true
  pub leads : LeadsUp v.links dir
  pub unmarked : has_row (λ link. link.file == dir && link.deleted) v.links ≡ false

-- the file of a link that is there has no entry in it
abbrev pub IsEmpty : Volume → ℕ → Type 0
IsEmpty v link = IfSome (row_of v.links link) (λ row. has_child v.links row.file ≡ false)

-- what a change asks of the volume before it
abbrev pub SoundFits : Volume → TreeChange → Type 0
SoundFits v (MakesDirectory dir name file) = TakesEntries v dir × (child_of v dir name ≡ None) × (file.directory ≡ true)
SoundFits v (MakesFile dir name file) = TakesEntries v dir × (child_of v dir name ≡ None) × (file.directory ≡ false)
SoundFits v (MakesStream link file name) = (lives v.files file ≡ true) × (is_directory v.files file ≡ false) × (stream_of v file name ≡ None)
SoundFits v (AddsLink dir name file) = TakesEntries v dir × (child_of v dir name ≡ None) × (lives v.files file ≡ true) × (is_directory v.files file ≡ false)
SoundFits v (MovesLink link dir name) =
    TakesEntries v dir × ((is_directory v.files (linked_file v link) && is_at_or_below v.links (linked_file v link) dir) ≡ false)
    × IfSome (child_of v dir name) (λ other. (other == link) ≡ true)
SoundFits v (RemovesLink link) = IsEmpty v link × (has_row (is_open_by link) v.handles ≡ false)
SoundFits v (RemovesStream link stream) = has_row (is_open_on stream) v.handles ≡ false
SoundFits v (MarksLink link true) = IsEmpty v link
SoundFits v _ = Unit {0}

-- each fits the volume that those before it leave
abbrev pub SoundFitsAll : Volume → List TreeChange → Type 0
SoundFitsAll v [] = Unit {0}
SoundFitsAll v (change ∷ more) = SoundFits v change × SoundFitsAll (with_tree_change v change) more

-- ---- what is noted

-- a volume with the same tree and the same handles
pub IsSoundTree-same : (v w : Volume) → w.table ≡ v.table → w.files ≡ v.files → w.links ≡ v.links → w.streams ≡ v.streams → w.handles ≡ v.handles → w.last_file ≡ v.last_file
    → w.last_link ≡ v.last_link → w.last_stream ≡ v.last_stream → w.last_handle ≡ v.last_handle → IsSoundTree v → IsSoundTree w
IsSoundTree-same v w table files links streams handles last_file last_link last_stream last_handle sound = record {
  tree = rw (table, files, links, streams) sound.tree;
  are_of_living = rw (links, streams, handles) sound.are_of_living;
  have_streams = rw (files, links, handles) sound.have_streams;
  files_numbered = rw (files, last_file) sound.files_numbered;
  links_numbered = rw (links, last_link) sound.links_numbered;
  streams_numbered = rw (streams, last_stream) sound.streams_numbered;
  handles_numbered = rw (handles, last_handle) sound.handles_numbered;
}

pub with_changes-sound : (v : Volume) (changes : List Change) → IsSoundTree v → IsSoundTree (record v { changes = changes })
with_changes-sound v changes sound = IsSoundTree-same v (record v { changes = changes }) refl refl refl refl refl refl refl refl refl sound

-- what is noted changes nothing else
pub noted-rest : (v : Volume) (link action bits : ℕ) (stream : Option ℕ)
    → with_change_noted v link action bits stream ≡ record v { changes = (with_change_noted v link action bits stream).changes }
noted-rest v link action bits stream = elim (option_cases (row_of v.links link)) [ inl none ↦ rw none refl | inr some ↦ rw some.1 refl ]

-- so it holds whatever is noted
pub noted-holds : (P : Volume → Type 0) (v : Volume) (link action bits : ℕ) (stream : Option ℕ) → ((changes : List Change) → P (record v { changes = changes }))
    → P (with_change_noted v link action bits stream)
noted-holds P v link action bits stream holds = subst P (sym (noted-rest v link action bits stream)) (holds _)

pub sound-noted : (v : Volume) (link action bits : ℕ) (stream : Option ℕ) → IsSoundTree v → IsSoundTree (with_change_noted v link action bits stream)
sound-noted v link action bits stream sound = noted-holds IsSoundTree v link action bits stream (λ changes. with_changes-sound v changes sound)

-- ---- files and streams that are made

-- the next file has no stream, and is no directory where its row is none
unnamed-next : (v : Volume) (name : List ℕ) → IsSoundTree v → stream_of v (v.last_file + 1) name ≡ None
unnamed-next v name sound = number-none (is_stream_named v.table (v.last_file + 1) name) v.streams (λ k d within. rw (next-no_stream v sound k d within) refl)

pub plain-next : (v : Volume) (file : File) → IsSoundTree v → file.directory ≡ false → is_directory (with_file v file).files (v.last_file + 1) ≡ false
plain-next v file sound plain = next-directory v.files v.last_file file sound.files_numbered.given ∙ plain

-- a file or a directory under a free name
pub sound-made : (v : Volume) (dir : ℕ) (name : List ℕ) (file : File) → TakesEntries v dir → child_of v dir name ≡ None → IsSoundTree v → IsSoundTree (with_link (with_file v file) dir name (v.last_file + 1))
sound-made v dir name file takes free sound =
    IsSoundTree-with_link (with_file v file) dir name (v.last_file + 1) (IsSoundTree-with_file v file sound)
    (any-push (λ e. e.0 == dir && e.1.directory) v.files ((v.last_file + 1, file) ∷ []) takes.directory) takes.leads takes.unmarked
    (lives-last v.files (v.last_file + 1) file) (next-not_root v sound)
    (and_right (is_directory (with_file v file).files (v.last_file + 1)) (has_row (λ link. link.file == v.last_file + 1) v.links) (next-unlinked v sound)) free

-- a file with its default stream
pub sound-made_file : (v : Volume) (dir : ℕ) (name : List ℕ) (file : File) → TakesEntries v dir → child_of v dir name ≡ None → file.directory ≡ false → IsSoundTree v
    → IsSoundTree (with_stream (with_link (with_file v file) dir name (v.last_file + 1)) (v.last_file + 1) [])
sound-made_file v dir name file takes free plain sound =
    IsSoundTree-with_stream (with_link (with_file v file) dir name (v.last_file + 1)) (v.last_file + 1) [] (sound-made v dir name file takes free sound)
    (lives-last v.files (v.last_file + 1) file) (plain-next v file sound plain) (unnamed-next v [] sound)

-- what is no directory isn't the root
pub not-root : (v : Volume) (file : ℕ) → IsSoundTree v → is_directory v.files file ≡ false → (file == 1) ≡ false
not-root v file sound plain = elim (cases_Bool (file == 1)) [
  | inl root ↦ (let none : is_directory v.files 1 ≡ false = rw (eqb-true file 1 root) at plain in absurd (both_ways (is_directory v.files 1) none sound.tree.root_is_directory))
  | inr other ↦ other
]

-- ---- one row changed

sound-file : (v : Volume) (change : File → File) (file : ℕ) → ((row : File) → (change row).directory ≡ row.directory) → IsSoundTree v → IsSoundTree (record v { files = with_row_changed change v.files file })
sound-file v change file keeps sound = IsSoundTree-file_changed v change file sound keeps

sound-bytes_noted : (v : Volume) (link stream : ℕ) (named : Bool) (filters stream_filters : ℕ) → IsSoundTree v → IsSoundTree (with_bytes_noted v link stream named filters stream_filters)
sound-bytes_noted v link stream true filters stream_filters sound = sound-noted v link FILE_ACTION_MODIFIED_STREAM stream_filters (Some stream) sound
sound-bytes_noted v link stream false filters stream_filters sound = sound-noted v link FILE_ACTION_MODIFIED filters None sound

sound-stream_bytes : (v : Volume) (change : List ℕ → List ℕ) (stream : ℕ) → IsSoundTree v
    → IsSoundTree (record v { streams = with_row_changed (λ (row : Stream). record row { bytes = change row.bytes }) v.streams stream })
sound-stream_bytes v change stream sound = IsSoundTree-stream_changed v (λ row. record row { bytes = change row.bytes }) stream sound (λ row. refl) (λ row. refl)

sound-owner : (v : Volume) (file : ℕ) (owner : Option ℕ) → IsSoundTree v → IsSoundTree (with_owner_asked v file owner)
sound-owner v file None sound = sound
sound-owner v file (Some sid) sound = sound-file v (λ row. record row { owner = sid }) file (λ row. refl) sound

sound-dacl : (v : Volume) (file : ℕ) (dacl : DaclChange) → IsSoundTree v → IsSoundTree (with_dacl_asked v file dacl)
sound-dacl v file Keep sound = sound
sound-dacl v file Remove sound = sound-file v (λ row. record row { dacl = None }) file (λ row. refl) sound
sound-dacl v file (Put dacl) sound = sound-file v (λ row. record row { dacl = Some (mapped dacl.items) }) file (λ row. refl) sound

sound-security : (v : Volume) (file : ℕ) (owner : Option ℕ) (dacl : DaclChange) → IsSoundTree v → IsSoundTree (with_security_of v file owner dacl)
sound-security v file owner dacl sound = sound-file _ _ file (λ row. refl) (sound-dacl (with_owner_asked v file owner) file dacl (sound-owner v file owner sound))

-- ---- each kind of change

sound-move : (v : Volume) (link dir : ℕ) (name : List ℕ) (old new : ℕ) → SoundFits v (MovesLink link dir name) → IsSoundTree v → IsSoundTree (with_move v link dir name old new)
sound-move v link dir name old new fits sound =
    sound-noted (with_link_moved (with_change_noted v link old (filter_of_name v link) None) link dir name) link new (filter_of_name v link) None
    (noted-holds (λ w. IsSoundTree (with_link_moved w link dir name)) v link old (filter_of_name v link) None (λ changes. with_changes-sound (with_link_moved v link dir name) changes moved))
  where
    moved : IsSoundTree (with_link_moved v link dir name)
    moved = IsSoundTree-moved v link dir name sound fits.0.directory fits.0.leads fits.0.unmarked fits.1 fits.2

-- what fits leaves the tree sound
pub sound-change : (v : Volume) (change : TreeChange) → SoundFits v change → IsSoundTree v → IsSoundTree (with_tree_change v change)
sound-change v (MakesDirectory dir name file) fits sound =
    sound-noted (with_link (with_file v file) dir name (v.last_file + 1)) (v.last_link + 1) FILE_ACTION_ADDED FILE_NOTIFY_CHANGE_DIR_NAME None (sound-made v dir name file fits.0 fits.1 sound)
sound-change v (MakesFile dir name file) fits sound =
    sound-noted (with_stream (with_link (with_file v file) dir name (v.last_file + 1)) (v.last_file + 1) []) (v.last_link + 1) FILE_ACTION_ADDED FILE_NOTIFY_CHANGE_FILE_NAME None
    (sound-made_file v dir name file fits.0 fits.1 fits.2 sound)
sound-change v (MakesStream link file name) fits sound =
    sound-noted (with_stream v file name) link FILE_ACTION_ADDED_STREAM FILE_NOTIFY_CHANGE_STREAM_NAME (Some (v.last_stream + 1))
    (IsSoundTree-with_stream v file name sound fits.0 fits.1 fits.2)
sound-change v (AddsLink dir name file) fits sound =
    sound-noted (with_link v dir name file) (v.last_link + 1) FILE_ACTION_ADDED FILE_NOTIFY_CHANGE_FILE_NAME None
    (IsSoundTree-with_link v dir name file sound fits.0.directory fits.0.leads fits.0.unmarked fits.2 (not-root v file sound fits.3) (rw fits.3 refl) fits.1)
sound-change v (MovesLink link dir name) fits sound = elim (cases_Bool (parent_of v link == dir)) [
  | inl there ↦ rw there (sound-move v link dir name FILE_ACTION_RENAMED_OLD_NAME FILE_ACTION_RENAMED_NEW_NAME fits sound)
  | inr elsewhere ↦ rw elsewhere (sound-move v link dir name FILE_ACTION_REMOVED FILE_ACTION_ADDED fits sound)
]
sound-change v (RemovesLink link) fits sound =
    noted-holds (λ w. IsSoundTree (without_link w link)) v link FILE_ACTION_REMOVED (filter_of_name v link) None
    (λ changes. IsSoundTree-without_link (record v { changes = changes }) link (with_changes-sound v changes sound) fits.0 fits.1)
sound-change v (RemovesStream link stream) fits sound =
    noted-holds (λ w. IsSoundTree (without_stream w stream)) v link FILE_ACTION_REMOVED_STREAM FILE_NOTIFY_CHANGE_STREAM_NAME (Some stream)
    (λ changes. IsSoundTree-without_stream (record v { changes = changes }) stream (with_changes-sound v changes sound) fits)
sound-change v (MarksLink link true) fits sound = IsSoundTree-with_link_marked v link true sound (λ is. fits)
sound-change v (MarksLink link false) fits sound = IsSoundTree-with_link_marked v link false sound (λ is. cc)
sound-change v (MarksStream stream marked) fits sound = IsSoundTree-stream_changed v (λ row. record row { deleted = marked }) stream sound (λ row. refl) (λ row. refl)
sound-change v (Writes link stream at bytes) fits sound =
    sound-file _ _ _ (λ row. refl) (sound-stream_bytes _ (λ old. put old at bytes) stream (sound-bytes_noted v link stream _ _ _ sound))
sound-change v (Resizes link stream end) fits sound =
    sound-file _ _ _ (λ row. refl) (sound-stream_bytes _ (λ old. cut old end) stream (sound-bytes_noted v link stream _ _ _ sound))
sound-change v (Overwrites link file stream named attributes) fits sound =
    sound-file _ _ file (λ row. refl) (sound-stream_bytes _ (λ old. cut old 0) stream (sound-bytes_noted v link stream named _ _ sound))
sound-change v (SetsBasics link file basics) fits sound = elim (cases_Bool (basic_bits basics == 0)) [
  | inl none ↦ rw none (sound-file v _ file (λ row. refl) sound)
  | inr some ↦ rw some (sound-noted (with_basics v file basics) link FILE_ACTION_MODIFIED (basic_bits basics) None (sound-file v _ file (λ row. refl) sound))
]
sound-change v (SetsSecurity link file owner dacl) fits sound = elim (cases_Bool (asks_something owner dacl)) [
  | inl asks ↦ rw asks (sound-noted (with_security_of v file owner dacl) link FILE_ACTION_MODIFIED FILE_NOTIFY_CHANGE_SECURITY None (sound-security v file owner dacl sound))
  | inr asks_nothing ↦ rw asks_nothing (sound-security v file owner dacl sound)
]
sound-change v (SetsPoint link file point) fits sound =
    sound-noted (with_point v file point) link FILE_ACTION_MODIFIED FILE_NOTIFY_CHANGE_ATTRIBUTES None (sound-file v (λ row. record row { point = point }) file (λ row. refl) sound)
sound-change v (SetsChangeTime file) fits sound = sound-file v _ file (λ row. refl) sound

-- ---- lists of changes

pub sound-changes : (changes : List TreeChange) (v : Volume) → SoundFitsAll v changes → IsSoundTree v → IsSoundTree (with_tree_changes v changes)
sound-changes [] v fits sound = sound
sound-changes (change ∷ more) v fits sound = sound-changes more (with_tree_change v change) fits.1 (sound-change v change fits.0 sound)

-- some changes that fit, and then others
pub SoundFitsAll-append : (one two : List TreeChange) (v : Volume) → SoundFitsAll v one → SoundFitsAll (with_tree_changes v one) two → SoundFitsAll v (one ++ two)
SoundFitsAll-append [] two v first second = second
SoundFitsAll-append (change ∷ more) two v first second = (first.0, SoundFitsAll-append more two (with_tree_change v change) first.1 second)

pub nothing-fits : (v : Volume) → SoundFitsAll v []
nothing-fits v = tt
