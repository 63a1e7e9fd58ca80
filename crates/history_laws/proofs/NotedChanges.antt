-- What an open, a write, a new length, a mark, and times, attributes, security or a reparse point that are set change, is noted: what
-- is made under its own link, bytes under the link by which they change, and where links and streams look the same nothing has to be.
use Rattle.std.proofs.Common.{◌≡◌, ℕ, ◌+◌, Bool, true, false, ◌==◌, not, List, [], ◌∷◌, ◌++◌, length, refl, ap, sym, subst, ◌∙◌, arith, eq-eqb, inl, inr, Option, Some, None, append-nil, append_assoc}
use Rattle.std.specs.Option.{option_map_or}
use Rattle.std.specs.Prelude.{bit_or, if◌then◌else◌, option_map, unwrap_or}
use Rattle.std.proofs.lemmas.Bool.{and_parts, cases_Bool, eqb-true, ne_eqb}
use Rattle.fsa_types.specs.CaseTable.{same_name}
use Rattle.fsa_types.specs.FixedBuffers.{read_reparse}
use Rattle.fsa_types.specs.Masks.{ARCHIVE, FILE_ACTION_ADDED, FILE_ACTION_ADDED_STREAM, FILE_ACTION_MODIFIED, FILE_ACTION_MODIFIED_STREAM, FILE_NOTIFY_CHANGE_ATTRIBUTES, FILE_NOTIFY_CHANGE_CREATION, FILE_NOTIFY_CHANGE_DIR_NAME, FILE_NOTIFY_CHANGE_FILE_NAME, FILE_NOTIFY_CHANGE_LAST_ACCESS, FILE_NOTIFY_CHANGE_LAST_WRITE, FILE_NOTIFY_CHANGE_SECURITY, FILE_NOTIFY_CHANGE_STREAM_NAME, FILE_NOTIFY_CHANGE_STREAM_WRITE}
use Rattle.fsa_types.specs.Paths.{components}
use Rattle.fsa_types.specs.Rows.{row_of, with_row_changed}
use Rattle.fsa_types.specs.StreamBytes.{cut, put}
use Rattle.fsa_types.specs.declared.reply.Action.TheVariants as action
use Rattle.fsa_types.specs.declared.reply.Body.{Body}
use Rattle.fsa_types.specs.declared.reply.Body.TheVariants as body
use Rattle.fsa_types.specs.declared.request.DaclChange.{DaclChange}
use Rattle.fsa_types.specs.declared.request.DaclChange.TheVariants.{Keep, Remove, Put}
use Rattle.fsa_model.specs.Changes.{with_change_noted}
use Rattle.fsa_model.specs.Close.{named_stream}
use Rattle.fsa_model.specs.Coherence.{IsTied, has_living_stream}
use Rattle.fsa_model.specs.Edits.{with_file, with_link, with_point, with_stream}
use Rattle.fsa_model.specs.Lookups.{access_time, attributes_of, bytes_of, child_of, creation_time, file_of_link, file_of_stream, handle_of, is_named, is_named_stream, is_stream_named, linked_file, stream_of, write_time}
use Rattle.fsa_model.specs.Open.{Asked, file_attributes, kept_attributes, names_stream, new_file, overwrite_filters, stream_name, stream_overwrite_filters, wants_directory, with_overwrite_noted}
use Rattle.fsa_model.specs.Security.{asks_something, with_dacl_asked, with_owner_asked}
use Rattle.fsa_model.specs.SetBasic.{Basics, attributes_set, basic_bits, bit_if, change_set, is_left, time_set, with_basics}
use Rattle.fsa_model.specs.ShownNumbers.{change_time}
use Rattle.fsa_model.specs.Volume.{Change, File, Handle, Link, Stream, Volume}
use Rattle.fsa_model.specs.Walk.{Walked, Reached, Barred, Diverted, last_name, walk}
use Rattle.fsa_model.specs.Write.{lengthens, stream_write_filters, with_write_noted, write_filters}
use Rattle.fsa_model.proofs.CoherenceComes.{number_of-row, row_of-new}
use Rattle.fsa_model.proofs.CoherenceEdits.{Lives, Lives-from}
use Rattle.fsa_model.proofs.RowLaws.{IsNumbered-push, option_cases, row_of-all}
use Rattle.history_laws.specs.TreeChanges.{MakesDirectory, MakesFile, MakesStream, Overwrites, Resizes, SetsBasics, SetsPoint, SetsSecurity, TreeChange, Writes, by_handle, changes_marking, changes_opening, changes_resizing, changes_with_point, changes_writing, made_in, made_under, of_file, overwritten_in, overwritten_of, where_reached, with_security_of, with_time_of_change, with_tree_change, with_tree_changes, with_write_times}
use Rattle.history_laws.specs.TreeNotes.{Added, After, AttributesNoted, AttributesWritten, Before, BytesNoted, FileNoted, IsNoted, LastWriteNoted, NotedByLink, NotesChanges, OfFile, OfStream, OtherAttributes, OtherBytes, OtherLastWrite, OtherPoint, OtherSecurity, OtherTime, SameAttributes, SameBytes, SameLastWrite, SamePoint, SameSecurity, SameTime, TimeNoted, WriteNoted, has_filter, is_of_name}
use Rattle.history_laws.proofs.NotedRows.{FilesStay, Own, access-is, attributes-are, creation-is, entry-is, file-stays, files-changed_at, files-more, files-same, files-stay, files-timed, links-stay, note_of, note_of-noted, note_of-plain, note_of-stream, noted-after, noted-before, noted-is, notes-made, notes-same, notes-then, own, own-same, row_of-changed_none, row_of-changed_some, row_of-one, row_of-unchanged, seen-both, seen-changed, seen-changed_at, seen-link_marked, seen-stream_marked, write-is}

-- ---- no change, and marks

-- where nothing is changed
pub nothing-noted : (v : Volume) → NotesChanges v v
nothing-noted v = notes-same v v [] refl refl (files-stay v v [] (files-same v v refl)) (sym (append-nil v.changes))

-- a mark is no change that is seen
pub marking-noted : (v : Volume) (id : ℕ) (handle : Handle) (delete : Bool) → NotesChanges v (with_tree_changes v (changes_marking v handle delete))
marking-noted v id handle delete = elim (option_cases (named_stream v handle)) [
  | inl none ↦ rw none (notes-then v v _ (nothing-noted v) (seen-link_marked v handle.link delete))
  | inr stream ↦ rw stream.1 (notes-then v v _ (nothing-noted v) (seen-stream_marked v stream.0 delete))
]

-- ---- links and streams are the same

-- a file but the root has a row by each of its links
linked-row : (v : Volume) (link file : ℕ) → file_of_link v.links link ≡ Some file → (file == 1) ≡ false → (row : Link) × (row_of v.links link ≡ Some row) × (row.file ≡ file)
linked-row v link file is isnt_root = elim (cases_Bool (link == 0)) [
  | inl root ↦ (let both : Some 1 ≡ Some file = rw root at is in let one : 1 ≡ file = cc in
      let impossible : true ≡ false = subst (λ n. (n == 1) ≡ false) (sym one) isnt_root in cc)
  | inr linked ↦ (let found : option_map (λ (row : Link). row.file) (row_of v.links link) ≡ Some file = rw linked at is in elim (option_cases (row_of v.links link)) [
    | inl none ↦ (let impossible : None ≡ Some file = rw none at found in cc)
    | inr some ↦ (let both : Some some.0.file ≡ Some file = rw some.1 at found in (some.0, some.1, cc))
  ])
]

-- where one file changes, that is noted by its link, under each of these filters, and with that has to be what changes; of the root
-- nothing has to be
notes-file : (v w : Volume) (link file bits : ℕ) → file_of_link v.links link ≡ Some file
    → w.links ≡ v.links → w.streams ≡ v.streams → w.changes ≡ v.changes → ((other : ℕ) → (other == file) ≡ false → row_of w.files other ≡ row_of v.files other)
    → ((next : Volume) (notes : List Change) (row row_now : File) → row_of v.files file ≡ Some row → row_of w.files file ≡ Some row_now
    → ((under : ℕ → Bool) → under bits ≡ true → NotedByLink v next notes FILE_ACTION_MODIFIED under file []) → FileNoted v next notes file row row_now)
    → NotesChanges v (with_change_noted w link FILE_ACTION_MODIFIED bits None)
notes-file v w link file bits is links streams changes others noted = elim (option_cases (row_of w.links link)) [
  | inl none ↦ rw none (notes-same v w [] links streams
      (λ other row row_now isnt_root before now. elim (cases_Bool (other == file)) [
        | inl here ↦ (let linked = linked-row v link file is (subst (λ n. (n == 1) ≡ false) (eqb-true other file here) isnt_root) in
            let impossible : None ≡ Some linked.0 = sym none ∙ ap (λ rows. row_of rows link) links ∙ linked.1 in cc)
        | inr apart ↦ file-stays v w [] other row row_now (apart_same other row row_now apart before now)
      ])
      (changes ∙ sym (append-nil v.changes)))
  | inr at ↦ rw at.1 (notes-same v (next at.0) (notes at.0) links streams
      (λ other row row_now isnt_root before now. elim (cases_Bool (other == file)) [
        | inl here ↦ (let same : other ≡ file = eqb-true other file here in
            let linked = linked-row v link file is (subst (λ n. (n == 1) ≡ false) same isnt_root) in
            subst (λ n. FileNoted v (next at.0) (notes at.0) n row row_now) (sym same)
            (noted (next at.0) (notes at.0) row row_now (subst (λ n. row_of v.files n ≡ Some row) same before) (subst (λ n. row_of w.files n ≡ Some row_now) same now)
            (by at.0 at.1 linked.0 linked.1 linked.2)))
        | inr apart ↦ file-stays v (next at.0) (notes at.0) other row row_now (apart_same other row row_now apart before now)
      ])
      (ap (λ all. all ++ notes at.0) changes))
]
  where
    notes : Link → List Change
    notes row = note_of w row FILE_ACTION_MODIFIED bits None ∷ []

    next : Link → Volume
    next row = record w { changes = w.changes ++ notes row }

    apart_same : (other : ℕ) (row row_now : File) → (other == file) ≡ false → row_of v.files other ≡ Some row → row_of w.files other ≡ Some row_now → own row_now ≡ own row
    apart_same other row row_now apart before now =
        let both : Some row_now ≡ Some row = sym now ∙ others other apart ∙ before in
        let one : row_now ≡ row = cc in
        ap own one

    by : (at : Link) → row_of w.links link ≡ Some at → (row : Link) → row_of v.links link ≡ Some row → row.file ≡ file
        → (under : ℕ → Bool) → under bits ≡ true → NotedByLink v (next at) (notes at) FILE_ACTION_MODIFIED under file []
    by at found row before its under passes = record {
      link = link;
      parent = at.parent;
      name = at.name;
      is_there = Before (entry-is v link file at (ap (λ rows. row_of rows link) (sym links) ∙ found) (same_file at found row before ∙ its));
      noted = note_of-noted w at FILE_ACTION_MODIFIED bits None under passes;
    }
      where
        same_file : (at : Link) → row_of w.links link ≡ Some at → (row : Link) → row_of v.links link ≡ Some row → at.file ≡ row.file
        same_file at found row before =
            let both : Some at ≡ Some row = sym found ∙ ap (λ rows. row_of rows link) links ∙ before in
            let one : at ≡ row = cc in
            ap (λ (r : Link). r.file) one

-- the bits of times and attributes that are set are there just where these are
abbrev bits_where : Bool → Bool → Bool → Bool → ℕ
bits_where attributes write access creation =
    bit_if attributes FILE_NOTIFY_CHANGE_ATTRIBUTES + bit_if write FILE_NOTIFY_CHANGE_LAST_WRITE + bit_if access FILE_NOTIFY_CHANGE_LAST_ACCESS
    + bit_if creation FILE_NOTIFY_CHANGE_CREATION

record HasBits (attributes write access creation : Bool) : Type 0 where
  of_attributes : has_filter FILE_NOTIFY_CHANGE_ATTRIBUTES (bits_where attributes write access creation) ≡ attributes
  of_write : has_filter FILE_NOTIFY_CHANGE_LAST_WRITE (bits_where attributes write access creation) ≡ write
  of_access : has_filter FILE_NOTIFY_CHANGE_LAST_ACCESS (bits_where attributes write access creation) ≡ access
  of_creation : has_filter FILE_NOTIFY_CHANGE_CREATION (bits_where attributes write access creation) ≡ creation

has-bits : (attributes write access creation : Bool) → HasBits attributes write access creation
has-bits true true true true = record { of_attributes = refl; of_write = refl; of_access = refl; of_creation = refl }
has-bits true true true false = record { of_attributes = refl; of_write = refl; of_access = refl; of_creation = refl }
has-bits true true false true = record { of_attributes = refl; of_write = refl; of_access = refl; of_creation = refl }
has-bits true true false false = record { of_attributes = refl; of_write = refl; of_access = refl; of_creation = refl }
has-bits true false true true = record { of_attributes = refl; of_write = refl; of_access = refl; of_creation = refl }
has-bits true false true false = record { of_attributes = refl; of_write = refl; of_access = refl; of_creation = refl }
has-bits true false false true = record { of_attributes = refl; of_write = refl; of_access = refl; of_creation = refl }
has-bits true false false false = record { of_attributes = refl; of_write = refl; of_access = refl; of_creation = refl }
has-bits false true true true = record { of_attributes = refl; of_write = refl; of_access = refl; of_creation = refl }
has-bits false true true false = record { of_attributes = refl; of_write = refl; of_access = refl; of_creation = refl }
has-bits false true false true = record { of_attributes = refl; of_write = refl; of_access = refl; of_creation = refl }
has-bits false true false false = record { of_attributes = refl; of_write = refl; of_access = refl; of_creation = refl }
has-bits false false true true = record { of_attributes = refl; of_write = refl; of_access = refl; of_creation = refl }
has-bits false false true false = record { of_attributes = refl; of_write = refl; of_access = refl; of_creation = refl }
has-bits false false false true = record { of_attributes = refl; of_write = refl; of_access = refl; of_creation = refl }
has-bits false false false false = record { of_attributes = refl; of_write = refl; of_access = refl; of_creation = refl }

bits-of : (basics : Basics)
    → HasBits (not (basics.attributes == 0)) (not (is_left basics.write)) (not (is_left basics.access)) (not (is_left basics.creation))
bits-of basics = has-bits (not (basics.attributes == 0)) (not (is_left basics.write)) (not (is_left basics.access)) (not (is_left basics.creation))

-- without any bit a field is left
left-without : (bit bits : ℕ) (left : Bool) → bits ≡ 0 → has_filter bit bits ≡ not left → has_filter bit 0 ≡ false → left ≡ true
left-without bit bits true none is zero = refl
left-without bit bits false none is zero = (let impossible : true ≡ false = sym is ∙ ap (has_filter bit) none ∙ zero in cc)

-- a time, or the attributes, that are left
time-left : (asked old : ℕ) → is_left asked ≡ true → time_set asked old ≡ old
time-left asked old left = ap (λ (is : Bool). if is then old else asked) left

attributes-left : (asked old : ℕ) → (asked == 0) ≡ true → attributes_set asked old ≡ old
attributes-left asked old left = ap (λ (is : Bool). if is then old else kept_attributes asked) left

-- one that is set is noted under its bit
time-noted : (v next : Volume) (notes : List Change) (file bit asked old now : ℕ) → now ≡ time_set asked old
    → (is_left asked ≡ false → NotedByLink v next notes FILE_ACTION_MODIFIED (has_filter bit) file []) → TimeNoted v next notes file bit old now
time-noted v next notes file bit asked old now is by = elim (cases_Bool (is_left asked)) [
  | inl left ↦ SameTime (is ∙ time-left asked old left)
  | inr set ↦ OtherTime (by set)
]

last_write-noted : (v next : Volume) (notes : List Change) (file asked old now : ℕ) → now ≡ time_set asked old
    → (is_left asked ≡ false → NotedByLink v next notes FILE_ACTION_MODIFIED (has_filter FILE_NOTIFY_CHANGE_LAST_WRITE) file []) → LastWriteNoted v next notes file old now
last_write-noted v next notes file asked old now is by = elim (cases_Bool (is_left asked)) [
  | inl left ↦ SameLastWrite (is ∙ time-left asked old left)
  | inr set ↦ OtherLastWrite (OfFile (by set))
]

attributes-noted : (v next : Volume) (notes : List Change) (file asked old now : ℕ) → now ≡ attributes_set asked old
    → ((asked == 0) ≡ false → NotedByLink v next notes FILE_ACTION_MODIFIED (has_filter FILE_NOTIFY_CHANGE_ATTRIBUTES) file []) → AttributesNoted v next notes file old now
attributes-noted v next notes file asked old now is by = elim (cases_Bool (asked == 0)) [
  | inl left ↦ SameAttributes (is ∙ attributes-left asked old left)
  | inr set ↦ OtherAttributes (by set)
]

-- times and attributes, security, and a reparse point are set
pub setting-basics : (v : Volume) (link file : ℕ) (basics : Basics) → file_of_link v.links link ≡ Some file
    → NotesChanges v (with_tree_changes v (SetsBasics link file basics ∷ []))
setting-basics v link file basics is = elim (cases_Bool (basic_bits basics == 0)) [
  | inl none ↦ rw none (notes-same v w [] refl refl (files-stay v w [] (files-changed_at v w change file refl
      (λ row found. left (eqb-true (basic_bits basics) 0 none) row found))) (sym (append-nil v.changes)))
  | inr some ↦ rw some (notes-file v w link file (basic_bits basics) is refl refl refl (λ other apart. row_of-unchanged change v.files file other apart) noted)
]
  where
    creation : ℕ
    creation = time_set basics.creation (creation_time v file)

    access : ℕ
    access = time_set basics.access (access_time v file)

    write : ℕ
    write = time_set basics.write (write_time v file)

    attributes : ℕ
    attributes = attributes_set basics.attributes (attributes_of v file)

    change : File → File
    change row = record row {
      creation = creation;
      access = access;
      write = write;
      change = change_set v basics.change (change_time v file);
      attributes = attributes;
    }

    w : Volume
    w = with_basics v file basics

    left : basic_bits basics ≡ 0 → (row : File) → row_of v.files file ≡ Some row → own (change row) ≡ own row
    left none row found =
        let bits = bits-of basics in
        own-same row creation access write (change_set v basics.change (change_time v file)) attributes
        (time-left basics.creation (creation_time v file)
        (left-without FILE_NOTIFY_CHANGE_CREATION (basic_bits basics) (is_left basics.creation) none bits.of_creation refl) ∙ creation-is v file row found)
        (time-left basics.access (access_time v file)
        (left-without FILE_NOTIFY_CHANGE_LAST_ACCESS (basic_bits basics) (is_left basics.access) none bits.of_access refl) ∙ access-is v file row found)
        (time-left basics.write (write_time v file)
        (left-without FILE_NOTIFY_CHANGE_LAST_WRITE (basic_bits basics) (is_left basics.write) none bits.of_write refl) ∙ write-is v file row found)
        (attributes-left basics.attributes (attributes_of v file)
        (left-without FILE_NOTIFY_CHANGE_ATTRIBUTES (basic_bits basics) (basics.attributes == 0) none bits.of_attributes refl) ∙ attributes-are v file row found)

    noted : (next : Volume) (notes : List Change) (row row_now : File) → row_of v.files file ≡ Some row → row_of w.files file ≡ Some row_now
        → ((under : ℕ → Bool) → under (basic_bits basics) ≡ true → NotedByLink v next notes FILE_ACTION_MODIFIED under file []) → FileNoted v next notes file row row_now
    noted next notes row row_now before now by =
        let bits = bits-of basics in
        let both : Some row_now ≡ Some (if file == file then change row else row) = sym now ∙ row_of-changed_some change v.files file file row before in
        let one : row_now ≡ if file == file then change row else row = cc in
        let its : row_now ≡ change row = one ∙ ap (λ (here : Bool). if here then change row else row) (eq-eqb file file refl) in
        record {
          security = SameSecurity (ap (λ (r : File). r.owner) its) (ap (λ (r : File). r.dacl) its);
          point = SamePoint (ap (λ (r : File). r.point) its);
          creation = time-noted v next notes file FILE_NOTIFY_CHANGE_CREATION basics.creation row.creation row_now.creation
              (ap (λ (r : File). r.creation) its ∙ ap (time_set basics.creation) (creation-is v file row before))
              (λ set. by (has_filter FILE_NOTIFY_CHANGE_CREATION) (bits.of_creation ∙ ap not set));
          access = time-noted v next notes file FILE_NOTIFY_CHANGE_LAST_ACCESS basics.access row.access row_now.access
              (ap (λ (r : File). r.access) its ∙ ap (time_set basics.access) (access-is v file row before))
              (λ set. by (has_filter FILE_NOTIFY_CHANGE_LAST_ACCESS) (bits.of_access ∙ ap not set));
          write = last_write-noted v next notes file basics.write row.write row_now.write
              (ap (λ (r : File). r.write) its ∙ ap (time_set basics.write) (write-is v file row before))
              (λ set. by (has_filter FILE_NOTIFY_CHANGE_LAST_WRITE) (bits.of_write ∙ ap not set));
          attributes = attributes-noted v next notes file basics.attributes row.attributes row_now.attributes
              (ap (λ (r : File). r.attributes) its ∙ ap (attributes_set basics.attributes) (attributes-are v file row before))
              (λ set. by (has_filter FILE_NOTIFY_CHANGE_ATTRIBUTES) (bits.of_attributes ∙ ap not set));
        }

pub setting-point : (v : Volume) (link file : ℕ) (point : Option (ℕ × List ℕ)) → file_of_link v.links link ≡ Some file
    → NotesChanges v (with_tree_changes v (SetsPoint link file point ∷ []))
setting-point v link file point is =
    notes-file v (with_point v file point) link file FILE_NOTIFY_CHANGE_ATTRIBUTES is refl refl refl
    (λ other apart. row_of-unchanged change v.files file other apart)
    (λ next notes row row_now before now by.
    let same : without_point row_now ≡ without_point row
    = seen-both without_point (row_of v.files file) (row_of (with_point v file point).files file) row row_now
    (seen-changed change without_point v.files file file (λ its. refl)) before now in
    record {
      security = SameSecurity (ap (λ (of : Own). of.owner) same) (ap (λ (of : Own). of.dacl) same);
      point = OtherPoint (by (has_filter FILE_NOTIFY_CHANGE_ATTRIBUTES) refl);
      creation = SameTime (ap (λ (of : Own). of.creation) same);
      access = SameTime (ap (λ (of : Own). of.access) same);
      write = SameLastWrite (ap (λ (of : Own). of.write) same);
      attributes = SameAttributes (ap (λ (of : Own). of.attributes) same);
    })
  where
    change : File → File
    change row = record row { point = point }

    without_point : File → Own
    without_point row = record (own row) { point = None }

pub setting-security : (v : Volume) (link file : ℕ) (owner : Option ℕ) (dacl : DaclChange) → file_of_link v.links link ≡ Some file
    → NotesChanges v (with_tree_changes v (SetsSecurity link file owner dacl ∷ []))
setting-security v link file owner dacl is =
    let w : Volume = with_security_of v file owner dacl in
    let links : w.links ≡ v.links = links-listed (with_owner_asked v file owner) file dacl ∙ links-owned v file owner in
    let streams : w.streams ≡ v.streams = streams-listed (with_owner_asked v file owner) file dacl ∙ streams-owned v file owner in
    let changes : w.changes ≡ v.changes = changes-listed (with_owner_asked v file owner) file dacl ∙ changes-owned v file owner in
    elim (cases_Bool (asks_something owner dacl)) [
      | inl asks ↦ rw asks (notes-file v w link file FILE_NOTIFY_CHANGE_SECURITY is links streams changes
          (λ other apart. row_of-unchanged _ (with_dacl_asked (with_owner_asked v file owner) file dacl).files file other apart
          ∙ files-listed (with_owner_asked v file owner) file dacl other apart ∙ files-owned v file owner other apart)
          (λ next notes row row_now before now by.
          let same : without_security row_now ≡ without_security row
          = seen-both without_security (row_of v.files file) (row_of w.files file) row row_now
          (timed (with_dacl_asked (with_owner_asked v file owner) file dacl) file
          ∙ rest-listed (with_owner_asked v file owner) file dacl ∙ rest-owned v file owner) before now in
          record {
            security = OtherSecurity (by (has_filter FILE_NOTIFY_CHANGE_SECURITY) refl);
            point = SamePoint (ap (λ (of : Own). of.point) same);
            creation = SameTime (ap (λ (of : Own). of.creation) same);
            access = SameTime (ap (λ (of : Own). of.access) same);
            write = SameLastWrite (ap (λ (of : Own). of.write) same);
            attributes = SameAttributes (ap (λ (of : Own). of.attributes) same);
          }))
      | inr asks_nothing ↦ rw asks_nothing (notes-same v w [] links streams (files-stay v w [] (nothing-asked v file owner dacl asks_nothing))
          (changes ∙ sym (append-nil v.changes)))
    ]
  where
    links-owned : (v : Volume) (file : ℕ) (owner : Option ℕ) → (with_owner_asked v file owner).links ≡ v.links
    links-owned v file None = refl
    links-owned v file (Some sid) = refl

    streams-owned : (v : Volume) (file : ℕ) (owner : Option ℕ) → (with_owner_asked v file owner).streams ≡ v.streams
    streams-owned v file None = refl
    streams-owned v file (Some sid) = refl

    changes-owned : (v : Volume) (file : ℕ) (owner : Option ℕ) → (with_owner_asked v file owner).changes ≡ v.changes
    changes-owned v file None = refl
    changes-owned v file (Some sid) = refl

    links-listed : (v : Volume) (file : ℕ) (dacl : DaclChange) → (with_dacl_asked v file dacl).links ≡ v.links
    links-listed v file Keep = refl
    links-listed v file Remove = refl
    links-listed v file (Put dacl) = refl

    streams-listed : (v : Volume) (file : ℕ) (dacl : DaclChange) → (with_dacl_asked v file dacl).streams ≡ v.streams
    streams-listed v file Keep = refl
    streams-listed v file Remove = refl
    streams-listed v file (Put dacl) = refl

    changes-listed : (v : Volume) (file : ℕ) (dacl : DaclChange) → (with_dacl_asked v file dacl).changes ≡ v.changes
    changes-listed v file Keep = refl
    changes-listed v file Remove = refl
    changes-listed v file (Put dacl) = refl

    files-owned : (v : Volume) (file : ℕ) (owner : Option ℕ) (other : ℕ) → (other == file) ≡ false → row_of (with_owner_asked v file owner).files other ≡ row_of v.files other
    files-owned v file None other apart = refl
    files-owned v file (Some sid) other apart = row_of-unchanged _ v.files file other apart

    files-listed : (v : Volume) (file : ℕ) (dacl : DaclChange) (other : ℕ) → (other == file) ≡ false → row_of (with_dacl_asked v file dacl).files other ≡ row_of v.files other
    files-listed v file Keep other apart = refl
    files-listed v file Remove other apart = row_of-unchanged _ v.files file other apart
    files-listed v file (Put dacl) other apart = row_of-unchanged _ v.files file other apart

    without_security : File → Own
    without_security row = record (own row) { owner = 0; dacl = None }

    rest-owned : (v : Volume) (file : ℕ) (owner : Option ℕ)
        → option_map without_security (row_of (with_owner_asked v file owner).files file) ≡ option_map without_security (row_of v.files file)
    rest-owned v file None = refl
    rest-owned v file (Some sid) = seen-changed _ without_security v.files file file (λ row. refl)

    rest-listed : (v : Volume) (file : ℕ) (dacl : DaclChange)
        → option_map without_security (row_of (with_dacl_asked v file dacl).files file) ≡ option_map without_security (row_of v.files file)
    rest-listed v file Keep = refl
    rest-listed v file Remove = seen-changed _ without_security v.files file file (λ row. refl)
    rest-listed v file (Put dacl) = seen-changed _ without_security v.files file file (λ row. refl)

    timed : (v : Volume) (file : ℕ)
        → option_map without_security (row_of (with_time_of_change v file).files file) ≡ option_map without_security (row_of v.files file)
    timed v file = seen-changed_at _ without_security v.files file file (λ row found.
        ap (λ (of : Own). record of { owner = 0; dacl = None })
        (own-same row (creation_time v file) (access_time v file) (write_time v file) v.clock (attributes_of v file)
        (creation-is v file row found) (access-is v file row found) (write-is v file row found) (attributes-are v file row found)))

    nothing-asked : (v : Volume) (file : ℕ) (owner : Option ℕ) (dacl : DaclChange) → asks_something owner dacl ≡ false → FilesStay v (with_security_of v file owner dacl)
    nothing-asked v file None Keep none = files-timed v (with_time_of_change v file) file v.clock refl
    nothing-asked v file None Remove none = (let impossible : true ≡ false = none in cc)
    nothing-asked v file None (Put dacl) none = (let impossible : true ≡ false = none in cc)
    nothing-asked v file (Some sid) dacl none = (let impossible : true ≡ false = none in cc)

-- ---- bytes

-- the second volume has notes more, and is else the first; and they note that bytes of this stream change
record NotesBytes (v w : Volume) (row : Stream) : Type 0 where
  notes : List Change
  is : w ≡ record v { changes = v.changes ++ notes }
  bytes : (next : Volume) → BytesNoted v next notes row.file row.name

-- of a named stream by its name behind the link's, and of the default stream by the link's alone
named-by : (v next : Volume) (link stream bits : ℕ) (lives : Lives v.links v.streams link stream) (name : List ℕ) → lives.a_stream.name ≡ name → (length name == 0) ≡ false
    → has_filter FILE_NOTIFY_CHANGE_STREAM_WRITE bits ≡ true → BytesNoted v next (note_of v lives.a_link FILE_ACTION_MODIFIED_STREAM bits (Some stream) ∷ []) lives.a_stream.file name
named-by v next link stream bits lives [] is some passes = (let impossible : true ≡ false = some in cc)
named-by v next link stream bits lives (unit ∷ more) is some passes = record {
  link = link;
  parent = lives.a_link.parent;
  name = lives.a_link.name;
  is_there = Before (entry-is v link lives.a_stream.file lives.a_link lives.of_link lives.one_file);
  noted = subst (λ name. IsNoted (note_of v lives.a_link FILE_ACTION_MODIFIED_STREAM bits (Some stream) ∷ []) FILE_ACTION_MODIFIED_STREAM (has_filter FILE_NOTIFY_CHANGE_STREAM_WRITE)
      lives.a_link.parent (lives.a_link.name ++ 58 ∷ name)) is
      (note_of-stream v lives.a_link FILE_ACTION_MODIFIED_STREAM bits stream lives.a_stream (has_filter FILE_NOTIFY_CHANGE_STREAM_WRITE) lives.of_stream passes);
}

plain-by : (v next : Volume) (link stream bits : ℕ) (lives : Lives v.links v.streams link stream) (name : List ℕ) → (length name == 0) ≡ true
    → has_filter FILE_NOTIFY_CHANGE_LAST_WRITE bits ≡ true → BytesNoted v next (note_of v lives.a_link FILE_ACTION_MODIFIED bits None ∷ []) lives.a_stream.file name
plain-by v next link stream bits lives (unit ∷ more) none passes = (let is : length (unit ∷ more) ≡ 0 = eqb-true (length (unit ∷ more)) 0 none in absurd (omega arith))
plain-by v next link stream bits lives [] none passes = record {
  link = link;
  parent = lives.a_link.parent;
  name = lives.a_link.name;
  is_there = Before (entry-is v link lives.a_stream.file lives.a_link lives.of_link lives.one_file);
  noted = note_of-noted v lives.a_link FILE_ACTION_MODIFIED bits None (has_filter FILE_NOTIFY_CHANGE_LAST_WRITE) passes;
}

-- a write and an overwrite are noted so, under a filter of bytes
noted-named : (v : Volume) (link stream bits : ℕ) (lives : Lives v.links v.streams link stream) → (length lives.a_stream.name == 0) ≡ false
    → has_filter FILE_NOTIFY_CHANGE_STREAM_WRITE bits ≡ true → NotesBytes v (with_change_noted v link FILE_ACTION_MODIFIED_STREAM bits (Some stream)) lives.a_stream
noted-named v link stream bits lives some passes = record {
  notes = note_of v lives.a_link FILE_ACTION_MODIFIED_STREAM bits (Some stream) ∷ [];
  is = noted-is v link FILE_ACTION_MODIFIED_STREAM bits (Some stream) lives.a_link lives.of_link;
  bytes = λ next. named-by v next link stream bits lives lives.a_stream.name refl some passes;
}

noted-plain : (v : Volume) (link stream bits : ℕ) (lives : Lives v.links v.streams link stream) → (length lives.a_stream.name == 0) ≡ true
    → has_filter FILE_NOTIFY_CHANGE_LAST_WRITE bits ≡ true → NotesBytes v (with_change_noted v link FILE_ACTION_MODIFIED bits None) lives.a_stream
noted-plain v link stream bits lives none passes = record {
  notes = note_of v lives.a_link FILE_ACTION_MODIFIED bits None ∷ [];
  is = noted-is v link FILE_ACTION_MODIFIED bits None lives.a_link lives.of_link;
  bytes = λ next. plain-by v next link stream bits lives lives.a_stream.name none passes;
}

-- a write has that filter, whether the stream is longer then or not
written-stream : (longer : Bool) → has_filter FILE_NOTIFY_CHANGE_STREAM_WRITE (stream_write_filters longer) ≡ true
written-stream true = refl
written-stream false = refl

written-file : (longer : Bool) → has_filter FILE_NOTIFY_CHANGE_LAST_WRITE (write_filters longer) ≡ true
written-file true = refl
written-file false = refl

noted-write : (v : Volume) (link stream : ℕ) (longer : Bool) (lives : Lives v.links v.streams link stream) → NotesBytes v (with_write_noted v link stream longer) lives.a_stream
noted-write v link stream longer lives =
    let is : is_named_stream v stream ≡ not (length lives.a_stream.name == 0) = ap (λ (o : Option Stream). option_map_or (λ row. not (length row.name == 0)) o false) lives.of_stream in
    elim (cases_Bool (length lives.a_stream.name == 0)) [
      | inl none ↦ rw (is ∙ ap not none) (noted-plain v link stream (write_filters longer) lives none (written-file longer))
      | inr some ↦ rw (is ∙ ap not some) (noted-named v link stream (stream_write_filters longer) lives some (written-stream longer))
    ]

noted-overwrite : (v : Volume) (link stream : ℕ) (named : Bool) (lives : Lives v.links v.streams link stream) → named ≡ not (length lives.a_stream.name == 0)
    → NotesBytes v (with_overwrite_noted v link stream named) lives.a_stream
noted-overwrite v link stream named lives is = elim (cases_Bool (length lives.a_stream.name == 0)) [
  | inl none ↦ rw (is ∙ ap not none) (noted-plain v link stream overwrite_filters lives none refl)
  | inr some ↦ rw (is ∙ ap not some) (noted-named v link stream stream_overwrite_filters lives some refl)
]

-- its file is then noted as written
written-as : (v next : Volume) (notes : List Change) (file : ℕ) (name : List ℕ) → BytesNoted v next notes file name → WriteNoted v next notes file
written-as v next notes file [] noted = OfFile noted
written-as v next notes file (unit ∷ more) noted = OfStream (unit ∷ more) noted

-- so where only this stream changes, and its file the times of its last write and change and its attributes, the change is noted
notes-bytes : (v w next : Volume) (stream : ℕ) (change : Stream → Stream) (row : Stream) (file attributes : ℕ) → row_of v.streams stream ≡ Some row → NotesBytes v w row
    → file ≡ row.file → next.links ≡ w.links → next.streams ≡ with_row_changed change w.streams stream → next.files ≡ (with_write_times w file attributes).files
    → next.changes ≡ w.changes → NotesChanges v next
notes-bytes v w next stream change row file attributes found noted its_file are_links are_streams are_files are_changes =
    let streams : next.streams ≡ with_row_changed change v.streams stream = are_streams ∙ ap (λ (u : Volume). with_row_changed change u.streams stream) noted.is in
    record {
      notes = noted.notes;
      adds = are_changes ∙ ap (λ (u : Volume). u.changes) noted.is;
      links = links-stay v next noted.notes (are_links ∙ ap (λ (u : Volume). u.links) noted.is);
      streams = λ other its its_now before now.
          let it_is : Some its_now ≡ Some (if other == stream then change its else its)
          = sym now ∙ ap (λ rows. row_of rows other) streams ∙ row_of-changed_some change v.streams stream other its before in
          let one : its_now ≡ if other == stream then change its else its = cc in
          elim (cases_Bool (other == stream)) [
            | inl here ↦ (let same : Some row ≡ Some its = sym found ∙ ap (λ n. row_of v.streams n) (sym (eqb-true other stream here)) ∙ before in
                let its_is : row ≡ its = cc in
                OtherBytes (subst (λ (r : Stream). BytesNoted v next noted.notes r.file r.name) its_is (noted.bytes next)))
            | inr elsewhere ↦ SameBytes (ap (λ (r : Stream). r.bytes) (rw elsewhere at one))
          ];
      streams_made = λ other unit name its before now named.
          let impossible : None ≡ Some its = sym (row_of-changed_none change v.streams stream other before) ∙ ap (λ rows. row_of rows other) (sym streams) ∙ now in cc;
      streams_gone = λ other its before now.
          let impossible : None ≡ Some (if other == stream then change its else its)
          = sym now ∙ ap (λ rows. row_of rows other) streams ∙ row_of-changed_some change v.streams stream other its before in cc;
      files = λ other its its_now isnt_root before now. elim (cases_Bool (other == file)) [
        | inl here ↦ (let is : other ≡ file = eqb-true other file here in
            let by : WriteNoted v next noted.notes other
            = subst (λ n. WriteNoted v next noted.notes n) (sym (is ∙ its_file)) (written-as v next noted.notes row.file row.name (noted.bytes next)) in
            let same : rest its_now ≡ rest its = seen-both rest (row_of v.files other) (row_of next.files other) its its_now (rest-same other) before now in
            record {
              security = SameSecurity (ap (λ (of : Own). of.owner) same) (ap (λ (of : Own). of.dacl) same);
              point = SamePoint (ap (λ (of : Own). of.point) same);
              creation = SameTime (ap (λ (of : Own). of.creation) same);
              access = SameTime (ap (λ (of : Own). of.access) same);
              write = OtherLastWrite by;
              attributes = AttributesWritten by;
            })
        | inr apart ↦ (let as_before : row_of next.files other ≡ row_of v.files other
            = ap (λ rows. row_of rows other) are_files ∙ row_of-unchanged written w.files file other apart ∙ ap (λ (u : Volume). row_of u.files other) noted.is in
            file-stays v next noted.notes other its its_now
            (seen-both own (row_of v.files other) (row_of next.files other) its its_now (ap (λ o. option_map own o) as_before) before now))
      ];
    }
  where
    written : File → File
    written its = record its {
      creation = creation_time w file;
      access = access_time w file;
      write = w.clock;
      change = w.clock;
      attributes = attributes;
    }

    rest : File → Own
    rest its = record (own its) { write = 0; attributes = 0 }

    rest-same : (other : ℕ) → option_map rest (row_of next.files other) ≡ option_map rest (row_of v.files other)
    rest-same other =
        ap (λ rows. option_map rest (row_of rows other)) are_files
        ∙ seen-changed_at written rest w.files file other (λ its found. rw (creation-is w file its found, access-is w file its found) refl)
        ∙ ap (λ (u : Volume). option_map rest (row_of u.files other)) noted.is

-- the stream of a handle lives, with its link
lives-under : (v : Volume) (id : ℕ) (handle : Handle) (stream : ℕ) → IsTied v → row_of v.handles id ≡ Some handle → handle.stream ≡ Some stream → Lives v.links v.streams handle.link stream
lives-under v id handle stream tied found has =
    Lives-from v.links v.streams handle stream has (row_of-all (λ (r : Handle). has_living_stream v.links v.streams r ≡ true) v.handles id handle found tied.streams_live)

file-of_stream : (v : Volume) (stream : ℕ) (row : Stream) → row_of v.streams stream ≡ Some row → file_of_stream v stream ≡ row.file
file-of_stream v stream row found = ap (λ (o : Option Stream). option_map_or (λ row. row.file) o 0) found

-- bytes are written, and a length is set
pub writing-noted : (v : Volume) (id : ℕ) (handle : Handle) (at : Option ℕ) (bytes : List ℕ) → IsTied v → row_of v.handles id ≡ Some handle
    → NotesChanges v (with_tree_changes v (changes_writing v handle at bytes))
writing-noted v id handle at bytes tied found = elim (option_cases handle.stream) [
  | inl none ↦ rw none (nothing-noted v)
  | inr stream ↦ elim (cases_Bool (length bytes == 0)) [
    | inl empty ↦ rw (stream.1, empty) (nothing-noted v)
    | inr some ↦ rw (stream.1, some) (written v handle.link stream.0 (unwrap_or at (length (bytes_of v stream.0))) bytes (lives-under v id handle stream.0 tied found stream.1))
  ]
]
  where
    written : (v : Volume) (link stream at : ℕ) (bytes : List ℕ) → Lives v.links v.streams link stream → NotesChanges v (with_tree_changes v (Writes link stream at bytes ∷ []))
    written v link stream at bytes lives =
        notes-bytes v (with_write_noted v link stream (lengthens v stream at bytes)) _ stream (λ row. record row { bytes = put row.bytes at bytes }) lives.a_stream
        (file_of_stream v stream) (bit_or (attributes_of (with_write_noted v link stream (lengthens v stream at bytes)) (file_of_stream v stream)) ARCHIVE) lives.of_stream
        (noted-write v link stream (lengthens v stream at bytes) lives) (file-of_stream v stream lives.a_stream lives.of_stream) refl refl refl refl

pub resizing-noted : (v : Volume) (id : ℕ) (handle : Handle) (end : ℕ) → IsTied v → row_of v.handles id ≡ Some handle
    → NotesChanges v (with_tree_changes v (changes_resizing v handle end))
resizing-noted v id handle end tied found = elim (option_cases handle.stream) [
  | inl none ↦ rw none (nothing-noted v)
  | inr stream ↦ elim (cases_Bool (length (bytes_of v stream.0) == end)) [
    | inl same ↦ rw (stream.1, same) (nothing-noted v)
    | inr other ↦ rw (stream.1, other) (resized v handle.link stream.0 end (lives-under v id handle stream.0 tied found stream.1))
  ]
]
  where
    resized : (v : Volume) (link stream end : ℕ) → Lives v.links v.streams link stream → NotesChanges v (with_tree_changes v (Resizes link stream end ∷ []))
    resized v link stream end lives =
        notes-bytes v (with_write_noted v link stream true) _ stream (λ row. record row { bytes = cut row.bytes end }) lives.a_stream
        (file_of_stream v stream) (attributes_of (with_write_noted v link stream true) (file_of_stream v stream)) lives.of_stream
        (noted-write v link stream true lives) (file-of_stream v stream lives.a_stream lives.of_stream) refl refl refl refl

-- ---- what is made

-- the link that is made, of the file that is, and what is noted of it
abbrev link_made : Volume → ℕ → List ℕ → Link
link_made v dir name = record { parent = dir; name = name; file = v.last_file + 1; deleted = false }

abbrev stream_row : ℕ → List ℕ → Stream
stream_row file name = record { file = file; name = name; bytes = []; deleted = false }

-- a directory, with its link
directory-made : (v : Volume) (dir : ℕ) (name : List ℕ) (file : File) → IsTied v → NotesChanges v (with_tree_changes v (MakesDirectory dir name file ∷ []))
directory-made v dir name file tied =
    let u : Volume = with_link (with_file v file) dir name (v.last_file + 1) in
    let row : Link = link_made v dir name in
    let found : row_of u.links (v.last_link + 1) ≡ Some row = row_of-new v.links v.last_link (v.last_link + 1) row tied.links_numbered.given refl in
    let note : Change = note_of u row FILE_ACTION_ADDED FILE_NOTIFY_CHANGE_DIR_NAME None in
    subst (λ w. NotesChanges v w) (sym (noted-is u (v.last_link + 1) FILE_ACTION_ADDED FILE_NOTIFY_CHANGE_DIR_NAME None row found))
    (notes-made v (record u { changes = u.changes ++ note ∷ [] }) (note ∷ []) ((v.last_link + 1, row) ∷ []) [] refl (sym (append-nil v.streams))
    (files-more v (record u { changes = u.changes ++ note ∷ [] }) ((v.last_file + 1, file) ∷ []) refl) refl
    (λ link its has. rw (row_of-one (v.last_link + 1) link row its has) (Added (note_of-plain u row FILE_ACTION_ADDED FILE_NOTIFY_CHANGE_DIR_NAME is_of_name refl)))
    (λ stream unit more its has named. let impossible : None ≡ Some its = has in cc))

-- a file, with its link and its default stream, which is not named
abbrev file_made : Volume → ℕ → List ℕ → File → Volume
file_made v dir name file = with_stream (with_link (with_file v file) dir name (v.last_file + 1)) (v.last_file + 1) []

abbrev file_note : Volume → ℕ → List ℕ → File → Change
file_note v dir name file = note_of (file_made v dir name file) (link_made v dir name) FILE_ACTION_ADDED FILE_NOTIFY_CHANGE_FILE_NAME None

abbrev file_noted : Volume → ℕ → List ℕ → File → Volume
file_noted v dir name file = record (file_made v dir name file) { changes = v.changes ++ file_note v dir name file ∷ [] }

link-found : (v : Volume) (dir : ℕ) (name : List ℕ) → IsTied v → row_of (v.links ++ (v.last_link + 1, link_made v dir name) ∷ []) (v.last_link + 1) ≡ Some (link_made v dir name)
link-found v dir name tied = row_of-new v.links v.last_link (v.last_link + 1) (link_made v dir name) tied.links_numbered.given refl

file-is : (v : Volume) (dir : ℕ) (name : List ℕ) (file : File) → IsTied v → with_tree_change v (MakesFile dir name file) ≡ file_noted v dir name file
file-is v dir name file tied =
    noted-is (file_made v dir name file) (v.last_link + 1) FILE_ACTION_ADDED FILE_NOTIFY_CHANGE_FILE_NAME None (link_made v dir name) (link-found v dir name tied)

file-made : (v : Volume) (dir : ℕ) (name : List ℕ) (file : File) → IsTied v → NotesChanges v (with_tree_changes v (MakesFile dir name file ∷ []))
file-made v dir name file tied =
    subst (λ w. NotesChanges v w) (sym (file-is v dir name file tied))
    (notes-made v (file_noted v dir name file) (file_note v dir name file ∷ []) ((v.last_link + 1, link_made v dir name) ∷ [])
    ((v.last_stream + 1, stream_row (v.last_file + 1) []) ∷ []) refl refl
    (files-more v (file_noted v dir name file) ((v.last_file + 1, file) ∷ []) refl) refl
    (λ link its has. rw (row_of-one (v.last_link + 1) link (link_made v dir name) its has)
    (Added (note_of-plain (file_made v dir name file) (link_made v dir name) FILE_ACTION_ADDED FILE_NOTIFY_CHANGE_FILE_NAME is_of_name refl)))
    (λ stream unit more its has named.
    let one : its ≡ stream_row (v.last_file + 1) [] = row_of-one (v.last_stream + 1) stream (stream_row (v.last_file + 1) []) its has in
    let impossible : [] ≡ unit ∷ more = ap (λ (r : Stream). r.name) (sym one) ∙ named in cc))

-- a named stream, by a link of its file
stream-made : (v : Volume) (link file : ℕ) (name : List ℕ) (row : Link) → row_of v.links link ≡ Some row → row.file ≡ file → IsTied v
    → NotesChanges v (with_tree_changes v (MakesStream link file name ∷ []))
stream-made v link file name row found is tied =
    let u : Volume = with_stream v file name in
    let id : ℕ = v.last_stream + 1 in
    let new : row_of u.streams id ≡ Some (stream_row file name) = row_of-new v.streams v.last_stream id (stream_row file name) tied.streams_numbered.given refl in
    let note : Change = note_of u row FILE_ACTION_ADDED_STREAM FILE_NOTIFY_CHANGE_STREAM_NAME (Some id) in
    let next : Volume = record u { changes = u.changes ++ note ∷ [] } in
    let by : NotedByLink v next (note ∷ []) FILE_ACTION_ADDED_STREAM (has_filter FILE_NOTIFY_CHANGE_STREAM_NAME) file (58 ∷ name) = record {
      link = link;
      parent = row.parent;
      name = row.name;
      is_there = Before (entry-is v link file row found is);
      noted = note_of-stream u row FILE_ACTION_ADDED_STREAM FILE_NOTIFY_CHANGE_STREAM_NAME id (stream_row file name) (has_filter FILE_NOTIFY_CHANGE_STREAM_NAME) new refl;
    } in
    subst (λ w. NotesChanges v w) (sym (noted-is u link FILE_ACTION_ADDED_STREAM FILE_NOTIFY_CHANGE_STREAM_NAME (Some id) row found))
    (notes-made v next (note ∷ []) [] ((id, stream_row file name) ∷ []) (sym (append-nil v.links)) refl (files-same v next refl) refl
    (λ other its has. let impossible : None ≡ Some its = has in cc)
    (λ stream unit more its has named. rw (row_of-one id stream (stream_row file name) its has) by))

-- a file with a named stream
file_and_stream-made : (v : Volume) (dir : ℕ) (name : List ℕ) (file : File) (stream : List ℕ) → IsTied v
    → NotesChanges v (with_tree_changes v (MakesFile dir name file ∷ MakesStream (v.last_link + 1) (v.last_file + 1) stream ∷ []))
file_and_stream-made v dir name file stream tied =
    let made : Volume = file_noted v dir name file in
    let u : Volume = with_stream made (v.last_file + 1) stream in
    let id : ℕ = v.last_stream + 1 + 1 in
    let row : Link = link_made v dir name in
    let first : Stream = stream_row (v.last_file + 1) [] in
    let second : Stream = stream_row (v.last_file + 1) stream in
    let found : row_of u.links (v.last_link + 1) ≡ Some row = link-found v dir name tied in
    let new : row_of u.streams id ≡ Some second
    = row_of-new made.streams (v.last_stream + 1) id second (IsNumbered-push v.streams v.last_stream first tied.streams_numbered).given refl in
    let note : Change = note_of u row FILE_ACTION_ADDED_STREAM FILE_NOTIFY_CHANGE_STREAM_NAME (Some id) in
    let next : Volume = record u { changes = u.changes ++ note ∷ [] } in
    let notes : List Change = file_note v dir name file ∷ note ∷ [] in
    let by : NotedByLink v next notes FILE_ACTION_ADDED_STREAM (has_filter FILE_NOTIFY_CHANGE_STREAM_NAME) (v.last_file + 1) (58 ∷ stream) = record {
      link = v.last_link + 1;
      parent = dir;
      name = name;
      is_there = After (entry-is next (v.last_link + 1) (v.last_file + 1) row found refl);
      noted = noted-after (file_note v dir name file ∷ []) (note ∷ []) FILE_ACTION_ADDED_STREAM (has_filter FILE_NOTIFY_CHANGE_STREAM_NAME) dir (name ++ 58 ∷ stream)
          (note_of-stream u row FILE_ACTION_ADDED_STREAM FILE_NOTIFY_CHANGE_STREAM_NAME id second (has_filter FILE_NOTIFY_CHANGE_STREAM_NAME) new refl);
    } in
    rw (file-is v dir name file tied, noted-is u (v.last_link + 1) FILE_ACTION_ADDED_STREAM FILE_NOTIFY_CHANGE_STREAM_NAME (Some id) row found)
    (notes-made v next notes ((v.last_link + 1, row) ∷ []) ((v.last_stream + 1, first) ∷ (id, second) ∷ [])
    refl (append_assoc v.streams ((v.last_stream + 1, first) ∷ []) ((id, second) ∷ [])) (files-more v next ((v.last_file + 1, file) ∷ []) refl)
    (append_assoc v.changes (file_note v dir name file ∷ []) (note ∷ []))
    (λ link its has. rw (row_of-one (v.last_link + 1) link row its has)
    (Added (noted-before (file_note v dir name file ∷ []) (note ∷ []) FILE_ACTION_ADDED is_of_name dir name
    (note_of-plain (file_made v dir name file) row FILE_ACTION_ADDED FILE_NOTIFY_CHANGE_FILE_NAME is_of_name refl))))
    (λ at unit more its has named. elim (cases_Bool (v.last_stream + 1 == at)) [
      | inl here ↦ (let is : Some first ≡ Some its = rw here at has in let one : first ≡ its = cc in
          let impossible : [] ≡ unit ∷ more = ap (λ (r : Stream). r.name) one ∙ named in cc)
      | inr other ↦ (let later : row_of ((id, second) ∷ []) at ≡ Some its = rw other at has in rw (row_of-one id at second its later) by)
    ]))

-- ---- an open

-- of two names that are the same, both are empty or neither is
same-empty : (table : List (ℕ × ℕ)) (one other : List ℕ) → same_name table one other ≡ true → (length one == 0) ≡ (length other == 0)
same-empty table [] [] same = refl
same-empty table [] (unit ∷ more) same = (let impossible : false ≡ true = same in cc)
same-empty table (unit ∷ more) [] same = (let impossible : false ≡ true = same in cc)
same-empty table (unit ∷ more) (first ∷ rest) same = ne_eqb (length (unit ∷ more)) 0 (λ e. absurd (omega arith)) ∙ sym (ne_eqb (length (first ∷ rest)) 0 (λ e. absurd (omega arith)))

under-noted : (v : Volume) (asked : Asked) (dir : ℕ) (name : List ℕ) → IsTied v → NotesChanges v (with_tree_changes v (made_under v asked dir name))
under-noted v asked dir name tied = elim (cases_Bool (wants_directory asked)) [
  | inl directory ↦ rw directory (directory-made v dir name (new_file v asked true (kept_attributes asked.attributes)) tied)
  | inr plain ↦ elim (cases_Bool (names_stream asked.path)) [
    | inl named ↦ rw (plain, named) (file_and_stream-made v dir name (new_file v asked false (file_attributes asked.attributes)) (stream_name asked.path) tied)
    | inr unnamed ↦ rw (plain, unnamed) (file-made v dir name (new_file v asked false (file_attributes asked.attributes)) tied)
  ]
]

making-noted : (v : Volume) (asked : Asked) (dir : ℕ) (name : List ℕ) → IsTied v → NotesChanges v (with_tree_changes v (made_in v asked dir name))
making-noted v asked dir name tied = elim (option_cases (child_of v dir name)) [
  | inl none ↦ rw none (under-noted v asked dir name tied)
  | inr link ↦ (let row = number_of-row (is_named v.table dir name) v.links link.0 tied.links_numbered.rising link.1 in
      rw link.1 (stream-made v link.0 (linked_file v link.0) (stream_name asked.path) row.0 row.1 (sym (linked v link.0 row.0 row.1)) tied))
]
  where
    linked : (v : Volume) (link : ℕ) (row : Link) → row_of v.links link ≡ Some row → linked_file v link ≡ row.file
    linked v link row found = ap (λ (o : Option Link). option_map_or (λ row. row.file) o 0) found

overwriting-noted : (v : Volume) (asked : Asked) (dir : ℕ) (name : List ℕ) → IsTied v → NotesChanges v (with_tree_changes v (overwritten_in v asked dir name))
overwriting-noted v asked dir name tied = elim (option_cases (child_of v dir name)) [
  | inl none ↦ rw none (nothing-noted v)
  | inr link ↦ (let row = number_of-row (is_named v.table dir name) v.links link.0 tied.links_numbered.rising link.1 in
      rw link.1 (of-link v asked link.0 row.0 row.1 tied))
]
  where
    overwritten : (v : Volume) (asked : Asked) (link stream : ℕ) (lives : Lives v.links v.streams link stream) → names_stream asked.path ≡ not (length lives.a_stream.name == 0)
        → NotesChanges v (with_tree_changes v (Overwrites link (linked_file v link) stream (names_stream asked.path) (file_attributes asked.attributes) ∷ []))
    overwritten v asked link stream lives named =
        notes-bytes v (with_overwrite_noted v link stream (names_stream asked.path)) _ stream (λ row. record row { bytes = cut row.bytes 0 }) lives.a_stream
        (linked_file v link) (file_attributes asked.attributes) lives.of_stream (noted-overwrite v link stream (names_stream asked.path) lives named)
        (ap (λ (o : Option Link). option_map_or (λ row. row.file) o 0) lives.of_link ∙ lives.one_file) refl refl refl refl

    of-link : (v : Volume) (asked : Asked) (link : ℕ) (row : Link) → row_of v.links link ≡ Some row → IsTied v → NotesChanges v (with_tree_changes v (overwritten_of v asked link))
    of-link v asked link row found tied = elim (option_cases (stream_of v (linked_file v link) (stream_name asked.path))) [
      | inl none ↦ rw none (nothing-noted v)
      | inr stream ↦ (let it = number_of-row (is_stream_named v.table (linked_file v link) (stream_name asked.path)) v.streams stream.0 tied.streams_numbered.rising stream.1 in
          let parts = and_parts (it.0.file == linked_file v link) (same_name v.table it.0.name (stream_name asked.path)) it.2 in
          let file : linked_file v link ≡ row.file = ap (λ (o : Option Link). option_map_or (λ row. row.file) o 0) found in
          let lives : Lives v.links v.streams link stream.0
          = record { a_link = row; a_stream = it.0; of_link = found; of_stream = it.1; one_file = sym file ∙ sym (eqb-true it.0.file (linked_file v link) parts.0) } in
          rw stream.1 (overwritten v asked link stream.0 lives (ap not (sym (same-empty v.table it.0.name (stream_name asked.path) parts.1)))))
    ]

-- what the walk came to
reached-noted : (v : Volume) (asked : Asked) (changes : ℕ → List ℕ → List TreeChange) (walked : Walked) → ((dir : ℕ) (name : List ℕ) → NotesChanges v (with_tree_changes v (changes dir name)))
    → NotesChanges v (with_tree_changes v (where_reached asked changes walked))
reached-noted v asked changes (Reached dir) noted = noted dir (last_name (components asked.path))
reached-noted v asked changes (Barred status) noted = nothing-noted v
reached-noted v asked changes (Diverted file next) noted = nothing-noted v

pub opening-noted : (v : Volume) (asked : Asked) (body : Body) → IsTied v → NotesChanges v (with_tree_changes v (changes_opening v asked body))
opening-noted v asked (body.Opened action.Created) tied = reached-noted v asked (made_in v asked) (walk v (components asked.path)) (λ dir name. making-noted v asked dir name tied)
opening-noted v asked (body.Opened action.Superseded) tied = reached-noted v asked (overwritten_in v asked) (walk v (components asked.path)) (λ dir name. overwriting-noted v asked dir name tied)
opening-noted v asked (body.Opened action.Overwritten) tied = reached-noted v asked (overwritten_in v asked) (walk v (components asked.path)) (λ dir name. overwriting-noted v asked dir name tied)
opening-noted v asked (body.Opened action.Opened) tied = nothing-noted v
opening-noted v asked body.Nothing tied = nothing-noted v
opening-noted v asked (body.Got bytes) tied = nothing-noted v
opening-noted v asked (body.Count count) tied = nothing-noted v
opening-noted v asked (body.Packed kind bytes) tied = nothing-noted v
opening-noted v asked (body.Broken level ack) tied = nothing-noted v
opening-noted v asked (body.Left level) tied = nothing-noted v
opening-noted v asked (body.Stopped tag bytes rest) tied = nothing-noted v
opening-noted v asked (body.Quota charge limit) tied = nothing-noted v

-- ---- by a handle

-- what is changed by a handle, or of its file, where there is one
pub by_handle-noted : (v : Volume) (client number : ℕ) (changes : ℕ → Handle → List TreeChange)
    → ((id : ℕ) (handle : Handle) → row_of v.handles id ≡ Some handle → NotesChanges v (with_tree_changes v (changes id handle)))
    → NotesChanges v (with_tree_changes v (by_handle v client number changes))
by_handle-noted v client number changes noted = elim (option_cases (handle_of v client number)) [
  | inl none ↦ rw none (nothing-noted v)
  | inr id ↦ elim (option_cases (row_of v.handles id.0)) [
    | inl gone ↦ rw (id.1, gone) (nothing-noted v)
    | inr handle ↦ rw (id.1, handle.1) (noted id.0 handle.0 handle.1)
  ]
]

pub of_file-noted : (v : Volume) (handle : Handle) (changes : ℕ → List TreeChange)
    → ((file : ℕ) → file_of_link v.links handle.link ≡ Some file → NotesChanges v (with_tree_changes v (changes file)))
    → NotesChanges v (with_tree_changes v (of_file v handle changes))
of_file-noted v handle changes noted = elim (option_cases (file_of_link v.links handle.link)) [
  | inl none ↦ rw none (nothing-noted v)
  | inr file ↦ rw file.1 (noted file.0 file.1)
]

-- the point that a buffer has
pub with_point-noted : (v : Volume) (handle : Handle) (bytes : List ℕ) (file : ℕ) → file_of_link v.links handle.link ≡ Some file
    → NotesChanges v (with_tree_changes v (changes_with_point handle bytes file))
with_point-noted v handle bytes file is = elim (option_cases (read_reparse bytes)) [
  | inl none ↦ rw none (nothing-noted v)
  | inr point ↦ rw point.1 (setting-point v handle.link file (Some (point.0.0, point.0.1)) is)
]
