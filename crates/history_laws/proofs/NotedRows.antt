-- Laws of rows and of notes, for what is noted of what changes: the row of a number where a row comes, goes or changes; the note of
-- a change, seen first from the link's directory under its name, and under which filters; links, streams and files that stay; and
-- volumes that look the same.
use Rattle.std.proofs.Common.{◌≡◌, ℕ, suc, ◌+◌, ◌≤◌, Bool, true, false, List, [], ◌∷◌, ◌++◌, length, refl, ap, sym, subst, ◌∙◌, arith, inl, inr, Option, Some, None, append-nil, append_assoc}
use Rattle.std.specs.Option.{option_map_or}
use Rattle.std.specs.Prelude.{◌==◌, filter, option_map, if◌then◌else◌, All}
use Rattle.std.proofs.lemmas.Bool.{cases_Bool, eqb-true, ne_eqb}
use Rattle.fsa_types.specs.Masks.{FILE_ACTION_ADDED_STREAM, FILE_ACTION_MODIFIED, FILE_ACTION_MODIFIED_STREAM, FILE_ACTION_REMOVED_STREAM, FILE_NOTIFY_CHANGE_ATTRIBUTES, FILE_NOTIFY_CHANGE_CREATION, FILE_NOTIFY_CHANGE_LAST_ACCESS, FILE_NOTIFY_CHANGE_LAST_WRITE, FILE_NOTIFY_CHANGE_SECURITY, FILE_NOTIFY_CHANGE_STREAM_NAME, FILE_NOTIFY_CHANGE_STREAM_WRITE}
use Rattle.fsa_types.specs.Rows.{row_of, without_row, with_row_changed, IsNumbered}
use Rattle.fsa_types.specs.declared.request.Ace.{Ace}
use Rattle.fsa_types.proofs.RowLemmas.{AreRising, AreRising-first, AreRising-rest}
use Rattle.fsa_model.specs.Changes.{ancestors, seen_from, stream_suffix, with_change_noted}
use Rattle.fsa_model.specs.Edits.{with_basic, with_link_marked, with_stream_marked}
use Rattle.fsa_model.specs.Lookups.{access_time, attributes_of, creation_time, is_directory, link_of_file, write_time}
use Rattle.fsa_model.specs.Volume.{Change, File, Link, Stream, Volume}
use Rattle.fsa_model.proofs.CoherenceComes.{row_of-new}
use Rattle.fsa_model.proofs.CoherenceEdits.{row_of-changed, row_of-more}
use Rattle.fsa_model.proofs.RowLaws.{eqb-swap, option_cases}
use Rattle.history_laws.specs.TreeChanges.{filter_of_name}
use Rattle.history_laws.specs.TreeNotes.{After, AttributesNoted, AttributesWritten, Before, BytesNoted, ComeIs, FileNoted, GoneAlone, HasCome, IsNoted, LastWriteNoted, LinkMoved, LinkNoted, NotedByLink, NotesChanges, OfFile, OfStream, OtherAttributes, OtherBytes, OtherLastWrite, OtherPoint, OtherSecurity, OtherTime, PointNoted, SameAttributes, SameBytes, SameLastWrite, SamePoint, SameSecurity, SameTime, SecurityNoted, StaysThere, StreamGone, StreamNoted, TimeNoted, WithItsFile, WriteNoted, entry_of, has_filter, is_of_name, place_of}

-- ---- rows

-- no row has the next number
pub row_of-none_above : {R : Type 0} (rows : List (ℕ × R)) (last id : ℕ) → All (λ e. e.0 ≤ last) rows → id ≡ last + 1 → row_of rows id ≡ None
row_of-none_above [] last id given is = refl
row_of-none_above (x ∷ rows) last id given is =
    let bound : x.0 ≤ last = given 0 x (omega arith) in
    rw (ne_eqb x.0 id (λ e. absurd (omega arith))) (row_of-none_above rows last id (λ k d within. given (suc k) d (omega arith)) is)

-- with one more, the row of another number is as it was; that of the next number is the new one
pub row_of-pushed : {R : Type 0} (rows : List (ℕ × R)) (n m : ℕ) (row : R) → (m == n) ≡ false → row_of (rows ++ (n, row) ∷ []) m ≡ row_of rows m
row_of-pushed [] n m row other = rw (eqb-swap n m ∙ other) refl
row_of-pushed (x ∷ rows) n m row other = elim (cases_Bool (x.0 == m)) [
  | inl here ↦ rw here refl
  | inr elsewhere ↦ rw elsewhere (row_of-pushed rows n m row other)
]

pub row_of-push : {R : Type 0} (rows : List (ℕ × R)) (last m : ℕ) (row : R) → IsNumbered rows last
    → row_of (rows ++ (last + 1, row) ∷ []) m ≡ if m == last + 1 then Some row else row_of rows m
row_of-push rows last m row numbered = elim (cases_Bool (m == last + 1)) [
  | inl here ↦ rw here (row_of-new rows last m row numbered.given (eqb-true m (last + 1) here))
  | inr other ↦ rw other (row_of-pushed rows (last + 1) m row other)
]

-- without one, it has none, and the others are as they were
pub row_of-without : {R : Type 0} (rows : List (ℕ × R)) (gone m : ℕ) → row_of (without_row rows gone) m ≡ if m == gone then None else row_of rows m
row_of-without [] gone m = elim (cases_Bool (m == gone)) [ inl here ↦ rw here refl | inr other ↦ rw other refl ]
row_of-without (x ∷ rows) gone m = elim (cases_Bool (x.0 == gone)) [
  | inl goes ↦ rw goes (row_of-without rows gone m ∙ elim (cases_Bool (m == gone)) [
    | inl here ↦ rw here refl
    | inr other ↦ (let same : x.0 ≡ gone = eqb-true x.0 gone goes in let elsewhere : (x.0 == m) ≡ false = ap (λ n. n == m) same ∙ eqb-swap gone m ∙ other in rw (other, elsewhere) refl)
  ])
  | inr stays ↦ rw stays (elim (cases_Bool (x.0 == m)) [
    | inl here ↦ (let same : x.0 ≡ m = eqb-true x.0 m here in let other : (m == gone) ≡ false = rw same at stays in rw (here, other) refl)
    | inr elsewhere ↦ rw elsewhere (row_of-without rows gone m)
  ])
]

-- of those that a filter keeps
pub row_of-filter : {R : Type 0} (keep : ℕ × R → Bool) (rows : List (ℕ × R)) (id : ℕ) (row : R) → AreRising rows → row_of rows id ≡ Some row
    → row_of (filter keep rows) id ≡ if keep (id, row) then Some row else None
row_of-filter keep [] id row rising found = cc
row_of-filter {R} keep (x ∷ rows) id row rising found = elim (cases_Bool (x.0 == id)) [
  | inl here ↦ (let is : Some x.1 ≡ Some row = rw here at found in let same : x.1 ≡ row = cc in
      let so : x.0 ≡ id = eqb-true x.0 id here in
      let it : keep x ≡ keep (id, row) = ap (λ (n : ℕ). keep (n, x.1)) so ∙ ap (λ (r : R). keep (id, r)) same in
      elim (cases_Bool (keep (id, row))) [
        | inl stays ↦ rw (it ∙ stays, stays, here, same) refl
        | inr goes ↦ rw (it ∙ goes, goes) (none-later keep rows id (λ k d within. let after = AreRising-first x rows rising k d within in omega arith))
      ])
  | inr other ↦ (let rest = row_of-filter keep rows id row (AreRising-rest x rows rising) (rw other at found) in elim (cases_Bool (keep x)) [
    | inl stays ↦ rw (stays, other) rest
    | inr goes ↦ rw goes rest
  ])
]
  where
    none-later : {R : Type 0} (keep : ℕ × R → Bool) (rows : List (ℕ × R)) (id : ℕ) → All (λ e. suc id ≤ e.0) rows → row_of (filter keep rows) id ≡ None
    none-later keep [] id above = refl
    none-later keep (x ∷ rows) id above =
        let here : suc id ≤ x.0 = above 0 x (omega arith) in
        let rest = none-later keep rows id (λ k d within. above (suc k) d (omega arith)) in
        elim (cases_Bool (keep x)) [
          | inl stays ↦ rw (stays, ne_eqb x.0 id (λ e. absurd (omega arith))) rest
          | inr goes ↦ rw goes rest
        ]

-- where one changes
pub row_of-unchanged : {R : Type 0} (change : R → R) (rows : List (ℕ × R)) (at id : ℕ) → (id == at) ≡ false → row_of (with_row_changed change rows at) id ≡ row_of rows id
row_of-unchanged change rows at id other = row_of-changed change rows at id ∙ elim (option_cases (row_of rows id)) [
  | inl none ↦ rw none refl
  | inr some ↦ rw (some.1, other) refl
]

pub row_of-changed_some : {R : Type 0} (change : R → R) (rows : List (ℕ × R)) (at id : ℕ) (row : R) → row_of rows id ≡ Some row
    → row_of (with_row_changed change rows at) id ≡ Some (if id == at then change row else row)
row_of-changed_some change rows at id row found = row_of-changed change rows at id ∙ rw found refl

pub row_of-changed_none : {R : Type 0} (change : R → R) (rows : List (ℕ × R)) (at id : ℕ) → row_of rows id ≡ None → row_of (with_row_changed change rows at) id ≡ None
row_of-changed_none change rows at id none = row_of-changed change rows at id ∙ rw none refl

-- what a change leaves of the row that it finds, or of each row, is as it was of each number
pub seen-changed_at : {R X : Type 0} (change : R → R) (of : R → X) (rows : List (ℕ × R)) (at id : ℕ) → ((row : R) → row_of rows at ≡ Some row → of (change row) ≡ of row)
    → option_map of (row_of (with_row_changed change rows at) id) ≡ option_map of (row_of rows id)
seen-changed_at {R} {X} change of rows at id same =
    ap (λ found. option_map of found) (row_of-changed change rows at id) ∙ elim (option_cases (row_of rows id)) [
      | inl none ↦ rw none refl
      | inr some ↦ rw some.1 (elim (cases_Bool (id == at)) [
        | inl here ↦ (let found : row_of rows at ≡ Some some.0 = ap (λ n. row_of rows n) (sym (eqb-true id at here)) ∙ some.1 in
            rw here (ap (λ (x : X). Some x) (same some.0 found)))
        | inr other ↦ rw other refl
      ])
    ]

pub seen-changed : {R X : Type 0} (change : R → R) (of : R → X) (rows : List (ℕ × R)) (at id : ℕ) → ((row : R) → of (change row) ≡ of row)
    → option_map of (row_of (with_row_changed change rows at) id) ≡ option_map of (row_of rows id)
seen-changed change of rows at id same = seen-changed_at change of rows at id (λ row found. same row)

-- and so of two rows, where one is that of a number before, and one after
pub seen-both : {R X : Type 0} (of : R → X) (found found_now : Option R) (row row_now : R) → option_map of found_now ≡ option_map of found → found ≡ Some row → found_now ≡ Some row_now
    → of row_now ≡ of row
seen-both {R} {X} of found found_now row row_now same before now =
    let both : Some (of row_now) ≡ Some (of row) = ap (λ o. option_map of o) (sym now) ∙ same ∙ ap (λ o. option_map of o) before in cc

-- ---- notes

-- what is noted of a link's row
abbrev pub note_of : Volume → Link → ℕ → ℕ → Option ℕ → Change
note_of v row action bits stream = record { action = action; bits = bits; seen_from = seen_from v.links row (stream_suffix v.streams stream) }

pub noted-is : (v : Volume) (link action bits : ℕ) (stream : Option ℕ) (row : Link) → row_of v.links link ≡ Some row
    → with_change_noted v link action bits stream ≡ record v { changes = v.changes ++ note_of v row action bits stream ∷ [] }
noted-is v link action bits stream row found = rw found refl

pub note_of-noted : (v : Volume) (row : Link) (action bits : ℕ) (stream : Option ℕ) (under : ℕ → Bool) → under bits ≡ true
    → IsNoted (note_of v row action bits stream ∷ []) action under row.parent (row.name ++ stream_suffix v.streams stream)
note_of-noted v row action bits stream under passes =
    let more : length v.links + 1 ≡ suc (length v.links) = omega arith in
    record {
      before = [];
      note = note_of v row action bits stream;
      after = [];
      is_there = refl;
      acts = refl;
      filters = passes;
      above = further v.links row.parent (row.name ++ stream_suffix v.streams stream);
      seen = rw more refl;
    }
  where
    further : List (ℕ × Link) → ℕ → List ℕ → List (ℕ × List ℕ)
    further links dir name = option_map_or (λ entry. ancestors (length links) links entry.1.parent (entry.1.name ++ 92 ∷ name)) (link_of_file links dir) []

-- among more notes it is one too
pub noted-before : (notes more : List Change) (action : ℕ) (under : ℕ → Bool) (parent : ℕ) (name : List ℕ) → IsNoted notes action under parent name
    → IsNoted (notes ++ more) action under parent name
noted-before notes more action under parent name noted = record {
  before = noted.before;
  note = noted.note;
  after = noted.after ++ more;
  is_there = ap (λ all. all ++ more) noted.is_there ∙ append_assoc noted.before (noted.note ∷ noted.after) more;
  acts = noted.acts;
  filters = noted.filters;
  above = noted.above;
  seen = noted.seen;
}

pub noted-after : (more notes : List Change) (action : ℕ) (under : ℕ → Bool) (parent : ℕ) (name : List ℕ) → IsNoted notes action under parent name
    → IsNoted (more ++ notes) action under parent name
noted-after more notes action under parent name noted = record {
  before = more ++ noted.before;
  note = noted.note;
  after = noted.after;
  is_there = ap (λ all. more ++ all) noted.is_there ∙ sym (append_assoc more noted.before (noted.note ∷ noted.after));
  acts = noted.acts;
  filters = noted.filters;
  above = noted.above;
  seen = noted.seen;
}

-- a link's coming and going is noted under the filter of a directory's name, or that of a file's
pub of_name : (v : Volume) (link : ℕ) → is_of_name (filter_of_name v link) ≡ true
of_name v link = elim (option_cases (row_of v.links link)) [
  | inl none ↦ rw none refl
  | inr row ↦ rw row.1 (elim (cases_Bool (is_directory v.files row.0.file)) [ inl is ↦ rw is refl | inr isnt ↦ rw isnt refl ])
]

-- ---- what stays

-- links that are the same
pub links-stay : (v next : Volume) (notes : List Change) → next.links ≡ v.links → (link : ℕ) → LinkNoted v next notes link
links-stay v next notes same link = StaysThere (ap (λ links. option_map (λ (row : Link). (row.parent, row.name)) (row_of links link)) same)

-- streams that are the same
pub bytes-stay : (v next : Volume) (notes : List Change) → next.streams ≡ v.streams
    → (stream : ℕ) (row row_now : Stream) → row_of v.streams stream ≡ Some row → row_of next.streams stream ≡ Some row_now → StreamNoted v next notes row row_now
bytes-stay v next notes same stream row row_now before now =
    let both : Some row_now ≡ Some row = sym now ∙ ap (λ streams. row_of streams stream) same ∙ before in
    let one : row_now ≡ row = cc in
    SameBytes (ap (λ (r : Stream). r.bytes) one)

pub none-made : (v next : Volume) (notes : List Change) → next.streams ≡ v.streams
    → (stream unit : ℕ) (name : List ℕ) (row : Stream) → row_of v.streams stream ≡ None → row_of next.streams stream ≡ Some row → row.name ≡ unit ∷ name
    → NotedByLink v next notes FILE_ACTION_ADDED_STREAM (has_filter FILE_NOTIFY_CHANGE_STREAM_NAME) row.file (58 ∷ row.name)
none-made v next notes same stream unit name row before now named =
    let impossible : None ≡ Some row = sym before ∙ ap (λ streams. row_of streams stream) (sym same) ∙ now in cc

pub none-gone : (v next : Volume) (notes : List Change) → next.streams ≡ v.streams
    → (stream : ℕ) (row : Stream) → row_of v.streams stream ≡ Some row → row_of next.streams stream ≡ None → StreamGone v next notes row
none-gone v next notes same stream row before now =
    let impossible : None ≡ Some row = sym now ∙ ap (λ streams. row_of streams stream) same ∙ before in cc

-- ---- files

-- what is noted of a file where it's another: its owner, access list and reparse point, its times but for that of the last change,
-- and its attributes
pub record Own : Type 0 where
  pub owner : ℕ
  pub dacl : Option (List Ace)
  pub point : Option (ℕ × List ℕ)
  pub creation : ℕ
  pub access : ℕ
  pub write : ℕ
  pub attributes : ℕ

abbrev pub own : File → Own
own row = record {
  owner = row.owner;
  dacl = row.dacl;
  point = row.point;
  creation = row.creation;
  access = row.access;
  write = row.write;
  attributes = row.attributes;
}

abbrev pub own_of : Volume → ℕ → Option Own
own_of v file = option_map own (row_of v.files file)

-- a row that is found has the times and the attributes that are its file's
pub creation-is : (v : Volume) (file : ℕ) (row : File) → row_of v.files file ≡ Some row → creation_time v file ≡ row.creation
creation-is v file row found = ap (λ (o : Option File). option_map_or (λ row. row.creation) o 0) found

pub access-is : (v : Volume) (file : ℕ) (row : File) → row_of v.files file ≡ Some row → access_time v file ≡ row.access
access-is v file row found = ap (λ (o : Option File). option_map_or (λ row. row.access) o 0) found

pub write-is : (v : Volume) (file : ℕ) (row : File) → row_of v.files file ≡ Some row → write_time v file ≡ row.write
write-is v file row found = ap (λ (o : Option File). option_map_or (λ row. row.write) o 0) found

pub attributes-are : (v : Volume) (file : ℕ) (row : File) → row_of v.files file ≡ Some row → attributes_of v file ≡ row.attributes
attributes-are v file row found = ap (λ (o : Option File). option_map_or (λ row. row.attributes) o 0) found

-- with another change time, and else what it has, it's the same
pub own-same : (row : File) (creation access write change attributes : ℕ) → creation ≡ row.creation → access ≡ row.access → write ≡ row.write → attributes ≡ row.attributes
    → own (record row { creation = creation; access = access; write = write; change = change; attributes = attributes }) ≡ own row
own-same row creation access write change attributes is_creation is_access is_write is_attributes = rw (is_creation, is_access, is_write, is_attributes) refl

-- each file that is there before and after has the same
abbrev pub FilesStay : Volume → Volume → Type 0
FilesStay v next = (file : ℕ) (row row_now : File) → row_of v.files file ≡ Some row → row_of next.files file ≡ Some row_now → own row_now ≡ own row

-- each but the root has the same, or is noted
abbrev pub FilesNoted : Volume → Volume → List Change → Type 0
FilesNoted v next notes =
    (file : ℕ) (row row_now : File) → (file == 1) ≡ false → row_of v.files file ≡ Some row → row_of next.files file ≡ Some row_now → FileNoted v next notes file row row_now

-- then nothing of it has to be noted
pub file-stays : (v next : Volume) (notes : List Change) (file : ℕ) (row row_now : File) → own row_now ≡ own row → FileNoted v next notes file row row_now
file-stays v next notes file row row_now same = record {
  security = SameSecurity (ap (λ (of : Own). of.owner) same) (ap (λ (of : Own). of.dacl) same);
  point = SamePoint (ap (λ (of : Own). of.point) same);
  creation = SameTime (ap (λ (of : Own). of.creation) same);
  access = SameTime (ap (λ (of : Own). of.access) same);
  write = SameLastWrite (ap (λ (of : Own). of.write) same);
  attributes = SameAttributes (ap (λ (of : Own). of.attributes) same);
}

pub files-stay : (v next : Volume) (notes : List Change) → FilesStay v next → FilesNoted v next notes
files-stay v next notes stay file row row_now isnt_root before now = file-stays v next notes file row row_now (stay file row row_now before now)

-- so it is where that is the same under each number, where files are the same, where one changes otherwise, or changes so as it's
-- found, where only its change time does, where files come behind the others, where each that is there was there, and where one goes
pub files-seen : (v next : Volume) → ((file : ℕ) → own_of next file ≡ own_of v file) → FilesStay v next
files-seen v next same file row row_now before now =
    let both : Some (own row_now) ≡ Some (own row) = ap (λ found. option_map own found) (sym now) ∙ same file ∙ ap (λ found. option_map own found) before in cc

pub files-same : (v next : Volume) → next.files ≡ v.files → FilesStay v next
files-same v next same = files-seen v next (λ file. ap (λ files. option_map own (row_of files file)) same)

pub files-changed_at : (v next : Volume) (change : File → File) (at : ℕ) → next.files ≡ with_row_changed change v.files at
    → ((row : File) → row_of v.files at ≡ Some row → own (change row) ≡ own row) → FilesStay v next
files-changed_at v next change at are same =
    files-seen v next (λ file. ap (λ files. option_map own (row_of files file)) are ∙ seen-changed_at change own v.files at file same)

pub files-timed : (v next : Volume) (file clock : ℕ)
    → next.files ≡ (with_basic v file (creation_time v file) (access_time v file) (write_time v file) clock (attributes_of v file)).files → FilesStay v next
files-timed v next file clock are = files-changed_at v next _ file are (λ row found.
    own-same row (creation_time v file) (access_time v file) (write_time v file) clock (attributes_of v file)
    (creation-is v file row found) (access-is v file row found) (write-is v file row found) (attributes-are v file row found))

pub files-more : (v next : Volume) (files : List (ℕ × File)) → next.files ≡ v.files ++ files → FilesStay v next
files-more v next files are file row row_now before now =
    let both : Some row_now ≡ Some row = sym now ∙ ap (λ rows. row_of rows file) are ∙ row_of-more v.files files file row before in
    let one : row_now ≡ row = cc in
    ap own one

pub files-left : (v next : Volume) → ((file : ℕ) (row : File) → row_of next.files file ≡ Some row → row_of v.files file ≡ Some row) → FilesStay v next
files-left v next left file row row_now before now =
    let both : Some row_now ≡ Some row = sym (left file row_now now) ∙ before in
    let one : row_now ≡ row = cc in
    ap own one

pub files-without : (v next : Volume) (gone : ℕ) → next.files ≡ without_row v.files gone → FilesStay v next
files-without v next gone are = files-left v next (λ file row now.
    let left : row_of (without_row v.files gone) file ≡ Some row = ap (λ rows. row_of rows file) (sym are) ∙ now in
    elim (cases_Bool (file == gone)) [
      | inl here ↦ (let impossible : Some row ≡ None = sym left ∙ row_of-without v.files gone file ∙ rw here refl in cc)
      | inr apart ↦ sym (row_of-without v.files gone file ∙ rw apart refl) ∙ left
    ])

-- and of volumes with the same files before and after
pub files-like : (v next u w : Volume) → u.files ≡ v.files → w.files ≡ next.files → FilesStay v next → FilesStay u w
files-like v next u w same same_now stay file row row_now before now =
    stay file row row_now (ap (λ files. row_of files file) (sym same) ∙ before) (ap (λ files. row_of files file) (sym same_now) ∙ now)

-- one after the other, where then no file comes
pub files-next : (u v w : Volume) → FilesStay u v → FilesStay v w → ((file : ℕ) → row_of v.files file ≡ None → row_of w.files file ≡ None) → FilesStay u w
files-next u v w one two none_comes file row row_now before now = elim (option_cases (row_of v.files file)) [
  | inl none ↦ (let impossible : None ≡ Some row_now = sym (none_comes file none) ∙ now in cc)
  | inr some ↦ two file some.0 row_now some.1 now ∙ one file row some.0 before some.1
]

-- ---- links, streams and files

-- links and streams are the same, with notes added or none, and what of a file isn't is noted
pub notes-same : (v next : Volume) (notes : List Change) → next.links ≡ v.links → next.streams ≡ v.streams → FilesNoted v next notes → next.changes ≡ v.changes ++ notes
    → NotesChanges v next
notes-same v next notes links streams files adds = record {
  notes = notes;
  adds = adds;
  links = links-stay v next notes links;
  streams = bytes-stay v next notes streams;
  streams_made = none-made v next notes streams;
  streams_gone = none-gone v next notes streams;
  files = files;
}

-- ---- what comes behind

-- the row of a number that none before has
pub row_of-behind : {R : Type 0} (rows more : List (ℕ × R)) (id : ℕ) → row_of rows id ≡ None → row_of (rows ++ more) id ≡ row_of more id
row_of-behind [] more id none = refl
row_of-behind (x ∷ rows) more id none = elim (cases_Bool (x.0 == id)) [
  | inl here ↦ (let impossible : Some x.1 ≡ None = rw here at none in cc)
  | inr other ↦ rw other (row_of-behind rows more id (rw other at none))
]

-- the one row that there is
pub row_of-one : {R : Type 0} (n id : ℕ) (one row : R) → row_of ((n, one) ∷ []) id ≡ Some row → row ≡ one
row_of-one n id one row found = elim (cases_Bool (n == id)) [
  | inl here ↦ (let is : Some one ≡ Some row = rw here at found in cc)
  | inr other ↦ (let impossible : None ≡ Some row = rw other at found in cc)
]

-- links and streams come behind the others, each link is noted where it is, and each named stream by a link: that's all that changes,
-- and of files nothing does
pub notes-made : (v next : Volume) (notes : List Change) (links : List (ℕ × Link)) (streams : List (ℕ × Stream))
    → next.links ≡ v.links ++ links → next.streams ≡ v.streams ++ streams → FilesStay v next → next.changes ≡ v.changes ++ notes
    → ((link : ℕ) (row : Link) → row_of links link ≡ Some row → HasCome notes row.parent row.name)
    → ((stream unit : ℕ) (name : List ℕ) (row : Stream) → row_of streams stream ≡ Some row → row.name ≡ unit ∷ name
    → NotedByLink v next notes FILE_ACTION_ADDED_STREAM (has_filter FILE_NOTIFY_CHANGE_STREAM_NAME) row.file (58 ∷ row.name))
    → NotesChanges v next
notes-made v next notes links streams are_links are_streams stay adds come made = record {
  notes = notes;
  adds = adds;
  links = λ link. elim (option_cases (row_of v.links link)) [
    | inl none ↦ (let behind : row_of next.links link ≡ row_of links link = ap (λ rows. row_of rows link) are_links ∙ row_of-behind v.links links link none in
        elim (option_cases (row_of links link)) [
          | inl nowhere ↦ StaysThere (ap place (behind ∙ nowhere) ∙ sym (ap place none))
          | inr some ↦ LinkMoved (rw none tt) (rw (behind ∙ some.1) (come link some.0 some.1))
        ])
    | inr some ↦ StaysThere (ap place (ap (λ rows. row_of rows link) are_links ∙ row_of-more v.links links link some.0 some.1) ∙ sym (ap place some.1))
  ];
  streams = λ stream row row_now before now.
      let both : Some row_now ≡ Some row = sym now ∙ ap (λ rows. row_of rows stream) are_streams ∙ row_of-more v.streams streams stream row before in
      let one : row_now ≡ row = cc in
      SameBytes (ap (λ (r : Stream). r.bytes) one);
  streams_made = λ stream unit name row before now named.
      made stream unit name row (sym (row_of-behind v.streams streams stream before) ∙ ap (λ rows. row_of rows stream) (sym are_streams) ∙ now) named;
  streams_gone = λ stream row before now.
      let impossible : None ≡ Some row = sym now ∙ ap (λ rows. row_of rows stream) are_streams ∙ row_of-more v.streams streams stream row before in cc;
  files = files-stay v next notes stay;
}
  where
    place : Option Link → Option (ℕ × List ℕ)
    place found = option_map (λ (row : Link). (row.parent, row.name)) found

-- of the file itself, the note is seen under the link's name alone
pub note_of-plain : (v : Volume) (row : Link) (action bits : ℕ) (under : ℕ → Bool) → under bits ≡ true → IsNoted (note_of v row action bits None ∷ []) action under row.parent row.name
note_of-plain v row action bits under passes =
    subst (λ name. IsNoted (note_of v row action bits None ∷ []) action under row.parent name) (append-nil row.name) (note_of-noted v row action bits None under passes)

-- and of a stream with its name behind that
pub note_of-stream : (v : Volume) (row : Link) (action bits id : ℕ) (stream : Stream) (under : ℕ → Bool) → row_of v.streams id ≡ Some stream → under bits ≡ true
    → IsNoted (note_of v row action bits (Some id) ∷ []) action under row.parent (row.name ++ 58 ∷ stream.name)
note_of-stream v row action bits id stream under found passes =
    subst (λ suffix. IsNoted (note_of v row action bits (Some id) ∷ []) action under row.parent (row.name ++ suffix))
    (ap (λ (o : Option Stream). option_map_or (λ row. 58 ∷ row.name) o []) found) (note_of-noted v row action bits (Some id) under passes)

-- a link's row is its entry
pub entry-is : (v : Volume) (link file : ℕ) (row : Link) → row_of v.links link ≡ Some row → row.file ≡ file → entry_of v link ≡ Some (row.parent, row.name, file)
entry-is v link file row found is =
    ap (λ (o : Option Link). option_map (λ row. (row.parent, row.name, row.file)) o) found ∙ ap (λ (f : ℕ). Some (row.parent, row.name, f)) is

-- ---- volumes that look the same

-- what is seen of a stream
abbrev pub shape_of : Volume → ℕ → Option (ℕ × List ℕ × List ℕ)
shape_of v stream = option_map (λ row. (row.file, row.name, row.bytes)) (row_of v.streams stream)

-- each link has its place and file, each stream its file, name and bytes, and each file its own fields but for the time of its last
-- change; and what is noted is the same
pub record IsSeenSame (v w : Volume) : Type 0 where
  pub links : (link : ℕ) → entry_of w link ≡ entry_of v link
  pub streams : (stream : ℕ) → shape_of w stream ≡ shape_of v stream
  pub files : (file : ℕ) → own_of w file ≡ own_of v file
  pub changes : w.changes ≡ v.changes

-- where a link or a stream is marked, and where a file changes otherwise
pub seen-link_marked : (v : Volume) (link : ℕ) (deleted : Bool) → IsSeenSame v (with_link_marked v link deleted)
seen-link_marked v link deleted = record {
  links = λ other. seen-changed (λ (row : Link). record row { deleted = deleted }) (λ row. (row.parent, row.name, row.file)) v.links link other (λ row. refl);
  streams = λ stream. refl;
  files = λ file. refl;
  changes = refl;
}

pub seen-stream_marked : (v : Volume) (stream : ℕ) (deleted : Bool) → IsSeenSame v (with_stream_marked v stream deleted)
seen-stream_marked v stream deleted = record {
  links = λ link. refl;
  streams = λ other. seen-changed (λ (row : Stream). record row { deleted = deleted }) (λ row. (row.file, row.name, row.bytes)) v.streams stream other (λ row. refl);
  files = λ file. refl;
  changes = refl;
}

-- what there is in the one there is in the other
pub seen-some : {R X : Type 0} (of : R → X) (one other : Option R) (row : R) → option_map of other ≡ option_map of one → one ≡ Some row → (r : R) × (other ≡ Some r) × (of r ≡ of row)
seen-some {R} {X} of one None row same is = (let impossible : None ≡ Some (of row) = same ∙ ap (λ (o : Option R). option_map of o) is in cc)
seen-some {R} {X} of one (Some r) row same is = (let both : Some (of r) ≡ Some (of row) = same ∙ ap (λ (o : Option R). option_map of o) is in let it : of r ≡ of row = cc in (r, refl, it))

pub seen-none : {R X : Type 0} (of : R → X) (one other : Option R) → option_map of other ≡ option_map of one → one ≡ None → other ≡ None
seen-none {R} of one None same is = refl
seen-none {R} {X} of one (Some r) same is = (let impossible : Some (of r) ≡ None = same ∙ ap (λ (o : Option R). option_map of o) is in cc)

pub place-seen : (v w : Volume) (link : ℕ) → entry_of w link ≡ entry_of v link → place_of w link ≡ place_of v link
place-seen v w link same = sym (within (row_of w.links link)) ∙ ap (λ (o : Option (ℕ × List ℕ × ℕ)). option_map place o) same ∙ within (row_of v.links link)
  where
    place : ℕ × List ℕ × ℕ → ℕ × List ℕ
    place entry = (entry.0, entry.1)

    within : (found : Option Link) → option_map place (option_map (λ (row : Link). (row.parent, row.name, row.file)) found) ≡ option_map (λ (row : Link). (row.parent, row.name)) found
    within None = refl
    within (Some row) = refl

-- what is noted by a link, is so by the same link of a volume that looks the same
pub noted_by-seen : (v next u w : Volume) (notes : List Change) (action : ℕ) (under : ℕ → Bool) (file : ℕ) (suffix : List ℕ)
    → ((link : ℕ) → entry_of u link ≡ entry_of v link) → ((link : ℕ) → entry_of w link ≡ entry_of next link)
    → NotedByLink v next notes action under file suffix → NotedByLink u w notes action under file suffix
noted_by-seen v next u w notes action under file suffix before after noted = record {
  link = noted.link;
  parent = noted.parent;
  name = noted.name;
  is_there = elim noted.is_there [ Before is ↦ Before (before noted.link ∙ is) | After is ↦ After (after noted.link ∙ is) ];
  noted = noted.noted;
}

pub bytes_noted-seen : (v next u w : Volume) (notes : List Change) (file : ℕ) (name : List ℕ) → ((link : ℕ) → entry_of u link ≡ entry_of v link) → ((link : ℕ) → entry_of w link ≡ entry_of next link)
    → BytesNoted v next notes file name → BytesNoted u w notes file name
bytes_noted-seen v next u w notes file [] before after noted = noted_by-seen v next u w notes FILE_ACTION_MODIFIED (has_filter FILE_NOTIFY_CHANGE_LAST_WRITE) file [] before after noted
bytes_noted-seen v next u w notes file (unit ∷ more) before after noted =
    noted_by-seen v next u w notes FILE_ACTION_MODIFIED_STREAM (has_filter FILE_NOTIFY_CHANGE_STREAM_WRITE) file (58 ∷ unit ∷ more) before after noted

pub file_noted-seen : (v next u w : Volume) (notes : List Change) (file : ℕ) (row row_now its its_now : File)
    → ((link : ℕ) → entry_of u link ≡ entry_of v link) → ((link : ℕ) → entry_of w link ≡ entry_of next link) → own its ≡ own row → own its_now ≡ own row_now
    → FileNoted v next notes file row row_now → FileNoted u w notes file its its_now
file_noted-seen v next u w notes file row row_now its its_now before after same same_now noted = record {
  security = security noted.security;
  point = point noted.point;
  creation = time FILE_NOTIFY_CHANGE_CREATION row.creation row_now.creation its.creation its_now.creation
      (ap (λ (of : Own). of.creation) same) (ap (λ (of : Own). of.creation) same_now) noted.creation;
  access = time FILE_NOTIFY_CHANGE_LAST_ACCESS row.access row_now.access its.access its_now.access
      (ap (λ (of : Own). of.access) same) (ap (λ (of : Own). of.access) same_now) noted.access;
  write = write noted.write;
  attributes = attributes noted.attributes;
}
  where
    by : (action : ℕ) (under : ℕ → Bool) (suffix : List ℕ) → NotedByLink v next notes action under file suffix → NotedByLink u w notes action under file suffix
    by action under suffix noted = noted_by-seen v next u w notes action under file suffix before after noted

    security : SecurityNoted v next notes file row row_now → SecurityNoted u w notes file its its_now
    security (SameSecurity same_owner same_dacl) =
        SameSecurity (ap (λ (of : Own). of.owner) same_now ∙ same_owner ∙ sym (ap (λ (of : Own). of.owner) same))
        (ap (λ (of : Own). of.dacl) same_now ∙ same_dacl ∙ sym (ap (λ (of : Own). of.dacl) same))
    security (OtherSecurity noted) = OtherSecurity (by FILE_ACTION_MODIFIED (has_filter FILE_NOTIFY_CHANGE_SECURITY) [] noted)

    point : PointNoted v next notes file row row_now → PointNoted u w notes file its its_now
    point (SamePoint same_point) = SamePoint (ap (λ (of : Own). of.point) same_now ∙ same_point ∙ sym (ap (λ (of : Own). of.point) same))
    point (OtherPoint noted) = OtherPoint (by FILE_ACTION_MODIFIED (has_filter FILE_NOTIFY_CHANGE_ATTRIBUTES) [] noted)

    time : (bit old now its_old its_then : ℕ) → its_old ≡ old → its_then ≡ now → TimeNoted v next notes file bit old now → TimeNoted u w notes file bit its_old its_then
    time bit old now its_old its_then is_old is_now (SameTime same_time) = SameTime (is_now ∙ same_time ∙ sym is_old)
    time bit old now its_old its_then is_old is_now (OtherTime noted) = OtherTime (by FILE_ACTION_MODIFIED (has_filter bit) [] noted)

    written : WriteNoted v next notes file → WriteNoted u w notes file
    written (OfFile noted) = OfFile (by FILE_ACTION_MODIFIED (has_filter FILE_NOTIFY_CHANGE_LAST_WRITE) [] noted)
    written (OfStream name noted) = OfStream name (by FILE_ACTION_MODIFIED_STREAM (has_filter FILE_NOTIFY_CHANGE_STREAM_WRITE) (58 ∷ name) noted)

    write : LastWriteNoted v next notes file row.write row_now.write → LastWriteNoted u w notes file its.write its_now.write
    write (SameLastWrite same_write) = SameLastWrite (ap (λ (of : Own). of.write) same_now ∙ same_write ∙ sym (ap (λ (of : Own). of.write) same))
    write (OtherLastWrite noted) = OtherLastWrite (written noted)

    attributes : AttributesNoted v next notes file row.attributes row_now.attributes → AttributesNoted u w notes file its.attributes its_now.attributes
    attributes (SameAttributes are_same) = SameAttributes (ap (λ (of : Own). of.attributes) same_now ∙ are_same ∙ sym (ap (λ (of : Own). of.attributes) same))
    attributes (OtherAttributes noted) = OtherAttributes (by FILE_ACTION_MODIFIED (has_filter FILE_NOTIFY_CHANGE_ATTRIBUTES) [] noted)
    attributes (AttributesWritten noted) = AttributesWritten (written noted)

pub notes-then : (v u next : Volume) → NotesChanges v u → IsSeenSame u next → NotesChanges v next
notes-then v u next noted seen = record {
  notes = noted.notes;
  adds = seen.changes ∙ noted.adds;
  links = λ link. (let same = place-seen u next link (seen.links link) in elim (noted.links link) [
    | StaysThere is ↦ StaysThere (same ∙ is)
    | LinkMoved left come ↦ LinkMoved left (subst (λ place. ComeIs noted.notes place) (sym same) come)
  ]);
  streams = λ stream row row_now before now.
      let it = seen-some shape (row_of next.streams stream) (row_of u.streams stream) row_now (sym (seen.streams stream)) now in
      let bytes : it.0.bytes ≡ row_now.bytes = ap (λ (e : ℕ × List ℕ × List ℕ). e.2) it.2 in
      elim (noted.streams stream row it.0 before it.1) [
        | SameBytes is ↦ SameBytes (sym bytes ∙ is)
        | OtherBytes bytes_noted ↦ OtherBytes (bytes_noted-seen v u v next noted.notes row.file row.name (λ link. refl) seen.links bytes_noted)
      ];
  streams_made = λ stream unit name row before now named.
      let it = seen-some shape (row_of next.streams stream) (row_of u.streams stream) row (sym (seen.streams stream)) now in
      let file : it.0.file ≡ row.file = ap (λ (e : ℕ × List ℕ × List ℕ). e.0) it.2 in
      let same_name : it.0.name ≡ row.name = ap (λ (e : ℕ × List ℕ × List ℕ). e.1) it.2 in
      subst (λ n. NotedByLink v next noted.notes FILE_ACTION_ADDED_STREAM (has_filter FILE_NOTIFY_CHANGE_STREAM_NAME) row.file (58 ∷ n)) same_name
      (subst (λ f. NotedByLink v next noted.notes FILE_ACTION_ADDED_STREAM (has_filter FILE_NOTIFY_CHANGE_STREAM_NAME) f (58 ∷ it.0.name)) file
      (noted_by-seen v u v next noted.notes FILE_ACTION_ADDED_STREAM (has_filter FILE_NOTIFY_CHANGE_STREAM_NAME) it.0.file (58 ∷ it.0.name) (λ link. refl) seen.links
      (noted.streams_made stream unit name it.0 before it.1 (same_name ∙ named))));
  streams_gone = λ stream row before now.
      elim (noted.streams_gone stream row before (seen-none shape (row_of next.streams stream) (row_of u.streams stream) (sym (seen.streams stream)) now)) [
        | WithItsFile gone ↦ WithItsFile (seen-none own (row_of u.files row.file) (row_of next.files row.file) (seen.files row.file) gone)
        | GoneAlone by ↦ GoneAlone (noted_by-seen v u v next noted.notes FILE_ACTION_REMOVED_STREAM (has_filter FILE_NOTIFY_CHANGE_STREAM_NAME) row.file (58 ∷ row.name) (λ link. refl) seen.links by)
      ];
  files = λ file row row_now isnt_root before now.
      let it = seen-some own (row_of next.files file) (row_of u.files file) row_now (sym (seen.files file)) now in
      file_noted-seen v u v next noted.notes file row it.0 row row_now (λ link. refl) seen.links refl (sym it.2)
      (noted.files file row it.0 isnt_root before it.1);
}
  where
    shape : Stream → ℕ × List ℕ × List ℕ
    shape row = (row.file, row.name, row.bytes)
