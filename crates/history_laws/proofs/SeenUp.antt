-- From where notes are seen: from the directory that the link is in, and from each above it up to the root, as these were before the
-- try. Each kind of change notes so in a sound tree, where the links of directories are still those that were there at first; and so do
-- lists of changes that fit.
use Rattle.std.proofs.Common.{◌++◌, ◌+◌, ◌∙◌, ◌∷◌, ◌≡◌, ◌≤◌, ◌⊎◌, Bool, List, None, Option, Some, [], ap, append-nil, append_assoc, arith, eq-eqb, false, inl, inr, length, length-append, refl, subst, suc, sym, true, zero, ℕ}
use Rattle.std.specs.Prelude.{◌==◌, if◌then◌else◌, All, option_map}
use Rattle.std.proofs.lemmas.Bool.{both_ways, cases_Bool, eqb-true}
use Rattle.std.proofs.lemmas.List.{length-map}
use Rattle.std.proofs.lemmas.List.Elements.{All-append, All-cons, All-nil}
use Rattle.std.proofs.lemmas.List.Folds.{find-append, list_any_none}
use Rattle.fsa_types.specs.Masks.{FILE_ACTION_ADDED, FILE_ACTION_ADDED_STREAM, FILE_ACTION_MODIFIED, FILE_ACTION_MODIFIED_STREAM, FILE_ACTION_REMOVED, FILE_ACTION_REMOVED_STREAM, FILE_ACTION_RENAMED_NEW_NAME, FILE_ACTION_RENAMED_OLD_NAME, FILE_NOTIFY_CHANGE_ATTRIBUTES, FILE_NOTIFY_CHANGE_DIR_NAME, FILE_NOTIFY_CHANGE_FILE_NAME, FILE_NOTIFY_CHANGE_SECURITY, FILE_NOTIFY_CHANGE_STREAM_NAME}
use Rattle.fsa_types.specs.Rows.{row_of, with_row_changed, without_row}
use Rattle.fsa_types.specs.declared.request.DaclChange.{DaclChange}
use Rattle.fsa_types.specs.declared.request.DaclChange.TheVariants.{Keep, Put, Remove}
use Rattle.fsa_model.specs.Changes.{ancestors, stream_suffix, with_change_noted}
use Rattle.fsa_model.specs.Edits.{with_file, with_link, with_link_marked, with_link_moved, with_point, with_stream, with_stream_marked, without_link}
use Rattle.fsa_model.specs.Lookups.{has_row, is_directory, leads_to, link_of_file, parent_of}
use Rattle.fsa_model.specs.Security.{asks_something, with_dacl_asked, with_owner_asked}
use Rattle.fsa_model.specs.SetBasic.{basic_bits, with_basics}
use Rattle.fsa_model.specs.Sound.{IsSoundTree, LeadsUp}
use Rattle.fsa_model.specs.Volume.{Change, File, Link, Volume}
use Rattle.fsa_model.proofs.MoveLaws.{IsSoundTree-moved, is_at_or_below-all, never-next, never_above, unmoved-step, step_of}
use Rattle.fsa_model.proofs.ReplacementLaws.{no_directory-without}
use Rattle.fsa_model.proofs.RowLaws.{find-no, change_at, find-all, option_cases, row_of-all, row_of-here}
use Rattle.fsa_model.proofs.WaitLaws.{find-passes}
use Rattle.history_laws.specs.TreeChanges.{AddsLink, MakesDirectory, MakesFile, MakesStream, MarksLink, MarksStream, MovesLink, Overwrites, RemovesLink, RemovesStream, Resizes, SetsBasics, SetsChangeTime, SetsPoint, SetsSecurity, TreeChange, Writes, filter_of_name, with_bytes_noted, with_move, with_security_of, with_tree_change, with_tree_changes}
use Rattle.history_laws.specs.TreeNotes.{IsAbove, IsSeenUp, IsWayUp, entry_of}
use Rattle.history_laws.proofs.NotedNames.{OnlyLeft, entry-of, removed-left}
use Rattle.history_laws.proofs.NotedRows.{note_of, noted-is, row_of-changed_none, row_of-changed_some, row_of-push, seen-changed}
use Rattle.history_laws.proofs.OverKinds.{noted-files, noted-links}
use Rattle.history_laws.proofs.SoundKinds.{SoundFits, SoundFitsAll, TakesEntries, not-root, sound-change}
use Rattle.fsa_model.proofs.SoundLaws.{next-directory, next-not_root}

-- ---- the way up

-- at most so many links up from a directory, what is called `name` in it is seen from it and from all above it, as they are in this volume
record WayUp (b : Volume) (most : ℕ) (links : List (ℕ × Link)) (dir : ℕ) (name : List ℕ) : Type 0 where
  above : List (ℕ × List ℕ)
  is : ancestors (suc most) links dir name ≡ (dir, name) ∷ above
  way : IsWayUp b dir name above

-- the links of directories that are there are as they were in the first volume
abbrev pub Within : Volume → Volume → Type 0
Within b w = (link : ℕ) (entry : ℕ × List ℕ × ℕ) → entry_of w link ≡ Some entry → is_directory w.files entry.2 ≡ true → entry_of b link ≡ Some entry

pub Within-same : (v : Volume) → Within v v
Within-same v link entry there directory = there

-- the root has no link
rootless : (v : Volume) → IsSoundTree v → link_of_file v.links 1 ≡ None
rootless v sound =
    find-no (λ (e : ℕ × Link). e.1.file == 1) v.links (list_any_none (λ (e : ℕ × Link). e.1.file == 1) v.links sound.tree.root_has_no_link)

module _ (b v : Volume) (sound : IsSoundTree v) (within : Within b v) where
  -- the way by links that are the same from this directory up
  module _ (links : List (ℕ × Link)) (On : ℕ → Type 0)
      (same : (d : ℕ) (entry : ℕ × Link) → On d → link_of_file v.links d ≡ Some entry → (link_of_file links d ≡ Some entry) × On entry.1.parent)
      (no_link : link_of_file links 1 ≡ None) where
    at_root : (most dir : ℕ) (name : List ℕ) → (dir == 1) ≡ true → WayUp b most links dir name
    at_root most dir name here = record { above = []; is = rw (eqb-true dir 1 here, no_link) refl; way = eqb-true dir 1 here }

    climb : (steps most dir : ℕ) (name : List ℕ) → steps ≤ most → On dir → is_directory v.files dir ≡ true → leads_to steps v.links 1 dir ≡ true → WayUp b most links dir name
    climb zero most dir name fits on directory leads = at_root most dir name leads
    climb (suc steps) zero dir name fits on directory leads = absurd (omega arith)
    climb (suc steps) (suc most) dir name fits on directory leads = elim (step_of steps v.links 1 dir leads) [
      | inl here ↦ at_root (suc most) dir name here
      | inr up ↦ (let entry : ℕ × Link = up.0 in
          let next = same dir entry on up.1.0 in
          let of : ℕ × Link → Bool = λ e. e.1.file == dir in
          let of_dir : entry.1.file ≡ dir = eqb-true entry.1.file dir (find-passes of v.links entry up.1.0) in
          let there : row_of v.links entry.0 ≡ Some entry.1 = find-all (λ (e : ℕ × Link). row_of v.links e.0 ≡ Some e.1) of v.links entry up.1.0
          (λ k d within. row_of-here v.links v.last_link k d sound.links_numbered within) in
          let told : entry_of b entry.0 ≡ Some (entry.1.parent, entry.1.name, entry.1.file)
          = within entry.0 (entry.1.parent, entry.1.name, entry.1.file) (rw there refl) (rw of_dir directory) in
          let was = entry-of b entry.0 (entry.1.parent, entry.1.name, entry.1.file) told in
          let rest : WayUp b most links entry.1.parent (entry.1.name ++ 92 ∷ name)
          = climb steps most entry.1.parent (entry.1.name ++ 92 ∷ name) (omega (arith, fits)) next.1
          (find-all (λ (e : ℕ × Link). is_directory v.files e.1.parent ≡ true) of v.links entry up.1.0 sound.tree.parents_are_directories) up.1.1 in
          let step : IsAbove b dir name (entry.1.parent, entry.1.name ++ 92 ∷ name)
          = record {
            link = entry.0;
            row = was.0;
            is_there = was.1;
            of_dir = ap (λ (e : ℕ × List ℕ × ℕ). e.2) was.2 ∙ of_dir;
            seen = ap (λ (e : ℕ × List ℕ × ℕ). (e.0, e.1 ++ 92 ∷ name)) (sym was.2);
          } in
          record {
            above = (entry.1.parent, entry.1.name ++ 92 ∷ name) ∷ rest.above;
            is = rw next.0 (ap (λ more. (dir, name) ∷ more) rest.is);
            way = (step, rest.way);
          })
    ]

    -- from where links lead up
    way : (dir : ℕ) (name : List ℕ) → length v.links ≤ length links → On dir → is_directory v.files dir ≡ true → LeadsUp v.links dir → WayUp b (length links) links dir name
    way dir name fits on directory up = climb (length v.links) (length links) dir name fits on directory (is_at_or_below-all v.links 1 dir up.steps up.leads)

  -- from the directory of a link that is there
  way-there : (link : ℕ) (row : Link) (name : List ℕ) → row_of v.links link ≡ Some row → WayUp b (length v.links) v.links row.parent name
  way-there link row name found =
      way v.links (λ d. Unit {0}) (λ d entry on is. (is, tt)) (rootless v sound) row.parent name (omega arith) tt
      (row_of-all (λ (r : Link). is_directory v.files r.parent ≡ true) v.links link row found sound.tree.parents_are_directories)
      (row_of-all (λ (r : Link). LeadsUp v.links r.parent) v.links link row found sound.tree.parents_lead_up)

  -- with a link more, from the directory where it is
  way-new : (dir : ℕ) (row : Link) (name : List ℕ) → TakesEntries v dir → (row.file == 1) ≡ false
      → WayUp b (length (v.links ++ (v.last_link + 1, row) ∷ [])) (v.links ++ (v.last_link + 1, row) ∷ []) dir name
  way-new dir row name takes not_root =
      let more : List (ℕ × Link) = (v.last_link + 1, row) ∷ [] in
      way (v.links ++ more) (λ d. Unit {0}) (λ d entry on is. (rw (find-append (λ (e : ℕ × Link). e.1.file == d) v.links more, is) refl, tt))
      (rw (find-append (λ (e : ℕ × Link). e.1.file == 1) v.links more, rootless v sound, not_root) refl) dir name
      (rw (length-append v.links more) (omega arith)) tt takes.directory takes.leads

  -- with one moved that isn't above the directory where it goes to, from there
  way-moved : (link dir : ℕ) (row : Link) (name called : List ℕ) → SoundFits v (MovesLink link dir name) → row_of v.links link ≡ Some row
      → WayUp b (length (with_link_moved v link dir name).links) (with_link_moved v link dir name).links dir called
  way-moved link dir row name called fits found =
      let change : Link → Link = λ r. record r { parent = dir; name = name } in
      let moved : IsSoundTree (with_link_moved v link dir name) = IsSoundTree-moved v link dir name sound fits.0.directory fits.0.leads fits.0.unmarked fits.1 fits.2 in
      way (with_link_moved v link dir name).links (λ d. (n : ℕ) → leads_to n v.links row.file d ≡ false)
      (λ d entry never is. (
        unmoved-step change v.links v.last_link link row d (λ r. refl) sound.links_numbered found never ∙ is,
        never-next v.links row.file d entry is never,
      ))
      (rootless (with_link_moved v link dir name) moved) dir called (rw (length-map v.links (change_at change link)) (omega arith))
      (never_above v.files v.links row.file dir sound.tree.parents_are_directories fits.0.directory (rw found at fits.1))
      fits.0.directory fits.0.leads

-- ---- what is noted

-- from one volume to the next notes are only added, and each of these is seen up to the root of the first one
pub record NotesUp (b v w : Volume) : Type 0 where
  pub notes : List Change
  pub adds : w.changes ≡ v.changes ++ notes
  pub seen : All (IsSeenUp b) notes

pub up-none : (b v w : Volume) → w.changes ≡ v.changes → NotesUp b v w
up-none b v w same = record { notes = []; adds = same ∙ sym (append-nil v.changes); seen = All-nil (IsSeenUp b) }

pub up-next : (b u v w : Volume) → NotesUp b u v → NotesUp b v w → NotesUp b u w
up-next b u v w one two = record {
  notes = one.notes ++ two.notes;
  adds = two.adds ∙ ap (λ changes. changes ++ two.notes) one.adds ∙ append_assoc u.changes one.notes two.notes;
  seen = All-append (IsSeenUp b) one.notes two.notes one.seen two.seen;
}

one-more : (n : ℕ) → n + 1 ≡ suc n
one-more n = omega arith

-- a note by a link, where its directory has a way up
up-by : (b v : Volume) (link action bits : ℕ) (stream : Option ℕ) → ((row : Link) (name : List ℕ) → row_of v.links link ≡ Some row → WayUp b (length v.links) v.links row.parent name)
    → NotesUp b v (with_change_noted v link action bits stream)
up-by b v link action bits stream up = elim (option_cases (row_of v.links link)) [
  | inl none ↦ rw none (up-none b v v refl)
  | inr some ↦ (let row : Link = some.0 in
      let name : List ℕ = row.name ++ stream_suffix v.streams stream in
      let by : WayUp b (length v.links) v.links row.parent name = up row name some.1 in
      record {
        notes = note_of v row action bits stream ∷ [];
        adds = ap (λ (w : Volume). w.changes) (noted-is v link action bits stream row some.1);
        seen = All-cons (IsSeenUp b) (note_of v row action bits stream) []
            (record { parent = row.parent; name = name; above = by.above; seen = rw (one-more (length v.links)) by.is; way = by.way }) (All-nil (IsSeenUp b));
      })
]

without_link-changes : (v : Volume) (link : ℕ) → (without_link v link).changes ≡ v.changes
without_link-changes v link = elim (option_cases (row_of v.links link)) [
  | inl none ↦ rw none refl
  | inr some ↦ rw some.1 (elim (cases_Bool (has_row (λ l. l.file == some.0.file) (without_row v.links link))) [ inl has ↦ rw has refl | inr gone ↦ rw gone refl ])
]

owner-rest : (v : Volume) (file : ℕ) (owner : Option ℕ) → ((with_owner_asked v file owner).links ≡ v.links) × ((with_owner_asked v file owner).changes ≡ v.changes)
owner-rest v file None = (refl, refl)
owner-rest v file (Some sid) = (refl, refl)

dacl-rest : (v : Volume) (file : ℕ) (dacl : DaclChange) → ((with_dacl_asked v file dacl).links ≡ v.links) × ((with_dacl_asked v file dacl).changes ≡ v.changes)
dacl-rest v file Keep = (refl, refl)
dacl-rest v file Remove = (refl, refl)
dacl-rest v file (Put dacl) = (refl, refl)

security-rest : (v : Volume) (file : ℕ) (owner : Option ℕ) (dacl : DaclChange) → ((with_security_of v file owner dacl).links ≡ v.links) × ((with_security_of v file owner dacl).changes ≡ v.changes)
security-rest v file owner dacl =
    let first = owner-rest v file owner in
    let second = dacl-rest (with_owner_asked v file owner) file dacl in
    (second.0 ∙ first.0, second.1 ∙ first.1)

-- ---- each kind of change

-- what a change asks of the volume before it, so that what it notes is seen up to the root
abbrev pub UpFits : Volume → TreeChange → Type 0
UpFits v (MakesDirectory dir name file) = TakesEntries v dir
UpFits v (MakesFile dir name file) = TakesEntries v dir
UpFits v (AddsLink dir name file) = TakesEntries v dir × (is_directory v.files file ≡ false)
UpFits v (MovesLink link dir name) = SoundFits v (MovesLink link dir name)
UpFits v _ = Unit {0}

up-fits : (v : Volume) (change : TreeChange) → SoundFits v change → UpFits v change
up-fits v (MakesDirectory dir name file) fits = fits.0
up-fits v (MakesFile dir name file) fits = fits.0
up-fits v (AddsLink dir name file) fits = (fits.0, fits.3)
up-fits v (MovesLink link dir name) fits = fits
up-fits v _ fits = tt

module _ (b v : Volume) (sound : IsSoundTree v) (within : Within b v) where
  -- by a link that is there
  up-there : (w : Volume) (link action bits : ℕ) (stream : Option ℕ) → w.links ≡ v.links → NotesUp b w (with_change_noted w link action bits stream)
  up-there w link action bits stream same = up-by b w link action bits stream (λ row name found.
      subst (λ (links : List (ℕ × Link)). WayUp b (length links) links row.parent name) (sym same)
      (way-there b v sound within link row name (ap (λ links. row_of links link) (sym same) ∙ found)))

  -- by a link that has come
  up-new : (w : Volume) (dir : ℕ) (name : List ℕ) (file action bits : ℕ) (stream : Option ℕ) → TakesEntries v dir → (file == 1) ≡ false
      → w.links ≡ v.links ++ (v.last_link + 1, record { parent = dir; name = name; file = file; deleted = false }) ∷ []
      → NotesUp b w (with_change_noted w (v.last_link + 1) action bits stream)
  up-new w dir name file action bits stream takes not_root are = up-by b w (v.last_link + 1) action bits stream (λ row called found.
      let new : Link = record { parent = dir; name = name; file = file; deleted = false } in
      let both : Some new ≡ Some row
      = sym (row_of-push v.links v.last_link (v.last_link + 1) new sound.links_numbered ∙ rw (eq-eqb (v.last_link + 1) (v.last_link + 1) refl) refl)
      ∙ ap (λ links. row_of links (v.last_link + 1)) (sym are) ∙ found in
      let one : new ≡ row = cc in
      subst (λ (its : Link). WayUp b (length w.links) w.links its.parent called) one
      (subst (λ (links : List (ℕ × Link)). WayUp b (length links) links dir called) (sym are) (way-new b v sound within dir new called takes not_root)))

  -- by one that moves: where it was, and where it is then
  up-move : (link dir : ℕ) (name : List ℕ) (old new : ℕ) → SoundFits v (MovesLink link dir name) → NotesUp b v (with_move v link dir name old new)
  up-move link dir name old new fits =
      let noted : Volume = with_change_noted v link old (filter_of_name v link) None in
      let moved : Volume = with_link_moved noted link dir name in
      let change : Link → Link = λ r. record r { parent = dir; name = name } in
      let are : moved.links ≡ (with_link_moved v link dir name).links = ap (λ links. with_row_changed change links link) (noted-links v link old (filter_of_name v link) None) in
      up-next b v moved (with_move v link dir name old new)
      (up-next b v noted moved (up-there v link old (filter_of_name v link) None refl) (up-none b noted moved refl))
      (up-by b moved link new (filter_of_name v link) None (λ row called found.
      let found_then : row_of (with_link_moved v link dir name).links link ≡ Some row = ap (λ links. row_of links link) (sym are) ∙ found in
      elim (option_cases (row_of v.links link)) [
        | inl none ↦ (let impossible : None ≡ Some row = sym (row_of-changed_none change v.links link link none) ∙ found_then in cc)
        | inr was ↦ (let both : Some (change was.0) ≡ Some row
            = sym (row_of-changed_some change v.links link link was.0 was.1 ∙ rw (eq-eqb link link refl) refl) ∙ found_then in
            let one : change was.0 ≡ row = cc in
            subst (λ (its : Link). WayUp b (length moved.links) moved.links its.parent called) one
            (subst (λ (links : List (ℕ × Link)). WayUp b (length links) links dir called) (sym are) (way-moved b v sound within link dir was.0 name called fits was.1)))
      ]))

  up-bytes : (link stream : ℕ) (named : Bool) (filters stream_filters : ℕ) → NotesUp b v (with_bytes_noted v link stream named filters stream_filters)
  up-bytes link stream true filters stream_filters = up-there v link FILE_ACTION_MODIFIED_STREAM stream_filters (Some stream) refl
  up-bytes link stream false filters stream_filters = up-there v link FILE_ACTION_MODIFIED filters None refl

  -- the file that is made isn't the root
  made-not_root : (v.last_file + 1 == 1) ≡ false
  made-not_root = next-not_root v sound

  pub up-change : (change : TreeChange) → UpFits v change → NotesUp b v (with_tree_change v change)
  up-change (MakesDirectory dir name file) takes =
      let made : Volume = with_link (with_file v file) dir name (v.last_file + 1) in
      up-next b v made _ (up-none b v made refl)
      (up-new made dir name (v.last_file + 1) FILE_ACTION_ADDED FILE_NOTIFY_CHANGE_DIR_NAME None takes made-not_root refl)
  up-change (MakesFile dir name file) takes =
      let made : Volume = with_stream (with_link (with_file v file) dir name (v.last_file + 1)) (v.last_file + 1) [] in
      up-next b v made _ (up-none b v made refl)
      (up-new made dir name (v.last_file + 1) FILE_ACTION_ADDED FILE_NOTIFY_CHANGE_FILE_NAME None takes made-not_root refl)
  up-change (MakesStream link file name) fits =
      let made : Volume = with_stream v file name in
      up-next b v made _ (up-none b v made refl) (up-there made link FILE_ACTION_ADDED_STREAM FILE_NOTIFY_CHANGE_STREAM_NAME (Some (v.last_stream + 1)) refl)
  up-change (AddsLink dir name file) fits =
      let made : Volume = with_link v dir name file in
      up-next b v made _ (up-none b v made refl)
      (up-new made dir name file FILE_ACTION_ADDED FILE_NOTIFY_CHANGE_FILE_NAME None fits.0 (not-root v file sound fits.1) refl)
  up-change (MovesLink link dir name) fits = elim (cases_Bool (parent_of v link == dir)) [
    | inl there ↦ rw there (up-move link dir name FILE_ACTION_RENAMED_OLD_NAME FILE_ACTION_RENAMED_NEW_NAME fits)
    | inr elsewhere ↦ rw elsewhere (up-move link dir name FILE_ACTION_REMOVED FILE_ACTION_ADDED fits)
  ]
  up-change (RemovesLink link) fits =
      let noted : Volume = with_change_noted v link FILE_ACTION_REMOVED (filter_of_name v link) None in
      up-next b v noted (without_link noted link) (up-there v link FILE_ACTION_REMOVED (filter_of_name v link) None refl)
      (up-none b noted (without_link noted link) (without_link-changes noted link))
  up-change (RemovesStream link stream) fits =
      let noted : Volume = with_change_noted v link FILE_ACTION_REMOVED_STREAM FILE_NOTIFY_CHANGE_STREAM_NAME (Some stream) in
      up-next b v noted _ (up-there v link FILE_ACTION_REMOVED_STREAM FILE_NOTIFY_CHANGE_STREAM_NAME (Some stream) refl) (up-none b noted _ refl)
  up-change (MarksLink link marked) fits = up-none b v _ refl
  up-change (MarksStream stream marked) fits = up-none b v _ refl
  up-change (Writes link stream at bytes) fits = up-next b v _ _ (up-bytes link stream _ _ _) (up-none b _ _ refl)
  up-change (Resizes link stream end) fits = up-next b v _ _ (up-bytes link stream _ _ _) (up-none b _ _ refl)
  up-change (Overwrites link file stream named attributes) fits = up-next b v _ _ (up-bytes link stream named _ _) (up-none b _ _ refl)
  up-change (SetsBasics link file basics) fits = elim (cases_Bool (basic_bits basics == 0)) [
    | inl none ↦ rw none (up-none b v (with_basics v file basics) refl)
    | inr some ↦ rw some (up-next b v (with_basics v file basics) _ (up-none b v (with_basics v file basics) refl)
        (up-there (with_basics v file basics) link FILE_ACTION_MODIFIED (basic_bits basics) None refl))
  ]
  up-change (SetsSecurity link file owner dacl) fits =
      let set : Volume = with_security_of v file owner dacl in
      let rest = security-rest v file owner dacl in
      elim (cases_Bool (asks_something owner dacl)) [
        | inl asks ↦ rw asks (up-next b v set _ (up-none b v set rest.1) (up-there set link FILE_ACTION_MODIFIED FILE_NOTIFY_CHANGE_SECURITY None rest.0))
        | inr asks_nothing ↦ rw asks_nothing (up-none b v set rest.1)
      ]
  up-change (SetsPoint link file point) fits =
      let set : Volume = with_point v file point in
      up-next b v set _ (up-none b v set refl) (up-there set link FILE_ACTION_MODIFIED FILE_NOTIFY_CHANGE_ATTRIBUTES None refl)
  up-change (SetsChangeTime file) fits = up-none b v _ refl

-- ---- the links of directories, after a change

-- a change that takes away or marks
abbrev pub takes_away : TreeChange → Bool
takes_away (RemovesLink link) = true
takes_away (RemovesStream link stream) = true
takes_away (MarksLink link marked) = true
takes_away (MarksStream stream marked) = true
takes_away _ = false

-- it leaves each link and each directory that is there then as it was
within-left : (b v w : Volume) → OnlyLeft v w → ((file : ℕ) → is_directory w.files file ≡ true → is_directory v.files file ≡ true) → Within b v → Within b w
within-left b v w left directories within link entry there directory = within link entry (left link entry there) (directories entry.2 directory)

within-change : (b v : Volume) (change : TreeChange) → takes_away change ≡ true → Within b v → Within b (with_tree_change v change)
within-change b v (RemovesLink link) takes within =
    let noted : Volume = with_change_noted v link FILE_ACTION_REMOVED (filter_of_name v link) None in
    within-left b v (without_link noted link) (removed-left v link)
    (λ file directory. elim (cases_Bool (is_directory noted.files file)) [
      | inl is ↦ subst (λ (files : List (ℕ × File)). is_directory files file ≡ true) (noted-files v link FILE_ACTION_REMOVED (filter_of_name v link) None) is
      | inr isnt ↦ absurd (both_ways (is_directory (without_link noted link).files file) (no_directory-without noted link file isnt) directory)
    ]) within
within-change b v (RemovesStream link stream) takes within =
    within-left b v (with_tree_change v (RemovesStream link stream))
    (λ other entry there. ap (λ links. option_map (λ (row : Link). (row.parent, row.name, row.file)) (row_of links other))
    (sym (noted-links v link FILE_ACTION_REMOVED_STREAM FILE_NOTIFY_CHANGE_STREAM_NAME (Some stream))) ∙ there)
    (λ file directory. subst (λ (files : List (ℕ × File)). is_directory files file ≡ true) (noted-files v link FILE_ACTION_REMOVED_STREAM FILE_NOTIFY_CHANGE_STREAM_NAME (Some stream)) directory) within
within-change b v (MarksLink link marked) takes within =
    within-left b v (with_link_marked v link marked)
    (λ other entry there. sym (seen-changed (λ (row : Link). record row { deleted = marked }) (λ (row : Link). (row.parent, row.name, row.file)) v.links link other (λ row. refl)) ∙ there)
    (λ file directory. directory) within
within-change b v (MarksStream stream marked) takes within = within-left b v (with_stream_marked v stream marked) (λ other entry there. there) (λ file directory. directory) within
within-change b v (MakesDirectory dir name file) takes within = (let impossible : false ≡ true = takes in cc)
within-change b v (MakesFile dir name file) takes within = (let impossible : false ≡ true = takes in cc)
within-change b v (MakesStream link file name) takes within = (let impossible : false ≡ true = takes in cc)
within-change b v (AddsLink dir name file) takes within = (let impossible : false ≡ true = takes in cc)
within-change b v (MovesLink link dir name) takes within = (let impossible : false ≡ true = takes in cc)
within-change b v (Writes link stream at bytes) takes within = (let impossible : false ≡ true = takes in cc)
within-change b v (Resizes link stream end) takes within = (let impossible : false ≡ true = takes in cc)
within-change b v (Overwrites link file stream named attributes) takes within = (let impossible : false ≡ true = takes in cc)
within-change b v (SetsBasics link file basics) takes within = (let impossible : false ≡ true = takes in cc)
within-change b v (SetsSecurity link file owner dacl) takes within = (let impossible : false ≡ true = takes in cc)
within-change b v (SetsPoint link file point) takes within = (let impossible : false ≡ true = takes in cc)
within-change b v (SetsChangeTime file) takes within = (let impossible : false ≡ true = takes in cc)

-- a file that is made is no directory, and so its link isn't a directory's
pub within-made : (v : Volume) (dir : ℕ) (name : List ℕ) (file : File) → IsSoundTree v → file.directory ≡ false → Within v (with_tree_change v (MakesFile dir name file))
within-made v dir name file sound plain link entry there directory =
    let made : Volume = with_stream (with_link (with_file v file) dir name (v.last_file + 1)) (v.last_file + 1) [] in
    let new : Link = record { parent = dir; name = name; file = v.last_file + 1; deleted = false } in
    let found_then : entry_of made link ≡ Some entry = ap (λ links. option_map (λ (row : Link). (row.parent, row.name, row.file)) (row_of links link))
    (sym (noted-links made (v.last_link + 1) FILE_ACTION_ADDED FILE_NOTIFY_CHANGE_FILE_NAME None)) ∙ there in
    let is : is_directory made.files entry.2 ≡ true
    = subst (λ (files : List (ℕ × File)). is_directory files entry.2 ≡ true) (noted-files made (v.last_link + 1) FILE_ACTION_ADDED FILE_NOTIFY_CHANGE_FILE_NAME None) directory in
    let row_then : row_of made.links link ≡ if link == v.last_link + 1 then Some new else row_of v.links link = row_of-push v.links v.last_link link new sound.links_numbered in
    elim (cases_Bool (link == v.last_link + 1)) [
      | inl here ↦ (let both : Some (dir, name, v.last_file + 1) ≡ Some entry
          = sym (entry_at (Some new) (rw here at row_then)) ∙ found_then in
          let one : (dir, name, v.last_file + 1) ≡ entry = cc in
          let its : is_directory made.files (v.last_file + 1) ≡ true = rw (← one) at is in
          absurd (both_ways (is_directory made.files (v.last_file + 1)) (next-directory v.files v.last_file file sound.files_numbered.given ∙ plain) its))
      | inr apart ↦ sym (entry_at (row_of v.links link) (rw apart at row_then)) ∙ found_then
    ]
  where
    entry_at : (o : Option Link) → row_of (with_link (with_file v file) dir name (v.last_file + 1)).links link ≡ o
        → entry_of (with_link (with_file v file) dir name (v.last_file + 1)) link ≡ option_map (λ (row : Link). (row.parent, row.name, row.file)) o
    entry_at o is = ap (λ (o : Option Link). option_map (λ (row : Link). (row.parent, row.name, row.file)) o) is

-- ---- lists of changes

-- all take away or mark
abbrev pub AllTakeAway : List TreeChange → Type 0
AllTakeAway [] = Unit {0}
AllTakeAway (change ∷ more) = (takes_away change ≡ true) × AllTakeAway more

pub AllTakeAway-append : (one two : List TreeChange) → AllTakeAway one → AllTakeAway two → AllTakeAway (one ++ two)
AllTakeAway-append [] two first second = second
AllTakeAway-append (change ∷ more) two first second = (first.0, AllTakeAway-append more two first.1 second)

pub within-changes : (changes : List TreeChange) (b v : Volume) → AllTakeAway changes → Within b v → Within b (with_tree_changes v changes)
within-changes [] b v all within = within
within-changes (change ∷ more) b v all within = within-changes more b (with_tree_change v change) all.1 (within-change b v change all.0 within)

-- only the change time is set
abbrev is_quiet : List TreeChange → Bool
is_quiet [] = true
is_quiet (SetsChangeTime file ∷ more) = is_quiet more
is_quiet (change ∷ more) = false

-- behind changes that take away or mark there is at most one of another kind that notes anything
abbrev pub IsOrdered : List TreeChange → Type 0
IsOrdered [] = Unit {0}
IsOrdered (change ∷ more) = ((takes_away change ≡ true) × IsOrdered more) ⊎ (is_quiet more ≡ true)

pub all-ordered : (changes : List TreeChange) → AllTakeAway changes → IsOrdered changes
all-ordered [] all = tt
all-ordered (change ∷ more) all = inl (all.0, all-ordered more all.1)

up-quiet : (changes : List TreeChange) (b v : Volume) → is_quiet changes ≡ true → NotesUp b v (with_tree_changes v changes)
up-quiet [] b v quiet = up-none b v v refl
up-quiet (SetsChangeTime file ∷ more) b v quiet =
    up-next b v (with_tree_change v (SetsChangeTime file)) _ (up-none b v _ refl) (up-quiet more b (with_tree_change v (SetsChangeTime file)) quiet)
up-quiet (change ∷ more) b v quiet = (let impossible : false ≡ true = quiet in cc)

-- such a list notes so, where it fits
pub up-changes : (changes : List TreeChange) (b v : Volume) → IsSoundTree v → Within b v → SoundFitsAll v changes → IsOrdered changes → NotesUp b v (with_tree_changes v changes)
up-changes [] b v sound within fits ordered = up-none b v v refl
up-changes (change ∷ more) b v sound within fits ordered =
    let next : Volume = with_tree_change v change in
    up-next b v next (with_tree_changes next more) (up-change b v sound within change (up-fits v change fits.0)) (elim ordered [
      | inl takes ↦ up-changes more b next (sound-change v change fits.0 sound) (within-change b v change takes.0 within) fits.1 takes.1
      | inr quiet ↦ up-quiet more b next quiet
    ])
