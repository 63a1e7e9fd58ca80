-- What a rename and a further link change fits a sound tree: the walk reached a directory that takes entries, a directory doesn't go
-- into itself, and what is replaced is a file, which has nothing in it, and no handle.
use Rattle.std.proofs.Common.{◌≡◌, ℕ, Bool, true, false, ◌==◌, List, [], ◌∷◌, ◌++◌, refl, ap, sym, subst, ◌∙◌, Option, Some, None, inl, inr}
use Rattle.std.specs.List.{find, list_any}
use Rattle.std.specs.Option.{option_map_or}
use Rattle.std.specs.Prelude.{IfSome, ◌&&◌, ◌||◌, not, is_some, if◌then◌else◌}
use Rattle.std.proofs.lemmas.Bool.{and_parts, both_ways, cases_Bool, eqb-true}
use Rattle.fsa_types.specs.Access.{has_any}
use Rattle.fsa_types.specs.Masks.{DELETE, FILE_ACTION_REMOVED, WRITE_DATA}
use Rattle.fsa_types.specs.Paths.{components, rest_of}
use Rattle.fsa_types.specs.Rows.{lives, row_of, without_row}
use Rattle.fsa_types.specs.declared.oplock.Class.TheVariants.{NameChange}
use Rattle.fsa_types.specs.declared.oplock.HandleSet.{HandleSet}
use Rattle.fsa_types.specs.declared.oplock.HandleSet.TheVariants as set
use Rattle.fsa_types.specs.declared.reply.Body.TheVariants.{Nothing, Stopped}
use Rattle.fsa_types.specs.declared.request.Request.TheVariants as request
use Rattle.fsa_types.specs.declared.request.What.{What}
use Rattle.fsa_types.specs.declared.request.What.TheVariants.{Ask}
use Rattle.fsa_types.specs.declared.status.Status.{Status}
use Rattle.fsa_types.specs.declared.status.Status.TheVariants.{AccessDenied, DeletePending, FileIsADirectory, InvalidHandle, InvalidParameter, ObjectNameCollision, ObjectNameInvalid, ObjectPathNotFound, TooManyLinks}
use Rattle.fsa_model.specs.Changes.{with_change_noted}
use Rattle.fsa_model.specs.Close.{named_stream}
use Rattle.fsa_model.specs.Edits.{without_link}
use Rattle.fsa_model.specs.Link.{has_all_links, link_at, link_by, link_file, link_into, link_over, link_over_broken, link_over_closed, link_over_other, link_walked, try_link}
use Rattle.fsa_model.specs.Lookups.{child_of, handle_of, has_row, is_at_or_below, is_directory, is_link_marked, is_named, is_open_by, linked_file, number_of}
use Rattle.fsa_model.specs.Open.{grants, stop_status, stopped}
use Rattle.fsa_model.specs.Outcome.{Outcome, refused}
use Rattle.fsa_model.specs.Rename.{keeps_name, lacks_entry_right, naming_by, rename_at, rename_below_closed, rename_by, rename_directory, rename_done, rename_free, rename_into, rename_link, rename_named, rename_over, rename_over_broken, rename_over_closed, rename_walked, replaced_link, try_rename}
use Rattle.fsa_model.specs.Replacement.{Naming, held_to_name, is_any_open, is_no_name, new_name, replace_fault, waits_to_name, with_name_breaks}
use Rattle.fsa_model.specs.Sound.{IsSoundTree, is_of_living, is_stream_of_link}
use Rattle.fsa_model.specs.Volume.{Change, Handle, Link, Stream, Volume}
use Rattle.fsa_model.specs.Walk.{Walked, Reached, Barred, Diverted, point_of, walk}
use Rattle.fsa_model.proofs.BreakLaws.{with_breaks-rest}
use Rattle.fsa_model.proofs.CoherenceComes.{number_of-row}
use Rattle.fsa_model.proofs.FaultStatuses.{BarsWithout, replace-fails, stop-fails, walk-fails}
use Rattle.fsa_model.proofs.ReplacementLaws.{directory-without, files-without, leads-without, links_without, no_directory-without, others-without, table_without, unmarked-without, unnamed-without}
use Rattle.fsa_model.proofs.RowLaws.{eqb-swap, find-all, find-none, number-none, option_cases, row_of-all, row_of-here}
use Rattle.fsa_model.proofs.SoundLaws.{childless}
use Rattle.fsa_model.proofs.WaitLaws.{find-passes}
use Rattle.history_laws.specs.TreeChanges.{TreeChange, AddsLink, MovesLink, RemovesLink, SetsChangeTime, added_over, changes_asked, changes_linking, changes_of, changes_renaming, filter_of_name, is_under, removed_where, with_tree_change}
use Rattle.history_laws.specs.WaitEnds.{is_success}
use Rattle.history_laws.proofs.FitLists.{by-if, by-option}
use Rattle.history_laws.proofs.SoundKinds.{IsEmpty, SoundFits, SoundFitsAll, TakesEntries, noted-rest, with_changes-sound}
use Rattle.history_laws.proofs.SoundWalks.{walk-takes}
use Rattle.history_laws.proofs.TreeParts.{where_success-fails}

-- ---- what is no directory

-- a link of a file that is no directory is empty
empty-plain : (v : Volume) (link : ℕ) → IsSoundTree v → is_directory v.files (linked_file v link) ≡ false → IsEmpty v link
empty-plain v link sound plain = elim (option_cases (row_of v.links link)) [
  | inl none ↦ rw none tt
  | inr some ↦ rw some.1 (childless v sound some.0.file (rw some.1 at plain))
]

-- the file of a link lives, and is no directory
abbrev IsPlain : Volume → ℕ → Type 0
IsPlain v link = (lives v.files (linked_file v link) ≡ true) × (is_directory v.files (linked_file v link) ≡ false)

-- that is so where a stream is one of the link's file
plain-of : (v : Volume) (link stream : ℕ) → IsSoundTree v → is_stream_of_link v.links v.streams link stream ≡ true → IsPlain v link
plain-of v link stream sound is_of =
    let of_stream : ℕ × Stream → Bool = λ s. s.0 == stream && list_any (λ l. l.0 == link && l.1.file == s.1.file) v.links in
    elim (option_cases (find of_stream v.streams)) [
      | inl none ↦ absurd (both_ways (list_any of_stream v.streams) (find-none of_stream v.streams none) is_of)
      | inr s ↦ (let linked : list_any (λ l. l.0 == link && l.1.file == s.0.1.file) v.links ≡ true = (and_parts (s.0.0 == stream) _ (find-passes of_stream v.streams s.0 s.1)).1 in
          let of_link : ℕ × Link → Bool = λ l. l.0 == link && l.1.file == s.0.1.file in
          elim (option_cases (find of_link v.links)) [
            | inl none ↦ absurd (both_ways (list_any of_link v.links) (find-none of_link v.links none) linked)
            | inr l ↦ (let parts = and_parts (l.0.0 == link) (l.0.1.file == s.0.1.file) (find-passes of_link v.links l.0 l.1) in
                let here : row_of v.links l.0.0 ≡ Some l.0.1 = find-all (λ (e : ℕ × Link). row_of v.links e.0 ≡ Some e.1) of_link v.links l.0 l.1
                (λ k d within. row_of-here v.links v.last_link k d sound.links_numbered within) in
                let found : row_of v.links link ≡ Some l.0.1 = ap (λ id. row_of v.links id) (sym (eqb-true l.0.0 link parts.0)) ∙ here in
                let file : linked_file v link ≡ l.0.1.file = rw found refl in
                let same : l.0.1.file ≡ s.0.1.file = eqb-true _ _ parts.1 in
                rw file (
                  find-all (λ (e : ℕ × Link). lives v.files e.1.file ≡ true) of_link v.links l.0 l.1 sound.tree.link_files_live,
                  rw same (find-all (λ (e : ℕ × Stream). is_directory v.files e.1.file ≡ false) of_stream v.streams s.0 s.1 sound.tree.directories_have_no_stream),
                ))
          ])
    ]

-- and where a handle by the link has a stream
plain-by : (v : Volume) (id : ℕ) (row : Handle) → IsSoundTree v → row_of v.handles id ≡ Some row → is_some row.stream ≡ true → IsPlain v row.link
plain-by v id row sound is has = elim (option_cases row.stream) [
  | inl none ↦ (let impossible : false ≡ true = rw none at has in cc)
  | inr stream ↦ (let living : is_of_living v.links v.streams row ≡ true = row_of-all (λ row. is_of_living v.links v.streams row ≡ true) v.handles id row is sound.are_of_living in
      let parts = and_parts (row.link == 0 || lives v.links row.link) (option_map_or (λ s. is_stream_of_link v.links v.streams row.link s) row.stream true) living in
      plain-of v row.link stream.0 sound (rw stream.1 at parts.1))
]

-- ---- without the link that is replaced

-- its directory still takes entries, and its name is free there
module _ (v : Volume) (target dir : ℕ) (name : List ℕ) (sound : IsSoundTree v) (takes : TakesEntries v dir) (named : child_of v dir name ≡ Some target) where
  takes-without : IsEmpty v target → TakesEntries (without_link v target) dir
  takes-without empty = record {
    directory = directory-without v target dir name empty named takes.directory;
    leads = leads-without v target dir name sound.links_numbered empty named takes.leads;
    unmarked = unmarked-without v target dir takes.unmarked;
  }

  free-without : child_of (without_link v target) dir name ≡ None
  free-without =
      let it = number_of-row (is_named v.table dir name) v.links target sound.links_numbered.rising named in
      ap (λ table. number_of (is_named table dir name) (without_link v target).links) (table_without v target it.0 it.1)
      ∙ ap (λ links. number_of (is_named v.table dir name) links) (links_without v target it.0 it.1)
      ∙ number-none (is_named v.table dir name) (without_row v.links target) (unnamed-without v target dir name it.0 sound it.1 named)

-- so it does whatever is noted
notes-takes : (v : Volume) (changes : List Change) (dir : ℕ) → TakesEntries v dir → TakesEntries (record v { changes = changes }) dir
notes-takes v changes dir takes = record { directory = takes.directory; leads = takes.leads; unmarked = takes.unmarked }

-- so it is once the removal is noted and made: a link may move there, or come
module _ (v : Volume) (target dir : ℕ) (name : List ℕ) (sound : IsSoundTree v) (takes : TakesEntries v dir) (named : child_of v dir name ≡ Some target)
    (plain : is_directory v.files (linked_file v target) ≡ false) where
  abbrev noted : Volume
  noted = record v { changes = (with_change_noted v target FILE_ACTION_REMOVED (filter_of_name v target) None).changes }

  removed-is : with_tree_change v (RemovesLink target) ≡ without_link noted target
  removed-is = ap (λ w. without_link w target) (noted-rest v target FILE_ACTION_REMOVED (filter_of_name v target) None)

  removed-takes : TakesEntries (without_link noted target) dir
  removed-takes = takes-without noted target dir name (with_changes-sound v noted.changes sound) (notes-takes v noted.changes dir takes) named (empty-plain v target sound plain)

  removed-free : child_of (without_link noted target) dir name ≡ None
  removed-free = free-without noted target dir name (with_changes-sound v noted.changes sound) (notes-takes v noted.changes dir takes) named

  removed-moves : (link : ℕ) → (target == link) ≡ false → is_directory v.files (linked_file v link) ≡ false → SoundFits (with_tree_change v (RemovesLink target)) (MovesLink link dir name)
  removed-moves link apart own = subst (λ w. SoundFits w (MovesLink link dir name)) (sym removed-is) (removed-takes, rw still refl, rw removed-free tt)
    where
      still : is_directory (without_link noted target).files (linked_file (without_link noted target) link) ≡ false
      still = ap (λ found. is_directory (without_link noted target).files (option_map_or (λ (its : Link). its.file) found 0)) (others-without noted target link (eqb-swap link target ∙ apart))
          ∙ no_directory-without noted target (linked_file v link) own

  removed-adds : (file : ℕ) → (linked_file v target == file) ≡ false → lives v.files file ≡ true → is_directory v.files file ≡ false
      → SoundFits (with_tree_change v (RemovesLink target)) (AddsLink dir name file)
  removed-adds file apart living own = subst (λ w. SoundFits w (AddsLink dir name file)) (sym removed-is)
      (removed-takes, removed-free, files-without noted target file living apart, no_directory-without noted target file own)

-- ---- what is changed

-- what is asked of a link that is replaced: it's no directory's, and has no handle
abbrev CanGo : Volume → ℕ → Type 0
CanGo v target = (is_directory v.files (linked_file v target) ≡ false) × (has_row (is_open_by target) v.handles ≡ false)

-- a rename to this directory, and what it replaces there
abbrev renamed : Volume → Naming → ℕ → Option ℕ → List TreeChange
renamed v naming dir replaced = if is_under v naming.link dir (new_name naming) then [] else removed_where replaced ++ MovesLink naming.link dir (new_name naming) ∷ SetsChangeTime naming.file ∷ []

renamed-fits : (v : Volume) (naming : Naming) (dir : ℕ) (replaced : Option ℕ) → SoundFitsAll v (removed_where replaced ++ MovesLink naming.link dir (new_name naming) ∷ SetsChangeTime naming.file ∷ [])
    → SoundFitsAll v (renamed v naming dir replaced)
renamed-fits v naming dir replaced fits = elim (cases_Bool (is_under v naming.link dir (new_name naming))) [
  | inl kept ↦ rw kept tt
  | inr new ↦ rw new fits
]

-- nothing is replaced where the name is free, or the link's own
own-name : (v : Volume) (naming : Naming) (dir : ℕ) → replaced_link v naming dir ≡ None → IfSome (child_of v dir (new_name naming)) (λ other. (other == naming.link) ≡ true)
own-name v naming dir none = elim (option_cases (child_of v dir (new_name naming))) [
  | inl free ↦ rw free tt
  | inr some ↦ rw some.1 (elim (cases_Bool (some.0 == naming.link)) [
    | inl own ↦ own
    | inr other ↦ (let impossible : Some some.0 ≡ None = rw (some.1, other) at none in cc)
  ])
]

-- else the link of the name, another one
other-name : (v : Volume) (naming : Naming) (dir target : ℕ) → replaced_link v naming dir ≡ Some target → (child_of v dir (new_name naming) ≡ Some target) × ((target == naming.link) ≡ false)
other-name v naming dir target there = elim (option_cases (child_of v dir (new_name naming))) [
  | inl free ↦ (let impossible : None ≡ Some target = rw free at there in cc)
  | inr some ↦ elim (cases_Bool (some.0 == naming.link)) [
    | inl own ↦ (let impossible : None ≡ Some target = rw (some.1, own) at there in cc)
    | inr other ↦ (let is : Some some.0 ≡ Some target = rw (some.1, other) at there in let same : some.0 ≡ target = cc in (some.1 ∙ is, rw (← same) other))
  ]
]

-- a test that finds nothing has failed, and so have those after it
none-if : {T : Type 0} (test : Bool) (item : T) (other : Option T) → (if test then Some item else other) ≡ None → (test ≡ false) × (other ≡ None)
none-if true item other none = cc
none-if false item other none = (refl, none)

-- a link that may be replaced is no directory's, and neither is the one in its place
plain-replaced : (u : Volume) (naming : Naming) (target : ℕ) → replace_fault u naming target ≡ None
    → (is_directory u.files (linked_file u target) ≡ false) × (is_directory u.files naming.file ≡ false)
plain-replaced u naming target none =
    let marked = none-if (is_link_marked u target) DeletePending _ none in
    let leave = none-if (not naming.replace) ObjectNameCollision _ marked.1 in
    let its = none-if (is_directory u.files (linked_file u target)) AccessDenied _ leave.1 in
    let own = none-if (is_directory u.files naming.file) AccessDenied _ its.1 in
    (its.0, own.0)

-- ---- how the parts end

-- the same table, files, links and handles
record Beside (v u : Volume) : Type 0 where
  table : u.table ≡ v.table
  files : u.files ≡ v.files
  links : u.links ≡ v.links
  handles : u.handles ≡ v.handles

Beside-same : (v : Volume) → Beside v v
Beside-same v = record { table = refl; files = refl; links = refl; handles = refl }

-- breaks leave them
Beside-names : (v u : Volume) (naming : Naming) (on : HandleSet) → Beside v u → Beside v (with_name_breaks u naming on)
Beside-names v u naming on beside = subst (Beside v) (sym (with_breaks-rest u on NameChange (Some naming.handle) naming.key))
    (record { table = beside.table; files = beside.files; links = beside.links; handles = beside.handles })

-- what may go, told beside
goes-beside : (v u w : Volume) (naming : Naming) (target : ℕ) → Beside v u → Beside v w → replace_fault u naming target ≡ None → is_any_open w (set.Link target) ≡ false
    → CanGo v target × (is_directory v.files naming.file ≡ false)
goes-beside v u w naming target beside after none closed =
    let plain = plain-replaced u naming target none in
    ((rw (beside.files, beside.links) at plain.0, rw after.handles at closed), rw beside.files at plain.1)

replaced-beside : (v u : Volume) (naming : Naming) (dir : ℕ) → Beside v u → replaced_link u naming dir ≡ replaced_link v naming dir
replaced-beside v u naming dir beside = rw (beside.links, beside.table) refl

module _ (v : Volume) (client number : ℕ) (what : What) where
  -- what the outcome changes fits
  abbrev Fitting : Outcome → Type 0
  Fitting outcome = SoundFitsAll v (changes_of v client number what outcome)

  -- it ends with another status
  not_made : (u : Volume) (status : Status) → is_success status ≡ false → Fitting (refused u status)
  not_made u status fails = rw (where_success-fails status (changes_asked v client number what Nothing) fails) tt

  -- a reparse point stops it
  stops : (file : ℕ) (rest : List ℕ) → Fitting (stopped v file rest)
  unfolding stopped
  stops file rest = by-option Fitting (point_of v file) _ _
      (λ point is. rw (where_success-fails (stop_status point.0) (changes_asked v client number what (Stopped point.0 point.1 rest)) (stop-fails is_success point.0 refl refl)) tt)
      (λ isnt. not_made v ObjectPathNotFound refl)

  -- a fault of the link that can't be replaced, or what goes on
  unless_fault : (u : Volume) (naming : Naming) (link : ℕ) (other : Outcome) → (replace_fault u naming link ≡ None → Fitting other)
      → Fitting (option_map_or (λ status. refused u status) (replace_fault u naming link) other)
  unless_fault u naming link other goes = by-option Fitting (replace_fault u naming link) _ other
      (λ status is. not_made u status (replace-fails is_success u naming link status refl refl refl is)) goes

  -- held until breaks have ended, or what goes on
  unless_held : (u : Volume) (naming : Naming) (on : HandleSet) (other : Outcome) → Fitting other → Fitting (if waits_to_name u naming on then held_to_name u naming on else other)
  unless_held u naming on other goes = by-if Fitting (waits_to_name u naming on) _ other (λ waits. tt) (λ free. goes)

  -- ---- a rename

  rename-free : (u : Volume) (naming : Naming) (dir : ℕ) (replaced : Option ℕ) → SoundFitsAll v (changes_asked v client number what Nothing) → Fitting (rename_free u naming dir replaced)
  unfolding rename_free rename_done
  rename-free u naming dir replaced fits = unless_held u naming (set.Link naming.link) _
      (by-if Fitting (keeps_name (with_name_breaks u naming (set.Link naming.link)) naming dir) _ _ (λ kept. fits) (λ new. fits))

  rename-over : (u : Volume) (naming : Naming) (dir target : ℕ) → Beside v u → (CanGo v target → is_directory v.files naming.file ≡ false → SoundFitsAll v (changes_asked v client number what Nothing))
      → Fitting (rename_over u naming dir target)
  unfolding rename_over rename_over_broken rename_over_closed
  rename-over u naming dir target beside fits =
      let broken : Volume = with_name_breaks u naming (set.Link target) in
      unless_fault u naming target _ (λ none. unless_held u naming (set.Link target) _
      (by-if Fitting (is_any_open broken (set.Link target)) _ _ (λ opened. not_made broken AccessDenied refl)
      (λ closed. let goes = goes-beside v u broken naming target beside (Beside-names v u naming (set.Link target) beside) none closed in
      rename-free broken naming dir (Some target) (fits goes.0 goes.1))))

  rename-named : (u : Volume) (naming : Naming) (dir : ℕ) → IsSoundTree v → TakesEntries v dir → naming.file ≡ linked_file v naming.link
      → (is_directory v.files naming.file && is_at_or_below v.links naming.file dir) ≡ false → Beside v u
      → changes_asked v client number what Nothing ≡ changes_renaming v naming (Reached dir) → Fitting (rename_named u naming dir)
  unfolding rename_named
  rename-named u naming dir sound takes its apart beside asked = by-if Fitting (lacks_entry_right u naming dir) _ _ (λ lacks. not_made u AccessDenied refl)
      (λ has. by-option Fitting (replaced_link u naming dir) _ _
      (λ target there. rename-over u naming dir target beside (λ goes plain. fits (Some target) (same ∙ there) (over target (same ∙ there) goes plain)))
      (λ none. rename-free u naming dir None (fits None (same ∙ none) (free (same ∙ none)))))
    where
      same : replaced_link v naming dir ≡ replaced_link u naming dir
      same = sym (replaced-beside v u naming dir beside)

      fits : (replaced : Option ℕ) → replaced_link v naming dir ≡ replaced → SoundFitsAll v (removed_where replaced ++ MovesLink naming.link dir (new_name naming) ∷ SetsChangeTime naming.file ∷ [])
          → SoundFitsAll v (changes_asked v client number what Nothing)
      fits replaced is all = rw (asked ∙ ap (renamed v naming dir) is) (renamed-fits v naming dir replaced all)

      free : replaced_link v naming dir ≡ None → SoundFitsAll v (MovesLink naming.link dir (new_name naming) ∷ SetsChangeTime naming.file ∷ [])
      free none = ((takes, rw its at apart, own-name v naming dir none), (tt, tt))

      over : (target : ℕ) → replaced_link v naming dir ≡ Some target → CanGo v target → is_directory v.files naming.file ≡ false
          → SoundFitsAll v (RemovesLink target ∷ MovesLink naming.link dir (new_name naming) ∷ SetsChangeTime naming.file ∷ [])
      over target there goes plain =
          let other = other-name v naming dir target there in
          ((empty-plain v target sound goes.0, goes.1), (removed-moves v target dir (new_name naming) sound takes other.0 goes.0 naming.link other.1 (rw its at plain), (tt, tt)))

  rename-into : (naming : Naming) (dir : ℕ) → IsSoundTree v → TakesEntries v dir → naming.file ≡ linked_file v naming.link
      → changes_asked v client number what Nothing ≡ changes_renaming v naming (Reached dir) → Fitting (rename_into v naming dir)
  unfolding rename_into rename_directory rename_below_closed
  rename-into naming dir sound takes its asked =
      let below : HandleSet = set.Below naming.file in
      let broken : Volume = with_name_breaks v naming below in
      by-if Fitting (is_directory v.files naming.file) _ _
      (λ directory. by-if Fitting (is_at_or_below v.links naming.file dir) _ _ (λ inside. not_made v AccessDenied refl)
      (λ outside. unless_held v naming below _
      (by-if Fitting (is_any_open broken below) _ _ (λ opened. not_made broken AccessDenied refl)
      (λ closed. rename-named broken naming dir sound takes its (rw (directory, outside) refl) (Beside-names v v naming below (Beside-same v)) asked))))
      (λ plain. rename-named v naming dir sound takes its (rw plain refl) (Beside-same v) asked)

  rename-walked : (naming : Naming) (walked : Walked) → walk v (components naming.path) ≡ walked → BarsWithout is_success walked → IsSoundTree v → naming.file ≡ linked_file v naming.link
      → changes_asked v client number what Nothing ≡ changes_renaming v naming walked → Fitting (rename_walked v naming walked)
  unfolding rename_walked
  rename-walked naming (Reached dir) reached undone sound its asked = rename-into naming dir sound (walk-takes v (components naming.path) dir sound reached) its asked
  rename-walked naming (Barred status) barred undone sound its asked = not_made v status undone
  rename-walked naming (Diverted file next) diverted undone sound its asked = stops file (rest_of naming.path next)

  rename-by : (id : ℕ) (handle : Handle) (path : List ℕ) (replace : Bool) → IsSoundTree v
      → changes_asked v client number what Nothing ≡ changes_renaming v (naming_by v id handle path replace) (walk v (components path)) → Fitting (rename_by v id handle path replace)
  unfolding rename_by rename_link
  rename-by id handle path replace sound asked =
      by-if Fitting (handle.link == 0 || is_some (named_stream v handle)) _ _ (λ nameless. not_made v InvalidParameter refl)
      (λ named. by-if Fitting (not (has_any handle.access DELETE)) _ _ (λ lacks. not_made v AccessDenied refl)
      (λ has. by-if Fitting (is_link_marked v handle.link) _ _ (λ marked. not_made v AccessDenied refl)
      (λ kept. by-if Fitting (is_no_name path) _ _ (λ bad. not_made v ObjectNameInvalid refl)
      (λ good. rename-walked (naming_by v id handle path replace) (walk v (components path)) refl (walk-fails is_success refl refl v (components path) 1 0) sound refl asked))))

  -- ---- a further link

  link-over_other : (naming : Naming) (dir target : ℕ) → (CanGo v target → SoundFitsAll v (changes_asked v client number what Nothing)) → Fitting (link_over_other v naming dir target)
  unfolding link_over_other link_over_broken link_over_closed
  link-over_other naming dir target fits =
      let broken : Volume = with_name_breaks v naming (set.Link target) in
      unless_fault v naming target _ (λ none. unless_held v naming (set.Link target) _
      (by-if Fitting (is_any_open broken (set.Link target)) _ _ (λ opened. not_made broken AccessDenied refl)
      (λ closed. fits (goes-beside v v broken naming target (Beside-same v) (Beside-names v v naming (set.Link target) (Beside-same v)) none closed).0)))

  link-over : (naming : Naming) (dir target : ℕ) → IsSoundTree v → TakesEntries v dir → lives v.files naming.file ≡ true → is_directory v.files naming.file ≡ false
      → child_of v dir (new_name naming) ≡ Some target → changes_asked v client number what Nothing ≡ added_over v naming dir target → Fitting (link_over v naming dir target)
  unfolding link_over
  link-over naming dir target sound takes living plain named asked = elim (cases_Bool (linked_file v target == naming.file)) [
    | inl same ↦ rw same (by-if Fitting naming.replace _ _ (λ replaces. rw (asked, same) tt) (λ keeps. not_made v ObjectNameCollision refl))
    | inr differs ↦ rw differs (link-over_other naming dir target (λ goes. rw (asked, differs)
        ((empty-plain v target sound goes.0, goes.1), (removed-adds v target dir (new_name naming) sound takes named goes.0 naming.file differs living plain, (tt, tt)))))
  ]

  link-into : (naming : Naming) (dir : ℕ) → IsSoundTree v → TakesEntries v dir → lives v.files naming.file ≡ true → is_directory v.files naming.file ≡ false
      → changes_asked v client number what Nothing ≡ changes_linking v naming (Reached dir) → Fitting (link_into v naming dir)
  unfolding link_into
  link-into naming dir sound takes living plain asked = by-if Fitting (not (grants v dir naming.client WRITE_DATA)) _ _ (λ lacks. not_made v AccessDenied refl)
      (λ has. by-option Fitting (child_of v dir (new_name naming)) _ _ (λ target there. link-over naming dir target sound takes living plain there (rw there at asked))
      (λ none. rw (asked, none) ((takes, none, living, plain), (tt, tt))))

  link-walked : (naming : Naming) (walked : Walked) → walk v (components naming.path) ≡ walked → BarsWithout is_success walked → IsSoundTree v
      → lives v.files naming.file ≡ true → is_directory v.files naming.file ≡ false → changes_asked v client number what Nothing ≡ changes_linking v naming walked → Fitting (link_walked v naming walked)
  unfolding link_walked
  link-walked naming (Reached dir) reached undone sound living plain asked = link-into naming dir sound (walk-takes v (components naming.path) dir sound reached) living plain asked
  link-walked naming (Barred status) barred undone sound living plain asked = not_made v status undone
  link-walked naming (Diverted file next) diverted undone sound living plain asked = stops file (rest_of naming.path next)

  link-by : (id : ℕ) (handle : Handle) (path : List ℕ) (replace : Bool) → IsSoundTree v → row_of v.handles id ≡ Some handle
      → changes_asked v client number what Nothing ≡ changes_linking v (naming_by v id handle path replace) (walk v (components path)) → Fitting (link_by v id handle path replace)
  unfolding link_by link_file
  link-by id handle path replace sound is asked = elim (cases_Bool (is_some handle.stream)) [
    | inr directory ↦ rw directory (not_made v FileIsADirectory refl)
    | inl some ↦ rw some (let plain = plain-by v id handle sound is some in
        by-if Fitting (is_some (named_stream v handle)) _ _ (λ named. not_made v InvalidParameter refl)
        (λ default. by-if Fitting (is_link_marked v handle.link) _ _ (λ marked. not_made v AccessDenied refl)
        (λ kept. by-if Fitting (has_all_links v (linked_file v handle.link)) _ _ (λ all. not_made v TooManyLinks refl)
        (λ fewer. by-if Fitting (is_no_name path) _ _ (λ bad. not_made v ObjectNameInvalid refl)
        (λ good. link-walked (naming_by v id handle path replace) (walk v (components path)) refl (walk-fails is_success refl refl v (components path) 1 0) sound plain.0 plain.1 asked)))))
  ]

-- ---- the tries

-- what a rename changes fits
pub rename-fits : (v : Volume) (client number handle : ℕ) (path : List ℕ) (replace : Bool) → IsSoundTree v
    → SoundFitsAll v (changes_of v client number (Ask (request.Rename handle path replace)) (try_rename v client handle path replace))
unfolding try_rename rename_at
rename-fits v client number handle path replace sound =
    let what : What = Ask (request.Rename handle path replace) in
    by-option (Fitting v client number what) (handle_of v client handle) _ _
    (λ id opened. by-option (Fitting v client number what) (row_of v.handles id) _ _ (λ row living. rename-by v client number what id row path replace sound (rw (opened, living) refl))
    (λ none. not_made v client number what v InvalidHandle refl))
    (λ none. not_made v client number what v InvalidHandle refl)

-- what a further link changes fits
pub link-fits : (v : Volume) (client number handle : ℕ) (path : List ℕ) (replace : Bool) → IsSoundTree v
    → SoundFitsAll v (changes_of v client number (Ask (request.Link handle path replace)) (try_link v client handle path replace))
unfolding try_link link_at
link-fits v client number handle path replace sound =
    let what : What = Ask (request.Link handle path replace) in
    by-option (Fitting v client number what) (handle_of v client handle) _ _
    (λ id opened. by-option (Fitting v client number what) (row_of v.handles id) _ _ (λ row living. link-by v client number what id row path replace sound living (rw (opened, living) refl))
    (λ none. not_made v client number what v InvalidHandle refl))
    (λ none. not_made v client number what v InvalidHandle refl)
