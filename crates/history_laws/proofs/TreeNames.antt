-- What a try of a rename or of a further link leaves of files, links and streams: what its changes leave, in whichever way it ends.
use Rattle.std.proofs.Common.{◌≡◌, ℕ, Bool, false, not, ◌==◌, List, [], ◌∷◌, ◌++◌, refl, ap, sym, ◌∙◌, Option, Some, None, inl, inr}
use Rattle.std.specs.Option.{option_map_or}
use Rattle.std.specs.Prelude.{◌||◌, is_some, if◌then◌else◌}
use Rattle.std.proofs.lemmas.Bool.{cases_Bool}
use Rattle.fsa_types.specs.Access.{has_any}
use Rattle.fsa_types.specs.Masks.{DELETE, WRITE_DATA}
use Rattle.fsa_types.specs.Paths.{components, rest_of}
use Rattle.fsa_types.specs.Rows.{row_of}
use Rattle.fsa_types.specs.declared.oplock.Class.TheVariants.{NameChange}
use Rattle.fsa_types.specs.declared.oplock.HandleSet.{HandleSet}
use Rattle.fsa_types.specs.declared.oplock.HandleSet.TheVariants as set
use Rattle.fsa_types.specs.declared.reply.Body.TheVariants.{Nothing, Stopped}
use Rattle.fsa_types.specs.declared.request.Request.TheVariants as request
use Rattle.fsa_types.specs.declared.request.What.{What}
use Rattle.fsa_types.specs.declared.request.What.TheVariants.{Ask}
use Rattle.fsa_types.specs.declared.status.Status.{Status}
use Rattle.fsa_types.specs.declared.status.Status.TheVariants.{Success, AccessDenied, FileIsADirectory, InvalidHandle, InvalidParameter, ObjectNameCollision, ObjectNameInvalid, ObjectPathNotFound, TooManyLinks}
use Rattle.fsa_model.specs.Close.{named_stream}
use Rattle.fsa_model.specs.Link.{has_all_links, link_at, link_by, link_file, link_into, link_over, link_over_broken, link_over_closed, link_over_other, link_walked, try_link, with_linked}
use Rattle.fsa_model.specs.Lookups.{child_of, handle_of, is_at_or_below, is_directory, is_link_marked, linked_file}
use Rattle.fsa_model.specs.Open.{grants, stop_status, stopped}
use Rattle.fsa_model.specs.Outcome.{Outcome, refused}
use Rattle.fsa_model.specs.Rename.{keeps_name, lacks_entry_right, naming_by, rename_at, rename_below_closed, rename_by, rename_directory, rename_done, rename_free, rename_into, rename_link, rename_named, rename_over, rename_over_broken, rename_over_closed, rename_walked, replaced_link, try_rename, with_renamed}
use Rattle.fsa_model.specs.Replacement.{Naming, held_to_name, is_any_open, is_no_name, new_name, replace_fault, waits_to_name, with_name_breaks}
use Rattle.fsa_model.specs.Volume.{Handle, Volume}
use Rattle.fsa_model.specs.Walk.{Walked, Reached, Barred, Diverted, point_of, walk}
use Rattle.fsa_model.proofs.BreakLaws.{with_breaks-rest}
use Rattle.fsa_model.proofs.FaultStatuses.{BarsWithout, replace-fails, stop-fails, walk-fails}
use Rattle.fsa_model.proofs.RowLaws.{option_cases}
use Rattle.history_laws.specs.TreeChanges.{LeavesChanges, is_under, TreeChange, MovesLink, SetsChangeTime, added_link, added_over, changes_asked, changes_linking, changes_renaming, removed_where, with_tree_changes}
use Rattle.history_laws.specs.WaitEnds.{is_success}
use Rattle.history_laws.proofs.TreeParts.{Alike, Alike-breaks, Alike-next, Alike-same, SameTree-same, leaves-held_by, leaves-if, leaves-made, leaves-none, leaves-option, where_success-fails}

-- ---- what is changed

-- the changes of a new name: the link that has it goes, and the renamed one moves
abbrev moved : Naming → ℕ → Option ℕ → List TreeChange
moved naming dir replaced = removed_where replaced ++ MovesLink naming.link dir (new_name naming) ∷ SetsChangeTime naming.file ∷ []

moved-made : (u : Volume) (naming : Naming) (dir : ℕ) (replaced : Option ℕ) → with_tree_changes u (moved naming dir replaced) ≡ with_renamed u naming dir replaced
moved-made u naming dir None = refl
moved-made u naming dir (Some link) = refl

-- a name that is kept changes nothing
abbrev renamed : Volume → Naming → ℕ → Option ℕ → List TreeChange
renamed v naming dir replaced = if is_under v naming.link dir (new_name naming) then [] else moved naming dir replaced

-- those of a further link
abbrev added : Naming → ℕ → Option ℕ → List TreeChange
added naming dir replaced = removed_where replaced ++ added_link naming dir

-- ---- what is found alike

-- a name is kept, and a link replaced, alike
keeps-alike : (v u : Volume) (naming : Naming) (dir : ℕ) → Alike v u → keeps_name u naming dir ≡ keeps_name v naming dir
keeps-alike v u naming dir alike = rw alike.links refl

-- it's kept where the link is in this directory under this name
keeps-under : (v : Volume) (naming : Naming) (dir : ℕ) → keeps_name v naming dir ≡ is_under v naming.link dir (new_name naming)
keeps-under v naming dir = elim (option_cases (row_of v.links naming.link)) [
  | inl none ↦ rw none (elim (cases_Bool (0 == dir)) [ inl root ↦ rw root refl | inr other ↦ rw other refl ])
  | inr some ↦ rw some.1 (elim (cases_Bool (some.0.parent == dir)) [ inl there ↦ rw there refl | inr elsewhere ↦ rw elsewhere refl ])
]

replaced-alike : (v u : Volume) (naming : Naming) (dir : ℕ) → Alike v u → u.table ≡ v.table → replaced_link u naming dir ≡ replaced_link v naming dir
replaced-alike v u naming dir alike table = rw (alike.links, table) refl

-- breaks leave the case table, and what is alike
table-breaks : (v : Volume) (naming : Naming) (on : HandleSet) → (with_name_breaks v naming on).table ≡ v.table
table-breaks v naming on = rw (with_breaks-rest v on NameChange (Some naming.handle) naming.key) refl

Alike-names : (v u : Volume) (naming : Naming) (on : HandleSet) → Alike v u → Alike v (with_name_breaks u naming on)
Alike-names v u naming on alike = Alike-next v u _ alike (Alike-breaks u on NameChange (Some naming.handle) naming.key)

-- ---- how the parts end

module _ (v : Volume) (client number : ℕ) (what : What) where
  -- it ends with another status, or is held
  not_made : (u : Volume) (status : Status) → is_success status ≡ false → Alike v u → LeavesChanges v client number what (refused u status)
  not_made u status fails alike =
      leaves-none v u client number what (record { status = status; body = Nothing }) (where_success-fails status (changes_asked v client number what Nothing) fails) alike

  held : (u : Volume) (naming : Naming) (on : HandleSet) → Alike v u → LeavesChanges v client number what (held_to_name u naming on)
  held u naming on alike = leaves-held_by v u client number what on NameChange (Some naming.handle) naming.key alike

  -- a reparse point stops it
  stops : (file : ℕ) (rest : List ℕ) → LeavesChanges v client number what (stopped v file rest)
  unfolding stopped
  stops file rest = leaves-option v client number what (point_of v file) _ _
      (λ point is. leaves-none v v client number what (record { status = stop_status point.0; body = Stopped point.0 point.1 rest })
      (where_success-fails (stop_status point.0) (changes_asked v client number what (Stopped point.0 point.1 rest)) (stop-fails is_success point.0 refl refl)) (Alike-same v))
      (λ isnt. not_made v ObjectPathNotFound refl (Alike-same v))

  -- a fault of the link that can't be replaced, or what goes on
  unless_fault : (u : Volume) (naming : Naming) (link : ℕ) (other : Outcome) → Alike v u → LeavesChanges v client number what other
      → LeavesChanges v client number what (option_map_or (λ status. refused u status) (replace_fault u naming link) other)
  unless_fault u naming link other alike goes = leaves-option v client number what (replace_fault u naming link) _ other
      (λ status is. not_made u status (replace-fails is_success u naming link status refl refl refl is) alike) (λ none. goes)

  -- ---- a rename

  rename-done : (u : Volume) (naming : Naming) (dir : ℕ) (replaced : Option ℕ) → Alike v u
      → changes_asked v client number what Nothing ≡ renamed v naming dir replaced → LeavesChanges v client number what (rename_done u naming dir replaced)
  unfolding rename_done
  rename-done u naming dir replaced alike asked = elim (cases_Bool (is_under v naming.link dir (new_name naming))) [
    | inl keeps ↦ rw (keeps-alike v u naming dir alike ∙ keeps-under v naming dir, keeps) (leaves-none v u client number what (record { status = Success; body = Nothing }) (rw keeps at asked) alike)
    | inr new ↦ rw (keeps-alike v u naming dir alike ∙ keeps-under v naming dir, new)
        (leaves-made v u (with_renamed u naming dir replaced) client number what (record { status = Success; body = Nothing }) (moved naming dir replaced) (rw new at asked) alike
        (rw (moved-made u naming dir replaced) (SameTree-same (with_renamed u naming dir replaced))))
  ]

  rename-free : (u : Volume) (naming : Naming) (dir : ℕ) (replaced : Option ℕ) → Alike v u
      → changes_asked v client number what Nothing ≡ renamed v naming dir replaced → LeavesChanges v client number what (rename_free u naming dir replaced)
  unfolding rename_free
  rename-free u naming dir replaced alike asked = leaves-if v client number what (waits_to_name u naming (set.Link naming.link)) _ _ (λ waits. held u naming (set.Link naming.link) alike)
      (λ free. rename-done (with_name_breaks u naming (set.Link naming.link)) naming dir replaced (Alike-names v u naming (set.Link naming.link) alike) asked)

  rename-over_closed : (u : Volume) (naming : Naming) (dir replaced : ℕ) → Alike v u
      → changes_asked v client number what Nothing ≡ renamed v naming dir (Some replaced) → LeavesChanges v client number what (rename_over_closed u naming dir replaced)
  unfolding rename_over_closed
  rename-over_closed u naming dir replaced alike asked =
      leaves-if v client number what (is_any_open u (set.Link replaced)) _ _ (λ opened. not_made u AccessDenied refl alike) (λ closed. rename-free u naming dir (Some replaced) alike asked)

  rename-over : (u : Volume) (naming : Naming) (dir replaced : ℕ) → Alike v u
      → changes_asked v client number what Nothing ≡ renamed v naming dir (Some replaced) → LeavesChanges v client number what (rename_over u naming dir replaced)
  unfolding rename_over rename_over_broken
  rename-over u naming dir replaced alike asked = unless_fault u naming replaced _ alike
      (leaves-if v client number what (waits_to_name u naming (set.Link replaced)) _ _ (λ waits. held u naming (set.Link replaced) alike)
      (λ free. rename-over_closed (with_name_breaks u naming (set.Link replaced)) naming dir replaced (Alike-names v u naming (set.Link replaced) alike) asked))

  rename-named : (u : Volume) (naming : Naming) (dir : ℕ) → Alike v u → u.table ≡ v.table
      → changes_asked v client number what Nothing ≡ changes_renaming v naming (Reached dir) → LeavesChanges v client number what (rename_named u naming dir)
  unfolding rename_named
  rename-named u naming dir alike table asked = leaves-if v client number what (lacks_entry_right u naming dir) _ _ (λ lacks. not_made u AccessDenied refl alike)
      (λ has. leaves-option v client number what (replaced_link u naming dir) _ _
      (λ replaced there. rename-over u naming dir replaced alike (asked ∙ ap (renamed v naming dir) (sym (replaced-alike v u naming dir alike table) ∙ there)))
      (λ none. rename-free u naming dir None alike (asked ∙ ap (renamed v naming dir) (sym (replaced-alike v u naming dir alike table) ∙ none))))

  rename-directory : (naming : Naming) (dir : ℕ) → changes_asked v client number what Nothing ≡ changes_renaming v naming (Reached dir) → LeavesChanges v client number what (rename_directory v naming dir)
  unfolding rename_directory rename_below_closed
  rename-directory naming dir asked =
      let below : HandleSet = set.Below naming.file in
      let broken : Volume = with_name_breaks v naming below in
      let alike : Alike v broken = Alike-names v v naming below (Alike-same v) in
      leaves-if v client number what (is_at_or_below v.links naming.file dir) _ _ (λ inside. not_made v AccessDenied refl (Alike-same v))
      (λ outside. leaves-if v client number what (waits_to_name v naming below) _ _ (λ waits. held v naming below (Alike-same v))
      (λ free. leaves-if v client number what (is_any_open broken below) _ _ (λ opened. not_made broken AccessDenied refl alike)
      (λ closed. rename-named broken naming dir alike (table-breaks v naming below) asked)))

  rename-walked : (naming : Naming) (walked : Walked) → BarsWithout is_success walked → changes_asked v client number what Nothing ≡ changes_renaming v naming walked
      → LeavesChanges v client number what (rename_walked v naming walked)
  unfolding rename_walked rename_into
  rename-walked naming (Reached dir) undone asked = leaves-if v client number what (is_directory v.files naming.file) _ _ (λ is. rename-directory naming dir asked)
      (λ isnt. rename-named v naming dir (Alike-same v) refl asked)
  rename-walked naming (Barred status) undone asked = not_made v status undone (Alike-same v)
  rename-walked naming (Diverted file next) undone asked = stops file (rest_of naming.path next)

  rename-by : (id : ℕ) (handle : Handle) (path : List ℕ) (replace : Bool)
      → changes_asked v client number what Nothing ≡ changes_renaming v (naming_by v id handle path replace) (walk v (components path)) → LeavesChanges v client number what (rename_by v id handle path replace)
  unfolding rename_by rename_link
  rename-by id handle path replace asked =
      leaves-if v client number what (handle.link == 0 || is_some (named_stream v handle)) _ _ (λ nameless. not_made v InvalidParameter refl (Alike-same v))
      (λ named. leaves-if v client number what (not (has_any handle.access DELETE)) _ _ (λ lacks. not_made v AccessDenied refl (Alike-same v))
      (λ has. leaves-if v client number what (is_link_marked v handle.link) _ _ (λ marked. not_made v AccessDenied refl (Alike-same v))
      (λ kept. leaves-if v client number what (is_no_name path) _ _ (λ bad. not_made v ObjectNameInvalid refl (Alike-same v))
      (λ good. rename-walked (naming_by v id handle path replace) (walk v (components path)) (walk-fails is_success refl refl v (components path) 1 0) asked))))

  -- ---- a further link

  link-over_closed : (u : Volume) (naming : Naming) (dir replaced : ℕ) → Alike v u → changes_asked v client number what Nothing ≡ added naming dir (Some replaced)
      → LeavesChanges v client number what (link_over_closed u naming dir replaced)
  unfolding link_over_closed
  link-over_closed u naming dir replaced alike asked = leaves-if v client number what (is_any_open u (set.Link replaced)) _ _ (λ opened. not_made u AccessDenied refl alike)
      (λ closed. leaves-made v u (with_linked u naming dir (Some replaced)) client number what (record { status = Success; body = Nothing }) (added naming dir (Some replaced)) asked alike
      (SameTree-same (with_linked u naming dir (Some replaced))))

  link-over_other : (naming : Naming) (dir replaced : ℕ) → changes_asked v client number what Nothing ≡ added naming dir (Some replaced) → LeavesChanges v client number what (link_over_other v naming dir replaced)
  unfolding link_over_other link_over_broken
  link-over_other naming dir replaced asked = unless_fault v naming replaced _ (Alike-same v)
      (leaves-if v client number what (waits_to_name v naming (set.Link replaced)) _ _ (λ waits. held v naming (set.Link replaced) (Alike-same v))
      (λ free. link-over_closed (with_name_breaks v naming (set.Link replaced)) naming dir replaced (Alike-names v v naming (set.Link replaced) (Alike-same v)) asked))

  link-over : (naming : Naming) (dir replaced : ℕ) → changes_asked v client number what Nothing ≡ added_over v naming dir replaced → LeavesChanges v client number what (link_over v naming dir replaced)
  unfolding link_over
  link-over naming dir replaced asked = elim (cases_Bool (linked_file v replaced == naming.file)) [
    | inl same ↦ rw same (leaves-if v client number what naming.replace _ _ (λ replaces. leaves-none v v client number what (record { status = Success; body = Nothing }) (rw same at asked) (Alike-same v))
        (λ keeps. not_made v ObjectNameCollision refl (Alike-same v)))
    | inr differs ↦ rw differs (link-over_other naming dir replaced (rw differs at asked))
  ]

  link-into : (naming : Naming) (dir : ℕ) → changes_asked v client number what Nothing ≡ changes_linking v naming (Reached dir) → LeavesChanges v client number what (link_into v naming dir)
  unfolding link_into
  link-into naming dir asked = leaves-if v client number what (not (grants v dir naming.client WRITE_DATA)) _ _ (λ lacks. not_made v AccessDenied refl (Alike-same v))
      (λ has. leaves-option v client number what (child_of v dir (new_name naming)) _ _ (λ replaced there. link-over naming dir replaced (rw there at asked))
      (λ none. leaves-made v v (with_linked v naming dir None) client number what (record { status = Success; body = Nothing }) (added naming dir None) (rw none at asked) (Alike-same v)
      (SameTree-same (with_linked v naming dir None))))

  link-walked : (naming : Naming) (walked : Walked) → BarsWithout is_success walked → changes_asked v client number what Nothing ≡ changes_linking v naming walked
      → LeavesChanges v client number what (link_walked v naming walked)
  unfolding link_walked
  link-walked naming (Reached dir) undone asked = link-into naming dir asked
  link-walked naming (Barred status) undone asked = not_made v status undone (Alike-same v)
  link-walked naming (Diverted file next) undone asked = stops file (rest_of naming.path next)

  link-by : (id : ℕ) (handle : Handle) (path : List ℕ) (replace : Bool)
      → changes_asked v client number what Nothing ≡ changes_linking v (naming_by v id handle path replace) (walk v (components path)) → LeavesChanges v client number what (link_by v id handle path replace)
  unfolding link_by link_file
  link-by id handle path replace asked =
      leaves-if v client number what (not (is_some handle.stream)) _ _ (λ directory. not_made v FileIsADirectory refl (Alike-same v))
      (λ file. leaves-if v client number what (is_some (named_stream v handle)) _ _ (λ named. not_made v InvalidParameter refl (Alike-same v))
      (λ default. leaves-if v client number what (is_link_marked v handle.link) _ _ (λ marked. not_made v AccessDenied refl (Alike-same v))
      (λ kept. leaves-if v client number what (has_all_links v (linked_file v handle.link)) _ _ (λ all. not_made v TooManyLinks refl (Alike-same v))
      (λ fewer. leaves-if v client number what (is_no_name path) _ _ (λ bad. not_made v ObjectNameInvalid refl (Alike-same v))
      (λ good. link-walked (naming_by v id handle path replace) (walk v (components path)) (walk-fails is_success refl refl v (components path) 1 0) asked)))))

-- ---- the tries

-- a rename leaves what its changes leave
pub rename-leaves : (v : Volume) (client number handle : ℕ) (path : List ℕ) (replace : Bool) → LeavesChanges v client number (Ask (request.Rename handle path replace)) (try_rename v client handle path replace)
unfolding try_rename rename_at
rename-leaves v client number handle path replace =
    let what : What = Ask (request.Rename handle path replace) in
    leaves-option v client number what (handle_of v client handle) _ _
    (λ id opened. leaves-option v client number what (row_of v.handles id) _ _ (λ row living. rename-by v client number what id row path replace (rw (opened, living) refl))
    (λ none. not_made v client number what v InvalidHandle refl (Alike-same v)))
    (λ none. not_made v client number what v InvalidHandle refl (Alike-same v))

-- a further link leaves what its changes leave
pub link-leaves : (v : Volume) (client number handle : ℕ) (path : List ℕ) (replace : Bool) → LeavesChanges v client number (Ask (request.Link handle path replace)) (try_link v client handle path replace)
unfolding try_link link_at
link-leaves v client number handle path replace =
    let what : What = Ask (request.Link handle path replace) in
    leaves-option v client number what (handle_of v client handle) _ _
    (λ id opened. leaves-option v client number what (row_of v.handles id) _ _ (λ row living. link-by v client number what id row path replace (rw (opened, living) refl))
    (λ none. not_made v client number what v InvalidHandle refl (Alike-same v)))
    (λ none. not_made v client number what v InvalidHandle refl (Alike-same v))
