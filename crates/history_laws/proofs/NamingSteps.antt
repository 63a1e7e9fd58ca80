-- Each rename and each link ends as its steps say: the definitions are followed step by step, beside the list of steps. A check that fails
-- ends it; breaks hold it, or it goes on behind them, where the volume is still the one that the try found.
use Rattle.std.proofs.Common.{◌≡◌, ℕ, Bool, true, false, ◌==◌, ◌||◌, not, List, [], ◌∷◌, ◌++◌, get_or, refl, ap, subst, inl, inr, Option, Some, None}
use Rattle.std.specs.Option.{option_map_or}
use Rattle.std.specs.Prelude.{if◌then◌else◌, All, is_some}
use Rattle.std.proofs.lemmas.Bool.{cases_Bool}
use Rattle.fsa_types.specs.Access.{has_any}
use Rattle.fsa_types.specs.Masks.{DELETE, WRITE_DATA}
use Rattle.fsa_types.specs.Paths.{components, rest_of}
use Rattle.fsa_types.specs.Rows.{row_of}
use Rattle.fsa_types.specs.declared.oplock.Class.TheVariants.{NameChange}
use Rattle.fsa_types.specs.declared.oplock.HandleSet.{HandleSet}
use Rattle.fsa_types.specs.declared.oplock.HandleSet.TheVariants as set
use Rattle.fsa_types.specs.declared.reply.Reply.{Reply}
use Rattle.fsa_types.specs.declared.request.Call.{Call}
use Rattle.fsa_types.specs.declared.request.Request.TheVariants as request
use Rattle.fsa_types.specs.declared.request.What.{What}
use Rattle.fsa_types.specs.declared.request.What.TheVariants.{Ask}
use Rattle.fsa_types.specs.declared.status.Status.TheVariants.{Success, AccessDenied, DeletePending, InvalidHandle, ObjectNameCollision, ObjectPathNotFound}
use Rattle.fsa_model.specs.Breaks.{with_breaks}
use Rattle.fsa_model.specs.Close.{named_stream}
use Rattle.fsa_model.specs.Coherence.{IsCoherentTry, acting_handle, acting_key, key_acting}
use Rattle.fsa_model.specs.History.{HistoryEntry}
use Rattle.fsa_model.specs.Link.{has_all_links, link_at, link_by, link_file, link_into, link_over, link_over_broken, link_over_closed, link_over_other, link_walked, try_link, with_linked}
use Rattle.fsa_model.specs.Lookups.{child_of, handle_of, has_left, is_at_or_below, is_directory, is_link_marked, linked_file}
use Rattle.fsa_model.specs.Open.{grants, is_readonly, stopped}
use Rattle.fsa_model.specs.Outcome.{Outcome, Done, ends_with, refused}
use Rattle.fsa_model.specs.Rename.{keeps_name, naming_by, rename_at, rename_below_closed, rename_by, rename_directory, rename_done, rename_free, rename_into, rename_link, rename_named, rename_over, rename_over_broken, rename_over_closed, rename_walked, try_rename, with_renamed}
use Rattle.fsa_model.specs.Replacement.{Naming, held_to_name, is_any_open, is_no_name, replace_fault, waits_to_name, with_name_breaks}
use Rattle.fsa_model.specs.Setup.{Setup}
use Rattle.fsa_model.specs.Tries.{Tried, tries_of}
use Rattle.fsa_model.specs.Try.{try, try_what}
use Rattle.fsa_model.specs.Volume.{Handle, Volume}
use Rattle.fsa_model.specs.Waits.{waits_for, held_by}
use Rattle.fsa_model.specs.Walk.{Walked, Reached, Barred, Diverted, last_name, point_of, walk}
use Rattle.fsa_model.proofs.CoherenceRuns.{run-coherent}
use Rattle.fsa_model.proofs.RowLaws.{option_cases}
use Rattle.history_laws.specs.NamingSteps.{Step, Fails, Breaks, EndsBySteps, NamingEndsBySteps, NamingsEndBySteps, is_any_there, lacks_right_to_add, other_link, steps_asked, steps_by, steps_of_link, steps_of_linking, steps_of_rename, steps_of_renaming, steps_of_replacing, steps_of_walked}
use Rattle.history_laws.specs.OpenChecks.{stopped_by, with_status}
use Rattle.history_laws.specs.OplockChanges.{handle_numbered}
use Rattle.history_laws.proofs.ByBreaks.{none-breaks}
use Rattle.history_laws.proofs.SetsBroken.{OplocksDiffer}
use Rattle.history_laws.proofs.TriesByBreaks.{linked, renamed}
use Rattle.history_laws.proofs.UnawaitedBreaks.{unawaited-same}

-- ---- claims

record Goes (v : Volume) (acting : Option ℕ) (key : ℕ) (steps : List Step) (outcome : Outcome) : Type 0 where
  so : EndsBySteps v acting key steps outcome

module _ (v : Volume) {acting : Option ℕ} {key : ℕ} where
  -- no step is left
  goes-done : (next : Volume) → next.oplocks ≡ v.oplocks → Goes v acting key [] (ends_with next Success)
  goes-done next same = record { so = (refl, same) }

  -- a check fails, or passes
  goes-fails : (reply : Reply) (more : List Step) → Goes v acting key (Fails true reply ∷ more) (Done v reply)
  goes-fails reply more = record { so = ((λ fails. refl), (λ passes. cc)) }

  goes-passes : (reply : Reply) (more : List Step) (outcome : Outcome) → Goes v acting key more outcome → Goes v acting key (Fails false reply ∷ more) outcome
  goes-passes reply more outcome goes = record { so = ((λ fails. cc), (λ passes. Goes.so goes)) }

  goes-check : (test : Bool) (reply : Reply) (more : List Step) (other : Outcome) → Goes v acting key more other
      → Goes v acting key (Fails test reply ∷ more) (if test then Done v reply else other)
  goes-check true reply more other goes = goes-fails reply more
  goes-check false reply more other goes = goes-passes reply more other goes

  -- by a test: the same steps, other steps, or some steps first
  goes-if : (test : Bool) (steps : List Step) (one other : Outcome) → Goes v acting key steps one → Goes v acting key steps other
      → Goes v acting key steps (if test then one else other)
  goes-if true steps one other holds fails = holds
  goes-if false steps one other holds fails = fails

  goes-unless : (test : Bool) (first second : List Step) (one other : Outcome) → Goes v acting key first one → Goes v acting key second other
      → Goes v acting key (if test then first else second) (if not test then other else one)
  goes-unless true first second one other holds fails = holds
  goes-unless false first second one other holds fails = fails

  goes-first : (test : Bool) (first more last : List Step) (one other : Outcome) → Goes v acting key (first ++ more ++ last) one → Goes v acting key (more ++ last) other
      → Goes v acting key ((if test then first else []) ++ more ++ last) (if test then one else other)
  goes-first true first more last one other holds fails = holds
  goes-first false first more last one other holds fails = fails

  -- by what is looked up: its steps, and others behind
  goes-option : (found : Option ℕ) (of_link : ℕ → List Step) (more : List Step) (some : ℕ → Outcome) (none : Outcome)
      → ((link : ℕ) → Goes v acting key (of_link link ++ more) (some link)) → Goes v acting key more none
      → Goes v acting key (option_map_or of_link found [] ++ more) (option_map_or some found none)
  goes-option None of_link more some none with_some with_none = with_none
  goes-option (Some link) of_link more some none with_some with_none = with_some link

  goes-found : (found : Option ℕ) (of_link : ℕ → List Step) (some : ℕ → Outcome) (none : Outcome)
      → ((link : ℕ) → Goes v acting key (of_link link) (some link)) → Goes v acting key [] none
      → Goes v acting key (option_map_or of_link found []) (option_map_or some found none)
  goes-found None of_link some none with_some with_none = with_none
  goes-found (Some link) of_link some none with_some with_none = with_some link

  -- the faults of a replacement
  goes-faults : (marked kept directory moved readonly denied : Bool) (more : List Step) (next : Outcome) → Goes v acting key more next
      → Goes v acting key
      (Fails marked (with_status DeletePending)
      ∷ Fails kept (with_status ObjectNameCollision)
      ∷ Fails directory (with_status AccessDenied)
      ∷ Fails moved (with_status AccessDenied)
      ∷ Fails readonly (with_status AccessDenied)
      ∷ Fails denied (with_status AccessDenied)
      ∷ more)
      (option_map_or (λ status. refused v status)
      (if marked then Some DeletePending
      else if kept then Some ObjectNameCollision
      else if directory then Some AccessDenied
      else if moved then Some AccessDenied
      else if readonly then Some AccessDenied
      else if denied then Some AccessDenied
      else None)
      next)
  goes-faults true kept directory moved readonly denied more next goes = goes-fails _ _
  goes-faults false true directory moved readonly denied more next goes = goes-passes _ _ _ (goes-fails _ _)
  goes-faults false false true moved readonly denied more next goes = goes-passes _ _ _ (goes-passes _ _ _ (goes-fails _ _))
  goes-faults false false false true readonly denied more next goes = goes-passes _ _ _ (goes-passes _ _ _ (goes-passes _ _ _ (goes-fails _ _)))
  goes-faults false false false false true denied more next goes = goes-passes _ _ _ (goes-passes _ _ _ (goes-passes _ _ _ (goes-passes _ _ _ (goes-fails _ _))))
  goes-faults false false false false false true more next goes = goes-passes _ _ _ (goes-passes _ _ _ (goes-passes _ _ _ (goes-passes _ _ _ (goes-passes _ _ _ (goes-fails _ _)))))
  goes-faults false false false false false false more next goes = goes-passes _ _ _ (goes-passes _ _ _ (goes-passes _ _ _ (goes-passes _ _ _ (goes-passes _ _ _ (goes-passes _ _ _ goes)))))

  -- a reparse point stops it
  goes-stopped : (file : ℕ) (rest : List ℕ) → Goes v acting key (Fails true (stopped_by (point_of v file) rest) ∷ []) (stopped v file rest)
  unfolding stopped
  goes-stopped file rest = elim (option_cases (point_of v file)) [
    | inl none ↦ rw none (goes-fails (with_status ObjectPathNotFound) [])
    | inr point ↦ rw point.1 (goes-fails (stopped_by (Some point.0) rest) [])
  ]

  module _ (differ : OplocksDiffer v.oplocks) where
    -- held by breaks, or on behind them in the same volume
    goes-breaks : (on : HandleSet) (more : List Step) (next : Volume → Outcome) → Goes v acting key more (next v)
        → Goes v acting key (Breaks on ∷ more) (if waits_for v on NameChange acting key then held_by v on NameChange acting key else next (with_breaks v on NameChange acting key))
    goes-breaks on more next goes = elim (cases_Bool (waits_for v on NameChange acting key)) [
      | inl waits ↦ rw waits (record { so = ((λ holds. refl), (λ free. (let impossible : true ≡ false = rw waits at free in cc))) })
      | inr none ↦ rw (none, unawaited-same v on acting key differ none) (record { so = ((λ holds. (let impossible : false ≡ true = rw none at holds in cc)), (λ free. Goes.so goes)) })
    ]

    -- and then no handle of the set may be open
    goes-closed : (on : HandleSet) (more : List Step) (next : Volume → Outcome) → Goes v acting key more (next v)
        → Goes v acting key (Breaks on ∷ Fails (is_any_there v on) (with_status AccessDenied) ∷ more)
        (if waits_for v on NameChange acting key then held_by v on NameChange acting key
        else if is_any_open (with_breaks v on NameChange acting key) on then refused (with_breaks v on NameChange acting key) AccessDenied
        else next (with_breaks v on NameChange acting key))
    goes-closed on more next goes =
        goes-breaks on (Fails (is_any_there v on) (with_status AccessDenied) ∷ more) (λ w. if is_any_open w on then refused w AccessDenied else next w)
        (goes-check (is_any_there v on) (with_status AccessDenied) more _ goes)

-- ---- by the handle of a number

module _ (v : Volume) (differ : OplocksDiffer v.oplocks) (id : ℕ) (handle : Handle) (path : List ℕ) (replace : Bool) where
  abbrev naming : Naming
  naming = naming_by v id handle path replace

  abbrev name : List ℕ
  name = last_name (components path)

  -- ---- both

  -- a link that has the name goes
  replacing : (over : ℕ) (more : List Step) (next : Volume → Outcome) → Goes v (Some id) handle.key more (next v)
      → Goes v (Some id) handle.key (steps_of_replacing v handle replace over ++ more)
      (option_map_or (λ status. refused v status) (replace_fault v naming over)
      (if waits_to_name v naming (set.Link over) then held_to_name v naming (set.Link over)
      else if is_any_open (with_name_breaks v naming (set.Link over)) (set.Link over) then refused (with_name_breaks v naming (set.Link over)) AccessDenied
      else next (with_name_breaks v naming (set.Link over))))
  replacing over more next goes =
      goes-faults v (is_link_marked v over) (not replace) (is_directory v.files (linked_file v over)) (is_directory v.files (linked_file v handle.link)) (is_readonly v (linked_file v over))
      (not (grants v (linked_file v over) handle.client DELETE)) _ _ (goes-closed v differ (set.Link over) more next goes)

  -- ---- a rename

  -- it is done behind the last breaks
  rename-done : (dir : ℕ) (over : Option ℕ) → Goes v (Some id) handle.key [] (rename_done v naming dir over)
  unfolding rename_done
  rename-done dir over = goes-if v (keeps_name v naming dir) [] _ _ (goes-done v v refl) (goes-done v (with_renamed v naming dir over) (none-breaks (renamed v naming dir over)))

  rename-free : (dir : ℕ) (over : Option ℕ) → Goes v (Some id) handle.key (Breaks (set.Link handle.link) ∷ []) (rename_free v naming dir over)
  unfolding rename_free
  rename-free dir over = goes-breaks v differ (set.Link handle.link) [] (λ w. rename_done w naming dir over) (rename-done dir over)

  rename-over : (dir over : ℕ) → Goes v (Some id) handle.key (steps_of_replacing v handle replace over ++ Breaks (set.Link handle.link) ∷ []) (rename_over v naming dir over)
  unfolding rename_over rename_over_broken rename_over_closed
  rename-over dir over = replacing over (Breaks (set.Link handle.link) ∷ []) (λ w. rename_free w naming dir (Some over)) (rename-free dir (Some over))

  rename-named : (dir : ℕ)
      → Goes v (Some id) handle.key
      (Fails (lacks_right_to_add v handle dir) (with_status AccessDenied)
      ∷ option_map_or (λ replaced. steps_of_replacing v handle replace replaced) (other_link v handle dir name) []
      ++ Breaks (set.Link handle.link)
      ∷ [])
      (rename_named v naming dir)
  unfolding rename_named
  rename-named dir =
      goes-check v (lacks_right_to_add v handle dir) (with_status AccessDenied) _ _
      (goes-option v (other_link v handle dir name) (λ replaced. steps_of_replacing v handle replace replaced) (Breaks (set.Link handle.link) ∷ []) _ _ (λ link. rename-over dir link) (rename-free dir None))

  -- a directory or a file goes to this directory
  rename-into : (dir : ℕ) → Goes v (Some id) handle.key (steps_of_renaming v handle replace name dir) (rename_into v naming dir)
  unfolding rename_into rename_directory rename_below_closed
  rename-into dir =
      goes-first v (is_directory v.files (linked_file v handle.link))
      (Fails (is_at_or_below v.links (linked_file v handle.link) dir) (with_status AccessDenied)
      ∷ Breaks (set.Below (linked_file v handle.link))
      ∷ Fails (is_any_there v (set.Below (linked_file v handle.link))) (with_status AccessDenied)
      ∷ [])
      (Fails (lacks_right_to_add v handle dir) (with_status AccessDenied)
      ∷ option_map_or (λ replaced. steps_of_replacing v handle replace replaced) (other_link v handle dir name) [])
      (Breaks (set.Link handle.link) ∷ []) _ _
      (goes-check v (is_at_or_below v.links (linked_file v handle.link) dir) (with_status AccessDenied) _ _
      (goes-closed v differ (set.Below (linked_file v handle.link)) _ (λ w. rename_named w naming dir) (rename-named dir))) (rename-named dir)

  rename-walked : (way : Walked) → Goes v (Some id) handle.key (steps_of_walked v path (λ dir. steps_of_renaming v handle replace name dir) way) (rename_walked v naming way)
  unfolding rename_walked
  rename-walked (Reached dir) = rename-into dir
  rename-walked (Barred status) = goes-fails v _ _
  rename-walked (Diverted file next) = goes-stopped v file (rest_of path next)

  rename-by : Goes v (Some id) handle.key (steps_of_rename v handle path replace) (rename_by v id handle path replace)
  unfolding rename_by rename_link
  rename-by =
      goes-check v (handle.link == 0 || is_some (named_stream v handle)) _ _ _ (goes-check v (not (has_any handle.access DELETE)) _ _ _ (goes-check v (is_link_marked v handle.link) _ _ _
      (goes-check v (is_no_name path) _ _ _ (rename-walked (walk v (components path))))))

  -- ---- a link

  link-done : (dir : ℕ) (over : Option ℕ) → Goes v (Some id) handle.key [] (ends_with (with_linked v naming dir over) Success)
  link-done dir over = goes-done v (with_linked v naming dir over) (none-breaks (linked v naming dir over))

  -- a link that has the name goes, where it is another file's
  link-over_other : (dir over : ℕ) → Goes v (Some id) handle.key (steps_of_replacing v handle replace over ++ []) (link_over_other v naming dir over)
  unfolding link_over_other link_over_broken link_over_closed
  link-over_other dir over = replacing over [] (λ w. ends_with (with_linked w naming dir (Some over)) Success) (link-done dir (Some over))

  -- where it is one of the file itself, nothing is done
  link-kept : (asked : Bool) → Goes v (Some id) handle.key (Fails (not asked) (with_status ObjectNameCollision) ∷ []) (if asked then ends_with v Success else refused v ObjectNameCollision)
  link-kept true = goes-passes v _ _ _ (goes-done v v refl)
  link-kept false = goes-fails v _ _

  abbrev steps_over : ℕ → List Step
  steps_over found =
      if linked_file v found == linked_file v handle.link then Fails (not replace) (with_status ObjectNameCollision) ∷ [] else steps_of_replacing v handle replace found

  link-over : (dir over : ℕ) → Goes v (Some id) handle.key (steps_over over) (link_over v naming dir over)
  unfolding link_over
  link-over dir over = goes-unless v (linked_file v over == linked_file v handle.link) _ _ _ _ (link-kept replace) (link-over_other dir over)

  link-into : (dir : ℕ) → Goes v (Some id) handle.key (steps_of_linking v handle replace name dir) (link_into v naming dir)
  unfolding link_into
  link-into dir = goes-check v (not (grants v dir handle.client WRITE_DATA)) _ _ _ (goes-found v (child_of v dir name) _ _ _ (λ link. link-over dir link) (link-done dir None))

  link-walked : (way : Walked) → Goes v (Some id) handle.key (steps_of_walked v path (λ dir. steps_of_linking v handle replace name dir) way) (link_walked v naming way)
  unfolding link_walked
  link-walked (Reached dir) = link-into dir
  link-walked (Barred status) = goes-fails v _ _
  link-walked (Diverted file next) = goes-stopped v file (rest_of path next)

  link-by : Goes v (Some id) handle.key (steps_of_link v handle path replace) (link_by v id handle path replace)
  unfolding link_by link_file
  link-by =
      goes-check v (not (is_some handle.stream)) _ _ _ (goes-check v (is_some (named_stream v handle)) _ _ _ (goes-check v (is_link_marked v handle.link) _ _ _
      (goes-check v (has_all_links v (linked_file v handle.link)) _ _ _ (goes-check v (is_no_name path) _ _ _ (link-walked (walk v (components path)))))))

-- ---- each try

module _ (v : Volume) (differ : OplocksDiffer v.oplocks) (client number : ℕ) where
  -- the client hasn't left, and the handle is there
  by-handle : (of_handle : Handle → List Step) (out : ℕ → Handle → Outcome) → ((id : ℕ) (handle : Handle) → Goes v (Some id) handle.key (of_handle handle) (out id handle))
      → Goes v (handle_of v client number) (key_acting v (handle_of v client number)) (steps_by v client (handle_numbered v client number) of_handle)
      (if has_left v client then refused v InvalidHandle
      else option_map_or (λ id. option_map_or (λ handle. out id handle) (row_of v.handles id) (refused v InvalidHandle)) (handle_of v client number) (refused v InvalidHandle))
  by-handle of_handle out goes = goes-check v (has_left v client) (with_status InvalidHandle) _ _ opened
    where
      opened : Goes v (handle_of v client number) (key_acting v (handle_of v client number)) (option_map_or of_handle (handle_numbered v client number) (Fails true (with_status InvalidHandle) ∷ []))
          (option_map_or (λ id. option_map_or (λ handle. out id handle) (row_of v.handles id) (refused v InvalidHandle)) (handle_of v client number) (refused v InvalidHandle))
      opened = elim (option_cases (handle_of v client number)) [
        | inl closed ↦ rw closed (goes-fails v (with_status InvalidHandle) [])
        | inr id ↦ rw id.1 (elim (option_cases (row_of v.handles id.0)) [
          | inl gone ↦ rw gone (goes-fails v (with_status InvalidHandle) [])
          | inr handle ↦ rw handle.1 (goes id.0 handle.0)
        ])
      ]

  rename-ends : (path : List ℕ) (replace : Bool)
      → Goes v (handle_of v client number) (key_acting v (handle_of v client number)) (steps_by v client (handle_numbered v client number) (λ handle. steps_of_rename v handle path replace))
      (if has_left v client then refused v InvalidHandle else try_rename v client number path replace)
  unfolding try_rename rename_at
  rename-ends path replace =
      by-handle (λ handle. steps_of_rename v handle path replace) (λ id handle. rename_by v id handle path replace) (λ id handle. rename-by v differ id handle path replace)

  link-ends : (path : List ℕ) (replace : Bool)
      → Goes v (handle_of v client number) (key_acting v (handle_of v client number)) (steps_by v client (handle_numbered v client number) (λ handle. steps_of_link v handle path replace))
      (if has_left v client then refused v InvalidHandle else try_link v client number path replace)
  unfolding try_link link_at
  link-ends path replace =
      by-handle (λ handle. steps_of_link v handle path replace) (λ id handle. link_by v id handle path replace) (λ id handle. link-by v differ id handle path replace)

module _ (v : Volume) (differ : OplocksDiffer v.oplocks) (turn client call : ℕ) where
  -- by a handle of this number and these steps of it
  abbrev Ends : What → ℕ × (Handle → List Step) → Type 0
  Ends what asked =
      Goes v (acting_handle v client what) (acting_key v client what) (steps_by v client (handle_numbered v client asked.0) asked.1)
      (if has_left v client then refused v InvalidHandle else try_what v turn client call what)

  -- which are those of a rename or of a link
  asked-same : (one other : ℕ × (Handle → List Step)) → Some one ≡ Some other → one ≡ other
  asked-same one other so = ap (λ (asked : Option (ℕ × (Handle → List Step))). option_map_or (λ its. its) asked one) so

  what-ends : (what : What) (asked : ℕ × (Handle → List Step)) → steps_asked v what ≡ Some asked → Ends what asked
  what-ends (Ask (request.Rename number path replace)) asked is =
      subst (λ (its : ℕ × (Handle → List Step)). Ends (Ask (request.Rename number path replace)) its)
      (asked-same (number, λ handle. steps_of_rename v handle path replace) asked is) (rename-ends v differ client number path replace)
  what-ends (Ask (request.Link number path replace)) asked is =
      subst (λ (its : ℕ × (Handle → List Step)). Ends (Ask (request.Link number path replace)) its)
      (asked-same (number, λ handle. steps_of_link v handle path replace) asked is) (link-ends v differ client number path replace)
  what-ends _ asked is = cc

naming-ends : (v : Volume) (call : Call) (turn : ℕ) → OplocksDiffer v.oplocks → NamingEndsBySteps v call (try v call turn)
naming-ends v call turn differ number of_handle is = Goes.so (what-ends v differ turn call.client call.number call.what (number, of_handle) is)

-- ---- all tries of a history

each-ends : (tries : List Tried) → All IsCoherentTry tries → All (λ (t : Tried). NamingEndsBySteps t.before t.call (try t.before t.call t.turn)) tries
each-ends tries coherent k d within = (let t : Tried = get_or tries k d in let it = coherent k d within in naming-ends t.before t.call t.turn it.tied.oplocks_differ)

pub namings-end_as_their_steps_say : (setup : Setup) (history : List HistoryEntry) → NamingsEndBySteps setup history
namings-end_as_their_steps_say setup history = each-ends (tries_of setup history) (run-coherent setup history).tries
