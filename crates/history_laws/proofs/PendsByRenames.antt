-- A rename is held by the breaks of one set at a time: of those below its directory, then of the link that it replaces, and then of
-- its own link. One that goes on past a set has found no handle of it open, so it has broken nothing there: the volume is the one
-- that it began with, and where it is held, no handle is open of its sets that come before. It has passed the checks before its
-- breaks: without oplocks the same try goes the same way up to there, waits for none, and ends with a status that comes only then.
use Rattle.std.proofs.Common.{◌≡◌, ℕ, Bool, true, false, not, List, refl, sym, ◌∙◌, inl, inr, Option, Some, None}
use Rattle.std.specs.Prelude.{◌==◌, ◌||◌, is_some, if◌then◌else◌}
use Rattle.std.proofs.lemmas.Bool.{cases_Bool, eq-eqb}
use Rattle.fsa_types.specs.Access.{has_any}
use Rattle.fsa_types.specs.Masks.{DELETE}
use Rattle.fsa_types.specs.Paths.{components}
use Rattle.fsa_types.specs.Rows.{row_of}
use Rattle.fsa_types.specs.declared.oplock.Class.TheVariants.{NameChange}
use Rattle.fsa_types.specs.declared.oplock.HandleSet.{HandleSet}
use Rattle.fsa_types.specs.declared.oplock.HandleSet.TheVariants as set
use Rattle.fsa_types.specs.declared.request.Call.{Call}
use Rattle.fsa_types.specs.declared.request.Request.TheVariants as request
use Rattle.fsa_types.specs.declared.request.What.TheVariants.{Ask}
use Rattle.fsa_types.specs.declared.status.Status.{Status}
use Rattle.fsa_types.specs.declared.status.Status.TheVariants.{AccessDenied}
use Rattle.fsa_model.specs.Close.{named_stream}
use Rattle.fsa_model.specs.Lookups.{child_of, handle_of, is_at_or_below, is_directory, is_link_marked, linked_file}
use Rattle.fsa_model.specs.Outcome.{Outcome, refused}
use Rattle.fsa_model.specs.Rename.{lacks_entry_right, naming_by, rename_at, rename_below_closed, rename_by, rename_directory, rename_done, rename_free, rename_into, rename_link, rename_named, rename_over, rename_over_broken, rename_over_closed, rename_walked, try_rename}
use Rattle.fsa_model.specs.Replacement.{Naming, held_to_name, is_any_open, is_no_name, new_name, replace_fault, waits_to_name, with_name_breaks}
use Rattle.fsa_model.specs.Volume.{Handle, Volume}
use Rattle.fsa_model.specs.Walk.{Walked, Reached, Barred, Diverted, walk}
use Rattle.fsa_model.proofs.CountLaws.{and_right}
use Rattle.fsa_model.proofs.RowLaws.{option_cases}
use Rattle.history_laws.specs.OplockChanges.{IsLinkAt, MayBreak, Opens, OnStream, Marks, Renames, RenamesAbove, RenamesOver, LinksOver, handle_numbered}
use Rattle.history_laws.specs.WhyPending.{ByBreaks, IsFirst, PendsForCause}
use Rattle.history_laws.proofs.Pends.{Beside, Both, Pends, beside-any, beside-done, beside-if, pends-done, pends-if, pends-stopped}
use Rattle.history_laws.proofs.SetsByCalls.{at_link}
use Rattle.history_laws.proofs.WaitsByCalls.{none-broken, open-after_breaks}
use Rattle.history_laws.proofs.WithoutOplocks.{Behind, behind, without_oplocks, walks_alike}

-- ---- without oplocks

-- a rename waits for no break there, so it comes to its new name, or is refused for an open handle
module _ {directory : Bool} (v : Volume) (number : ℕ) (path : List ℕ) (replace : Bool) (naming : Naming) (dir : ℕ) where
  behind-free : (over : Option ℕ) → Behind directory (Ask (request.Rename number path replace)) (rename_free (without_oplocks v) naming dir over)
  unfolding rename_free rename_done
  behind-free over = search behind

  behind-over : (link : ℕ) → Behind directory (Ask (request.Rename number path replace)) (rename_over_broken (without_oplocks v) naming dir link)
  unfolding rename_over_broken rename_over_closed
  behind-over link = search (behind, behind-free)

-- behind the breaks below a directory its new name is looked up, so faults that come there count too
behind-below : (v : Volume) (number : ℕ) (path : List ℕ) (replace : Bool) (naming : Naming) (dir : ℕ) → Behind true (Ask (request.Rename number path replace)) (rename_below_closed (without_oplocks v) naming dir)
unfolding rename_below_closed rename_named rename_over
behind-below v number path replace naming dir = search (behind, behind-over, behind-free) depth 60 fits 4000

-- refused where a handle of the set is open, and else on, with the volume as it was
beside-closed : {v : Volume} {call : Call} {turn : ℕ} (on : HandleSet) (naming : Naming) (status : Status) (next : Volume → Outcome) → (is_any_open v on ≡ false → Both v call turn next)
    → Beside v call turn (if is_any_open (without_oplocks v) on then refused (without_oplocks v) status else next (without_oplocks v))
    (if is_any_open (with_name_breaks v naming on) on then refused (with_name_breaks v naming on) status else next (with_name_breaks v naming on))
beside-closed {v} on naming status next goes = elim (cases_Bool (is_any_open v on)) [
  | inl some ↦ rw (open-after_breaks v on NameChange (Some naming.handle) naming.key, some) beside-done
  | inr none ↦ rw (none-broken v on NameChange (Some naming.handle) naming.key none, none) (goes none)
]

-- ---- by the handle that the call names

module _ (v : Volume) (call : Call) (turn number id : ℕ) (path : List ℕ) (replace : Bool) (handle : Handle)
    (is : call.what ≡ Ask (request.Rename number path replace)) (named : handle_of v call.client number ≡ Some id) (living : row_of v.handles id ≡ Some handle) where
  abbrev naming : Naming
  naming = naming_by v id handle path replace

  -- no handle below its directory is open; and none of another link, at the new name, that can be replaced
  abbrev IsClosedBelow : Type 0
  IsClosedBelow = is_directory v.files naming.file ≡ true → is_any_open v (set.Below naming.file) ≡ false

  abbrev IsClosedThere : Type 0
  IsClosedThere = (link : ℕ) → IsLinkAt v path link → (link == handle.link) ≡ false → replace_fault v naming link ≡ None → is_any_open v (set.Link link) ≡ false

  -- the call names one handle
  one-handle : (asked : ℕ) (to : List ℕ) (leave : Bool) (its : Handle) → call.what ≡ Ask (request.Rename asked to leave) → handle_numbered v call.client asked ≡ Some its → its ≡ handle
  one-handle asked to leave its asks opened =
      let number_so : asked ≡ number = cc in let one : Some its ≡ Some handle = sym opened ∙ rw (number_so, named) living in cc

  -- then, of the sets that it may break, none of these is open
  closed-below : (below : ℕ) → IsClosedBelow → MayBreak v call NameChange (set.Below below) → is_any_open v (set.Below below) ≡ false
  closed-below below closed (Opens asked wanted share disposition options attributes key asks called classed breaks) = cc
  closed-below below closed (OnStream asked its so there set_so) = (let impossible = rw is at so in cc)
  closed-below below closed (Marks asked its asks opened classed set_so) = cc
  closed-below below closed (Renames asked to leave its asks opened classed set_so) = cc
  closed-below below closed (RenamesAbove asked to leave its asks opened classed directory set_so) =
      let same = one-handle asked to leave its asks opened in
      let here : below ≡ linked_file v its.link = cc in rw (here, same) (closed (rw same at directory))
  closed-below below closed (RenamesOver asked its to leave over other asks called row there apart free classed set_so) = cc
  closed-below below closed (LinksOver asked its to leave over other asks called row there apart free classed set_so) = cc

  closed-there : (link : ℕ) → (link == handle.link) ≡ false → IsClosedThere → MayBreak v call NameChange (set.Link link) → is_any_open v (set.Link link) ≡ false
  closed-there link differs closed (Opens asked wanted share disposition options attributes key asks called classed breaks) = cc
  closed-there link differs closed (OnStream asked its so there set_so) = (let impossible = rw is at so in cc)
  closed-there link differs closed (Marks asked its asks opened classed set_so) = cc
  closed-there link differs closed (Renames asked to leave its asks opened classed set_so) =
      let own : link ≡ its.link = cc in let same = one-handle asked to leave its asks opened in let impossible = sym (eq-eqb link handle.link (rw same at own)) ∙ differs in cc
  closed-there link differs closed (RenamesAbove asked to leave its asks opened classed directory set_so) = cc
  closed-there link differs closed (RenamesOver asked its to leave over other asks called row there apart free classed set_so) =
      let path_so : to ≡ path = cc in let replace_so : leave ≡ replace = cc in
      let same = one-handle asked to leave other asks (rw called row) in let link_so : link ≡ over = cc in
      closed link (rw (path_so, ← link_so) at there) differs (rw (same, replace_so, ← link_so) at free)
  closed-there link differs closed (LinksOver asked its to leave over other asks called row there apart free classed set_so) = cc

  -- so none is open of the sets that come before the one by which it is held: below a directory none comes before; before the link
  -- that it replaces what is below; and before its own link both
  first-below : (below : ℕ) → IsFirst v call NameChange (set.Below below)
  first-below below renames (set.Stream stream) may comes = cc
  first-below below renames (set.Link link) may comes = cc
  first-below below renames (set.Below other) may comes = cc

  first-there : (link : ℕ) → (link == handle.link) ≡ false → IsClosedBelow → IsFirst v call NameChange (set.Link link)
  first-there link differs below renames (set.Stream stream) may comes = cc
  first-there link differs below renames (set.Below other) may comes = closed-below other below may
  first-there link differs below renames (set.Link other) may comes =
      (let own = and_right (not (other == handle.link)) (link == handle.link) (rw (is, named, living) at comes) in let impossible = sym own ∙ differs in cc)

  first-own : IsClosedBelow → IsClosedThere → IsFirst v call NameChange (set.Link handle.link)
  first-own below there renames (set.Stream stream) may comes = cc
  first-own below there renames (set.Below other) may comes = closed-below other below may
  first-own below there renames (set.Link other) may comes = elim (cases_Bool (other == handle.link)) [
    | inl own ↦ (let impossible = rw (is, named, living, own) at comes in cc)
    | inr apart ↦ closed-there other apart there may
  ]

  -- ---- each set in its turn

  -- held by the breaks of a set, to which it has passed, or on after them
  beside-held : (on : HandleSet) (tried outcome : Outcome) → MayBreak v call NameChange on → Behind (is_directory v.files naming.file) (Ask (request.Rename number path replace)) tried
      → IsFirst v call NameChange on → Beside v call turn tried outcome → Beside v call turn tried (if waits_to_name v naming on then held_to_name v naming on else outcome)
  beside-held on tried outcome may behind first goes = elim (cases_Bool (waits_to_name v naming on)) [
    | inl waits ↦ rw waits (record {
      pends = λ same. record {
        so = ByBreaks NameChange on may (rw (same, is, named, living) behind.so) (rw is refl) first
            (rw (is, named, living) waits) (rw (is, named, living) refl) (rw (is, named, living) refl);
      };
    })
    | inr free ↦ rw free goes
  ]

  -- its own link's, which come last
  beside-free : (dir : ℕ) (over : Option ℕ) → IsClosedBelow → IsClosedThere → Both v call turn (λ w. rename_free w naming dir over)
  unfolding rename_free rename_done
  beside-free dir over below there =
      beside-held (set.Link handle.link) _ _ (Renames number path replace handle is (rw named living) refl refl) (behind-free v number path replace naming dir over) (first-own below there)
      (beside-any (search (pends-if, pends-done)))

  -- before them those of the link that it replaces, where there is one
  beside-over : (dir link : ℕ) → walk v (components path) ≡ Reached dir → child_of v dir (new_name naming) ≡ Some link → (link == handle.link) ≡ false → IsClosedBelow
      → Both v call turn (λ w. rename_over w naming dir link)
  unfolding rename_over rename_over_broken rename_over_closed
  beside-over dir link reached found differs below = elim (option_cases (replace_fault v naming link)) [
    | inr fault ↦ rw fault.1 beside-done
    | inl free ↦ rw free (beside-held (set.Link link) _ _ (RenamesOver number id path replace link handle is named living (dir, reached, found) differs free refl refl)
        (behind-over v number path replace naming dir link) (first-there link differs below)
        (beside-closed (set.Link link) naming AccessDenied (λ w. rename_free w naming dir (Some link))
        (λ closed. beside-free dir (Some link) below (λ other there apart can. let same : Some other ≡ Some link = sym (at_link v path dir other reached there) ∙ found in
        let same_link : other ≡ link = cc in rw same_link closed))))
  ]

  beside-named : (dir : ℕ) → walk v (components path) ≡ Reached dir → IsClosedBelow → Both v call turn (λ w. rename_named w naming dir)
  unfolding rename_named
  beside-named dir reached below = beside-if (lacks_entry_right v naming dir) _ _ _ _ (λ lacks. beside-done) (λ grants. elim (option_cases (child_of v dir (new_name naming))) [
    | inl none ↦ rw none (beside-free dir None below (λ other there apart can. let impossible : None ≡ Some other = sym none ∙ at_link v path dir other reached there in cc))
    | inr link ↦ elim (cases_Bool (link.0 == handle.link)) [
      | inl own ↦ rw (link.1, own) (beside-free dir None below (λ other there apart can. let same : Some other ≡ Some link.0 = sym (at_link v path dir other reached there) ∙ link.1 in
          let same_link : other ≡ link.0 = cc in let impossible = sym own ∙ rw same_link at apart in cc))
      | inr differs ↦ rw (link.1, differs) (beside-over dir link.0 reached link.1 differs below)
    ]
  ])

  -- and before all those below a directory
  beside-directory : (dir : ℕ) → walk v (components path) ≡ Reached dir → is_directory v.files naming.file ≡ true → Both v call turn (λ w. rename_directory w naming dir)
  unfolding rename_directory rename_below_closed
  beside-directory dir reached directory = beside-if (is_at_or_below v.links naming.file dir) _ _ _ _ (λ inside. beside-done) (λ apart.
      beside-held (set.Below naming.file) _ _ (RenamesAbove number path replace handle is (rw named living) refl directory refl) (rw directory (behind-below v number path replace naming dir))
      (first-below naming.file)
      (beside-closed (set.Below naming.file) naming AccessDenied (λ w. rename_named w naming dir) (λ closed. beside-named dir reached (λ so. closed))))

  beside-into : (dir : ℕ) → walk v (components path) ≡ Reached dir → Both v call turn (λ w. rename_into w naming dir)
  unfolding rename_into
  beside-into dir reached = beside-if (is_directory v.files naming.file) _ _ _ _ (beside-directory dir reached)
      (λ isnt. beside-named dir reached (λ so. let impossible = sym so ∙ isnt in cc))

  -- refused before, or on to the directory of the new name
  beside-walked : (walked : Walked) → walk v (components path) ≡ walked → Both v call turn (λ w. rename_walked w naming walked)
  unfolding rename_walked
  beside-walked (Reached dir) reached = beside-into dir reached
  beside-walked (Barred status) reached = beside-done
  beside-walked (Diverted file next) reached = beside-any (pends-stopped v file _)

  beside-link : Both v call turn (λ w. rename_link w naming handle.access)
  unfolding rename_link
  beside-link = beside-if (not (has_any handle.access DELETE)) _ _ _ _ (λ denied. beside-done) (λ may. beside-if (is_link_marked v handle.link) _ _ _ _ (λ marked. beside-done)
      (λ lives. beside-if (is_no_name path) _ _ _ _ (λ nameless. beside-done) (λ names. rw (walks_alike v (components path) 1 0) (beside-walked (walk v (components path)) refl))))

  beside-by : Both v call turn (λ w. rename_by w id handle path replace)
  unfolding rename_by
  beside-by = beside-if (handle.link == 0 || is_some (named_stream v handle)) _ _ _ _ (λ unnamed. beside-done) (λ links. beside-link)

-- ---- any rename

-- where a rename is held, it is so by the breaks of one of its sets, and no handle is open of those that come before
pub rename-pends : (v : Volume) (call : Call) (turn number : ℕ) (path : List ℕ) (replace : Bool) → call.what ≡ Ask (request.Rename number path replace)
    → PendsForCause v call turn (try_rename v call.client number path replace)
unfolding try_rename rename_at
rename-pends v call turn number path replace is = elim (option_cases (handle_of v call.client number)) [
  | inl closed ↦ rw closed tt
  | inr id ↦ elim (option_cases (row_of v.handles id.0)) [
    | inl gone ↦ rw (id.1, gone) tt
    | inr handle ↦ rw (id.1, handle.1) (Pends.so (Beside.pends (beside-by v call turn number id.0 path replace handle.0 is id.1 handle.1) (rw (is, id.1, handle.1) refl)))
  ]
]
