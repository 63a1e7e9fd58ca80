-- Why an open is pending after a try of it: it has passed the checks that stand before its breaks, and is held by just the breaks,
-- for which its rule has it wait, of the directory or the stream that its path names. It breaks by class Clash where it clashes
-- with a handle, by class Change where it overwrites, and else by class ReadOpen, which holds it only without
-- COMPLETE_IF_OPLOCKED. Each definition of the open is followed once, in the volume and in the same without any oplock: all its
-- checks come to the same in both, and without oplocks no break holds the open, so that it ends behind them.
use Rattle.std.proofs.Common.{◌≡◌, ℕ, true, false, ◌==◌, ◌&&◌, ◌||◌, not, List, length, refl, ◌∙◌, Option, Some}
use Rattle.std.specs.Prelude.{if◌then◌else◌}
use Rattle.std.proofs.lemmas.Bool.{not-false, or_parts}
use Rattle.fsa_types.specs.Paths.{components, rest_of}
use Rattle.fsa_types.specs.Rows.{row_of}
use Rattle.fsa_types.specs.declared.oplock.Class.{Class}
use Rattle.fsa_types.specs.declared.oplock.Class.TheVariants.{Clash, Change, ReadOpen}
use Rattle.fsa_types.specs.declared.oplock.HandleSet.{HandleSet}
use Rattle.fsa_types.specs.declared.oplock.HandleSet.TheVariants as set
use Rattle.fsa_types.specs.declared.request.Call.{Call}
use Rattle.fsa_types.specs.declared.request.Disposition.{Disposition}
use Rattle.fsa_types.specs.declared.request.Request.TheVariants as request
use Rattle.fsa_types.specs.declared.request.What.TheVariants.{Ask}
use Rattle.fsa_types.specs.declared.status.Status.TheVariants.{OplockBreakInProgress}
use Rattle.fsa_model.specs.Coherence.{set_of_file, set_of_link, set_of_path}
use Rattle.fsa_model.specs.Lookups.{child_of, is_directory, stream_of}
use Rattle.fsa_model.specs.Open.{Asked, access_of, asks_for_file, clashed, completes_if_oplocked, create_at, create_by_link, create_found, create_in_file, create_missing, create_named, create_on_stream, create_stream, create_there, create_walked, held, has_stream_part, make_directory, make_file, open_directory, open_existing, open_granted, open_stream, open_waits, overwrite_existing, overwrites, stream_name, try_create, wants_file, wants_more}
use Rattle.fsa_model.specs.Outcome.{Outcome}
use Rattle.fsa_model.specs.Volume.{Link, Volume}
use Rattle.fsa_model.specs.Walk.{Walked, Reached, Barred, Diverted, last_name, walk}
use Rattle.history_laws.specs.OplockChanges.{MayBreak, Opens, breaks_by_open, class_of_open, may_go_beside}
use Rattle.history_laws.specs.WhyPending.{IsBehindChecks, PassesToBreaks, PendsForCause, ByBreaks}
use Rattle.history_laws.proofs.Pends.{Beside, Both, Pends, beside-any, beside-done, beside-if, beside-option, pends-done, pends-if, pends-stopped}
use Rattle.history_laws.proofs.SetsByOpens.{clashes, opens_so}
use Rattle.history_laws.proofs.WithoutOplocks.{walks_alike}

module _ (v : Volume) (call : Call) (turn : ℕ) (asked : Asked) (is : call.what ≡ opens_so asked) where
  -- what it comes to without any oplock comes only behind its checks
  behind : {tried outcome : Outcome} → IsBehindChecks false (opens_so asked) tried → (PassesToBreaks v call → Pends v call turn outcome)
      → Beside v call turn tried outcome
  behind passed pends = record { pends = λ comes. pends (rw (comes, is) passed) }

  -- held by the breaks of the set that the path names, by the class of the open
  by_breaks : (on : HandleSet) (class : Class) → set_of_path v asked.path ≡ Some on → class ≡ class_of_open (clashes v asked on) asked.disposition
      → breaks_by_open (clashes v asked on) asked.disposition (access_of asked) ≡ true → PassesToBreaks v call → may_go_beside (opens_so asked) class OplockBreakInProgress ≡ false
      → open_waits v on class asked.key ≡ true → Pends v call turn (held v on class asked.key)
  by_breaks on class named of_open breaks passes stays waits =
      let may : MayBreak v call class on = Opens asked.path asked.wanted asked.share asked.disposition asked.options asked.attributes asked.key is named of_open breaks in
      record { so = ByBreaks class on may passes (rw is stays) (λ renames. (let impossible = rw is at renames in cc)) (rw is waits) (rw is refl) (rw is refl) }

  -- ---- the set is known

  -- it clashes
  clashes_so : (on : HandleSet) → set_of_path v asked.path ≡ Some on → clashes v asked on ≡ true → Both v call turn (λ w. clashed w on asked.key)
  unfolding clashed
  clashes_so on named clash =
      behind refl (λ passes. pends-if (open_waits v on Clash asked.key) _ _
      (λ waits. by_breaks on Clash named (rw clash refl) (rw clash refl) passes refl waits) (λ free. pends-done))

  -- it is opened as it is
  existing : (link : ℕ) (stream : Option ℕ) (on : HandleSet) → set_of_path v asked.path ≡ Some on → clashes v asked on ≡ false → overwrites asked.disposition ≡ false
      → Both v call turn (λ w. open_existing w asked link stream on)
  unfolding open_existing
  existing link stream on named free keeps =
      beside-if (not (wants_more asked)) _ _ _ _ (λ less. beside-done) (λ more. behind refl (λ passes. search (pends-if, pends-done, waits, more, passes) depth 40))
    where
      waits : not (wants_more asked) ≡ false → PassesToBreaks v call → not (open_waits v on ReadOpen asked.key) ≡ false → completes_if_oplocked asked ≡ false
          → Pends v call turn (held v on ReadOpen asked.key)
      waits more passes some stays =
          by_breaks on ReadOpen named (rw (free, keeps) refl) (rw (free, keeps) (not-false (wants_more asked) more)) passes stays (not-false (open_waits v on ReadOpen asked.key) some)

  -- it is overwritten
  overwrites_so : (link file stream : ℕ) → set_of_path v asked.path ≡ Some (set.Stream stream) → clashes v asked (set.Stream stream) ≡ false
      → overwrites asked.disposition ≡ true → Both v call turn (λ w. overwrite_existing w asked link file stream)
  unfolding overwrite_existing
  overwrites_so link file stream named free over =
      behind refl (λ passes. pends-if (open_waits v (set.Stream stream) Change asked.key) _ _
      (λ waits. by_breaks (set.Stream stream) Change named (rw (free, over) refl) (rw (free, over) refl) passes refl waits) (λ none. pends-done))

  -- ---- what is there

  directory : (link file : ℕ) → set_of_path v asked.path ≡ Some (set.Link link) → overwrites asked.disposition ≡ false
      → Both v call turn (λ w. open_directory w asked link file)
  unfolding open_directory open_granted
  directory link file named keeps = search (beside-if, beside-done, clashes_so, existing, named, keeps) depth 40

  on_stream : (link file stream : ℕ) → set_of_path v asked.path ≡ Some (set.Stream stream) → Both v call turn (λ w. create_on_stream w asked link file stream)
  unfolding create_on_stream open_stream
  on_stream link file stream named = search (beside-if, beside-done, clashes_so, existing, overwrites_so, named) depth 60 fits 4000

  missing : (link file : ℕ) → Pends v call turn (create_stream v asked link file)
  unfolding create_stream
  missing link file = search (pends-if, pends-done) depth 40

  in_file : (link file : ℕ) → is_directory v.files file ≡ false → set_of_path v asked.path ≡ set_of_file v asked.path link file
      → Both v call turn (λ w. create_in_file w asked link file)
  unfolding create_in_file
  in_file link file a_file named =
      beside-option (stream_of v file (stream_name asked.path)) _ _ _ _ (λ stream found. on_stream link file stream (named ∙ rw (a_file, found) refl))
      (λ none. beside-any (missing link file))

  -- an open that overwrites isn't of a directory
  of_kind : (link file : ℕ) → set_of_path v asked.path ≡ set_of_file v asked.path link file → (is_directory v.files file && asks_for_file asked) ≡ false
      → Both v call turn (λ w. if is_directory w.files file then open_directory w asked link file else create_in_file w asked link file)
  of_kind link file named fits =
      beside-if (is_directory v.files file) _ _ _ _ (λ dir. directory link file (named ∙ rw dir refl) (keeps dir)) (λ a_file. in_file link file a_file named)
    where
      keeps : is_directory v.files file ≡ true → overwrites asked.disposition ≡ false
      keeps dir = (or_parts (wants_file asked || has_stream_part asked.path) (overwrites asked.disposition) (rw dir at fits)).1

  there : (link file : ℕ) → set_of_path v asked.path ≡ set_of_file v asked.path link file → Both v call turn (λ w. create_there w asked link file)
  unfolding create_there
  there link file named = search (beside-if, beside-done, of_kind, named) depth 40

  found : (link file : ℕ) → set_of_path v asked.path ≡ set_of_file v asked.path link file → Both v call turn (λ w. create_found w asked link file)
  unfolding create_found
  found link file named = search (beside-if, beside-any, pends-stopped, there, named)

  -- ---- the last name, and the path

  by_link : (link : ℕ) → set_of_path v asked.path ≡ set_of_link v asked.path link → Both v call turn (λ w. create_by_link w asked link)
  unfolding create_by_link
  by_link link named =
      beside-option (row_of v.links link) _ _ _ _ (λ (row : Link) is. beside-if row.deleted _ _ _ _ (λ deleted. beside-done) (λ living. found link row.file (named ∙ rw is refl)))
      (λ none. beside-done)

  made : (dir : ℕ) (name : List ℕ) → Pends v call turn (create_missing v asked dir name)
  unfolding create_missing make_file make_directory
  made dir name = search (pends-if, pends-done) depth 40

  by_name : (dir : ℕ) → walk v (components asked.path) ≡ Reached dir → (length (components asked.path) == 0) ≡ false
      → Both v call turn (λ w. create_named w asked dir (last_name (components asked.path)))
  unfolding create_named
  by_name dir reached below =
      beside-option (child_of v dir (last_name (components asked.path))) _ _ _ _ (λ link found. by_link link (rw (reached, below, found) refl))
      (λ none. beside-any (made dir (last_name (components asked.path))))

  walked : (way : Walked) → walk v (components asked.path) ≡ way → Both v call turn (λ w. create_walked w asked way)
  unfolding create_walked
  walked (Reached dir) reached = beside-if (length (components asked.path) == 0) _ _ _ _ (λ root. found 0 1 (rw (reached, root) refl)) (λ below. by_name dir reached below)
  walked (Barred status) reached = beside-done
  walked (Diverted file next) reached = beside-any (pends-stopped v file (rest_of asked.path next))

  opens : Both v call turn (λ w. try_create w asked)
  unfolding try_create create_at
  opens = search (beside-if, beside-done, walks) depth 40
    where
      walks : Both v call turn (λ w. create_walked w asked (walk w (components asked.path)))
      walks = rw (walks_alike v (components asked.path) 1 0) (walked (walk v (components asked.path)) refl)

pub open-pends : (v : Volume) (call : Call) (turn : ℕ) (path : List ℕ) (wanted share : ℕ) (disposition : Disposition) (options attributes key : ℕ)
    → call.what ≡ Ask (request.Create path wanted share disposition options attributes key)
    → PendsForCause v call turn
    (try_create v (record { client = call.client; number = call.number; path = path; wanted = wanted; share = share; disposition = disposition; options = options; attributes = attributes; key = key }))
open-pends v call turn path wanted share disposition options attributes key is = Pends.so (Beside.pends (opens v call turn asked is) (rw is refl))
  where
    asked : Asked
    asked = record { client = call.client; number = call.number; path = path; wanted = wanted; share = share; disposition = disposition; options = options; attributes = attributes; key = key }
