-- Each open ends as its checks say: the definitions of the open are followed check by check, beside the list of checks. Where one fails,
-- the open is refused with its reply; where it passes, the rest of the list goes with the rest of the open. Checks with one status that the
-- definition joins are taken one by one.
use Rattle.std.proofs.Common.{◌≡◌, ℕ, Bool, true, false, ◌==◌, ◌&&◌, ◌||◌, not, List, [], ◌∷◌, length, get_or, refl, inl, inr, Option, Some, None}
use Rattle.std.specs.Int.RustNames.{bit_or}
use Rattle.std.specs.Option.{option_map_or}
use Rattle.std.specs.Prelude.{if◌then◌else◌, is_some, unwrap_or}
use Rattle.std.proofs.lemmas.Bool.{cases_Bool}
use Rattle.fsa_model.proofs.FaultStatuses.{BarsWithout, walk-fails}
use Rattle.fsa_model.proofs.RowLaws.{option_cases}
use Rattle.fsa_types.specs.Access.{has_any, has_other}
use Rattle.fsa_types.specs.Masks.{APPEND_DATA, IO_REPARSE_TAG_SYMLINK, READONLY, WRITE_DATA, known_attributes, known_options, known_rights, known_shares}
use Rattle.fsa_types.specs.Paths.{components, path_fault, rest_of, stream_part}
use Rattle.fsa_types.specs.Rows.{row_of}
use Rattle.fsa_types.specs.declared.oplock.HandleSet.{HandleSet}
use Rattle.fsa_types.specs.declared.oplock.HandleSet.TheVariants as set
use Rattle.fsa_types.specs.declared.oplock.Class.TheVariants.{Change, Clash, ReadOpen}
use Rattle.fsa_types.specs.declared.reply.Body.TheVariants.{Stopped}
use Rattle.fsa_types.specs.declared.reply.Reply.{Reply}
use Rattle.fsa_types.specs.declared.request.Call.{Call}
use Rattle.fsa_types.specs.declared.request.Disposition.{Disposition}
use Rattle.fsa_types.specs.declared.request.Disposition.TheVariants.{Supersede, OpenExisting, CreateNew, OpenIf, Overwrite, OverwriteIf}
use Rattle.fsa_types.specs.declared.status.Status.{Status}
use Rattle.fsa_types.specs.declared.status.Status.TheVariants.{AccessDenied, CannotDelete, FileIsADirectory, InvalidHandle, NotADirectory, ObjectNameCollision, ObjectPathNotFound, Reparse, StoppedOnSymlink}
use Rattle.fsa_model.specs.History.{HistoryEntry}
use Rattle.fsa_model.specs.Lookups.{attributes_of, child_of, clashes_on, has_left, is_directory, is_marked, stream_of}
use Rattle.fsa_model.specs.Open.{Asked, access_of, asks_for_file, clashed, completes_if_oplocked, create_at, create_by_link, create_found, create_in_file, create_missing, create_named, create_on_stream, create_stream, create_there, create_walked, deletes_on_close, grants, is_invalid, is_other_kind, is_readonly, lacks_delete, make_directory, make_file, names_stream, only_makes, only_opens, open_directory, open_existing, open_granted, open_stream, open_waits, opens_point, overwrite_existing, overwrites, parent_right, replacing_right, stopped, stream_name, try_create, uncovers, wants_directory, wants_file, wants_more}
use Rattle.fsa_model.specs.Open as opens
use Rattle.fsa_model.specs.Outcome.{Outcome, Done, refused}
use Rattle.fsa_model.specs.Setup.{Setup}
use Rattle.fsa_model.specs.Tries.{Tried, tries_of}
use Rattle.fsa_model.specs.Try.{try}
use Rattle.fsa_model.specs.Volume.{Link, Volume}
use Rattle.fsa_model.specs.Walk.{Walked, Reached, Barred, Diverted, last_name, point_of, walk}
use Rattle.history_laws.specs.OpenChecks.{Check, EndsBy, OpenEndsByChecks, OpensEndByChecks, checks_of, checks_of_directory, checks_of_found, checks_of_link, checks_of_missing, checks_of_new_stream, checks_of_stream, checks_of_walked, first_failing, is_behind_checks, is_for_named, is_overwriting, makes_missing, overwriting_right, stopped_by, takes_existing, with_status}

-- ---- tables

-- those of dispositions are those of the open
overwriting-as : (disposition : Disposition) → is_overwriting disposition ≡ overwrites disposition
overwriting-as Supersede = refl
overwriting-as OpenExisting = refl
overwriting-as CreateNew = refl
overwriting-as OpenIf = refl
overwriting-as Overwrite = refl
overwriting-as OverwriteIf = refl

right-as : (disposition : Disposition) → overwriting_right disposition ≡ replacing_right disposition
right-as Supersede = refl
right-as OpenExisting = refl
right-as CreateNew = refl
right-as OpenIf = refl
right-as Overwrite = refl
right-as OverwriteIf = refl

makes-as : (disposition : Disposition) → not (makes_missing disposition) ≡ only_opens disposition
makes-as Supersede = refl
makes-as OpenExisting = refl
makes-as CreateNew = refl
makes-as OpenIf = refl
makes-as Overwrite = refl
makes-as OverwriteIf = refl

takes-as : (disposition : Disposition) → not (takes_existing disposition) ≡ only_makes disposition
takes-as Supersede = refl
takes-as OpenExisting = refl
takes-as CreateNew = refl
takes-as OpenIf = refl
takes-as Overwrite = refl
takes-as OverwriteIf = refl

-- and so is what has the path of a named stream
part-as : (part : Option (List ℕ)) → option_map_or (λ name. not (length name == 0)) part false ≡ not (length (unwrap_or part []) == 0)
part-as None = refl
part-as (Some name) = refl

named-as : (asked : Asked) → is_for_named asked ≡ names_stream asked.path
named-as asked = part-as (stream_part asked.path)

-- ---- claims

record By (v : Volume) (failing : Option Reply) (outcome : Outcome) : Type 0 where
  so : EndsBy v failing outcome

-- the same reply, said otherwise
by-as : (v : Volume) (failing below : Option Reply) (outcome : Outcome) → failing ≡ below → By v below outcome → By v failing outcome
by-as v failing below outcome same by = rw same by

module _ (v : Volume) where
  -- it is refused with the status of the check that fails
  by-refused : (status : Status) → is_behind_checks status ≡ false → By v (Some (with_status status)) (refused v status)
  by-refused status fails = record { so = (refl, fails) }

  -- a check, and then the others
  by-check : (test : Bool) (status : Status) (more : Option Reply) (rest : Outcome) → is_behind_checks status ≡ false → (test ≡ false → By v more rest)
      → By v (if test then Some (with_status status) else more) (if test then refused v status else rest)
  by-check true status more rest fails goes = by-refused status fails
  by-check false status more rest fails goes = goes refl

  -- two checks with one reply that are joined, and two that share a condition
  by-split : (failing : Option Reply) (one other : Bool) (fails rest : Outcome) → By v failing (if one then fails else (if other then fails else rest))
      → By v failing (if one || other then fails else rest)
  by-split failing true other fails rest by = by
  by-split failing false other fails rest by = by

  by-shared : (shared one other : Bool) (status : Status) (more : Option Reply) (rest : Outcome) → is_behind_checks status ≡ false → By v more rest
      → By v (if shared && one then Some (with_status status) else (if shared && other then Some (with_status status) else more)) (if shared && (one || other) then refused v status else rest)
  by-shared false one other status more rest fails goes = goes
  by-shared true true other status more rest fails goes = by-refused status fails
  by-shared true false true status more rest fails goes = by-refused status fails
  by-shared true false false status more rest fails goes = goes

  -- by a test, and by what is looked up
  by-if : (failing : Option Reply) (test : Bool) (one other : Outcome) → (test ≡ true → By v failing one) → (test ≡ false → By v failing other) → By v failing (if test then one else other)
  by-if failing true one other holds fails = holds refl
  by-if failing false one other holds fails = fails refl

  by-option : (failing : Option Reply) {X : Type 0} (found : Option X) (some : X → Outcome) (none : Outcome) → ((x : X) → found ≡ Some x → By v failing (some x))
      → (found ≡ None → By v failing none) → By v failing (option_map_or some found none)
  by-option failing None some none with_some with_none = with_none refl
  by-option failing (Some x) some none with_some with_none = with_some x refl

  -- a reparse point stops it
  by-tag : (test : Bool) (tag : ℕ) (bytes rest : List ℕ)
      → EndsBy v (Some (record { status = if test then StoppedOnSymlink else Reparse; body = Stopped tag bytes rest })) (Done v (record { status = if test then StoppedOnSymlink else Reparse; body = Stopped tag bytes rest }))
  by-tag true tag bytes rest = (refl, refl)
  by-tag false tag bytes rest = (refl, refl)

  stops : (file : ℕ) (rest : List ℕ) → By v (Some (stopped_by (point_of v file) rest)) (stopped v file rest)
  unfolding stopped
  stops file rest = elim (option_cases (point_of v file)) [
    | inl none ↦ rw none (by-refused ObjectPathNotFound refl)
    | inr point ↦ rw point.1 (record { so = by-tag (point.0.0 == IO_REPARSE_TAG_SYMLINK) point.0.0 point.0.1 rest })
  ]

-- ---- behind the checks

module _ (v : Volume) where
  behind-if : (test : Bool) (one other : Outcome) → By v None one → By v None other → By v None (if test then one else other)
  behind-if test one other holds fails = by-if v None test one other (λ is. holds) (λ isnt. fails)

  clashes : (on : HandleSet) (key : ℕ) → By v None (clashed v on key)
  unfolding clashed
  clashes on key = behind-if (open_waits v on Clash key) _ _ (record { so = tt }) (record { so = refl })

module _ (v : Volume) (asked : Asked) where
  opens_existing : (link : ℕ) (stream : Option ℕ) (on : HandleSet) → By v None (open_existing v asked link stream on)
  unfolding open_existing
  opens_existing link stream on =
      behind-if v (not (wants_more asked)) _ _ (record { so = refl }) (behind-if v (not (open_waits v on ReadOpen asked.key)) _ _ (record { so = refl })
      (behind-if v (completes_if_oplocked asked) _ _ (record { so = refl }) (record { so = tt })))

  overwrites_existing : (link file stream : ℕ) → By v None (overwrite_existing v asked link file stream)
  unfolding overwrite_existing
  overwrites_existing link file stream = behind-if v (open_waits v (set.Stream stream) Change asked.key) _ _ (record { so = tt }) (record { so = refl })

  opens_directory : (link : ℕ) → By v None (open_granted v asked link)
  unfolding open_granted
  opens_directory link = behind-if v (clashes_on v (set.Link link) (access_of asked) asked.share) _ _ (clashes v (set.Link link) asked.key) (opens_existing link None (set.Link link))

  opens_stream : (link file stream : ℕ) → By v None (open_stream v asked link file stream)
  unfolding open_stream
  opens_stream link file stream =
      behind-if v (clashes_on v (set.Stream stream) (access_of asked) asked.share) _ _ (clashes v (set.Stream stream) asked.key)
      (behind-if v (overwrites asked.disposition) _ _ (overwrites_existing link file stream) (opens_existing link (Some stream) (set.Stream stream)))

  makes_directory : (dir : ℕ) (name : List ℕ) → By v None (make_directory v asked dir name)
  unfolding make_directory
  makes_directory dir name = record { so = refl }

  makes_file : (dir : ℕ) (name : List ℕ) → By v None (make_file v asked dir name)
  unfolding make_file
  makes_file dir name = behind-if v (names_stream asked.path) _ _ (record { so = refl }) (record { so = refl })

-- ---- opens

-- those of a directory behind what can be asked of a file alone, and those of what is there behind the reparse point
abbrev checks_of_opening : Volume → Asked → ℕ → ℕ → List Check
checks_of_opening v asked link file =
    (not (grants v file asked.client (access_of asked)), with_status AccessDenied) ∷ (deletes_on_close asked && (link == 0 || is_readonly v file), with_status CannotDelete) ∷ []

abbrev checks_of_unstopped : Volume → Asked → ℕ → ℕ → List Check
checks_of_unstopped v asked link file =
    (only_makes asked.disposition && not (names_stream asked.path), with_status ObjectNameCollision)
    ∷ (is_other_kind asked (is_directory v.files file), with_status NotADirectory)
    ∷ (if is_directory v.files file then checks_of_directory v asked link file
    else option_map_or (λ stream. checks_of_stream v asked file stream) (stream_of v file (stream_name asked.path)) (checks_of_new_stream v asked file))

module _ (v : Volume) (asked : Asked) where
  -- a directory, and a stream
  opening : (link file : ℕ) → By v (first_failing (checks_of_opening v asked link file)) (open_directory v asked link file)
  unfolding open_directory
  opening link file =
      by-check v (not (grants v file asked.client (access_of asked))) _ _ _ refl
      (λ granted. by-check v (deletes_on_close asked && (link == 0 || is_readonly v file)) _ None _ refl (λ stays. opens_directory v asked link))

  directory : (link file : ℕ) → By v (first_failing (checks_of_directory v asked link file)) (if wants_file asked || opens.has_stream_part asked.path || overwrites asked.disposition then refused v FileIsADirectory else open_directory v asked link file)
  directory link file = by-as v _ _ _ (rw (overwriting-as asked.disposition) refl)
      (by-split v _ (wants_file asked || opens.has_stream_part asked.path) (overwrites asked.disposition) _ _ (by-split v _ (wants_file asked) (opens.has_stream_part asked.path) _ _
      (by-check v (wants_file asked) _ _ _ refl (λ any. by-check v (opens.has_stream_part asked.path) _ _ _ refl
      (λ plain. by-check v (overwrites asked.disposition) _ _ _ refl (λ kept. opening link file))))))

  on_stream : (link file stream : ℕ) → By v (first_failing (checks_of_stream v asked file stream)) (create_on_stream v asked link file stream)
  unfolding create_on_stream
  on_stream link file stream = by-as v _ _ _ (rw (overwriting-as asked.disposition, right-as asked.disposition, takes-as asked.disposition, named-as asked) refl)
      (by-check v (names_stream asked.path && is_marked v stream) _ _ _ refl (λ living. by-check v (names_stream asked.path && only_makes asked.disposition) _ _ _ refl
      (λ fits. by-check v (not (grants v file asked.client (bit_or (access_of asked) (replacing_right asked.disposition)))) _ _ _ refl
      (λ granted. by-shared v (is_readonly v file) (has_any (access_of asked) (bit_or WRITE_DATA APPEND_DATA)) (overwrites asked.disposition) _ _ _ refl
      (by-check v (is_readonly v file && deletes_on_close asked) _ _ _ refl
      (λ stays. by-check v (overwrites asked.disposition && uncovers (attributes_of v file) asked.attributes) _ None _ refl (λ covered. opens_stream v asked link file stream)))))))

  -- a stream, and a file or a directory, that is missing
  stream_made : (link file : ℕ) → By v (first_failing (checks_of_new_stream v asked file)) (create_stream v asked link file)
  unfolding create_stream
  stream_made link file = by-as v _ _ _ (rw (makes-as asked.disposition) refl)
      (by-check v (only_opens asked.disposition) _ _ _ refl (λ makes. by-check v (not (grants v file asked.client (bit_or (access_of asked) WRITE_DATA))) _ _ _ refl
      (λ granted. by-check v (is_readonly v file) _ None _ refl (λ writable. record { so = refl }))))

  made : (dir : ℕ) (name : List ℕ) → By v (first_failing (checks_of_missing v asked dir)) (create_missing v asked dir name)
  unfolding create_missing
  made dir name = by-as v _ _ _ (rw (makes-as asked.disposition) refl)
      (by-check v (only_opens asked.disposition) _ _ _ refl (λ makes. by-check v (deletes_on_close asked && has_any asked.attributes READONLY) _ _ _ refl
      (λ goes. by-check v (not (grants v dir asked.client (parent_right asked))) _ None _ refl
      (λ granted. behind-if v (wants_directory asked) _ _ (makes_directory v asked dir name) (makes_file v asked dir name)))))

  -- what is there
  in_file : (link file : ℕ)
      → By v (first_failing (option_map_or (λ stream. checks_of_stream v asked file stream) (stream_of v file (stream_name asked.path)) (checks_of_new_stream v asked file))) (create_in_file v asked link file)
  unfolding create_in_file
  in_file link file =
      by-option v _ (stream_of v file (stream_name asked.path)) _ _ (λ stream is. by-as v _ _ _ (rw is refl) (on_stream link file stream))
      (λ missing. by-as v _ _ _ (rw missing refl) (stream_made link file))

  there : (link file : ℕ) → By v (first_failing (checks_of_unstopped v asked link file)) (create_there v asked link file)
  unfolding create_there
  there link file =
      by-check v (only_makes asked.disposition && not (names_stream asked.path)) _ _ _ refl (λ fits. by-check v (is_other_kind asked (is_directory v.files file)) _ _ _ refl (λ kind.
      elim (cases_Bool (is_directory v.files file)) [ inl dir ↦ rw dir (directory link file) | inr a_file ↦ rw a_file (in_file link file) ]))

  found : (link file : ℕ) → By v (first_failing (checks_of_found v asked link file)) (create_found v asked link file)
  unfolding create_found
  found link file = elim (cases_Bool (is_some (point_of v file) && not (opens_point asked))) [
    | inl point ↦ rw point (stops v file [])
    | inr bare ↦ by-as v _ (first_failing (checks_of_unstopped v asked link file)) _ (rw (bare, takes-as asked.disposition, named-as asked) refl) (rw bare (there link file))
  ]

  -- the last name, and the path
  by_link : (link : ℕ) → By v (first_failing (checks_of_link v asked link)) (create_by_link v asked link)
  unfolding create_by_link
  by_link link =
      by-option v _ (row_of v.links link) _ _ (λ (row : Link) is. by-as v _ _ _ (rw is refl) (by-check v row.deleted _ _ _ refl (λ living. found link row.file)))
      (λ none. by-as v _ _ _ (rw none refl) (by-refused v _ refl))

  by_name : (dir : ℕ) → (length (components asked.path) == 0) ≡ false
      → By v (first_failing (checks_of_walked v asked (Reached dir))) (create_named v asked dir (last_name (components asked.path)))
  unfolding create_named
  by_name dir below =
      by-option v _ (child_of v dir (last_name (components asked.path))) _ _ (λ link is. by-as v _ _ _ (rw (below, is) refl) (by_link link))
      (λ none. by-as v _ _ _ (rw (below, none) refl) (made dir (last_name (components asked.path))))

  walked : (way : Walked) → BarsWithout is_behind_checks way → By v (first_failing (checks_of_walked v asked way)) (create_walked v asked way)
  unfolding create_walked
  walked (Reached dir) barred =
      by-if v _ (length (components asked.path) == 0) _ _ (λ root. by-as v _ _ _ (rw root refl) (found 0 1)) (λ below. by_name dir below)
  walked (Barred status) barred = by-refused v status barred
  walked (Diverted file next) barred = stops v file (rest_of asked.path next)

  -- the first of what is asked
  abbrev shares : Bool
  shares = has_other asked.share known_shares

  abbrev options : Bool
  options = has_other asked.options known_options

  abbrev attributes : Bool
  attributes = has_other asked.attributes known_attributes

  abbrev kinds : Bool
  kinds = wants_directory asked && wants_file asked

  ends : By v (first_failing (checks_of v asked)) (if has_left v asked.client then refused v InvalidHandle else try_create v asked)
  unfolding try_create create_at
  ends = by-as v _ _ _ (rw (overwriting-as asked.disposition) refl)
      (by-check v (has_left v asked.client) _ _ _ refl (λ here. by-split v _ (shares || options || attributes || kinds) (wants_directory asked && overwrites asked.disposition) _ _
      (by-split v _ (shares || options || attributes) kinds _ _ (by-split v _ (shares || options) attributes _ _ (by-split v _ shares options _ _
      (by-check v shares _ _ _ refl (λ a. by-check v options _ _ _ refl (λ b. by-check v attributes _ _ _ refl (λ c. by-check v kinds _ _ _ refl
      (λ d. by-check v (wants_directory asked && overwrites asked.disposition) _ _ _ refl (λ fits.
      by-split v _ (asked.wanted == 0) (has_other asked.wanted known_rights) _ _ (by-check v (asked.wanted == 0) _ _ _ refl (λ some. by-check v (has_other asked.wanted known_rights) _ _ _ refl
      (λ known. by-check v (lacks_delete asked) _ _ _ refl (λ deletes. by-check v (is_some (path_fault asked.path)) _ _ _ refl
      (λ formed. by-check v (opens.has_stream_part asked.path && wants_directory asked) _ _ _ refl
      (λ plain. walked (walk v (components asked.path)) (walk-fails is_behind_checks refl refl v (components asked.path) 1 0))))))))))))))))))

-- ---- each try

open-ends : (v : Volume) (call : Call) (turn : ℕ) → OpenEndsByChecks v call (try v call turn)
open-ends v call turn path wanted share disposition options attributes key is = By.so (rw is (ends v asked))
  where
    asked : Asked
    asked = record { client = call.client; number = call.number; path = path; wanted = wanted; share = share; disposition = disposition; options = options; attributes = attributes; key = key }

-- in all tries of a history
pub opens-end_as_their_checks_say : (setup : Setup) (history : List HistoryEntry) → OpensEndByChecks setup history
opens-end_as_their_checks_say setup history = λ k d within. (let t : Tried = get_or (tries_of setup history) k d in open-ends t.before t.call t.turn)
