-- Each open that has ended tells what it did, where it has succeeded, and only then: each definition of the open is followed once,
-- with the set that its path names. Where that is there, the open is refused or opens or overwrites it; where it is missing, it is
-- refused or makes it.
use Rattle.std.proofs.Common.{◌≡◌, ℕ, Bool, true, false, ◌==◌, ◌&&◌, ◌||◌, not, List, [], length, get_or, refl, sym, ◌∙◌, inl, inr, Option, Some, None}
use Rattle.std.specs.Option.{option_map_or}
use Rattle.std.specs.Prelude.{if◌then◌else◌, is_some}
use Rattle.std.proofs.lemmas.Bool.{cases_Bool, or_parts}
use Rattle.fsa_types.specs.Masks.{IO_REPARSE_TAG_SYMLINK}
use Rattle.fsa_types.specs.Paths.{components, rest_of, stream_part}
use Rattle.fsa_types.specs.Rows.{row_of}
use Rattle.fsa_types.specs.declared.oplock.Class.TheVariants.{Clash, Change, ReadOpen}
use Rattle.fsa_types.specs.declared.oplock.HandleSet.{HandleSet}
use Rattle.fsa_types.specs.declared.oplock.HandleSet.TheVariants as set
use Rattle.fsa_types.specs.declared.reply.Action.{Action}
use Rattle.fsa_types.specs.declared.reply.Action.TheVariants as action
use Rattle.fsa_types.specs.declared.reply.Blocker.{Blocker}
use Rattle.fsa_types.specs.declared.reply.Body.TheVariants.{Stopped}
use Rattle.fsa_types.specs.declared.reply.Interim.{Interim}
use Rattle.fsa_types.specs.declared.request.Call.{Call}
use Rattle.fsa_types.specs.declared.request.Disposition.{Disposition}
use Rattle.fsa_types.specs.declared.request.Disposition.TheVariants as disposition
use Rattle.fsa_types.specs.declared.request.Request.TheVariants as request
use Rattle.fsa_types.specs.declared.request.What.TheVariants.{Ask}
use Rattle.fsa_types.specs.declared.status.Status.{Status}
use Rattle.fsa_types.specs.declared.status.Status.TheVariants.{InvalidHandle, OplockBreakInProgress, Reparse, StoppedOnSymlink, Success}
use Rattle.fsa_model.specs.Coherence.{set_of_file, set_of_link, set_of_path}
use Rattle.fsa_model.specs.History.{HistoryEntry}
use Rattle.fsa_model.specs.Lookups.{child_of, has_left, is_directory, stream_of}
use Rattle.fsa_model.specs.Open.{Asked, asks_for_file, clashed, completes_if_oplocked, create_at, create_by_link, create_found, create_in_file, create_missing, create_named, create_on_stream, create_stream, create_there, create_walked, has_stream_part, is_other_kind, make_directory, make_file, names_stream, only_makes, only_opens, open_directory, open_existing, open_granted, open_stream, open_waits, opens, overwrite_action, overwrite_existing, overwrites, stopped, stream_name, try_create, wants_file, wants_more}
use Rattle.fsa_model.specs.Outcome.{Outcome, Done, Stay, Hold, refused}
use Rattle.fsa_model.specs.Setup.{Setup}
use Rattle.fsa_model.specs.Tries.{Tried, tries_of}
use Rattle.fsa_model.specs.Try.{try}
use Rattle.fsa_model.specs.Volume.{Link, Volume}
use Rattle.fsa_model.specs.Walk.{Walked, Reached, Barred, Diverted, last_name, point_of, walk}
use Rattle.fsa_model.proofs.FaultStatuses.{BarsWithout, walk-fails}
use Rattle.fsa_model.proofs.RowLaws.{option_cases}
use Rattle.history_laws.specs.AsAsked.{is_opened}
use Rattle.history_laws.specs.OpensTell.{OpensTellWhatTheyDid, TellsAction, TellsWhatItDid, may_tell}

-- ---- what a disposition lets an open tell

kept-told : (asked : Disposition) → overwrites asked ≡ false → only_makes asked ≡ false → may_tell asked true action.Opened ≡ true
kept-told disposition.Supersede keeps opens = cc
kept-told disposition.OpenExisting keeps opens = refl
kept-told disposition.CreateNew keeps opens = cc
kept-told disposition.OpenIf keeps opens = refl
kept-told disposition.Overwrite keeps opens = cc
kept-told disposition.OverwriteIf keeps opens = cc

overwritten-told : (asked : Disposition) → overwrites asked ≡ true → may_tell asked true (overwrite_action asked) ≡ true
overwritten-told disposition.Supersede over = refl
overwritten-told disposition.OpenExisting over = cc
overwritten-told disposition.CreateNew over = cc
overwritten-told disposition.OpenIf over = cc
overwritten-told disposition.Overwrite over = refl
overwritten-told disposition.OverwriteIf over = refl

made-told : (asked : Disposition) → only_opens asked ≡ false → may_tell asked false action.Created ≡ true
made-told disposition.Supersede makes = refl
made-told disposition.OpenExisting makes = cc
made-told disposition.CreateNew makes = refl
made-told disposition.OpenIf makes = refl
made-told disposition.Overwrite makes = cc
made-told disposition.OverwriteIf makes = refl

-- a path without a stream part names no stream but the default one
plain-names_none : (path : List ℕ) → has_stream_part path ≡ false → names_stream path ≡ false
plain-names_none path plain = elim (option_cases (stream_part path)) [
  | inl none ↦ rw none refl
  | inr some ↦ (let no : true ≡ false = rw some.1 at plain in cc)
]

-- what is only made is refused by one of two tests, where it names a stream and where it doesn't
opens-either : (makes named : Bool) → (makes && not named) ≡ false → (named && makes) ≡ false → makes ≡ false
opens-either false named first second = refl
opens-either true true first second = cc
opens-either true false first second = cc

-- ---- opens

-- where a try of the open has come to this, and has ended it, it tells what it did
abbrev TellsIn : Volume → Asked → Outcome → Type 0
TellsIn v asked (Done next reply) = TellsAction v asked.path asked.disposition reply
TellsIn v asked (Stay next interim) = Unit {0}
TellsIn v asked (Hold next blockers interim) = Unit {0}

record TellsSo (v : Volume) (asked : Asked) (outcome : Outcome) : Type 0 where
  so : TellsIn v asked outcome

module _ {v : Volume} {asked : Asked} where
  tells-held : (next : Volume) (blockers : List Blocker) (interim : Interim) → TellsSo v asked (Hold next blockers interim)
  tells-held next blockers interim = record { so = tt }

  -- it doesn't succeed
  tells-refused : (next : Volume) (status : Status) → is_opened status ≡ false → TellsSo v asked (refused next status)
  tells-refused next status fails = record {
    so = record { tells = λ opened. (let no : false ≡ true = sym fails ∙ opened in cc); succeeds = λ did is. cc; may = λ did is. cc; beside = λ did is beside. cc };
  }

  -- by a test, and by what is looked up
  tells-if : (test : Bool) (one other : Outcome) → (test ≡ true → TellsSo v asked one) → (test ≡ false → TellsSo v asked other)
      → TellsSo v asked (if test then one else other)
  tells-if true one other holds fails = holds refl
  tells-if false one other holds fails = fails refl

  tells-unless : (test : Bool) (status : Status) (other : Outcome) → is_opened status ≡ false → (test ≡ false → TellsSo v asked other)
      → TellsSo v asked (if test then refused v status else other)
  tells-unless test status other fails goes = tells-if test _ other (λ holds. tells-refused v status fails) goes

  tells-option : {X : Type 0} (found : Option X) (some : X → Outcome) (none : Outcome) → ((x : X) → found ≡ Some x → TellsSo v asked (some x))
      → (found ≡ None → TellsSo v asked none) → TellsSo v asked (option_map_or some found none)
  tells-option None some none with_some with_none = with_none refl
  tells-option (Some x) some none with_some with_none = with_some x refl

module _ (v : Volume) (asked : Asked) where
  -- it succeeds, on what was there, and on what it has made
  tells : (next : Volume) (status : Status) (did : Action) → is_opened status ≡ true → may_tell asked.disposition (is_some (set_of_path v asked.path)) did ≡ true
      → (status ≡ OplockBreakInProgress → did ≡ action.Opened) → TellsSo v asked (opens next status did)
  tells next status did succeeds may beside = record {
    so = record {
      tells = λ opened. (did, refl);
      succeeds = λ other is. succeeds;
      may = λ other is. (let same : did ≡ other = cc in rw (sym same) may);
      beside = λ other is breaks. (let same : did ≡ other = cc in sym same ∙ beside breaks);
    };
  }

  on_there : (next : Volume) (status : Status) (did : Action) (on : HandleSet) → set_of_path v asked.path ≡ Some on → is_opened status ≡ true
      → may_tell asked.disposition true did ≡ true → (status ≡ OplockBreakInProgress → did ≡ action.Opened) → TellsSo v asked (opens next status did)
  on_there next status did on named succeeds may beside = tells next status did succeeds (rw named may) beside

  on_made : (next : Volume) → set_of_path v asked.path ≡ None → only_opens asked.disposition ≡ false → TellsSo v asked (opens next Success action.Created)
  on_made next none makes = tells next Success action.Created refl (rw none (made-told asked.disposition makes)) (λ breaks. cc)

  -- ---- nothing is opened

  stops : (file : ℕ) (rest : List ℕ) → TellsSo v asked (stopped v file rest)
  unfolding stopped
  stops file rest = tells-option (point_of v file) _ _ (λ point is. by_point (point.0 == IO_REPARSE_TAG_SYMLINK) point) (λ none. tells-refused _ _ refl)
    where
      by_point : (test : Bool) (point : ℕ × List ℕ) → TellsSo v asked (Done v (record { status = if test then StoppedOnSymlink else Reparse; body = Stopped point.0 point.1 rest }))
      by_point true point = record { so = record { tells = λ opened. cc; succeeds = λ did is. cc; may = λ did is. cc; beside = λ did is breaks. cc } }
      by_point false point = record { so = record { tells = λ opened. cc; succeeds = λ did is. cc; may = λ did is. cc; beside = λ did is breaks. cc } }

  clashes_so : (on : HandleSet) → TellsSo v asked (clashed v on asked.key)
  unfolding clashed
  clashes_so on = tells-if (open_waits v on Clash asked.key) _ _ (λ waits. tells-held _ _ _) (λ free. tells-refused _ _ refl)

  -- ---- it is there

  -- it is opened as it is
  existing : (link : ℕ) (stream : Option ℕ) (on : HandleSet) → set_of_path v asked.path ≡ Some on → overwrites asked.disposition ≡ false
      → only_makes asked.disposition ≡ false → TellsSo v asked (open_existing v asked link stream on)
  unfolding open_existing
  existing link stream on named keeps goes =
      tells-if (not (wants_more asked)) _ _ (λ less. so _ Success refl) (λ more. tells-if (not (open_waits v on ReadOpen asked.key)) _ _ (λ free. so _ Success refl)
      (λ waits. tells-if (completes_if_oplocked asked) _ _ (λ beside. so _ OplockBreakInProgress refl) (λ stays. tells-held _ _ _)))
    where
      so : (next : Volume) (status : Status) → is_opened status ≡ true → TellsSo v asked (opens next status action.Opened)
      so next status succeeds = on_there next status action.Opened on named succeeds (kept-told asked.disposition keeps goes) (λ breaks. refl)

  -- it is overwritten
  overwrites_so : (link file stream : ℕ) → set_of_path v asked.path ≡ Some (set.Stream stream) → overwrites asked.disposition ≡ true
      → TellsSo v asked (overwrite_existing v asked link file stream)
  unfolding overwrite_existing
  overwrites_so link file stream named over =
      tells-if (open_waits v (set.Stream stream) Change asked.key) _ _ (λ waits. tells-held _ _ _)
      (λ free. on_there _ Success (overwrite_action asked.disposition) (set.Stream stream) named refl (overwritten-told asked.disposition over) (λ breaks. cc))

  -- a directory, and a stream
  directory : (link file : ℕ) → set_of_path v asked.path ≡ Some (set.Link link) → overwrites asked.disposition ≡ false
      → only_makes asked.disposition ≡ false → TellsSo v asked (open_directory v asked link file)
  unfolding open_directory open_granted
  directory link file named keeps opens = search (tells-if, tells-unless, clashes_so, existing, named, keeps, opens) depth 40

  stream_opened : (link file stream : ℕ) → set_of_path v asked.path ≡ Some (set.Stream stream) → only_makes asked.disposition ≡ false
      → TellsSo v asked (open_stream v asked link file stream)
  unfolding open_stream
  stream_opened link file stream named opens = search (tells-if, clashes_so, existing, overwrites_so, named, opens) depth 40

  on_stream : (link file stream : ℕ) → set_of_path v asked.path ≡ Some (set.Stream stream) → (only_makes asked.disposition && not (names_stream asked.path)) ≡ false
      → TellsSo v asked (create_on_stream v asked link file stream)
  unfolding create_on_stream
  on_stream link file stream named either = search (tells-if, tells-unless, goes) depth 40
    where
      goes : (names_stream asked.path && only_makes asked.disposition) ≡ false → TellsSo v asked (open_stream v asked link file stream)
      goes fits = stream_opened link file stream named (opens-either (only_makes asked.disposition) (names_stream asked.path) either fits)

  -- ---- it is missing

  made_stream : (link file : ℕ) → set_of_path v asked.path ≡ None → TellsSo v asked (create_stream v asked link file)
  unfolding create_stream
  made_stream link file none = search (tells-if, tells-unless, on_made, none) depth 40

  made_directory : (dir : ℕ) (name : List ℕ) → set_of_path v asked.path ≡ None → only_opens asked.disposition ≡ false
      → TellsSo v asked (make_directory v asked dir name)
  unfolding make_directory
  made_directory dir name none makes = on_made _ none makes

  made_file : (dir : ℕ) (name : List ℕ) → set_of_path v asked.path ≡ None → only_opens asked.disposition ≡ false
      → TellsSo v asked (make_file v asked dir name)
  unfolding make_file
  made_file dir name none makes = tells-if (names_stream asked.path) _ _ (λ is. on_made _ none makes) (λ isnt. on_made _ none makes)

  made : (dir : ℕ) (name : List ℕ) → set_of_path v asked.path ≡ None → TellsSo v asked (create_missing v asked dir name)
  unfolding create_missing
  made dir name none = search (tells-if, tells-unless, made_directory, made_file, none) depth 40

  -- ---- what is there

  in_file : (link file : ℕ) → is_directory v.files file ≡ false → set_of_path v asked.path ≡ set_of_file v asked.path link file
      → (only_makes asked.disposition && not (names_stream asked.path)) ≡ false → TellsSo v asked (create_in_file v asked link file)
  unfolding create_in_file
  in_file link file a_file named either =
      tells-option (stream_of v file (stream_name asked.path)) _ _ (λ stream is. on_stream link file stream (named ∙ rw (a_file, is) refl) either)
      (λ missing. made_stream link file (named ∙ rw (a_file, missing) refl))

  there : (link file : ℕ) → set_of_path v asked.path ≡ set_of_file v asked.path link file → TellsSo v asked (create_there v asked link file)
  unfolding create_there
  there link file named =
      tells-unless (only_makes asked.disposition && not (names_stream asked.path)) _ _ refl (λ either. tells-unless (is_other_kind asked (is_directory v.files file)) _ _ refl (λ kind.
      tells-unless (is_directory v.files file && asks_for_file asked) _ _ refl (λ fits. tells-if (is_directory v.files file) _ _
      (λ dir. (let plain : asks_for_file asked ≡ false = rw dir at fits in directory link file (named ∙ rw dir refl) (keeps plain) (opens plain either)))
      (λ a_file. in_file link file a_file named either))))
    where
      keeps : asks_for_file asked ≡ false → overwrites asked.disposition ≡ false
      keeps plain = (or_parts (wants_file asked || has_stream_part asked.path) (overwrites asked.disposition) plain).1

      unnamed : asks_for_file asked ≡ false → names_stream asked.path ≡ false
      unnamed plain = plain-names_none asked.path
          (or_parts (wants_file asked) (has_stream_part asked.path) (or_parts (wants_file asked || has_stream_part asked.path) (overwrites asked.disposition) plain).0).1

      opens : asks_for_file asked ≡ false → (only_makes asked.disposition && not (names_stream asked.path)) ≡ false → only_makes asked.disposition ≡ false
      opens plain either = opens-either (only_makes asked.disposition) (names_stream asked.path) either (rw (unnamed plain) refl)

  found : (link file : ℕ) → set_of_path v asked.path ≡ set_of_file v asked.path link file → TellsSo v asked (create_found v asked link file)
  unfolding create_found
  found link file named = tells-if _ _ _ (λ point. stops file []) (λ plain. there link file named)

  -- ---- the last name, and the path

  by_link : (link : ℕ) → set_of_path v asked.path ≡ set_of_link v asked.path link → TellsSo v asked (create_by_link v asked link)
  unfolding create_by_link
  by_link link named =
      tells-option (row_of v.links link) _ _ (λ (row : Link) is. tells-unless row.deleted _ _ refl (λ living. found link row.file (named ∙ rw is refl)))
      (λ none. tells-refused _ _ refl)

  by_name : (dir : ℕ) → walk v (components asked.path) ≡ Reached dir → (length (components asked.path) == 0) ≡ false
      → TellsSo v asked (create_named v asked dir (last_name (components asked.path)))
  unfolding create_named
  by_name dir reached below =
      tells-option (child_of v dir (last_name (components asked.path))) _ _ (λ link is. by_link link (rw (reached, below, is) refl))
      (λ none. made dir (last_name (components asked.path)) (rw (reached, below, none) refl))

  walked : (way : Walked) → walk v (components asked.path) ≡ way → TellsSo v asked (create_walked v asked way)
  unfolding create_walked
  walked (Reached dir) reached =
      tells-if (length (components asked.path) == 0) _ _ (λ root. found 0 1 (rw (reached, root) refl))
      (λ below. by_name dir reached below)
  walked (Barred status) reached =
      (let bars : BarsWithout is_opened (walk v (components asked.path)) = walk-fails is_opened refl refl v (components asked.path) 1 0 in tells-refused v status (rw reached at bars))
  walked (Diverted file next) reached = stops file (rest_of asked.path next)

  create-tells : TellsSo v asked (try_create v asked)
  unfolding try_create create_at
  create-tells = search (tells-if, tells-unless, walks) depth 40
    where
      walks : TellsSo v asked (create_walked v asked (walk v (components asked.path)))
      walks = walked (walk v (components asked.path)) refl

-- ---- each try

open-tells : (v : Volume) (call : Call) (turn : ℕ) (path : List ℕ) (wanted share : ℕ) (disposition : Disposition) (options attributes key : ℕ)
    → call.what ≡ Ask (request.Create path wanted share disposition options attributes key)
    → TellsSo v (record { client = call.client; number = call.number; path = path; wanted = wanted; share = share; disposition = disposition; options = options; attributes = attributes; key = key }) (try v call turn)
open-tells v call turn path wanted share disposition options attributes key is = elim (cases_Bool (has_left v call.client)) [
  | inl left ↦ rw left (tells-refused v InvalidHandle refl)
  | inr here ↦ rw (here, is) (create-tells v asked)
]
  where
    asked : Asked
    asked = record { client = call.client; number = call.number; path = path; wanted = wanted; share = share; disposition = disposition; options = options; attributes = attributes; key = key }

comes-tells : (v : Volume) (call : Call) (turn : ℕ) (outcome : Outcome) → try v call turn ≡ outcome → TellsWhatItDid v call outcome
comes-tells v call turn (Done next reply) comes = λ path wanted share asked options attributes key is.
    (let ends = open-tells v call turn path wanted share asked options attributes key is in TellsSo.so (rw comes at ends))
comes-tells v call turn (Stay next interim) comes = tt
comes-tells v call turn (Hold next blockers interim) comes = tt

try-tells : (v : Volume) (call : Call) (turn : ℕ) → TellsWhatItDid v call (try v call turn)
try-tells v call turn = comes-tells v call turn (try v call turn) refl

-- in all tries of a history
pub opens-tell_what_they_did : (setup : Setup) (history : List HistoryEntry) → OpensTellWhatTheyDid setup history
opens-tell_what_they_did setup history = λ k d within. (let t : Tried = get_or (tries_of setup history) k d in try-tells t.before t.call t.turn)
