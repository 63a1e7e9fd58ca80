-- Which CreateAction an open tells: one where it has succeeded, and only then; created just where the directory or the stream that
-- its path names is missing, and else opened, overwritten or superseded, as its CreateDisposition asks. After [MS-FSA] 'Server
-- Requests an Open of a File', and the values of CreateAction and CreateDisposition there.
use Rattle.std.specs.Prelude.{◌≡◌, ℕ, Bool, true, false, List, All, is_some}
use Rattle.fsa_types.specs.declared.reply.Action.{Action}
use Rattle.fsa_types.specs.declared.reply.Action.TheVariants as action
use Rattle.fsa_types.specs.declared.reply.Body.TheVariants.{Opened}
use Rattle.fsa_types.specs.declared.request.Call.{Call}
use Rattle.fsa_types.specs.declared.request.Disposition.{Disposition}
use Rattle.fsa_types.specs.declared.request.Disposition.TheVariants as disposition
use Rattle.fsa_types.specs.declared.request.Request.TheVariants as request
use Rattle.fsa_types.specs.declared.request.What.TheVariants.{Ask}
use Rattle.fsa_types.specs.declared.reply.Reply.{Reply}
use Rattle.fsa_types.specs.declared.status.Status.TheVariants.{OplockBreakInProgress}
use Rattle.fsa_model.specs.Coherence.{set_of_path}
use Rattle.fsa_model.specs.History.{HistoryEntry}
use Rattle.fsa_model.specs.Outcome.{Outcome, Done}
use Rattle.fsa_model.specs.Setup.{Setup}
use Rattle.fsa_model.specs.Tries.{Tried, tries_of}
use Rattle.fsa_model.specs.Try.{try}
use Rattle.fsa_model.specs.Volume.{Volume}
use Rattle.history_laws.specs.AsAsked.{is_opened}

-- an open with this disposition may tell this action, where what its path names is there (true) or is missing (false)
abbrev pub may_tell : Disposition → Bool → Action → Bool
may_tell disposition.Supersede true action.Superseded = true
may_tell disposition.OpenExisting true action.Opened = true
may_tell disposition.OpenIf true action.Opened = true
may_tell disposition.Overwrite true action.Overwritten = true
may_tell disposition.OverwriteIf true action.Overwritten = true
may_tell disposition.Supersede false action.Created = true
may_tell disposition.CreateNew false action.Created = true
may_tell disposition.OpenIf false action.Created = true
may_tell disposition.OverwriteIf false action.Created = true
may_tell _ _ _ = false

-- an open of this path, with this disposition, ended with this reply
pub record TellsAction (v : Volume) (path : List ℕ) (asked : Disposition) (reply : Reply) : Type 0 where
  -- an action where it has succeeded, and only then
  pub tells : is_opened reply.status ≡ true → (did : Action) × (reply.body ≡ Opened did)
  pub succeeds : (did : Action) → reply.body ≡ Opened did → is_opened reply.status ≡ true
  -- one that it may tell; where it goes on beside breaks, that it opened
  pub may : (did : Action) → reply.body ≡ Opened did → may_tell asked (is_some (set_of_path v path)) did ≡ true
  pub beside : (did : Action) → reply.body ≡ Opened did → reply.status ≡ OplockBreakInProgress → did ≡ action.Opened

-- a try of this call came to this: where it has ended and is an open, it tells so
abbrev pub TellsWhatItDid : Volume → Call → Outcome → Type 0
TellsWhatItDid v call (Done next reply) =
    (path : List ℕ) (wanted share : ℕ) (asked : Disposition) (options attributes key : ℕ)
    → call.what ≡ Ask (request.Create path wanted share asked options attributes key) → TellsAction v path asked reply
TellsWhatItDid v call _ = Unit {0}

-- so it is in each try of a history
abbrev pub OpensTellWhatTheyDid : Setup → List HistoryEntry → Type 0
OpensTellWhatTheyDid setup history = All (λ (t : Tried). TellsWhatItDid t.before t.call (try t.before t.call t.turn)) (tries_of setup history)
