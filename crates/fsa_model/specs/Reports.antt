-- What a report of changes says, when a notification reports, and what is due afterwards.
use Rattle.std.specs.Prelude.{◌≡◌, ℕ, ◌<◌, ◌≤◌, ◌==◌, ◌⊎◌, true, false, List, [], Some, length, is_some}
use Rattle.fsa_types.specs.Access.{has_any}
use Rattle.fsa_types.specs.Masks.{READ_DATA}
use Rattle.fsa_types.specs.declared.reply.Body.TheVariants.{Nothing, Packed}
use Rattle.fsa_types.specs.declared.reply.Interim.TheVariants as interim
use Rattle.fsa_types.specs.declared.reply.PackKind.TheVariants.{Changes}
use Rattle.fsa_types.specs.declared.reply.Reply.{Reply}
use Rattle.fsa_types.specs.declared.request.Call.{Call}
use Rattle.fsa_types.specs.declared.request.CallId.{CallId}
use Rattle.fsa_types.specs.declared.status.Status.TheVariants.{Success, NotifyEnumDir}
use Rattle.fsa_model.specs.Edits.{with_end}
use Rattle.fsa_model.specs.Engine.{own_tried}
use Rattle.fsa_model.specs.Lookups.{handle_of, is_link_marked}
use Rattle.fsa_model.specs.Outcome.{Outcome, Done, Stay}
use Rattle.fsa_model.specs.Settle.{Settling, repeated, settle_step, starves, with_starved}
use Rattle.fsa_model.specs.Volume.{Handle, Pending, Volume}
use Rattle.fsa_model.specs.Watching.{packed_changes, due, due_size, is_something_due, is_notify_filter}

-- ---- one report

-- the watch of this handle reports, with this room: all that is due, where it fits; then nothing is due to it,
-- and nothing else has changed
pub record Reports (v : Volume) (id room : ℕ) (w : Volume) (reply : Reply) : Type 0 where
  pub some : (length (due v id) == 0) ≡ false
  pub fits : length (packed_changes (due v id)) ≤ room → reply ≡ record { status = Success; body = Packed Changes (packed_changes (due v id)) }
  pub exceeds : room < length (packed_changes (due v id)) → reply ≡ record { status = NotifyEnumDir; body = Nothing }
  pub none_due : due w id ≡ []
  pub others : (other : ℕ) → (other == id) ≡ false → due w other ≡ due v other
  pub rest : w ≡ record v { watches = w.watches }

-- ---- a notification that is pending

-- a Notify that is ready reports, with the room that it has; or it starves, where the report would have bytes, and
-- nothing but its end has changed
pub record TakesReport (s : Settling) (pending : Pending) (handle room : ℕ) (t : Settling) : Type 0 where
  pub id : ℕ
  pub found : handle_of s.volume pending.call.client handle ≡ Some id
  pub ends : ((w : Volume) × (reply : Reply) × Reports s.volume id room w reply × (t ≡ record s { volume = with_end w pending.call.client pending.call.number reply }))
      ⊎ ((due_size s.volume id ≤ room) × (starves s.starved pending ≡ true) × (t ≡ with_starved s pending))

-- how far the settlement of a turn has come after so many steps
abbrev pub settling_after : Volume → Call → List CallId → ℕ → Settling
settling_after v call starved steps =
    repeated settle_step steps (record { volume = own_tried v call; starved = starved; taken = [] })

-- ---- a notification's own try

-- a directory's handle with READ_DATA, a filter, and a link that isn't marked
pub record PassesChecks (v : Volume) (handle : Handle) (filter : ℕ) : Type 0 where
  pub directory : is_some handle.stream ≡ false
  pub access : has_any handle.access READ_DATA ≡ true
  pub asked : is_notify_filter filter ≡ true
  pub unmarked : is_link_marked v handle.link ≡ false

-- in the volume in which its watch has begun the try reports at once where something is due, and else stays
-- pending and changes nothing more
pub record TriesNotify (v : Volume) (id room : ℕ) (outcome : Outcome) : Type 0 where
  pub reports : is_something_due v id ≡ true → (w : Volume) × (reply : Reply) × Reports v id room w reply × (outcome ≡ Done w reply)
  pub waits : is_something_due v id ≡ false → outcome ≡ Stay v interim.Watch
