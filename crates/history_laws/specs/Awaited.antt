-- That nothing has come that a pending wait or Notify waits for.
use Rattle.std.specs.List.{list_any}
use Rattle.std.specs.Prelude.{◌≡◌, ℕ, Bool, false, List, ◌++◌, Some}
use Rattle.fsa_types.specs.declared.request.Request.TheVariants.{Notify}
use Rattle.fsa_types.specs.declared.request.What.{What}
use Rattle.fsa_types.specs.declared.request.What.TheVariants.{Ask, WaitFor}
use Rattle.fsa_model.specs.History.{HistoryEntry, Run, run}
use Rattle.fsa_model.specs.Setup.{Setup}
use Rattle.fsa_model.specs.Volume.{Volume}
use Rattle.fsa_model.specs.Waiting.{has_due, has_ended}

-- what this call of the client waits for has come: the end of the call that it is a wait for or, where it is a Notify, a change
-- that is due to the watch of its handle
abbrev pub has_come_to : Volume → ℕ → What → Bool
has_come_to v client (WaitFor earlier) = has_ended v client earlier
has_come_to v client (Ask (Notify handle filter tree room)) = has_due v client handle
has_come_to v client _ = false

-- this is so of no pending call
abbrev pub NothingHasCome : Volume → Type 0
NothingHasCome v = list_any (λ entry. has_come_to v entry.1.call.client entry.1.call.what) v.pending ≡ false

-- so it is after each turn of a history
abbrev pub NothingIsMissed : Setup → List HistoryEntry → Type 0
NothingIsMissed setup history = (front later : List HistoryEntry) (r : Run) → history ≡ front ++ later → run setup front ≡ Some r → NothingHasCome r.volume
