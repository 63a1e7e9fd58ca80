-- In each try of a history a call is pending afterwards for such a cause alone.
use Rattle.std.proofs.Common.{◌≡◌, ℕ, List, get_or, refl, inl, inr}
use Rattle.std.proofs.lemmas.Bool.{cases_Bool}
use Rattle.fsa_types.specs.declared.request.Call.{Call}
use Rattle.fsa_types.specs.declared.request.Request.TheVariants as request
use Rattle.fsa_types.specs.declared.request.What.{What}
use Rattle.fsa_types.specs.declared.request.What.TheVariants.{Ask, WaitFor}
use Rattle.fsa_model.specs.History.{HistoryEntry}
use Rattle.fsa_model.specs.Lookups.{has_left}
use Rattle.fsa_model.specs.Setup.{Setup}
use Rattle.fsa_model.specs.Tries.{tries_of}
use Rattle.fsa_model.specs.Try.{try, try_what}
use Rattle.fsa_model.specs.Volume.{Volume}
use Rattle.history_laws.specs.WhyPending.{CallsPendForCause, PendsForCause}
use Rattle.history_laws.proofs.PendsByOpens.{open-pends}
use Rattle.history_laws.proofs.PendsByRenames.{rename-pends}
use Rattle.history_laws.proofs.PendsOnStreams.{link-pends, lock-pends, mark-pends, read-pends, set_end-pends, write-pends}
use Rattle.history_laws.proofs.PendsOtherwise.{ack-pends, ends-pends, notify-pends, oplock-pends, wait-pends}

what-pends : (v : Volume) (call : Call) (turn : ℕ) (what : What) → call.what ≡ what → PendsForCause v call turn (try_what v turn call.client call.number what)
what-pends v call turn (Ask (request.Create path wanted share disposition options attributes key)) is = open-pends v call turn path wanted share disposition options attributes key is
what-pends v call turn (Ask (request.Read number at count)) is = read-pends v call turn number at count is
what-pends v call turn (Ask (request.Write number at bytes)) is = write-pends v call turn number at bytes is
what-pends v call turn (Ask (request.SetEnd number end)) is = set_end-pends v call turn number end is
what-pends v call turn (Ask (request.Lock number at count exclusive wait)) is = lock-pends v call turn number at count exclusive wait is
what-pends v call turn (Ask (request.SetDisposition number delete)) is = mark-pends v call turn number delete is
what-pends v call turn (Ask (request.Rename number path replace)) is = rename-pends v call turn number path replace is
what-pends v call turn (Ask (request.Link number path replace)) is = link-pends v call turn number path replace is
what-pends v call turn (Ask (request.Oplock number level)) is = oplock-pends v call turn number level is
what-pends v call turn (Ask (request.Ack number level)) is = ack-pends v call turn number level is
what-pends v call turn (Ask (request.Notify number filter whole room)) is = notify-pends v call turn number filter whole room is
what-pends v call turn (WaitFor number) is = wait-pends v call turn number is
what-pends v call turn what is = ends-pends v call turn what refl

-- a client that has left is refused
try-pends : (v : Volume) (call : Call) (turn : ℕ) → PendsForCause v call turn (try v call turn)
try-pends v call turn = elim (cases_Bool (has_left v call.client)) [
  | inl left ↦ rw left tt
  | inr here ↦ rw here (what-pends v call turn call.what refl)
]

pub calls-pend_for_cause : (setup : Setup) (history : List HistoryEntry) → CallsPendForCause setup history
calls-pend_for_cause setup history = λ k d within. (let t = get_or (tries_of setup history) k d in try-pends t.before t.call t.turn)
