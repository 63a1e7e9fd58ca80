-- How a wait for a call ends, also in a settlement, which calls end STALLED, and when a wait is over.
use Rattle.std.specs.Prelude.{◌≡◌, ◌==◌, ◌&&◌, ◌||◌, not, ℕ, Bool, true, false, List, ◌∷◌, ◌++◌, Some}
use Rattle.std.specs.List.{list_any}
use Rattle.fsa_types.specs.declared.reply.Body.{Body}
use Rattle.fsa_types.specs.declared.reply.Body.TheVariants.{Nothing}
use Rattle.fsa_types.specs.declared.reply.Reply.{Reply}
use Rattle.fsa_types.specs.declared.request.Call.{Call}
use Rattle.fsa_types.specs.declared.request.Request.TheVariants.{Cancel}
use Rattle.fsa_types.specs.declared.request.What.{What}
use Rattle.fsa_types.specs.declared.request.What.TheVariants.{Ask}
use Rattle.fsa_types.specs.declared.status.Status.{Status}
use Rattle.fsa_types.specs.declared.status.Status.TheVariants.{Success, Stalled, InvalidParameter, InvalidHandle, Cancelled}
use Rattle.fsa_model.specs.Edits.{is_call}
use Rattle.fsa_model.specs.Engine.{own_tried}
use Rattle.fsa_model.specs.Frame.{is_leave}
use Rattle.fsa_model.specs.History.{HistoryEntry, Run, run}
use Rattle.fsa_model.specs.Lookups.{has_row}
use Rattle.fsa_model.specs.Once.{is_end}
use Rattle.fsa_model.specs.Settle.{taken_up_all}
use Rattle.fsa_model.specs.Setup.{Setup}
use Rattle.fsa_model.specs.Starving.{is_stalled}
use Rattle.fsa_model.specs.Turn.{settlement}
use Rattle.fsa_model.specs.Volume.{Volume}
use Rattle.fsa_model.specs.Waiting.{all_wait, has_ended, is_wait}

-- a cancellation of the call of this number
abbrev pub is_cancel_of : ℕ → What → Bool
is_cancel_of number (Ask (Cancel other)) = other == number
is_cancel_of number _ = false

-- the client leaves; it cancels its call of this number, or leaves
abbrev pub leaves : ℕ → Call → Bool
leaves client call = call.client == client && is_leave call.what

abbrev pub cancels : ℕ → ℕ → Call → Bool
cancels client number call = call.client == client && (is_leave call.what || is_cancel_of number call.what)

-- it does so in one of these turns
abbrev pub leaves_in : ℕ → List HistoryEntry → Bool
leaves_in client entries = list_any (λ entry. leaves client entry.call) entries

abbrev pub cancels_in : ℕ → ℕ → List HistoryEntry → Bool
cancels_in client number entries = list_any (λ entry. cancels client number entry.call) entries

-- SUCCESS, as the call for which it waited has ended; STALLED, as all clients waited; INVALID_PARAMETER, as there is no
-- such call; INVALID_HANDLE only where the client has left, and CANCELLED only where it has cancelled the wait or left
abbrev pub wait_may_end : Bool → Bool → Status → Bool
wait_may_end left cancelled Success = true
wait_may_end left cancelled Stalled = true
wait_may_end left cancelled InvalidParameter = true
wait_may_end left cancelled InvalidHandle = left
wait_may_end left cancelled Cancelled = cancelled
wait_may_end left cancelled _ = false

abbrev pub gives_nothing : Body → Bool
gives_nothing Nothing = true
gives_nothing _ = false

-- such a status, and no body
abbrev pub is_wait_end : Bool → Bool → Reply → Bool
is_wait_end left cancelled reply = wait_may_end left cancelled reply.status && gives_nothing reply.body

-- some end of the client's call of this number is another
abbrev pub ends_otherwise : (Reply → Bool) → ℕ → ℕ → Volume → Bool
ends_otherwise fine client number v = list_any (λ end. is_end client number end && not (fine end.reply)) v.ended

abbrev pub is_success : Status → Bool
is_success Success = true
is_success _ = false

-- the client's call of this number has ended with SUCCESS
abbrev pub has_succeeded : Volume → ℕ → ℕ → Bool
has_succeeded v client number = list_any (λ end. is_end client number end && is_success end.reply.status) v.ended

-- the client's call of this number has ended with STALLED
abbrev pub has_stalled : Volume → ℕ → ℕ → Bool
has_stalled v client number = list_any (λ end. is_end client number end && is_stalled end.reply.status) v.ended

-- the client's call of this number is a wait, and pending
abbrev pub is_pending_wait : Volume → ℕ → ℕ → Bool
is_pending_wait v client number = has_row (λ pending. is_call client number pending && is_wait pending.call.what) v.pending

-- the volume in the entry's turn once all that is ready has been taken up, and before waits stall
abbrev pub all_taken_up : Volume → HistoryEntry → Volume
all_taken_up v entry = (taken_up_all (own_tried v entry.call) entry.starved).volume

-- every client that hasn't left waits then, and one of these waits is the client's call of this number
abbrev pub stalls_in : Volume → HistoryEntry → ℕ → ℕ → Bool
stalls_in v entry client number = all_wait (all_taken_up v entry) && is_pending_wait (all_taken_up v entry) client number

-- after each turn a call has ended with STALLED exactly where it had before, or where it was a wait, and pending once all
-- that was ready had been taken up and every client that hadn't left waited
abbrev pub StallsExactly : Setup → List HistoryEntry → Type 0
StallsExactly setup history = (front later : List HistoryEntry) (entry : HistoryEntry) (r : Run) (client number : ℕ) → history ≡ front ++ entry ∷ later → run setup front ≡ Some r
    → has_stalled (settlement r.volume entry.call entry.starved).volume client number ≡ (has_stalled r.volume client number || stalls_in r.volume entry client number)

-- SUCCESS or STALLED, and no body
abbrev pub is_settled_end : Reply → Bool
is_settled_end reply = (is_success reply.status || is_stalled reply.status) && gives_nothing reply.body

-- in each turn a wait that is pending once the turn's call has been tried has, at the turn's end, no end but such a one
abbrev pub SettlesWaits : Setup → List HistoryEntry → Type 0
SettlesWaits setup history = (front later : List HistoryEntry) (entry : HistoryEntry) (r : Run) (client number : ℕ) → history ≡ front ++ entry ∷ later → run setup front ≡ Some r
    → is_pending_wait (own_tried r.volume entry.call) client number ≡ true
    → ends_otherwise is_settled_end client number (settlement r.volume entry.call entry.starved).volume ≡ false

-- the client's wait of this number, for its call of the last number, is over: the wait has ended and, if with SUCCESS,
-- that call has ended too, with whatever status
pub record IsOver (v : Volume) (client wait awaited : ℕ) : Type 0 where
  pub ended : has_ended v client wait ≡ true
  pub awaited_ended : has_succeeded v client wait ≡ true → has_ended v client awaited ≡ true
