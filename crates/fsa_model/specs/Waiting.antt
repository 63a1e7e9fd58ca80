-- What pending calls wait for, and which of them are ready to be taken up; waiting for a call, and
-- cancelling one, after [MS-FSA] 'Server Requests Canceling an Operation'.
use Rattle.std.specs.Prelude.{◌≡◌, ℕ, Bool, true, false, ◌==◌, ◌&&◌, ◌||◌, not, nat_lt, All, List, filter, length, Option, is_some, slice_get, if◌then◌else◌}
use Rattle.std.specs.List.{list_any, list_all, enumerate_from}
use Rattle.std.specs.Option.{option_map_or}
pub use Rattle.fsa_types.specs.Pending.{is_held, is_blocked}
use Rattle.fsa_types.specs.Rows.{lives}
use Rattle.fsa_types.specs.Sorting.{in_order}
use Rattle.fsa_types.specs.declared.request.What.{What}
use Rattle.fsa_types.specs.declared.request.What.TheVariants.{Ask, WaitFor}
use Rattle.fsa_types.specs.declared.request.Request.TheVariants.{Notify}
use Rattle.fsa_types.specs.declared.reply.Blocker.{Blocker}
use Rattle.fsa_types.specs.declared.reply.Blocker.TheVariants as blocker
use Rattle.fsa_types.specs.declared.reply.Body.TheVariants.{Nothing}
use Rattle.fsa_types.specs.declared.reply.Interim.TheVariants.{Waiting}
use Rattle.fsa_types.specs.declared.status.Status.TheVariants.{Success, InvalidParameter, Cancelled, Stalled}
use Rattle.fsa_model.specs.Close.{pending_by_turn, with_calls_ended}
use Rattle.fsa_model.specs.Edits.{is_call, with_end}
use Rattle.fsa_model.specs.Lookups.{handle_of, has_row, number_of}
use Rattle.fsa_model.specs.Once.{is_end}
use Rattle.fsa_model.specs.Outcome.{Outcome, Stay, ends_with, refused}
use Rattle.fsa_model.specs.Volume.{Oplock, Pending, Volume}
use Rattle.fsa_model.specs.Watching.{is_something_due}

-- ---- what is waited for

-- the break of this number is in progress on the oplock
abbrev pub is_breaking : ℕ → Oplock → Bool
is_breaking number oplock = is_some oplock.target && oplock.number == number

-- a break ends by its acknowledgement, a lock by its unlock, and both by the close of their handle
abbrev pub blocker_lives : Volume → Blocker → Bool
blocker_lives v (blocker.Break number) = list_any (is_breaking number) v.oplocks
blocker_lives v (blocker.Lock number) = lives v.locks number

-- these are some, and all of them live
pub record AreLiving (v : Volume) (blockers : List Blocker) : Type 0 where
  pub some : (length blockers == 0) ≡ false
  pub live : All (λ b. blocker_lives v b ≡ true) blockers

-- the client's call of this number has ended; or it is pending
abbrev pub has_ended : Volume → ℕ → ℕ → Bool
has_ended v client number = list_any (is_end client number) v.ended

abbrev pub is_pending : Volume → ℕ → ℕ → Bool
is_pending v client number = has_row (is_call client number) v.pending

-- ---- which calls are ready

-- a Notify on this handle of the client
abbrev pub is_notify_of : ℕ → What → Bool
is_notify_of handle (Ask (Notify other filter tree room)) = other == handle
is_notify_of handle _ = false

abbrev pub is_notify_on : ℕ → ℕ → Pending → Bool
is_notify_on client handle pending = pending.call.client == client && is_notify_of handle pending.call.what

-- of those that are pending the client's call of this number is the earliest
abbrev pub is_first_notify : Volume → ℕ → ℕ → ℕ → Bool
is_first_notify v client number handle =
    option_map_or (λ entry. entry.1.call.number == number) (slice_get (pending_by_turn (is_notify_on client handle) v) 0) false

-- something is due to the watch of this handle of the client
abbrev pub has_due : Volume → ℕ → ℕ → Bool
has_due v client handle = option_map_or (λ id. is_something_due v id) (handle_of v client handle) false

-- what this waits for has come, where it isn't held: a wait is over once its call has ended, and the earliest
-- Notify of a handle once something is due; an oplock that is granted is never
abbrev pub has_come : Volume → ℕ → ℕ → What → Bool
has_come v client number (WaitFor earlier) = has_ended v client earlier
has_come v client number (Ask (Notify handle filter tree room)) = has_due v client handle && is_first_notify v client number handle
has_come v client number _ = false

-- a held call is ready where none of its blockers lives, and another where what it waits for has come
abbrev pub is_ready : Volume → Pending → Bool
is_ready v pending =
    if is_held pending then not (is_blocked (blocker_lives v) pending)
    else has_come v pending.call.client pending.call.number pending.call.what

-- the ready call of the least turn
abbrev pub next_ready : Volume → Option (ℕ × Pending)
next_ready v = slice_get (pending_by_turn (is_ready v) v) 0

-- ---- clients that all wait

abbrev pub is_wait : What → Bool
is_wait (WaitFor number) = true
is_wait _ = false

-- the client waits for one of its calls
abbrev pub waits : Volume → ℕ → Bool
waits v client = has_row (λ pending. pending.call.client == client && is_wait pending.call.what) v.pending

-- some client hasn't left, and each that hasn't waits
abbrev pub all_wait : Volume → Bool
all_wait v = list_any (λ client. not client.1) (enumerate_from 0 v.left) && list_all (λ client. client.1 || waits v client.0) (enumerate_from 0 v.left)

-- the waits, in order of clients and then of numbers
abbrev pub is_asked_before : Pending → Pending → Bool
is_asked_before a b = if a.call.client == b.call.client then nat_lt a.call.number b.call.number else nat_lt a.call.client b.call.client

abbrev pub waits_in_order : Volume → List (ℕ × Pending)
waits_in_order v = in_order (λ a b. is_asked_before a.1 b.1) (filter (λ entry. is_wait entry.1.call.what) v.pending)

-- where all wait none of them could ever go on: all waits end
abbrev pub with_stalled : Volume → Volume
with_stalled v = if all_wait v then with_calls_ended (λ _. Stalled) (waits_in_order v) v else v

-- ---- the calls

-- one try of a wait for the client's call of this number, which has to be an earlier one
unfoldable pub try_wait : Volume → ℕ → ℕ → Outcome
try_wait v client number =
    if has_ended v client number then ends_with v Success
    else if is_pending v client number then Stay v Waiting
    else refused v InvalidParameter

-- the oplock is granted to the call that is pending under this turn
abbrev pub is_granted_under : ℕ → Oplock → Bool
is_granted_under turn oplock = option_map_or (λ call. call == turn) oplock.call false

-- it is given up, where there is one
abbrev pub with_oplock_given_up : Volume → ℕ → Volume
with_oplock_given_up v turn =
    record v { oplocks = filter (λ oplock. not (is_granted_under turn oplock)) v.oplocks }

-- the client's call of this number, which is pending under this turn, is cancelled
abbrev pub with_cancelled : Volume → ℕ → ℕ → ℕ → Volume
with_cancelled v client number turn =
    with_end (with_oplock_given_up v turn) client number (record { status = Cancelled; body = Nothing })

-- one try of a cancellation of the client's call of this number, which has to be pending
unfoldable pub try_cancel : Volume → ℕ → ℕ → Outcome
try_cancel v client number =
    option_map_or (λ turn. ends_with (with_cancelled v client number turn) Success) (number_of (is_call client number) v.pending)
    (refused v InvalidParameter)
