-- What every turn of every run is shown to keep: that no call is left ready, that clients don't all wait, that
-- each call ends once, what holds a call, which call granted an oplock, and which held calls are tried in it.
use Rattle.std.specs.Prelude.{◌≡◌, ℕ, Bool, true, false, ◌+◌, ◌≤◌, ◌==◌, ◌<◌, ◌&&◌, ◌||◌, not, cond, List, [], ◌∷◌, AllPairs, Option, Some, None, is_some}
use Rattle.std.specs.List.{list_any}
use Rattle.std.specs.Option.{option_map_or}
use Rattle.fsa_types.specs.Rows.{lives}
use Rattle.fsa_types.specs.declared.reply.Answer.{Answer}
use Rattle.fsa_types.specs.declared.reply.Answer.TheVariants.{Ended, Pending as IsPending}
use Rattle.fsa_types.specs.declared.reply.Blocker.{Blocker}
use Rattle.fsa_types.specs.declared.reply.Interim.{Interim}
use Rattle.fsa_types.specs.declared.request.Call.{Call}
use Rattle.fsa_types.specs.declared.request.CallId.{CallId}
use Rattle.fsa_types.specs.declared.request.Request.TheVariants.{Oplock as OplockRequest, Ack}
use Rattle.fsa_types.specs.declared.request.What.{What}
use Rattle.fsa_types.specs.declared.request.What.TheVariants.{Ask}
use Rattle.fsa_model.specs.Edits.{is_call}
use Rattle.fsa_model.specs.History.{HistoryEntry, Run}
use Rattle.fsa_model.specs.Lookups.{handle_of}
use Rattle.fsa_model.specs.Once.{how_many, is_end}
use Rattle.fsa_model.specs.Outcome.{Hold, TurnOut}
use Rattle.fsa_model.specs.Turn.{try, answered, settlement, turn_number}
use Rattle.fsa_model.specs.Volume.{Oplock, Pending, Volume}
use Rattle.fsa_model.specs.Waiting.{AreLiving, all_wait, blocker_lives, is_blocked, is_held, is_ready}

-- ---- no call is left ready

abbrev pub NoneReady : Volume → Type 0
NoneReady v = list_any (λ entry. is_ready v entry.1) v.pending ≡ false

-- ---- clients don't all wait

-- some client that hasn't left doesn't wait, or all have left
abbrev pub SomeGoesOn : Volume → Type 0
SomeGoesOn v = all_wait v ≡ false

-- ---- each call ends once

-- the entry's call is the client's call of this number
abbrev pub is_entry_of : ℕ → ℕ → HistoryEntry → Bool
is_entry_of client number entry = entry.call.client == client && entry.call.number == number

-- no call is made twice
abbrev pub CallsDiffer : List HistoryEntry → Type 0
CallsDiffer history = (client number : ℕ) → how_many (is_entry_of client number) history ≤ 1

-- the turn's own call is answered with its end
abbrev pub ends_at_once : Answer → Bool
ends_at_once (Ended reply) = true
ends_at_once (IsPending interim) = false

-- how many ends of the client's call of this number a turn gives out
abbrev pub ends_given : ℕ → ℕ → HistoryEntry → TurnOut → ℕ
ends_given client number entry out =
    cond (is_entry_of client number entry && ends_at_once out.answer) 1 0 + how_many (is_end client number) out.ended

-- and how many these turns give out
abbrev pub all_ends_given : ℕ → ℕ → List HistoryEntry → List TurnOut → ℕ
all_ends_given client number [] outs = 0
all_ends_given client number (entry ∷ history) [] = 0
all_ends_given client number (entry ∷ history) (out ∷ outs) = ends_given client number entry out + all_ends_given client number history outs

-- each call that was made has ended or is pending, once; and no other has or is
abbrev pub EndsOnce : List HistoryEntry → Run → Type 0
EndsOnce history r =
    (client number : ℕ) → all_ends_given client number history r.outs + how_many (λ entry. is_call client number entry.1) r.volume.pending
    ≡ how_many (is_entry_of client number) history

-- ---- what holds a call

-- whatever call is tried now: where it's held, it is by some blockers, and all of them live in what the try leaves
abbrev pub HoldsByLiving : Volume → Type 0
HoldsByLiving v = (call : Call) (turn : ℕ) (w : Volume) (blockers : List Blocker) (interim : Interim) → try v call turn ≡ Hold w blockers interim → AreLiving w blockers

-- each pending call that is held has a blocker that lives
abbrev pub HeldAreBlocked : Volume → Type 0
HeldAreBlocked v = list_any (λ entry. is_held entry.1 && not (is_blocked (blocker_lives v) entry.1)) v.pending ≡ false

-- ---- what grants an oplock

-- the handle that a request for an oplock names, or the answer to a break
abbrev pub handle_granted : What → Option ℕ
handle_granted (Ask (OplockRequest handle level)) = Some handle
handle_granted (Ask (Ack handle level)) = Some handle
handle_granted _ = None

-- the call is such a one, and names the handle of this number
abbrev pub asks_oplock_of : Volume → ℕ → Call → Bool
asks_oplock_of v id call =
    option_map_or (λ handle. option_map_or (λ found. found == id) (handle_of v call.client handle) false) (handle_granted call.what) false

-- such a call is pending under this turn
abbrev pub has_grant_under : Volume → ℕ → ℕ → Bool
has_grant_under v id turn = list_any (λ entry. entry.0 == turn && asks_oplock_of v id entry.1.call) v.pending

-- a break of the oplock is in progress, or the call that granted it is pending
abbrev pub is_pending_grant : Volume → Oplock → Bool
is_pending_grant v oplock = is_some oplock.target || option_map_or (λ turn. has_grant_under v oplock.handle turn) oplock.call false

abbrev pub GrantsPend : Volume → Type 0
GrantsPend v = list_any (λ oplock. not (is_pending_grant v oplock)) v.oplocks ≡ false

-- ---- which held calls are tried in a turn

-- the volume once the turn's own call has been tried, and before what is pending is taken up
abbrev pub own_tried : Volume → Call → Volume
own_tried v call = answered call (turn_number v) (try v call (turn_number v))

-- the pending call under this turn was held before the turn's own try, and some of what it waited for lived; after
-- that try it's still pending, and none of that lives
abbrev pub is_released : Volume → Volume → ℕ → ℕ × Pending → Bool
is_released before after turn entry =
    entry.0 == turn && is_held entry.1 && is_blocked (blocker_lives before) entry.1 && lives after.pending turn
    && not (is_blocked (blocker_lives after) entry.1)

-- just the held calls that the turn's own try released are taken up in it, each once, in order of their turns;
-- and no break or lock ends in that
pub record TakesReleased (v : Volume) (call : Call) (starved : List CallId) : Type 0 where
  pub taken : (turn : ℕ) → how_many (λ taken. taken == turn) (settlement v call starved).taken
      ≡ cond (list_any (is_released v (own_tried v call) turn) v.pending) 1 0
  pub rising : AllPairs (λ a b. a < b) (settlement v call starved).taken
  pub lives : (b : Blocker) → blocker_lives (own_tried v call) b ≡ true → blocker_lives (settlement v call starved).volume b ≡ true
