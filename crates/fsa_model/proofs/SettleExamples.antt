-- Settlements, worked by hand from the rules and shown by computation: which calls are taken up in a turn,
-- in what order, how they end, and which are held anew.
use Rattle.std.specs.Prelude.{◌≡◌, ℕ, true, List, [], ◌∷◌, Option, Some, None, option_map, refl}
use Rattle.fsa_types.specs.declared.request.Call.{Call}
use Rattle.fsa_types.specs.declared.request.CallId.{CallId}
use Rattle.fsa_types.specs.declared.request.Level.TheVariants.{Nil, R, RW}
use Rattle.fsa_types.specs.declared.request.Request.{Request}
use Rattle.fsa_types.specs.declared.request.Request.TheVariants as request
use Rattle.fsa_types.specs.declared.request.What.TheVariants.{Ask, WaitFor, Tick, Leave}
use Rattle.fsa_types.specs.declared.reply.Answer.{Answer}
use Rattle.fsa_types.specs.declared.reply.Answer.TheVariants as answer
use Rattle.fsa_types.specs.declared.reply.Blocker.{Blocker}
use Rattle.fsa_types.specs.declared.reply.Blocker.TheVariants as blocker
use Rattle.fsa_types.specs.declared.reply.Body.TheVariants.{Nothing, Count}
use Rattle.fsa_types.specs.declared.reply.EndOf.{EndOf}
use Rattle.fsa_types.specs.declared.reply.Interim.TheVariants.{LockWait, Waiting}
use Rattle.fsa_types.specs.declared.status.Status.{Status}
use Rattle.fsa_types.specs.declared.status.Status.TheVariants.{Success, Cancelled, InvalidParameter, Stalled, NoMemory}
use Rattle.fsa_model.specs.Close.{try_close, close_at, with_closed, try_leave, with_client_gone}
use Rattle.fsa_model.specs.Locking.{try_lock, lock_at, lock_by, lock_stream, lock_range, lock_free, try_unlock, unlock_at, unlock_by, unlock_range}
use Rattle.fsa_model.specs.Outcome.{TurnOut}
use Rattle.fsa_model.specs.Turn.{turn, settlement}
use Rattle.fsa_model.specs.Volume.{Lock, Oplock, Pending, Volume}
use Rattle.fsa_model.specs.Waiting.{try_wait, try_cancel}
use Rattle.fsa_model.specs.Write.{try_write, write_at, write_by, write_stream, write_at_place, write_range, write_unlocked, write_grown, write_bytes}
use Rattle.fsa_model.proofs.BytesExamples.{opened, locked}

-- ---- what is there

abbrev asks : ℕ → ℕ → Request → Call
asks client number request = record { client = client; number = number; what = Ask request }

abbrev waits_for : ℕ → ℕ → ℕ → Call
waits_for client number earlier = record { client = client; number = number; what = WaitFor earlier }

abbrev held : Call → List Blocker → Pending
held call blockers = record { call = call; blockers = blockers }

abbrev ends : ℕ → ℕ → Status → EndOf
ends client number status = record { client = client; number = number; reply = record { status = status; body = Nothing } }

abbrev ended : Status → Answer
ended status = answer.Ended (record { status = status; body = Nothing })

abbrev lock : ℕ → ℕ → ℕ → Lock
lock handle at count = record { handle = handle; at = at; count = count; exclusive = true }

abbrev lock_wait : ℕ → ℕ → Request
lock_wait at count = request.Lock 1 at count true true

-- client 0 has the bytes 0 to 3 locked by its handle 1 (lock 1); client 1 waits with call 8, under turn 1,
-- for the bytes 2 and 3, and with call 9, under turn 2, for byte 3
abbrev two_wait : Volume
two_wait = record (locked (opened 0x3) 11 0 4 true) {
  pending = (1, held (asks 1 8 (lock_wait 2 2)) (blocker.Lock 1 ∷ [])) ∷ (2, held (asks 1 9 (lock_wait 3 1)) (blocker.Lock 1 ∷ [])) ∷ [];
}

-- what a turn gives out, and what is then locked and pending
abbrev Left : Type 0
Left = Option (TurnOut × List (ℕ × Lock) × List (ℕ × Pending))

abbrev left : Volume → Call → List CallId → Left
left v call starved = option_map (λ t. (t.out, t.volume.locks, t.volume.pending)) (turn v call starved)

abbrev out : Answer → List EndOf → List CallId → TurnOut
out answer ended starved = record { answer = answer; ended = ended; starved = starved }

-- ---- a lock that is waited for

-- it is waited for until it is free
pub lock_waits : left (locked (opened 0x3) 11 0 4 true) (asks 1 8 (lock_wait 2 2)) []
    ≡ Some (out (answer.Pending LockWait) [] [], (1, lock 11 0 4) ∷ [], (1, held (asks 1 8 (lock_wait 2 2)) (blocker.Lock 1 ∷ [])) ∷ [])
unfolding try_lock lock_at lock_by lock_stream lock_range lock_free
lock_waits = refl

-- at the unlock the call of the least turn gets its lock, and the other is held anew, by that lock
pub unlocked : left two_wait (asks 0 9 (request.Unlock 1 0 4)) []
    ≡ Some (out (ended Success) (ends 1 8 Success ∷ []) [], (2, lock 16 2 2) ∷ [], (2, held (asks 1 9 (lock_wait 3 1)) (blocker.Lock 2 ∷ [])) ∷ [])
unfolding try_lock lock_at lock_by lock_stream lock_range lock_free try_unlock unlock_at unlock_by unlock_range
unlocked = refl

-- both were taken up, once each, in order of turns
pub unlocked_taken : (settlement two_wait (asks 0 9 (request.Unlock 1 0 4)) []).taken ≡ 1 ∷ 2 ∷ []
unfolding try_lock lock_at lock_by lock_stream lock_range lock_free try_unlock unlock_at unlock_by unlock_range
unlocked_taken = refl

-- the close of the handle sets them going too
pub closed : left two_wait (asks 0 9 (request.Close 1)) []
    ≡ Some (out (ended Success) (ends 1 8 Success ∷ []) [], (2, lock 16 2 2) ∷ [], (2, held (asks 1 9 (lock_wait 3 1)) (blocker.Lock 2 ∷ [])) ∷ [])
unfolding try_lock lock_at lock_by lock_stream lock_range lock_free try_close close_at with_closed
closed = refl

-- an unlock of another range, and any other call, lets both wait
pub not_unlocked : (settlement two_wait (asks 0 9 (request.Unlock 1 0 3)) []).taken ≡ []
unfolding try_unlock unlock_at unlock_by unlock_range
not_unlocked = refl

-- a call that waits for two locks isn't tried while one of them is still there
abbrev waits_for_two : Volume
waits_for_two = record (locked (opened 0x3) 11 0 4 true) {
  locks = (1, lock 11 0 4) ∷ (2, lock 11 6 4) ∷ [];
  pending = (1, held (asks 1 8 (lock_wait 2 6)) (blocker.Lock 1 ∷ blocker.Lock 2 ∷ [])) ∷ [];
  last_lock = 2;
}

pub one_of_two_unlocked : (settlement waits_for_two (asks 0 9 (request.Unlock 1 0 4)) []).taken ≡ []
unfolding try_unlock unlock_at unlock_by unlock_range
one_of_two_unlocked = refl

-- and is once the handle of both closes
pub both_unlocked : left waits_for_two (asks 0 9 (request.Close 1)) [] ≡ Some (out (ended Success) (ends 1 8 Success ∷ []) [], (3, lock 16 2 6) ∷ [], [])
unfolding try_lock lock_at lock_by lock_stream lock_range lock_free try_close close_at with_closed
both_unlocked = refl

-- ---- want of memory

-- the first finds no memory and ends so; the second then gets its lock
pub starves_first : left two_wait (asks 0 9 (request.Unlock 1 0 4)) (record { client = 1; number = 8 } ∷ [])
    ≡ Some (out (ended Success) (ends 1 8 NoMemory ∷ ends 1 9 Success ∷ []) (record { client = 1; number = 8 } ∷ []), (2, lock 16 3 1) ∷ [], [])
unfolding try_lock lock_at lock_by lock_stream lock_range lock_free try_unlock unlock_at unlock_by unlock_range
starves_first = refl

-- there is no turn in which they starve in another order, or a call starves that isn't taken up
pub starved_in_order : left two_wait (asks 0 9 (request.Unlock 1 0 4)) (record { client = 1; number = 9 } ∷ record { client = 1; number = 8 } ∷ []) ≡ None
unfolding try_lock lock_at lock_by lock_stream lock_range lock_free try_unlock unlock_at unlock_by unlock_range
starved_in_order = refl

pub starved_untaken : left two_wait (asks 0 9 (request.Unlock 1 0 3)) (record { client = 1; number = 8 } ∷ []) ≡ None
unfolding try_unlock unlock_at unlock_by unlock_range
starved_untaken = refl

-- a wait for a call takes no memory
pub starved_wait : left (record two_wait { pending = (1, held (waits_for 1 8 7) []) ∷ []; ended = ends 1 7 Success ∷ [] }) (record { client = 0; number = 9; what = Tick 1 }) (record { client = 1; number = 8 } ∷ []) ≡ None
starved_wait = refl

-- ---- cancelling

-- a cancelled call ends before the answer is given out, and is no longer waited with
pub cancelled : left two_wait (asks 1 10 (request.Cancel 8)) []
    ≡ Some (out (ended Success) (ends 1 8 Cancelled ∷ []) [], (1, lock 11 0 4) ∷ [], (2, held (asks 1 9 (lock_wait 3 1)) (blocker.Lock 1 ∷ [])) ∷ [])
unfolding try_cancel
cancelled = refl

-- a number of another client, or of a call that isn't pending
pub cancelled_none : left two_wait (asks 0 10 (request.Cancel 8)) [] ≡ Some (out (ended InvalidParameter) [] [], two_wait.locks, two_wait.pending)
unfolding try_cancel
cancelled_none = refl

-- an oplock that is granted goes with its call
abbrev granted : Volume
granted = record (opened 0x3) {
  oplocks = record { handle = 16; key = 0; level = R; target = None; number = 0; call = Some 3 } ∷ record { handle = 15; key = 5; level = R; target = None; number = 0; call = Some 4 } ∷ [];
  pending = (3, held (asks 1 8 (request.Oplock 1 R)) []) ∷ (4, held (asks 0 8 (request.Oplock 5 R)) []) ∷ [];
}

pub cancelled_oplock : option_map {U = List Oplock × List (ℕ × Pending)} (λ t. (t.volume.oplocks, t.volume.pending)) (turn granted (asks 1 9 (request.Cancel 8)) [])
    ≡ Some (record { handle = 15; key = 5; level = R; target = None; number = 0; call = Some 4 } ∷ [], (4, held (asks 0 8 (request.Oplock 5 R)) []) ∷ [])
unfolding try_cancel
cancelled_oplock = refl

-- ---- waits for calls

-- for a call that has ended, that is pending, and that there isn't
abbrev one_ended : Volume
one_ended = record two_wait { ended = ends 1 7 Success ∷ [] }

pub waits_not : left one_ended (waits_for 1 10 7) [] ≡ Some (out (ended Success) [] [], two_wait.locks, two_wait.pending)
unfolding try_wait
waits_not = refl

pub waits_on : left one_ended (waits_for 1 10 8) [] ≡ Some (out (answer.Pending Waiting) [] [], two_wait.locks, (1, held (asks 1 8 (lock_wait 2 2)) (blocker.Lock 1 ∷ [])) ∷ (2, held (asks 1 9 (lock_wait 3 1)) (blocker.Lock 1 ∷ [])) ∷ (4, held (waits_for 1 10 8) []) ∷ [])
unfolding try_wait
waits_on = refl

pub waits_for_none : left one_ended (waits_for 1 10 10) [] ≡ Some (out (ended InvalidParameter) [] [], two_wait.locks, two_wait.pending)
unfolding try_wait
waits_for_none = refl

-- the wait ends in the turn in which its call is taken up and ends, and before a later call is taken up
abbrev waiting : Volume
waiting = record two_wait {
  pending = (1, held (waits_for 0 8 7) [])
      ∷ (2, held (asks 1 8 (lock_wait 2 2)) (blocker.Lock 1 ∷ []))
      ∷ (3, held (asks 1 9 (lock_wait 4 1)) (blocker.Lock 1 ∷ []))
      ∷ (4, held (waits_for 1 10 8) [])
      ∷ [];
}

pub wait_ends : left waiting (asks 0 9 (request.Unlock 1 0 4)) []
    ≡ Some (out (ended Success) (ends 1 8 Success ∷ ends 1 9 Success ∷ ends 1 10 Success ∷ []) [], (2, lock 16 2 2) ∷ (3, lock 16 4 1) ∷ [], (1, held (waits_for 0 8 7) []) ∷ [])
unfolding try_lock lock_at lock_by lock_stream lock_range lock_free try_unlock unlock_at unlock_by unlock_range
wait_ends = refl

-- ---- all wait

-- client 0 waits for client 1's doing, and client 1 for its own lock: where both wait, both waits end,
-- the held calls stay
abbrev one_waits : Volume
one_waits = record two_wait {
  pending = (1, held (asks 0 7 (request.Lock 5 0 4 true true)) (blocker.Lock 1 ∷ [])) ∷ (2, held (asks 1 8 (lock_wait 2 2)) (blocker.Lock 1 ∷ [])) ∷ (3, held (waits_for 1 9 8) []) ∷ [];
}

pub all_stalled : left one_waits (waits_for 0 9 7) []
    ≡ Some (
      out (answer.Pending Waiting) (ends 0 9 Stalled ∷ ends 1 9 Stalled ∷ []) [],
      two_wait.locks,
      (1, held (asks 0 7 (request.Lock 5 0 4 true true)) (blocker.Lock 1 ∷ [])) ∷ (2, held (asks 1 8 (lock_wait 2 2)) (blocker.Lock 1 ∷ [])) ∷ [],
    )
unfolding try_wait
all_stalled = refl

-- where some client goes on, no wait ends
pub not_stalled : left one_waits (record { client = 0; number = 9; what = Tick 1 }) [] ≡ Some (out (ended Success) [] [], two_wait.locks, one_waits.pending)
not_stalled = refl

-- and where the last that doesn't wait leaves, they do
abbrev last_waits : Volume
last_waits = record (opened 0x3) { pending = (1, held (asks 1 8 (request.Oplock 1 R)) []) ∷ (2, held (waits_for 1 9 8) []) ∷ [] }

pub left_alone : option_map (λ t. t.out.ended) (turn last_waits (record { client = 0; number = 9; what = Leave }) []) ≡ Some (ends 1 9 Stalled ∷ [])
unfolding try_leave with_client_gone with_closed
left_alone = refl

-- ---- breaks

-- client 1's handle holds RW; a write by another handle breaks it, waits, and goes on when that handle closes
abbrev holder : Volume
holder = record (opened 0x3) {
  oplocks = record { handle = 16; key = 0; level = RW; target = Some Nil; number = 1; call = None } ∷ [];
  pending = (1, held (asks 0 8 (request.Write 1 (Some 0) (9 ∷ []))) (blocker.Break 1 ∷ [])) ∷ [];
  last_break = 1;
}

pub break_over : option_map {U = TurnOut × List (ℕ × Pending)} (λ t. (t.out, t.volume.pending)) (turn holder (asks 1 8 (request.Close 1)) [])
    ≡ Some (out (ended Success) (record { client = 0; number = 8; reply = record { status = Success; body = Count 1 } } ∷ []) [], [])
unfolding try_close close_at with_closed try_write write_at write_by write_stream write_at_place write_range write_unlocked write_grown write_bytes
break_over = refl

-- it isn't tried while the break is in progress
pub break_lives : (settlement holder (record { client = 1; number = 8; what = Tick 1 }) []).taken ≡ []
break_lives = refl
