-- What the holder of an oplock is told of a break, by the end of its pending call, and what the break then leaves.
use Rattle.std.specs.List.{list_any}
use Rattle.std.specs.Option.{option_map_or}
use Rattle.std.specs.Prelude.{◌≡◌, ◌<◌, ◌==◌, ◌&&◌, not, ℕ, Bool, true, false, List, [], ◌∷◌, is_some}
use Rattle.fsa_types.specs.OplockLists.{effect_on, told_by}
use Rattle.fsa_types.specs.Oplocks.{is_within}
use Rattle.fsa_types.specs.declared.oplock.Class.TheVariants.{Clash, NameChange, ReadOpen, Change}
use Rattle.fsa_types.specs.declared.reply.Body.{Body}
use Rattle.fsa_types.specs.declared.reply.Body.TheVariants.{Broken}
use Rattle.fsa_types.specs.declared.reply.EndOf.{EndOf}
use Rattle.fsa_types.specs.declared.reply.Reply.{Reply}
use Rattle.fsa_types.specs.declared.request.Level.{Level}
use Rattle.fsa_types.specs.declared.status.Status.TheVariants.{Success}
use Rattle.fsa_model.specs.Edits.{is_call}
use Rattle.fsa_model.specs.History.{HistoryEntry}
use Rattle.fsa_model.specs.Once.{how_many, is_end}
use Rattle.fsa_model.specs.Setup.{Setup}
use Rattle.fsa_model.specs.Volume.{Oplock, Pending, Volume}
use Rattle.fsa_model.specs.Waiting.{is_granted_under}
use Rattle.history_laws.specs.TurnParts.{InEachTurn}
use Rattle.history_laws.specs.WaitEnds.{is_success}

-- ---- what is told

-- a break is told by SUCCESS, with the level that may stay, and whether it has to be acknowledged
abbrev pub telling : Level → Bool → Reply
telling level ack = record { status = Success; body = Broken level ack }

-- the reply tells of a break
abbrev pub is_of_break : Body → Bool
is_of_break (Broken level ack) = true
is_of_break _ = false

abbrev pub tells_of_break : Reply → Bool
tells_of_break reply = is_of_break reply.body

-- how often the client's call of this number has ended in a reply that tells of a break, and passes
abbrev pub times_told : (Reply → Bool) → ℕ → ℕ → Volume → ℕ
times_told test client number v = how_many (λ end. is_end client number end && (tells_of_break end.reply && test end.reply)) v.ended

-- some class of requests would, by a break of this oplock, tell its holder what passes
abbrev pub tells : (Reply → Bool) → Oplock → Bool
tells test oplock =
    list_any (λ class. option_map_or (λ told. test (telling told.0 told.1)) (told_by (effect_on class oplock)) false)
    (Clash ∷ NameChange ∷ ReadOpen ∷ Change ∷ [])

-- the pending call is the client's of this number, and under its turn an oplock is granted of which no break is in progress,
-- and of which some break tells what passes
abbrev pub may_be_told : (Reply → Bool) → ℕ → ℕ → Volume → ℕ × Pending → Bool
may_be_told test client number v entry =
    is_call client number entry.1 && list_any (λ oplock. not (is_some oplock.target) && (is_granted_under entry.0 oplock && tells test oplock)) v.oplocks

-- from the first volume to the second a call ends in what tells of a break, and passes, only where it was pending, an oplock
-- without a break in progress was granted to it, and some break of that tells so
abbrev pub TellsOfOplock : Volume → Volume → Type 0
TellsOfOplock v w = (test : Reply → Bool) (client number : ℕ) → times_told test client number v < times_told test client number w
    → list_any (may_be_told test client number v) v.pending ≡ true

-- the body tells of a break to just this level, to be acknowledged: each of the two has all of the other in it; and so does the
-- reply, by SUCCESS
abbrev pub is_level_of : Level → Body → Bool
is_level_of target (Broken level ack) = ack && (is_within target level && is_within level target)
is_level_of target _ = false

abbrev pub tells_level : Level → Reply → Bool
tells_level target reply = is_success reply.status && is_level_of target reply.body

-- among these ends is one of the client's call of this number, in a reply that tells so
abbrev pub is_told_level : ℕ → ℕ → Level → List EndOf → Bool
is_told_level client number target ended = list_any (λ end. is_end client number end && tells_level target end.reply) ended

-- the handle's oplock is granted under this turn, and no break of it is in progress
abbrev pub is_held_under : ℕ → ℕ → Oplock → Bool
is_held_under handle turn oplock = oplock.handle == handle && (not (is_some oplock.target) && is_granted_under turn oplock)

-- the oplock is the handle's, a break of it is in progress, and the call wasn't told just the level that the break leaves
abbrev pub is_untold : ℕ → ℕ → ℕ → List EndOf → Oplock → Bool
is_untold handle client number ended oplock =
    oplock.handle == handle && option_map_or (λ target. not (is_told_level client number target ended)) oplock.target false

-- where an oplock of the first volume has no break in progress, and the call that it's granted to is pending, and in the second
-- volume a break of the same handle's oplock is in progress, that call has ended SUCCESS in a reply that asks for an
-- acknowledgement and tells just the level that the break leaves
abbrev pub TellsTarget : Volume → Volume → Type 0
TellsTarget v w = (handle turn client number : ℕ) → list_any (is_held_under handle turn) v.oplocks ≡ true → list_any (λ entry. entry.0 == turn && is_call client number entry.1) v.pending ≡ true
    → list_any (is_untold handle client number w.ended) w.oplocks ≡ false

-- the body tells of a break, and asks for an acknowledgement, or doesn't, as said
abbrev pub asks : Bool → Body → Bool
asks true (Broken level ack) = ack
asks false (Broken level ack) = not ack
asks ack _ = false

abbrev pub asks_ack : Bool → Reply → Bool
asks_ack ack reply = asks ack reply.body

-- where an acknowledgement is asked, the handle has an oplock with a break in progress, and else it has no oplock
abbrev pub IsLeft : Bool → ℕ → Volume → Type 0
IsLeft true handle v = list_any (λ oplock. oplock.handle == handle && is_some oplock.target) v.oplocks ≡ true
IsLeft false handle v = list_any (λ oplock. oplock.handle == handle) v.oplocks ≡ false

-- where an oplock of the first volume has no break in progress, the call that it's granted to is pending, and from the first
-- volume to the second that call ends in what tells of a break, the oplock is as was told: a break of it is in progress where
-- that asks for an acknowledgement, and else it is gone
abbrev pub IsAsTold : Volume → Volume → Type 0
IsAsTold v w = (handle turn client number : ℕ) (ack : Bool) → list_any (is_held_under handle turn) v.oplocks ≡ true → list_any (λ entry. entry.0 == turn && is_call client number entry.1) v.pending ≡ true
    → times_told (asks_ack ack) client number v < times_told (asks_ack ack) client number w → IsLeft ack handle w

-- ---- in each turn

-- so it is in each part of each turn of a history: calls are told what their own oplocks' breaks tell; just what a break leaves
-- is told; and an oplock is left as was told
abbrev pub ToldOfOplocks : Setup → List HistoryEntry → Type 0
ToldOfOplocks setup history = InEachTurn TellsOfOplock setup history

abbrev pub ToldTargets : Setup → List HistoryEntry → Type 0
ToldTargets setup history = InEachTurn TellsTarget setup history

abbrev pub LeftAsTold : Setup → List HistoryEntry → Type 0
LeftAsTold setup history = InEachTurn IsAsTold setup history
