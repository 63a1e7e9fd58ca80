-- Room for turns to come, over one turn.
use Rattle.std.proofs.Common.{◌≡◌, ℕ, ◌+◌, ◌≤◌, ◌-◌, true, length, ap, arith}
use Rattle.fsa_types.specs.declared.request.Request.TheVariants.{Ack, Cancel}
use Rattle.fsa_types.specs.declared.request.What.{What}
use Rattle.fsa_types.specs.declared.request.What.TheVariants.{Ask}
use Rattle.fsa_model.specs.Once.{made}
use Rattle.fsa_model.specs.Volume.{Volume}
use Rattle.fsa_machine.specs.Spare.{AreSpare, SpareTurns, is_ack_or_cancel}
use Rattle.fsa_machine.specs.Step.{HasReplyRoom}
use Rattle.fsa_machine.specs.declared.replies.ReplyRooms.{ReplyRooms}

-- replies to an Ack and to a Cancel have neither bytes nor units
pub short-reply : (what : What) (rooms : ReplyRooms) → is_ack_or_cancel what ≡ true → HasReplyRoom what rooms
short-reply (Ask (Ack handle level)) rooms short = record { kept_bytes = omega arith; kept_units = omega arith; given_bytes = omega arith; given_units = omega arith }
short-reply (Ask (Cancel number)) rooms short = record { kept_bytes = omega arith; kept_units = omega arith; given_bytes = omega arith; given_units = omega arith }
short-reply _ rooms short = cc

-- no room for no turn
pub none-spare : (v : Volume) (ends pending kept room : ℕ) (spare : SpareTurns) → spare ≡ record { turns = 0; calls = 0 } → AreSpare v ends pending kept room spare
none-spare v ends pending kept room spare none =
    let turns = ap (λ (s : SpareTurns). s.turns) none in
    record {
      can_end = λ some. absurd (omega arith);
      can_pend = omega arith;
      can_keep = λ some. absurd (omega arith);
      can_list = λ some. absurd (omega arith);
    }

-- where nothing but the room has changed, and that has grown, there is room for as many turns
pub still-spare : (v w : Volume) (ends ends' pending pending' kept kept' room room' : ℕ) (spare spare' : SpareTurns) → AreSpare v ends pending kept room spare → w ≡ v → ends ≤ ends' → pending ≤ pending'
    → kept' ≡ kept → room ≤ room' → spare' ≡ spare → AreSpare w ends' pending' kept' room' spare'
still-spare v w ends ends' pending pending' kept kept' room room' spare spare' are is more_ends more_pending same more_room stays =
    let calls = ap (λ (u : Volume). length u.pending) is in
    let turns = ap (λ (s : SpareTurns). s.turns) stays in
    let lists = ap (λ (s : SpareTurns). s.calls) stays in
    record {
      can_end = λ some. (let fits = are.can_end (omega arith) in omega arith);
      can_pend = (let fits = are.can_pend in omega arith);
      can_keep = λ some. (let fits = are.can_keep (omega arith) in omega arith);
      can_list = λ some. (let fits = are.can_list (omega arith) in omega arith);
    }

-- a turn uses the room of one
pub next-spare : (v w : Volume) (ends ends' pending pending' kept kept' room room' : ℕ) (spare spare' : SpareTurns) → AreSpare v ends pending kept room spare → made w ≡ made v + 1 → length v.ended ≤ length w.ended
    → ends + length v.ended ≤ ends' + length w.ended → pending ≤ pending' + 1 → kept' ≡ kept + 1 → room ≤ room' → spare'.turns ≡ spare.turns - 1 → spare'.calls ≡ spare.calls
    → AreSpare w ends' pending' kept' room' spare'
next-spare v w ends ends' pending pending' kept kept' room room' spare spare' are one longer left used next more_room fewer lists =
    let all : length w.pending + length w.ended ≡ length v.pending + length v.ended + 1 = one in
    record {
      can_end = λ some. (let fits = are.can_end (omega arith) in omega arith);
      can_pend = (let fits = are.can_pend in omega arith);
      can_keep = λ some. (let fits = are.can_keep (omega arith) in omega arith);
      can_list = λ some. (let fits = are.can_list (omega arith) in omega arith);
    }
