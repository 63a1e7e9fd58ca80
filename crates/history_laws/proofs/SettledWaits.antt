-- A wait that is pending once a turn's call has been tried ends in the settlement, if it does, with SUCCESS or STALLED.
use Rattle.std.proofs.Common.{◌≡◌, ℕ, ◌≤◌, true, not, List, [], ◌∷◌, ◌++◌, refl, arith, inl, inr}
use Rattle.std.specs.Prelude.{◌==◌, ◌&&◌}
use Rattle.std.proofs.lemmas.Bool.{cases_Bool}
use Rattle.fsa_model.specs.Engine.{CallsDiffer, own_tried}
use Rattle.fsa_model.specs.History.{HistoryEntry}
use Rattle.fsa_model.specs.Once.{how_many, is_end, times}
use Rattle.fsa_model.specs.Settling.{MayTakeUp, MayTurn, is_under}
use Rattle.fsa_model.specs.Setup.{Setup}
use Rattle.fsa_model.specs.Turn.{settlement, turn_number, try}
use Rattle.fsa_model.specs.Volume.{Volume}
use Rattle.fsa_model.specs.Waiting.{is_wait}
use Rattle.fsa_model.proofs.CountLaws.{and_left, and_right, and_true, how_many-either, how_many-none, how_many-some, how_many-weaker, none-how_many, only-one}
use Rattle.fsa_model.proofs.EngineLaws.{new-before, run-before}
use Rattle.fsa_model.proofs.OnceLaws.{is_call_of}
use Rattle.fsa_model.proofs.TurnLaws.{Adds-answered, try-keeps}
use Rattle.history_laws.specs.Holding.{asks_oplock}
use Rattle.history_laws.specs.WaitEnds.{SettlesWaits, is_pending_wait, is_settled_end}
use Rattle.history_laws.proofs.AskedGrants.{GrantsAsked, own-asked, run-asked}
use Rattle.history_laws.proofs.OwnGrants.{unasked}
use Rattle.history_laws.proofs.TurnByTurn.{differ-before}
use Rattle.history_laws.proofs.WaitRuns.{EndsWell, well-settled}

-- a pending wait hasn't ended, and no oplock is granted to it
pending-well : (v : Volume) (client number : ℕ) → MayTakeUp v → GrantsAsked v → is_pending_wait v client number ≡ true → EndsWell client number is_settled_end v
pending-well v client number may asked pends = record {
  bare = record {
    waits = no_other;
    none = λ turn some.
        (let either = how_many-either (λ e. is_call_of client number e && not (is_wait e.1.call.what)) (λ e. e.0 == turn && not (asks_oplock e.1)) (λ e. is_under turn e && is_call_of client number e) v.pending
        (λ e both. elim (cases_Bool (is_wait e.1.call.what)) [
          | inl waits ↦ inr (rw (and_left (is_under turn e) (is_call_of client number e) both, unasked is_wait (λ handle level. refl) (λ handle level. refl) e.1.call.what waits) refl)
          | inr isnt ↦ inl (rw isnt (and_true (is_call_of client number e) true (and_right (is_under turn e) (is_call_of client number e) both) refl))
        ]) in
        let none_asks = asked turn some in let none_other = no_other in omega arith);
  };
  ended = (let weaker = how_many-weaker (λ end. is_end client number end && not (is_settled_end end.reply)) (is_end client number) v.ended (λ end both. and_left (is_end client number end) (not (is_settled_end end.reply)) both) in
      let some = how_many-some (λ e. is_call_of client number e && is_wait e.1.call.what) v.pending pends in
      let its = how_many-weaker (λ e. is_call_of client number e && is_wait e.1.call.what) (is_call_of client number) v.pending (λ e both. and_left (is_call_of client number e) (is_wait e.1.call.what) both) in
      let few = once in omega arith);
}
  where
    once : times client number v ≤ 1
    once = may.once client number

    no_other : how_many (λ e. is_call_of client number e && not (is_wait e.1.call.what)) v.pending ≡ 0
    no_other = how_many-none (λ e. is_call_of client number e && not (is_wait e.1.call.what)) v.pending (only-one (is_call_of client number) (λ e. is_wait e.1.call.what) v.pending (let few = once in omega arith) pends)

-- in each turn of a run
pub waits-settle : (setup : Setup) (history : List HistoryEntry) → CallsDiffer history → SettlesWaits setup history
waits-settle setup history differ front later entry r client number is runs pends =
    none-how_many (λ end. is_end client number end && not (is_settled_end end.reply)) (settlement r.volume entry.call entry.starved).volume.ended
    (EndsWell.ended (well-settled client number is_settled_end refl refl r.volume entry.call entry.starved own.may
    (pending-well (own_tried r.volume entry.call) client number own (own-asked r.volume entry.call may (run-asked setup front entry r differ_to runs)) pends)))
  where
    differ_to : CallsDiffer (front ++ entry ∷ [])
    differ_to = differ-before history front later entry is differ

    may : MayTurn r.volume
    may = (run-before setup front entry r differ_to runs).may

    own : MayTakeUp (own_tried r.volume entry.call)
    own = (Adds-answered r.volume entry.call (try r.volume entry.call (turn_number r.volume)) may (new-before setup front entry r differ_to runs) (try-keeps r.volume entry.call (turn_number r.volume) may.take_up.may.oplocks)).may.take_up
