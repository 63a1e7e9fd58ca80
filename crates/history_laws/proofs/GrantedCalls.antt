-- In each turn of a run each oplock without a break has its call pending, and each pending call that asks for an oplock or answers
-- a break has its oplock.
use Rattle.std.proofs.Common.{◌≡◌, ℕ, ◌≤◌, Bool, true, false, not, List, [], ◌∷◌, ◌++◌, length, refl, sym, ◌∙◌, arith, eq-eqb, inl, inr, Some}
use Rattle.std.specs.List.{list_any}
use Rattle.std.specs.Prelude.{◌&&◌}
use Rattle.std.proofs.lemmas.Bool.{cases_Bool, false_from_ne_true}
use Rattle.fsa_types.specs.declared.request.Call.{Call}
use Rattle.fsa_types.specs.declared.request.CallId.{CallId}
use Rattle.fsa_model.specs.Engine.{CallsDiffer, asks_oplock_of, own_tried}
use Rattle.fsa_model.specs.History.{HistoryEntry, Run, run}
use Rattle.fsa_model.specs.Once.{IsOnce, how_many, times}
use Rattle.fsa_model.specs.Reports.{settling_after}
use Rattle.fsa_model.specs.Settle.{Settling, taken_up}
use Rattle.fsa_model.specs.Settling.{GoesOn, MaySettle, MayTurn, is_under}
use Rattle.fsa_model.specs.Setup.{Setup}
use Rattle.fsa_model.specs.Turn.{settlement}
use Rattle.fsa_model.specs.Volume.{Pending, Volume}
use Rattle.fsa_model.specs.Waiting.{is_granted_under, with_stalled}
use Rattle.fsa_model.proofs.CountLaws.{and_left, and_right, how_many-none, how_many-some, none-how_many, only-one, some-how_many}
use Rattle.fsa_model.proofs.EngineLaws.{new-before, run-before}
use Rattle.fsa_model.proofs.GrantedLaws.{Granted, answered-granted, stalled-granted, taken_up-granted}
use Rattle.fsa_model.proofs.PendLaws.{OneGrantEach, lapsed}
use Rattle.fsa_model.proofs.SettleLaws.{IsNext, MaySettle-kept, Steps, Steps-taken_up}
use Rattle.fsa_model.proofs.TakenLaws.{GoesOn-begins}
use Rattle.fsa_model.proofs.TurnLaws.{stalled-kept}
use Rattle.fsa_model.proofs.WaitLaws.{Found, some_item}
use Rattle.history_laws.specs.Granting.{GrantedCallsPend, CallsHaveGrants, GrantsMatch, has_its_oplock, is_granted_by}
use Rattle.history_laws.specs.Holding.{asks_oplock}
use Rattle.history_laws.proofs.BackedBreaks.{is_asking_under}
use Rattle.history_laws.proofs.BackedTries.{MayBack, own-backed, stalled-backed, taken_up-backed}
use Rattle.history_laws.proofs.BrokenGrants.{IsTidy-fresh, IsTidy-same, own-tidy, taken_up-tidy}
use Rattle.history_laws.proofs.OwnGrants.{Pends, granted-pends, one-grant}
use Rattle.history_laws.proofs.PendingNames.{CallsNamed-fresh, CallsNamed-own, CallsNamed-stalled, CallsNamed-taken_up}
use Rattle.history_laws.proofs.TurnBlockers.{blockers-stalled}
use Rattle.history_laws.proofs.TurnByTurn.{differ-before, differ-front, goes-keep, new-call, own-takes_up, run-keeps}

-- ---- a turn

-- as the laws of an oplock's call ask it
granted : (v : Volume) → MayBack v → Granted v
granted v back = record { none = how_many-none (lapsed v) v.oplocks back.pend; numbered = back.named.numbered }

pub one : (v : Volume) → MaySettle v → MayBack v → OneGrantEach v
one v may back = one-grant v may back.pend back.tidy.none

taken_up-may_back : (own : Volume) (s : Settling) (entry : ℕ × Pending) → GoesOn own s → IsNext s.volume entry → MayBack s.volume → MayBack (taken_up s entry).volume
taken_up-may_back own s entry on next back =
    let w : Volume = (taken_up s entry).volume in
    let stepped : Steps s.volume w = Steps-taken_up s entry on.may next in
    record {
      so = record { one = stepped.may.oplocks; turns = stepped.may.turns; backed = taken_up-backed s entry on.may next back.so.backed };
      tidy = taken_up-tidy s entry on.may next back.tidy;
      pend = none-how_many (lapsed w) w.oplocks (Granted.none (taken_up-granted s entry on.may on.once on.none_held (one s.volume on.may back) next (granted s.volume back)));
      named = CallsNamed-taken_up s entry on.may next back.named;
    }

stalled-may_back : (v : Volume) → MaySettle v → IsOnce v → MayBack v → MayBack (with_stalled v)
stalled-may_back v may once back =
    let after : MaySettle (with_stalled v) = MaySettle-kept v (with_stalled v) (stalled-kept v).kept.keeps may in
    record {
      so = record { one = after.oplocks; turns = after.turns; backed = stalled-backed v back.so.backed };
      tidy = IsTidy-same (blockers-stalled v) back.tidy;
      pend = none-how_many (lapsed (with_stalled v)) (with_stalled v).oplocks (Granted.none (stalled-granted v once (granted v back)));
      named = CallsNamed-stalled v back.named;
    }

module _ (v : Volume) (call : Call) (starved : List CallId) (may : MayTurn v) (new : times call.client call.number v ≡ 0) (back : MayBack v) where
  abbrev own : Volume
  own = own_tried v call

  own-may_back : MayBack own
  own-may_back =
      let own_may : MaySettle own = (own-takes_up v call may new).may in
      record {
        so = record { one = own_may.oplocks; turns = own_may.turns; backed = own-backed v call back };
        tidy = own-tidy v call back.so.one back.tidy;
        pend = none-how_many (lapsed own) own.oplocks (Granted.none (answered-granted v call may new (one v may.take_up.may back) (granted v back)));
        named = CallsNamed-own v call back.so.one back.named;
      }

  -- after each step of the settlement
  pub goes : (steps : ℕ) → GoesOn own (settling_after v call starved steps) × MayBack (settling_after v call starved steps).volume
  goes steps = goes-keep own MayBack (taken_up-may_back own) steps (record { volume = own; starved = starved; taken = [] }) (GoesOn-begins own starved (own-takes_up v call may new)) own-may_back

  -- and at the turn's end
  settles : MayBack (settlement v call starved).volume
  settles = (let last = goes (length own.pending) in stalled-may_back (settling_after v call starved (length own.pending)).volume last.0.may last.0.once last.1)

-- between the turns of a run
pub run-may_back : (setup : Setup) (history : List HistoryEntry) (r : Run) → CallsDiffer history → run setup history ≡ Some r → MayBack r.volume
run-may_back setup history r differ runs =
    run-keeps (λ v later. MayBack v) (λ v entry later may differ turns back. settles v entry.call entry.starved may (new-call v entry later differ) back) setup history r differ
    (record {
      so = record { one = λ handle. omega arith; turns = λ turn. omega arith; backed = λ turn. omega arith };
      tidy = IsTidy-fresh setup;
      pend = refl;
      named = CallsNamed-fresh setup;
    }) runs

-- ---- such a call has its oplock

module _ (v : Volume) (back : MayBack v) where
  -- the call asks for an oplock, or answers a break, and has none
  abbrev lacks : ℕ × Pending → Bool
  lacks entry = asks_oplock entry.1 && not (has_its_oplock v entry)

  -- the oplock that is granted under the call's turn is its own
  is_its : (e : Found lacks v.pending) → Found (is_granted_under e.item.0) v.oplocks → has_its_oplock v e.item ≡ true
  is_its e o = elim (cases_Bool (asks_oplock_of v o.item.handle e.item.1.call)) [
    | inl own ↦ o.is_there (is_granted_by v e.item) (rw (its.unbroken, o.passes, own) refl)
    | inr other ↦ (
        let none = only-one (is_under e.item.0) (λ x. asks_oplock_of v o.item.handle x.1.call) v.pending (back.so.turns e.item.0) its.there in
        let there = e.is_there (λ x. is_under e.item.0 x && not (asks_oplock_of v o.item.handle x.1.call)) (rw (eq-eqb e.item.0 e.item.0 refl, other) refl) in
        let impossible : true ≡ false = sym there ∙ none in cc)
  ]
    where
      its : Pends v e.item.0 o.item
      its = granted-pends v e.item.0 (is_granted_under e.item.0) o o.passes back.pend back.tidy.none

  -- there is no such call
  lacks-none : Found lacks v.pending → ⊥
  lacks-none e =
      let asks = and_left (asks_oplock e.item.1) (not (has_its_oplock v e.item)) e.passes in
      let asking = how_many-some (is_asking_under e.item.0) v.pending (e.is_there (is_asking_under e.item.0) (rw (eq-eqb e.item.0 e.item.0 refl) asks)) in
      let its : how_many (is_asking_under e.item.0) v.pending ≤ how_many (is_granted_under e.item.0) v.oplocks = back.so.backed e.item.0 in
      let has = is_its e (some_item (is_granted_under e.item.0) v.oplocks (some-how_many (is_granted_under e.item.0) v.oplocks (omega arith))) in
      let impossible : false ≡ true = rw has at (and_right (asks_oplock e.item.1) (not (has_its_oplock v e.item)) e.passes) in cc

  -- so all have theirs
  all-hold : CallsHaveGrants v
  all-hold = false_from_ne_true (list_any lacks v.pending) (λ some. lacks-none (some_item lacks v.pending some))

  match : GrantsMatch v
  match = (back.pend, all-hold)

-- and so in each turn of a history
pub granted_calls-pend : (setup : Setup) (history : List HistoryEntry) → CallsDiffer history → GrantedCallsPend setup history
granted_calls-pend setup history differ front later entry r is runs = record {
  after = λ steps. match (settling_after r.volume entry.call entry.starved steps).volume (goes r.volume entry.call entry.starved may new back steps).1;
  settled = match (settlement r.volume entry.call entry.starved).volume (settles r.volume entry.call entry.starved may new back);
}
  where
    differ_to : CallsDiffer (front ++ entry ∷ [])
    differ_to = differ-before history front later entry is differ

    may : MayTurn r.volume
    may = (run-before setup front entry r differ_to runs).may

    new : times entry.call.client entry.call.number r.volume ≡ 0
    new = new-before setup front entry r differ_to runs

    back : MayBack r.volume
    back = run-may_back setup front r (differ-front front (entry ∷ []) differ_to) runs
