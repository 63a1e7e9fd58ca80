-- What holds a call: each try that is held names blockers that live, and after a turn each held call has one.
use Rattle.std.proofs.Common.{◌≡◌, ℕ, true, not, List, [], ◌∷◌, ◌++◌, refl, subst, arith, None, Some}
use Rattle.std.specs.Prelude.{◌&&◌}
use Rattle.fsa_types.specs.declared.request.Call.{Call}
use Rattle.fsa_types.specs.declared.request.CallId.{CallId}
use Rattle.fsa_model.specs.Engine.{CallsDiffer, HeldAreBlocked, HoldsByLiving}
use Rattle.fsa_model.specs.History.{HistoryEntry, Run, run}
use Rattle.fsa_model.specs.Once.{times}
use Rattle.fsa_model.specs.Outcome.{Outcome, Hold}
use Rattle.fsa_model.specs.Reports.{settling_after}
use Rattle.fsa_model.specs.Setup.{Setup}
use Rattle.fsa_model.specs.Turn.{answered, try, turn_number}
use Rattle.fsa_model.specs.Volume.{Pending, Volume}
use Rattle.fsa_model.specs.Waiting.{blocker_lives, is_blocked, is_held, is_ready, next_ready}
use Rattle.fsa_model.proofs.CountLaws.{and_left, and_right, how_many-weaker, none-how_many}
use Rattle.fsa_model.proofs.EngineLaws.{new-before, run-before}
use Rattle.fsa_model.proofs.OnceHistory.{Runs, run-runs}
use Rattle.fsa_model.proofs.ReportLaws.{repeated-keeps}
use Rattle.fsa_model.proofs.SettleLaws.{MaySettle, none-ready}
use Rattle.fsa_model.proofs.TurnLaws.{MayTurn, TriedTo, Adds-answered, try-keeps}
use Rattle.fsa_model.proofs.WaitLaws.{HasOneOplockEach}

holds-living : (v : Volume) → HasOneOplockEach v → HoldsByLiving v
holds-living v one call turn w blockers interim is =
    let tried : TriedTo v turn call.what (Hold w blockers interim) = subst (λ (outcome : Outcome). TriedTo v turn call.what outcome) is (try-keeps v call turn one) in tried.1.1.0

-- whatever call comes next
pub run-holds : (setup : Setup) (history : List HistoryEntry) (r : Run) → CallsDiffer history → run setup history ≡ Some r → HoldsByLiving r.volume
run-holds setup history r differ is = holds-living r.volume (MaySettle.oplocks (MayTurn.take_up (Runs.may (run-runs setup history r differ is))).may)

settling-holds : (v : Volume) (call : Call) (starved : List CallId) (steps : ℕ) → MayTurn v → times call.client call.number v ≡ 0 → HoldsByLiving (settling_after v call starved steps).volume
settling-holds v call starved steps may none =
    let adds = Adds-answered v call (try v call (turn_number v)) may none (try-keeps v call (turn_number v) may.take_up.may.oplocks) in
    let kept : MaySettle (settling_after v call starved steps).volume = repeated-keeps steps (record { volume = answered call (turn_number v) (try v call (turn_number v)); starved = starved; taken = [] }) adds.may.take_up.may in
    holds-living (settling_after v call starved steps).volume kept.oplocks

-- and whatever is taken up
pub run-settling_holds : (setup : Setup) (history : List HistoryEntry) (entry : HistoryEntry) (r : Run) (steps : ℕ) → CallsDiffer (history ++ entry ∷ []) → run setup history ≡ Some r
    → HoldsByLiving (settling_after r.volume entry.call entry.starved steps).volume
run-settling_holds setup history entry r steps differ is =
    settling-holds r.volume entry.call entry.starved steps (Runs.may (run-before setup history entry r differ is)) (new-before setup history entry r differ is)

blocked-done : (v : Volume) → next_ready v ≡ None → HeldAreBlocked v
blocked-done v done =
    let none = none-ready v done in
    let weaker = how_many-weaker (λ e. is_held e.1 && not (is_blocked (blocker_lives v) e.1)) (λ e. is_ready v e.1) v.pending (λ e both. ready e both) in
    none-how_many (λ e. is_held e.1 && not (is_blocked (blocker_lives v) e.1)) v.pending (omega arith)
  where
    ready : (e : ℕ × Pending) → (is_held e.1 && not (is_blocked (blocker_lives v) e.1)) ≡ true → is_ready v e.1 ≡ true
    ready e both =
        let held : is_held e.1 ≡ true = and_left (is_held e.1) (not (is_blocked (blocker_lives v) e.1)) both in
        let free : not (is_blocked (blocker_lives v) e.1) ≡ true = and_right (is_held e.1) (not (is_blocked (blocker_lives v) e.1)) both in rw (held, free) refl

pub run-blocked : (setup : Setup) (history : List HistoryEntry) (r : Run) → CallsDiffer history → run setup history ≡ Some r → HeldAreBlocked r.volume
run-blocked setup history r differ is = blocked-done r.volume (Runs.done (run-runs setup history r differ is))
