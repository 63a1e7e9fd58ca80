-- A schedule makes no call while its client waits.
use Rattle.std.proofs.Common.{◌≡◌, ◌+◌, true, not, List, ◌∷◌, ◌++◌, length, take, ap, subst, ◌∙◌, arith, Some}
use Rattle.std.specs.Prelude.{◌&&◌, slice_get}
use Rattle.std.proofs.lemmas.Bool.{not-true}
use Rattle.fsa_types.specs.declared.request.Call.{Call}
use Rattle.fsa_model.specs.History.{HistoryEntry, Run, run}
use Rattle.fsa_model.specs.Schedule.{Scheduled, all_calls, is_made, next}
use Rattle.fsa_model.specs.Setup.{Script}
use Rattle.fsa_model.specs.Waiting.{waits}
use Rattle.fsa_model.proofs.CountLaws.{and_right}
use Rattle.fsa_model.proofs.WaitLaws.{find-passes}
use Rattle.history_laws.specs.Races.{NoneMadeWaiting}
use Rattle.history_laws.proofs.CallsOfRuns.{entries-before}
use Rattle.history_laws.proofs.NextLaws.{slice_get-behind}

-- the call of an entry is next after those before it: it isn't made, and its client doesn't wait
next-passes : (script : Script) (history front back : List HistoryEntry) (entry : HistoryEntry) (r : Run) → Scheduled script history → history ≡ front ++ entry ∷ back → run script.setup front ≡ Some r
    → (not (is_made front entry.call) && not (waits r.volume entry.call.client)) ≡ true
next-passes script history front back entry r scheduled is runs =
    find-passes (λ (call : Call). not (is_made front call) && not (waits r.volume call.client)) (all_calls script) entry.call (rw runs at here)
  where
    at : slice_get history (length front) ≡ Some entry
    at = ap (λ (entries : List HistoryEntry). slice_get entries (length front)) is
        ∙ ap (slice_get (front ++ entry ∷ back)) (let e : length front ≡ length front + 0 = omega arith in e)
        ∙ slice_get-behind front (entry ∷ back) 0

    here : next script front ≡ Some entry.call
    here = subst (λ (entries : List HistoryEntry). next script entries ≡ Some entry.call)
        (ap (λ (entries : List HistoryEntry). take (length front) entries) is ∙ entries-before front (entry ∷ back)) (scheduled.in_order (length front) entry at)

pub Scheduled-free : (script : Script) (history : List HistoryEntry) → Scheduled script history → NoneMadeWaiting script history
Scheduled-free script history scheduled front later entry is r runs =
    not-true (waits r.volume entry.call.client) (and_right (not (is_made front entry.call)) (not (waits r.volume entry.call.client)) (next-passes script history front later entry r scheduled is runs))
