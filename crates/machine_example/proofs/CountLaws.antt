-- Counting a client's calls from some turn on.
use Rattle.std.proofs.Common.{◌≡◌, ℕ, true, zero, suc, ◌+◌, List, [], ◌∷◌, ◌++◌, drop, cond, Some, ap, subst, ◌∙◌, arith, eq-eqb}
use Rattle.std.specs.Prelude.{◌==◌, slice_get}
use Rattle.std.proofs.lemmas.List.{map-append}
use Rattle.fsa_types.specs.declared.request.Call.{Call}
use Rattle.fsa_model.specs.History.{HistoryEntry}
use Rattle.fsa_model.specs.Schedule.{calls_of}
use Rattle.fsa_model.proofs.ScheduleLaws.{calls_of-push}
use Rattle.fsa_machine.specs.MachineView.{calls_of_entries}
use Rattle.fsa_model.proofs.SettleLaws.{some_equal}

-- the call at this place, and those behind it
calls_of-drop : (client : ℕ) (calls : List Call) (i : ℕ) (call : Call) → slice_get calls i ≡ Some call
    → calls_of client (drop i calls) ≡ cond (call.client == client) 1 0 + calls_of client (drop (suc i) calls)
calls_of-drop client [] zero call at = absurd (cc)
calls_of-drop client [] (suc i) call at = absurd (cc)
calls_of-drop client (first ∷ more) zero call at = ap (λ (one : Call). cond (one.client == client) 1 0 + calls_of client more) (some_equal first call at)
calls_of-drop client (first ∷ more) (suc i) call at = calls_of-drop client more i call at

-- one more is counted
pub counts-on : (client : ℕ) (calls : List Call) (i count counted : ℕ) (call : Call) → slice_get calls i ≡ Some call → counted ≡ count + cond (call.client == client) 1 0
    → count + calls_of client (drop i calls) ≡ calls_of client calls → counted + calls_of client (drop (i + 1) calls) ≡ calls_of client calls
counts-on client calls i count counted call at is counts =
    let step : calls_of client (drop i calls) ≡ cond (call.client == client) 1 0 + calls_of client (drop (suc i) calls) = calls_of-drop client calls i call at in
    let next : suc i ≡ i + 1 = omega arith in
    subst (λ (n : ℕ). counted + calls_of client (drop n calls) ≡ calls_of client calls) next (omega (arith, is, step, counts))

-- a turn more of the client is a call more
pub one_more : (client made : ℕ) (entries later : List HistoryEntry) (entry : HistoryEntry) → later ≡ entries ++ entry ∷ [] → entry.call.client ≡ client
    → calls_of client (calls_of_entries entries) ≡ made → calls_of client (calls_of_entries later) ≡ made + 1
one_more client made entries later entry is own before =
    ap (λ (all : List HistoryEntry). calls_of client (calls_of_entries all)) is
    ∙ ap (calls_of client) (map-append (λ (e : HistoryEntry). e.call) entries (entry ∷ []))
    ∙ calls_of-push client (calls_of_entries entries) entry.call
    ∙ (let same : (entry.call.client == client) ≡ true = eq-eqb entry.call.client client own in rw same (omega (arith, before)))
