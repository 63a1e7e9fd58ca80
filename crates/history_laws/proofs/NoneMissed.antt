-- After each turn of a run nothing has come that a pending wait or Notify waits for.
use Rattle.std.proofs.Common.{◌≡◌, ℕ, true, false, List, refl, subst, arith, inl, inr, ◌⊎◌, None}
use Rattle.std.specs.Prelude.{◌||◌}
use Rattle.std.proofs.lemmas.Bool.{cases_Bool, or_cases}
use Rattle.fsa_types.specs.declared.request.Request.TheVariants.{Notify}
use Rattle.fsa_types.specs.declared.request.What.{What}
use Rattle.fsa_types.specs.declared.request.What.TheVariants.{Ask, WaitFor}
use Rattle.fsa_model.specs.Engine.{CallsDiffer}
use Rattle.fsa_model.specs.History.{HistoryEntry}
use Rattle.fsa_model.specs.Settling.{MaySettle, is_held_wrongly, may_be_held}
use Rattle.fsa_model.specs.Setup.{Setup}
use Rattle.fsa_model.specs.Volume.{Pending, Volume, fresh}
use Rattle.fsa_model.specs.Waiting.{has_come, is_held, is_ready, next_ready}
use Rattle.fsa_model.proofs.CountLaws.{how_many-either, none-how_many}
use Rattle.fsa_model.proofs.OnceHistory.{Runs, run-runs}
use Rattle.fsa_model.proofs.RowLaws.{or_right}
use Rattle.fsa_model.proofs.SettleLaws.{is_unreported, lacks_report, none-ready, none-unreported}
use Rattle.history_laws.specs.Awaited.{NothingHasCome, NothingIsMissed, has_come_to}
use Rattle.history_laws.proofs.TurnByTurn.{differ-front}

-- a wait to which its end has come is over; a Notify lacks its report
come-cases : (v : Volume) (client number : ℕ) (what : What) → has_come_to v client what ≡ true → ((has_come v client number what ≡ true) × (may_be_held what ≡ false)) ⊎ (lacks_report v client what ≡ true)
come-cases v client number (WaitFor earlier) come = inl (come, refl)
come-cases v client number (Ask (Notify handle filter tree room)) come = inr come
come-cases v client number _ come = cc

-- so the call is ready, or held wrongly, or a Notify that lacks its report
come-ready : (v : Volume) (entry : ℕ × Pending) → has_come_to v entry.1.call.client entry.1.call.what ≡ true → ((is_ready v entry.1 || is_held_wrongly entry) ≡ true) ⊎ (is_unreported v entry ≡ true)
come-ready v entry come = elim (come-cases v entry.1.call.client entry.1.call.number entry.1.call.what come) [
  | inr lacks ↦ inr lacks
  | inl over ↦ elim (cases_Bool (is_held entry.1)) [
    | inl held ↦ inl (or_right (is_ready v entry.1) (is_held_wrongly entry) (rw (held, over.1) refl))
    | inr waits ↦ inl (rw (waits, over.0) refl)
  ]
]

-- where nothing is ready, nothing has come
none-come : (v : Volume) → MaySettle v → next_ready v ≡ None → NothingHasCome v
none-come v may done =
    let none = none-ready v done in
    let no_wrong = may.held in
    let no_report = none-unreported v may done in
    let first = how_many-either (λ e. is_ready v e.1) is_held_wrongly (λ e. is_ready v e.1 || is_held_wrongly e) v.pending (λ e one. or_cases (is_ready v e.1) (is_held_wrongly e) one) in
    let all = how_many-either (λ e. is_ready v e.1 || is_held_wrongly e) (is_unreported v) (λ e. has_come_to v e.1.call.client e.1.call.what) v.pending (λ e come. come-ready v e come) in
    none-how_many (λ e. has_come_to v e.1.call.client e.1.call.what) v.pending (omega arith)

pub nothing-missed : (setup : Setup) (history : List HistoryEntry) → CallsDiffer history → NothingIsMissed setup history
nothing-missed setup history differ front later r is runs =
    let made : Runs (fresh setup) front r.volume = run-runs setup front r (differ-front front later (subst CallsDiffer is differ)) runs in
    none-come r.volume made.may.take_up.may made.done
