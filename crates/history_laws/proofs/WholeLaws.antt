-- Each schedule goes on to one that has all calls of the script: a turn in which nobody starves is always there.
use Rattle.std.proofs.Common.{◌≡◌, ℕ, ◌+◌, ◌<◌, ◌≤◌, zero, suc, List, [], ◌∷◌, ◌++◌, length, Bool, true, false, not, Option, Some, None, refl, ap, sym, subst, ◌∙◌, append_assoc, append-nil, arith, inl, inr}
use Rattle.std.specs.Prelude.{◌==◌, ◌&&◌, ◌||◌, slice_get, IsSome, option_map, if◌then◌else◌}
use Rattle.std.specs.List.{list_any, list_all}
use Rattle.std.proofs.lemmas.Bool.{cases_Bool}
use Rattle.fsa_types.specs.declared.request.Call.{Call}
use Rattle.fsa_types.specs.declared.request.CallId.{CallId}
use Rattle.fsa_types.specs.declared.request.Request.TheVariants.{Notify}
use Rattle.fsa_types.specs.declared.request.What.{What}
use Rattle.fsa_types.specs.declared.request.What.TheVariants.{Ask}
use Rattle.fsa_model.specs.History.{HistoryEntry, Run, run, with_turn}
use Rattle.fsa_model.specs.Lookups.{handle_of}
use Rattle.fsa_model.specs.Once.{how_many}
use Rattle.fsa_model.specs.Schedule.{HasAllCalls, Scheduled, all_calls, is_made, is_same_call, next_in, plain_entry}
use Rattle.fsa_model.specs.Settle.{Settling, come_over, repeated, settle_step, settled, taken_up}
use Rattle.fsa_model.specs.Setup.{Script}
use Rattle.fsa_model.specs.Text.{shown_turns, turn_text}
use Rattle.fsa_model.specs.Outcome.{Outcome}
use Rattle.fsa_model.specs.Turn.{Turned, answered, try, turn, turn_number, turned}
use Rattle.fsa_model.specs.Volume.{Pending, Volume}
use Rattle.fsa_model.specs.Waiting.{is_held, next_ready, waits}
use Rattle.fsa_model.proofs.CountLaws.{and_left, how_many-split, how_many-weaker, how_many-some}
use Rattle.fsa_model.proofs.HistoryLaws.{run-push, shown_turns-push}
use Rattle.fsa_model.proofs.RowLaws.{option_cases, or_right}
use Rattle.fsa_model.proofs.ScheduleLaws.{Scheduled-push}
use Rattle.fsa_model.proofs.ScriptLaws.{all_calls-numbered}
use Rattle.fsa_model.proofs.WaitLaws.{find-passes}
use Rattle.history_laws.specs.Named.{IsReadScript}
use Rattle.history_laws.specs.GoesOn.{GoesOnTo, how_many_left}
use Rattle.history_laws.proofs.NextLaws.{none_next-all, found_at}
use Rattle.history_laws.proofs.PlaceLaws.{is_made-push, is_same-self}

-- ---- a turn in which nobody starves

come_none : (s : Settling) (pending : Pending) (what : What) → s.starved ≡ [] → (come_over s pending what).starved ≡ []
come_none s pending (Ask (Notify handle filter tree room)) none = elim (option_cases (handle_of s.volume pending.call.client handle)) [
  | inl gone ↦ rw gone none
  | inr some ↦ rw (some.1, none) refl
]
come_none s pending _ none = none

taken_up_none : (s : Settling) (entry : ℕ × Pending) → s.starved ≡ [] → (taken_up s entry).starved ≡ []
taken_up_none s entry none = elim (cases_Bool (is_held entry.1)) [
  | inl held ↦ rw (held, none) refl
  | inr comes ↦ rw comes (come_none s entry.1 entry.1.call.what none)
]

repeated_none : (most : ℕ) (s : Settling) → s.starved ≡ [] → (repeated settle_step most s).starved ≡ []
repeated_none zero s none = none
repeated_none (suc most) s none = elim (option_cases (next_ready s.volume)) [
  | inl done ↦ rw done none
  | inr some ↦ rw some.1 (repeated_none most (taken_up s some.0) (taken_up_none s some.0 none))
]

pub turn-plain : (v : Volume) (call : Call) → (t : Turned) × (turn v call [] ≡ Some t)
turn-plain v call =
    let outcome : Outcome = try v call (turn_number v) in
    let own : Volume = answered call (turn_number v) outcome in
    let none : (settled own []).starved ≡ [] = repeated_none (length own.pending) (record { volume = own; starved = []; taken = [] }) refl in (
      turned v outcome own [] (settled own []).volume,
      ap (λ (starved : List CallId). option_map (turned v outcome own []) (if length starved == 0 then Some (settled own []).volume else None)) none,
    )

-- ---- one more turn

-- the calls that weren't made become fewer
pub left_falls : (script : Script) (history : List HistoryEntry) (entry : HistoryEntry) (v : Volume) → next_in (all_calls script) history v ≡ Some entry.call
    → how_many_left script (history ++ entry ∷ []) < how_many_left script history
left_falls script history entry v is =
    let passes = find-passes (λ (c : Call). not (is_made history c) && not (waits v c.client)) (all_calls script) entry.call is in
    let unmade : not (is_made history entry.call) ≡ true = and_left (not (is_made history entry.call)) (not (waits v entry.call.client)) passes in
    let place = found_at (λ (c : Call). not (is_made history c) && not (waits v c.client)) (all_calls script) entry.call is in
    let here : list_any (λ (c : Call). not (is_made history c) && is_same_call entry.call c) (all_calls script) ≡ true
    = any_at (λ (c : Call). not (is_made history c) && is_same_call entry.call c) (all_calls script) place.0 entry.call place.1 (rw (unmade, is_same-self entry.call) refl) in
    let one = how_many-some (λ (c : Call). not (is_made history c) && is_same_call entry.call c) (all_calls script) here in
    let split = how_many-split (λ (c : Call). not (is_made history c)) (is_same_call entry.call) (all_calls script) in
    let fewer = how_many-weaker (λ (c : Call). not (is_made (history ++ entry ∷ []) c)) (λ c. not (is_made history c) && not (is_same_call entry.call c)) (all_calls script)
    (λ c later. both (is_made history c) (is_same_call entry.call c) (ap not (sym (is_made-push history entry c)) ∙ later)) in
    omega arith
  where
    any_at : (test : Call → Bool) (calls : List Call) (place : ℕ) (call : Call) → slice_get calls place ≡ Some call → test call ≡ true → list_any test calls ≡ true
    any_at test [] place call at passes = absurd (cc)
    any_at test (first ∷ calls) zero call at passes = (let same : first ≡ call = cc in rw (ap test same ∙ passes) refl)
    any_at test (first ∷ calls) (suc place) call at passes = or_right (test first) (list_any test calls) (any_at test calls place call at passes)

    both : (b c : Bool) → not (b || c) ≡ true → (not b && not c) ≡ true
    both true c is = is
    both false c is = is

none_left : (test : Call → Bool) (calls : List Call) → how_many (λ call. not (test call)) calls ≡ 0 → list_all test calls ≡ true
none_left test [] none = refl
none_left test (call ∷ calls) none = elim (cases_Bool (test call)) [
  | inl is ↦ (let rest : 0 + how_many (λ c. not (test c)) calls ≡ 0 = rw is at none in rw is (none_left test calls (omega arith)))
  | inr isnt ↦ (let some : 1 + how_many (λ c. not (test c)) calls ≡ 0 = rw isnt at none in absurd (omega arith))
]

-- ---- on to the end

ends : (script : Script) (history : List HistoryEntry) → Scheduled script history → HasAllCalls script history → GoesOnTo script history history
ends script history scheduled all = record {
  scheduled = scheduled;
  all = all;
  begins = ([], sym (append-nil history));
  shows = ([], sym (append-nil (shown_turns script history)));
}

goes_on : (most : ℕ) (script : Script) (history : List HistoryEntry) (r : Run) → IsReadScript script → Scheduled script history → run script.setup history ≡ Some r → how_many_left script history ≤ most
    → (whole : List HistoryEntry) × GoesOnTo script history whole
goes_on zero script history r is_read scheduled runs few = (history, ends script history scheduled (none_left (is_made history) (all_calls script) (omega arith)))
goes_on (suc most) script history r is_read scheduled runs few = elim (option_cases (next_in (all_calls script) history r.volume)) [
  | inl none ↦ (history, ends script history scheduled (none_next-all script history r (all_calls-numbered script is_read.numbered) is_read.fit scheduled runs none))
  | inr some ↦ (let turns = turn-plain r.volume some.0 in
      let after : List HistoryEntry = history ++ plain_entry some.0 ∷ [] in
      let falls = left_falls script history (plain_entry some.0) r.volume some.1 in
      let rest = goes_on most script after (with_turn r turns.0) is_read (Scheduled-push script history (plain_entry some.0) r turns.0 scheduled runs some.1 turns.1)
      (run-push script.setup history (plain_entry some.0) r turns.0 runs turns.1) (omega arith) in
      let lines = turn_text script.setup.clients some.0 turns.0.out in (
        rest.0,
        record {
          scheduled = rest.1.scheduled;
          all = rest.1.all;
          begins = (plain_entry some.0 ∷ rest.1.begins.0, rest.1.begins.1 ∙ append_assoc history (plain_entry some.0 ∷ []) rest.1.begins.0);
          shows = (
            lines ++ rest.1.shows.0,
            rest.1.shows.1 ∙ ap (λ (front : List ℕ). front ++ rest.1.shows.0) (shown_turns-push script history (plain_entry some.0) r turns.0 runs turns.1)
                ∙ append_assoc (shown_turns script history) lines rest.1.shows.0,
          );
        },
      ))
]

pub some_run : (script : Script) (history : List HistoryEntry) → Scheduled script history → (r : Run) × (run script.setup history ≡ Some r)
some_run script history scheduled = elim (option_cases (run script.setup history)) [
  | inl none ↦ absurd (let never : IsSome {T = Run} None = subst (λ (o : Option Run). IsSome o) none scheduled.runs in cc)
  | inr some ↦ some
]

-- each schedule goes on to one that has all calls
pub Scheduled-goes_on : (script : Script) (history : List HistoryEntry) → IsReadScript script → Scheduled script history → (whole : List HistoryEntry) × GoesOnTo script history whole
Scheduled-goes_on script history is_read scheduled =
    let r = some_run script history scheduled in
    goes_on (how_many_left script history) script history r.0 is_read scheduled r.1 (omega arith)
