-- Laws of histories: one more turn at the end.
use Rattle.std.proofs.Common.{◌≡◌, ℕ, ◌+◌, suc, List, [], ◌∷◌, ◌++◌, length, Option, Some, None, refl, ap, sym, ◌∙◌, append_assoc, append-nil, arith, length-append}
use Rattle.std.specs.Prelude.{option_and_then, option_map}
use Rattle.std.specs.Option.{option_map_or}
use Rattle.fsa_model.specs.Setup.{Client, Setup, Script}
use Rattle.fsa_model.specs.Outcome.{TurnOut}
use Rattle.fsa_model.specs.Turn.{Turned, turn}
use Rattle.fsa_model.specs.History.{HistoryEntry, Run, with_turn, turn_on, steps, begun, run}
use Rattle.fsa_model.specs.Text.{turn_text, turns_text, shown_turns}

-- the steps of some items and then of one more
pub steps-push : {S E : Type 0} (step : S → E → Option S) (s : S) (items : List E) (item : E) → steps step s (items ++ item ∷ []) ≡ option_and_then (λ after. step after item) (steps step s items)
steps-push step s [] item = elim (step s item) as (λ o. option_and_then (λ after. Some after) o ≡ o) [ None ↦ refl | Some after ↦ refl ]
steps-push {S} {E} step s (first ∷ more) item =
    elim (step s first) as (λ o. option_and_then (λ after. steps step after (more ++ item ∷ [])) o ≡ option_and_then (λ after. step after item) (option_and_then (λ after. steps step after more) o)) [
      | None ↦ refl
      | Some after ↦ steps-push step after more item
    ]

-- a number that each step raises by one has risen by the number of items
pub steps-count : {S E : Type 0} (step : S → E → Option S) (count : S → ℕ) (s : S) (items : List E) (after : S)
    → ((one : S) (item : E) (two : S) → step one item ≡ Some two → count two ≡ count one + 1)
    → steps step s items ≡ Some after → count after ≡ count s + length items
steps-count step count s [] after rises e = let same : s ≡ after = cc in let counts : count s ≡ count after = ap count same in omega arith
steps-count {S} {E} step count s (first ∷ more) after rises e =
    elim (step s first) as (λ o. step s first ≡ o → option_and_then (λ one. steps step one more) o ≡ Some after → count after ≡ count s + suc (length more)) [
      | None ↦ λ is left. cc
      | Some one ↦ λ is left. let rest : count after ≡ count one + length more = steps-count step count one more after rises left in let here : count one ≡ count s + 1 = rises s first one is in omega arith
    ]
    refl e

-- a turn gives out one thing
pub turn_on-gives : (before : Run) (entry : HistoryEntry) (after : Run) → turn_on before entry ≡ Some after → length after.outs ≡ length before.outs + 1
turn_on-gives before entry after e =
    elim (turn before.volume entry.call entry.starved) as (λ o. option_map (with_turn before) o ≡ Some after → length after.outs ≡ length before.outs + 1) [
      | None ↦ λ is. cc
      | Some turned ↦ λ is. let same : with_turn before turned ≡ after = cc in let outs : length (with_turn before turned).outs ≡ length after.outs = ap (λ (r : Run). length r.outs) same in let long : length (before.outs ++ turned.out ∷ []) ≡ length before.outs + 1 = length-append before.outs (turned.out ∷ []) in omega arith
    ]
    e

-- as many things are given out as there are turns
pub run-gives : (setup : Setup) (history : List HistoryEntry) (after : Run) → run setup history ≡ Some after → length after.outs ≡ length history
run-gives setup history after e = let count : length after.outs ≡ 0 + length history = steps-count turn_on (λ (r : Run). length r.outs) (begun setup) history after turn_on-gives e in omega arith

-- the run of a history and one turn more
pub run-push : (setup : Setup) (history : List HistoryEntry) (entry : HistoryEntry) (before : Run) (turned : Turned) → run setup history ≡ Some before
    → turn before.volume entry.call entry.starved ≡ Some turned → run setup (history ++ entry ∷ []) ≡ Some (with_turn before turned)
run-push setup history entry before turned runs turns =
    steps-push turn_on (begun setup) history entry ∙ ap (option_and_then (λ after. turn_on after entry)) runs ∙ ap (option_map (with_turn before)) turns

-- the text of turns and one turn more
pub turns_text-push : (clients : List Client) (history : List HistoryEntry) (outs : List TurnOut) (entry : HistoryEntry) (out : TurnOut) → length outs ≡ length history
    → turns_text clients (history ++ entry ∷ []) (outs ++ out ∷ []) ≡ turns_text clients history outs ++ turn_text clients entry.call out
turns_text-push clients [] [] entry out same = append-nil (turn_text clients entry.call out)
turns_text-push clients [] (first ∷ outs) entry out same = absurd (omega arith)
turns_text-push clients (one ∷ history) [] entry out same = absurd (omega arith)
turns_text-push clients (one ∷ history) (first ∷ outs) entry out same =
    ap (λ rest. turn_text clients one.call first ++ rest) (turns_text-push clients history outs entry out (omega arith))
    ∙ sym (append_assoc (turn_text clients one.call first) (turns_text clients history outs) (turn_text clients entry.call out))

-- the text shown after one turn more
pub shown_turns-push : (script : Script) (history : List HistoryEntry) (entry : HistoryEntry) (before : Run) (turned : Turned) → run script.setup history ≡ Some before
    → turn before.volume entry.call entry.starved ≡ Some turned → shown_turns script (history ++ entry ∷ []) ≡ shown_turns script history ++ turn_text script.setup.clients entry.call turned.out
shown_turns-push script history entry before turned runs turns =
    ap (λ o. option_map_or (λ (r : Run). turns_text script.setup.clients (history ++ entry ∷ []) r.outs) o []) (run-push script.setup history entry before turned runs turns)
    ∙ turns_text-push script.setup.clients history before.outs entry turned.out (run-gives script.setup history before runs)
    ∙ ap (λ o. option_map_or (λ (r : Run). turns_text script.setup.clients history r.outs) o [] ++ turn_text script.setup.clients entry.call turned.out) (sym runs)
