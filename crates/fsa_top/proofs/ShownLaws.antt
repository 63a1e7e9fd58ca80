-- The text of a history that is there already, written turn by turn.
use Rattle.std.proofs.Common.{◌≡◌, ℕ, zero, suc, ◌+◌, ◌<◌, List, [], ◌∷◌, ◌++◌, length, map, take, drop, true, false, Some, None, IsSome, refl, ap, sym, subst, ◌∙◌, append_assoc, append-nil, arith, inl, inr}
use Rattle.std.specs.Prelude.{Result, Ok, Err, OnErr, OnOk, slice_get}
use Rattle.fsa_types.specs.declared.request.Call.{Call}
use Rattle.fsa_model.specs.History.{HistoryEntry, Run, run}
use Rattle.fsa_model.specs.Outcome.{TurnOut}
use Rattle.fsa_model.specs.Setup.{Client, Script}
use Rattle.fsa_model.specs.Text.{last_line, text, turn_text, turns_text}
use Rattle.fsa_model.proofs.HistoryLaws.{run-gives}
use Rattle.fsa_model.proofs.RowLaws.{option_cases}
use Rattle.wire_io.specs.Sink.{Written, Appends, AppendsPart}
use Rattle.wire_io.proofs.SinkLaws.{AppendsPart-longer, AppendsPart-whole}
use Rattle.text_out.specs.Writes.{AddsText, Finishes, Gathers}
use Rattle.text_out.specs.declared.write.TextFault.{TextFault}
use Rattle.text_out.specs.declared.write.TextFault.TheVariants.{Failed, NoMemory}
use Rattle.text_out.proofs.GatherLaws.{Gathers-all, Gathers-append, Gathers-more, Gathers-more_part, Gathers-none}
use Rattle.fsa_top.specs.ShownTurns.{ShowsFirst, ShowsTurn}

text_of_none : (clients : List Client) (history : List HistoryEntry) → turns_text clients history [] ≡ []
text_of_none clients [] = refl
text_of_none clients (entry ∷ history) = refl

-- the first turns and the others
turns_split : (clients : List Client) (history : List HistoryEntry) (outs : List TurnOut) (turns : ℕ)
    → turns_text clients history outs ≡ turns_text clients (take turns history) (take turns outs) ++ turns_text clients (drop turns history) (drop turns outs)
turns_split clients history outs zero = refl
turns_split clients [] outs (suc turns) = refl
turns_split clients (entry ∷ history) [] (suc turns) = sym (text_of_none clients (drop turns history))
turns_split clients (entry ∷ history) (out ∷ outs) (suc turns) =
    ap (λ (rest : List ℕ). turn_text clients entry.call out ++ rest) (turns_split clients history outs turns)
    ∙ sym (append_assoc (turn_text clients entry.call out) (turns_text clients (take turns history) (take turns outs)) (turns_text clients (drop turns history) (drop turns outs)))

-- the first turns and one more
turns_next : (clients : List Client) (history : List HistoryEntry) (outs : List TurnOut) (turn : ℕ) (call : Call) (out : TurnOut)
    → slice_get (map (λ (entry : HistoryEntry). entry.call) history) turn ≡ Some call → slice_get outs turn ≡ Some out
    → turns_text clients (take (suc turn) history) (take (suc turn) outs) ≡ turns_text clients (take turn history) (take turn outs) ++ turn_text clients call out
turns_next clients [] outs turn call out at gave = (let impossible : None ≡ Some call = at in cc)
turns_next clients (entry ∷ history) [] turn call out at gave = (let impossible : None ≡ Some out = gave in cc)
turns_next clients (entry ∷ history) (first ∷ outs) zero call out at gave =
    let same : entry.call ≡ call = (let f : Some entry.call ≡ Some call = at in cc) in
    let given : first ≡ out = (let f : Some first ≡ Some out = gave in cc) in
    append-nil (turn_text clients entry.call first) ∙ (λ i. turn_text clients (same i) (given i))
turns_next clients (entry ∷ history) (first ∷ outs) (suc turn) call out at gave =
    ap (λ (rest : List ℕ). turn_text clients entry.call first ++ rest) (turns_next clients history outs turn call out at gave)
    ∙ sym (append_assoc (turn_text clients entry.call first) (turns_text clients (take turn history) (take turn outs)) (turn_text clients call out))

pub first-begun : (script : Script) (history : List HistoryEntry) (written : Written) (gathered : List ℕ) → gathered ≡ [] → ShowsFirst script history 0 written written gathered
first-begun script history written gathered none r runs = subst (λ (h : List ℕ). Gathers written written [] h []) (sym none) (Gathers-none written [])

pub first-turn : (script : Script) (history : List HistoryEntry) (turn : ℕ) (first mid now : Written) (gathered gathered_now : List ℕ) → ShowsFirst script history turn first mid gathered → ShowsTurn script history turn (Gathers mid now gathered gathered_now)
    → ShowsFirst script history (turn + 1) first now gathered_now
first-turn script history turn first mid now gathered gathered_now before next r runs =
    subst (λ (n : ℕ). Gathers first now [] gathered_now (turns_text script.setup.clients (take n history) (take n r.outs))) (let same : suc turn ≡ turn + 1 = omega arith in same)
    (subst (Gathers first now [] gathered_now) (sym (turns_next script.setup.clients history r.outs turn next.0 next.1 next.2 (next.3 r runs)))
    (Gathers-append first mid now [] gathered gathered_now _ _ (before r runs) next.4))

-- a run that is there
some_run : (script : Script) (history : List HistoryEntry) → IsSome (run script.setup history) → (r : Run) × (run script.setup history ≡ Some r)
some_run script history some = elim (option_cases (run script.setup history)) [
  | inr found ↦ found
  | inl none ↦ (let impossible : false ≡ true = rw none at some in cc)
]

text_is : (script : Script) (history : List HistoryEntry) (r : Run) → run script.setup history ≡ Some r → text script history ≡ turns_text script.setup.clients history r.outs ++ last_line (length history)
text_is script history r runs = rw runs refl

-- a part of the lines of one turn, behind those before it
lines-part : (first mid now : Written) (gathered gathered_now front lines : List ℕ) (fault : TextFault) → 0 < length lines → Gathers first mid [] gathered front → AddsText mid now gathered gathered_now lines (Err fault) → AppendsPart first now (front ++ lines)
lines-part first mid now gathered gathered_now front lines Failed some before part = Gathers-more_part first mid now [] gathered front lines before part.0
lines-part first mid now gathered gathered_now front lines NoMemory some before put = AppendsPart-whole first now front lines some (Gathers-all first mid now [] gathered front before put.0)

pub first-part : (script : Script) (history : List HistoryEntry) (turn : ℕ) (first mid now : Written) (gathered gathered_now : List ℕ) (fault : TextFault) → IsSome (run script.setup history) → ShowsFirst script history turn first mid gathered
    → ShowsTurn script history turn (λ lines. AddsText mid now gathered gathered_now lines (Err fault)) → AppendsPart first now (text script history)
first-part script history turn first mid now gathered gathered_now fault some before next =
    let r = some_run script history some in
    let clients : List Client = script.setup.clients in
    let rest : List ℕ = turns_text clients (drop (suc turn) history) (drop (suc turn) r.0.outs) in
    let front : List ℕ = turns_text clients (take turn history) (take turn r.0.outs) in
    let here : AppendsPart first now (front ++ turn_text clients next.0 next.1) = lines-part first mid now gathered gathered_now front (turn_text clients next.0 next.1) fault (omega arith) (before r.0 r.1) next.4 in
    let longer : AppendsPart first now ((front ++ turn_text clients next.0 next.1) ++ (rest ++ last_line (length history))) = AppendsPart-longer first now (front ++ turn_text clients next.0 next.1) (rest ++ last_line (length history)) here in
    let whole : text script history ≡ (front ++ turn_text clients next.0 next.1) ++ (rest ++ last_line (length history))
    = text_is script history r.0 r.1 ∙ (ap (λ (lines : List ℕ). lines ++ last_line (length history)) (turns_split clients history r.0.outs (suc turn)
    ∙ ap (λ (lines : List ℕ). lines ++ rest) (turns_next clients history r.0.outs turn next.0 next.1 next.2 (next.3 r.0 r.1)))
    ∙ append_assoc (front ++ turn_text clients next.0 next.1) rest (last_line (length history))) in
    subst (AppendsPart first now) (sym whole) longer

take_all : {X : Type 0} (xs : List X) (n : ℕ) → length xs ≡ n → take n xs ≡ xs
take_all [] zero long = refl
take_all [] (suc n) long = refl
take_all (x ∷ xs) zero long = absurd (omega arith)
take_all (x ∷ xs) (suc n) long = ap (λ (rest : List _). x ∷ rest) (take_all xs n (omega arith))

-- the lines of all turns
all_turns : (script : Script) (history : List HistoryEntry) (first mid : Written) (gathered : List ℕ) (r : Run) → run script.setup history ≡ Some r → ShowsFirst script history (length history) first mid gathered
    → Gathers first mid [] gathered (turns_text script.setup.clients history r.outs)
all_turns script history first mid gathered r runs shows =
    subst (Gathers first mid [] gathered) (λ i. turns_text script.setup.clients (take_all history (length history) refl i) (take_all r.outs (length history) (run-gives script.setup history r runs) i)) (shows r runs)

first-whole : (script : Script) (history : List HistoryEntry) (first mid now : Written) (gathered : List ℕ) → IsSome (run script.setup history) → ShowsFirst script history (length history) first mid gathered → Appends mid now (gathered ++ last_line (length history))
    → Appends first now (text script history)
first-whole script history first mid now gathered some shows last =
    let r = some_run script history some in
    subst (Appends first now) (sym (text_is script history r.0 r.1)) (Gathers-more first mid now [] gathered _ _ (all_turns script history first mid gathered r.0 r.1 shows) last)

first-last_part : (script : Script) (history : List HistoryEntry) (first mid now : Written) (gathered gathered_now : List ℕ) (fault : TextFault) → IsSome (run script.setup history) → ShowsFirst script history (length history) first mid gathered
    → Finishes mid now gathered gathered_now (last_line (length history)) (Err fault) → AppendsPart first now (text script history)
first-last_part script history first mid now gathered gathered_now fault some shows last =
    let r = some_run script history some in
    subst (AppendsPart first now) (sym (text_is script history r.0 r.1)) (of (turns_text script.setup.clients history r.0.outs) fault (all_turns script history first mid gathered r.0 r.1 shows) last)
  where
    of : (lines : List ℕ) (fault : TextFault) → Gathers first mid [] gathered lines → Finishes mid now gathered gathered_now (last_line (length history)) (Err fault) → AppendsPart first now (lines ++ last_line (length history))
    of lines Failed before part = Gathers-more_part first mid now [] gathered lines _ before part.0
    of lines NoMemory before put = AppendsPart-whole first now lines (last_line (length history)) (omega arith) (Gathers-all first mid now [] gathered lines before put.0)

pub first-finished : (script : Script) (history : List HistoryEntry) (first mid now : Written) (gathered gathered_now : List ℕ) (result : Result (Unit {0}) TextFault) → IsSome (run script.setup history) → ShowsFirst script history (length history) first mid gathered
    → Finishes mid now gathered gathered_now (last_line (length history)) result → OnOk result (Appends first now (text script history)) × OnErr result (AppendsPart first now (text script history))
first-finished script history first mid now gathered gathered_now (Ok done) some shows last = (first-whole script history first mid now gathered some shows last.0, tt)
first-finished script history first mid now gathered gathered_now (Err fault) some shows last = (tt, first-last_part script history first mid now gathered gathered_now fault some shows last)
