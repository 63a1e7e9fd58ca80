-- Two scheduled histories with one text are one.
use Rattle.std.proofs.Common.{true, false, ◌≡◌, ℕ, List, [], ◌∷◌, ◌++◌, length, append_assoc, append-nil, length-append, refl, ap, sym, subst, ◌∙◌, inl, inr, arith, Option, Some, None}
use Rattle.std.specs.Prelude.{codes, IsSome}
use Rattle.std.proofs.lemmas.List.{append_cancel_left}
use Rattle.std.specs.Option.{option_map_or}
use Rattle.fsa_types.specs.declared.reply.Answer.{Answer}
use Rattle.fsa_types.specs.declared.request.Call.{Call}
use Rattle.fsa_types.specs.declared.request.CallId.{CallId}
use Rattle.fsa_model.specs.History.{HistoryEntry, Run, begun, run, steps, turn_on, with_turn}
use Rattle.fsa_model.specs.Outcome.{TurnOut}
use Rattle.fsa_model.specs.Schedule.{HasAllCalls, Scheduled}
use Rattle.fsa_model.specs.Setup.{Client, Script}
use Rattle.fsa_model.specs.Text.{answer_line, call_text, ended_lines, last_line, text, turn_text, turns_text}
use Rattle.fsa_model.specs.Turn.{Turned, answer_of, try, turn, turn_number}
use Rattle.fsa_model.specs.Verbs.{verb}
use Rattle.fsa_model.specs.Volume.{Volume}
use Rattle.fsa_model.proofs.EngineLaws.{turn-turned}
use Rattle.fsa_model.proofs.HistoryLaws.{turns_text-push}
use Rattle.fsa_model.proofs.RowLaws.{option_cases}
use Rattle.fsa_model.proofs.SettleLaws.{some_equal}
use Rattle.history_laws.specs.Named.{IsReadScript}
use Rattle.fsa_model.specs.Starving.{starved_of}
use Rattle.history_laws.proofs.CallsOfRuns.{GoesOn, GoesOn-scheduled}
use Rattle.history_laws.proofs.EndLines.{FollowsTurn, same_starved}
use Rattle.history_laws.proofs.SettlePlain.{GivesStarved, turn-starved}

-- ---- the text of the turns from a volume on

-- the lines of these turns, the first of which is made on this volume
abbrev pub text_on : List Client → Volume → List HistoryEntry → List ℕ
text_on clients v [] = []
text_on clients v (entry ∷ rest) = option_map_or (λ t. turn_text clients entry.call t.out ++ text_on clients t.volume rest) (turn v entry.call entry.starved) []

text_on-steps : (clients : List Client) (history : List HistoryEntry) (r : Run) (rest : List HistoryEntry) (s : Run) → length r.outs ≡ length history → steps turn_on r rest ≡ Some s
    → turns_text clients (history ++ rest) s.outs ≡ turns_text clients history r.outs ++ text_on clients r.volume rest
text_on-steps clients history r [] s gives is =
    let same : r ≡ s = some_equal r s is in
    ap (λ (entries : List HistoryEntry). turns_text clients entries s.outs) (append-nil history) ∙ ap (λ (last : Run). turns_text clients history last.outs) (sym same) ∙ sym (append-nil (turns_text clients history r.outs))
text_on-steps clients history r (entry ∷ rest) s gives is = elim (option_cases (turn r.volume entry.call entry.starved)) [
  | inl none ↦ (let impossible : None ≡ Some s = rw none at is in cc)
  | inr some ↦ (let out : TurnOut = some.0.out in
      let lines : List ℕ = turn_text clients entry.call out in
      let longer : length (r.outs ++ out ∷ []) ≡ length (history ++ entry ∷ []) = (let one = length-append r.outs (out ∷ []) in let other = length-append history (entry ∷ []) in omega arith) in
      let more = text_on-steps clients (history ++ entry ∷ []) (with_turn r some.0) rest s longer (rw some.1 at is) in
      rw some.1
      (ap (λ (entries : List HistoryEntry). turns_text clients entries s.outs) (sym (append_assoc history (entry ∷ []) rest))
      ∙ more
      ∙ ap (λ (front : List ℕ). front ++ text_on clients some.0.volume rest) (turns_text-push clients history r.outs entry out gives)
      ∙ append_assoc (turns_text clients history r.outs) lines (text_on clients some.0.volume rest)))
]

-- the text of a history that runs
pub text_on-whole : (script : Script) (history : List HistoryEntry) → IsSome (run script.setup history) → text script history ≡ text_on script.setup.clients (begun script.setup).volume history ++ last_line (length history)
text_on-whole script history runs = elim (option_cases (run script.setup history)) [
  | inl none ↦ (let impossible : false ≡ true = rw none at runs in cc)
  | inr some ↦ ap (λ (lines : List ℕ). lines ++ last_line (length history)) (ap (λ (o : Option Run). option_map_or (λ (r : Run). turns_text script.setup.clients history r.outs) o []) some.1
      ∙ text_on-steps script.setup.clients [] (begun script.setup) history some.0 refl some.1)
]

-- ---- the lines of one turn

-- the first line, and the answer's
abbrev pub turn_head : List Client → Call → Answer → List ℕ
turn_head clients call answer = codes "> " ++ call_text clients call.client call.number ++ 32 ∷ verb call.what ++ 10 ∷ [] ++ answer_line clients call answer

-- what the turn of a call answers, whichever calls starve in it
pub answers : (v : Volume) (call : Call) (starved : List CallId) (t : Turned) → turn v call starved ≡ Some t → t.out.answer ≡ answer_of (try v call (turn_number v))
answers v call starved t turns = sym (ap (λ (t : Turned). t.out.answer) (turn-turned v call starved t turns))

-- its lines, and what follows
pub turn_lines : (clients : List Client) (v : Volume) (entry : HistoryEntry) (rest : List HistoryEntry) (turns : ℕ) (t : Turned) → turn v entry.call entry.starved ≡ Some t
    → text_on clients v (entry ∷ rest) ++ last_line turns
    ≡ turn_head clients entry.call (answer_of (try v entry.call (turn_number v))) ++ (ended_lines clients t.out.ended ++ (text_on clients t.volume rest ++ last_line turns))
turn_lines clients v entry rest turns t made =
    let head : List ℕ = turn_head clients entry.call (answer_of (try v entry.call (turn_number v))) in
    let ended : List ℕ = ended_lines clients t.out.ended in
    let after : List ℕ = text_on clients t.volume rest in
    ap (λ (o : Option Turned). option_map_or (λ (t : Turned). turn_text clients entry.call t.out ++ text_on clients t.volume rest) o [] ++ last_line turns) made
    ∙ ap (λ (answer : Answer). (turn_head clients entry.call answer ++ ended ++ after) ++ last_line turns) (answers v entry.call entry.starved t made)
    ∙ append_assoc (head ++ ended) after (last_line turns)
    ∙ append_assoc head ended (after ++ last_line turns)

-- what follows a turn is the next turn's first line or the last line
follows : (script : Script) (history : List HistoryEntry) (r : Run) (rest : List HistoryEntry) (turns : ℕ) → GoesOn script history r rest → FollowsTurn (text_on script.setup.clients r.volume rest ++ last_line turns)
follows script history r [] turns on = inr (turns, refl)
follows script history r (entry ∷ rest) turns on = inl (_, turn_lines script.setup.clients r.volume entry rest turns on.0.turned on.0.turns)

-- ---- two histories

pub same_entry : (one other : HistoryEntry) → one.call ≡ other.call → one.starved ≡ other.starved → one ≡ other
same_entry one other calls starved = subst (λ (made : HistoryEntry). one ≡ made) (ap (λ (call : Call). record { call = call; starved = one.starved }) calls ∙ ap (λ (ids : List CallId). record { call = other.call; starved = ids }) starved) refl

-- the first entries of both are the same
same_next : (script : Script) (history : List HistoryEntry) (r : Run) (one other : HistoryEntry) (rest more : List HistoryEntry) (turns count : ℕ) → IsReadScript script
    → GoesOn script history r (one ∷ rest) → GoesOn script history r (other ∷ more)
    → text_on script.setup.clients r.volume (one ∷ rest) ++ last_line turns ≡ text_on script.setup.clients r.volume (other ∷ more) ++ last_line count → one ≡ other
same_next script history r one other rest more turns count read on also same =
    let clients : List Client = script.setup.clients in
    let calls : one.call ≡ other.call = some_equal one.call other.call (sym on.0.next ∙ also.0.next) in
    let head : Call → List ℕ = λ (call : Call). turn_head clients call (answer_of (try r.volume call (turn_number r.volume))) in
    let here = turn_lines clients r.volume one rest turns on.0.turned on.0.turns in
    let there = turn_lines clients r.volume other more count also.0.turned also.0.turns in
    let tail : List ℕ = ended_lines clients also.0.turned.out.ended ++ (text_on clients also.0.turned.volume more ++ last_line count) in
    let ends = append_cancel_left (head one.call) (ended_lines clients on.0.turned.out.ended ++ (text_on clients on.0.turned.volume rest ++ last_line turns)) tail
    (sym here ∙ same ∙ there ∙ ap (λ (call : Call). head call ++ tail) (sym calls)) in
    let names : starved_of on.0.turned.out.ended ≡ starved_of also.0.turned.out.ended
    = same_starved clients on.0.turned.out.ended also.0.turned.out.ended _ _ read.named on.0.ours also.0.ours
    (follows script (history ++ one ∷ []) (with_turn r on.0.turned) rest turns on.1) (follows script (history ++ other ∷ []) (with_turn r also.0.turned) more count also.1) ends in
    same_entry one other calls
    (sym (GivesStarved.names (turn-starved r.volume one.call one.starved on.0.turned on.0.turns)) ∙ names ∙ GivesStarved.names (turn-starved r.volume other.call other.starved also.0.turned also.0.turns))

same_rest : (script : Script) (history : List HistoryEntry) (r : Run) (rest more : List HistoryEntry) (turns count : ℕ) → IsReadScript script → GoesOn script history r rest → GoesOn script history r more
    → text_on script.setup.clients r.volume rest ++ last_line turns ≡ text_on script.setup.clients r.volume more ++ last_line count → rest ≡ more
same_rest script history r [] [] turns count read on also same = refl
same_rest script history r [] (other ∷ more) turns count read on also same = (let impossible : None ≡ Some other.call = sym on ∙ also.0.next in cc)
same_rest script history r (one ∷ rest) [] turns count read on also same = (let impossible : None ≡ Some one.call = sym also ∙ on.0.next in cc)
same_rest script history r (one ∷ rest) (other ∷ more) turns count read on also same =
    let clients : List Client = script.setup.clients in
    let entries : one ≡ other = same_next script history r one other rest more turns count read on also same in
    let goes : GoesOn script history r (one ∷ more) = subst (λ (entry : HistoryEntry). GoesOn script history r (entry ∷ more)) (sym entries) also in
    let texts : text_on clients r.volume (one ∷ rest) ++ last_line turns ≡ text_on clients r.volume (one ∷ more) ++ last_line count
    = subst (λ (entry : HistoryEntry). text_on clients r.volume (one ∷ rest) ++ last_line turns ≡ text_on clients r.volume (entry ∷ more) ++ last_line count) (sym entries) same in
    let turneds : goes.0.turned ≡ on.0.turned = some_equal goes.0.turned on.0.turned (sym goes.0.turns ∙ on.0.turns) in
    let after : GoesOn script (history ++ one ∷ []) (with_turn r on.0.turned) more = subst (λ (t : Turned). GoesOn script (history ++ one ∷ []) (with_turn r t) more) turneds goes.1 in
    let lines = append_cancel_left (turn_head clients one.call (answer_of (try r.volume one.call (turn_number r.volume))))
    (ended_lines clients on.0.turned.out.ended ++ (text_on clients on.0.turned.volume rest ++ last_line turns)) (ended_lines clients on.0.turned.out.ended ++ (text_on clients on.0.turned.volume more ++ last_line count))
    (sym (turn_lines clients r.volume one rest turns on.0.turned on.0.turns) ∙ texts ∙ turn_lines clients r.volume one more count on.0.turned on.0.turns) in
    let left = append_cancel_left (ended_lines clients on.0.turned.out.ended) (text_on clients on.0.turned.volume rest ++ last_line turns) (text_on clients on.0.turned.volume more ++ last_line count) lines in
    ap (λ (entries : List HistoryEntry). one ∷ entries) (same_rest script (history ++ one ∷ []) (with_turn r on.0.turned) rest more turns count read on.1 after left)
    ∙ ap (λ (entry : HistoryEntry). entry ∷ more) entries

-- two scheduled histories of all calls of a script that was read, with one text, are one
pub same_text : (script : Script) (history other : List HistoryEntry) → IsReadScript script → Scheduled script history → HasAllCalls script history → Scheduled script other → HasAllCalls script other
    → text script other ≡ text script history → other ≡ history
same_text script history other read scheduled whole also_scheduled also_whole same =
    same_rest script [] (begun script.setup) other history (length other) (length history) read
    (GoesOn-scheduled script [] (begun script.setup) other read refl also_scheduled also_whole) (GoesOn-scheduled script [] (begun script.setup) history read refl scheduled whole)
    (sym (text_on-whole script other also_scheduled.runs) ∙ same ∙ text_on-whole script history scheduled.runs)
