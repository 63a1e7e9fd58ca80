-- The calls of a scheduled history, and what its turns give out, are of the script's clients.
use Rattle.std.proofs.Common.{◌≡◌, ℕ, suc, ◌+◌, ◌<◌, ◌≤◌, ◌^◌, Bool, true, false, cond, not, List, [], ◌∷◌, ◌++◌, length, take, append_assoc, append-nil, length-append, refl, ap, sym, subst, ◌∙◌, inl, inr, arith, Option, Some, None, IsTrue}
use Rattle.std.specs.Prelude.{◌==◌, ◌&&◌, map, find, slice_get, IsSome, option_and_then}
use Rattle.std.specs.List.{enumerate_from, list_all}
use Rattle.std.proofs.lemmas.Bool.{cases_Bool, eqb-true, eq-eqb}
use Rattle.fsa_types.specs.declared.reply.EndOf.{EndOf}
use Rattle.fsa_types.specs.declared.request.Call.{Call}
use Rattle.fsa_model.specs.Engine.{is_entry_of}
use Rattle.fsa_model.specs.History.{HistoryEntry, Run, begun, run, steps, turn_on, with_turn}
use Rattle.fsa_model.specs.LineCalls.{AreLineCalls}
use Rattle.fsa_model.specs.Once.{how_many, is_end, times}
use Rattle.fsa_model.specs.Schedule.{AreNumbered, HasAllCalls, Scheduled, all_calls, calls_of, is_made, leave_after, next, next_in}
use Rattle.fsa_model.specs.Setup.{Client, Script, Setup}
use Rattle.fsa_model.specs.Turn.{Turned, turn}
use Rattle.fsa_model.specs.Volume.{Volume, fresh}
use Rattle.fsa_model.specs.Waiting.{waits}
use Rattle.fsa_model.proofs.CountLaws.{and_left, and_right, how_many-append}
use Rattle.fsa_model.proofs.EngineLaws.{Scheduled-differ}
use Rattle.fsa_model.proofs.HistoryLaws.{run-push}
use Rattle.fsa_model.proofs.OnceHistory.{Runs, run-runs}
use Rattle.fsa_model.proofs.RowLaws.{option_cases}
use Rattle.fsa_model.proofs.SettleLaws.{some_equal}
use Rattle.history_laws.specs.Named.{IsReadScript}
use Rattle.history_laws.proofs.EndLines.{AreOurs}
use Rattle.history_laws.proofs.SettlePlain.{GivesStarved, turn-starved}
use Rattle.history_laws.proofs.TurnByTurn.{steps-append}

-- ---- the calls of a script

-- of one of so many clients, by a number of 64 bits
abbrev IsOurCall : ℕ → Call → Type 0
IsOurCall clients call = (call.client < clients) × (call.number < 2 ^ 64)

abbrev AreOurCalls : ℕ → List Call → Type 0
AreOurCalls clients [] = Unit {0}
AreOurCalls clients (call ∷ calls) = IsOurCall clients call × AreOurCalls clients calls

AreOurCalls-append : (clients : ℕ) (front back : List Call) → AreOurCalls clients front → AreOurCalls clients back → AreOurCalls clients (front ++ back)
AreOurCalls-append clients [] back first second = second
AreOurCalls-append clients (call ∷ front) back first second = (first.0, AreOurCalls-append clients front back first.1 second)

pub calls_of-few : (client : ℕ) (calls : List Call) → calls_of client calls ≤ length calls
calls_of-few client [] = omega arith
calls_of-few client (call ∷ calls) = (let rest = calls_of-few client calls in elim (cases_Bool (call.client == client)) [ inl is ↦ rw is (omega arith) | inr isnt ↦ rw isnt (omega arith) ])

lines-ours : (clients : ℕ) (before lines : List Call) → AreNumbered before lines → AreLineCalls clients lines → length before + length lines < 2 ^ 63 → AreOurCalls clients lines
lines-ours clients before [] numbered fit few = tt
lines-ours clients before (call ∷ lines) numbered fit few =
    let most = calls_of-few call.client before in
    let number = numbered.0 in
    let longer = length-append before (call ∷ []) in
    ((fit.0.client, omega arith), lines-ours clients (before ++ call ∷ []) lines numbered.1 fit.1 (omega arith))

leaves-ours : (lines : List Call) (all place : ℕ) (clients : List Client) → place + length clients ≤ all → length lines < 2 ^ 63
    → AreOurCalls all (map (λ (numbered : ℕ × Client). leave_after lines numbered.0) (enumerate_from place clients))
leaves-ours lines all place [] within few = tt
leaves-ours lines all place (client ∷ clients) within few =
    (let most = calls_of-few place lines in ((omega arith, omega arith), leaves-ours lines all (place + 1) clients (omega arith) few))

all_calls-ours : (script : Script) → IsReadScript script → AreOurCalls (length script.setup.clients) (all_calls script)
all_calls-ours script read =
    AreOurCalls-append (length script.setup.clients) script.lines _
    (lines-ours (length script.setup.clients) [] script.lines read.numbered read.fit (let few = read.few in omega arith))
    (leaves-ours script.lines (length script.setup.clients) 0 script.setup.clients (omega arith) read.few)

found-ours : (clients : ℕ) (test : Call → Bool) (calls : List Call) (call : Call) → AreOurCalls clients calls → find test calls ≡ Some call → IsOurCall clients call
found-ours clients test [] call ours found = cc
found-ours clients test (first ∷ calls) call ours found = elim (cases_Bool (test first)) [
  | inl passes ↦ subst (IsOurCall clients) (some_equal first call (rw passes at found)) ours.0
  | inr fails ↦ found-ours clients test calls call ours.1 (rw fails at found)
]

next-ours : (script : Script) (history : List HistoryEntry) (call : Call) → IsReadScript script → next script history ≡ Some call → IsOurCall (length script.setup.clients) call
next-ours script history call read is = elim (option_cases (run script.setup history)) [
  | inl none ↦ (let impossible : None ≡ Some call = rw none at is in cc)
  | inr some ↦ found-ours (length script.setup.clients) (λ other. not (is_made history other) && not (waits some.0.volume other.client)) (all_calls script) call (all_calls-ours script read) (rw some.1 at is)
]

-- ---- the calls of a history

-- where some entry passes a test, one does
pub some-entry : (test : HistoryEntry → Bool) (history : List HistoryEntry) → 1 ≤ how_many test history → (place : ℕ) × ((entry : HistoryEntry) × ((slice_get history place ≡ Some entry) × (test entry ≡ true)))
some-entry test [] some = absurd (omega arith)
some-entry test (entry ∷ history) some = elim (cases_Bool (test entry)) [
  | inl passes ↦ (0, (entry, (refl, passes)))
  | inr fails ↦ (let less : 1 ≤ 0 + how_many test history = rw fails at some in let rest = some-entry test history (omega arith) in (suc rest.0, rest.1))
]

-- the client and the number of a call that was made are in bounds
made-ours : (script : Script) (history : List HistoryEntry) (client number : ℕ) → IsReadScript script → Scheduled script history → 1 ≤ how_many (is_entry_of client number) history
    → (client < length script.setup.clients) × (number < 2 ^ 64)
made-ours script history client number read scheduled some =
    let entry = some-entry (is_entry_of client number) history some in
    let ours : IsOurCall (length script.setup.clients) entry.1.0.call = next-ours script (take entry.0 history) entry.1.0.call read (scheduled.in_order entry.0 entry.1.0 entry.1.1.0) in
    let same_client : entry.1.0.call.client ≡ client = eqb-true entry.1.0.call.client client (and_left (entry.1.0.call.client == client) (entry.1.0.call.number == number) entry.1.1.1) in
    let same_number : entry.1.0.call.number ≡ number = eqb-true entry.1.0.call.number number (and_right (entry.1.0.call.client == client) (entry.1.0.call.number == number) entry.1.1.1) in
    (subst (λ (c : ℕ). c < length script.setup.clients) same_client ours.0, subst (λ (n : ℕ). n < 2 ^ 64) same_number ours.1)

pub counted-ours : (clients : List Client) (ends : List EndOf) → ((client number : ℕ) → 1 ≤ how_many (is_end client number) ends → (client < length clients) × (number < 2 ^ 64)) → AreOurs clients ends
counted-ours clients [] ours = tt
counted-ours clients (end ∷ ends) ours = (
  ours end.client end.number (rw (eq-eqb end.client end.client refl, eq-eqb end.number end.number refl) (omega arith)),
  counted-ours clients ends (λ client number some. ours client number (let more : how_many (is_end client number) ends ≤ how_many (is_end client number) (end ∷ ends) = longer (is_end client number end) (how_many (is_end client number) ends) in omega arith)),
)
  where
    longer : (test : Bool) (rest : ℕ) → rest ≤ cond test 1 0 + rest
    longer true rest = omega arith
    longer false rest = omega arith

-- ---- a history, turn by turn

-- the turn that the next entry stands for
pub record Made (script : Script) (history : List HistoryEntry) (r : Run) (entry : HistoryEntry) : Type 0 where
  pub next : next_in (all_calls script) history r.volume ≡ Some entry.call
  pub turned : Turned
  pub turns : turn r.volume entry.call entry.starved ≡ Some turned
  pub ours : AreOurs script.setup.clients turned.out.ended

-- after a history with this run, these entries follow, and then all calls were made
abbrev pub GoesOn : Script → List HistoryEntry → Run → List HistoryEntry → Type 0
GoesOn script history r [] = next_in (all_calls script) history r.volume ≡ None
GoesOn script history r (entry ∷ rest) = (made : Made script history r entry) × GoesOn script (history ++ entry ∷ []) (with_turn r made.turned) rest

-- where the run of more entries is there, so is the next turn
pub turned-there : (setup : Setup) (history : List HistoryEntry) (entry : HistoryEntry) (rest : List HistoryEntry) (r : Run) → run setup history ≡ Some r → IsSome (run setup (history ++ entry ∷ rest))
    → (turned : Turned) × (turn r.volume entry.call entry.starved ≡ Some turned)
turned-there setup history entry rest r is runs = elim (option_cases (turn r.volume entry.call entry.starved)) [
  | inr some ↦ some
  | inl none ↦ (let there : IsSome (option_and_then (λ (after : Run). steps turn_on after (entry ∷ rest)) (run setup history)) = subst (λ (o : Option Run). IsSome o) (steps-append turn_on (begun setup) history (entry ∷ rest)) runs in
      let after : IsSome (steps turn_on r (entry ∷ rest)) = subst (λ (o : Option Run). IsSome (option_and_then (λ (after : Run). steps turn_on after (entry ∷ rest)) o)) is there in
      let impossible : false ≡ true = rw none at after in cc)
]

pub entry-at : (history : List HistoryEntry) (entry : HistoryEntry) (rest : List HistoryEntry) → slice_get (history ++ entry ∷ rest) (length history) ≡ Some entry
entry-at [] entry rest = refl
entry-at (first ∷ history) entry rest = entry-at history entry rest

pub entries-before : (history rest : List HistoryEntry) → take (length history) (history ++ rest) ≡ history
entries-before [] rest = refl
entries-before (first ∷ history) rest = ap (λ (entries : List HistoryEntry). first ∷ entries) (entries-before history rest)

-- where all calls were made, none is next
none_next : (calls : List Call) (history : List HistoryEntry) (v : Volume) → IsTrue (list_all (is_made history) calls) → next_in calls history v ≡ None
none_next [] history v all = refl
none_next (call ∷ calls) history v all =
    let made : is_made history call ≡ true = and_left (is_made history call) (list_all (is_made history) calls) all in
    rw made (none_next calls history v (and_right (is_made history call) (list_all (is_made history) calls) all))

-- what the next turn gives out is of the script's clients
turned-ours : (script : Script) (history : List HistoryEntry) (entry : HistoryEntry) (rest : List HistoryEntry) (r : Run) (t : Turned) → IsReadScript script → run script.setup history ≡ Some r
    → Scheduled script (history ++ entry ∷ rest) → turn r.volume entry.call entry.starved ≡ Some t → AreOurs script.setup.clients t.out.ended
turned-ours script history entry rest r t read is scheduled turns = counted-ours script.setup.clients t.out.ended (λ client number some.
    let whole = how_many-append (is_entry_of client number) (history ++ entry ∷ []) rest in
    let joined : how_many (is_entry_of client number) ((history ++ entry ∷ []) ++ rest) ≡ how_many (is_entry_of client number) (history ++ entry ∷ rest) = ap (how_many (is_entry_of client number)) (append_assoc history (entry ∷ []) rest) in
    let times : times client number t.volume ≡ 0 + how_many (is_entry_of client number) (history ++ entry ∷ []) = Runs.times after client number in
    let kept = GivesStarved.kept (turn-starved r.volume entry.call entry.starved t turns) (is_end client number) in
    made-ours script (history ++ entry ∷ rest) client number read scheduled (omega arith))
  where
    after : Runs (fresh script.setup) (history ++ entry ∷ []) t.volume
    after = run-runs script.setup (history ++ entry ∷ []) (with_turn r t) (λ client number.
        (let whole = how_many-append (is_entry_of client number) (history ++ entry ∷ []) rest in
        let joined : how_many (is_entry_of client number) ((history ++ entry ∷ []) ++ rest) ≡ how_many (is_entry_of client number) (history ++ entry ∷ rest) = ap (how_many (is_entry_of client number)) (append_assoc history (entry ∷ []) rest) in
        let few : how_many (is_entry_of client number) (history ++ entry ∷ rest) ≤ 1 = Scheduled-differ script (history ++ entry ∷ rest) scheduled client number in
        omega arith)) (run-push script.setup history entry r t is turns)

pub GoesOn-scheduled : (script : Script) (history : List HistoryEntry) (r : Run) (rest : List HistoryEntry) → IsReadScript script → run script.setup history ≡ Some r → Scheduled script (history ++ rest)
    → HasAllCalls script (history ++ rest) → GoesOn script history r rest
GoesOn-scheduled script history r [] read is scheduled whole =
    none_next (all_calls script) history r.volume (subst (HasAllCalls script) (append-nil history) whole)
GoesOn-scheduled script history r (entry ∷ rest) read is scheduled whole =
    let there = turned-there script.setup history entry rest r is scheduled.runs in
    let joined : history ++ entry ∷ rest ≡ (history ++ entry ∷ []) ++ rest = sym (append_assoc history (entry ∷ []) rest) in
    let is_next : next script history ≡ Some entry.call
    = subst (λ (before : List HistoryEntry). next script before ≡ Some entry.call) (entries-before history (entry ∷ rest)) (scheduled.in_order (length history) entry (entry-at history entry rest)) in (
      record {
        next = sym (ap (option_and_then (λ (after : Run). next_in (all_calls script) history after.volume)) is) ∙ is_next;
        turned = there.0;
        turns = there.1;
        ours = turned-ours script history entry rest r there.0 read is scheduled there.1;
      },
      GoesOn-scheduled script (history ++ entry ∷ []) (with_turn r there.0) rest read (run-push script.setup history entry r there.0 is there.1) (subst (Scheduled script) joined scheduled) (subst (HasAllCalls script) joined whole),
    )
