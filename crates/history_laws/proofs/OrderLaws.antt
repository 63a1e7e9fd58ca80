-- The calls of a schedule are made in each client's order.
use Rattle.std.proofs.Common.{◌≡◌, ℕ, ◌+◌, ◌<◌, ◌≤◌, zero, suc, List, [], ◌∷◌, ◌++◌, length, length-set, get_or, ◌⊎◌, take, Some, None, refl, ap, sym, subst, ◌∙◌, append-nil, append_assoc, arith, inl, inr, Bool, true, false, not}
use Rattle.std.specs.Prelude.{◌&&◌, find, nat_lt, option_and_then, slice_get, slice_index_or, slice_set}
use Rattle.std.proofs.lemmas.Bool.{cases_Bool, ltb-false, ltb-true}
use Rattle.std.proofs.lemmas.Bool.Decides.{nat_tests}
use Rattle.std.proofs.lemmas.Option.{slice_get-get_or, slice_get_within}
use Rattle.fsa_types.specs.declared.request.Call.{Call}
use Rattle.fsa_model.specs.History.{HistoryEntry, Run, run}
use Rattle.fsa_model.specs.LineCalls.{IsLineCall}
use Rattle.fsa_model.specs.Schedule.{HasAllCalls, Scheduled, all_calls, is_made, next, next_in}
use Rattle.fsa_model.specs.Setup.{Script}
use Rattle.fsa_model.specs.Volume.{Volume}
use Rattle.fsa_model.specs.Waiting.{waits}
use Rattle.fsa_model.proofs.CountLaws.{and_right}
use Rattle.fsa_model.proofs.ScriptLaws.{all_calls-numbered}
use Rattle.fsa_model.proofs.RowLaws.{option_cases}
use Rattle.history_laws.specs.Cursors.{StandAt, first_from, first_of}
use Rattle.history_laws.specs.Named.{IsReadScript}
use Rattle.history_laws.proofs.CursorLaws.{StandAt-begun, StandAt-push, first_from-is, next_in-least, next_in-none}
use Rattle.history_laws.proofs.NextLaws.{AreLineCalls-all, AreLineCalls-at, none_next-all}
use Rattle.history_laws.proofs.WholeLaws.{some_run}

-- each call is of a client of the script
pub call_within : (script : Script) (place : ℕ) (call : Call) → IsReadScript script → slice_get (all_calls script) place ≡ Some call → call.client < length script.setup.clients
call_within script place call is_read at =
    IsLineCall.client (AreLineCalls-at (length script.setup.clients) (all_calls script) place call (AreLineCalls-all script is_read.fit) at)

-- where no call is next all were made
pub next-all : (script : Script) (history : List HistoryEntry) → IsReadScript script → Scheduled script history → next script history ≡ None → HasAllCalls script history
next-all script history is_read scheduled none =
    let r = some_run script history scheduled in
    none_next-all script history r.0 (all_calls-numbered script is_read.numbered) is_read.fit scheduled r.1 (sym (ap (option_and_then (λ (r : Run). next_in (all_calls script) history r.volume)) r.1) ∙ none)

-- ---- a cursor for each client

-- before the first turn
begin_from : List Call → ℕ → ℕ → List ℕ
begin_from calls first zero = []
begin_from calls first (suc clients) = first_of first calls ∷ begin_from calls (first + 1) clients

begin_long : (calls : List Call) (first clients : ℕ) → length (begin_from calls first clients) ≡ clients
unfolding begin_from
begin_long calls first zero = refl
begin_long calls first (suc clients) = ap suc (begin_long calls (first + 1) clients)

begin_is : (calls : List Call) (first clients i : ℕ) → i < clients → slice_index_or (begin_from calls first clients) i 0 ≡ first_of (first + i) calls
unfolding begin_from
begin_is calls first zero i within = absurd (omega arith)
begin_is calls first (suc clients) zero within = ap (λ n. first_of n calls) (let e : first ≡ first + 0 = omega arith in e)
begin_is calls first (suc clients) (suc i) within =
    begin_is calls (first + 1) clients i (omega arith) ∙ ap (λ n. first_of n calls) (let e : first + 1 + i ≡ first + suc i = omega arith in e)

pub calls-begun : (script : Script) (cursors : List ℕ) → IsReadScript script → length cursors ≡ length script.setup.clients
    → ((client : ℕ) → client < length cursors → slice_index_or cursors client 0 ≡ first_of client (all_calls script)) → StandAt (all_calls script) [] cursors
calls-begun script cursors is_read long begins =
    StandAt-begun (all_calls script) cursors begins (λ place call at. (let within : call.client < length script.setup.clients = call_within script place call is_read at in omega arith))

pub calls-go : (script : Script) (history : List HistoryEntry) (cursors : List ℕ) (entry : HistoryEntry) → IsReadScript script → StandAt (all_calls script) history cursors → length cursors ≡ length script.setup.clients
    → slice_get (all_calls script) (slice_index_or cursors entry.call.client 0) ≡ Some entry.call
    → StandAt (all_calls script) (history ++ entry ∷ []) (slice_set cursors entry.call.client (first_from entry.call.client (slice_index_or cursors entry.call.client 0 + 1) (all_calls script)))
calls-go script history cursors entry is_read stands long at =
    StandAt-push (all_calls script) history cursors (slice_index_or cursors entry.call.client 0) entry (all_calls-numbered script is_read.numbered) stands
    (let within : entry.call.client < length script.setup.clients = call_within script (slice_index_or cursors entry.call.client 0) entry.call is_read at in omega arith) refl at

-- the first item that passes, and that none before it does
record FirstAt {X : Type 0} (test : X → Bool) (xs : List X) (x : X) : Type 0 where
  place : ℕ
  at : slice_get xs place ≡ Some x
  passes : test x ≡ true
  before : (j : ℕ) (y : X) → j < place → slice_get xs j ≡ Some y → test y ≡ false

first_at : {X : Type 0} (test : X → Bool) (xs : List X) (x : X) → find test xs ≡ Some x → FirstAt test xs x
first_at test [] x found = absurd (cc)
first_at {X} test (first ∷ xs) x found = elim (cases_Bool (test first)) [
  | inl is ↦ (let here : Some first ≡ Some x = rw is at found in let same : first ≡ x = cc in
      record { place = 0; at = here; passes = ap test (sym same) ∙ is; before = λ j y less there. absurd (omega arith) })
  | inr isnt ↦ (let rest : FirstAt test xs x = first_at test xs x (rw isnt at found) in
      record { place = suc rest.place; at = rest.at; passes = rest.passes; before = λ j y less there. later isnt rest j y less there })
]
  where
    later : test first ≡ false → (rest : FirstAt test xs x) → (j : ℕ) (y : X) → j < suc rest.place → slice_get (first ∷ xs) j ≡ Some y → test y ≡ false
    later isnt rest zero y less there = (let same : first ≡ y = cc in ap test (sym same) ∙ isnt)
    later isnt rest (suc j) y less there = rest.before j y (omega arith) there

-- the next call stands at its client's cursor
pub next_at_cursor : (script : Script) (history : List HistoryEntry) (cursors : List ℕ) (v : Volume) (call : Call) → IsReadScript script → StandAt (all_calls script) history cursors → length cursors ≡ length script.setup.clients
    → next_in (all_calls script) history v ≡ Some call → slice_get (all_calls script) (slice_index_or cursors call.client 0) ≡ Some call
next_at_cursor script history cursors v call is_read stands long is =
    subst (λ (place : ℕ). slice_get (all_calls script) place ≡ Some call) here first.at
  where
    calls : List Call
    calls = all_calls script

    free : Call → Bool
    free c = not (is_made history c) && not (waits v c.client)

    first : FirstAt free calls call
    first = first_at free calls call is

    cursor : ℕ
    cursor = slice_index_or cursors call.client 0

    within : call.client < length cursors
    within = (let inside : call.client < length script.setup.clients = call_within script first.place call is_read first.at in omega arith)

    -- it isn't made, so it doesn't stand before its client's cursor
    least : cursor ≤ first.place
    least = of (is_made history call) (waits v call.client) first.passes (stands.made first.place call first.at)
      where
        of : (is waiting : Bool) → (not is && not waiting) ≡ true → is ≡ nat_lt first.place cursor → cursor ≤ first.place
        of true waiting passes lt = cc
        of false waiting passes lt = grind (arith, nat_tests, lt)

    -- and not behind it, since the call there would be found first
    not_behind : cursor < first.place → ⊥
    not_behind less =
        let there : Call = get_or calls cursor call in
        let at : slice_get calls cursor ≡ Some there = slice_get-get_or calls cursor call (let inside : first.place < length calls = slice_get_within calls first.place call first.at in omega arith) in
        let own : there.client ≡ call.client
        = first_from-is call.client cursor calls there (subst (λ (place : ℕ). slice_get calls place ≡ Some there) (sym (stands.own call.client within)) at) in
        let unmade : is_made history there ≡ nat_lt cursor cursor = stands.made cursor there at ∙ ap (λ (client : ℕ). nat_lt cursor (slice_index_or cursors client 0)) own in
        let waiting : not (waits v there.client) ≡ true = ap (λ (client : ℕ). not (waits v client)) own ∙ and_right (not (is_made history call)) (not (waits v call.client)) first.passes in
        let fails : (not (is_made history there) && not (waits v there.client)) ≡ false = first.before cursor there less at in
        of (is_made history there) (not (waits v there.client)) (unmade ∙ never cursor) waiting fails
      where
        never : (n : ℕ) → nat_lt n n ≡ false
        never n = grind (arith, nat_tests)

        of : (is free : Bool) → is ≡ false → free ≡ true → (not is && free) ≡ false → ⊥
        of true free isnt passes fails = cc
        of false free isnt passes fails = cc

    here : first.place ≡ cursor
    here = elim (cases_Bool (nat_lt cursor first.place)) [
      | inr isnt ↦ (let few : first.place ≤ cursor = ltb-false cursor first.place isnt in omega (arith, few, least))
      | inl is ↦ absurd (not_behind (ltb-true cursor first.place is))
    ]

-- a schedule's turns, one after the other
stand_on : (script : Script) (front rest : List HistoryEntry) (cursors : List ℕ) → IsReadScript script → length cursors ≡ length script.setup.clients → StandAt (all_calls script) front cursors
    → ((k : ℕ) (entry : HistoryEntry) → slice_get rest k ≡ Some entry → next script (front ++ take k rest) ≡ Some entry.call)
    → (later : List ℕ) × (length later ≡ length script.setup.clients) × StandAt (all_calls script) (front ++ rest) later
stand_on script front [] cursors is_read long stands in_order =
    (cursors, long, subst (λ (history : List HistoryEntry). StandAt (all_calls script) history cursors) (sym (append-nil front)) stands)
stand_on script front (entry ∷ rest) cursors is_read long stands in_order =
    let is_next : next script front ≡ Some entry.call = subst (λ (history : List HistoryEntry). next script history ≡ Some entry.call) (append-nil front) (in_order 0 entry refl) in
    let at : slice_get (all_calls script) (slice_index_or cursors entry.call.client 0) ≡ Some entry.call = of is_next (option_cases (run script.setup front)) in
    let more = stand_on script (front ++ entry ∷ []) rest
    (slice_set cursors entry.call.client (first_from entry.call.client (slice_index_or cursors entry.call.client 0 + 1) (all_calls script))) is_read
    (length-set cursors entry.call.client _ ∙ long) (calls-go script front cursors entry is_read stands long at)
    (λ k later there. subst (λ (history : List HistoryEntry). next script history ≡ Some later.call) (sym (append_assoc front (entry ∷ []) (take k rest))) (in_order (suc k) later there)) in
    (more.0, more.1, subst (λ (history : List HistoryEntry). StandAt (all_calls script) history more.0) (append_assoc front (entry ∷ []) rest) more.2)
  where
    of : next script front ≡ Some entry.call → (run script.setup front ≡ None) ⊎ ((r : Run) × (run script.setup front ≡ Some r))
        → slice_get (all_calls script) (slice_index_or cursors entry.call.client 0) ≡ Some entry.call
    of is_next (inl none) = absurd (let impossible : None ≡ Some entry.call = rw none at is_next in cc)
    of is_next (inr some) = next_at_cursor script front cursors some.0.volume entry.call is_read stands long (rw some.1 at is_next)

pub Scheduled-stands : (script : Script) (history : List HistoryEntry) → IsReadScript script → Scheduled script history
    → (cursors : List ℕ) × (length cursors ≡ length script.setup.clients) × StandAt (all_calls script) history cursors
Scheduled-stands script history is_read scheduled =
    let clients : ℕ = length script.setup.clients in
    let first : List ℕ = begin_from (all_calls script) 0 clients in
    stand_on script [] history first is_read (begin_long (all_calls script) 0 clients)
    (calls-begun script first is_read (begin_long (all_calls script) 0 clients)
    (λ client within. begin_is (all_calls script) 0 clients client (omega (arith, begin_long (all_calls script) 0 clients)) ∙ ap (λ n. first_of n (all_calls script)) (let e : 0 + client ≡ client = omega arith in e)))
    scheduled.in_order

-- ---- which call is next

pub next-least : (script : Script) (history : List HistoryEntry) (cursors : List ℕ) (v : Volume) (call : Call) → IsReadScript script → StandAt (all_calls script) history cursors → length cursors ≡ length script.setup.clients
    → slice_get (all_calls script) (slice_index_or cursors call.client 0) ≡ Some call → waits v call.client ≡ false
    → ((client : ℕ) → client < length cursors → waits v client ≡ false → slice_index_or cursors call.client 0 ≤ slice_index_or cursors client 0)
    → next_in (all_calls script) history v ≡ Some call
next-least script history cursors v call is_read stands long at free least =
    next_in-least (all_calls script) history cursors v call stands at free least
    (λ place other there. (let within : other.client < length script.setup.clients = call_within script place other is_read there in omega arith))

pub next-none : (script : Script) (history : List HistoryEntry) (cursors : List ℕ) (v : Volume) → IsReadScript script → StandAt (all_calls script) history cursors → length cursors ≡ length script.setup.clients
    → ((client : ℕ) → client < length cursors → waits v client ≡ false → length (all_calls script) ≤ slice_index_or cursors client 0) → next_in (all_calls script) history v ≡ None
next-none script history cursors v is_read stands long none =
    next_in-none (all_calls script) history cursors v stands none
    (λ place other there. (let within : other.client < length script.setup.clients = call_within script place other is_read there in omega arith))
