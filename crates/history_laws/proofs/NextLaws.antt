-- In a schedule some call is next until all are made.
use Rattle.std.proofs.Common.{◌≡◌, ℕ, ◌+◌, ◌<◌, ◌≤◌, zero, suc, List, [], ◌∷◌, ◌++◌, length, map, take, Bool, true, false, not, Some, None, refl, ap, sym, subst, ◌∙◌, arith, eq-eqb, inl, inr}
use Rattle.std.specs.Prelude.{◌==◌, ◌&&◌, ◌||◌, find, slice_get}
use Rattle.std.specs.List.{list_any, list_all, enumerate_from}
use Rattle.std.proofs.lemmas.Bool.{cases_Bool, eqb-true, not-false}
use Rattle.std.proofs.lemmas.List.{length-map}
use Rattle.std.proofs.lemmas.List.Elements.{All-nil, All-push}
use Rattle.std.proofs.lemmas.Option.{get_or_from_slice_get, slice_get-get_or, slice_get_within}
use Rattle.fsa_types.specs.declared.request.Call.{Call}
use Rattle.fsa_model.specs.Engine.{is_entry_of}
use Rattle.fsa_model.specs.Frame.{is_leave}
use Rattle.fsa_model.specs.History.{HistoryEntry, Run, begun, run, steps, turn_on, with_turn}
use Rattle.fsa_model.specs.LineCalls.{AreLineCalls, IsLineCall}
use Rattle.fsa_model.specs.Lookups.{has_left}
use Rattle.fsa_model.specs.Once.{how_many, times}
use Rattle.fsa_model.specs.Schedule.{AreNumbered, HasAllCalls, Scheduled, all_calls, is_made, is_same_call, leave_after, next, next_in}
use Rattle.fsa_model.specs.Setup.{Client, Script, Setup}
use Rattle.fsa_model.specs.Sound.{PointFits}
use Rattle.fsa_model.specs.Turn.{turn}
use Rattle.fsa_model.specs.Volume.{File, Pending, Volume, fresh, root}
use Rattle.fsa_model.specs.Waiting.{all_wait, is_wait, next_ready, waits}
use Rattle.fsa_model.proofs.CountLaws.{and_left, and_right, none-how_many}
use Rattle.fsa_model.proofs.EngineLaws.{Scheduled-differ}
use Rattle.fsa_model.proofs.OnceHistory.{MayTurn-fresh}
use Rattle.fsa_model.proofs.OnceLaws.{is_same-refl}
use Rattle.fsa_model.proofs.RowLaws.{option_cases, or_right}
use Rattle.fsa_model.proofs.SettleLaws.{some_equal}
use Rattle.fsa_model.proofs.TurnLaws.{MayTurn, Turns, turn-turns}
use Rattle.fsa_model.proofs.WaitEnds.{run-goes_on}
use Rattle.fsa_model.proofs.WaitLaws.{or_none}
use Rattle.history_laws.proofs.LeavingLaws.{IsServed, TurnsLeft, turn-left}
use Rattle.history_laws.proofs.PlaceLaws.{is_same-at}

-- ---- the calls of a script

AreLineCalls-append : (clients : ℕ) (front back : List Call) → AreLineCalls clients front → AreLineCalls clients back → AreLineCalls clients (front ++ back)
AreLineCalls-append clients [] back first second = second
AreLineCalls-append clients (call ∷ front) back first second = (first.0, AreLineCalls-append clients front back first.1 second)

-- the leavings of these clients, of whom the first has this place
abbrev pub leaves_from : List Call → ℕ → List Client → List Call
leaves_from lines first clients = map (λ numbered. leave_after lines numbered.0) (enumerate_from first clients)

AreLineCalls-leaves : (lines : List Call) (all place : ℕ) (clients : List Client) → place + length clients ≤ all → AreLineCalls all (leaves_from lines place clients)
AreLineCalls-leaves lines all place [] within = tt
AreLineCalls-leaves lines all place (client ∷ clients) within =
    (record { fits = refl; ticks = refl; client = omega arith }, AreLineCalls-leaves lines all (place + 1) clients (omega arith))

-- the leavings are such calls too
pub AreLineCalls-all : (script : Script) → AreLineCalls (length script.setup.clients) script.lines → AreLineCalls (length script.setup.clients) (all_calls script)
AreLineCalls-all script fit =
    AreLineCalls-append (length script.setup.clients) script.lines (leaves_from script.lines 0 script.setup.clients) fit
    (AreLineCalls-leaves script.lines (length script.setup.clients) 0 script.setup.clients (omega arith))

pub AreLineCalls-at : (clients : ℕ) (calls : List Call) (place : ℕ) (call : Call) → AreLineCalls clients calls → slice_get calls place ≡ Some call → IsLineCall clients call
AreLineCalls-at clients [] place call fit at = absurd (cc)
AreLineCalls-at clients (first ∷ more) zero call fit at = let same : first ≡ call = cc in subst (IsLineCall clients) same fit.0
AreLineCalls-at clients (first ∷ more) (suc place) call fit at = AreLineCalls-at clients more place call fit.1 at

-- where a client's leaving stands
leave_from : (lines : List Call) (first : ℕ) (clients : List Client) (i : ℕ) → i < length clients → slice_get (leaves_from lines first clients) i ≡ Some (leave_after lines (first + i))
leave_from lines first [] i within = absurd (omega arith)
leave_from lines first (client ∷ clients) zero within = ap (λ n. Some (leave_after lines n)) (let e : first ≡ first + 0 = omega arith in e)
leave_from lines first (client ∷ clients) (suc i) within =
    leave_from lines (first + 1) clients i (omega arith) ∙ ap (λ n. Some (leave_after lines n)) (let e : first + 1 + i ≡ first + suc i = omega arith in e)

pub slice_get-behind : {X : Type 0} (front back : List X) (i : ℕ) → slice_get (front ++ back) (length front + i) ≡ slice_get back i
slice_get-behind [] back i = ap (slice_get back) (let e : 0 + i ≡ i = omega arith in e)
slice_get-behind (x ∷ front) back i = ap (slice_get (x ∷ front ++ back)) (let e : suc (length front) + i ≡ suc (length front + i) = omega arith in e) ∙ slice_get-behind front back i

pub leave_at : (script : Script) (client : ℕ) → client < length script.setup.clients → slice_get (all_calls script) (length script.lines + client) ≡ Some (leave_after script.lines client)
leave_at script client within =
    slice_get-behind script.lines (leaves_from script.lines 0 script.setup.clients) client
    ∙ leave_from script.lines 0 script.setup.clients client within
    ∙ ap (λ n. Some (leave_after script.lines n)) (let e : 0 + client ≡ client = omega arith in e)

-- ---- the calls of a schedule

-- each call of the history stands among these calls
abbrev pub AreAmong : List Call → List HistoryEntry → Type 0
AreAmong calls [] = Unit {0}
AreAmong calls (entry ∷ more) = ((place : ℕ) × (slice_get calls place ≡ Some entry.call)) × AreAmong calls more

pub found_at : {X : Type 0} (test : X → Bool) (xs : List X) (x : X) → find test xs ≡ Some x → (place : ℕ) × (slice_get xs place ≡ Some x)
found_at test [] x found = absurd (cc)
found_at test (first ∷ xs) x found = elim (cases_Bool (test first)) [
  | inl is ↦ (0, (let here : Some first ≡ Some x = rw is at found in here))
  | inr isnt ↦ (let rest = found_at test xs x (rw isnt at found) in (suc rest.0, rest.1))
]

pub next_at : (script : Script) (history : List HistoryEntry) (call : Call) → next script history ≡ Some call → (place : ℕ) × (slice_get (all_calls script) place ≡ Some call)
next_at script history call is = elim (option_cases (run script.setup history)) [
  | inl none ↦ (let impossible : None ≡ Some call = rw none at is in absurd (cc))
  | inr some ↦ found_at _ (all_calls script) call (rw some.1 at is)
]

among_each : (calls : List Call) (history : List HistoryEntry) → ((k : ℕ) (entry : HistoryEntry) → slice_get history k ≡ Some entry → (place : ℕ) × (slice_get calls place ≡ Some entry.call)) → AreAmong calls history
among_each calls [] each = tt
among_each calls (entry ∷ more) each = (each 0 entry refl, among_each calls more (λ k later at. each (suc k) later at))

pub Scheduled-among : (script : Script) (history : List HistoryEntry) → Scheduled script history → AreAmong (all_calls script) history
Scheduled-among script history scheduled = among_each (all_calls script) history (λ k entry at. next_at script (take k history) entry.call (scheduled.in_order k entry at))

-- ---- who has left after a schedule

-- the client's leaving is in the history
abbrev pub leaves : ℕ → List HistoryEntry → Bool
leaves client history = list_any (λ entry. entry.call.client == client && is_leave entry.call.what) history

-- what is kept in a history, and who has left at its end
pub record HistoryLeft (v : Volume) (history : List HistoryEntry) (w : Volume) : Type 0 where
  pub served : IsServed w
  pub long : length w.left ≡ length v.left
  pub stay : (client : ℕ) → has_left v client ≡ true → has_left w client ≡ true
  pub gone : (client : ℕ) → client < length v.left → leaves client history ≡ true → has_left w client ≡ true

steps-left : (clients : ℕ) (calls : List Call) (r s : Run) (history : List HistoryEntry) → AreLineCalls clients calls → AreAmong calls history → MayTurn r.volume → next_ready r.volume ≡ None
    → ((client number : ℕ) → times client number r.volume + how_many (is_entry_of client number) history ≤ 1) → IsServed r.volume → steps turn_on r history ≡ Some s → HistoryLeft r.volume history s.volume
steps-left clients calls r s [] fit among may done differ served is = (let same : r ≡ s = some_equal r s is in
    subst (λ (s : Run). HistoryLeft r.volume [] s.volume) same (record { served = served; long = refl; stay = λ client gone. gone; gone = λ client inside never. absurd (cc) }))
steps-left clients calls r s (entry ∷ history) fit among may done differ served is = elim (option_cases (turn r.volume entry.call entry.starved)) [
  | inl none ↦ (let impossible : None ≡ Some s = rw none at is in absurd (cc))
  | inr some ↦ (let turns : Turns r.volume entry.call some.0.volume = turn-turns r.volume entry.call entry.starved some.0 may new some.1 in
      let now : TurnsLeft r.volume entry.call some.0.volume = turn-left r.volume entry.call entry.starved some.0 may new (AreLineCalls-at clients calls among.0.0 entry.call fit among.0.1).fits served some.1 in
      let rest : HistoryLeft some.0.volume history s.volume = steps-left clients calls (with_turn r some.0) s history fit among.1 turns.may turns.done
      (λ client number. (let one = turns.times client number in let few = differ client number in omega arith)) now.served (rw some.1 at is) in
      record {
        served = rest.served;
        long = rest.long ∙ now.long;
        stay = λ client gone. rest.stay client (now.stay client gone);
        gone = λ client inside leaving. elim (cases_Bool (entry.call.client == client && is_leave entry.call.what)) [
          | inl here ↦ (let same : entry.call.client ≡ client = eqb-true entry.call.client client (and_left (entry.call.client == client) (is_leave entry.call.what) here) in
              rest.stay client (ap (has_left some.0.volume) (sym same) ∙ now.leaves (and_right (entry.call.client == client) (is_leave entry.call.what) here) (subst (λ (c : ℕ). c < length r.volume.left) (sym same) inside)))
          | inr later ↦ rest.gone client (omega (arith, now.long)) (rw later at leaving)
        ];
      })
]
  where
    new : times entry.call.client entry.call.number r.volume ≡ 0
    new = (let few = differ entry.call.client entry.call.number in
        let self : is_entry_of entry.call.client entry.call.number entry ≡ true = is_same-refl entry.call.client entry.call.number in
        let one : times entry.call.client entry.call.number r.volume + (1 + how_many (is_entry_of entry.call.client entry.call.number) history) ≤ 1 = rw self at few in omega arith)

IsServed-fresh : (setup : Setup) → IsServed (fresh setup)
IsServed-fresh setup = record {
  points = All-push (λ (entry : ℕ × File). PointFits entry.1) [] (1, root) (All-nil _) tt;
  fit = refl;
  quiet = λ client gone. refl;
}

pub Scheduled-left : (script : Script) (history : List HistoryEntry) (r : Run) → AreLineCalls (length script.setup.clients) script.lines → Scheduled script history → run script.setup history ≡ Some r
    → HistoryLeft (fresh script.setup) history r.volume
Scheduled-left script history r fit scheduled is =
    steps-left (length script.setup.clients) (all_calls script) (begun script.setup) r history (AreLineCalls-all script fit) (Scheduled-among script history scheduled) (MayTurn-fresh script.setup) refl
    (λ client number. (let few : how_many (is_entry_of client number) history ≤ 1 = Scheduled-differ script history scheduled client number in omega arith)) (IsServed-fresh script.setup) is

-- a leaving that was made
made_leaves : (calls : List Call) (history : List HistoryEntry) (place : ℕ) (call : Call) → AreNumbered [] calls → AreAmong calls history → slice_get calls place ≡ Some call → is_leave call.what ≡ true
    → is_made history call ≡ true → leaves call.client history ≡ true
made_leaves calls [] place call numbered among at leaving made = absurd (cc)
made_leaves calls (entry ∷ history) place call numbered among at leaving made = elim (cases_Bool (is_same_call entry.call call)) [
  | inr other ↦ (let rest = made_leaves calls history place call numbered among.1 at leaving (rw other at made) in or_right (entry.call.client == call.client && is_leave entry.call.what) (leaves call.client history) rest)
  | inl is ↦ (let here : among.0.0 ≡ place = is_same-at calls among.0.0 place entry.call call numbered among.0.1 at is in
      let one : Some call ≡ Some entry.call = sym at ∙ ap (slice_get calls) (sym here) ∙ among.0.1 in
      let same : call ≡ entry.call = cc in
      let both : (entry.call.client == call.client && is_leave entry.call.what) ≡ true
      = subst (λ (c : Call). (c.client == call.client && is_leave c.what) ≡ true) same (rw (eq-eqb call.client call.client refl, leaving) refl) in
      rw both refl)
]

-- ---- some call is next

find-none : {X : Type 0} (test : X → Bool) (xs : List X) → find test xs ≡ None → (place : ℕ) (x : X) → slice_get xs place ≡ Some x → test x ≡ false
find-none test [] none place x at = absurd (cc)
find-none {X} test (first ∷ xs) none place x at = elim (cases_Bool (test first)) [
  | inl is ↦ (let impossible : Some first ≡ None = rw is at none in absurd (cc))
  | inr isnt ↦ of place at isnt (find-none test xs (rw isnt at none))
]
  where
    of : (place : ℕ) → slice_get (first ∷ xs) place ≡ Some x → test first ≡ false → ((later : ℕ) (y : X) → slice_get xs later ≡ Some y → test y ≡ false) → test x ≡ false
    of zero at isnt rest = (let same : first ≡ x = cc in ap test (sym same) ∙ isnt)
    of (suc later) at isnt rest = rest later x at

all_enumerated : {X : Type 0} (test : ℕ × X → Bool) (xs : List X) (first : ℕ) → ((i : ℕ) (x : X) → slice_get xs i ≡ Some x → test (first + i, x) ≡ true) → list_all test (enumerate_from first xs) ≡ true
all_enumerated test [] first each = refl
all_enumerated {X} test (x ∷ xs) first each =
    let here : test (first, x) ≡ true = subst (λ (n : ℕ). test (n, x) ≡ true) (let e : first + 0 ≡ first = omega arith in e) (each 0 x refl) in
    rw here (all_enumerated test xs (first + 1) (λ i y at. subst (λ (n : ℕ). test (n, y) ≡ true) (let e : first + suc i ≡ first + 1 + i = omega arith in e) (each (suc i) y at)))

none_enumerated : {X : Type 0} (test : ℕ × X → Bool) (xs : List X) (first : ℕ) → list_any test (enumerate_from first xs) ≡ false → (i : ℕ) (x : X) → slice_get xs i ≡ Some x → test (first + i, x) ≡ false
none_enumerated test [] first none i x at = absurd (cc)
none_enumerated {X} test (one ∷ xs) first none zero x at =
    let same : one ≡ x = cc in
    subst (λ (n : ℕ). test (n, x) ≡ false) (let e : first ≡ first + 0 = omega arith in e) (ap (λ (y : X). test (first, y)) (sym same) ∙ (or_none (test (first, one)) (list_any test (enumerate_from (first + 1) xs)) none).0)
none_enumerated {X} test (one ∷ xs) first none (suc i) x at =
    subst (λ (n : ℕ). test (n, x) ≡ false) (let e : first + 1 + i ≡ first + suc i = omega arith in e)
    (none_enumerated test xs (first + 1) (or_none (test (first, one)) (list_any test (enumerate_from (first + 1) xs)) none).1 i x at)

all_at : {X : Type 0} (test : X → Bool) (xs : List X) → ((place : ℕ) (x : X) → slice_get xs place ≡ Some x → test x ≡ true) → list_all test xs ≡ true
all_at test [] each = refl
all_at test (x ∷ xs) each = rw (each 0 x refl) (all_at test xs (λ place y at. each (suc place) y at))

-- where no call is next all were made
pub none_next-all : (script : Script) (history : List HistoryEntry) (r : Run) → AreNumbered [] (all_calls script) → AreLineCalls (length script.setup.clients) script.lines
    → Scheduled script history → run script.setup history ≡ Some r → next_in (all_calls script) history r.volume ≡ None → HasAllCalls script history
none_next-all script history r numbered fit scheduled runs none =
    all_at (is_made history) (all_calls script) (λ place call at. made place call at (quiet call.client (gone_all call.client ((AreLineCalls-at clients (all_calls script) place call (AreLineCalls-all script fit) at).client))))
  where
    clients : ℕ
    clients = length script.setup.clients

    left : HistoryLeft (fresh script.setup) history r.volume
    left = Scheduled-left script history r fit scheduled runs

    long : length r.volume.left ≡ clients
    long = left.long ∙ length-map script.setup.clients (λ _. false)

    -- who doesn't wait has made all its calls
    made : (place : ℕ) (call : Call) → slice_get (all_calls script) place ≡ Some call → waits r.volume call.client ≡ false → is_made history call ≡ true
    made place call at free =
        let fails : (not (is_made history call) && not (waits r.volume call.client)) ≡ false = find-none (λ c. not (is_made history c) && not (waits r.volume c.client)) (all_calls script) none place call at in
        of (is_made history call) (waits r.volume call.client) free fails
      where
        of : (is waiting : Bool) → waiting ≡ false → (not is && not waiting) ≡ false → is ≡ true
        of true waiting free fails = refl
        of false true free fails = sym free
        of false false free fails = sym fails

    -- and has left
    gone : (client : ℕ) → client < clients → waits r.volume client ≡ false → has_left r.volume client ≡ true
    gone client inside free =
        left.gone client (omega (arith, left.long, long, inside))
        (made_leaves (all_calls script) history (length script.lines + client) (leave_after script.lines client) numbered (Scheduled-among script history scheduled) (leave_at script client inside) refl
        (made (length script.lines + client) (leave_after script.lines client) (leave_at script client inside) free))

    -- so all have left
    gone_all : (client : ℕ) → client < clients → has_left r.volume client ≡ true
    gone_all client inside =
        let at : slice_get r.volume.left client ≡ Some (has_left r.volume client) = slice_get-get_or r.volume.left client false (omega (arith, long, inside)) in
        let fails : not (has_left r.volume client) ≡ false = none_enumerated (λ (c : ℕ × Bool). not c.1) r.volume.left 0 none_stays client (has_left r.volume client) at in
        not-false (has_left r.volume client) fails
      where
        each : (i : ℕ) (x : Bool) → slice_get r.volume.left i ≡ Some x → (x || waits r.volume (0 + i)) ≡ true
        each i x at =
            let is : has_left r.volume i ≡ x = get_or_from_slice_get r.volume.left i x false at in
            let within : i < length r.volume.left = slice_get_within r.volume.left i x at in
            subst (λ (n : ℕ). (x || waits r.volume n) ≡ true) (let e : i ≡ 0 + i = omega arith in e)
            (elim (cases_Bool (waits r.volume i)) [
              | inl waiting ↦ rw waiting (or_right x true refl)
              | inr free ↦ (let true_is : x ≡ true = sym is ∙ gone i (omega (arith, long, within)) free in rw true_is refl)
            ])

        none_stays : list_any (λ (c : ℕ × Bool). not c.1) (enumerate_from 0 r.volume.left) ≡ false
        none_stays = (
            let goes : all_wait r.volume ≡ false = run-goes_on script.setup history r runs in
            let all : list_all (λ (c : ℕ × Bool). c.1 || waits r.volume c.0) (enumerate_from 0 r.volume.left) ≡ true = all_enumerated (λ (c : ℕ × Bool). c.1 || waits r.volume c.0) r.volume.left 0 each in
            of (list_any (λ (c : ℕ × Bool). not c.1) (enumerate_from 0 r.volume.left)) (list_all (λ (c : ℕ × Bool). c.1 || waits r.volume c.0) (enumerate_from 0 r.volume.left)) all goes)
          where
            of : (b c : Bool) → c ≡ true → (b && c) ≡ false → b ≡ false
            of true c all goes = sym all ∙ goes
            of false c all goes = refl

    quiet : (client : ℕ) → has_left r.volume client ≡ true → waits r.volume client ≡ false
    quiet client has_gone = none-how_many (λ (e : ℕ × Pending). e.1.call.client == client && is_wait e.1.call.what) r.volume.pending (left.served.quiet client has_gone)
