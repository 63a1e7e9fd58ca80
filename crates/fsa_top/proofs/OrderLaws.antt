-- Laws of the order of calls: where the leavings stand, and what is listed from the last line to the first.
use Rattle.std.proofs.Common.{◌≡◌, ℕ, ◌+◌, ◌<◌, ◌≤◌, zero, suc, List, [], ◌∷◌, ◌++◌, length, length-append, drop, set, Bool, true, false, not, Some, refl, ap, sym, subst, ◌∙◌, arith, inl, inr, eq-eqb, get_or, length-set, length-drop, ◌-◌, ◌≢◌}
use Rattle.std.specs.Prelude.{◌==◌, ◌&&◌, nat_lt, slice_get, slice_index_or, if◌then◌else◌}
use Rattle.std.proofs.lemmas.Bool.{cases_Bool, eqb-true, ltb-true, ltb-false}
use Rattle.std.proofs.lemmas.List.{get_or-set_same, get_or-set_other}
use Rattle.std.proofs.lemmas.Option.{slice_get-get_or, slice_get_within, get_or_from_slice_get}
use Rattle.fsa_types.specs.declared.request.Call.{Call}
use Rattle.fsa_model.specs.Schedule.{all_calls, leave_after}
use Rattle.fsa_model.specs.Setup.{Client, Script}
use Rattle.history_laws.specs.Cursors.{first_from, first_of}
use Rattle.history_laws.specs.Named.{IsReadScript}
use Rattle.history_laws.proofs.CursorLaws.{first_from-before, first_from-is, first_from-least}
use Rattle.history_laws.proofs.NextLaws.{leave_at, leaves_from}
use Rattle.history_laws.proofs.OrderLaws.{call_within}
use Rattle.history_laws.proofs.PlaceLaws.{first_of-most}
use Rattle.fsa_top.specs.Order.{AreNextPlaces, IsLeastCursor}

-- ---- the calls of a script

length-leaves : (lines : List Call) (first : ℕ) (clients : List Client) → length (leaves_from lines first clients) ≡ length clients
length-leaves lines first [] = refl
length-leaves lines first (client ∷ clients) = ap suc (length-leaves lines (first + 1) clients)

-- its lines and the leavings
pub length-all_calls : (script : Script) → length (all_calls script) ≡ length script.lines + length script.setup.clients
length-all_calls script = length-append script.lines (leaves_from script.lines 0 script.setup.clients) ∙ ap (λ n. length script.lines + n) (length-leaves script.lines 0 script.setup.clients)

-- a line stands among all calls where it stands among the lines
pub line_at : (script : Script) (place : ℕ) (call : Call) → slice_get script.lines place ≡ Some call → slice_get (all_calls script) place ≡ Some call
line_at script place call at = front script.lines place at
  where
    front : (lines : List Call) (i : ℕ) → slice_get lines i ≡ Some call → slice_get (lines ++ leaves_from script.lines 0 script.setup.clients) i ≡ Some call
    front [] i at = absurd (cc)
    front (first ∷ lines) zero at = at
    front (first ∷ lines) (suc i) at = front lines i at

-- behind all calls there is none
pub first_from-most : (client place : ℕ) (calls : List Call) → place ≤ length calls → first_from client place calls ≤ length calls
first_from-most client place calls within =
    let few : first_of client (drop place calls) ≤ length (drop place calls) = first_of-most client (drop place calls) in
    let long : length (drop place calls) ≡ length calls - place = length-drop place calls in omega arith

-- ---- where the leavings stand

leave_of : (script : Script) (client place : ℕ) (call : Call) → length script.lines ≤ place → slice_get (all_calls script) place ≡ Some call → call.client ≡ place - length script.lines
leave_of script client place call behind at =
    let inside : place < length (all_calls script) = slice_get_within (all_calls script) place call at in
    let long : length (all_calls script) ≡ length script.lines + length script.setup.clients = length-all_calls script in
    let k : ℕ = place - length script.lines in
    let here : slice_get (all_calls script) place ≡ Some (leave_after script.lines k)
    = ap (slice_get (all_calls script)) (let e : place ≡ length script.lines + (place - length script.lines) = omega arith in e) ∙ leave_at script k (omega arith) in
    let both : Some call ≡ Some (leave_after script.lines k) = sym at ∙ here in
    let same : call ≡ leave_after script.lines k = cc in
    ap (λ (c : Call). c.client) same

-- behind the lines a client's next call is its leaving
pub leaves_first : (script : Script) (client : ℕ) → client < length script.setup.clients → first_from client (length script.lines) (all_calls script) ≡ length script.lines + client
leaves_first script client inside =
    let calls : List Call = all_calls script in
    let place : ℕ = first_from client (length script.lines) calls in
    let long : length calls ≡ length script.lines + length script.setup.clients = length-all_calls script in
    let least : length script.lines ≤ place = first_from-least client (length script.lines) calls in
    let most : place ≤ length script.lines + client = first_from-before client (length script.lines) calls (length script.lines + client) (leave_after script.lines client) (leave_at script client inside) refl (omega arith) in
    let at : slice_get calls place ≡ Some (get_or calls place (leave_after script.lines client)) = slice_get-get_or calls place (leave_after script.lines client) (omega (arith, most, long, inside)) in
    let own : (get_or calls place (leave_after script.lines client)).client ≡ client = first_from-is client (length script.lines) calls _ at in
    let is : (get_or calls place (leave_after script.lines client)).client ≡ place - length script.lines = leave_of script client place _ least at in
    omega (arith, least, own, is)

-- and behind that it has none
pub leaves_none : (script : Script) (client : ℕ) → client < length script.setup.clients → first_from client (length script.lines + client + 1) (all_calls script) ≡ length (all_calls script)
leaves_none script client inside =
    let calls : List Call = all_calls script in
    let place : ℕ = first_from client (length script.lines + client + 1) calls in
    let long : length calls ≡ length script.lines + length script.setup.clients = length-all_calls script in
    let least : length script.lines + client + 1 ≤ place = first_from-least client (length script.lines + client + 1) calls in
    let most : place ≤ length calls = first_from-most client (length script.lines + client + 1) calls (omega (arith, long, inside)) in
    elim (cases_Bool (nat_lt place (length calls))) [
      | inr isnt ↦ (let past : length calls ≤ place = ltb-false place (length calls) isnt in omega (arith, past, most))
      | inl is ↦ absurd (let within : place < length calls = ltb-true place (length calls) is in
          let at : slice_get calls place ≡ Some (get_or calls place (leave_after script.lines client)) = slice_get-get_or calls place (leave_after script.lines client) within in
          let own : (get_or calls place (leave_after script.lines client)).client ≡ client = first_from-is client (length script.lines + client + 1) calls _ at in
          let leaves : (get_or calls place (leave_after script.lines client)).client ≡ place - length script.lines = leave_of script client place _ (omega (arith, least)) at in
          omega (arith, least, own, leaves))
    ]

-- ---- from the last line to the first

-- what was listed of the lines from this place on
pub record ListedFrom (script : Script) (place : ℕ) (places following : List ℕ) : Type 0 where
  pub long : length places ≡ length script.setup.clients
  pub long_following : length following ≡ length script.lines
  pub first : (client : ℕ) → client < length places → slice_index_or places client 0 ≡ first_from client place (all_calls script)
  pub behind : (i : ℕ) (call : Call) → place ≤ i → slice_get script.lines i ≡ Some call → slice_index_or following i 0 ≡ first_from call.client (i + 1) (all_calls script)

pub ListedFrom-begun : (script : Script) (places following : List ℕ) → length places ≡ length script.setup.clients → length following ≡ length script.lines
    → ((client : ℕ) → client < length places → slice_index_or places client 0 ≡ length script.lines + client) → ListedFrom script (length script.lines) places following
ListedFrom-begun script places following long long_following leaves = record {
  long = long;
  long_following = long_following;
  first = λ client inside. leaves client inside ∙ sym (leaves_first script client (omega (arith, long, inside)));
  behind = λ i call past at. absurd (let within : i < length script.lines = slice_get_within script.lines i call at in omega (arith, within, past));
}

first_from-other : (client place : ℕ) (calls : List Call) (call : Call) → slice_get calls place ≡ Some call → (call.client == client) ≡ false → first_from client place calls ≡ first_from client (place + 1) calls
first_from-other client place [] call at other = absurd (cc)
first_from-other client zero (first ∷ more) call at other =
    let same : first ≡ call = cc in
    let apart : (first.client == client) ≡ false = ap (λ (c : Call). c.client == client) same ∙ other in
    let one : first_of client (first ∷ more) ≡ suc (first_of client more) = rw apart refl in
    let next : first_from client (0 + 1) (first ∷ more) ≡ 1 + first_of client more = ap (λ n. first_from client n (first ∷ more)) (let e : 0 + 1 ≡ suc 0 = omega arith in e) in
    omega (arith, one, next)
first_from-other client (suc place) (first ∷ more) call at other =
    let rest : first_from client place more ≡ first_from client (place + 1) more = first_from-other client place more call at other in
    let next : first_from client (suc place + 1) (first ∷ more) ≡ suc (place + 1) + first_of client (drop (place + 1) more) = ap (λ n. first_from client n (first ∷ more)) (let e : suc place + 1 ≡ suc (place + 1) = omega arith in e) in
    omega (arith, rest, next)

pub ListedFrom-next : (script : Script) (place : ℕ) (places following : List ℕ) (call : Call) → IsReadScript script → slice_get script.lines place ≡ Some call → ListedFrom script (place + 1) places following
    → ListedFrom script place (set places call.client place) (set following place (get_or places call.client 0))
ListedFrom-next script place places following call is_read at listed = record {
  long = length-set places call.client place ∙ listed.long;
  long_following = length-set following place (get_or places call.client 0) ∙ listed.long_following;
  first = λ client inside. elim (cases_Bool (client == call.client)) [
    | inl is ↦ (let same : client ≡ call.client = eqb-true client call.client is in
        let least : place ≤ first_from client place (all_calls script) = first_from-least client place (all_calls script) in
        let most : first_from client place (all_calls script) ≤ place = first_from-before client place (all_calls script) place call (line_at script place call at) (sym same) (omega arith) in
        let now : get_or (set places call.client place) client 0 ≡ place = ap (λ (c : ℕ). get_or (set places call.client place) c 0) same ∙ get_or-set_same places call.client place 0 within in
        now ∙ omega (arith, least, most))
    | inr isnt ↦ (let apart : client ≢ call.client = λ e. differ client call.client e isnt in
        get_or-set_other places call.client client place 0 apart
        ∙ listed.first client (let l : length (set places call.client place) ≡ length places = length-set places call.client place in omega (arith, l, inside))
        ∙ sym (first_from-other client place (all_calls script) call (line_at script place call at) (turned client call.client isnt)))
  ];
  behind = λ i other least there. elim (cases_Bool (i == place)) [
    | inl is ↦ (let same : i ≡ place = eqb-true i place is in
        let both : Some other ≡ Some call = sym there ∙ ap (slice_get script.lines) same ∙ at in
        let equal : call ≡ other = cc in
        let inside : place < length following = (let l : place < length script.lines = slice_get_within script.lines place call at in omega (arith, l, listed.long_following)) in
        ap (λ (n : ℕ). get_or (set following place (get_or places call.client 0)) n 0) same
        ∙ get_or-set_same following place (get_or places call.client 0) 0 inside
        ∙ listed.first call.client within
        ∙ ap (λ (n : ℕ). first_from call.client (n + 1) (all_calls script)) (sym same)
        ∙ ap (λ (c : Call). first_from c.client (i + 1) (all_calls script)) equal)
    | inr isnt ↦ (let apart : i ≢ place = λ e. differ i place e isnt in
        get_or-set_other following place i (get_or places call.client 0) 0 apart
        ∙ listed.behind i other (let less : place ≢ i = λ e. apart (sym e) in omega (arith, least, less)) there)
  ];
}
  where
    within : call.client < length places
    within = (let inside : call.client < length script.setup.clients = call_within script place call is_read (line_at script place call at) in omega (arith, inside, listed.long))

    differ : (a b : ℕ) → a ≡ b → (a == b) ≡ false → ⊥
    differ a b e isnt = (let is : (a == b) ≡ true = eq-eqb a b e in let never : true ≡ false = sym is ∙ isnt in cc)

    turned : (a b : ℕ) → (a == b) ≡ false → (b == a) ≡ false
    turned a b isnt = elim (cases_Bool (b == a)) [
      | inr is ↦ is
      | inl same ↦ absurd (differ a b (sym (eqb-true b a same)) isnt)
    ]

pub ListedFrom-follows : (script : Script) (places following : List ℕ) → ListedFrom script 0 places following → AreNextPlaces script following
ListedFrom-follows script places following listed = record { long = listed.long_following; each = λ place call at. listed.behind place call (omega arith) at }

pub ListedFrom-first : (script : Script) (places following : List ℕ) → ListedFrom script 0 places following → (client : ℕ) → client < length places → slice_index_or places client 0 ≡ first_of client (all_calls script)
ListedFrom-first script places following listed client inside = listed.first client inside ∙ (let e : 0 + first_of client (all_calls script) ≡ first_of client (all_calls script) = omega arith in e)

-- ---- the least cursor

pub IsLeastCursor-begun : (waiting : ℕ → Bool) (cursors : List ℕ) (all : ℕ) → IsLeastCursor waiting cursors 0 all all
IsLeastCursor-begun waiting cursors all = record { most = omega arith; least = λ client none free. absurd (omega arith); is = inl refl }

pub IsLeastCursor-next : (waiting : ℕ → Bool) (cursors : List ℕ) (client all least : ℕ) → IsLeastCursor waiting cursors client all least
    → IsLeastCursor waiting cursors (client + 1) all (if nat_lt (get_or cursors client 0) least && not (waiting client) then get_or cursors client 0 else least)
IsLeastCursor-next waiting cursors client all least so = elim (cases_Bool (waiting client)) [
  | inl waits ↦ subst (λ (n : ℕ). IsLeastCursor waiting cursors (client + 1) all n) (sym (kept (nat_lt place least) (waiting client) waits)) (stay (λ free. absurd (let never : true ≡ false = sym waits ∙ free in cc)))
  | inr free ↦ elim (cases_Bool (nat_lt place least)) [
    | inr isnt ↦ (let past : least ≤ place = ltb-false place least isnt in
        subst (λ (n : ℕ). IsLeastCursor waiting cursors (client + 1) all n) (sym (not_less (waiting client) isnt)) (stay (λ _. past)))
    | inl is ↦ (let less : place < least = ltb-true place least is in
        subst (λ (n : ℕ). IsLeastCursor waiting cursors (client + 1) all n) (sym (taken is free)) record {
          most = omega (arith, less, so.most);
          least = λ other within other_free. elim (cases_Bool (other == client)) [
            | inl same ↦ (let e : other ≡ client = eqb-true other client same in let here : get_or cursors other 0 ≡ place = ap (λ (c : ℕ). get_or cursors c 0) e in omega (arith, here))
            | inr apart ↦ (let rest : least ≤ get_or cursors other 0 = so.least other (earlier other within apart) other_free in omega (arith, less, rest))
          ];
          is = inr (client, omega arith, free, refl);
        })
  ]
]
  where
    place : ℕ
    place = get_or cursors client 0

    kept : (less waits : Bool) → waits ≡ true → (if less && not waits then place else least) ≡ least
    kept true true is = refl
    kept true false is = absurd (cc)
    kept false waits is = refl

    not_less : (waits : Bool) → nat_lt place least ≡ false → (if nat_lt place least && not waits then place else least) ≡ least
    not_less waits isnt = rw isnt refl

    taken : nat_lt place least ≡ true → waiting client ≡ false → (if nat_lt place least && not (waiting client) then place else least) ≡ place
    taken is free = rw (is, free) refl

    earlier : (other : ℕ) → other < client + 1 → (other == client) ≡ false → other < client
    earlier other within apart = (let differs : other ≢ client = λ e. absurd (let is : (other == client) ≡ true = eq-eqb other client e in let never : true ≡ false = sym is ∙ apart in cc) in omega (arith, within, differs))

    stay : (waiting client ≡ false → least ≤ place) → IsLeastCursor waiting cursors (client + 1) all least
    stay few = record {
      most = so.most;
      least = λ other within free. elim (cases_Bool (other == client)) [
        | inl same ↦ (let e : other ≡ client = eqb-true other client same in let here : get_or cursors other 0 ≡ place = ap (λ (c : ℕ). get_or cursors c 0) e in
            let below : least ≤ place = few (ap waiting (sym e) ∙ free) in omega (arith, here, below))
        | inr apart ↦ so.least other (earlier other within apart) free
      ];
      is = elim so.is [
        | inl none ↦ inl none
        | inr some ↦ inr (some.0, omega (arith, some.1), some.2, some.3)
      ];
    }

-- ---- one line back

line_there : (script : Script) (lines : List Call) (i : ℕ) (call : Call) → lines ≡ script.lines → i < length lines → slice_get script.lines i ≡ Some (get_or lines i call)
line_there script lines i call same inside = ap (λ (l : List Call). slice_get l i) (sym same) ∙ slice_get-get_or lines i call inside

pub line_within : (script : Script) (lines : List Call) (i : ℕ) (call : Call) → IsReadScript script → lines ≡ script.lines → i < length lines → (get_or lines i call).client < length script.setup.clients
line_within script lines i call is_read same inside =
    call_within script i (get_or lines i call) is_read (line_at script i (get_or lines i call) (line_there script lines i call same inside))

pub ListedFrom-back : (script : Script) (lines : List Call) (place : ℕ) (places following : List ℕ) (call : Call) → IsReadScript script → lines ≡ script.lines → 0 < place → place ≤ length lines
    → ListedFrom script place places following
    → ListedFrom script (place - 1) (set places (get_or lines (place - 1) call).client (place - 1)) (set following (place - 1) (get_or places (get_or lines (place - 1) call).client 0))
ListedFrom-back script lines place places following call is_read same some few listed =
    ListedFrom-next script (place - 1) places following (get_or lines (place - 1) call) is_read (line_there script lines (place - 1) call same (omega (arith, some, few)))
    (subst (λ (p : ℕ). ListedFrom script p places following) (let e : place ≡ place - 1 + 1 = omega (arith, some) in e) listed)

-- ---- behind a call

pub line_behind : (script : Script) (lines : List Call) (following : List ℕ) (place : ℕ) (default : Call) (other : ℕ) → lines ≡ script.lines → AreNextPlaces script following → place < length lines
    → (call : Call) → slice_get (all_calls script) place ≡ Some call → ((get_or lines place default).client ≡ call.client) × (get_or following place other ≡ first_from call.client (place + 1) (all_calls script))
line_behind script lines following place default other same follows inside call at =
    let there : slice_get script.lines place ≡ Some (get_or lines place default) = line_there script lines place default same inside in
    let both : Some (get_or lines place default) ≡ Some call = sym (line_at script place (get_or lines place default) there) ∙ at in
    let is : get_or lines place default ≡ call = cc in
    let found : slice_get following place ≡ Some (get_or following place other) = slice_get-get_or following place other (let long : length lines ≡ length script.lines = ap length same in omega (arith, inside, long, follows.long)) in
    let zero_is : get_or following place 0 ≡ get_or following place other = get_or_from_slice_get following place (get_or following place other) 0 found in (
      ap (λ (c : Call). c.client) is,
      sym zero_is ∙ follows.each place call (there ∙ ap (λ (c : Call). Some c) is),
    )

pub leave_behind : (script : Script) (place : ℕ) → length script.lines ≤ place → (call : Call) → slice_get (all_calls script) place ≡ Some call
    → (place - length script.lines ≡ call.client) × (length script.lines + length script.setup.clients ≡ first_from call.client (place + 1) (all_calls script))
leave_behind script place past call at =
    let is : call.client ≡ place - length script.lines = leave_of script call.client place call past at in
    let inside : place < length (all_calls script) = slice_get_within (all_calls script) place call at in
    let long : length (all_calls script) ≡ length script.lines + length script.setup.clients = length-all_calls script in
    let none : first_from call.client (length script.lines + call.client + 1) (all_calls script) ≡ length (all_calls script) = leaves_none script call.client (omega (arith, is, inside, long, past)) in
    let here : first_from call.client (place + 1) (all_calls script) ≡ first_from call.client (length script.lines + call.client + 1) (all_calls script)
    = ap (λ (n : ℕ). first_from call.client n (all_calls script)) (let e : place + 1 ≡ length script.lines + call.client + 1 = omega (arith, is, past) in e) in (
      sym is,
      sym long ∙ sym none ∙ sym here,
    )

pub client_within : (script : Script) (place client : ℕ) → IsReadScript script → place < length (all_calls script) → ((call : Call) → slice_get (all_calls script) place ≡ Some call → client ≡ call.client)
    → client < length script.setup.clients
client_within script place client is_read inside own =
    let call : Call = get_or (all_calls script) place (leave_after script.lines 0) in
    let at : slice_get (all_calls script) place ≡ Some call = slice_get-get_or (all_calls script) place (leave_after script.lines 0) inside in
    let within : call.client < length script.setup.clients = call_within script place call is_read at in
    let is : client ≡ call.client = own call at in
    omega (arith, within, is)

-- ---- the call at a place

pub line_is : (script : Script) (lines : List Call) (place : ℕ) (line : Call) → lines ≡ script.lines → place < length lines → line ≡ get_or lines place line → slice_get (all_calls script) place ≡ Some line
line_is script lines place line same inside is =
    line_at script place (get_or lines place line) (line_there script lines place line same inside) ∙ ap (λ (c : Call). Some c) (sym is)

pub leave_is : (script : Script) (place : ℕ) → length script.lines ≤ place → place < length (all_calls script) → slice_get (all_calls script) place ≡ Some (leave_after script.lines (place - length script.lines))
leave_is script place past inside =
    let long : length (all_calls script) ≡ length script.lines + length script.setup.clients = length-all_calls script in
    ap (slice_get (all_calls script)) (let e : place ≡ length script.lines + (place - length script.lines) = omega (arith, past) in e)
    ∙ leave_at script (place - length script.lines) (omega (arith, past, inside, long))

pub same_call : (script : Script) (place : ℕ) (one other : Call) → slice_get (all_calls script) place ≡ Some one → slice_get (all_calls script) place ≡ Some other → one ≡ other
same_call script place one other at there = (let both : Some one ≡ Some other = sym at ∙ there in cc)
