-- Laws of cursors: where they begin, how one goes on with a turn, and which call is next by them.
use Rattle.fsa_model.proofs.RowLaws.{or-false}
use Rattle.std.proofs.Common.{◌≡◌, ℕ, ◌+◌, ◌-◌, ◌<◌, ◌≤◌, length-set, zero, suc, List, [], ◌∷◌, ◌++◌, length, drop, take, map, cond, ne_eqb, Bool, true, false, not, Some, None, refl, ap, sym, subst, ◌∙◌, arith, eq-eqb, inl, inr}
use Rattle.std.specs.Prelude.{◌==◌, ◌&&◌, ◌||◌, find, nat_lt, slice_get, slice_set, slice_index_or}
use Rattle.std.proofs.lemmas.Bool.{cases_Bool, eqb-true}
use Rattle.std.proofs.lemmas.Bool.Decides.{nat_tests}
use Rattle.std.proofs.lemmas.List.{map-append, get_or-set_same, get_or-set_other}
use Rattle.std.proofs.lemmas.Option.{slice_get_within}
use Rattle.fsa_types.specs.declared.request.Call.{Call}
use Rattle.fsa_model.specs.History.{HistoryEntry}
use Rattle.fsa_model.specs.Schedule.{AreNumbered, calls_of, is_made, is_same_call, next_in}
use Rattle.fsa_model.specs.Volume.{Volume}
use Rattle.fsa_model.specs.Waiting.{waits}
use Rattle.fsa_model.proofs.ScheduleLaws.{calls_of-push}
use Rattle.history_laws.specs.Cursors.{StandAt, first_of, first_from}
use Rattle.history_laws.proofs.PlaceLaws.{by_order, calls_of-first, calls_of-next, slice_get-drop, drop-drop, first_of-is, first_of-before, first_of-again, is_same-at, is_same-self, is_made-push}
use Rattle.history_laws.proofs.AnyLaws.{and_none}

-- ---- the first call from a place on

pub first_from-least : (client place : ℕ) (calls : List Call) → place ≤ first_from client place calls
first_from-least client place calls = omega arith

pub first_from-is : (client place : ℕ) (calls : List Call) (call : Call) → slice_get calls (first_from client place calls) ≡ Some call → call.client ≡ client
first_from-is client place calls call at = first_of-is client (drop place calls) call (slice_get-drop calls place (first_of client (drop place calls)) ∙ at)

-- between the place and it no call is the client's
pub first_from-before : (client place : ℕ) (calls : List Call) (i : ℕ) (call : Call) → slice_get calls i ≡ Some call → call.client ≡ client → place ≤ i → first_from client place calls ≤ i
first_from-before client place calls i call at own least =
    let back : slice_get (drop place calls) (i - place) ≡ Some call = slice_get-drop calls place (i - place) ∙ ap (slice_get calls) (let e : place + (i - place) ≡ i = omega arith in e) ∙ at in
    let before : first_of client (drop place calls) ≤ i - place = first_of-before client (drop place calls) (i - place) call back own in
    omega arith

pub first_from-again : (client place : ℕ) (calls : List Call) → first_from client (first_from client place calls) calls ≡ first_from client place calls
first_from-again client place calls =
    let none : first_of client (drop (first_from client place calls) calls) ≡ 0
    = ap (first_of client) (sym (drop-drop calls place (first_of client (drop place calls)))) ∙ first_of-again client (drop place calls) in
    omega arith

not_below : (i p : ℕ) → p ≤ i → nat_lt i p ≡ false
not_below i p le = grind (arith, nat_tests)

-- ---- before the first turn, and after each

pub StandAt-begun : (calls : List Call) (cursors : List ℕ) → ((client : ℕ) → client < length cursors → slice_index_or cursors client 0 ≡ first_of client calls)
    → ((place : ℕ) (call : Call) → slice_get calls place ≡ Some call → call.client < length cursors) → StandAt calls [] cursors
StandAt-begun calls cursors begins within = record {
  own = λ client inside. (let first : slice_index_or cursors client 0 ≡ first_of client calls = begins client inside in
      rw first (let again : first_from client (first_from client 0 calls) calls ≡ first_from client 0 calls = first_from-again client 0 calls in
      let zeroth : first_from client 0 calls ≡ first_of client calls = omega arith in
      subst (λ (p : ℕ). first_from client p calls ≡ p) zeroth again));
  made = λ place call at. (let first : slice_index_or cursors call.client 0 ≡ first_of call.client calls = begins call.client (within place call at) in
      let before : first_of call.client calls ≤ place = first_of-before call.client calls place call at refl in
      rw first (sym (not_below place (first_of call.client calls) before)));
  counts = λ client inside. (let none : calls_of client (take (first_from client 0 calls) calls) ≡ 0 = calls_of-first client 0 calls in
      let at : slice_index_or cursors client 0 ≡ first_from client 0 calls = begins client inside ∙ (let e : first_of client calls ≡ 0 + first_of client calls = omega arith in e) in
      rw at (sym none));
}

below : (i p : ℕ) → i < p → nat_lt i p ≡ true
below i p less = grind (arith, nat_tests)

-- the call at its client's cursor was made: the cursor goes on to the client's next call
pub StandAt-push : (calls : List Call) (history : List HistoryEntry) (cursors : List ℕ) (place : ℕ) (entry : HistoryEntry) → AreNumbered [] calls → StandAt calls history cursors
    → entry.call.client < length cursors → slice_index_or cursors entry.call.client 0 ≡ place → slice_get calls place ≡ Some entry.call
    → StandAt calls (history ++ entry ∷ []) (slice_set cursors entry.call.client (first_from entry.call.client (place + 1) calls))
StandAt-push calls history cursors place entry numbered stands within cursor at = record {
  own = λ client inside. elim (cases_Bool (client == entry.call.client)) [
    | inl is ↦ (let same : client ≡ entry.call.client = eqb-true client entry.call.client is in
        let now : slice_index_or later client 0 ≡ onward = ap (λ (c : ℕ). slice_index_or later c 0) same ∙ get_or-set_same cursors entry.call.client onward 0 within in
        rw (now, same) (first_from-again entry.call.client (place + 1) calls))
    | inr isnt ↦ (let now : slice_index_or later client 0 ≡ slice_index_or cursors client 0 = get_or-set_other cursors entry.call.client client onward 0 (λ e. differs client e isnt) in
        rw now (stands.own client (let long : length later ≡ length cursors = length-set cursors entry.call.client onward in omega arith)))
  ];
  made = λ i call here. is_made-push history entry call ∙ elim (cases_Bool (call.client == entry.call.client)) [
    | inr isnt ↦ (let now : slice_index_or later call.client 0 ≡ slice_index_or cursors call.client 0 = get_or-set_other cursors entry.call.client call.client onward 0 (λ e. differs call.client e isnt) in
        rw (now, stands.made i call here) (other_client (nat_lt i (slice_index_or cursors call.client 0)) call isnt))
    | inl is ↦ (let same : call.client ≡ entry.call.client = eqb-true call.client entry.call.client is in
        let now : slice_index_or later call.client 0 ≡ onward = ap (λ (c : ℕ). slice_index_or later c 0) same ∙ get_or-set_same cursors entry.call.client onward 0 within in
        let before : slice_index_or cursors call.client 0 ≡ place = ap (λ (c : ℕ). slice_index_or cursors c 0) same ∙ cursor in
        rw (stands.made i call here, now, before) (own_call i call here same))
  ];
  counts = λ client inside. (let old : calls_of client (map (λ (e : HistoryEntry). e.call) history) ≡ calls_of client (take (slice_index_or cursors client 0) calls) = stands.counts client (let long : length later ≡ length cursors = length-set cursors entry.call.client onward in omega arith) in
      let pushed : calls_of client (map (λ (e : HistoryEntry). e.call) (history ++ entry ∷ [])) ≡ calls_of client (map (λ (e : HistoryEntry). e.call) history) + cond (entry.call.client == client) 1 0
      = ap (calls_of client) (map-append (λ (e : HistoryEntry). e.call) history (entry ∷ [])) ∙ calls_of-push client (map (λ (e : HistoryEntry). e.call) history) entry.call in
      pushed ∙ elim (cases_Bool (client == entry.call.client)) [
        | inl is ↦ (let same : client ≡ entry.call.client = eqb-true client entry.call.client is in
            let now : slice_index_or later client 0 ≡ onward = ap (λ (c : ℕ). slice_index_or later c 0) same ∙ get_or-set_same cursors entry.call.client onward 0 within in
            let first : calls_of entry.call.client (take onward calls) ≡ calls_of entry.call.client (take (place + 1) calls) = calls_of-first entry.call.client (place + 1) calls in
            let one : calls_of entry.call.client (take (place + 1) calls) ≡ calls_of entry.call.client (take place calls) + 1 = calls_of-next entry.call.client calls place entry.call at refl in
            let before : calls_of client (take (slice_index_or cursors client 0) calls) ≡ calls_of entry.call.client (take place calls) = ap (λ (c : ℕ). calls_of c (take (slice_index_or cursors c 0) calls)) same ∙ ap (λ (p : ℕ). calls_of entry.call.client (take p calls)) cursor in
            let after : calls_of client (take (slice_index_or later client 0) calls) ≡ calls_of entry.call.client (take onward calls) = ap (λ (p : ℕ). calls_of client (take p calls)) now ∙ ap (λ (c : ℕ). calls_of c (take onward calls)) same in
            rw (eq-eqb entry.call.client client (sym same)) (omega arith))
        | inr isnt ↦ (let now : slice_index_or later client 0 ≡ slice_index_or cursors client 0 = get_or-set_other cursors entry.call.client client onward 0 (λ e. differs client e isnt) in
            rw (now, ne_eqb entry.call.client client (λ e. differs client (sym e) isnt)) (omega arith))
      ]);
}
  where
    onward : ℕ
    onward = first_from entry.call.client (place + 1) calls

    later : List ℕ
    later = slice_set cursors entry.call.client onward

    differs : (client : ℕ) → client ≡ entry.call.client → (client == entry.call.client) ≡ false → ⊥
    differs client e isnt = (let is : (client == entry.call.client) ≡ true = eq-eqb client entry.call.client e in let no : true ≡ false = sym is ∙ isnt in cc)

    other_client : (b : Bool) (call : Call) → (call.client == entry.call.client) ≡ false → (b || is_same_call entry.call call) ≡ b
    other_client b call isnt = elim (cases_Bool (entry.call.client == call.client)) [
      | inl is ↦ absurd (differs call.client (sym (eqb-true entry.call.client call.client is)) isnt)
      | inr apart ↦ rw apart (or-false b)
    ]

    own_call : (i : ℕ) (call : Call) → slice_get calls i ≡ Some call → call.client ≡ entry.call.client → (nat_lt i place || is_same_call entry.call call) ≡ nat_lt i onward
    own_call i call here same = elim (by_order i place) [
      | inl less ↦ rw (below i place less, below i onward (let least = first_from-least entry.call.client (place + 1) calls in omega arith)) refl
      | inr rest ↦ elim rest [
        | inl is ↦ (let one : Some entry.call ≡ Some call = sym (ap (slice_get calls) is ∙ at) ∙ here in
            let equal : entry.call ≡ call = cc in
            rw (not_below i place (omega arith), below i onward (let least = first_from-least entry.call.client (place + 1) calls in omega arith))
            (subst (λ (c : Call). is_same_call entry.call c ≡ true) equal (is_same-self entry.call)))
        | inr more ↦ (let past = first_from-before entry.call.client (place + 1) calls i call here same (omega arith) in
            rw (not_below i place (omega arith), not_below i onward past) (elim (cases_Bool (is_same_call entry.call call)) [
              | inr isnt ↦ isnt
              | inl is ↦ (let one : place ≡ i = is_same-at calls place i entry.call call numbered at here is in absurd (omega arith))
            ]))
      ]
    ]

-- ---- which call is next

find_at : {X : Type 0} (test : X → Bool) (xs : List X) (i : ℕ) (x : X) → slice_get xs i ≡ Some x → test x ≡ true
    → ((j : ℕ) (other : X) → j < i → slice_get xs j ≡ Some other → test other ≡ false) → find test xs ≡ Some x
find_at test [] i x at passes before = absurd (cc)
find_at test (first ∷ xs) zero x at passes before = let same : first ≡ x = cc in rw (ap test same ∙ passes) at
find_at test (first ∷ xs) (suc i) x at passes before =
    rw (before 0 first (omega arith) refl) (find_at test xs i x at passes (λ j other less here. before (suc j) other (omega arith) here))

find_none : {X : Type 0} (test : X → Bool) (xs : List X) → ((j : ℕ) (other : X) → slice_get xs j ≡ Some other → test other ≡ false) → find test xs ≡ None
find_none test [] none = refl
find_none test (first ∷ xs) none = rw (none 0 first refl) (find_none test xs (λ j other here. none (suc j) other here))

-- the call at the least cursor of a client that doesn't wait is next
pub next_in-least : (calls : List Call) (history : List HistoryEntry) (cursors : List ℕ) (v : Volume) (call : Call) → StandAt calls history cursors
    → slice_get calls (slice_index_or cursors call.client 0) ≡ Some call → waits v call.client ≡ false
    → ((client : ℕ) → client < length cursors → waits v client ≡ false → slice_index_or cursors call.client 0 ≤ slice_index_or cursors client 0)
    → ((place : ℕ) (other : Call) → slice_get calls place ≡ Some other → other.client < length cursors)
    → next_in calls history v ≡ Some call
next_in-least calls history cursors v call stands at free least within =
    find_at (λ (other : Call). not (is_made history other) && not (waits v other.client)) calls (slice_index_or cursors call.client 0) call at
    (rw (stands.made (slice_index_or cursors call.client 0) call at, not_below (slice_index_or cursors call.client 0) (slice_index_or cursors call.client 0) (omega arith), free) refl)
    (λ j other less here. elim (cases_Bool (waits v other.client)) [
      | inl is ↦ rw is (and_none (not (is_made history other)) false refl)
      | inr isnt ↦ (let few : slice_index_or cursors call.client 0 ≤ slice_index_or cursors other.client 0 = least other.client (within j other here) isnt in
          rw (stands.made j other here, below j (slice_index_or cursors other.client 0) (omega arith)) refl)
    ])

-- where each client waits or has no call left, none is next
pub next_in-none : (calls : List Call) (history : List HistoryEntry) (cursors : List ℕ) (v : Volume) → StandAt calls history cursors
    → ((client : ℕ) → client < length cursors → waits v client ≡ false → length calls ≤ slice_index_or cursors client 0)
    → ((place : ℕ) (other : Call) → slice_get calls place ≡ Some other → other.client < length cursors)
    → next_in calls history v ≡ None
next_in-none calls history cursors v stands none within =
    find_none (λ (other : Call). not (is_made history other) && not (waits v other.client)) calls
    (λ j other here. elim (cases_Bool (waits v other.client)) [
      | inl is ↦ rw is (and_none (not (is_made history other)) false refl)
      | inr isnt ↦ (let few : length calls ≤ slice_index_or cursors other.client 0 = none other.client (within j other here) isnt in
          let inside : j < length calls = slice_get_within calls j other here in
          rw (stands.made j other here, below j (slice_index_or cursors other.client 0) (omega arith)) refl)
    ])
