-- An oplock without a break stays granted to a pending call, also where other calls end.
use Rattle.std.proofs.Common.{◌≡◌, ℕ, ◌+◌, ◌≤◌, Bool, true, false, not, List, [], ◌∷◌, ◌++◌, refl, ap, ◌∙◌, arith, inl, inr, ◌⊎◌, Some, None}
use Rattle.std.specs.List.{find, list_any}
use Rattle.std.specs.Prelude.{◌==◌, ◌&&◌, is_some, option_map}
use Rattle.std.proofs.lemmas.Bool.{cases_Bool, eq-eqb, eqb-true}
use Rattle.fsa_types.specs.Rows.{row_of, IsNumbered}
use Rattle.fsa_types.specs.declared.reply.Reply.{Reply}
use Rattle.fsa_types.specs.declared.request.Call.{Call}
use Rattle.fsa_model.specs.Edits.{is_call, with_end}
use Rattle.fsa_model.specs.Engine.{asks_oplock_of, handle_granted, has_grant_under, is_pending_grant}
use Rattle.fsa_model.specs.Lookups.{handle_of, is_opened_by}
use Rattle.fsa_model.specs.Once.{how_many, times, IsOnce}
use Rattle.fsa_model.specs.Volume.{Handle, Oplock, Pending, Volume}
use Rattle.fsa_model.specs.Waiting.{is_granted_under}
use Rattle.fsa_model.proofs.CountLaws.{and_left, and_right, and_true, how_many-either, how_many-filter, how_many-none, how_many-same, how_many-some, how_many-split, how_many-weaker, only-one, some-how_many}
use Rattle.fsa_model.proofs.OnceLaws.{is_call_of, is_same-refl}
use Rattle.fsa_model.proofs.RowLaws.{IsNumbered-push, any-weaker, find-any, option_cases}
use Rattle.fsa_model.proofs.WaitLaws.{find-passes}

-- ---- handles stay

-- a handle that is found is still found, and handles keep their order
pub record HandlesStay (v w : Volume) : Type 0 where
  pub found : (client number id : ℕ) → handle_of v client number ≡ Some id → handle_of w client number ≡ Some id
  pub numbered : IsNumbered v.handles v.last_handle → IsNumbered w.handles w.last_handle

pub HandlesStay-same : {v w : Volume} → w.handles ≡ v.handles → w.last_handle ≡ v.last_handle → HandlesStay v w
HandlesStay-same handles last = record { found = λ client number id is. rw handles is; numbered = λ is. rw (handles, last) is }

pub HandlesStay-next : {u v w : Volume} → HandlesStay u v → HandlesStay v w → HandlesStay u w
HandlesStay-next first second = record {
  found = λ client number id is. second.found client number id (first.found client number id is);
  numbered = λ is. second.numbered (first.numbered is);
}

find-before : {X : Type 0} (p : X → Bool) (xs ys : List X) (x : X) → find p xs ≡ Some x → find p (xs ++ ys) ≡ Some x
find-before p [] ys x is = cc
find-before p (y ∷ xs) ys x is = elim (cases_Bool (p y)) [
  | inl passes ↦ rw passes (rw passes at is)
  | inr fails ↦ rw fails (find-before p xs ys x (rw fails at is))
]

-- a handle more
pub HandlesStay-opened : {v w : Volume} (row : Handle) → w.handles ≡ v.handles ++ (v.last_handle + 1, row) ∷ [] → w.last_handle ≡ v.last_handle + 1 → HandlesStay v w
HandlesStay-opened {v} {w} row handles last = record {
  found = λ client number id is. rw handles (found client number id is);
  numbered = λ is. rw (handles, last) (IsNumbered-push v.handles v.last_handle row is);
}
  where
    found : (client number id : ℕ) → handle_of v client number ≡ Some id → option_map (λ entry. entry.0) (find (λ entry. is_opened_by client number entry.1) (v.handles ++ (v.last_handle + 1, row) ∷ [])) ≡ Some id
    found client number id is = elim (option_cases (find (λ (entry : ℕ × Handle). is_opened_by client number entry.1) v.handles)) [
      | inl none ↦ (let impossible : None ≡ Some id = rw none at is in cc)
      | inr some ↦ (let later = find-before (λ (entry : ℕ × Handle). is_opened_by client number entry.1) v.handles ((v.last_handle + 1, row) ∷ []) some.0 some.1 in rw later (rw some.1 at is))
    ]

-- ---- what is granted pends

-- no break of the oplock is in progress, and no call that granted it is pending
abbrev pub lapsed : Volume → Oplock → Bool
lapsed v oplock = not (is_pending_grant v oplock)

abbrev pub NoneLapsed : Volume → Type 0
NoneLapsed v = how_many (lapsed v) v.oplocks ≡ 0

-- at most one oplock is granted under a turn
abbrev pub OneGrantEach : Volume → Type 0
OneGrantEach v = (turn : ℕ) → how_many (is_granted_under turn) v.oplocks ≤ 1

-- an oplock whose call still pends hasn't lapsed
pub lapsed-later : (v w : Volume) (o : Oplock) → ((turn : ℕ) → o.call ≡ Some turn → has_grant_under v o.handle turn ≡ true → has_grant_under w o.handle turn ≡ true) → lapsed w o ≡ true → lapsed v o ≡ true
lapsed-later v w o later is = elim (cases_Bool (is_some o.target)) [
  | inl breaks ↦ (let impossible : false ≡ true = rw breaks at is in cc)
  | inr still ↦ elim (option_cases o.call) [
    | inl none ↦ rw (still, none) refl
    | inr some ↦ elim (cases_Bool (has_grant_under v o.handle some.0)) [
      | inr gone ↦ rw (still, some.1, gone) refl
      | inl there ↦ (let pends : has_grant_under w o.handle some.0 ≡ true = later some.0 some.1 there in let impossible : false ≡ true = rw (still, some.1, pends) at is in cc)
    ]
  ]
]

pub asks-later : (v w : Volume) (id : ℕ) (call : Call) → ((client number : ℕ) → handle_of v client number ≡ Some id → handle_of w client number ≡ Some id)
    → asks_oplock_of v id call ≡ true → asks_oplock_of w id call ≡ true
asks-later v w id call found is = elim (option_cases (handle_granted call.what)) [
  | inl none ↦ (let impossible : false ≡ true = rw none at is in cc)
  | inr some ↦ elim (option_cases (handle_of v call.client some.0)) [
    | inl none ↦ (let impossible : false ≡ true = rw (some.1, none) at is in cc)
    | inr at_handle ↦ (let same : at_handle.0 ≡ id = eqb-true at_handle.0 id (rw (some.1, at_handle.1) at is) in
        let later : handle_of w call.client some.0 ≡ Some id = found call.client some.0 (at_handle.1 ∙ ap (λ (n : ℕ). Some n) same) in rw (some.1, later) (eq-eqb id id refl))
  ]
]

pub asks-some : (v : Volume) (id : ℕ) (call : Call) → asks_oplock_of v id call ≡ true → is_some (handle_granted call.what) ≡ true
asks-some v id call is = elim (option_cases (handle_granted call.what)) [
  | inl none ↦ (let impossible : false ≡ true = rw none at is in cc)
  | inr some ↦ rw some.1 refl
]

-- where oplocks and pending calls are as they were
pub NoneLapsed-same : (v w : Volume) → w.oplocks ≡ v.oplocks → w.pending ≡ v.pending → ((client number found : ℕ) → handle_of v client number ≡ Some found → handle_of w client number ≡ Some found)
    → NoneLapsed v → NoneLapsed w
NoneLapsed-same v w oplocks pending found none =
    let weaker = how_many-weaker (lapsed w) (lapsed v) v.oplocks (λ o is. lapsed-later v w o (λ turn granted there. under o.handle turn there) is) in
    rw oplocks (omega arith)
  where
    under : (id turn : ℕ) → has_grant_under v id turn ≡ true → has_grant_under w id turn ≡ true
    under id turn there = rw pending (any-weaker (λ e. e.0 == turn && asks_oplock_of v id e.1.call) (λ e. e.0 == turn && asks_oplock_of w id e.1.call) v.pending
        (λ e both. and_true (e.0 == turn) (asks_oplock_of w id e.1.call) (and_left (e.0 == turn) (asks_oplock_of v id e.1.call) both)
        (asks-later v w id e.1.call (λ client number is. found client number id is) (and_right (e.0 == turn) (asks_oplock_of v id e.1.call) both))) there)

-- ---- a call ends

swap : (a b : Bool) → (a && b) ≡ (b && a)
swap true true = refl
swap true false = refl
swap false true = refl
swap false false = refl

-- calls that pass stay, where none that ends passes
pub any-ends : (T : ℕ × Pending → Bool) (v : Volume) (client number : ℕ) (reply : Reply) → how_many (λ e. is_call_of client number e && T e) v.pending ≡ 0
    → list_any T v.pending ≡ true → list_any T (with_end v client number reply).pending ≡ true
any-ends T v client number reply none some =
    let kept = how_many-filter T (λ e. not (is_call client number e.1)) v.pending in
    let split = how_many-split T (is_call_of client number) v.pending in
    let out = how_many-same (λ e. not (is_call client number e.1) && T e) (λ e. T e && not (is_call_of client number e)) v.pending (λ e. swap (not (is_call client number e.1)) (T e)) in
    let own = how_many-same (λ e. T e && is_call_of client number e) (λ e. is_call_of client number e && T e) v.pending (λ e. swap (T e) (is_call_of client number e)) in
    let many = how_many-some T v.pending some in
    some-how_many T (with_end v client number reply).pending (omega arith)

-- one that granted no oplock
pub NoneLapsed-ends : (v : Volume) (client number : ℕ) (reply : Reply) → how_many (λ e. is_call_of client number e && is_some (handle_granted e.1.call.what)) v.pending ≡ 0
    → NoneLapsed v → NoneLapsed (with_end v client number reply)
NoneLapsed-ends v client number reply no_grant none =
    let weaker = how_many-weaker (lapsed (with_end v client number reply)) (lapsed v) v.oplocks (λ o is. lapsed-later v (with_end v client number reply) o (λ turn granted there. under o.handle turn there) is) in omega arith
  where
    under : (id turn : ℕ) → has_grant_under v id turn ≡ true → has_grant_under (with_end v client number reply) id turn ≡ true
    under id turn there =
        any-ends (λ e. e.0 == turn && asks_oplock_of v id e.1.call) v client number reply
        (let weaker = how_many-weaker (λ e. is_call_of client number e && (e.0 == turn && asks_oplock_of v id e.1.call)) (λ e. is_call_of client number e && is_some (handle_granted e.1.call.what)) v.pending
        (λ e all. and_true (is_call_of client number e) (is_some (handle_granted e.1.call.what)) (and_left (is_call_of client number e) (e.0 == turn && asks_oplock_of v id e.1.call) all)
        (asks-some v id e.1.call (and_right (e.0 == turn) (asks_oplock_of v id e.1.call) (and_right (is_call_of client number e) (e.0 == turn && asks_oplock_of v id e.1.call) all)))) in omega arith) there

-- one under a turn under which no oplock is granted any more
pub NoneLapsed-ends_under : (v : Volume) (client number turn : ℕ) (reply : Reply) → IsOnce v → 1 ≤ how_many (λ e. is_call_of client number e && e.0 == turn) v.pending
    → how_many (is_granted_under turn) v.oplocks ≡ 0 → NoneLapsed v → NoneLapsed (with_end v client number reply)
NoneLapsed-ends_under v client number turn reply once there no_grant none =
    let either = how_many-either (lapsed v) (is_granted_under turn) (lapsed (with_end v client number reply)) v.oplocks (λ o is. or_granted o (cases_Bool (is_granted_under turn o)) is) in omega arith
  where
    elsewhere : how_many (λ e. is_call_of client number e && not (e.0 == turn)) v.pending ≡ 0
    elsewhere =
        let few : times client number v ≤ 1 = once client number in
        how_many-none (λ e. is_call_of client number e && not (e.0 == turn)) v.pending (only-one (is_call_of client number) (λ e. e.0 == turn) v.pending (omega arith) (some-how_many (λ e. is_call_of client number e && e.0 == turn) v.pending there))

    apart : (id t : ℕ) (e : ℕ × Pending) → (t == turn) ≡ false → (is_call_of client number e && (e.0 == t && asks_oplock_of v id e.1.call)) ≡ true → (is_call_of client number e && not (e.0 == turn)) ≡ true
    apart id t e other all =
        let own = and_left (is_call_of client number e) (e.0 == t && asks_oplock_of v id e.1.call) all in
        let under : (e.0 == t) ≡ true = and_left (e.0 == t) (asks_oplock_of v id e.1.call) (and_right (is_call_of client number e) (e.0 == t && asks_oplock_of v id e.1.call) all) in
        let is : e.0 ≡ t = eqb-true e.0 t under in
        let differs : (e.0 == turn) ≡ false = rw is other in
        and_true (is_call_of client number e) (not (e.0 == turn)) own (rw differs refl)

    or_granted : (o : Oplock) → (is_granted_under turn o ≡ true) ⊎ (is_granted_under turn o ≡ false) → lapsed (with_end v client number reply) o ≡ true → (lapsed v o ≡ true) ⊎ (is_granted_under turn o ≡ true)
    or_granted o (inl granted) is = inr granted
    or_granted o (inr isnt) is = inl (lapsed-later v (with_end v client number reply) o (λ t granted pends.
        (let other : (t == turn) ≡ false = rw granted at isnt in
        let none_ends = how_many-weaker (λ e. is_call_of client number e && (e.0 == t && asks_oplock_of v o.handle e.1.call)) (λ e. is_call_of client number e && not (e.0 == turn)) v.pending (λ e all. apart o.handle t e other all) in
        let zero_there = elsewhere in
        any-ends (λ e. e.0 == t && asks_oplock_of v o.handle e.1.call) v client number reply (omega arith) pends)) is)

-- the call that is found under a turn
pub found-under : (rows : List (ℕ × Pending)) (turn : ℕ) (row : Pending) → row_of rows turn ≡ Some row → 1 ≤ how_many (λ e. is_call_of row.call.client row.call.number e && e.0 == turn) rows
found-under rows turn row found = elim (option_cases (find (λ (entry : ℕ × Pending). entry.0 == turn) rows)) [
  | inl none ↦ (let impossible : None ≡ Some row = rw none at found in cc)
  | inr some ↦ (let is : Some some.0.1 ≡ Some row = rw some.1 at found in let same : some.0.1 ≡ row = cc in
      let here : (some.0.0 == turn) ≡ true = find-passes (λ (entry : ℕ × Pending). entry.0 == turn) rows some.0 some.1 in
      how_many-some (λ e. is_call_of row.call.client row.call.number e && e.0 == turn) rows
      (find-any (λ (entry : ℕ × Pending). entry.0 == turn) (λ e. is_call_of row.call.client row.call.number e && e.0 == turn) rows some.0 some.1 (rw (same, here, is_same-refl row.call.client row.call.number) refl)))
]
