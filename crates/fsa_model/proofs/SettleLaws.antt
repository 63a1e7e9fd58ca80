-- A settlement ends with no call ready: each step leaves one call fewer that isn't held by a living blocker.
use Rattle.std.proofs.Common.{◌≡◌, ℕ, zero, suc, ◌+◌, ◌-◌, ◌<◌, ◌≤◌, Bool, true, false, not, List, [], ◌∷◌, length, refl, ap, sym, subst, ◌∙◌, arith, inl, inr, ◌⊎◌, Option, Some, None}
use Rattle.std.specs.List.{filter, list_any, All}
use Rattle.std.specs.Prelude.{◌==◌, ◌&&◌, ◌||◌, nat_lt, slice_get}
use Rattle.std.proofs.lemmas.Bool.{cases_Bool, eq-eqb, eqb-true, ltb-true, ltb-false, lt-ltb}
use Rattle.std.proofs.lemmas.List.Folds.{list_any_at}
use Rattle.fsa_types.specs.Sorting.{put_in_order, in_order}
use Rattle.fsa_types.specs.declared.request.Call.{Call}
use Rattle.fsa_types.specs.declared.request.CallId.{CallId}
use Rattle.fsa_types.specs.declared.request.Request.TheVariants.{Notify}
use Rattle.fsa_types.specs.declared.request.What.{What}
use Rattle.fsa_types.specs.declared.request.What.TheVariants.{Ask, WaitFor}
use Rattle.fsa_types.specs.declared.reply.Blocker.{Blocker}
use Rattle.fsa_types.specs.declared.reply.Reply.{Reply}
use Rattle.fsa_types.specs.declared.reply.Blocker.TheVariants as blocker
use Rattle.fsa_types.specs.declared.status.Status.TheVariants.{Stalled}
use Rattle.fsa_model.specs.Close.{pending_by_turn, with_calls_ended}
use Rattle.fsa_model.specs.Edits.{is_call, with_end, with_blockers}
use Rattle.fsa_model.specs.Lookups.{has_left}
use Rattle.fsa_model.specs.Once.{how_many}
use Rattle.fsa_model.specs.Outcome.{Outcome, Done, Stay, Hold}
use Rattle.fsa_model.specs.Settle.{Settling, settled, with_tried, starves, held_taken_up, taken_up, settle_step, repeated, taken_up_all}
use Rattle.fsa_model.specs.Try.{try_what, try}
use Rattle.fsa_model.specs.Volume.{Pending, Volume}
use Rattle.fsa_model.specs.Waiting.{AreLiving, blocker_lives, is_blocked, is_held, has_come, has_due, is_notify_of, is_notify_on, is_first_notify, is_ready, next_ready, is_wait, all_wait, is_asked_before, waits_in_order, with_stalled}
pub use Rattle.fsa_model.specs.Settling.{is_under, is_held_wrongly, MaySettle, is_free, how_many_free, taken_up_from}
use Rattle.fsa_model.proofs.CountLaws.{and_left, and_right, and_true, how_many-either, how_many-length, how_many-weaker, how_many-same, how_many-filter, how_many-filter_le, how_many-map, how_many-split, how_many-some, how_many-none, some-how_many, only-one, how_many-in_order}
use Rattle.fsa_model.proofs.OnceLaws.{is_call_of, is_same-refl, fewer-calls_ended, gone-calls_ended, blockers-calls_ended}
use Rattle.fsa_model.proofs.ObeyLaws.{Obeys}
pub use Rattle.fsa_model.proofs.ObeyLaws.{may_be_held}
use Rattle.fsa_model.proofs.TryObeys.{held-obeys, try_request-obeys}
use Rattle.fsa_model.proofs.RowLaws.{any-same, any-weaker, option_cases, option_map-none, change_at, change_at-number}
use Rattle.fsa_model.proofs.TryLaws.{Keeps, Leaves, Leaves-same, Leaves-untouched, Tries, TriesTo, Tries-if, Tries-refused, HasOneOplockEach-kept}
use Rattle.fsa_model.proofs.WaitLaws.{HasOneOplockEach, Found, some_item}
use Rattle.fsa_model.proofs.WatchLaws.{comes_over, SameWatching, watching-calls_ended, has_due-same}

-- ---- repetition

-- steps that keep a property and lower a measure end, where at most as many as the measure says are made
pub repeated-ends : {S : Type 0} (step : S → Option S) (I : S → Type 0) (measure : S → ℕ)
    → ((s t : S) → I s → step s ≡ Some t → I t × (measure t < measure s))
    → (most : ℕ) (s : S) → I s → measure s ≤ most → (step (repeated step most s) ≡ None) × I (repeated step most s)
repeated-ends step I measure next zero s holds few = elim (option_cases (step s)) [
  | inl none ↦ (none, holds)
  | inr some ↦ (let after = next s some.0 holds some.1 in absurd (omega arith))
]
repeated-ends {S} step I measure next (suc most) s holds few = elim (option_cases (step s)) [
  | inl none ↦ rw none (none, holds)
  | inr some ↦ (let after = next s some.0 holds some.1 in rw some.1 (repeated-ends step I measure next most some.0 after.0 (omega (arith, after.1))))
]

-- where there is no step, nothing is done
pub repeated-none : {S : Type 0} (step : S → Option S) (most : ℕ) (s : S) → step s ≡ None → repeated step most s ≡ s
repeated-none step zero s none = refl
repeated-none step (suc most) s none = rw none refl

-- it makes no difference how many steps may be made, where there are enough
pub repeated-enough : {S : Type 0} (step : S → Option S) (I : S → Type 0) (measure : S → ℕ)
    → ((s t : S) → I s → step s ≡ Some t → I t × (measure t < measure s))
    → (most other : ℕ) (s : S) → I s → measure s ≤ most → measure s ≤ other → repeated step most s ≡ repeated step other s
repeated-enough step I measure next zero other s holds few few_too = elim (option_cases (step s)) [
  | inl none ↦ sym (repeated-none step other s none)
  | inr some ↦ (let after = next s some.0 holds some.1 in absurd (omega (arith, after.1)))
]
repeated-enough step I measure next (suc most) zero s holds few few_too = elim (option_cases (step s)) [
  | inl none ↦ repeated-none step (suc most) s none
  | inr some ↦ (let after = next s some.0 holds some.1 in absurd (omega (arith, after.1)))
]
repeated-enough step I measure next (suc most) (suc other) s holds few few_too = elim (option_cases (step s)) [
  | inl none ↦ rw none refl
  | inr some ↦ (let after = next s some.0 holds some.1 in rw some.1 (repeated-enough step I measure next most other some.0 after.0 (omega (arith, after.1)) (omega (arith, after.1))))
]

-- ---- what is asked of the volume

-- a try of such a call ends it or holds it anew, by blockers that live, and ends no blocker
pub try-tries : (v : Volume) (call : Call) (turn : ℕ) → HasOneOplockEach v → may_be_held call.what ≡ true → Tries Leaves v (try v call turn)
try-tries v call turn one held = Tries-if (has_left v call.client) _ _ (λ is. Tries-refused v _) (λ no. of_what call.what held)
  where
    of_what : (what : What) → may_be_held what ≡ true → Tries Leaves v (try_what v turn call.client call.number what)
    of_what (Ask request) held = Obeys.tries (try_request-obeys v turn call.client call.number request (held-obeys request held)) one
    of_what _ held = cc

-- ---- the ready call of the least turn

-- the call is pending and ready
pub record IsNext (v : Volume) (entry : ℕ × Pending) : Type 0 where
  pub ready : is_ready v entry.1 ≡ true
  pub is_there : (test : ℕ × Pending → Bool) → test entry ≡ true → 1 ≤ how_many test v.pending
  pub least : how_many (λ e. is_ready v e.1 && nat_lt e.0 entry.0) v.pending ≡ 0

first-item : {X : Type 0} (items : List X) (item : X) (test : X → Bool) → slice_get items 0 ≡ Some item → test item ≡ true → 1 ≤ how_many test items
first-item [] item test first passes = cc
first-item (x ∷ items) item test first passes = (let same : x ≡ item = some_same first in rw (same, passes) (omega arith))
  where
    some_same : Some x ≡ Some item → x ≡ item
    some_same is = cc

-- the first item in order is the least
pub first-least : (rows : List (ℕ × Pending)) (entry : ℕ × Pending) → slice_get (in_order (λ a b. nat_lt a.0 b.0) rows) 0 ≡ Some entry → how_many (λ e. nat_lt e.0 entry.0) rows ≡ 0
first-least [] entry first = cc
first-least (x ∷ rows) entry first =
    let same = how_many-in_order (λ e. nat_lt e.0 entry.0) (λ a b. nat_lt a.0 b.0) rows in
    go (in_order (λ a b. nat_lt a.0 b.0) rows) first same (λ y is. first-least rows y is)
  where
    some_is : {X : Type 0} (a b : X) → Some a ≡ Some b → a ≡ b
    some_is a b is = cc

    never : (a : ℕ) → nat_lt a a ≡ false
    never a = elim (cases_Bool (nat_lt a a)) [ inl is ↦ (let less = ltb-true a a is in absurd (omega arith)) | inr isnt ↦ isnt ]

    go : (sorted : List (ℕ × Pending)) → slice_get (put_in_order (λ a b. nat_lt a.0 b.0) x sorted) 0 ≡ Some entry
        → how_many (λ e. nat_lt e.0 entry.0) sorted ≡ how_many (λ e. nat_lt e.0 entry.0) rows
        → ((y : ℕ × Pending) → slice_get sorted 0 ≡ Some y → how_many (λ e. nat_lt e.0 y.0) rows ≡ 0)
        → how_many (λ e. nat_lt e.0 entry.0) (x ∷ rows) ≡ 0
    go [] first same least = (let is : x ≡ entry = some_is x entry first in let self : nat_lt x.0 entry.0 ≡ false = subst (λ (e : ℕ × Pending). nat_lt x.0 e.0 ≡ false) is (never x.0) in rw self (omega arith))
    go (y ∷ sorted) first same least =
        let none : how_many (λ e. nat_lt e.0 y.0) rows ≡ 0 = least y refl in
        elim (cases_Bool (nat_lt x.0 y.0)) [
          | inl before ↦ (let is : x ≡ entry = some_is x entry (rw before at first) in
              let self : nat_lt x.0 entry.0 ≡ false = subst (λ (e : ℕ × Pending). nat_lt x.0 e.0 ≡ false) is (never x.0) in
              let same_number : x.0 ≡ entry.0 = ap (λ (e : ℕ × Pending). e.0) is in
              let less = ltb-true x.0 y.0 before in
              let weaker = how_many-weaker (λ (e : ℕ × Pending). nat_lt e.0 entry.0) (λ e. nat_lt e.0 y.0) rows (λ e below. (let lower = ltb-true e.0 entry.0 below in lt-ltb e.0 y.0 (omega arith))) in
              rw self (omega arith))
          | inr later ↦ (let is : y ≡ entry = some_is y entry (rw later at first) in
              let self : nat_lt x.0 entry.0 ≡ false = subst (λ (e : ℕ × Pending). nat_lt x.0 e.0 ≡ false) is later in
              let none_here : how_many (λ e. nat_lt e.0 entry.0) rows ≡ 0 = subst (λ (e : ℕ × Pending). how_many (λ r. nat_lt r.0 e.0) rows ≡ 0) is none in
              rw self (omega arith))
        ]

pub next_ready-is : (v : Volume) (entry : ℕ × Pending) → next_ready v ≡ Some entry → IsNext v entry
next_ready-is v entry next = record { ready = ready (cases_Bool (is_ready v entry.1)); is_there = λ test passes. let many = among test passes in let fewer = how_many-weaker (λ e. is_ready v e.1 && test e) test v.pending (λ e both. and_right (is_ready v e.1) (test e) both) in omega arith; least = least }
  where
    least : how_many (λ e. is_ready v e.1 && nat_lt e.0 entry.0) v.pending ≡ 0
    least = (let kept = how_many-filter (λ e. nat_lt e.0 entry.0) (λ e. is_ready v e.1) v.pending in let none = first-least (filter (λ e. is_ready v e.1) v.pending) entry next in omega arith)

    among : (test : ℕ × Pending → Bool) → test entry ≡ true → 1 ≤ how_many (λ e. is_ready v e.1 && test e) v.pending
    among test passes =
        let first = first-item (in_order (λ a b. nat_lt a.0 b.0) (filter (λ e. is_ready v e.1) v.pending)) entry test next passes in
        let ordered = how_many-in_order test (λ a b. nat_lt a.0 b.0) (filter (λ e. is_ready v e.1) v.pending) in
        let kept = how_many-filter test (λ e. is_ready v e.1) v.pending in
        omega arith

    neither : (rows : List (ℕ × Pending)) → how_many (λ e. is_ready v e.1 && not (is_ready v e.1)) rows ≡ 0
    neither [] = refl
    neither (x ∷ rows) = (let rest = neither rows in elim (cases_Bool (is_ready v x.1)) [ inl is ↦ rw is (omega arith) | inr isnt ↦ rw isnt (omega arith) ])

    ready : (is_ready v entry.1 ≡ true) ⊎ (is_ready v entry.1 ≡ false) → is_ready v entry.1 ≡ true
    ready (inl is) = is
    ready (inr isnt) = (let some = among (λ e. not (is_ready v e.1)) (rw isnt refl) in let none = neither v.pending in absurd (omega arith))

none-left : {X : Type 0} (items : List X) → (length items == 0) ≡ true → items ≡ []
none-left [] is = refl
none-left (x ∷ items) is = (let none : length (x ∷ items) ≡ 0 = eqb-true (length (x ∷ items)) 0 is in absurd (omega arith))

-- what is ready is held by no living blocker
pub ready-free : (v : Volume) (pending : Pending) → is_ready v pending ≡ true → is_blocked (blocker_lives v) pending ≡ false
ready-free v pending ready = elim (cases_Bool (length pending.blockers == 0)) [
  | inl none ↦ rw (none-left pending.blockers none) refl
  | inr some ↦ free-blocked (is_blocked (blocker_lives v) pending) (rw some at ready)
]
  where
    free-blocked : (b : Bool) → not b ≡ true → b ≡ false
    free-blocked true is = sym is
    free-blocked false is = refl

-- a call that a living blocker holds stays held
blocks-kept : (v w : Volume) (pending : Pending) → Leaves v w → is_blocked (blocker_lives v) pending ≡ true → is_blocked (blocker_lives w) pending ≡ true
blocks-kept v w pending leaves blocked = any-weaker (blocker_lives v) (blocker_lives w) pending.blockers (λ b lives. leaves.lives b lives) blocked

-- ---- one step

-- with some free call that goes out, fewer stay
falls-out : (v : Volume) (out : ℕ × Pending → Bool) → 1 ≤ how_many (λ e. is_free v e && out e) v.pending → how_many (λ e. not (out e) && is_free v e) v.pending + 1 ≤ how_many_free v
falls-out v out some =
    let split = how_many-split (is_free v) out v.pending in
    let same = how_many-same (λ e. not (out e) && is_free v e) (λ e. is_free v e && not (out e)) v.pending (λ e. swap (not (out e)) (is_free v e)) in
    omega arith
  where
    swap : (a b : Bool) → (a && b) ≡ (b && a)
    swap true true = refl
    swap true false = refl
    swap false true = refl
    swap false false = refl

-- the end of a ready call
falls-ends : (v w : Volume) (client number : ℕ) (reply : Reply) → Leaves v w → 1 ≤ how_many (λ e. is_free v e && is_call_of client number e) v.pending
    → how_many_free (with_end w client number reply) < how_many_free v
falls-ends v w client number reply leaves some =
    let falls = falls-out v (is_call_of client number) some in
    let kept = how_many-filter (is_free w) (λ e. not (is_call client number e.1)) w.pending in
    let free = how_many-weaker (λ e. not (is_call client number e.1) && is_free w e) (λ e. not (is_call client number e.1) && is_free v e) w.pending
    (λ e both. still (not (is_call client number e.1)) (is_blocked (blocker_lives w) e.1) (is_blocked (blocker_lives v) e.1) (blocks-kept v w e.1 leaves) both) in
    let fewer = leaves.keeps.pending (λ e. not (is_call client number e.1) && is_free v e) in
    omega arith
  where
    still : (a b c : Bool) → (c ≡ true → b ≡ true) → (a && not b) ≡ true → (a && not c) ≡ true
    still false b c later both = both
    still true b false later both = refl
    still true b true later both = rw (later refl) at both

-- a ready call that is held anew by a living blocker
falls-holds : (v w : Volume) (turn : ℕ) (blockers : List Blocker) → Leaves v w → AreLiving w blockers → 1 ≤ how_many (λ e. is_free v e && is_under turn e) v.pending
    → how_many_free (with_blockers w turn blockers) < how_many_free v
falls-holds v w turn blockers leaves living some =
    let falls = falls-out v (is_under turn) some in
    let changed = how_many-map (is_free w) (change_at (λ row. record row { blockers = blockers }) turn) w.pending in
    let free = how_many-weaker (λ e. is_free w (change_at (λ row. record row { blockers = blockers }) turn e)) (λ e. not (is_under turn e) && is_free v e) w.pending (λ e is. still e is) in
    let fewer = leaves.keeps.pending (λ e. not (is_under turn e) && is_free v e) in
    omega arith
  where
    some_lives : list_any (blocker_lives w) blockers ≡ true
    some_lives = one blockers living.some living.live
      where
        one : (list : List Blocker) → (length list == 0) ≡ false → All (λ b. blocker_lives w b ≡ true) list → list_any (blocker_lives w) list ≡ true
        one [] none live = cc
        one (b ∷ list) some live = list_any_at (blocker_lives w) (b ∷ list) 0 b (omega arith) (live 0 b (omega arith))

    of_free : (e : ℕ × Pending) → is_free w e ≡ true → is_free v e ≡ true
    of_free e is = go (cases_Bool (is_blocked (blocker_lives v) e.1))
      where
        go : (is_blocked (blocker_lives v) e.1 ≡ true) ⊎ (is_blocked (blocker_lives v) e.1 ≡ false) → is_free v e ≡ true
        go (inl blocked) = (let still : is_blocked (blocker_lives w) e.1 ≡ true = blocks-kept v w e.1 leaves blocked in let impossible : false ≡ true = rw still at is in cc)
        go (inr free) = rw free refl

    still : (e : ℕ × Pending) → is_free w (change_at (λ row. record row { blockers = blockers }) turn e) ≡ true → (not (is_under turn e) && is_free v e) ≡ true
    still e is = elim (cases_Bool (e.0 == turn)) [
      | inl here ↦ (let impossible : false ≡ true = rw (here, some_lives) at is in cc)
      | inr other ↦ rw other (of_free e (rw other at is))
    ]

-- ---- what a step keeps

pub MaySettle-kept : (v w : Volume) → Keeps v w → MaySettle v → MaySettle w
MaySettle-kept v w keeps may = record {
  oplocks = HasOneOplockEach-kept v w keeps may.oplocks;
  turns = λ turn. (let few : how_many (is_under turn) v.pending ≤ 1 = may.turns turn in let fewer = keeps.pending (is_under turn) in omega arith);
  held = (let none = may.held in let fewer = keeps.pending is_held_wrongly in omega arith);
}

pub MaySettle-ends : (v : Volume) (client number : ℕ) (reply : Reply) → MaySettle v → MaySettle (with_end v client number reply)
MaySettle-ends v client number reply may = record {
  oplocks = may.oplocks;
  turns = λ turn. (let few : how_many (is_under turn) v.pending ≤ 1 = may.turns turn in let fewer = how_many-filter_le (is_under turn) (λ e. not (is_call client number e.1)) v.pending in omega arith);
  held = (let none = may.held in let fewer = how_many-filter_le is_held_wrongly (λ e. not (is_call client number e.1)) v.pending in omega arith);
}

-- a call is held anew, under a turn under which only what can be held is pending
MaySettle-holds : (v : Volume) (turn : ℕ) (blockers : List Blocker) → how_many (λ e. is_under turn e && not (may_be_held e.1.call.what)) v.pending ≡ 0 → MaySettle v → MaySettle (with_blockers v turn blockers)
MaySettle-holds v turn blockers none may = record {
  oplocks = may.oplocks;
  turns = λ other. (let few : how_many (is_under other) v.pending ≤ 1 = may.turns other in
      let changed = how_many-map (is_under other) (change_at change turn) v.pending in
      let same = how_many-same (λ e. is_under other (change_at change turn e)) (is_under other) v.pending (λ e. ap (λ (number : ℕ). number == other) (change_at-number change turn e)) in omega arith);
  held = (let changed = how_many-map is_held_wrongly (change_at change turn) v.pending in
      let no_other = may.held in
      let either = how_many-either (λ e. is_under turn e && not (may_be_held e.1.call.what)) is_held_wrongly (λ e. is_held_wrongly (change_at change turn e)) v.pending (λ e wrong. of_changed e wrong) in omega arith);
}
  where
    change : Pending → Pending
    change row = record row { blockers = blockers }

    of_changed : (e : ℕ × Pending) → is_held_wrongly (change_at change turn e) ≡ true → ((is_under turn e && not (may_be_held e.1.call.what)) ≡ true) ⊎ (is_held_wrongly e ≡ true)
    of_changed e wrong = elim (cases_Bool (e.0 == turn)) [
      | inl here ↦ inl (rw here (and_right (not (length blockers == 0)) (not (may_be_held e.1.call.what)) (rw here at wrong)))
      | inr other ↦ inr (rw other at wrong)
    ]

-- ---- one step of a settlement

-- a step ends no blocker, makes no call pending and keeps what a settlement asks; and one call fewer is held by
-- no living blocker
pub record Steps (v w : Volume) : Type 0 where
  pub may : MaySettle w
  pub lives : (b : Blocker) → blocker_lives v b ≡ true → blocker_lives w b ≡ true
  pub pending : (test : ℕ → Call → Bool) → how_many (λ e. test e.0 e.1.call) w.pending ≤ how_many (λ e. test e.0 e.1.call) v.pending
  pub falls : how_many_free w < how_many_free v

-- the call of the step
free-call : (v : Volume) (entry : ℕ × Pending) → IsNext v entry → 1 ≤ how_many (λ e. is_free v e && is_call_of entry.1.call.client entry.1.call.number e) v.pending
free-call v entry next = next.is_there (λ e. is_free v e && is_call_of entry.1.call.client entry.1.call.number e)
    (rw (ready-free v entry.1 next.ready, is_same-refl entry.1.call.client entry.1.call.number) refl)

Steps-ends : (v w : Volume) (entry : ℕ × Pending) (reply : Reply) → Leaves v w → MaySettle v → IsNext v entry → Steps v (with_end w entry.1.call.client entry.1.call.number reply)
Steps-ends v w entry reply leaves may next = record {
  may = MaySettle-ends w entry.1.call.client entry.1.call.number reply (MaySettle-kept v w leaves.keeps may);
  lives = λ b lives. leaves.lives b lives;
  pending = λ test. (let fewer = leaves.keeps.pending (λ e. test e.0 e.1.call) in
      let one = how_many-filter_le (λ (e : ℕ × Pending). test e.0 e.1.call) (λ e. not (is_call entry.1.call.client entry.1.call.number e.1)) w.pending in omega arith);
  falls = falls-ends v w entry.1.call.client entry.1.call.number reply leaves (free-call v entry next);
}

-- a held call is of a verb that can be held
pub next-may_be_held : (v : Volume) (entry : ℕ × Pending) → MaySettle v → IsNext v entry → is_held entry.1 ≡ true → may_be_held entry.1.call.what ≡ true
next-may_be_held v entry may next held = elim (cases_Bool (may_be_held entry.1.call.what)) [
  | inl is ↦ is
  | inr isnt ↦ (let wrong = next.is_there is_held_wrongly (rw (held, isnt) refl) in let none = may.held in absurd (omega arith))
]

-- under its turn there is no other
under-may_be_held : (v : Volume) (entry : ℕ × Pending) → MaySettle v → IsNext v entry → is_held entry.1 ≡ true
    → how_many (λ e. is_under entry.0 e && not (may_be_held e.1.call.what)) v.pending ≡ 0
under-may_be_held v entry may next held =
    how_many-none (λ e. is_under entry.0 e && not (may_be_held e.1.call.what)) v.pending
    (only-one (is_under entry.0) (λ e. may_be_held e.1.call.what) v.pending (may.turns entry.0)
    (some-how_many (λ e. is_under entry.0 e && may_be_held e.1.call.what) v.pending
    (next.is_there (λ e. is_under entry.0 e && may_be_held e.1.call.what) (rw (eq-eqb entry.0 entry.0 refl, next-may_be_held v entry may next held) refl))))

Steps-tried : (v : Volume) (entry : ℕ × Pending) (outcome : Outcome) → MaySettle v → IsNext v entry → is_held entry.1 ≡ true → TriesTo Leaves v outcome → Steps v (with_tried entry.0 entry.1 outcome)
Steps-tried v entry (Done w reply) may next held tries = Steps-ends v w entry reply tries.0 may next
Steps-tried v entry (Stay w interim) may next held tries = absurd tries
Steps-tried v entry (Hold w blockers interim) may next held tries = record {
  may = MaySettle-holds w entry.0 blockers
      (let none = under-may_be_held v entry may next held in let fewer = tries.0.keeps.pending (λ e. is_under entry.0 e && not (may_be_held e.1.call.what)) in omega arith)
      (MaySettle-kept v w tries.0.keeps may);
  lives = λ b lives. tries.0.lives b lives;
  pending = λ test. (let fewer = tries.0.keeps.pending (λ e. test e.0 e.1.call) in
      let mapped = how_many-map (λ (e : ℕ × Pending). test e.0 e.1.call) (change_at (λ row. record row { blockers = blockers }) entry.0) w.pending in
      let same = how_many-same (λ (e : ℕ × Pending). test (change_at (λ row. record row { blockers = blockers }) entry.0 e).0 (change_at (λ row. record row { blockers = blockers }) entry.0 e).1.call) (λ e. test e.0 e.1.call) w.pending
      (λ e. elim (cases_Bool (e.0 == entry.0)) [ inl here ↦ rw here refl | inr other ↦ rw other refl ]) in omega arith);
  falls = falls-holds v w entry.0 blockers tries.0 tries.1.1
      (next.is_there (λ e. is_free v e && is_under entry.0 e) (rw (ready-free v entry.1 next.ready, eq-eqb entry.0 entry.0 refl) refl));
}

Steps-held : (s : Settling) (entry : ℕ × Pending) → MaySettle s.volume → IsNext s.volume entry → is_held entry.1 ≡ true → Steps s.volume (held_taken_up s entry.0 entry.1).volume
Steps-held s entry may next held = elim (cases_Bool (starves s.starved entry.1)) [
  | inl starving ↦ rw starving (Steps-ends s.volume s.volume entry _ (Leaves-same s.volume) may next)
  | inr plenty ↦ rw plenty (Steps-tried s.volume entry (try s.volume entry.1.call entry.0) may next held
      (Tries.so (try-tries s.volume entry.1.call entry.0 may.oplocks (next-may_be_held s.volume entry may next held))))
]

pub Steps-taken_up : (s : Settling) (entry : ℕ × Pending) → MaySettle s.volume → IsNext s.volume entry → Steps s.volume (taken_up s entry).volume
Steps-taken_up s entry may next = elim (cases_Bool (is_held entry.1)) [
  | inl held ↦ rw held (Steps-held s entry may next held)
  | inr waits ↦ rw waits (let comes = comes_over s entry.1 waits next.ready in
      subst (λ (w : Volume). Steps s.volume w) (sym comes.is) (Steps-ends s.volume comes.seen entry comes.reply (Leaves-untouched s.volume comes.seen comes.untouched) may next))
]

pub some_equal : {X : Type 0} (x y : X) → Some x ≡ Some y → x ≡ y
some_equal x y is = cc

pub Steps-settle_step : (s t : Settling) → MaySettle s.volume → settle_step s ≡ Some t → Steps s.volume t.volume
Steps-settle_step s t may step = elim (option_cases (next_ready s.volume)) [
  | inl none ↦ (let impossible : None ≡ Some t = rw none at step in cc)
  | inr some ↦ subst (λ (t : Settling). Steps s.volume t.volume) (some_equal (taken_up s some.0) t (rw some.1 at step)) (Steps-taken_up s some.0 may (next_ready-is s.volume some.0 some.1))
]

-- ---- the settlement

-- a settlement takes up calls until none is ready
pub taken_up_all-done : (v : Volume) (starved : List CallId) → MaySettle v → (next_ready (taken_up_all v starved).volume ≡ None) × MaySettle (taken_up_all v starved).volume
taken_up_all-done v starved may =
    let ends = repeated-ends settle_step (λ s. MaySettle s.volume) (λ s. how_many_free s.volume) (λ s t may step. let steps = Steps-settle_step s t may step in (steps.may, steps.falls))
    (length v.pending) (record { volume = v; starved = starved; taken = [] }) may (how_many-length (is_free v) v.pending) in
    (no_step (taken_up_all v starved) ends.0, ends.1)
  where
    no_step : (s : Settling) → settle_step s ≡ None → next_ready s.volume ≡ None
    no_step s none = option_map-none (taken_up s) (next_ready s.volume) none

-- ---- what is ready, counted

no-item : {X : Type 0} (items : List X) (test : X → Bool) → slice_get items 0 ≡ None → how_many test items ≡ 0
no-item [] test none = refl
no-item (x ∷ items) test none = cc

pub none-ready : (v : Volume) → next_ready v ≡ None → how_many (λ e. is_ready v e.1) v.pending ≡ 0
none-ready v next =
    let ordered = how_many-in_order (λ e. is_ready v e.1) (λ a b. nat_lt a.0 b.0) (filter (λ e. is_ready v e.1) v.pending) in
    let kept = how_many-filter (λ e. is_ready v e.1) (λ e. is_ready v e.1) v.pending in
    let all = how_many-weaker (λ e. is_ready v e.1) (λ e. is_ready v e.1 && is_ready v e.1) v.pending (λ e ready. and_true (is_ready v e.1) (is_ready v e.1) ready ready) in
    let none = no-item (in_order (λ a b. nat_lt a.0 b.0) (filter (λ e. is_ready v e.1) v.pending)) (λ e. is_ready v e.1) next in
    omega arith

pub ready-none : (v : Volume) → how_many (λ e. is_ready v e.1) v.pending ≡ 0 → next_ready v ≡ None
ready-none v none = elim (option_cases (next_ready v)) [
  | inl is ↦ is
  | inr some ↦ (let next = next_ready-is v some.0 some.1 in let many = next.is_there (λ e. is_ready v e.1) next.ready in absurd (omega arith))
]

-- ---- what is due to a pending Notify

-- a Notify to whose watch something is due
abbrev pub lacks_report : Volume → ℕ → What → Bool
lacks_report v client (Ask (Notify handle filter tree room)) = has_due v client handle
lacks_report v client _ = false

abbrev pub is_unreported : Volume → ℕ × Pending → Bool
is_unreported v entry = lacks_report v entry.1.call.client entry.1.call.what

-- the first of the pending calls that pass is one of them
first-there : (v : Volume) (p : Pending → Bool) (entry : ℕ × Pending) (test : ℕ × Pending → Bool) → slice_get (pending_by_turn p v) 0 ≡ Some entry → test entry ≡ true
    → 1 ≤ how_many (λ e. p e.1 && test e) v.pending
first-there v p entry test first passes =
    let there = first-item (pending_by_turn p v) entry test first passes in
    let ordered = how_many-in_order test (λ a b. nat_lt a.0 b.0) (filter (λ e. p e.1) v.pending) in
    let kept = how_many-filter test (λ e. p e.1) v.pending in
    omega arith

-- where some pass there is a first
first-some : (v : Volume) (p : Pending → Bool) → 1 ≤ how_many (λ e. p e.1) v.pending → (entry : ℕ × Pending) × (slice_get (pending_by_turn p v) 0 ≡ Some entry)
first-some v p some = elim (option_cases (slice_get (pending_by_turn p v) 0)) [
  | inr first ↦ first
  | inl none ↦ (let empty = no-item (pending_by_turn p v) (λ e. p e.1) none in
      let ordered = how_many-in_order (λ (e : ℕ × Pending). p e.1) (λ a b. nat_lt a.0 b.0) (filter (λ e. p e.1) v.pending) in
      let kept = how_many-filter (λ (e : ℕ × Pending). p e.1) (λ e. p e.1) v.pending in
      let all = how_many-weaker (λ (e : ℕ × Pending). p e.1) (λ e. p e.1 && p e.1) v.pending (λ e is. and_true (p e.1) (p e.1) is is) in
      absurd (omega arith))
]

-- where no call is ready, nothing is due to the watch of a pending Notify
pub none-unreported : (v : Volume) → MaySettle v → next_ready v ≡ None → how_many (is_unreported v) v.pending ≡ 0
none-unreported v may next = elim (cases_Bool (list_any (is_unreported v) v.pending)) [
  | inr none ↦ how_many-none (is_unreported v) v.pending none
  | inl some ↦ absurd (impossible (some_item (is_unreported v) v.pending some))
]
  where
    -- the first Notify of the handle would be ready
    first-ready : (client handle : ℕ) (first : ℕ × Pending) → has_due v client handle ≡ true → slice_get (pending_by_turn (is_notify_on client handle) v) 0 ≡ Some first → ⊥
    first-ready client handle first due is =
        let none = none-ready v next in
        let no_wrong = may.held in
        let passing = first-there v (is_notify_on client handle) first (λ e. not (is_ready v e.1)) is in
        elim (cases_Bool (is_notify_on client handle first.1)) [
          | inr isnt ↦ (let both = first-there v (is_notify_on client handle) first (λ e. not (is_notify_on client handle e.1)) is (rw isnt refl) in
              let never = none_both (is_notify_on client handle) v.pending in absurd (omega arith))
          | inl one ↦ (let own : first.1.call.client ≡ client = eqb-true first.1.call.client client (and_left (first.1.call.client == client) (is_notify_of handle first.1.call.what) one) in
              let of_handle : is_notify_of handle first.1.call.what ≡ true = and_right (first.1.call.client == client) (is_notify_of handle first.1.call.what) one in
              elim (cases_Bool (is_held first.1)) [
                | inl held ↦ (let wrong = first-there v (is_notify_on client handle) first is_held_wrongly is (rw (held, never_held first.1.call.what of_handle) refl) in
                    let fewer = how_many-weaker (λ e. is_notify_on client handle e.1 && is_held_wrongly e) is_held_wrongly v.pending (λ e both. and_right (is_notify_on client handle e.1) (is_held_wrongly e) both) in absurd (omega arith))
                | inr waits ↦ (let ready = first-there v (is_notify_on client handle) first (λ e. is_ready v e.1) is (rw waits (comes first.1.call.what first.1.call.client first.1.call.number own of_handle (first_is first is))) in
                    let fewer = how_many-weaker (λ e. is_notify_on client handle e.1 && is_ready v e.1) (λ e. is_ready v e.1) v.pending (λ e both. and_right (is_notify_on client handle e.1) (is_ready v e.1) both) in absurd (omega arith))
              ])
        ]
      where
        none_both : (p : Pending → Bool) (rows : List (ℕ × Pending)) → how_many (λ e. p e.1 && not (p e.1)) rows ≡ 0
        none_both p [] = refl
        none_both p (x ∷ rows) = (let rest = none_both p rows in elim (cases_Bool (p x.1)) [ inl is ↦ rw is (omega arith) | inr isnt ↦ rw isnt (omega arith) ])

        never_held : (what : What) → is_notify_of handle what ≡ true → may_be_held what ≡ false
        never_held (Ask (Notify other filter tree room)) is = refl
        never_held _ is = cc

        first_is : (first : ℕ × Pending) → slice_get (pending_by_turn (is_notify_on client handle) v) 0 ≡ Some first → is_first_notify v client first.1.call.number handle ≡ true
        first_is first is = rw is (eq-eqb first.1.call.number first.1.call.number refl)

        comes : (what : What) (own number : ℕ) → own ≡ client → is_notify_of handle what ≡ true → is_first_notify v client number handle ≡ true → has_come v own number what ≡ true
        comes (Ask (Notify other filter tree room)) own number same is first =
            (let here : other ≡ handle = eqb-true other handle is in rw (same, here, due) first)
        comes _ own number same is first = cc

    impossible : Found (is_unreported v) v.pending → ⊥
    impossible some = go some.item.1.call.what refl
      where
        go : (what : What) → some.item.1.call.what ≡ what → ⊥
        go (Ask (Notify handle filter tree room)) is =
            let due : has_due v some.item.1.call.client handle ≡ true = rw is at some.passes in
            let there : list_any (λ e. is_notify_on some.item.1.call.client handle e.1) v.pending ≡ true = some.is_there (λ e. is_notify_on some.item.1.call.client handle e.1)
            (rw (is, eq-eqb some.item.1.call.client some.item.1.call.client refl) (eq-eqb handle handle refl)) in
            let first = first-some v (is_notify_on some.item.1.call.client handle) (how_many-some (λ e. is_notify_on some.item.1.call.client handle e.1) v.pending there) in
            first-ready some.item.1.call.client handle first.0 due first.1
        go _ is = (let no : false ≡ true = rw is at some.passes in cc)

-- ---- where all wait

abbrev pub is_wait_of : ℕ × Pending → Bool
is_wait_of entry = is_wait entry.1.call.what

-- no wait is left where all wait
pub no-wait_left : (v : Volume) → how_many is_wait_of (with_calls_ended (λ _. Stalled) (waits_in_order v) v).pending ≡ 0
no-wait_left v = elim (cases_Bool (list_any is_wait_of (with_calls_ended (λ _. Stalled) (waits_in_order v) v).pending)) [
  | inr none ↦ how_many-none is_wait_of (with_calls_ended (λ _. Stalled) (waits_in_order v) v).pending none
  | inl some ↦ absurd (impossible (some_item is_wait_of (with_calls_ended (λ _. Stalled) (waits_in_order v) v).pending some))
]
  where
    impossible : Found is_wait_of (with_calls_ended (λ _. Stalled) (waits_in_order v) v).pending → ⊥
    impossible some =
        let client = some.item.1.call.client in
        let number = some.item.1.call.number in
        let here : list_any (λ e. is_wait_of e && is_call_of client number e) (with_calls_ended (λ _. Stalled) (waits_in_order v) v).pending ≡ true
        = some.is_there (λ e. is_wait_of e && is_call_of client number e) (rw (some.passes, is_same-refl client number) refl) in
        let still = how_many-some (λ e. is_wait_of e && is_call_of client number e) (with_calls_ended (λ _. Stalled) (waits_in_order v) v).pending here in
        let before = fewer-calls_ended (λ _. Stalled) (waits_in_order v) v (λ e. is_wait_of e && is_call_of client number e) in
        let kept = how_many-filter (is_call_of client number) is_wait_of v.pending in
        let ordered = how_many-in_order (is_call_of client number) (λ a b. is_asked_before a.1 b.1) (filter is_wait_of v.pending) in
        let gone = gone-calls_ended (λ _. Stalled) (waits_in_order v) v client number (omega arith) in
        let weaker = how_many-weaker (λ e. is_wait_of e && is_call_of client number e) (is_call_of client number) (with_calls_ended (λ _. Stalled) (waits_in_order v) v).pending (λ e both. and_right (is_wait_of e) (is_call_of client number e) both) in
        omega arith

-- what is ready once calls have ended waits for a call, or lacked a report, or was ready
ready-ended : (v w : Volume) (pending : Pending) → w.oplocks ≡ v.oplocks → w.locks ≡ v.locks → SameWatching v w → is_ready w pending ≡ true
    → (is_wait pending.call.what ≡ true) ⊎ ((is_ready v pending || lacks_report v pending.call.client pending.call.what) ≡ true)
ready-ended v w pending oplocks locks same ready = elim (cases_Bool (is_held pending)) [
  | inl held ↦ inr (or_true (is_ready v pending) (lacks_report v pending.call.client pending.call.what) (rw (held, sym blocked_same) (rw held at ready)))
  | inr waits ↦ elim (of_what pending.call.what (rw waits at ready)) [ inl is ↦ inl is | inr lacks ↦ inr (or_right (is_ready v pending) (lacks_report v pending.call.client pending.call.what) lacks) ]
]
  where
    or_true : (b c : Bool) → b ≡ true → (b || c) ≡ true
    or_true true c is = refl
    or_true false c is = cc

    or_right : (b c : Bool) → c ≡ true → (b || c) ≡ true
    or_right true c is = refl
    or_right false c is = is

    lives_same : (b : Blocker) → blocker_lives w b ≡ blocker_lives v b
    lives_same (blocker.Break number) = rw oplocks refl
    lives_same (blocker.Lock number) = rw locks refl

    blocked_same : is_blocked (blocker_lives w) pending ≡ is_blocked (blocker_lives v) pending
    blocked_same = any-same (blocker_lives w) (blocker_lives v) pending.blockers lives_same

    of_what : (what : What) → has_come w pending.call.client pending.call.number what ≡ true → (is_wait what ≡ true) ⊎ (lacks_report v pending.call.client what ≡ true)
    of_what (WaitFor number) come = inl refl
    of_what (Ask (Notify handle filter tree room)) come =
        inr (sym (has_due-same v w pending.call.client handle same) ∙ and_left (has_due w pending.call.client handle) (is_first_notify w pending.call.client pending.call.number handle) come)
    of_what _ come = cc

stalled-done : (v : Volume) → MaySettle v → next_ready v ≡ None → next_ready (with_calls_ended (λ _. Stalled) (waits_in_order v) v) ≡ None
stalled-done v may done =
    let after : Volume = with_calls_ended (λ _. Stalled) (waits_in_order v) v in
    let same = blockers-calls_ended (λ _. Stalled) (waits_in_order v) v in
    let none = none-ready v done in
    let no_report = none-unreported v may done in
    let no_wait = no-wait_left v in
    let fewer = fewer-calls_ended (λ _. Stalled) (waits_in_order v) v (λ e. is_ready v e.1 || is_unreported v e) in
    let few = how_many-either (λ e. is_ready v e.1) (is_unreported v) (λ e. is_ready v e.1 || is_unreported v e) v.pending (λ e one. or_cases (is_ready v e.1) (is_unreported v e) one) in
    let either = how_many-either is_wait_of (λ e. is_ready v e.1 || is_unreported v e) (λ e. is_ready after e.1) after.pending
    (λ e ready. ready-ended v after e.1 same.oplocks same.locks (watching-calls_ended (λ _. Stalled) (waits_in_order v) v) ready) in
    ready-none after (omega arith)
  where
    or_cases : (b c : Bool) → (b || c) ≡ true → (b ≡ true) ⊎ (c ≡ true)
    or_cases true c is = inl refl
    or_cases false c is = inr is

pub with_stalled-done : (v : Volume) → MaySettle v → next_ready v ≡ None → next_ready (with_stalled v) ≡ None
with_stalled-done v may done = elim (cases_Bool (all_wait v)) [
  | inl all ↦ rw all (stalled-done v may done)
  | inr some ↦ rw some done
]

-- after a settlement no pending call is ready
pub settled-done : (v : Volume) (starved : List CallId) → MaySettle v → next_ready (settled v starved).volume ≡ None
settled-done v starved may = (let done = taken_up_all-done v starved may in with_stalled-done (taken_up_all v starved).volume done.1 done.0)

-- ---- step by step

-- for a loop: where there is a step, the settlement goes on from what it leaves; else it is done
pub taken_up_from-step : (s t : Settling) → MaySettle s.volume → settle_step s ≡ Some t → taken_up_from t ≡ taken_up_from s
taken_up_from-step s t may step =
    let steps = Steps-settle_step s t may step in
    let few = how_many-length (is_free t.volume) t.volume.pending in
    let few_before = how_many-length (is_free s.volume) s.volume.pending in
    enough (length t.volume.pending) t steps.may few (omega (arith, steps.falls))
    ∙ one_more (length s.volume.pending) few_before steps.falls
  where
    enough : (most : ℕ) (t : Settling) → MaySettle t.volume → how_many_free t.volume ≤ most → how_many_free t.volume ≤ length s.volume.pending - 1
        → repeated settle_step most t ≡ repeated settle_step (length s.volume.pending - 1) t
    enough most t may few few_too =
        repeated-enough settle_step (λ s. MaySettle s.volume) (λ s. how_many_free s.volume) (λ s t may step. let steps = Steps-settle_step s t may step in (steps.may, steps.falls)) most (length s.volume.pending - 1) t may few few_too

    one_more : (most : ℕ) → how_many_free s.volume ≤ most → how_many_free t.volume < how_many_free s.volume → repeated settle_step (most - 1) t ≡ repeated settle_step most s
    one_more zero few falls = absurd (omega arith)
    one_more (suc most) few falls = (let less : suc most - 1 ≡ most = omega arith in rw (less, step) refl)

pub taken_up_from-done : (s : Settling) → settle_step s ≡ None → taken_up_from s ≡ s
taken_up_from-done s none = repeated-none settle_step (length s.volume.pending) s none

-- ---- the least turn

-- no other ready call has a lesser turn
pub next_ready-least : (v : Volume) (entry other : ℕ × Pending) → next_ready v ≡ Some entry
    → ((test : ℕ × Pending → Bool) → test other ≡ true → 1 ≤ how_many test v.pending) → is_ready v other.1 ≡ true → entry.0 ≤ other.0
next_ready-least v entry other next there ready =
    let kept = how_many-filter (λ e. nat_lt e.0 entry.0) (λ e. is_ready v e.1) v.pending in
    let none = first-least (filter (λ e. is_ready v e.1) v.pending) entry next in
    elim (cases_Bool (nat_lt other.0 entry.0)) [
      | inl less ↦ (let many = there (λ e. is_ready v e.1 && nat_lt e.0 entry.0) (rw (ready, less) refl) in absurd (omega arith))
      | inr isnt ↦ ltb-false other.0 entry.0 isnt
    ]

-- the only one such is the next
pub least-next_ready : (v : Volume) (entry next : ℕ × Pending) → IsNext v entry → next_ready v ≡ Some next → next.0 ≡ entry.0
least-next_ready v entry next is found =
    let other = next_ready-is v next found in
    let below = next_ready-least v next entry found is.is_there is.ready in
    elim (cases_Bool (nat_lt next.0 entry.0)) [
      | inl less ↦ (let many = other.is_there (λ e. is_ready v e.1 && nat_lt e.0 entry.0) (rw (other.ready, less) refl) in let none = is.least in absurd (omega arith))
      | inr isnt ↦ (let above : entry.0 ≤ next.0 = ltb-false next.0 entry.0 isnt in omega arith)
    ]
