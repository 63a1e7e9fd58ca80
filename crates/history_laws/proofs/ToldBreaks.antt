-- Breaks end a call in what tells of a break only where an oplock is granted to it, and tell what a break of that tells.
use Rattle.std.proofs.Common.{◌≡◌, ℕ, ◌+◌, ◌<◌, ◌≤◌, Bool, true, false, not, cond, List, [], ◌∷◌, refl, arith, eq-eqb, inl, inr, Option, Some, None}
use Rattle.std.specs.List.{filter, fold, list_any}
use Rattle.std.specs.Option.{option_map_or}
use Rattle.std.specs.Prelude.{◌==◌, ◌&&◌, ◌||◌, is_some, option_and_then}
use Rattle.std.proofs.lemmas.Bool.{cases_Bool, cases_lt, eqb-true}
use Rattle.fsa_types.specs.OplockLists.{after_effect, effect_on, told_by}
use Rattle.fsa_types.specs.Oplocks.{Effect, Stays, Ends, Begins, Lowers}
use Rattle.fsa_types.specs.Rows.{row_of}
use Rattle.fsa_types.specs.declared.oplock.Class.{Class}
use Rattle.fsa_types.specs.declared.oplock.Class.TheVariants.{Clash, NameChange, ReadOpen, Change}
use Rattle.fsa_types.specs.declared.reply.EndOf.{EndOf}
use Rattle.fsa_types.specs.declared.reply.Reply.{Reply}
use Rattle.fsa_types.specs.declared.request.Level.{Level}
use Rattle.fsa_types.specs.declared.request.Level.TheVariants.{Nil}
use Rattle.fsa_model.specs.Breaks.{chosen, is_broken_before, is_chosen, with_break_begun, with_effect, with_oplocks, oplocks_of}
use Rattle.fsa_model.specs.Edits.{is_call, with_end, without_oplock}
use Rattle.fsa_model.specs.Once.{how_many, is_end}
use Rattle.fsa_model.specs.Volume.{Oplock, Pending, Volume}
use Rattle.fsa_model.specs.Waiting.{is_granted_under}
use Rattle.fsa_model.proofs.BreakLaws.{told-oplocks}
use Rattle.fsa_model.proofs.CountLaws.{and_left, and_right, how_many-append, how_many-filter_le, how_many-in_order, how_many-map, how_many-some, how_many-weaker, some-how_many}
use Rattle.fsa_model.proofs.OnceLaws.{is_call_of, is_same-equal}
use Rattle.fsa_model.proofs.PendLaws.{found-under}
use Rattle.fsa_model.proofs.RowLaws.{any-weaker, option_cases, or_right}
use Rattle.fsa_model.proofs.TryLaws.{Keeps, Keeps-effect}
use Rattle.fsa_model.proofs.WaitLaws.{begun, changed, lowered}
use Rattle.history_laws.specs.Telling.{TellsOfOplock, may_be_told, telling, tells, tells_of_break, times_told}
use Rattle.history_laws.proofs.ByBreaks.{ByBreaks, Still, Locked, Broken, Next}

-- no break of the oplock is in progress, and it passes
abbrev pub is_whole : (Oplock → Bool) → Oplock → Bool
is_whole test oplock = not (is_some oplock.target) && test oplock

-- no call comes to be pending, each oplock without a break in progress was there, as it is, and calls end in what tells of a
-- break only where such a one was granted to them
pub record Tells (v w : Volume) : Type 0 where
  pub pending : (test : ℕ × Pending → Bool) → how_many test w.pending ≤ how_many test v.pending
  pub whole : (test : Oplock → Bool) → how_many (is_whole test) w.oplocks ≤ how_many (is_whole test) v.oplocks
  pub told : TellsOfOplock v w

-- where no call ends so
pub none-told : (v w : Volume) → ((test : Reply → Bool) (client number : ℕ) → times_told test client number w ≤ times_told test client number v) → TellsOfOplock v w
none-told v w fewer test client number more = absurd (let few = fewer test client number in omega arith)

pub tells-same : (v w : Volume) → w.oplocks ≡ v.oplocks → w.pending ≡ v.pending → w.ended ≡ v.ended → Tells v w
tells-same v w oplocks pending ended = record {
  pending = λ test. rw pending (omega arith);
  whole = λ test. rw oplocks (omega arith);
  told = none-told v w (λ test client number. rw ended (omega arith));
}

-- what may be told later might have been told before
may-before : {u v : Volume} → Tells u v → (test : Reply → Bool) (client number : ℕ) → list_any (may_be_told test client number v) v.pending ≡ true → list_any (may_be_told test client number u) u.pending ≡ true
may-before {u} {v} first test client number some =
    let there = how_many-some (may_be_told test client number v) v.pending some in
    let weaker = how_many-weaker (may_be_told test client number v) (may_be_told test client number u) v.pending (λ e both. by e both) in
    let before = first.pending (may_be_told test client number u) in
    some-how_many (may_be_told test client number u) u.pending (omega arith)
  where
    by : (e : ℕ × Pending) → may_be_told test client number v e ≡ true → may_be_told test client number u e ≡ true
    by e both =
        let its = how_many-some (is_whole (λ oplock. is_granted_under e.0 oplock && tells test oplock)) v.oplocks (and_right (is_call client number e.1) (list_any (is_whole (λ oplock. is_granted_under e.0 oplock && tells test oplock)) v.oplocks) both) in
        let before = first.whole (λ oplock. is_granted_under e.0 oplock && tells test oplock) in
        rw (and_left (is_call client number e.1) (list_any (is_whole (λ oplock. is_granted_under e.0 oplock && tells test oplock)) v.oplocks) both)
        (some-how_many (is_whole (λ oplock. is_granted_under e.0 oplock && tells test oplock)) u.oplocks (omega arith))

pub tells-next : {u v w : Volume} → Tells u v → Tells v w → Tells u w
tells-next {u} {v} {w} first second = record {
  pending = λ test. (let one = first.pending test in let two = second.pending test in omega arith);
  whole = λ test. (let one = first.whole test in let two = second.whole test in omega arith);
  told = λ test client number more. elim (cases_lt (times_told test client number u) (times_told test client number v)) [
    | inl now ↦ first.told test client number now
    | inr not_yet ↦ may-before first test client number (second.told test client number (omega arith))
  ];
}

-- ---- a call ends

-- otherwise than as told of a break
pub end-times : (v : Volume) (client number : ℕ) (reply : Reply) → tells_of_break reply ≡ false → (test : Reply → Bool) (by count : ℕ)
    → times_told test by count (with_end v client number reply) ≡ times_told test by count v
end-times v client number reply other test by count =
    let all = how_many-append (λ (end : EndOf). is_end by count end && (tells_of_break end.reply && test end.reply)) v.ended (record { client = client; number = number; reply = reply } ∷ []) in
    let none : how_many (λ (end : EndOf). is_end by count end && (tells_of_break end.reply && test end.reply)) (record { client = client; number = number; reply = reply } ∷ []) ≡ 0
    = rw other (fails (client == by && number == count)) in
    omega arith
  where
    fails : (b : Bool) → cond (b && false) 1 0 + 0 ≡ 0
    fails true = refl
    fails false = refl

pub tells-end : (v : Volume) (client number : ℕ) (reply : Reply) → tells_of_break reply ≡ false → Tells v (with_end v client number reply)
tells-end v client number reply other = record {
  pending = λ test. how_many-filter_le test (λ (e : ℕ × Pending). not (is_call client number e.1)) v.pending;
  whole = λ test. omega arith;
  told = none-told v (with_end v client number reply) (λ test by count. (let same = end-times v client number reply other test by count in omega arith));
}

-- ---- an oplock breaks

first : (a b : Bool) → a ≡ true → (a || b) ≡ true
first a b is = rw is refl

-- what a break of some class tells
some-class : (kind : Class) (o : Oplock) (test : Reply → Bool) (what : Level × Bool) → told_by (effect_on kind o) ≡ Some what → test (telling what.0 what.1) ≡ true → tells test o ≡ true
some-class kind o test what is passes = by kind (rw is passes)
  where
    told : Class → Bool
    told kind = option_map_or (λ what. test (telling what.0 what.1)) (told_by (effect_on kind o)) false

    by : (kind : Class) → told kind ≡ true → tells test o ≡ true
    by Clash here = first (told Clash) _ here
    by NameChange here = or_right (told Clash) _ (first (told NameChange) _ here)
    by ReadOpen here = or_right (told Clash) _ (or_right (told NameChange) _ (first (told ReadOpen) _ here))
    by Change here = or_right (told Clash) _ (or_right (told NameChange) _ (or_right (told ReadOpen) _ (first (told Change) false here)))

-- it is told where none is in progress
unbroken : (kind : Class) (o : Oplock) (what : Level × Bool) → told_by (effect_on kind o) ≡ Some what → is_some o.target ≡ false
unbroken kind o what is = elim (option_cases o.target) [
  | inl none ↦ rw none refl
  | inr target ↦ (let impossible : None ≡ Some what = rw target.1 at is in cc)
]

-- the effect leaves of the oplocks without a break in progress
pub effect-whole : (w : Volume) (o : Oplock) (done : Effect) (test : Oplock → Bool) → how_many (is_whole test) (with_effect w o done).oplocks ≤ how_many (is_whole test) w.oplocks
effect-whole w o Stays test = omega arith
effect-whole w o Ends test = rw (told-oplocks (without_oplock w o.handle) o.call Nil false) (how_many-filter_le (is_whole test) (λ (x : Oplock). not (x.handle == o.handle)) w.oplocks)
effect-whole w o (Begins level) test =
    rw (told-oplocks (with_break_begun w o.handle level) o.call level true)
    (let all = how_many-map (is_whole test) (changed (begun (w.last_break + 1) level) o.handle) w.oplocks in
    let weaker = how_many-weaker (λ x. is_whole test (changed (begun (w.last_break + 1) level) o.handle x)) (is_whole test) w.oplocks
    (λ x both. elim (cases_Bool (x.handle == o.handle)) [ inl here ↦ (let impossible : false ≡ true = rw here at both in cc) | inr apart ↦ rw apart at both ]) in omega arith)
effect-whole w o (Lowers level) test =
    let all = how_many-map (is_whole test) (changed (lowered level) o.handle) w.oplocks in
    let weaker = how_many-weaker (λ x. is_whole test (changed (lowered level) o.handle x)) (is_whole test) w.oplocks
    (λ x both. elim (cases_Bool (x.handle == o.handle)) [ inl here ↦ (let impossible : false ≡ true = rw here at both in cc) | inr apart ↦ rw apart at both ]) in
    omega arith

module _ (v w : Volume) (kind : Class) (o : Oplock) (there : (test : Oplock → Bool) → test o ≡ true → list_any test v.oplocks ≡ true) (fewer : (test : ℕ × Pending → Bool) → how_many test w.pending ≤ how_many test v.pending) where
  -- the call of an oplock of the first volume is told
  call-told : (test : Reply → Bool) (client number : ℕ) (call : Option ℕ) (what : Level × Bool) → o.call ≡ call → told_by (effect_on kind o) ≡ Some what
      → how_many (λ (end : EndOf). is_end client number end && (tells_of_break end.reply && test end.reply)) w.ended
      < times_told test client number (option_map_or (λ row. with_end w row.call.client row.call.number (telling what.0 what.1)) (option_and_then (row_of w.pending) call) w)
      → list_any (may_be_told test client number v) v.pending ≡ true
  call-told test client number None what its_call is more = absurd (omega arith)
  call-told test client number (Some turn) what its_call is more = elim (option_cases (row_of w.pending turn)) [
    | inl missing ↦ absurd (let none : times_told test client number w < times_told test client number w = rw missing at more in omega arith)
    | inr row ↦ (
        let all = how_many-append (λ (end : EndOf). is_end client number end && (tells_of_break end.reply && test end.reply)) w.ended (record { client = row.0.call.client; number = row.0.call.number; reply = telling what.0 what.1 } ∷ []) in
        let now : times_told test client number w < times_told test client number (with_end w row.0.call.client row.0.call.number (telling what.0 what.1)) = rw row.1 at more in
        elim (cases_Bool (is_end client number (record { client = row.0.call.client; number = row.0.call.number; reply = telling what.0 what.1 }) && test (telling what.0 what.1))) [
          | inr fails ↦ absurd (let nothing : how_many (λ (end : EndOf). is_end client number end && (tells_of_break end.reply && test end.reply)) (record { client = row.0.call.client; number = row.0.call.number; reply = telling what.0 what.1 } ∷ []) ≡ 0 = rw fails refl in omega arith)
          | inl both ↦ (
              let passes = and_right (row.0.call.client == client && row.0.call.number == number) (test (telling what.0 what.1)) both in
              let same = is_same-equal row.0.call.client row.0.call.number client number (and_left (row.0.call.client == client && row.0.call.number == number) (test (telling what.0 what.1)) both) in
              let pends = found-under w.pending turn row.0 row.1 in
              let before = fewer (λ e. is_call_of row.0.call.client row.0.call.number e && e.0 == turn) in
              any-weaker (λ e. is_call_of row.0.call.client row.0.call.number e && e.0 == turn) (may_be_told test client number v) v.pending
              (λ e both.
              (let its : is_call client number e.1 ≡ true = rw (← same.0, ← same.1) (and_left (is_call_of row.0.call.client row.0.call.number e) (e.0 == turn) both) in
              let under : e.0 ≡ turn = eqb-true e.0 turn (and_right (is_call_of row.0.call.client row.0.call.number e) (e.0 == turn) both) in
              let granted : is_granted_under e.0 o ≡ true = rw (its_call, under) (eq-eqb turn turn refl) in
              rw its (there (is_whole (λ oplock. is_granted_under e.0 oplock && tells test oplock)) (rw (unbroken kind o what is, granted) (some-class kind o test what is passes)))))
              (some-how_many (λ e. is_call_of row.0.call.client row.0.call.number e && e.0 == turn) v.pending (omega arith)))
        ])
  ]

-- a chosen oplock breaks
effect-tells : (v w : Volume) (kind : Class) (o : Oplock) → ((test : Oplock → Bool) → test o ≡ true → list_any test v.oplocks ≡ true) → Tells v w → Tells v (with_effect w o (effect_on kind o))
effect-tells v w kind o there so = record {
  pending = λ test. (let before = so.pending test in let fewer = Keeps.pending (Keeps-effect w o (effect_on kind o)) test in omega arith);
  whole = λ test. (let before = so.whole test in let fewer = effect-whole w o (effect_on kind o) test in omega arith);
  told = λ test client number more. elim (cases_lt (times_told test client number v) (times_told test client number w)) [
    | inl now ↦ so.told test client number now
    | inr not_yet ↦ now_told test client number (omega arith)
  ];
}
  where
    now_told : (test : Reply → Bool) (client number : ℕ) → times_told test client number w < times_told test client number (with_effect w o (effect_on kind o)) → list_any (may_be_told test client number v) v.pending ≡ true
    now_told test client number more = elim (option_cases (told_by (effect_on kind o))) [
      | inl none ↦ absurd (let same : times_told test client number w < times_told test client number w = rw none at more in omega arith)
      | inr what ↦ call-told v (with_oplocks w (after_effect (effect_on kind o) o.handle (oplocks_of w))) kind o there so.pending test client number o.call what.0 refl what.1 (rw what.1 at more)
    ]

-- one after the other
each-tells : (v : Volume) (kind : Class) (oplocks : List Oplock) → ((test : Oplock → Bool) → how_many test oplocks ≤ how_many test v.oplocks) → (w : Volume) → Tells v w
    → Tells v (fold (λ w oplock. with_effect w oplock (effect_on kind oplock)) w oplocks)
each-tells v kind [] among w so = so
each-tells v kind (o ∷ oplocks) among w so =
    each-tells v kind oplocks (λ test. (let few = among test in omega arith)) (with_effect w o (effect_on kind o))
    (effect-tells v w kind o (λ test passes. some-how_many test v.oplocks (let few : cond true 1 0 + how_many test oplocks ≤ how_many test v.oplocks = rw passes at (among test) in omega arith)) so)

-- all that changes oplocks, pending calls and ends by breaks alone
pub by-tells : {kind : Class} {v w : Volume} → ByBreaks kind v w → Tells v w
by-tells (Still v w oplocks locks pending ended left last_break last_lock) = tells-same v w oplocks pending ended
by-tells (Locked v handle at count exclusive) = tells-same v _ refl refl refl
by-tells {kind} (Broken v on acting key) = each-tells v kind (chosen v on acting key) (λ test.
    (let ordered = how_many-in_order test (is_broken_before v) (filter (is_chosen v on acting key) v.oplocks) in let kept = how_many-filter_le test (is_chosen v on acting key) v.oplocks in omega arith))
    v (tells-same v v refl refl refl)
by-tells (Next u v w first second) = tells-next (by-tells first) (by-tells second)
