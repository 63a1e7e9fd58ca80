-- Which held calls are taken up in a settlement: just those that no living blocker holds when it begins, once
-- each. And no call gets lost or ends twice in it.
use Rattle.std.proofs.Common.{◌≡◌, ℕ, ◌+◌, ◌<◌, ◌≤◌, Bool, true, false, cond, not, List, [], ◌∷◌, ◌++◌, length, get_or, refl, ap, sym, subst, ◌∙◌, arith, inl, inr, ◌⊎◌, Some, None}
use Rattle.std.specs.List.{list_any, All, AllPairs}
use Rattle.std.proofs.lemmas.List.Quantifiers.{all_pairs_push}
use Rattle.std.proofs.lemmas.List.Elements.{All-push}
use Rattle.std.specs.Prelude.{nat_lt, ◌==◌, ◌||◌, ◌&&◌}
use Rattle.std.proofs.lemmas.Bool.{cases_Bool, eq-eqb, eqb-true, eqb-false, ltb-true, ltb-false}
use Rattle.std.proofs.lemmas.List.{append-nil, length-map, length-append}
use Rattle.std.proofs.lemmas.List.Folds.{list_any_at, list_any_none}
use Rattle.fsa_types.specs.declared.request.CallId.{CallId}
use Rattle.fsa_types.specs.declared.reply.Blocker.{Blocker}
use Rattle.fsa_types.specs.declared.reply.Reply.{Reply}
use Rattle.fsa_model.specs.Edits.{is_call, with_end, with_blockers}
use Rattle.fsa_model.specs.Once.{how_many, times, made, IsOnce}
use Rattle.fsa_model.specs.Outcome.{Outcome, Done, Stay, Hold}
use Rattle.fsa_model.specs.Settle.{Settling, with_tried, starves, held_taken_up, taken_up, settle_step, taken_up_all}
use Rattle.fsa_model.specs.Try.{try}
use Rattle.fsa_model.specs.Volume.{Pending, Volume}
use Rattle.fsa_model.specs.Waiting.{AreLiving, blocker_lives, is_held, is_ready, next_ready, is_granted_under}
pub use Rattle.fsa_model.specs.Settling.{is_ungiven, HasGiven, is_let_go_under, let_go, GivesAtMost, GoesOn, MayTakeUp}
use Rattle.fsa_model.proofs.CountLaws.{and_left, and_right, how_many-append, how_many-weaker, how_many-same, how_many-filter, how_many-filter_le, how_many-map, how_many-split, how_many-some, how_many-none, some-how_many, only-one, how_many-length}
use Rattle.fsa_model.proofs.OnceLaws.{AddsEnds, AddsEnds-length, AddsEnds-same, AddsEnds-next, is_call_of, is_same-refl, IsOnce-kept}
use Rattle.fsa_model.proofs.RowLaws.{option_cases, option_map-none, change_at, change_at-number}
use Rattle.fsa_model.proofs.SettleLaws.{MaySettle, IsNext, is_under, is_free, how_many_free, next_ready-is, ready-free, next-may_be_held, try-tries, MaySettle-kept, Steps, Steps-settle_step, repeated-ends, some_equal, none-ready}
use Rattle.fsa_model.proofs.WaitLaws.{unbroken}
use Rattle.fsa_model.proofs.TryLaws.{SameNumbers, SameNumbers-same, FewNumbers, FewNumbers-same, Keeps, Keeps-next, Keeps-ends, Leaves, Leaves-same, Tries, TriesTo, is_given, GrantsNoneHeld, GrantsNoneHeld-kept, HasOneOplockEach-kept, held-ends, swapped, Watches, Watches-equal, Watches-next, Leaves-untouched, Untouched}
use Rattle.fsa_model.proofs.WatchLaws.{comes_over}

-- ---- what is asked of the volume

abbrev pub one_if : Bool → ℕ
one_if test = cond test 1 0

-- where no number is given, and no end is taken away
pub GivesAtMost-same : (v w : Volume) (more : ℕ) → SameNumbers v w → AddsEnds v.ended w.ended → GivesAtMost v (length v.ended + more) → GivesAtMost w (length w.ended + more)
GivesAtMost-same v w more same extends gives =
    let longer = AddsEnds-length extends in
    record {
      files = let is = same.files in let few = gives.files in omega arith;
      links = let is = same.links in let few = gives.links in omega arith;
      streams = let is = same.streams in let few = gives.streams in omega arith;
      handles = let is = same.handles in let few = gives.handles in omega arith;
      locks = let is = same.locks in let few = gives.locks in omega arith;
    }

-- where a call that was given a few numbers ends
pub GivesAtMost-ends : (v w : Volume) (client number more : ℕ) (reply : Reply) → FewNumbers v w → AddsEnds v.ended w.ended → GivesAtMost v (length v.ended + more)
    → GivesAtMost (with_end w client number reply) (length (with_end w client number reply).ended + more)
GivesAtMost-ends v w client number more reply few extends gives =
    let longer = AddsEnds-length extends in
    let one = length-append w.ended (record { client = client; number = number; reply = reply } ∷ []) in
    record {
      files = let most = few.files in let up = gives.files in omega arith;
      links = let most = few.links in let up = gives.links in omega arith;
      streams = let most = few.streams in let up = gives.streams in omega arith;
      handles = let most = few.handles in let up = gives.handles in omega arith;
      locks = let most = few.locks in let up = gives.locks in omega arith;
    }

-- ---- lists

how_many-agree : {X : Type 0} (p q bad : X → Bool) (xs : List X) → how_many bad xs ≡ 0 → ((x : X) → bad x ≡ false → p x ≡ q x) → how_many p xs ≡ how_many q xs
how_many-agree p q bad [] none agree = refl
how_many-agree p q bad (x ∷ xs) none agree = elim (cases_Bool (bad x)) [
  | inl is ↦ (let some : 1 + how_many bad xs ≡ 0 = rw is at none in absurd (omega arith))
  | inr isnt ↦ (let rest : 0 + how_many bad xs ≡ 0 = rw isnt at none in rw (agree x isnt) (ap (λ more. cond (q x) 1 0 + more) (how_many-agree p q bad xs (omega arith) agree)))
]

-- ---- what a try of a held call leaves

lives-same : (v w : Volume) (b : Blocker) → Leaves v w → is_given v b ≡ true → blocker_lives w b ≡ blocker_lives v b
lives-same v w b leaves given = go (cases_Bool (blocker_lives v b)) (cases_Bool (blocker_lives w b))
  where
    go : (blocker_lives v b ≡ true) ⊎ (blocker_lives v b ≡ false) → (blocker_lives w b ≡ true) ⊎ (blocker_lives w b ≡ false) → blocker_lives w b ≡ blocker_lives v b
    go (inl is) after = leaves.lives b is ∙ sym is
    go (inr isnt) (inr gone) = gone ∙ sym isnt
    go (inr isnt) (inl comes) = elim (leaves.new b comes) [
      | inl before ↦ comes ∙ sym before
      | inr new ↦ (let impossible : is_given v b ≡ false = new.0 in cc)
    ]

blocked-same : (v w : Volume) (blockers : List Blocker) → Leaves v w → list_any (λ b. not (is_given v b)) blockers ≡ false → list_any (blocker_lives w) blockers ≡ list_any (blocker_lives v) blockers
blocked-same v w [] leaves given = refl
blocked-same v w (b ∷ blockers) leaves given =
    let parts = or_none (not (is_given v b)) (list_any (λ c. not (is_given v c)) blockers) given in
    rw (lives-same v w b leaves (twice (is_given v b) parts.0)) (ap (λ more. blocker_lives v b || more) (blocked-same v w blockers leaves parts.1))
  where
    twice : (b : Bool) → not b ≡ false → b ≡ true
    twice true is = refl
    twice false is = cc

    or_none : (b c : Bool) → (b || c) ≡ false → (b ≡ false) × (c ≡ false)
    or_none true c is = (is, cc)
    or_none false c is = (refl, is)

-- as many calls are let go as before
let_go-kept : (turn : ℕ) (v w : Volume) → Leaves v w → IsOnce v → GrantsNoneHeld v → HasGiven v → let_go turn w ≡ let_go turn v
let_go-kept turn v w leaves once none given =
    how_many-same (is_let_go_under turn w) (λ e. is_held e.1 && (is_under turn e && is_free w e)) w.pending (λ e. turned_round (is_under turn e) (is_held e.1) (is_free w e))
    ∙ leaves.held once none (λ e. is_under turn e && is_free w e)
    ∙ how_many-agree (λ e. is_held e.1 && (is_under turn e && is_free w e)) (is_let_go_under turn v) (is_ungiven v) v.pending given.blockers
    (λ e is. ap (λ (blocked : Bool). is_held e.1 && (is_under turn e && not blocked)) (blocked-same v w e.1.blockers leaves is) ∙ sym (turned_round (is_under turn e) (is_held e.1) (is_free v e)))
  where
    turned_round : (a b c : Bool) → (a && (b && c)) ≡ (b && (a && c))
    turned_round true true c = refl
    turned_round true false c = refl
    turned_round false true c = refl
    turned_round false false c = refl

HasGiven-kept : (v w : Volume) → Leaves v w → HasGiven v → HasGiven w
HasGiven-kept v w leaves given = record {
  oplocks = HasOneOplockEach-kept v w leaves.keeps given.oplocks;
  ones = leaves.ones given.oplocks given.living given.ones;
  living = λ b lives. elim (leaves.new b lives) [ inl before ↦ leaves.given b (given.living b before) | inr new ↦ new.1 ];
  blockers = (let none = given.blockers in let fewer = leaves.keeps.pending (is_ungiven w) in
      let weaker = how_many-weaker (is_ungiven w) (is_ungiven v) v.pending (λ e some. of_later e.1.blockers some) in omega arith);
}
  where
    of_later : (blockers : List Blocker) → list_any (λ b. not (is_given w b)) blockers ≡ true → list_any (λ b. not (is_given v b)) blockers ≡ true
    of_later [] some = some
    of_later (b ∷ blockers) some = elim (cases_Bool (is_given v b)) [
      | inr isnt ↦ rw isnt refl
      | inl is ↦ (let later : is_given w b ≡ true = leaves.given b is in let rest : list_any (λ c. not (is_given w c)) blockers ≡ true = rw later at some in rw is (of_later blockers rest))
    ]

-- ---- a call that is let go ends, or is held anew

-- it ends
let_go-ends : (turn at : ℕ) (v : Volume) (client number : ℕ) (reply : Reply) → IsOnce v → list_any (λ e. is_call_of client number e && is_let_go_under at v e) v.pending ≡ true
    → one_if (at == turn) + let_go turn (with_end v client number reply) ≡ let_go turn v
let_go-ends turn at v client number reply once some =
    let few : times client number v ≤ 1 = once client number in
    let kept = how_many-filter (is_let_go_under turn v) (λ e. not (is_call client number e.1)) v.pending in
    let same = how_many-same (λ e. not (is_call client number e.1) && is_let_go_under turn v e) (λ e. is_let_go_under turn v e && not (is_call_of client number e)) v.pending (λ e. swapped (not (is_call client number e.1)) (is_let_go_under turn v e)) in
    let split = how_many-split (is_let_go_under turn v) (is_call_of client number) v.pending in
    elim (cases_Bool (at == turn)) [
      | inl is ↦ (let here : at ≡ turn = eqb-true at turn is in
          let there : list_any (λ e. is_call_of client number e && is_let_go_under turn v e) v.pending ≡ true = subst (λ (t : ℕ). list_any (λ e. is_call_of client number e && is_let_go_under t v e) v.pending ≡ true) here some in
          let one = how_many-some (λ e. is_call_of client number e && is_let_go_under turn v e) v.pending there in
          let commuted = how_many-same (λ e. is_let_go_under turn v e && is_call_of client number e) (λ e. is_call_of client number e && is_let_go_under turn v e) v.pending (λ e. swapped (is_let_go_under turn v e) (is_call_of client number e)) in
          let most = how_many-weaker (λ e. is_call_of client number e && is_let_go_under turn v e) (is_call_of client number) v.pending (λ e both. and_left (is_call_of client number e) (is_let_go_under turn v e) both) in
          rw is (omega arith))
      | inr other ↦ (let under : list_any (λ e. is_call_of client number e && is_under at e) v.pending ≡ true
          = some-how_many (λ e. is_call_of client number e && is_under at e) v.pending (let many = how_many-some (λ e. is_call_of client number e && is_let_go_under at v e) v.pending some in
          let weaker = how_many-weaker (λ e. is_call_of client number e && is_let_go_under at v e) (λ e. is_call_of client number e && is_under at e) v.pending (λ e all. fewer (is_call_of client number e) (is_under at e) _ all) in omega arith) in
          let none = how_many-none (λ e. is_call_of client number e && not (is_under at e)) v.pending (only-one (is_call_of client number) (is_under at) v.pending (omega arith) under) in
          let no_more = how_many-weaker (λ e. is_let_go_under turn v e && is_call_of client number e) (λ e. is_call_of client number e && not (is_under at e)) v.pending (λ e all. elsewhere e other all) in
          rw other (omega arith))
    ]
  where
    fewer : (a b c : Bool) → (a && (b && c)) ≡ true → (a && b) ≡ true
    fewer true true c all = refl
    fewer true false c all = all
    fewer false b c all = all

    elsewhere : (e : ℕ × Pending) → (at == turn) ≡ false → (is_let_go_under turn v e && is_call_of client number e) ≡ true → (is_call_of client number e && not (is_under at e)) ≡ true
    elsewhere e other all =
        let call : is_call_of client number e ≡ true = and_right (is_let_go_under turn v e) (is_call_of client number e) all in
        let under : (e.0 == turn) ≡ true = and_left (is_under turn e) (is_held e.1 && is_free v e) (and_left (is_let_go_under turn v e) (is_call_of client number e) all) in
        rw call (elim (cases_Bool (e.0 == at)) [
          | inr isnt ↦ rw isnt refl
          | inl is ↦ (let one : e.0 ≡ turn = eqb-true e.0 turn under in let two : e.0 ≡ at = eqb-true e.0 at is in let impossible : (at == turn) ≡ true = eq-eqb at turn (omega arith) in cc)
        ])

-- it is held anew
let_go-holds : (turn at : ℕ) (v : Volume) (blockers : List Blocker) → how_many (is_under at) v.pending ≤ 1 → list_any (is_let_go_under at v) v.pending ≡ true → list_any (blocker_lives v) blockers ≡ true
    → one_if (at == turn) + let_go turn (with_blockers v at blockers) ≡ let_go turn v
let_go-holds turn at v blockers one some live =
    let mapped = how_many-map (is_let_go_under turn v) (change_at change at) v.pending in
    elim (cases_Bool (at == turn)) [
      | inl is ↦ (let here : at ≡ turn = eqb-true at turn is in
          let none = how_many-none (λ e. is_let_go_under turn v (change_at change at e)) v.pending (list_any_none (λ e. is_let_go_under turn v (change_at change at e)) v.pending (λ k d within. held_now here (get_at k d))) in
          let there : list_any (is_let_go_under turn v) v.pending ≡ true = subst (λ (t : ℕ). list_any (is_let_go_under t v) v.pending ≡ true) here some in
          let many = how_many-some (is_let_go_under turn v) v.pending there in
          let few : how_many (is_under turn) v.pending ≤ 1 = subst (λ (t : ℕ). how_many (is_under t) v.pending ≤ 1) here one in
          let most = how_many-weaker (is_let_go_under turn v) (is_under turn) v.pending (λ e both. and_left (is_under turn e) (is_held e.1 && is_free v e) both) in
          rw is (omega arith))
      | inr other ↦ (let same = how_many-same (λ e. is_let_go_under turn v (change_at change at e)) (is_let_go_under turn v) v.pending (λ e. not_it other e) in rw other (omega arith))
    ]
  where
    change : Pending → Pending
    change row = record row { blockers = blockers }

    get_at : ℕ → ℕ × Pending → ℕ × Pending
    get_at k d = get_or v.pending k d

    no_free : (a b : Bool) → (a && (b && false)) ≡ false
    no_free true true = refl
    no_free true false = refl
    no_free false b = refl

    held_now : at ≡ turn → (e : ℕ × Pending) → is_let_go_under turn v (change_at change at e) ≡ false
    held_now here e = elim (cases_Bool (e.0 == at)) [
      | inl is ↦ rw (is, live) (no_free (e.0 == turn) (not (length blockers == 0)))
      | inr isnt ↦ (let elsewhere : (e.0 == turn) ≡ false = subst (λ (t : ℕ). (e.0 == t) ≡ false) here isnt in rw (isnt, elsewhere) refl)
    ]

    not_it : (at == turn) ≡ false → (e : ℕ × Pending) → is_let_go_under turn v (change_at change at e) ≡ is_let_go_under turn v e
    not_it other e = elim (cases_Bool (e.0 == at)) [
      | inl is ↦ (let elsewhere : (e.0 == turn) ≡ false = rw (eqb-true e.0 at is) other in rw (is, elsewhere) refl)
      | inr isnt ↦ rw isnt refl
    ]

-- ---- one step

-- what one step does to the volume, where the held call under a turn is taken up, or none is
record LeadsTo (turns : List ℕ) (v w : Volume) : Type 0 where
  none_held : GrantsNoneHeld w
  given : HasGiven w
  times : (client number : ℕ) → times client number w ≡ times client number v
  made : made w ≡ made v
  under : (test : ℕ → Bool) → how_many (λ e. test e.0) w.pending ≤ how_many (λ e. test e.0) v.pending
  granted : (turn : ℕ) → how_many (is_granted_under turn) w.oplocks ≤ how_many (is_granted_under turn) v.oplocks
  ended : AddsEnds v.ended w.ended
  seen : Watches v w
  gives : (more : ℕ) → GivesAtMost v (length v.ended + more) → GivesAtMost w (length w.ended + more)
  breaks : w.last_break + unbroken w ≤ v.last_break + unbroken v
  taken : (turn : ℕ) → how_many (λ t. t == turn) turns + let_go turn w ≡ let_go turn v

GoesOn-step : (v : Volume) (s t : Settling) (turns : List ℕ) → GoesOn v s → Steps s.volume t.volume → t.taken ≡ s.taken ++ turns → LeadsTo turns s.volume t.volume
    → AllPairs (λ a b. a < b) t.taken → ((turn : ℕ) → 1 ≤ let_go turn t.volume → All (λ a. a < turn) t.taken) → GoesOn v t
GoesOn-step v s t turns on steps taken goes in_order below = record {
  in_order = in_order;
  below = below;
  may = steps.may;
  once = IsOnce-kept s.volume t.volume goes.times on.once;
  none_held = goes.none_held;
  given = goes.given;
  times = λ client number. goes.times client number ∙ on.times client number;
  made = goes.made ∙ on.made;
  under = λ test. let before = on.under test in let one = goes.under test in omega arith;
  granted = λ turn. let before = on.granted turn in let one = goes.granted turn in omega arith;
  ended = AddsEnds-next on.ended goes.ended;
  seen = Watches-next on.seen goes.seen;
  gives = λ more up. goes.gives more (on.gives more up);
  breaks = let before = on.breaks in let one = goes.breaks in omega arith;
  taken = λ turn. (let before = on.taken turn in let one = goes.taken turn in
      let more = ap (λ (turns : List ℕ). how_many (λ t. t == turn) turns) taken ∙ how_many-append (λ t. t == turn) s.taken turns in omega arith);
}

-- the call is there, and no living blocker holds it
is-let_go : (v : Volume) (entry : ℕ × Pending) → IsNext v entry → is_held entry.1 ≡ true → is_let_go_under entry.0 v entry ≡ true
is-let_go v entry next held = rw (eq-eqb entry.0 entry.0 refl, held, ready-free v entry.1 next.ready) refl

HasGiven-ends : (v : Volume) (client number : ℕ) (reply : Reply) → HasGiven v → HasGiven (with_end v client number reply)
HasGiven-ends v client number reply given = record {
  living = given.living;
  oplocks = given.oplocks;
  ones = given.ones;
  blockers = (let none = given.blockers in let fewer = how_many-filter_le (is_ungiven v) (λ e. not (is_call client number e.1)) v.pending in omega arith);
}

-- a call that isn't held ends
LeadsTo-unheld : (v : Volume) (entry : ℕ × Pending) (reply : Reply) → IsOnce v → GrantsNoneHeld v → HasGiven v → ((test : ℕ × Pending → Bool) → test entry ≡ true → 1 ≤ how_many test v.pending) → is_held entry.1 ≡ false
    → LeadsTo [] v (with_end v entry.1.call.client entry.1.call.number reply)
LeadsTo-unheld v entry reply once none given there waits =
    let self = is_same-refl entry.1.call.client entry.1.call.number in
    let keeps : Keeps v (with_end v entry.1.call.client entry.1.call.number reply) = Keeps-ends v entry.1.call.client entry.1.call.number reply (there (is_call_of entry.1.call.client entry.1.call.number) self) in
    let other : list_any (λ e. is_call_of entry.1.call.client entry.1.call.number e && not (is_held e.1)) v.pending ≡ true
    = some-how_many (λ e. is_call_of entry.1.call.client entry.1.call.number e && not (is_held e.1)) v.pending (there (λ e. is_call_of entry.1.call.client entry.1.call.number e && not (is_held e.1)) (rw (self, waits) refl)) in
    record {
      none_held = GrantsNoneHeld-kept v _ keeps none;
      given = HasGiven-ends v entry.1.call.client entry.1.call.number reply given;
      times = keeps.times once;
      made = keeps.made once;
      under = λ test. keeps.pending (λ e. test e.0);
      granted = keeps.granted;
      ended = keeps.ended;
      seen = keeps.seen;
      gives = λ more up. GivesAtMost-ends v v entry.1.call.client entry.1.call.number more reply (FewNumbers-same (SameNumbers-same v)) (AddsEnds-same v.ended) up;
      breaks = omega arith;
      taken = λ turn. (let stay = held-ends v entry.1.call.client entry.1.call.number reply once other (λ e. is_under turn e && is_free v e) in
          let before = how_many-same (is_let_go_under turn v) (λ e. is_held e.1 && (is_under turn e && is_free v e)) v.pending (λ e. turned_round (is_under turn e) (is_held e.1) (is_free v e)) in
          let after = how_many-same (is_let_go_under turn v) (λ e. is_held e.1 && (is_under turn e && is_free v e)) (with_end v entry.1.call.client entry.1.call.number reply).pending (λ e. turned_round (is_under turn e) (is_held e.1) (is_free v e)) in
          omega arith);
    }
  where
    turned_round : (a b c : Bool) → (a && (b && c)) ≡ (b && (a && c))
    turned_round true true c = refl
    turned_round true false c = refl
    turned_round false true c = refl
    turned_round false false c = refl

-- also where no more than watches have been seen to
LeadsTo-waits : (v w : Volume) (entry : ℕ × Pending) (reply : Reply) → Untouched v w → IsOnce v → GrantsNoneHeld v → HasGiven v → IsNext v entry → is_held entry.1 ≡ false
    → LeadsTo [] v (with_end w entry.1.call.client entry.1.call.number reply)
LeadsTo-waits v w entry reply un once none given next waits =
    let leaves : Leaves v w = Leaves-untouched v w un in
    let goes : LeadsTo [] w (with_end w entry.1.call.client entry.1.call.number reply)
    = LeadsTo-unheld w entry reply (IsOnce-kept v w (leaves.keeps.times once) once) (GrantsNoneHeld-kept v w leaves.keeps none) (HasGiven-kept v w leaves given)
    (λ test passes. rw un.pending (next.is_there test passes)) waits in
    record {
      none_held = goes.none_held;
      given = goes.given;
      times = λ client number. goes.times client number ∙ leaves.keeps.times once client number;
      made = goes.made ∙ leaves.keeps.made once;
      under = λ test. (let first = leaves.keeps.pending (λ e. test e.0) in let second = goes.under test in omega arith);
      granted = λ turn. (let first = leaves.keeps.granted turn in let second = goes.granted turn in omega arith);
      ended = AddsEnds-next leaves.keeps.ended goes.ended;
      seen = Watches-next leaves.keeps.seen goes.seen;
      gives = λ more up. goes.gives more (GivesAtMost-same v w more un.numbers leaves.keeps.ended up);
      breaks = (let first = leaves.breaks in let second = goes.breaks in omega arith);
      taken = λ turn. goes.taken turn ∙ let_go-kept turn v w leaves once none given;
    }

-- after the try the held call is still there, and still let go
still-let_go : (v w : Volume) (entry : ℕ × Pending) (test : ℕ × Pending → Bool) → Leaves v w → IsOnce v → GrantsNoneHeld v → HasGiven v → IsNext v entry → is_held entry.1 ≡ true → test entry ≡ true
    → list_any (λ e. test e && is_let_go_under entry.0 w e) w.pending ≡ true
still-let_go v w entry test leaves once none given next held passes =
    let there = next.is_there (λ e. is_held e.1 && (test e && (is_under entry.0 e && is_free v e))) (rw (held, passes, eq-eqb entry.0 entry.0 refl, ready-free v entry.1 next.ready) refl) in
    let later = leaves.held once none (λ e. test e && (is_under entry.0 e && is_free w e)) in
    let agree = how_many-agree (λ e. is_held e.1 && (test e && (is_under entry.0 e && is_free w e))) (λ e. is_held e.1 && (test e && (is_under entry.0 e && is_free v e))) (is_ungiven v) v.pending given.blockers
    (λ e is. ap (λ (blocked : Bool). is_held e.1 && (test e && (is_under entry.0 e && not blocked))) (blocked-same v w e.1.blockers leaves is)) in
    let order = how_many-same (λ e. test e && is_let_go_under entry.0 w e) (λ e. is_held e.1 && (test e && (is_under entry.0 e && is_free w e))) w.pending (λ e. reordered (test e) (is_under entry.0 e) (is_held e.1) (is_free w e)) in
    some-how_many (λ e. test e && is_let_go_under entry.0 w e) w.pending (omega arith)
  where
    reordered : (a b c d : Bool) → (a && (b && (c && d))) ≡ (c && (a && (b && d)))
    reordered true true true d = refl
    reordered true true false d = refl
    reordered true false true d = refl
    reordered true false false d = refl
    reordered false b true d = refl
    reordered false b false d = refl

-- a held call ends
LeadsTo-ends : (v w : Volume) (entry : ℕ × Pending) (reply : Reply) → Leaves v w → FewNumbers v w → IsOnce v → GrantsNoneHeld v → HasGiven v → IsNext v entry → is_held entry.1 ≡ true
    → LeadsTo (entry.0 ∷ []) v (with_end w entry.1.call.client entry.1.call.number reply)
LeadsTo-ends v w entry reply leaves few once none given next held =
    let client = entry.1.call.client in
    let number = entry.1.call.number in
    let once_after : IsOnce w = IsOnce-kept v w (leaves.keeps.times once) once in
    let some : list_any (λ e. is_call_of client number e && is_let_go_under entry.0 w e) w.pending ≡ true
    = still-let_go v w entry (is_call_of client number) leaves once none given next held (is_same-refl client number) in
    let many = how_many-some (λ e. is_call_of client number e && is_let_go_under entry.0 w e) w.pending some in
    let weaker = how_many-weaker (λ e. is_call_of client number e && is_let_go_under entry.0 w e) (is_call_of client number) w.pending (λ e both. and_left (is_call_of client number e) (is_let_go_under entry.0 w e) both) in
    let keeps : Keeps v (with_end w client number reply) = Keeps-next leaves.keeps (Keeps-ends w client number reply (omega arith)) in
    record {
      none_held = GrantsNoneHeld-kept v _ keeps none;
      given = HasGiven-ends w client number reply (HasGiven-kept v w leaves given);
      times = keeps.times once;
      made = keeps.made once;
      under = λ test. keeps.pending (λ e. test e.0);
      granted = keeps.granted;
      ended = keeps.ended;
      seen = keeps.seen;
      gives = λ more up. GivesAtMost-ends v w client number more reply few leaves.keeps.ended up;
      breaks = leaves.breaks;
      taken = λ turn. (let ends = let_go-ends turn entry.0 w client number reply once_after some in let kept = let_go-kept turn v w leaves once none given in omega arith);
    }

-- a held call is held anew
LeadsTo-holds : (v w : Volume) (entry : ℕ × Pending) (blockers : List Blocker) → Leaves v w → SameNumbers v w → AreLiving w blockers → MaySettle v → IsOnce v → GrantsNoneHeld v → HasGiven v → IsNext v entry → is_held entry.1 ≡ true
    → LeadsTo (entry.0 ∷ []) v (with_blockers w entry.0 blockers)
LeadsTo-holds v w entry blockers leaves numbers living may once none given next held = record {
  none_held = none_held;
  given = record {
    living = given_after.living;
    oplocks = given_after.oplocks;
    ones = given_after.ones;
    blockers = (let mapped = how_many-map (is_ungiven w) (change_at change entry.0) w.pending in
        let no_ungiven = given_after.blockers in
        let weaker = how_many-weaker (λ e. is_ungiven w (change_at change entry.0 e)) (is_ungiven w) w.pending (λ e is. of_changed e is) in omega arith);
  };
  times = λ client number. (let mapped = how_many-map (is_call_of client number) (change_at change entry.0) w.pending in
      let same = how_many-same (λ e. is_call_of client number (change_at change entry.0 e)) (is_call_of client number) w.pending (λ e. call_same client number e) in
      let kept = leaves.keeps.times once client number in omega arith);
  made = (let mapped = length-map w.pending (change_at change entry.0) in let kept = leaves.keeps.made once in omega arith);
  under = λ test. (let mapped = how_many-map (λ (e : ℕ × Pending). test e.0) (change_at change entry.0) w.pending in
      let same = how_many-same (λ (e : ℕ × Pending). test (change_at change entry.0 e).0) (λ e. test e.0) w.pending (λ e. ap (λ (number : ℕ). test number) (change_at-number change entry.0 e)) in
      let kept = leaves.keeps.pending (λ e. test e.0) in omega arith);
  granted = leaves.keeps.granted;
  ended = leaves.keeps.ended;
  seen = record { more = leaves.keeps.seen.more; changes = leaves.keeps.seen.changes; watches = leaves.keeps.seen.watches };
  breaks = leaves.breaks;
  gives = λ more up. (let later = GivesAtMost-same v w more numbers leaves.keeps.ended up in record { files = later.files; links = later.links; streams = later.streams; handles = later.handles; locks = later.locks });
  taken = λ turn. (let holds = let_go-holds turn entry.0 w blockers few (still_there (still-let_go v w entry (λ _. true) leaves once none given next held refl)) some_lives in
      let kept = let_go-kept turn v w leaves once none given in omega arith);
}
  where
    change : Pending → Pending
    change row = record row { blockers = blockers }

    given_after : HasGiven w
    given_after = HasGiven-kept v w leaves given

    few : how_many (is_under entry.0) w.pending ≤ 1
    few = MaySettle.turns (MaySettle-kept v w leaves.keeps may) entry.0

    still_there : list_any (λ e. true && is_let_go_under entry.0 w e) w.pending ≡ true → list_any (is_let_go_under entry.0 w) w.pending ≡ true
    still_there some = some

    some_lives : list_any (blocker_lives w) blockers ≡ true
    some_lives = one blockers living.some living.live
      where
        one : (list : List Blocker) → (length list == 0) ≡ false → All (λ b. blocker_lives w b ≡ true) list → list_any (blocker_lives w) list ≡ true
        one [] none live = cc
        one (b ∷ list) some live = list_any_at (blocker_lives w) (b ∷ list) 0 b (omega arith) (live 0 b (omega arith))

    all_given : list_any (λ b. not (is_given w b)) blockers ≡ false
    all_given = list_any_none (λ b. not (is_given w b)) blockers (λ k d within. (let is : is_given w (get_or blockers k d) ≡ true = given_after.living (get_or blockers k d) (living.live k d within) in rw is refl))

    of_changed : (e : ℕ × Pending) → is_ungiven w (change_at change entry.0 e) ≡ true → is_ungiven w e ≡ true
    of_changed e is = elim (cases_Bool (e.0 == entry.0)) [
      | inl here ↦ (let impossible : false ≡ true = rw (here, all_given) at is in cc)
      | inr other ↦ rw other at is
    ]

    call_same : (client number : ℕ) (e : ℕ × Pending) → is_call_of client number (change_at change entry.0 e) ≡ is_call_of client number e
    call_same client number e = elim (cases_Bool (e.0 == entry.0)) [ inl here ↦ rw here refl | inr other ↦ rw other refl ]

    none_held : GrantsNoneHeld (with_blockers w entry.0 blockers)
    none_held turn some = elim (cases_Bool (entry.0 == turn)) [
      | inl here ↦ (let is : entry.0 ≡ turn = eqb-true entry.0 turn here in
          let fewer = leaves.keeps.granted turn in
          let no_held : how_many (λ e. e.0 == turn && is_held e.1) v.pending ≡ 0 = none turn (omega arith) in
          let there : 1 ≤ how_many (λ e. e.0 == turn && is_held e.1) v.pending = next.is_there (λ e. e.0 == turn && is_held e.1) (rw (here, held) refl) in absurd (omega arith))
      | inr other ↦ (let kept : how_many (λ e. e.0 == turn && is_held e.1) w.pending ≡ 0 = GrantsNoneHeld-kept v w leaves.keeps none turn some in
          let mapped = how_many-map (λ (e : ℕ × Pending). e.0 == turn && is_held e.1) (change_at change entry.0) w.pending in
          let same = how_many-same (λ (e : ℕ × Pending). (change_at change entry.0 e).0 == turn && is_held (change_at change entry.0 e).1) (λ e. e.0 == turn && is_held e.1) w.pending (λ e. not_it turn other e) in omega arith)
    ]
      where
        not_it : (turn : ℕ) → (entry.0 == turn) ≡ false → (e : ℕ × Pending) → ((change_at change entry.0 e).0 == turn && is_held (change_at change entry.0 e).1) ≡ (e.0 == turn && is_held e.1)
        not_it turn other e = elim (cases_Bool (e.0 == entry.0)) [
          | inl is ↦ (let elsewhere : (e.0 == turn) ≡ false = rw (eqb-true e.0 entry.0 is) other in rw (is, elsewhere) refl)
          | inr isnt ↦ rw isnt refl
        ]

LeadsTo-tried : (v : Volume) (entry : ℕ × Pending) (outcome : Outcome) → MaySettle v → IsOnce v → GrantsNoneHeld v → HasGiven v → IsNext v entry → is_held entry.1 ≡ true → TriesTo Leaves v outcome
    → LeadsTo (entry.0 ∷ []) v (with_tried entry.0 entry.1 outcome)
LeadsTo-tried v entry (Done w reply) may once none given next held tries = LeadsTo-ends v w entry reply tries.0 tries.1 once none given next held
LeadsTo-tried v entry (Stay w interim) may once none given next held tries = absurd tries
LeadsTo-tried v entry (Hold w blockers interim) may once none given next held tries = LeadsTo-holds v w entry blockers tries.0 tries.1.0 tries.1.1 may once none given next held

-- a held call is taken up, after all that were taken up before and before all that will be
GoesOn-takes : (v : Volume) (s t : Settling) (entry : ℕ × Pending) → GoesOn v s → IsNext s.volume entry → is_held entry.1 ≡ true → Steps s.volume t.volume → t.taken ≡ s.taken ++ entry.0 ∷ []
    → LeadsTo (entry.0 ∷ []) s.volume t.volume → GoesOn v t
GoesOn-takes v s t entry on next held steps taken goes = GoesOn-step v s t (entry.0 ∷ []) on steps taken goes in_order below
  where
    before : All (λ a. a < entry.0) s.taken
    before = on.below entry.0 (next.is_there (is_let_go_under entry.0 s.volume) (is-let_go s.volume entry next held))

    in_order : AllPairs (λ a b. a < b) t.taken
    in_order = subst (λ (turns : List ℕ). AllPairs (λ a b. a < b) turns) (sym taken) (all_pairs_push (λ a b. a < b) s.taken entry.0 on.in_order (λ k d within. before k d within))

    is_above : (turn : ℕ) → 1 ≤ let_go turn t.volume → entry.0 < turn
    is_above turn some = elim (cases_Bool (entry.0 == turn)) [
      | inl is ↦ (let one = goes.taken turn in
          let both : (1 + 0) + let_go turn t.volume ≡ let_go turn s.volume = rw is at one in
          let few : how_many (is_under turn) s.volume.pending ≤ 1 = MaySettle.turns on.may turn in
          let most = how_many-weaker (is_let_go_under turn s.volume) (is_under turn) s.volume.pending (λ e all. and_left (is_under turn e) (is_held e.1 && is_free s.volume e) all) in absurd (omega arith))
      | inr other ↦ elim (cases_Bool (nat_lt turn entry.0)) [
        | inl less ↦ (let one = goes.taken turn in
            let both : (0 + 0) + let_go turn t.volume ≡ let_go turn s.volume = rw other at one in
            let none = next.least in
            let ready = how_many-weaker (is_let_go_under turn s.volume) (λ e. is_ready s.volume e.1 && nat_lt e.0 entry.0) s.volume.pending (λ e all. of_let_go e turn less all) in absurd (omega arith))
        | inr isnt ↦ (let above : entry.0 ≤ turn = ltb-false turn entry.0 isnt in let differs = eqb-false entry.0 turn other in le_differs entry.0 turn above differs)
      ]
    ]
      where
        le_differs : (a b : ℕ) → a ≤ b → (a ≡ b → ⊥) → a < b
        le_differs a b above differs = elim (cases_Bool (nat_lt a b)) [ inl less ↦ ltb-true a b less | inr isnt ↦ (let below : b ≤ a = ltb-false a b isnt in absurd (differs (omega arith))) ]

        of_let_go : (e : ℕ × Pending) (turn : ℕ) → nat_lt turn entry.0 ≡ true → is_let_go_under turn s.volume e ≡ true → (is_ready s.volume e.1 && nat_lt e.0 entry.0) ≡ true
        of_let_go e turn less all =
            let under : e.0 ≡ turn = eqb-true e.0 turn (and_left (is_under turn e) (is_held e.1 && is_free s.volume e) all) in
            let both = and_right (is_under turn e) (is_held e.1 && is_free s.volume e) all in
            let held : is_held e.1 ≡ true = and_left (is_held e.1) (is_free s.volume e) both in
            let free : is_free s.volume e ≡ true = and_right (is_held e.1) (is_free s.volume e) both in
            let lower : nat_lt e.0 entry.0 ≡ true = rw under less in
            rw (held, free, lower) refl

    below : (turn : ℕ) → 1 ≤ let_go turn t.volume → All (λ a. a < turn) t.taken
    below turn some = subst (λ (turns : List ℕ). All (λ a. a < turn) turns) (sym taken) (All-push (λ a. a < turn) s.taken entry.0 (λ k d within. (let lower : get_or s.taken k d < entry.0 = before k d within in let above = is_above turn some in omega arith)) (is_above turn some))

-- a wait ends
GoesOn-waits : (v : Volume) (s t : Settling) → GoesOn v s → Steps s.volume t.volume → t.taken ≡ s.taken → LeadsTo [] s.volume t.volume → GoesOn v t
GoesOn-waits v s t on steps taken goes = GoesOn-step v s t [] on steps (taken ∙ sym (append-nil s.taken)) goes
    (subst (λ (turns : List ℕ). AllPairs (λ a b. a < b) turns) (sym taken) on.in_order)
    (λ turn some. subst (λ (turns : List ℕ). All (λ a. a < turn) turns) (sym taken) (on.below turn (let one = goes.taken turn in omega arith)))

GoesOn-held : (v : Volume) (s : Settling) (entry : ℕ × Pending) → GoesOn v s → IsNext s.volume entry → is_held entry.1 ≡ true → Steps s.volume (held_taken_up s entry.0 entry.1).volume
    → GoesOn v (held_taken_up s entry.0 entry.1)
GoesOn-held v s entry on next held steps = elim (cases_Bool (starves s.starved entry.1)) [
  | inl starving ↦ rw starving (GoesOn-takes v s _ entry on next held (rw starving at steps) refl
      (LeadsTo-ends s.volume s.volume entry _ (Leaves-same s.volume) (FewNumbers-same (SameNumbers-same s.volume)) on.once on.none_held on.given next held))
  | inr plenty ↦ rw plenty (GoesOn-takes v s _ entry on next held (rw plenty at steps) refl
      (LeadsTo-tried s.volume entry (try s.volume entry.1.call entry.0) on.may on.once on.none_held on.given next held
      (Tries.so (try-tries s.volume entry.1.call entry.0 on.may.oplocks (next-may_be_held s.volume entry on.may next held)))))
]

GoesOn-taken_up : (v : Volume) (s : Settling) (entry : ℕ × Pending) → GoesOn v s → IsNext s.volume entry → Steps s.volume (taken_up s entry).volume → GoesOn v (taken_up s entry)
GoesOn-taken_up v s entry on next steps = elim (cases_Bool (is_held entry.1)) [
  | inl held ↦ rw held (GoesOn-held v s entry on next held (rw held at steps))
  | inr waits ↦ rw waits (let comes = comes_over s entry.1 waits next.ready in
      GoesOn-waits v s _ on (rw waits at steps) comes.taken (subst (λ (w : Volume). LeadsTo [] s.volume w) (sym comes.is) (LeadsTo-waits s.volume comes.seen entry comes.reply comes.untouched on.once on.none_held on.given next waits)))
]

pub GoesOn-settle_step : (v : Volume) (s t : Settling) → GoesOn v s → settle_step s ≡ Some t → GoesOn v t × (how_many_free t.volume < how_many_free s.volume)
GoesOn-settle_step v s t on step = (
  elim (option_cases (next_ready s.volume)) [
    | inl none ↦ (let impossible : None ≡ Some t = rw none at step in cc)
    | inr some ↦ (let is : taken_up s some.0 ≡ t = some_equal (taken_up s some.0) t (rw some.1 at step) in
        subst (λ (t : Settling). GoesOn v t) is (GoesOn-taken_up v s some.0 on (next_ready-is s.volume some.0 some.1) (subst (λ (t : Settling). Steps s.volume t.volume) (sym is) (Steps-settle_step s t on.may step))))
  ],
  Steps.falls (Steps-settle_step s t on.may step),
)

-- ---- the settlement

pub GoesOn-begins : (v : Volume) (starved : List CallId) → MayTakeUp v → GoesOn v (record { volume = v; starved = starved; taken = [] })
GoesOn-begins v starved may = record {
  may = may.may;
  once = may.once;
  none_held = may.none_held;
  given = may.given;
  times = λ client number. refl;
  made = refl;
  under = λ test. omega arith;
  granted = λ turn. omega arith;
  ended = AddsEnds-same v.ended;
  seen = Watches-equal refl refl;
  gives = λ more up. up;
  breaks = omega arith;
  taken = λ turn. omega arith;
  in_order = λ j k d less within. absurd (omega arith);
  below = λ turn some k d within. absurd (omega arith);
}

pub taken_up_all-goes : (v : Volume) (starved : List CallId) → MayTakeUp v → (settle_step (taken_up_all v starved) ≡ None) × GoesOn v (taken_up_all v starved)
taken_up_all-goes v starved may =
    repeated-ends settle_step (GoesOn v) (λ s. how_many_free s.volume) (λ s t on step. GoesOn-settle_step v s t on step)
    (length v.pending) (record { volume = v; starved = starved; taken = [] }) (GoesOn-begins v starved may) (how_many-length (is_free v) v.pending)

-- a held call is taken up exactly where no living blocker holds it when the settlement begins, and then once
pub taken-once : (v : Volume) (starved : List CallId) (turn : ℕ) → MayTakeUp v → how_many (λ t. t == turn) (taken_up_all v starved).taken ≡ let_go turn v
taken-once v starved turn may =
    let goes = taken_up_all-goes v starved may in
    let all = GoesOn.taken goes.1 turn in
    let done = none-ready (taken_up_all v starved).volume (option_map-none (taken_up (taken_up_all v starved)) (next_ready (taken_up_all v starved).volume) goes.0) in
    let none = how_many-weaker (is_let_go_under turn (taken_up_all v starved).volume) (λ e. is_ready (taken_up_all v starved).volume e.1) (taken_up_all v starved).volume.pending
    (λ e is. is_then_ready e (and_right (is_under turn e) (is_held e.1 && is_free (taken_up_all v starved).volume e) is)) in
    omega arith
  where
    is_then_ready : (e : ℕ × Pending) → (is_held e.1 && is_free (taken_up_all v starved).volume e) ≡ true → is_ready (taken_up_all v starved).volume e.1 ≡ true
    is_then_ready e both = (let held : is_held e.1 ≡ true = and_left (is_held e.1) (is_free (taken_up_all v starved).volume e) both in
        let free : is_free (taken_up_all v starved).volume e ≡ true = and_right (is_held e.1) (is_free (taken_up_all v starved).volume e) both in rw (held, free) refl)

-- and they are taken up in order of turns
pub taken-in_order : (v : Volume) (starved : List CallId) → MayTakeUp v → AllPairs (λ a b. a < b) (taken_up_all v starved).taken
taken-in_order v starved may = GoesOn.in_order (taken_up_all-goes v starved may).1
