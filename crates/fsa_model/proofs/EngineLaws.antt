-- The laws of every turn of every run: no call is left ready, each call ends once, and just the held calls that
-- the turn's own try released are tried in it, once each.
use Rattle.std.proofs.Common.{◌≡◌, ℕ, ◌+◌, ◌≤◌, ◌<◌, Bool, true, false, cond, not, List, [], ◌∷◌, ◌++◌, length, append-nil, append_assoc, refl, sym, ap, ◌∙◌, subst, arith, inl, inr, Some, None, lt-ltb, suc, take}
use Rattle.std.specs.List.{list_any}
use Rattle.std.specs.Prelude.{◌==◌, ◌&&◌, nat_lt, All, slice_get}
use Rattle.std.proofs.lemmas.Bool.{cases_Bool, eqb-true}
use Rattle.fsa_types.specs.Rows.{lives}
use Rattle.fsa_types.specs.declared.request.Call.{Call}
use Rattle.fsa_types.specs.declared.request.CallId.{CallId}
use Rattle.fsa_types.specs.declared.reply.Blocker.{Blocker}
use Rattle.fsa_types.specs.declared.reply.Blocker.TheVariants as blocker
use Rattle.fsa_types.specs.declared.status.Status.TheVariants.{Stalled}
use Rattle.fsa_model.proofs.WaitLaws.{find-passes}
use Rattle.fsa_model.specs.Schedule.{Scheduled, all_calls, is_made, next, next_in}
use Rattle.fsa_model.proofs.OnceLaws.{SameBlockers, blockers-calls_ended, is_same-equal}
use Rattle.fsa_model.specs.Close.{with_calls_ended}
use Rattle.fsa_model.specs.Edits.{is_call}
use Rattle.fsa_model.specs.Engine.{NoneReady, is_entry_of, CallsDiffer, ends_at_once, ends_given, all_ends_given, EndsOnce, own_tried, is_released, TakesReleased}
use Rattle.fsa_model.specs.History.{HistoryEntry, Run, with_turn, turn_on, steps, begun, run}
use Rattle.fsa_model.specs.Once.{how_many, is_end, times, made}
use Rattle.fsa_model.specs.Outcome.{Outcome, Done, Stay, Hold, TurnOut}
use Rattle.fsa_model.specs.Settle.{settled, Settling, settle_step, taken_up_all}
use Rattle.fsa_model.specs.Setup.{Setup, Script}
use Rattle.fsa_model.specs.Turn.{Turned, turn, turned, turn_number, try, answered, answer_of, volume_after, ends_between, settlement}
use Rattle.fsa_model.specs.Volume.{Pending, Volume, fresh}
use Rattle.fsa_model.specs.Waiting.{blocker_lives, is_blocked, is_held, is_ready, next_ready, all_wait, waits_in_order, with_stalled, waits}
use Rattle.fsa_model.proofs.CountLaws.{and_left, and_right, how_many-append, how_many-filter_le, how_many-none, how_many-some, how_many-split, how_many-weaker, none-how_many, only-one, some-how_many, how_many-length}
use Rattle.fsa_model.proofs.OnceHistory.{MayTurn-fresh, is_entry_of-self, Runs, Takes, run-runs, turn-takes}
use Rattle.fsa_model.proofs.RowLaws.{option_cases}
use Rattle.fsa_model.proofs.SettleLaws.{is_under, is_free, some_equal, none-ready, how_many_free, repeated-ends, Steps, Steps-settle_step}
use Rattle.fsa_model.proofs.TakenLaws.{is_let_go_under, let_go, taken-in_order, GoesOn, GoesOn-begins, GoesOn-settle_step, MayTakeUp}
use Rattle.fsa_model.proofs.TurnLaws.{MayTurn, TriedTo, Turns, turn-turns, turn-ended, own_end, try-keeps, Adds-answered}

-- ---- no call is made twice in a schedule

differ-from : (history before : List HistoryEntry) → ((k : ℕ) (entry : HistoryEntry) → slice_get history k ≡ Some entry
    → how_many (is_entry_of entry.call.client entry.call.number) before + how_many (is_entry_of entry.call.client entry.call.number) (take k history) ≡ 0)
    → (client number : ℕ) → how_many (is_entry_of client number) before ≤ 1 → how_many (is_entry_of client number) before + how_many (is_entry_of client number) history ≤ 1
differ-from [] before new client number few = omega arith
differ-from (entry ∷ history) before new client number few =
    let rest = differ-from history (entry ∷ before) (λ k later at. (let none = new (suc k) later at in omega arith)) client number more in omega arith
  where
    more : how_many (is_entry_of client number) (entry ∷ before) ≤ 1
    more = elim (cases_Bool (is_entry_of client number entry)) [
      | inr isnt ↦ rw isnt (omega arith)
      | inl is ↦ (let equal = is_same-equal entry.call.client entry.call.number client number is in
          let first : how_many (is_entry_of entry.call.client entry.call.number) before + 0 ≡ 0 = new 0 entry refl in
          let none : how_many (is_entry_of client number) before + 0 ≡ 0 = rw (equal.0, equal.1) at first in rw is (omega arith))
    ]

-- the next call isn't made yet
next-new : (script : Script) (history : List HistoryEntry) (call : Call) → next script history ≡ Some call → how_many (is_entry_of call.client call.number) history ≡ 0
next-new script history call is = elim (option_cases (run script.setup history)) [
  | inl none ↦ (let impossible : None ≡ Some call = rw none at is in cc)
  | inr some ↦ (let found : next_in (all_calls script) history some.0.volume ≡ Some call = rw some.1 at is in
      let passes = find-passes (λ (other : Call). not (is_made history other) && not (waits some.0.volume other.client)) (all_calls script) call found in
      how_many-none (is_entry_of call.client call.number) history (not_not (is_made history call) (and_left (not (is_made history call)) (not (waits some.0.volume call.client)) passes)))
]
  where
    not_not : (b : Bool) → not b ≡ true → b ≡ false
    not_not true is = sym is
    not_not false is = refl

pub Scheduled-differ : (script : Script) (history : List HistoryEntry) → Scheduled script history → CallsDiffer history
Scheduled-differ script history scheduled client number =
    let all = differ-from history [] (λ k entry at. (let none = next-new script (take k history) entry.call (scheduled.in_order k entry at) in omega arith)) client number (omega arith) in omega arith

-- ---- no call is left ready

-- after each turn of a run no pending call is ready
pub run-none_ready : (setup : Setup) (history : List HistoryEntry) (r : Run) → CallsDiffer history → run setup history ≡ Some r → NoneReady r.volume
run-none_ready setup history r differ is =
    none-how_many (λ entry. is_ready r.volume entry.1) r.volume.pending (none-ready r.volume (Runs.done (run-runs setup history r differ is)))

-- ---- each call ends once

-- the end of the turn's own call counts where its try ended it
own_end-counts : (client number : ℕ) (entry : HistoryEntry) (outcome : Outcome)
    → how_many (is_end client number) (own_end entry.call outcome) ≡ cond (is_entry_of client number entry && ends_at_once (answer_of outcome)) 1 0
own_end-counts client number entry (Done v reply) = elim (cases_Bool (is_entry_of client number entry)) [ inl is ↦ rw is refl | inr isnt ↦ rw isnt refl ]
own_end-counts client number entry (Stay v interim) = elim (cases_Bool (is_entry_of client number entry)) [ inl is ↦ rw is refl | inr isnt ↦ rw isnt refl ]
own_end-counts client number entry (Hold v blockers interim) = elim (cases_Bool (is_entry_of client number entry)) [ inl is ↦ rw is refl | inr isnt ↦ rw isnt refl ]

-- what ended in a turn is what it gives out
turned-counts : (v : Volume) (entry : HistoryEntry) → MayTurn v → times entry.call.client entry.call.number v ≡ 0 → (client number : ℕ)
    → how_many (is_end client number) (settlement v entry.call entry.starved).volume.ended
    ≡ how_many (is_end client number) v.ended
    + ends_given client number entry
    (turned v (try v entry.call (turn_number v)) (answered entry.call (turn_number v) (try v entry.call (turn_number v))) entry.starved (settlement v entry.call entry.starved).volume).out
turned-counts v entry may none client number =
    let outcome : Outcome = try v entry.call (turn_number v) in
    let told = ends_between v (volume_after outcome) in
    let settled_ends = ends_between (answered entry.call (turn_number v) outcome) (settlement v entry.call entry.starved).volume in
    let all = ap (how_many (is_end client number)) (turn-ended v entry.call entry.starved may none) in
    let first = how_many-append (is_end client number) v.ended (told ++ (own_end entry.call outcome ++ settled_ends)) in
    let second = how_many-append (is_end client number) told (own_end entry.call outcome ++ settled_ends) in
    let third = how_many-append (is_end client number) (own_end entry.call outcome) settled_ends in
    let own = own_end-counts client number entry outcome in
    let given = how_many-append (is_end client number) told settled_ends in
    omega arith

-- a turn that there is has the volume and the out of its settlement
pub turn-turned : (v : Volume) (call : Call) (starved : List CallId) (t : Turned) → turn v call starved ≡ Some t
    → turned v (try v call (turn_number v)) (answered call (turn_number v) (try v call (turn_number v))) starved (settlement v call starved).volume ≡ t
turn-turned v call starved t is = elim (cases_Bool (length (settlement v call starved).starved == 0)) [
  | inr some ↦ (let impossible : None ≡ Some t = rw some at is in cc)
  | inl all ↦ some_equal _ t (rw all at is)
]

-- the ends that some turns give out are those that are kept
record Gives (r : Run) (history : List HistoryEntry) (s : Run) : Type 0 where
  more : List TurnOut
  outs : s.outs ≡ r.outs ++ more
  ends : (client number : ℕ) → how_many (is_end client number) s.volume.ended ≡ how_many (is_end client number) r.volume.ended + all_ends_given client number history more

steps-gives : (r s : Run) (history : List HistoryEntry) → MayTurn r.volume
    → ((client number : ℕ) → times client number r.volume + how_many (is_entry_of client number) history ≤ 1) → steps turn_on r history ≡ Some s → Gives r history s
steps-gives r s [] may differ is =
    subst (λ (s : Run). Gives r [] s) (some_equal r s is) (record { more = []; outs = sym (append-nil r.outs); ends = λ client number. omega arith })
steps-gives r s (entry ∷ history) may differ is = elim (option_cases (turn r.volume entry.call entry.starved)) [
  | inl none ↦ (let impossible : None ≡ Some s = rw none at is in cc)
  | inr some ↦ (
      let turns : Turns r.volume entry.call some.0.volume = turn-turns r.volume entry.call entry.starved some.0 may new some.1 in
      let rest : Gives (with_turn r some.0) history s = steps-gives (with_turn r some.0) s history turns.may
      (λ client number. (let one = turns.times client number in let few = differ client number in omega arith)) (rw some.1 at is) in
      record {
        more = some.0.out ∷ rest.more;
        outs = rest.outs ∙ append_assoc r.outs (some.0.out ∷ []) rest.more;
        ends = λ client number. (let later = rest.ends client number in let now = one_turn some.0 some.1 client number in omega arith);
      })
]
  where
    new : times entry.call.client entry.call.number r.volume ≡ 0
    new = (let few = differ entry.call.client entry.call.number in
        let self : is_entry_of entry.call.client entry.call.number entry ≡ true = is_entry_of-self entry in
        let one : times entry.call.client entry.call.number r.volume + (1 + how_many (is_entry_of entry.call.client entry.call.number) history) ≤ 1 = rw self at few in omega arith)

    one_turn : (t : Turned) → turn r.volume entry.call entry.starved ≡ Some t → (client number : ℕ)
        → how_many (is_end client number) t.volume.ended ≡ how_many (is_end client number) r.volume.ended + ends_given client number entry t.out
    one_turn t made_turn client number =
        subst (λ (t : Turned). how_many (is_end client number) t.volume.ended ≡ how_many (is_end client number) r.volume.ended + ends_given client number entry t.out)
        (turn-turned r.volume entry.call entry.starved t made_turn) (turned-counts r.volume entry may new client number)

-- no call of a run ends twice, and each has ended or is pending
pub run-ends_once : (setup : Setup) (history : List HistoryEntry) (r : Run) → CallsDiffer history → run setup history ≡ Some r → EndsOnce history r
run-ends_once setup history r differ is client number =
    let gives : Gives (begun setup) history r = steps-gives (begun setup) r history (MayTurn-fresh setup) (λ c n. (let few : how_many (is_entry_of c n) history ≤ 1 = differ c n in omega arith)) is in
    let ends = gives.ends client number in
    let given : all_ends_given client number history r.outs ≡ all_ends_given client number history gives.more = ap (all_ends_given client number history) gives.outs in
    let once = Runs.times (run-runs setup history r differ is) client number in
    omega arith

-- ---- which held calls are tried in a turn

-- what is pending once the own call has been tried: what was before, and the own call where it's pending
abbrev new_rows : ℕ → Call → Outcome → List (ℕ × Pending)
new_rows turn call (Done w reply) = []
new_rows turn call (Stay w interim) = (turn, record { call = call; blockers = [] }) ∷ []
new_rows turn call (Hold w blockers interim) = (turn, record { call = call; blockers = blockers }) ∷ []

own-rows : (v : Volume) (turn : ℕ) (call : Call) (outcome : Outcome) → TriedTo v turn call.what outcome → (test : ℕ × Pending → Bool)
    → how_many test (answered call turn outcome).pending ≤ how_many test v.pending + how_many test (new_rows turn call outcome)
own-rows v turn call (Done w reply) tried test =
    let fewer = tried.0.keeps.pending test in
    let kept = how_many-filter_le test (λ entry. not (is_call call.client call.number entry.1)) w.pending in omega arith
own-rows v turn call (Stay w interim) tried test =
    let fewer = tried.pending test in
    let all = how_many-append test w.pending ((turn, record { call = call; blockers = [] }) ∷ []) in omega arith
own-rows v turn call (Hold w blockers interim) tried test =
    let fewer = tried.0.keeps.pending test in
    let all = how_many-append test w.pending ((turn, record { call = call; blockers = blockers }) ∷ []) in omega arith

-- the own call isn't held by blockers of which none lives
none-new : (v : Volume) (turn : ℕ) (call : Call) (outcome : Outcome) → TriedTo v turn call.what outcome → (under : ℕ)
    → how_many (is_let_go_under under (answered call turn outcome)) (new_rows turn call outcome) ≡ 0
none-new v turn call (Done w reply) tried under = refl
none-new v turn call (Stay w interim) tried under = elim (cases_Bool (turn == under)) [ inl is ↦ rw is refl | inr isnt ↦ rw isnt refl ]
none-new v turn call (Hold w blockers interim) tried under =
    let blocked : list_any (blocker_lives w) blockers ≡ true = all-any (blocker_lives w) blockers tried.1.1.0.some tried.1.1.0.live in
    elim (cases_Bool (turn == under)) [
      | inr isnt ↦ rw isnt refl
      | inl is ↦ elim (cases_Bool (length blockers == 0)) [ inl none ↦ rw (is, none) refl | inr some ↦ rw (is, some, blocked) refl ]
    ]
  where
    all-any : (lives : Blocker → Bool) (blockers : List Blocker) → (length blockers == 0) ≡ false → All (λ b. lives b ≡ true) blockers → list_any lives blockers ≡ true
    all-any lives [] some all = cc
    all-any lives (b ∷ blockers) some all = (let first : lives b ≡ true = all 0 b (omega arith) in rw first refl)

-- what passes a test of which some item passes
some-item : {X : Type 0} (p : X → Bool) (xs : List X) → list_any p xs ≡ true → (x : X) × (p x ≡ true)
some-item p [] some = cc
some-item p (x ∷ xs) some = elim (cases_Bool (p x)) [ inl passes ↦ (x, passes) | inr fails ↦ some-item p xs (rw fails at some) ]

-- what it is for a call to be released
record Released (v own : Volume) (turn : ℕ) (entry : ℕ × Pending) : Type 0 where
  under : is_under turn entry ≡ true
  held : is_held entry.1 ≡ true
  blocked : is_blocked (blocker_lives v) entry.1 ≡ true
  stays : lives own.pending turn ≡ true
  free : is_free own entry ≡ true

released-parts : (v own : Volume) (turn : ℕ) (entry : ℕ × Pending) → is_released v own turn entry ≡ true → Released v own turn entry
released-parts v own turn entry is =
    let held = is_under turn entry && is_held entry.1 in
    let blocked = held && is_blocked (blocker_lives v) entry.1 in
    let stays = blocked && lives own.pending turn in
    let first = and_left stays (is_free own entry) is in
    let second = and_left blocked (lives own.pending turn) first in
    let third = and_left held (is_blocked (blocker_lives v) entry.1) second in
    record {
      under = and_left (is_under turn entry) (is_held entry.1) third;
      held = and_right (is_under turn entry) (is_held entry.1) third;
      blocked = and_right held (is_blocked (blocker_lives v) entry.1) second;
      stays = and_right blocked (lives own.pending turn) first;
      free = and_right stays (is_free own entry) is;
    }

-- under the number of this turn no call was pending before
under-earlier : (v : Volume) (call : Call) (outcome : Outcome) (turn : ℕ) (more : ℕ × Pending → Bool) → MayTurn v → 1 ≤ how_many (is_under turn) v.pending
    → how_many (λ e. is_under turn e && more e) (new_rows (turn_number v) call outcome) ≡ 0
under-earlier v call outcome turn more may some = go outcome
  where
    apart : (made v + 1 == turn) ≡ false
    apart = elim (cases_Bool (made v + 1 == turn)) [
      | inr isnt ↦ isnt
      | inl is ↦ (let same : made v + 1 ≡ turn = eqb-true (made v + 1) turn is in
          let none = may.turns in
          let later = how_many-weaker (is_under turn) (λ e. nat_lt (made v) e.0) v.pending (λ e under. (let at : e.0 ≡ turn = eqb-true e.0 turn under in lt-ltb (made v) e.0 (omega arith))) in
          absurd (omega arith))
    ]

    go : (outcome : Outcome) → how_many (λ e. is_under turn e && more e) (new_rows (turn_number v) call outcome) ≡ 0
    go (Done w reply) = refl
    go (Stay w interim) = rw apart refl
    go (Hold w blockers interim) = rw apart refl

-- what was released is let go
released-let_go : (v : Volume) (call : Call) (outcome : Outcome) (turn : ℕ) → MayTurn v → TriedTo v (turn_number v) call.what outcome
    → list_any (is_released v (answered call (turn_number v) outcome) turn) v.pending ≡ true → 1 ≤ let_go turn (answered call (turn_number v) outcome)
released-let_go v call outcome turn may tried some =
    let own : Volume = answered call (turn_number v) outcome in
    let free = is_let_go_under turn own in
    let item = some-item (is_released v own turn) v.pending some in
    let stays : lives own.pending turn ≡ true = Released.stays (released-parts v own turn item.0 item.1) in
    let many = how_many-some (is_released v own turn) v.pending some in
    let also = how_many-weaker (is_released v own turn) (λ e. is_under turn e && free e) v.pending (λ e is. both e (released-parts v own turn e is)) in
    let under = how_many-weaker (is_released v own turn) (is_under turn) v.pending (λ e is. Released.under (released-parts v own turn e is)) in
    let one = may.take_up.may.turns turn in
    let none = how_many-none (λ e. is_under turn e && not (free e)) v.pending (only-one (is_under turn) free v.pending one (some-how_many (λ e. is_under turn e && free e) v.pending (omega arith))) in
    let rows = own-rows v (turn_number v) call outcome tried (λ e. is_under turn e && not (free e)) in
    let no_new = under-earlier v call outcome turn (λ e. not (free e)) may (omega arith) in
    let there = how_many-some (is_under turn) own.pending stays in
    let split = how_many-split (is_under turn) free own.pending in
    let all = how_many-weaker (λ e. is_under turn e && free e) free own.pending (λ e is. and_right (is_under turn e) (free e) is) in
    omega arith
  where
    both : (e : ℕ × Pending) → Released v (answered call (turn_number v) outcome) turn e → (is_under turn e && is_let_go_under turn (answered call (turn_number v) outcome) e) ≡ true
    both e is = rw (is.under, is.held, is.free) refl

-- and nothing else is
let_go-released : (v : Volume) (call : Call) (outcome : Outcome) (turn : ℕ) → TriedTo v (turn_number v) call.what outcome → let_go turn v ≡ 0
    → list_any (is_released v (answered call (turn_number v) outcome) turn) v.pending ≡ false → let_go turn (answered call (turn_number v) outcome) ≡ 0
let_go-released v call outcome turn tried before isnt = elim (cases_Bool (lives (answered call (turn_number v) outcome).pending turn)) [
  | inr gone ↦ (let none = how_many-none (is_under turn) own.pending gone in
      let fewer = how_many-weaker (is_let_go_under turn own) (is_under turn) own.pending (λ e is. and_left (is_under turn e) (is_held e.1 && is_free own e) is) in omega arith)
  | inl stays ↦ (let none = how_many-none (is_released v own turn) v.pending isnt in
      let rows = own-rows v (turn_number v) call outcome tried (is_let_go_under turn own) in
      let no_new = none-new v (turn_number v) call outcome tried turn in
      let split = how_many-split (is_let_go_under turn own) (is_free v) v.pending in
      let free_before = how_many-weaker (λ e. is_let_go_under turn own e && is_free v e) (is_let_go_under turn v) v.pending (λ e is. was_free e is) in
      let released = how_many-weaker (λ e. is_let_go_under turn own e && not (is_free v e)) (is_released v own turn) v.pending (λ e is. is_then e stays is) in
      omega arith)
]
  where
    own : Volume
    own = answered call (turn_number v) outcome

    was_free : (e : ℕ × Pending) → (is_let_go_under turn own e && is_free v e) ≡ true → is_let_go_under turn v e ≡ true
    was_free e is =
        let let_go_now = and_left (is_let_go_under turn own e) (is_free v e) is in
        let free : is_free v e ≡ true = and_right (is_let_go_under turn own e) (is_free v e) is in
        let under : is_under turn e ≡ true = and_left (is_under turn e) (is_held e.1 && is_free own e) let_go_now in
        let held : is_held e.1 ≡ true = and_left (is_held e.1) (is_free own e) (and_right (is_under turn e) (is_held e.1 && is_free own e) let_go_now) in
        rw (under, held, free) refl

    is_then : (e : ℕ × Pending) → lives own.pending turn ≡ true → (is_let_go_under turn own e && not (is_free v e)) ≡ true → is_released v own turn e ≡ true
    is_then e stays is =
        let let_go_now = and_left (is_let_go_under turn own e) (not (is_free v e)) is in
        let rest = and_right (is_under turn e) (is_held e.1 && is_free own e) let_go_now in
        let under : is_under turn e ≡ true = and_left (is_under turn e) (is_held e.1 && is_free own e) let_go_now in
        let held : is_held e.1 ≡ true = and_left (is_held e.1) (is_free own e) rest in
        let free : is_free own e ≡ true = and_right (is_held e.1) (is_free own e) rest in
        let blocked : is_blocked (blocker_lives v) e.1 ≡ true = not_not (is_blocked (blocker_lives v) e.1) (and_right (is_let_go_under turn own e) (not (is_free v e)) is) in
        rw (under, held, blocked, stays, free) refl
      where
        not_not : (b : Bool) → not (not b) ≡ true → b ≡ true
        not_not true is = refl
        not_not false is = cc

-- what lives when a settlement begins lives when it has ended
settled-lives : (v : Volume) (starved : List CallId) → MayTakeUp v → (b : Blocker) → blocker_lives v b ≡ true → blocker_lives (settled v starved).volume b ≡ true
settled-lives v starved may b lives = stalled (taken_up_all v starved).volume (go.1.1 b lives)
  where
    Lives : Settling → Type 0
    Lives s = GoesOn v s × ((b : Blocker) → blocker_lives v b ≡ true → blocker_lives s.volume b ≡ true)

    step : (s t : Settling) → Lives s → settle_step s ≡ Some t → Lives t × (how_many_free t.volume < how_many_free s.volume)
    step s t on stepped =
        let next = GoesOn-settle_step v s t on.0 stepped in
        ((next.0, λ b lives. Steps.lives (Steps-settle_step s t on.0.may stepped) b (on.1 b lives)), next.1)

    go : (settle_step (taken_up_all v starved) ≡ None) × Lives (taken_up_all v starved)
    go = repeated-ends settle_step Lives (λ s. how_many_free s.volume) step (length v.pending) (record { volume = v; starved = starved; taken = [] })
        (GoesOn-begins v starved may, λ b lives. lives) (how_many-length (is_free v) v.pending)

    lives_too : (w x : Volume) (b : Blocker) → SameBlockers w x → blocker_lives w b ≡ true → blocker_lives x b ≡ true
    lives_too w x (blocker.Break number) same lives = rw same.oplocks lives
    lives_too w x (blocker.Lock number) same lives = rw same.locks lives

    stalled : (w : Volume) → blocker_lives w b ≡ true → blocker_lives (with_stalled w) b ≡ true
    stalled w lives = elim (cases_Bool (all_wait w)) [
      | inl all ↦ rw all (lives_too w (with_calls_ended (λ _. Stalled) (waits_in_order w) w) b (blockers-calls_ended (λ _. Stalled) (waits_in_order w) w) lives)
      | inr some ↦ rw some lives
    ]

-- before a turn no call is ready; then just the held calls that its own try released are taken up in it
pub turn-released : (v : Volume) (call : Call) (starved : List CallId) → MayTurn v → next_ready v ≡ None → times call.client call.number v ≡ 0 → TakesReleased v call starved
turn-released v call starved may done none =
    let outcome : Outcome = try v call (turn_number v) in
    let tried : TriedTo v (turn_number v) call.what outcome = try-keeps v call (turn_number v) may.take_up.may.oplocks in
    let adds = Adds-answered v call outcome may none tried in
    let takes : Takes v call starved = turn-takes v call starved may done none in
    record {
      taken = λ turn. takes.taken turn ∙ as_often turn tried adds.may (takes.before turn);
      rising = taken-in_order (own_tried v call) starved adds.may.take_up;
      lives = λ b lives. settled-lives (own_tried v call) starved adds.may.take_up b lives;
    }
  where
    as_often : (turn : ℕ) → TriedTo v (turn_number v) call.what (try v call (turn_number v)) → MayTurn (own_tried v call) → let_go turn v ≡ 0
        → let_go turn (own_tried v call) ≡ cond (list_any (is_released v (own_tried v call) turn) v.pending) 1 0
    as_often turn tried may_own before =
        let own : Volume = own_tried v call in
        let one = may_own.take_up.may.turns turn in
        let fewer = how_many-weaker (is_let_go_under turn own) (is_under turn) own.pending (λ e is. and_left (is_under turn e) (is_held e.1 && is_free own e) is) in
        elim (cases_Bool (list_any (is_released v own turn) v.pending)) [
          | inl some ↦ (let least = released-let_go v call (try v call (turn_number v)) turn may tried some in rw some (omega arith))
          | inr isnt ↦ (let none_left = let_go-released v call (try v call (turn_number v)) turn tried before isnt in rw isnt (omega arith))
        ]

-- the run before a turn, and that the turn's call is new in it
pub run-before : (setup : Setup) (history : List HistoryEntry) (entry : HistoryEntry) (r : Run) → CallsDiffer (history ++ entry ∷ []) → run setup history ≡ Some r → Runs (fresh setup) history r.volume
run-before setup history entry r differ is = run-runs setup history r (λ client number. (let few : how_many (is_entry_of client number) (history ++ entry ∷ []) ≤ 1 = differ client number in
    let all = how_many-append (is_entry_of client number) history (entry ∷ []) in omega arith)) is

pub new-before : (setup : Setup) (history : List HistoryEntry) (entry : HistoryEntry) (r : Run) → CallsDiffer (history ++ entry ∷ []) → run setup history ≡ Some r → times entry.call.client entry.call.number r.volume ≡ 0
new-before setup history entry r differ is =
    let few : how_many (is_entry_of entry.call.client entry.call.number) (history ++ entry ∷ []) ≤ 1 = differ entry.call.client entry.call.number in
    let all = how_many-append (is_entry_of entry.call.client entry.call.number) history (entry ∷ []) in
    let self : is_entry_of entry.call.client entry.call.number entry ≡ true = is_entry_of-self entry in
    let one : how_many (is_entry_of entry.call.client entry.call.number) (entry ∷ []) ≡ 1 = rw self refl in
    let once = Runs.times (run-before setup history entry r differ is) entry.call.client entry.call.number in
    omega arith

-- in each turn of a run just the held calls that its own try released are taken up, once each
pub run-released : (setup : Setup) (history : List HistoryEntry) (entry : HistoryEntry) (r : Run) → CallsDiffer (history ++ entry ∷ []) → run setup history ≡ Some r
    → TakesReleased r.volume entry.call entry.starved
run-released setup history entry r differ is =
    let runs : Runs (fresh setup) history r.volume = run-before setup history entry r differ is in
    turn-released r.volume entry.call entry.starved runs.may runs.done (new-before setup history entry r differ is)
