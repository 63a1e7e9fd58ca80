-- In each turn of a run a pending call stays as it is in the try of the turn's call, unless it asks for an oplock or that calls
-- it off; a held call stays so to the turn's end, unless the turn's call ends all that it waits for; each step of the settlement
-- keeps each call that neither asks for an oplock nor answers a break, but the one that it takes up; and such a call that is ready
-- after no step stays to the turn's end, unless it's a wait and all clients wait.
use Rattle.std.proofs.Common.{◌≡◌, ℕ, ◌≤◌, Bool, true, false, not, List, [], ◌∷◌, ◌++◌, length, refl, subst, sym, ◌∙◌, arith, eq-eqb, inl, inr, Some}
use Rattle.std.specs.List.{list_any}
use Rattle.std.specs.Prelude.{◌==◌, ◌&&◌, if◌then◌else◌}
use Rattle.std.proofs.lemmas.Bool.{cases_Bool, not-true, not-false}
use Rattle.fsa_types.specs.declared.reply.Blocker.{Blocker}
use Rattle.fsa_types.specs.declared.reply.Blocker.TheVariants as blocker
use Rattle.fsa_types.specs.declared.request.Call.{Call}
use Rattle.fsa_types.specs.declared.request.What.{What}
use Rattle.fsa_types.specs.declared.request.What.TheVariants.{WaitFor}
use Rattle.fsa_types.specs.declared.status.Status.TheVariants.{NoMemory, Stalled}
use Rattle.fsa_types.specs.declared.reply.Body.TheVariants.{Nothing}
use Rattle.fsa_model.specs.Close.{with_calls_ended}
use Rattle.fsa_model.specs.Engine.{CallsDiffer, own_tried}
use Rattle.fsa_model.specs.History.{HistoryEntry, Run, run}
use Rattle.fsa_model.specs.Once.{IsOnce, how_many, times}
use Rattle.fsa_model.specs.Outcome.{Outcome, Done, Stay, Hold}
use Rattle.fsa_model.specs.Settle.{Settling, repeated, settle_step, starves, taken_up, taken_up_all, with_tried}
use Rattle.fsa_model.specs.Settling.{GoesOn, GrantsNoneHeld, MaySettle, MayTakeUp, MayTurn, is_held_wrongly, is_under, may_be_held}
use Rattle.fsa_model.specs.Reports.{settling_after}
use Rattle.fsa_model.specs.Setup.{Setup}
use Rattle.fsa_model.specs.Try.{try}
use Rattle.fsa_model.specs.Turn.{answered, settlement, turn_number, volume_after}
use Rattle.fsa_model.specs.Volume.{Pending, Volume}
use Rattle.fsa_model.specs.Waiting.{all_wait, blocker_lives, is_asked_before, is_blocked, is_held, is_wait, waits_in_order, with_stalled}
use Rattle.fsa_model.proofs.CountLaws.{and_left, and_right, how_many-none, how_many-some, how_many-weaker, none-how_many, some-how_many}
use Rattle.fsa_model.proofs.EngineLaws.{new-before, run-before}
use Rattle.fsa_model.proofs.OnceLaws.{SameBlockers, is_call_of, is_same-refl}
use Rattle.fsa_model.proofs.RowLaws.{any-map, any-push, any-weaker}
use Rattle.fsa_model.proofs.SettleLaws.{IsNext, Steps, Steps-taken_up, next-may_be_held, taken_up_all-done, try-tries}
use Rattle.fsa_model.proofs.TakenLaws.{GoesOn-begins, taken_up_all-goes}
use Rattle.fsa_model.proofs.TryLaws.{Leaves, Tries, TriesTo}
use Rattle.fsa_model.proofs.TurnLaws.{TriedTo, try-keeps}
use Rattle.fsa_model.proofs.WatchLaws.{comes_over}
use Rattle.history_laws.specs.Holding.{PendingStay, KeepsPending, asks_oplock}
use Rattle.history_laws.proofs.AnyLaws.{any-where, none-stronger}
use Rattle.history_laws.proofs.AskedGrants.{GrantsAsked, asks-unheld, own-asked, run-asked}
use Rattle.history_laws.proofs.CallsApart.{calls-apart, calls-stay, ends-stay, next-apart}
use Rattle.history_laws.proofs.HeldTries.{stays-try}
use Rattle.history_laws.proofs.HoldersRelease.{repeated-last}
use Rattle.history_laws.proofs.TurnBlockers.{blockers-stalled}
use Rattle.history_laws.proofs.TurnByTurn.{differ-before, goes-keep, own-takes_up}
use Rattle.history_laws.proofs.UnreadyStay.{stalled-stays, step-stays, unready-settled}

-- ---- the turn's own call

stays-answered : (p : ℕ × Pending → Bool) (v : Volume) (call : Call) (outcome : Outcome) → TriedTo v (turn_number v) call.what outcome → how_many (is_call_of call.client call.number) v.pending ≡ 0
    → list_any p (volume_after outcome).pending ≡ true → list_any p (answered call (turn_number v) outcome).pending ≡ true
stays-answered p v call (Done w reply) tried new some = ends-stay p w call.client call.number reply
    (none-how_many (λ e. p e && is_call_of call.client call.number e) w.pending
    (let fewer = tried.0.keeps.pending (is_call_of call.client call.number) in let weaker = how_many-weaker (λ e. p e && is_call_of call.client call.number e) (is_call_of call.client call.number) w.pending (λ e both. and_right (p e) (is_call_of call.client call.number e) both) in omega arith)) some
stays-answered p v call (Stay w interim) tried new some = any-push p w.pending _ some
stays-answered p v call (Hold w blockers interim) tried new some = any-push p w.pending _ some

-- ---- a settlement that begins with this volume

regrouped : (a b c : Bool) → ((a && b) && c) ≡ true → (a && (b && c)) ≡ true
regrouped true b c all = all
regrouped false b c all = all

module _ (own : Volume) where
  -- what is held by a break or a lock that lived at its beginning, and passes
  abbrev blocked_if : (ℕ × Pending → Bool) → ℕ × Pending → Bool
  blocked_if test entry = is_held entry.1 && (is_blocked (blocker_lives own) entry.1 && test entry)

  record StaysSo (w : Volume) : Type 0 where
    lives : (b : Blocker) → blocker_lives own b ≡ true → blocker_lives w b ≡ true
    stays : (test : ℕ × Pending → Bool) → list_any (blocked_if test) own.pending ≡ true → list_any (blocked_if test) w.pending ≡ true

  -- the call that is taken up is none of these
  next-free : (test : ℕ × Pending → Bool) (w : Volume) (entry : ℕ × Pending) → StaysSo w → IsNext w entry → blocked_if test entry ≡ false
  next-free test w entry so next = elim (cases_Bool (is_held entry.1)) [
    | inr free ↦ rw free refl
    | inl held ↦ (
        let ready = next.ready in
        let let_go : not (is_blocked (blocker_lives w) entry.1) ≡ true = rw held at ready in
        let none : is_blocked (blocker_lives own) entry.1 ≡ false = none-stronger (blocker_lives w) (blocker_lives own) entry.1.blockers so.lives (not-true (is_blocked (blocker_lives w) entry.1) let_go) in
        rw (held, none) refl)
  ]

  -- a held call that is taken up is tried: what passes stays, and what passes and is such
  go_on : (test : ℕ × Pending → Bool) (w v : Volume) → Leaves w v → IsOnce w → GrantsNoneHeld w → list_any (blocked_if test) w.pending ≡ true → list_any (blocked_if test) v.pending ≡ true
  go_on test w v leaves once none_held some =
      let there = how_many-some (blocked_if test) w.pending some in
      let same = leaves.held once none_held (λ e. is_blocked (blocker_lives own) e.1 && test e) in some-how_many (blocked_if test) v.pending (omega arith)

  no_more : (test such : ℕ × Pending → Bool) (w v : Volume) → Leaves w v → IsOnce w → GrantsNoneHeld w → list_any (λ e. blocked_if test e && such e) w.pending ≡ false
      → list_any (λ e. blocked_if test e && such e) v.pending ≡ false
  no_more test such w v leaves once none_held none =
      let q : ℕ × Pending → Bool = λ e. (is_blocked (blocker_lives own) e.1 && test e) && such e in
      let before = how_many-none (λ e. is_held e.1 && q e) w.pending (none-stronger (λ e. blocked_if test e && such e) (λ e. is_held e.1 && q e) w.pending
      (λ e both. grouped (is_held e.1) (is_blocked (blocker_lives own) e.1 && test e) (such e) both) none) in
      let same = leaves.held once none_held q in
      none-stronger (λ e. is_held e.1 && q e) (λ e. blocked_if test e && such e) v.pending (λ e both. regrouped (is_held e.1) (is_blocked (blocker_lives own) e.1 && test e) (such e) both)
      (none-how_many (λ e. is_held e.1 && q e) v.pending (omega arith))
    where
      grouped : (a b c : Bool) → (a && (b && c)) ≡ true → ((a && b) && c) ≡ true
      grouped true b c both = both
      grouped false b c both = both

  stays-tried : (test : ℕ × Pending → Bool) (w : Volume) (entry : ℕ × Pending) (outcome : Outcome) → TriesTo Leaves w outcome → IsOnce w → GrantsNoneHeld w
      → list_any (λ e. blocked_if test e && is_call_of entry.1.call.client entry.1.call.number e) w.pending ≡ false → list_any (λ e. blocked_if test e && is_under entry.0 e) w.pending ≡ false
      → list_any (blocked_if test) w.pending ≡ true → list_any (blocked_if test) (with_tried entry.0 entry.1 outcome).pending ≡ true
  stays-tried test w entry (Done v reply) tries once none_held calls turns some =
      ends-stay (blocked_if test) v entry.1.call.client entry.1.call.number reply
      (no_more test (is_call_of entry.1.call.client entry.1.call.number) w v tries.0 once none_held calls) (go_on test w v tries.0 once none_held some)
  stays-tried test w entry (Stay v interim) tries once none_held calls turns some = absurd tries
  stays-tried test w entry (Hold v blockers interim) tries once none_held calls turns some =
      any-map (blocked_if test) (λ e. if e.0 == entry.0 then (e.0, record e.1 { blockers = blockers }) else e) v.pending
      ∙ any-where (blocked_if test) (λ e. blocked_if test e && is_under entry.0 e) (λ e. blocked_if test (if e.0 == entry.0 then (e.0, record e.1 { blockers = blockers }) else e)) v.pending
      (λ e passes isnt. (let other : (e.0 == entry.0) ≡ false = left_over (blocked_if test e) (e.0 == entry.0) passes isnt in rw other passes))
      (no_more test (is_under entry.0) w v tries.0 once none_held turns) (go_on test w v tries.0 once none_held some)
    where
      left_over : (a b : Bool) → a ≡ true → (a && b) ≡ false → b ≡ false
      left_over true b is isnt = isnt
      left_over false b is isnt = cc

  stays-taken_up : (s : Settling) (entry : ℕ × Pending) → MaySettle s.volume → IsOnce s.volume → GrantsNoneHeld s.volume → IsNext s.volume entry → StaysSo s.volume → StaysSo (taken_up s entry).volume
  stays-taken_up s entry may once none_held next so = record {
    lives = λ b lives. Steps.lives (Steps-taken_up s entry may next) b (so.lives b lives);
    stays = λ test some. stays test (so.stays test some);
  }
    where
      one : how_many (is_call_of entry.1.call.client entry.1.call.number) s.volume.pending ≤ 1
      one = (let few : times entry.1.call.client entry.1.call.number s.volume ≤ 1 = once entry.1.call.client entry.1.call.number in omega arith)

      calls : (test : ℕ × Pending → Bool) → list_any (λ e. blocked_if test e && is_call_of entry.1.call.client entry.1.call.number e) s.volume.pending ≡ false
      calls test = next-apart (is_call_of entry.1.call.client entry.1.call.number) (blocked_if test) s.volume entry one next (is_same-refl entry.1.call.client entry.1.call.number) (next-free test s.volume entry so next)

      turns : (test : ℕ × Pending → Bool) → list_any (λ e. blocked_if test e && is_under entry.0 e) s.volume.pending ≡ false
      turns test = next-apart (is_under entry.0) (blocked_if test) s.volume entry (may.turns entry.0) next (let self : (entry.0 == entry.0) ≡ true = eq-eqb entry.0 entry.0 refl in self) (next-free test s.volume entry so next)

      stays : (test : ℕ × Pending → Bool) → list_any (blocked_if test) s.volume.pending ≡ true → list_any (blocked_if test) (taken_up s entry).volume.pending ≡ true
      stays test some = elim (cases_Bool (is_held entry.1)) [
        | inr free ↦ rw free (let comes = comes_over s entry.1 free next.ready in
            rw comes.is (ends-stay (blocked_if test) comes.seen entry.1.call.client entry.1.call.number comes.reply (rw comes.untouched.pending (calls test)) (rw comes.untouched.pending some)))
        | inl held ↦ rw held (elim (cases_Bool (starves s.starved entry.1)) [
          | inl starving ↦ rw starving (ends-stay (blocked_if test) s.volume entry.1.call.client entry.1.call.number (record { status = NoMemory; body = Nothing }) (calls test) some)
          | inr plenty ↦ rw plenty (stays-tried test s.volume entry (try s.volume entry.1.call entry.0)
              (Tries.so (try-tries s.volume entry.1.call entry.0 may.oplocks (next-may_be_held s.volume entry may next held))) once none_held (calls test) (turns test) some)
        ])
      ]

  stays-steps : (begun : Volume) (most : ℕ) (s : Settling) → GoesOn begun s → StaysSo s.volume → GoesOn begun (repeated settle_step most s) × StaysSo (repeated settle_step most s).volume
  stays-steps begun = goes-keep begun StaysSo (λ s entry on next so. stays-taken_up s entry on.may on.once on.none_held next so)

  held-no_wait : (what : What) → may_be_held what ≡ true → is_wait what ≡ false
  held-no_wait (WaitFor number) held = absurd (let impossible : false ≡ true = held in cc)
  held-no_wait _ held = refl

  -- what waits end where all clients wait aren't held
  stays-stalled : (w : Volume) → MaySettle w → IsOnce w → StaysSo w → StaysSo (with_stalled w)
  stays-stalled w may once so = record {
    lives = λ b lives. lives-same b (so.lives b lives);
    stays = λ test some. elim (cases_Bool (all_wait w)) [
      | inr isnt ↦ rw isnt (so.stays test some)
      | inl all ↦ rw all (
          let no_wait : list_any (λ e. blocked_if test e && not (is_wait e.1.call.what)) w.pending ≡ true
          = any-where (blocked_if test) is_held_wrongly (λ e. blocked_if test e && not (is_wait e.1.call.what)) w.pending (λ e passes rightly. right e test passes rightly) (none-how_many is_held_wrongly w.pending may.held) (so.stays test some) in
          any-weaker (λ e. blocked_if test e && not (is_wait e.1.call.what)) (blocked_if test) (with_calls_ended (λ _. Stalled) (waits_in_order w) w).pending (λ e both. and_left (blocked_if test e) (not (is_wait e.1.call.what)) both)
          (calls-stay (λ e. blocked_if test e && not (is_wait e.1.call.what)) (λ _. Stalled) (waits_in_order w) w
          (calls-apart (λ e. blocked_if test e && not (is_wait e.1.call.what)) (λ p. is_wait p.call.what) (λ a b. is_asked_before a.1 b.1) w once (λ e both. not-true (is_wait e.1.call.what) (and_right (blocked_if test e) (not (is_wait e.1.call.what)) both))) no_wait))
    ];
  }
    where
      lives-same : (b : Blocker) → blocker_lives w b ≡ true → blocker_lives (with_stalled w) b ≡ true
      lives-same (blocker.Break n) lives = rw (SameBlockers.oplocks (blockers-stalled w)) lives
      lives-same (blocker.Lock n) lives = rw (SameBlockers.locks (blockers-stalled w)) lives

      right : (e : ℕ × Pending) (test : ℕ × Pending → Bool) → blocked_if test e ≡ true → is_held_wrongly e ≡ false → (blocked_if test e && not (is_wait e.1.call.what)) ≡ true
      right e test passes rightly =
          let held : is_held e.1 ≡ true = and_left (is_held e.1) (is_blocked (blocker_lives own) e.1 && test e) passes in
          let may_be : may_be_held e.1.call.what ≡ true = not-false (may_be_held e.1.call.what) (rw held at rightly) in
          rw (passes, held-no_wait e.1.call.what may_be) refl

-- ---- in each turn of a run

module _ (setup : Setup) (history front later : List HistoryEntry) (entry : HistoryEntry) (r : Run) (differ : CallsDiffer history) (is : history ≡ front ++ entry ∷ later) (runs : run setup front ≡ Some r) where
  differ_to : CallsDiffer (front ++ entry ∷ [])
  differ_to = differ-before history front later entry is differ

  may : MayTurn r.volume
  may = (run-before setup front entry r differ_to runs).may

  asking : GrantsAsked r.volume
  asking = run-asked setup front entry r differ_to runs

  new : times entry.call.client entry.call.number r.volume ≡ 0
  new = new-before setup front entry r differ_to runs

  turn-keeps_pending : KeepsPending r.volume entry.call entry.starved
  turn-keeps_pending = record {
    held_ask_for_none = none-stronger is_held_wrongly (λ e. is_held e.1 && asks_oplock e.1) r.volume.pending
        (λ e both. rw (and_left (is_held e.1) (asks_oplock e.1) both, asks-unheld e.1.call.what (and_right (is_held e.1) (asks_oplock e.1) both)) refl)
        (none-how_many is_held_wrongly r.volume.pending may.take_up.may.held);
    tried = λ test some. stays-answered (λ e. not (asks_oplock e.1) && test e) r.volume entry.call (try r.volume entry.call (turn_number r.volume)) tried (let none = new in omega arith)
        (stays-try r.volume entry.call test (turn_number r.volume) may.take_up.once asking some);
    settled = λ steps test some. any-weaker (blocked_if (so_far steps).volume test) (λ e. is_held e.1 && test e) (settlement r.volume entry.call entry.starved).volume.pending
        (λ e all. only_held (is_held e.1) (is_blocked (blocker_lives (so_far steps).volume) e.1) (test e) all)
        (StaysSo.stays (settles steps) test (any-weaker (λ e. (is_held e.1 && is_blocked (blocker_lives (so_far steps).volume) e.1) && test e) (blocked_if (so_far steps).volume test) (so_far steps).volume.pending
        (λ e all. regrouped (is_held e.1) (is_blocked (blocker_lives (so_far steps).volume) e.1) (test e) all) some));
    stepped = λ steps. step-stays own steps begun (GoesOn-begins own entry.starved own_may) (own-asked r.volume entry.call may asking);
    stalled = stalled-stays (taken_up_all own entry.starved).volume (GoesOn.once (taken_up_all-goes own entry.starved own_may).1);
    unready = unready-settled own entry.starved own_may (own-asked r.volume entry.call may asking);
  }
    where
      tried : TriedTo r.volume (turn_number r.volume) entry.call.what (try r.volume entry.call (turn_number r.volume))
      tried = try-keeps r.volume entry.call (turn_number r.volume) may.take_up.may.oplocks

      own : Volume
      own = own_tried r.volume entry.call

      most : ℕ
      most = length (own_tried r.volume entry.call).pending

      begun : Settling
      begun = record { volume = own_tried r.volume entry.call; starved = entry.starved; taken = [] }

      so_far : ℕ → Settling
      so_far steps = settling_after r.volume entry.call entry.starved steps

      own_may : MayTakeUp own
      own_may = own-takes_up r.volume entry.call may new

      same : (w : Volume) → StaysSo w w
      same w = record { lives = λ b lives. lives; stays = λ test some. some }

      came : (steps : ℕ) → GoesOn own (so_far steps)
      came steps = (stays-steps own own steps begun (GoesOn-begins own entry.starved own_may) (same own)).0

      -- from that step on
      comes : (steps : ℕ) → GoesOn own (repeated settle_step most (so_far steps)) × StaysSo (so_far steps).volume (repeated settle_step most (so_far steps)).volume
      comes steps = stays-steps (so_far steps).volume own most (so_far steps) (came steps) (same (so_far steps).volume)

      settles : (steps : ℕ) → StaysSo (so_far steps).volume (settlement r.volume entry.call entry.starved).volume
      settles steps =
          let last : GoesOn own (taken_up_all own entry.starved) × StaysSo (so_far steps).volume (taken_up_all own entry.starved).volume = subst (λ (s : Settling). GoesOn own s × StaysSo (so_far steps).volume s.volume)
          (sym (repeated-last settle_step most steps begun (rw (taken_up_all-done own entry.starved own_may.may).0 refl))) (comes steps) in
          stays-stalled (so_far steps).volume (taken_up_all own entry.starved).volume last.0.may last.0.once last.1

      only_held : (a b c : Bool) → (a && (b && c)) ≡ true → (a && c) ≡ true
      only_held true true c all = all
      only_held true false c all = cc
      only_held false b c all = all

pub pending-stay : (setup : Setup) (history : List HistoryEntry) → CallsDiffer history → PendingStay setup history
pending-stay setup history differ front later entry r is runs = turn-keeps_pending setup history front later entry r differ is runs
