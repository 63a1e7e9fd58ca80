-- An oplock is granted to no pending call but one that asks for it or answers a break, also within a turn.
use Rattle.std.proofs.Common.{◌≡◌, ℕ, ◌+◌, ◌≤◌, Bool, true, false, not, List, [], ◌∷◌, ◌++◌, cond, refl, arith, inl, inr, Some}
use Rattle.std.specs.Prelude.{◌==◌, ◌&&◌, is_some, nat_lt}
use Rattle.std.proofs.lemmas.Bool.{cases_Bool, eqb-true, lt-ltb}
use Rattle.fsa_types.specs.declared.reply.Blocker.{Blocker}
use Rattle.fsa_types.specs.declared.request.Call.{Call}
use Rattle.fsa_types.specs.declared.request.Request.TheVariants.{Ack, Oplock as OplockRequest}
use Rattle.fsa_types.specs.declared.request.What.{What}
use Rattle.fsa_types.specs.declared.request.What.TheVariants.{Ask}
use Rattle.fsa_model.specs.Edits.{is_call, with_pending}
use Rattle.fsa_model.specs.Engine.{CallsDiffer, GrantsPend, asks_oplock_of, handle_granted, own_tried}
use Rattle.fsa_model.specs.History.{HistoryEntry, Run, run}
use Rattle.fsa_model.specs.Once.{how_many, made}
use Rattle.fsa_model.specs.Outcome.{Outcome, Done, Stay, Hold}
use Rattle.fsa_model.specs.Settle.{Settling, taken_up}
use Rattle.fsa_model.specs.Settling.{MaySettle, MayTurn, is_under, may_be_held}
use Rattle.fsa_model.specs.Setup.{Setup}
use Rattle.fsa_model.specs.Try.{try}
use Rattle.fsa_model.specs.Turn.{answered, turn_number, volume_after}
use Rattle.fsa_model.specs.Volume.{Pending, Volume}
use Rattle.fsa_model.specs.Waiting.{is_granted_under}
use Rattle.fsa_model.proofs.CountLaws.{and_left, and_right, and_true, how_many-append, how_many-filter_le, how_many-none, how_many-weaker, only-one, some-how_many}
use Rattle.fsa_model.proofs.EngineLaws.{run-before}
use Rattle.fsa_model.proofs.GrantedLaws.{run-grants}
use Rattle.fsa_model.proofs.KeepLaws.{Kept, KeptTo}
use Rattle.fsa_model.proofs.PendLaws.{asks-some}
use Rattle.fsa_model.proofs.RowLaws.{any-weaker}
use Rattle.fsa_model.proofs.SettleLaws.{IsNext, Steps, Steps-taken_up, try-tries}
use Rattle.fsa_model.proofs.TryLaws.{Leaves, Tries, TriesTo}
use Rattle.fsa_model.proofs.TurnLaws.{TriedTo, may_be_granted, try-keeps, try-kept}
use Rattle.fsa_model.proofs.WaitLaws.{Found, some_item}
use Rattle.history_laws.specs.Holding.{asks_oplock}
use Rattle.history_laws.proofs.BrokenGrants.{NoBrokenGrant, run-tidy}
use Rattle.history_laws.proofs.HeldTries.{GrantsNone}
use Rattle.history_laws.proofs.OwnGrants.{Pends, asks-fails, granted-pends}
use Rattle.history_laws.proofs.TurnByTurn.{differ-front}
use Rattle.history_laws.proofs.WaitRuns.{granted-taken_up}

-- no oplock is granted to a pending call that neither asks for one nor answers a break
abbrev pub GrantsAsked : Volume → Type 0
GrantsAsked v = GrantsNone (λ e. not (asks_oplock e.1)) v

-- what asks for an oplock can't be held
pub asks-unheld : (what : What) → is_some (handle_granted what) ≡ true → may_be_held what ≡ false
asks-unheld = asks-fails may_be_held (λ handle level. refl) (λ handle level. refl)

-- what is pending under the turn of an oplock asks for it
grants-asking : (v : Volume) → ((turn : ℕ) → how_many (is_under turn) v.pending ≤ 1) → GrantsPend v → NoBrokenGrant v.oplocks → GrantsAsked v
grants-asking v turns pend unbroken turn some = of_oplock (some_item (is_granted_under turn) v.oplocks (some-how_many (is_granted_under turn) v.oplocks some))
  where
    of_oplock : Found (is_granted_under turn) v.oplocks → how_many (λ e. e.0 == turn && not (asks_oplock e.1)) v.pending ≡ 0
    of_oplock oplock =
        how_many-none (λ e. is_under turn e && not (asks_oplock e.1)) v.pending
        (only-one (is_under turn) (λ e. asks_oplock e.1) v.pending (turns turn)
        (any-weaker (λ e. e.0 == turn && asks_oplock_of v oplock.item.handle e.1.call) (λ e. is_under turn e && asks_oplock e.1) v.pending
        (λ e both. and_true (is_under turn e) (asks_oplock e.1) (and_left (e.0 == turn) (asks_oplock_of v oplock.item.handle e.1.call) both)
        (asks-some v oplock.item.handle e.1.call (and_right (e.0 == turn) (asks_oplock_of v oplock.item.handle e.1.call) both)))
        (Pends.there (granted-pends v turn (is_granted_under turn) oplock oplock.passes pend unbroken))))

-- before each turn of a run
pub run-asked : (setup : Setup) (front : List HistoryEntry) (entry : HistoryEntry) (r : Run) → CallsDiffer (front ++ entry ∷ []) → run setup front ≡ Some r → GrantsAsked r.volume
run-asked setup front entry r differ runs =
    let differ_front : CallsDiffer front = differ-front front (entry ∷ []) differ in
    grants-asking r.volume (run-before setup front entry r differ runs).may.take_up.may.turns (run-grants setup front r differ_front runs) (run-tidy setup front r differ_front runs).none

-- ---- once the turn's call has been tried

-- what doesn't ask for an oplock is granted none
ungranted : (what : What) → is_some (handle_granted what) ≡ false → may_be_granted what ≡ false
ungranted (Ask (OplockRequest handle level)) isnt = cc
ungranted (Ask (Ack handle level)) isnt = cc
ungranted (Ask _) isnt = refl
ungranted _ isnt = refl

module _ (v : Volume) (call : Call) (may : MayTurn v) (asked : GrantsAsked v) where
  -- where the call doesn't ask for an oplock, its try grants none
  abbrev NoMore : Volume → Type 0
  NoMore w = (turn : ℕ) → how_many (is_granted_under turn) w.oplocks ≤ how_many (is_granted_under turn) v.oplocks

  try-grants_none : is_some (handle_granted call.what) ≡ false → NoMore (volume_after (try v call (turn_number v)))
  try-grants_none isnt = elim (cases_Bool (may_be_held call.what)) [
    | inl held ↦ of_tries (try v call (turn_number v)) (Tries.so (try-tries v call (turn_number v) may.take_up.may.oplocks held))
    | inr never ↦ of_kept (try v call (turn_number v)) (Kept.so (try-kept v call (turn_number v) may.take_up.may.oplocks never (ungranted call.what isnt)))
  ]
    where
      of_tries : (outcome : Outcome) → TriesTo Leaves v outcome → NoMore (volume_after outcome)
      of_tries (Done w reply) tries = tries.0.keeps.granted
      of_tries (Stay w interim) tries = absurd tries
      of_tries (Hold w blockers interim) tries = tries.0.keeps.granted

      of_kept : (outcome : Outcome) → KeptTo v outcome → NoMore (volume_after outcome)
      of_kept (Done w reply) kept = kept.kept.keeps.granted
      of_kept (Stay w interim) kept = kept.kept.keeps.granted
      of_kept (Hold w blockers interim) kept = absurd kept

  -- the turn's call becomes pending
  asked-pending : (w : Volume) (blockers : List Blocker) → ((test : ℕ × Pending → Bool) → how_many test w.pending ≤ how_many test v.pending)
      → ((turn : ℕ) → how_many (is_granted_under turn) w.oplocks ≤ how_many (is_granted_under turn) v.oplocks + cond (turn_number v == turn) 1 0)
      → (is_some (handle_granted call.what) ≡ false → NoMore w) → GrantsAsked (with_pending w (turn_number v) call blockers)
  asked-pending w blockers fewer granted none_more turn some = elim (cases_Bool (turn_number v == turn)) [
    | inr differs ↦ (
        let more : how_many (is_granted_under turn) w.oplocks ≤ how_many (is_granted_under turn) v.oplocks + 0 = rw differs at (granted turn) in
        let none : how_many unasking v.pending ≡ 0 = asked turn (omega arith) in
        let all : how_many unasking (with_pending w (turn_number v) call blockers).pending ≡ how_many unasking w.pending + (0 + 0) = rw differs at pushed in omega arith)
    | inl its ↦ elim (cases_Bool (is_some (handle_granted call.what))) [
      | inr isnt ↦ (let fewer_granted = none_more isnt turn in let same : turn_number v ≡ turn = eqb-true (turn_number v) turn its in let none = may.granted turn (omega arith) in absurd (omega arith))
      | inl asks ↦ (
          let same : turn_number v ≡ turn = eqb-true (turn_number v) turn its in
          let later = how_many-weaker unasking (λ e. nat_lt (made v) e.0) v.pending (λ e both. (let here : e.0 ≡ turn = eqb-true e.0 turn (and_left (e.0 == turn) _ both) in lt-ltb (made v) e.0 (omega arith))) in
          let none = may.turns in
          let all : how_many unasking (with_pending w (turn_number v) call blockers).pending ≡ how_many unasking w.pending + (0 + 0) = rw (its, asks) at pushed in omega arith)
    ]
  ]
    where
      unasking : ℕ × Pending → Bool
      unasking e = e.0 == turn && not (asks_oplock e.1)

      few : how_many unasking w.pending ≤ how_many unasking v.pending
      few = fewer unasking

      pushed : how_many unasking (with_pending w (turn_number v) call blockers).pending ≡ how_many unasking w.pending + how_many unasking ((turn_number v, record { call = call; blockers = blockers }) ∷ [])
      pushed = how_many-append unasking w.pending ((turn_number v, record { call = call; blockers = blockers }) ∷ [])

  -- or it ends
  asked-answered : (outcome : Outcome) → TriedTo v (turn_number v) call.what outcome → (is_some (handle_granted call.what) ≡ false → NoMore (volume_after outcome)) → GrantsAsked (answered call (turn_number v) outcome)
  asked-answered (Done w reply) tried none_more = λ turn some.
      let more = tried.0.keeps.granted turn in
      let none = asked turn (omega arith) in
      let fewer = tried.0.keeps.pending (λ e. e.0 == turn && not (asks_oplock e.1)) in
      let one = how_many-filter_le (λ e. e.0 == turn && not (asks_oplock e.1)) (λ e. not (is_call call.client call.number e.1)) w.pending in
      omega arith
  asked-answered (Stay w interim) tried none_more = asked-pending w [] tried.pending tried.granted none_more
  asked-answered (Hold w blockers interim) tried none_more = asked-pending w blockers tried.0.keeps.pending (λ turn. (let few = tried.0.keeps.granted turn in omega arith)) none_more

  -- so it is with either
  pub own-asked : GrantsAsked (own_tried v call)
  own-asked = asked-answered (try v call (turn_number v)) (try-keeps v call (turn_number v) may.take_up.may.oplocks) try-grants_none

-- ---- a step of the settlement

-- which makes no call pending and grants no oplock
pub asked-taken_up : (s : Settling) (entry : ℕ × Pending) → MaySettle s.volume → IsNext s.volume entry → GrantsAsked s.volume → GrantsAsked (taken_up s entry).volume
asked-taken_up s entry may next asked turn some =
    let more = granted-taken_up 0 0 (λ reply. true) s entry may next turn in
    let fewer = Steps.pending (Steps-taken_up s entry may next) (λ under call. under == turn && not (is_some (handle_granted call.what))) in
    let none = asked turn (omega arith) in omega arith
