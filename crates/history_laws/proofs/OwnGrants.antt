-- Under a turn at most one oplock is granted: no break of it is in progress, and its call is pending under that turn. And which
-- calls ask for none.
use Rattle.std.proofs.Common.{◌≡◌, ℕ, ◌≤◌, Bool, true, false, not, refl, sym, ◌∙◌, arith, inl, inr, Some}
use Rattle.std.specs.List.{list_any}
use Rattle.std.specs.Prelude.{◌==◌, ◌&&◌, ◌||◌, is_some}
use Rattle.std.proofs.lemmas.Bool.{cases_Bool, eqb-true, false_from_ne_true, not-true}
use Rattle.fsa_types.specs.declared.request.Call.{Call}
use Rattle.fsa_types.specs.declared.request.Level.{Level}
use Rattle.fsa_types.specs.declared.request.Request.TheVariants.{Ack, Oplock as OplockRequest}
use Rattle.fsa_types.specs.declared.request.What.{What}
use Rattle.fsa_types.specs.declared.request.What.TheVariants.{Ask}
use Rattle.fsa_model.specs.Engine.{GrantsPend, asks_oplock_of, handle_granted, has_grant_under, is_pending_grant}
use Rattle.fsa_model.specs.Lookups.{handle_of}
use Rattle.fsa_model.specs.Once.{how_many}
use Rattle.fsa_model.specs.Settling.{MaySettle, is_of, is_under}
use Rattle.fsa_model.specs.Volume.{Oplock, Pending, Volume}
use Rattle.fsa_model.specs.Waiting.{is_granted_under}
use Rattle.fsa_model.proofs.CountLaws.{and_left, and_right, how_many-none, how_many-split, how_many-weaker, only-one}
use Rattle.fsa_model.proofs.PendLaws.{OneGrantEach}
use Rattle.fsa_model.proofs.RowLaws.{any-weaker, option_cases}
use Rattle.fsa_model.proofs.WaitLaws.{Found, some_item}
use Rattle.history_laws.proofs.BrokenGrants.{NoBrokenGrant, is_broken_grant}

-- so it is with this one
pub record Pends (v : Volume) (turn : ℕ) (oplock : Oplock) : Type 0 where
  pub unbroken : is_some oplock.target ≡ false
  pub there : has_grant_under v oplock.handle turn ≡ true

-- where oplocks without a break have their calls, and those with one are granted to none
pub granted-pends : (v : Volume) (turn : ℕ) (test : Oplock → Bool) (oplock : Found test v.oplocks) → is_granted_under turn oplock.item ≡ true → GrantsPend v → NoBrokenGrant v.oplocks → Pends v turn oplock.item
granted-pends v turn test oplock granted pend none = elim (option_cases oplock.item.call) [
  | inl missing ↦ (let impossible : false ≡ true = rw missing at granted in cc)
  | inr call ↦ (
      let at_turn : (call.0 == turn) ≡ true = rw call.1 at granted in
      let same : call.0 ≡ turn = eqb-true call.0 turn at_turn in
      by (rw (← same) call.1))
]
  where
    isnt : (bad : Oplock → Bool) → list_any bad v.oplocks ≡ false → bad oplock.item ≡ false
    isnt bad none = false_from_ne_true (bad oplock.item) (λ is. (let impossible : true ≡ false = sym (oplock.is_there bad is) ∙ none in cc))

    first : (broken : Bool) → (broken && true) ≡ false → broken ≡ false
    first true is = is
    first false is = refl

    second : (broken there : Bool) → broken ≡ false → not (broken || there) ≡ false → there ≡ true
    second true there is some = cc
    second false true is some = refl
    second false false is some = cc

    by : oplock.item.call ≡ Some turn → Pends v turn oplock.item
    by its =
        let unbroken : is_some oplock.item.target ≡ false = first (is_some oplock.item.target) (rw its at (isnt is_broken_grant none)) in
        record { unbroken = unbroken; there = second (is_some oplock.item.target) (has_grant_under v oplock.item.handle turn) unbroken (rw its at (isnt (λ o. not (is_pending_grant v o)) pend)) }

-- ---- the only one

-- a call asks for the oplock of one handle
asks-one : (v : Volume) (id other : ℕ) (call : Call) → (id == other) ≡ false → asks_oplock_of v id call ≡ true → asks_oplock_of v other call ≡ false
asks-one v id other call differs asks = elim (option_cases (handle_granted call.what)) [
  | inl none ↦ rw none refl
  | inr number ↦ elim (option_cases (handle_of v call.client number.0)) [
    | inl none ↦ rw (number.1, none) refl
    | inr found ↦ (let same : found.0 ≡ id = eqb-true found.0 id (rw (number.1, found.1) at asks) in rw (number.1, found.1, same) differs)
  ]
]

-- under a turn at most one oplock is granted: that of the call that is pending under it
pub one-grant : (v : Volume) → MaySettle v → GrantsPend v → NoBrokenGrant v.oplocks → OneGrantEach v
one-grant v may pend none turn = elim (cases_Bool (list_any (is_granted_under turn) v.oplocks)) [
  | inr nothing ↦ (let zero_there = how_many-none (is_granted_under turn) v.oplocks nothing in omega arith)
  | inl some ↦ of_one (some_item (is_granted_under turn) v.oplocks some)
]
  where
    of_one : Found (is_granted_under turn) v.oplocks → how_many (is_granted_under turn) v.oplocks ≤ 1
    of_one oplock =
        let others = how_many-none (λ x. is_granted_under turn x && not (is_of oplock.item.handle x)) v.oplocks elsewhere in
        let split = how_many-split (is_granted_under turn) (is_of oplock.item.handle) v.oplocks in
        let weaker = how_many-weaker (λ x. is_granted_under turn x && is_of oplock.item.handle x) (is_of oplock.item.handle) v.oplocks (λ x both. and_right (is_granted_under turn x) (is_of oplock.item.handle x) both) in
        let few = may.oplocks oplock.item.handle in omega arith
      where
        no_other : Found (λ (x : Oplock). is_granted_under turn x && not (is_of oplock.item.handle x)) v.oplocks → ⊥
        no_other x =
            let granted = and_left (is_granted_under turn x.item) (not (is_of oplock.item.handle x.item)) x.passes in
            let differs : (x.item.handle == oplock.item.handle) ≡ false = not-true (x.item.handle == oplock.item.handle) (and_right (is_granted_under turn x.item) (not (is_of oplock.item.handle x.item)) x.passes) in
            let its = granted-pends v turn (is_granted_under turn) oplock oplock.passes pend none in
            let others = only-one (is_under turn) (λ e. asks_oplock_of v oplock.item.handle e.1.call) v.pending (may.turns turn) its.there in
            let there = any-weaker (λ (e : ℕ × Pending). e.0 == turn && asks_oplock_of v x.item.handle e.1.call) (λ e. is_under turn e && not (asks_oplock_of v oplock.item.handle e.1.call)) v.pending
            (λ e both. rw (and_left (e.0 == turn) (asks_oplock_of v x.item.handle e.1.call) both, asks-one v x.item.handle oplock.item.handle e.1.call differs (and_right (e.0 == turn) (asks_oplock_of v x.item.handle e.1.call) both)) refl)
            (Pends.there (granted-pends v turn (λ (x : Oplock). is_granted_under turn x && not (is_of oplock.item.handle x)) x granted pend none)) in
            let impossible : true ≡ false = sym there ∙ others in cc

        elsewhere : list_any (λ x. is_granted_under turn x && not (is_of oplock.item.handle x)) v.oplocks ≡ false
        elsewhere = false_from_ne_true _ (λ some. no_other (some_item (λ x. is_granted_under turn x && not (is_of oplock.item.handle x)) v.oplocks some))

-- ---- what asks for none

-- what asks for an oplock or answers a break fails a test that neither passes
pub asks-fails : (test : What → Bool) → ((handle : ℕ) (level : Level) → test (Ask (OplockRequest handle level)) ≡ false) → ((handle : ℕ) (level : Level) → test (Ask (Ack handle level)) ≡ false)
    → (what : What) → is_some (handle_granted what) ≡ true → test what ≡ false
asks-fails test asks answers (Ask (OplockRequest handle level)) is = asks handle level
asks-fails test asks answers (Ask (Ack handle level)) is = answers handle level
asks-fails test asks answers (Ask _) is = absurd (let impossible : false ≡ true = is in cc)
asks-fails test asks answers _ is = absurd (let impossible : false ≡ true = is in cc)

-- and what passes does neither
pub unasked : (test : What → Bool) → ((handle : ℕ) (level : Level) → test (Ask (OplockRequest handle level)) ≡ false) → ((handle : ℕ) (level : Level) → test (Ask (Ack handle level)) ≡ false)
    → (what : What) → test what ≡ true → is_some (handle_granted what) ≡ false
unasked test asks answers what passes = false_from_ne_true (is_some (handle_granted what)) (λ is. (let impossible : true ≡ false = sym passes ∙ asks-fails test asks answers what is in cc))
