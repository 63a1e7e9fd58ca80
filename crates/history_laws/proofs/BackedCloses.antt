-- A close, and a client's leaving, end the calls of the oplocks that they take away.
use Rattle.std.proofs.Common.{◌≡◌, ℕ, ◌≤◌, Bool, true, false, not, List, [], ◌∷◌, refl, ap, sym, ◌∙◌, arith, eq-eqb, inl, inr, Some, None}
use Rattle.std.specs.List.{filter, find, list_any}
use Rattle.std.specs.Prelude.{◌==◌, ◌&&◌, ◌||◌, nat_lt}
use Rattle.std.proofs.lemmas.Bool.{cases_Bool, eqb-true}
use Rattle.fsa_types.specs.Rows.{row_of}
use Rattle.fsa_types.specs.declared.request.Request.TheVariants.{Ack, Oplock as OplockRequest}
use Rattle.fsa_types.specs.declared.request.What.{What}
use Rattle.fsa_types.specs.declared.request.What.TheVariants.{Ask}
use Rattle.fsa_types.specs.declared.status.Status.TheVariants.{Cancelled}
use Rattle.fsa_model.specs.Close.{close_at, handles_of_client, is_call_on, is_left_behind, names, pending_by_turn, try_close, try_leave, with_all_closed, with_calls_ended, with_client_gone, with_closed}
use Rattle.fsa_model.specs.Engine.{GrantsPend, asks_oplock_of, handle_granted}
use Rattle.fsa_model.specs.Lookups.{handle_of, is_opened_by}
use Rattle.fsa_model.specs.Once.{how_many}
use Rattle.fsa_model.specs.Settling.{is_under}
use Rattle.fsa_model.specs.Turn.{volume_after}
use Rattle.fsa_model.specs.Volume.{Handle, Oplock, Pending, Volume}
use Rattle.fsa_model.specs.Waiting.{is_granted_under}
use Rattle.fsa_model.proofs.CountLaws.{and_left, and_right, how_many-filter, how_many-in_order, how_many-none, how_many-some, how_many-split, how_many-weaker, only-one}
use Rattle.fsa_model.proofs.KeepLaws.{Keeps-all_closed}
use Rattle.fsa_model.proofs.OnceLaws.{SameBlockers, blockers-calls_ended, fewer-calls_ended}
use Rattle.fsa_model.proofs.RowLaws.{any-weaker, eqb-swap, find-any, find-none, option_cases, or-false}
use Rattle.fsa_model.proofs.WaitLaws.{Found, find-passes, some_item}
use Rattle.history_laws.proofs.BackedBreaks.{AreBacked, TurnsDiffer, asking-under, is_asking_under}
use Rattle.history_laws.proofs.BrokenGrants.{Closes, NoBrokenGrant, closes}
use Rattle.history_laws.proofs.OwnGrants.{Pends, granted-pends}
use Rattle.history_laws.proofs.PendingNames.{CallsNamed, closed-gone, leave-gone, only-numbered}

-- the handle is one of these
abbrev is_among : List (ℕ × Handle) → ℕ → Bool
is_among handles id = list_any (λ h. id == h.0) handles

-- ---- oplocks go, and calls end

-- oplocks of some handles go, and no call is left that passes a test which the calls of those oplocks pass
module _ (v w : Volume) (gone : ℕ → Bool) (off : Pending → Bool) (turns : TurnsDiffer v) (pend : GrantsPend v) (none : NoBrokenGrant v.oplocks)
    (pending : (test : ℕ × Pending → Bool) → how_many test w.pending ≤ how_many test v.pending) (ended : how_many (λ e. off e.1) w.pending ≡ 0)
    (stay : (turn : ℕ) → how_many (λ o. is_granted_under turn o && not (gone o.handle)) v.oplocks ≤ how_many (is_granted_under turn) w.oplocks)
    (theirs : (id : ℕ) (e : Pending) → gone id ≡ true → asks_oplock_of v id e.call ≡ true → off e ≡ true) where
  -- nothing is pending under the turn of an oplock that goes
  none-under : (turn : ℕ) → Found (λ (o : Oplock). is_granted_under turn o && gone o.handle) v.oplocks → how_many (is_under turn) w.pending ≡ 0
  none-under turn oplock =
      let granted = and_left (is_granted_under turn oplock.item) (gone oplock.item.handle) oplock.passes in
      let its = granted-pends v turn (λ (o : Oplock). is_granted_under turn o && gone o.handle) oplock granted pend none in
      let there = any-weaker (λ (e : ℕ × Pending). e.0 == turn && asks_oplock_of v oplock.item.handle e.1.call) (λ e. is_under turn e && off e.1) v.pending
      (λ e both. rw (and_left (e.0 == turn) (asks_oplock_of v oplock.item.handle e.1.call) both)
      (theirs oplock.item.handle e.1 (and_right (is_granted_under turn oplock.item) (gone oplock.item.handle) oplock.passes) (and_right (e.0 == turn) (asks_oplock_of v oplock.item.handle e.1.call) both))) (Pends.there its) in
      let others = how_many-none (λ e. is_under turn e && not (off e.1)) v.pending (only-one (is_under turn) (λ e. off e.1) v.pending (turns turn) there) in
      let fewer = pending (λ e. is_under turn e && not (off e.1)) in
      let split = how_many-split (is_under turn) (λ e. off e.1) w.pending in
      let weaker = how_many-weaker (λ (e : ℕ × Pending). is_under turn e && off e.1) (λ e. off e.1) w.pending (λ e both. and_right (is_under turn e) (off e.1) both) in
      omega arith

  -- each other turn has its oplock still
  gone-backed : AreBacked v → AreBacked w
  gone-backed backed turn = elim (cases_Bool (list_any (λ (o : Oplock). is_granted_under turn o && gone o.handle) v.oplocks)) [
    | inl some ↦ (let nothing = none-under turn (some_item (λ (o : Oplock). is_granted_under turn o && gone o.handle) v.oplocks some) in let fewer = asking-under turn w.pending in omega arith)
    | inr all_stay ↦ (
        let zero_there = how_many-none (λ (o : Oplock). is_granted_under turn o && gone o.handle) v.oplocks all_stay in
        let split = how_many-split (is_granted_under turn) (λ (o : Oplock). gone o.handle) v.oplocks in
        let before : how_many (is_asking_under turn) v.pending ≤ how_many (is_granted_under turn) v.oplocks = backed turn in
        let fewer = pending (is_asking_under turn) in let left = stay turn in omega arith)
  ]

-- ---- whose the calls of an oplock are

-- a call that asks for an oplock names the handle that it is of
granted-named : (what : What) (number : ℕ) → handle_granted what ≡ Some number → names what number ≡ true
granted-named (Ask (OplockRequest handle level)) number is = eq-eqb handle number (let same : handle ≡ number = cc in same)
granted-named (Ask (Ack handle level)) number is = eq-eqb handle number (let same : handle ≡ number = cc in same)
granted-named (Ask _) number is = absurd (let impossible : None ≡ Some number = is in cc)
granted-named _ number is = absurd (let impossible : None ≡ Some number = is in cc)

-- the call of a handle's oplock is one on that handle
on-handle : (v : Volume) (id : ℕ) (row : Handle) (e : Pending) → CallsNamed v → row_of v.handles id ≡ Some row → asks_oplock_of v id e.call ≡ true → is_call_on row e ≡ true
on-handle v id row e tidy found asks = elim (option_cases (handle_granted e.call.what)) [
  | inl none ↦ (let impossible : false ≡ true = rw none at asks in cc)
  | inr number ↦ elim (option_cases (find (λ (h : ℕ × Handle). is_opened_by e.call.client number.0 h.1) v.handles)) [
    | inl none ↦ (let impossible : false ≡ true = rw (number.1, none) at asks in cc)
    | inr h ↦ (
        let here : (h.0.0 == id) ≡ true = rw (number.1, h.1) at asks in
        let opened : is_opened_by e.call.client number.0 h.0.1 ≡ true = find-passes (λ (h : ℕ × Handle). is_opened_by e.call.client number.0 h.1) v.handles h.0 h.1 in
        let same : is_opened_by row.client row.number h.0.1 ≡ true = its number.0 h.0 h.1 here in
        let by : h.0.1.client ≡ e.call.client = eqb-true h.0.1.client e.call.client (and_left (h.0.1.client == e.call.client) (h.0.1.number == number.0) opened) in
        let numbered : h.0.1.number ≡ number.0 = eqb-true h.0.1.number number.0 (and_right (h.0.1.client == e.call.client) (h.0.1.number == number.0) opened) in
        let client : h.0.1.client ≡ row.client = eqb-true h.0.1.client row.client (and_left (h.0.1.client == row.client) (h.0.1.number == row.number) same) in
        let opens : h.0.1.number ≡ row.number = eqb-true h.0.1.number row.number (and_right (h.0.1.client == row.client) (h.0.1.number == row.number) same) in
        rw (← client, by, eq-eqb e.call.client e.call.client refl, ← opens, numbered) (granted-named e.call.what number.0 number.1))
  ]
]
  where
    its : (number : ℕ) (h : ℕ × Handle) → find (λ (h : ℕ × Handle). is_opened_by e.call.client number h.1) v.handles ≡ Some h → (h.0 == id) ≡ true → is_opened_by row.client row.number h.1 ≡ true
    its number h is here = elim (cases_Bool (is_opened_by row.client row.number h.1)) [
      | inl same ↦ same
      | inr other ↦ (
          let there = find-any (λ (h : ℕ × Handle). is_opened_by e.call.client number h.1) (λ h. h.0 == id && not (is_opened_by row.client row.number h.1)) v.handles h is (rw (here, other) refl) in
          let impossible : true ≡ false = sym there ∙ only-numbered v.handles v.last_handle (id, row) tidy.numbered found in cc)
    ]

-- and its client is that of the handle
of-client : (v : Volume) (client id : ℕ) (e : Pending) → CallsNamed v → is_among (handles_of_client v client) id ≡ true → asks_oplock_of v id e.call ≡ true → (e.call.client == client) ≡ true
of-client v client id e tidy among asks = elim (option_cases (find (λ (h : ℕ × Handle). h.0 == id) v.handles)) [
  | inl none ↦ absurd (let nothing = how_many-none (λ (h : ℕ × Handle). h.0 == id) v.handles (find-none (λ (h : ℕ × Handle). h.0 == id) v.handles none) in
      let weaker = how_many-weaker (λ (h : ℕ × Handle). h.1.client == client && id == h.0) (λ h. h.0 == id) v.handles (λ h both. eq-eqb h.0 id (sym (eqb-true id h.0 (and_right (h.1.client == client) (id == h.0) both)))) in
      let many = some in omega arith)
  | inr h ↦ of_row h.0.1 (rw h.1 refl)
]
  where
    some : 1 ≤ how_many (λ (h : ℕ × Handle). h.1.client == client && id == h.0) v.handles
    some =
        let kept = how_many-filter (λ (h : ℕ × Handle). id == h.0) (λ h. h.1.client == client) v.handles in
        let ordered = how_many-in_order (λ (h : ℕ × Handle). id == h.0) (λ a b. nat_lt a.1.number b.1.number) (filter (λ (h : ℕ × Handle). h.1.client == client) v.handles) in
        let many = how_many-some (λ (h : ℕ × Handle). id == h.0) (handles_of_client v client) among in omega arith

    of_row : (row : Handle) → row_of v.handles id ≡ Some row → (e.call.client == client) ≡ true
    of_row row found =
        let on : is_call_on row e ≡ true = on-handle v id row e tidy found asks in
        let by : e.call.client ≡ row.client = eqb-true e.call.client row.client (and_left (e.call.client == row.client) (names e.call.what row.number) on) in
        elim (cases_Bool (row.client == client)) [
          | inl own ↦ rw by own
          | inr other ↦ absurd (
              let none = how_many-none (λ (h : ℕ × Handle). h.0 == id && not (is_opened_by row.client row.number h.1)) v.handles (only-numbered v.handles v.last_handle (id, row) tidy.numbered found) in
              let weaker = how_many-weaker (λ (h : ℕ × Handle). h.1.client == client && id == h.0) (λ h. h.0 == id && not (is_opened_by row.client row.number h.1)) v.handles
              (λ h both. (let its : h.1.client ≡ client = eqb-true h.1.client client (and_left (h.1.client == client) (id == h.0) both) in
              let here : id ≡ h.0 = eqb-true id h.0 (and_right (h.1.client == client) (id == h.0) both) in
              let differs : (client == row.client) ≡ false = eqb-swap client row.client ∙ other in
              rw (← here, eq-eqb id id refl, its, differs) refl)) in
              let many = some in omega arith)
        ]

-- ---- a close, and a leaving

-- the oplocks of other handles stay
oplocks-stay : (handles : List (ℕ × Handle)) (v : Volume) (p : Oplock → Bool) → how_many (λ o. p o && not (is_among handles o.handle)) v.oplocks ≤ how_many p (with_all_closed handles v).oplocks
oplocks-stay [] v p = how_many-weaker (λ o. p o && true) p v.oplocks (λ o both. and_left (p o) true both)
oplocks-stay (entry ∷ handles) v p =
    let rest = oplocks-stay handles (with_closed v entry.0 entry.1) p in
    let left = ap (λ (oplocks : List Oplock). how_many (λ o. p o && not (is_among handles o.handle)) oplocks) (Closes.oplocks (closes v entry.0 entry.1)) in
    let kept = how_many-filter (λ o. p o && not (is_among handles o.handle)) (λ (o : Oplock). not (o.handle == entry.0)) v.oplocks in
    let weaker = how_many-weaker (λ o. p o && not (is_among (entry ∷ handles) o.handle)) (λ o. not (o.handle == entry.0) && (p o && not (is_among handles o.handle))) v.oplocks
    (λ o both. by (p o) (o.handle == entry.0) (is_among handles o.handle) both) in
    omega arith
  where
    by : (a b c : Bool) → (a && not (b || c)) ≡ true → (not b && (a && not c)) ≡ true
    by a false c is = is
    by true true c is = is
    by false true c is = is

-- what a close leaves
pub close-backed : (v : Volume) (client handle : ℕ) → TurnsDiffer v → GrantsPend v → NoBrokenGrant v.oplocks → CallsNamed v → AreBacked v → AreBacked (volume_after (try_close v client handle))
unfolding try_close close_at
close-backed v client handle turns pend none tidy backed = elim (option_cases (handle_of v client handle)) [
  | inl missing ↦ rw missing backed
  | inr id ↦ rw id.1 (elim (option_cases (row_of v.handles id.0)) [
    | inl missing ↦ rw missing backed
    | inr row ↦ rw row.1 (gone-backed v (with_closed v id.0 row.0) (is_among ((id.0, row.0) ∷ [])) (is_call_on row.0) turns pend none
        (λ test. (Keeps-all_closed ((id.0, row.0) ∷ []) v).kept.keeps.pending test) (closed-gone v id.0 row.0) (λ turn. oplocks-stay ((id.0, row.0) ∷ []) v (is_granted_under turn))
        (λ other e is asks. (let here : other ≡ id.0 = eqb-true other id.0 (sym (or-false (other == id.0)) ∙ is) in on-handle v id.0 row.0 e tidy row.1 (rw here at asks))) backed)
  ])
]

-- what a leaving leaves
pub leave-backed : (v : Volume) (client : ℕ) → TurnsDiffer v → GrantsPend v → NoBrokenGrant v.oplocks → CallsNamed v → AreBacked v → AreBacked (volume_after (try_leave v client))
unfolding try_leave with_client_gone
leave-backed v client turns pend none tidy backed =
    gone-backed v (with_client_gone v client) (is_among (handles_of_client v client)) (λ e. e.call.client == client) turns pend none fewer (leave-gone v client tidy.named) stay (λ id e is asks. of-client v client id e tidy is asks) backed
  where
    ended : Volume
    ended = with_calls_ended (λ _. Cancelled) (pending_by_turn (is_left_behind client) v) v

    fewer : (test : ℕ × Pending → Bool) → how_many test (with_client_gone v client).pending ≤ how_many test v.pending
    fewer test = (let first = fewer-calls_ended (λ _. Cancelled) (pending_by_turn (is_left_behind client) v) v test in let rest = (Keeps-all_closed (handles_of_client v client) ended).kept.keeps.pending test in omega arith)

    stay : (turn : ℕ) → how_many (λ o. is_granted_under turn o && not (is_among (handles_of_client v client) o.handle)) v.oplocks ≤ how_many (is_granted_under turn) (with_client_gone v client).oplocks
    stay turn =
        let left = oplocks-stay (handles_of_client v client) ended (is_granted_under turn) in
        let same = ap (λ (oplocks : List Oplock). how_many (λ o. is_granted_under turn o && not (is_among (handles_of_client v client) o.handle)) oplocks) (SameBlockers.oplocks (blockers-calls_ended (λ _. Cancelled) (pending_by_turn (is_left_behind client) v) v)) in
        omega arith
