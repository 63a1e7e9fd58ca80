-- What each call ends of breaks and locks, exactly: the holder's own acknowledgement, unlock, close or leaving what it names,
-- and any other call nothing. So held calls are taken up only in the turn of such a call, which ended something that they
-- waited for.
use Rattle.std.proofs.Common.{◌≡◌, ℕ, zero, suc, ◌+◌, ◌≤◌, length, subst, Option, Bool, true, false, cond, not, List, [], ◌∷◌, ◌++◌, refl, ap, sym, ◌∙◌, arith, eq-eqb, inl, inr, Some, None}
use Rattle.std.specs.List.{filter, find, list_any}
use Rattle.std.specs.Option.{option_map_or}
use Rattle.std.specs.Prelude.{◌==◌, ◌&&◌, ◌||◌, is_some, nat_lt}
use Rattle.std.proofs.lemmas.Bool.{cases_Bool, eqb-true, not-true}
use Rattle.fsa_types.specs.OplockGrants.{as_answered}
use Rattle.fsa_types.specs.Oplocks.{has_read, in_both}
use Rattle.fsa_types.specs.Rows.{lives, row_of}
use Rattle.fsa_types.specs.declared.reply.Blocker.{Blocker}
use Rattle.fsa_types.specs.declared.reply.Blocker.TheVariants as blocker
use Rattle.fsa_types.specs.declared.request.Call.{Call}
use Rattle.fsa_types.specs.declared.request.Level.{Level}
use Rattle.fsa_types.specs.declared.request.Request.TheVariants.{Ack, Close, Unlock}
use Rattle.fsa_types.specs.declared.request.What.{What}
use Rattle.fsa_types.specs.declared.request.What.TheVariants.{Ask, Leave}
use Rattle.fsa_types.specs.declared.status.Status.TheVariants.{Cancelled}
use Rattle.fsa_model.specs.Close.{close_at, handles_of_client, is_left_behind, pending_by_turn, try_close, try_leave, with_all_closed, with_calls_ended, with_client_gone, with_closed}
use Rattle.fsa_model.specs.Edits.{is_lock_on, with_left}
use Rattle.fsa_model.specs.Engine.{CallsDiffer, TakesReleased, is_released, own_tried}
use Rattle.fsa_model.specs.Grant.{ack_at, ack_keeping, target_of, try_ack}
use Rattle.fsa_model.specs.History.{HistoryEntry, Run, run}
use Rattle.fsa_model.specs.Locking.{try_unlock, unlock_at, unlock_by, unlock_range}
use Rattle.fsa_model.specs.Lookups.{handle_of, has_left, is_opened_by}
use Rattle.fsa_model.specs.Once.{how_many, times}
use Rattle.fsa_model.specs.Outcome.{Outcome, Done, Stay, Hold}
use Rattle.fsa_model.specs.Reports.{settling_after}
use Rattle.fsa_model.specs.Settle.{Settling, repeated, settle_step, starves, taken_up, taken_up_all}
use Rattle.fsa_model.specs.Settling.{HasGiven, HasOneBreakEach, HasOneOplockEach, MaySettle, MayTurn, is_given, may_be_held}
use Rattle.fsa_model.specs.Setup.{Setup}
use Rattle.fsa_model.specs.Try.{try, try_what}
use Rattle.fsa_model.specs.Turn.{settlement, turn_number, volume_after}
use Rattle.fsa_model.specs.Volume.{Handle, Lock, Oplock, Pending, Volume}
use Rattle.fsa_model.specs.Waiting.{blocker_lives, is_blocked, is_breaking, is_held}
use Rattle.fsa_model.proofs.CoherenceLaws.{any-in_order}
use Rattle.fsa_model.proofs.CountLaws.{and_left, and_right, only-one}
use Rattle.fsa_model.proofs.EngineLaws.{new-before, run-before, run-released}
use Rattle.fsa_model.proofs.OnceLaws.{SameBlockers, blockers-calls_ended}
use Rattle.fsa_model.proofs.RowLaws.{any-map, any-same, any-weaker, find-any, find-none, option_cases, eqb-swap}
use Rattle.fsa_model.proofs.ReportLaws.{repeated-keeps}
use Rattle.fsa_model.proofs.SettleLaws.{IsNext, next-may_be_held, repeated-none, taken_up_all-done, try-tries}
use Rattle.fsa_model.proofs.TryLaws.{Leaves, Tries, TriesTo}
use Rattle.fsa_model.proofs.TurnLaws.{Adds-answered, TriedTo, try-keeps}
use Rattle.fsa_model.proofs.WaitLaws.{find-passes, is_of, some_item}
use Rattle.history_laws.specs.Releasing.{EndsWhatItHolds, HoldersRelease, OthersReleaseNone, ReleasesNone, ends, ends_held, holds, is_ended_by, is_first_lock, is_held_by, is_open_of, may_release, waits_for_ended}
use Rattle.history_laws.proofs.BrokenGrants.{AreNumbered, Closes, IsTidy, IsTidy-same, TriesApart, apart-try, closes, own-tidy, run-tidy}
use Rattle.history_laws.proofs.AnyLaws.{and_none, and_true, any-filter_and, any-never, any-where}
use Rattle.history_laws.proofs.HoldersStay.{stays-held}
use Rattle.history_laws.proofs.TurnBlockers.{blockers-answered, blockers-come, blockers-stalled, blockers-tried}
use Rattle.history_laws.proofs.TurnByTurn.{differ-before, differ-front, own-may, settled-keeps, steps-keep}

-- ---- what is left of a list

no_both : {b : Bool} → b ≡ true → b ≡ false → ⊥
no_both is isnt = cc

any-fixed : {X : Type 0} (p : X → Bool) (c : Bool) (xs : List X) → list_any (λ x. p x && c) xs ≡ (list_any p xs && c)
any-fixed p c [] = refl
any-fixed p c (x ∷ xs) = ap (λ rest. (p x && c) || rest) (any-fixed p c xs) ∙ by (p x) c (list_any p xs)
  where
    by : (a c d : Bool) → ((a && c) || (d && c)) ≡ ((a || d) && c)
    by true true d = refl
    by true false true = refl
    by true false false = refl
    by false c d = refl

-- nothing with that number is left: what has another is, and all that
without-number : {X : Type 0} (p : X → Bool) (number : X → ℕ) (n gone : ℕ) (xs : List X) → ((x : X) → p x ≡ true → (number x == n) ≡ true)
    → list_any p (filter (λ x. not (number x == gone)) xs) ≡ (list_any p xs && not (gone == n))
without-number p number n gone xs numbered =
    any-filter_and p (λ x. not (number x == gone)) xs
    ∙ any-same (λ x. p x && not (number x == gone)) (λ x. p x && not (gone == n)) xs (λ x. elim (cases_Bool (p x)) [
      | inr fails ↦ rw fails refl
      | inl passes ↦ (let same : number x ≡ n = eqb-true (number x) n (numbered x passes) in rw same (rw (eqb-swap n gone) refl))
    ])
    ∙ any-fixed p (not (gone == n)) xs

-- the handle of a break or a lock that a handle holds
of_handle : (n id : ℕ) (o : Oplock) → (is_breaking n o && o.handle == id) ≡ true → (o.handle == id) ≡ true
of_handle n id o both = and_right (is_breaking n o) (o.handle == id) both

lock_of_handle : (n id : ℕ) (entry : ℕ × Lock) → (entry.0 == n && entry.1.handle == id) ≡ true → (entry.1.handle == id) ≡ true
lock_of_handle n id entry both = and_right (entry.0 == n) (entry.1.handle == id) both

-- what the client asks leaves each handle just those of its breaks and locks that it doesn't end
abbrev LeavesUnended : Volume → ℕ → What → Volume → Type 0
LeavesUnended v client what w = (id : ℕ) (b : Blocker) → holds w id b ≡ (holds v id b && not (ends_held v client what id b))

-- ---- an acknowledgement

-- the handle whose oplock has no break in progress holds none
none-breaking : (v : Volume) (own n id : ℕ) → HasOneOplockEach v → target_of v own ≡ None → holds v id (blocker.Break n) ≡ (holds v id (blocker.Break n) && not (own == id))
none-breaking v own n id one none = elim (cases_Bool (own == id)) [
  | inr other ↦ rw other (and_true (holds v id (blocker.Break n)))
  | inl same ↦ (let is : own ≡ id = eqb-true own id same in rw same (nothing (rw is at none) ∙ sym (and_none (holds v id (blocker.Break n)) false refl)))
]
  where
    nothing : target_of v id ≡ None → holds v id (blocker.Break n) ≡ false
    nothing none = elim (cases_Bool (holds v id (blocker.Break n))) [
      | inr isnt ↦ isnt
      | inl is ↦ absurd (
          let some : list_any (λ o. is_of id o && is_some o.target) v.oplocks ≡ true = any-weaker (λ o. is_breaking n o && o.handle == id) (λ o. is_of id o && is_some o.target) v.oplocks
          (λ o both. rw (of_handle n id o both, and_left (is_some o.target) (o.number == n) (and_left (is_breaking n o) (o.handle == id) both)) refl) is in
          let others : list_any (λ o. is_of id o && not (is_some o.target)) v.oplocks ≡ false = only-one (is_of id) (λ o. is_some o.target) v.oplocks (one id) some in
          elim (option_cases (find (λ (o : Oplock). o.handle == id) v.oplocks)) [
            | inl missing ↦ (let no = find-none (λ (o : Oplock). o.handle == id) v.oplocks missing in
                let there = any-weaker (λ o. is_of id o && is_some o.target) (is_of id) v.oplocks (λ o both. and_left (is_of id o) (is_some o.target) both) some in
                let impossible : true ≡ false = sym there ∙ no in cc)
            | inr found ↦ (let of_it : is_of id found.0 ≡ true = find-passes (λ (o : Oplock). o.handle == id) v.oplocks found.0 found.1 in
                let target : found.0.target ≡ None = rw found.1 at none in
                let there = find-any (λ (o : Oplock). o.handle == id) (λ o. is_of id o && not (is_some o.target)) v.oplocks found.0 found.1 (rw (of_it, target) refl) in
                let impossible : true ≡ false = sym there ∙ others in cc)
          ])
    ]

keeping-break : (v : Volume) (own : ℕ) (level : Level) (turn n id : ℕ) → holds (volume_after (ack_keeping v own level turn)) id (blocker.Break n) ≡ (holds v id (blocker.Break n) && not (own == id))
unfolding ack_keeping
keeping-break v own level turn n id = elim (cases_Bool (has_read level)) [
  | inl reads ↦ rw reads (any-map (λ o. is_breaking n o && o.handle == id) (as_answered own level turn) v.oplocks
      ∙ any-same (λ o. is_breaking n (as_answered own level turn o) && (as_answered own level turn o).handle == id) (λ o. (is_breaking n o && o.handle == id) && not (own == id)) v.oplocks answered
      ∙ any-fixed (λ o. is_breaking n o && o.handle == id) (not (own == id)) v.oplocks)
  | inr nothing ↦ rw nothing (without-number (λ o. is_breaking n o && o.handle == id) (λ (o : Oplock). o.handle) id own v.oplocks (of_handle n id))
]
  where
    answered : (o : Oplock) → (is_breaking n (as_answered own level turn o) && (as_answered own level turn o).handle == id) ≡ ((is_breaking n o && o.handle == id) && not (own == id))
    answered o = elim (cases_Bool (o.handle == own)) [
      | inl here ↦ (let same : o.handle ≡ own = eqb-true o.handle own here in rw here (rw same (neither (is_breaking n o) (own == id))))
      | inr other ↦ rw other (elim (cases_Bool (o.handle == id)) [
        | inr differs ↦ rw differs (gone (is_breaking n o) (not (own == id)))
        | inl of_it ↦ (let same : o.handle ≡ id = eqb-true o.handle id of_it in let apart : (own == id) ≡ false = eqb-swap own id ∙ (rw same at other) in rw (of_it, apart) (and_true (is_breaking n o && true)))
      ])
    ]
      where
        neither : (a b : Bool) → false ≡ ((a && b) && not b)
        neither true true = refl
        neither true false = refl
        neither false b = refl

        gone : (a b : Bool) → (a && false) ≡ ((a && false) && b)
        gone true b = refl
        gone false b = refl

keeping-locks : (v : Volume) (own : ℕ) (level : Level) (turn : ℕ) → (volume_after (ack_keeping v own level turn)).locks ≡ v.locks
unfolding ack_keeping
keeping-locks v own level turn = elim (cases_Bool (has_read level)) [ inl reads ↦ rw reads refl | inr nothing ↦ rw nothing refl ]

ends-ack : (v : Volume) (client handle : ℕ) (level : Level) (turn : ℕ) → HasOneOplockEach v → LeavesUnended v client (Ask (Ack handle level)) (volume_after (try_ack v client handle level turn))
unfolding try_ack ack_at
ends-ack v client handle level turn one id (blocker.Break n) = elim (option_cases (handle_of v client handle)) [
  | inl none ↦ rw none (and_true (holds v id (blocker.Break n)))
  | inr own ↦ rw own.1 (elim (option_cases (target_of v own.0)) [
    | inl none ↦ rw none (none-breaking v own.0 n id one none)
    | inr target ↦ rw target.1 (keeping-break v own.0 (in_both level target.0) turn n id)
  ])
]
ends-ack v client handle level turn one id (blocker.Lock n) = elim (option_cases (handle_of v client handle)) [
  | inl none ↦ rw none (and_true (holds v id (blocker.Lock n)))
  | inr own ↦ rw own.1 (elim (option_cases (target_of v own.0)) [
    | inl none ↦ rw none (and_true (holds v id (blocker.Lock n)))
    | inr target ↦ rw target.1 (rw (keeping-locks v own.0 (in_both level target.0) turn) (and_true (holds v id (blocker.Lock n))))
  ])
]

-- ---- an unlock

-- of the locks with a number those go that have the first one's
unlocked : (v : Volume) (own at count n id : ℕ) (row : Handle) → row_of v.handles own ≡ Some row → is_some row.stream ≡ true
    → holds (volume_after (unlock_range v own at count)) id (blocker.Lock n) ≡ (holds v id (blocker.Lock n) && not (is_first_lock v own at count n))
unfolding unlock_range
unlocked v own at count n id row found stream = elim (option_cases (find (λ (entry : ℕ × Lock). is_lock_on own at count entry.1) v.locks)) [
  | inl none ↦ rw (found, stream, none) (and_true (holds v id (blocker.Lock n)))
  | inr first ↦ rw (found, stream, first.1) (without-number (λ (entry : ℕ × Lock). entry.0 == n && entry.1.handle == id) (λ (entry : ℕ × Lock). entry.0) n first.0.0 v.locks
      (λ entry both. and_left (entry.0 == n) (entry.1.handle == id) both))
]

-- the first one's number is that of no other lock, so no other handle holds it
first-own : (v : Volume) (own at count n id : ℕ) → AreNumbered v.locks v.last_lock → (own == id) ≡ false → is_first_lock v own at count n ≡ true → holds v id (blocker.Lock n) ≡ false
first-own v own at count n id numbered other is = elim (option_cases (find (λ (entry : ℕ × Lock). is_lock_on own at count entry.1) v.locks)) [
  | inl none ↦ absurd (let never : (option_map_or (λ (row : Handle). is_some row.stream) (row_of v.handles own) false && false) ≡ true = rw none at is in no_both never (and_none (option_map_or (λ (row : Handle). is_some row.stream) (row_of v.handles own) false) false refl))
  | inr first ↦ elim (cases_Bool (holds v id (blocker.Lock n))) [
    | inr isnt ↦ isnt
    | inl held ↦ absurd (
        let number : (first.0.0 == n) ≡ true = and_right (option_map_or (λ (row : Handle). is_some row.stream) (row_of v.handles own) false) (first.0.0 == n) (rw first.1 at is) in
        let passes : is_lock_on own at count first.0.1 ≡ true = find-passes (λ (entry : ℕ × Lock). is_lock_on own at count entry.1) v.locks first.0 first.1 in
        let its : (first.0.1.handle == own) ≡ true = and_left (first.0.1.handle == own) (first.0.1.at == at) (and_left (first.0.1.handle == own && first.0.1.at == at) (first.0.1.count == count) passes) in
        let handle : first.0.1.handle ≡ own = eqb-true first.0.1.handle own its in
        let apart : (first.0.1.handle == id) ≡ false = rw handle other in
        let others : list_any (λ (entry : ℕ × Lock). entry.0 == n && not (entry.1.handle == id)) v.locks ≡ false
        = only-one (λ (entry : ℕ × Lock). entry.0 == n) (λ entry. entry.1.handle == id) v.locks (numbered.one n) held in
        let there = find-any (λ (entry : ℕ × Lock). is_lock_on own at count entry.1) (λ entry. entry.0 == n && not (entry.1.handle == id)) v.locks first.0 first.1 (rw (number, apart) refl) in
        no_both there others)
  ]
]

unlocked-own : (v : Volume) (own at count n id : ℕ) → AreNumbered v.locks v.last_lock → (holds v id (blocker.Lock n) && not (is_first_lock v own at count n)) ≡ (holds v id (blocker.Lock n) && not ((own == id) && is_first_lock v id at count n))
unlocked-own v own at count n id numbered = elim (cases_Bool (own == id)) [
  | inl same ↦ (let is : own ≡ id = eqb-true own id same in rw same (rw is refl))
  | inr other ↦ elim (cases_Bool (is_first_lock v own at count n)) [
    | inr isnt ↦ rw (isnt, other) refl
    | inl first ↦ (let none = first-own v own at count n id numbered other first in rw none refl)
  ]
]

unlocked-oplocks : (v : Volume) (own at count : ℕ) → (volume_after (unlock_range v own at count)).oplocks ≡ v.oplocks
unfolding unlock_range
unlocked-oplocks v own at count = elim (option_cases (find (λ (entry : ℕ × Lock). is_lock_on own at count entry.1) v.locks)) [ inl none ↦ rw none refl | inr first ↦ rw first.1 refl ]

ends-unlock : (v : Volume) (client handle at count : ℕ) → AreNumbered v.locks v.last_lock → LeavesUnended v client (Ask (Unlock handle at count)) (volume_after (try_unlock v client handle at count))
unfolding try_unlock unlock_at unlock_by
ends-unlock v client handle at count numbered id (blocker.Lock n) = elim (option_cases (handle_of v client handle)) [
  | inl none ↦ rw none (and_true (holds v id (blocker.Lock n)))
  | inr own ↦ rw own.1 (elim (option_cases (row_of v.handles own.0)) [
    | inl none ↦ rw none (and_true (holds v id (blocker.Lock n)) ∙ no_row own.0 (λ row found. (let impossible : None ≡ Some row = sym none ∙ found in cc)))
    | inr row ↦ elim (option_cases row.0.stream) [
      | inl directory ↦ rw (row.1, directory) (and_true (holds v id (blocker.Lock n)) ∙ no_row own.0 (λ other found. (let same : Some row.0 ≡ Some other = sym row.1 ∙ found in let is : row.0 ≡ other = cc in rw is at directory)))
      | inr stream ↦ (let gone = unlocked v own.0 at count n id row.0 row.1 (rw stream.1 refl) ∙ unlocked-own v own.0 at count n id numbered in rw (row.1, stream.1) gone)
    ]
  ])
]
  where
    no_row : (own : ℕ) → ((row : Handle) → row_of v.handles own ≡ Some row → row.stream ≡ None) → (holds v id (blocker.Lock n) && true) ≡ (holds v id (blocker.Lock n) && not ((own == id) && is_first_lock v id at count n))
    no_row own directory = elim (cases_Bool (own == id)) [
      | inr other ↦ rw other refl
      | inl same ↦ (let is : own ≡ id = eqb-true own id same in rw same (elim (option_cases (row_of v.handles id)) [
        | inl none ↦ rw none refl
        | inr row ↦ (let nothing : row.0.stream ≡ None = directory row.0 (rw is row.1) in rw (row.1, nothing) refl)
      ]))
    ]
ends-unlock v client handle at count numbered id (blocker.Break n) = elim (option_cases (handle_of v client handle)) [
  | inl none ↦ rw none (and_true (holds v id (blocker.Break n)))
  | inr own ↦ rw own.1 (elim (option_cases (row_of v.handles own.0)) [
    | inl none ↦ rw none (and_true (holds v id (blocker.Break n)))
    | inr row ↦ rw row.1 (elim (option_cases row.0.stream) [
      | inl directory ↦ rw directory (and_true (holds v id (blocker.Break n)))
      | inr stream ↦ rw stream.1 (rw (unlocked-oplocks v own.0 at count) (and_true (holds v id (blocker.Break n))))
    ])
  ])
]

-- ---- a close

closed-holds : (v : Volume) (own : ℕ) (handle : Handle) (id : ℕ) (b : Blocker) → holds (with_closed v own handle) id b ≡ (holds v id b && not (own == id))
closed-holds v own handle id (blocker.Break n) =
    rw (Closes.oplocks (closes v own handle)) (without-number (λ o. is_breaking n o && o.handle == id) (λ (o : Oplock). o.handle) id own v.oplocks (of_handle n id))
closed-holds v own handle id (blocker.Lock n) =
    rw (Closes.locks (closes v own handle)) (without-number (λ (entry : ℕ × Lock). entry.0 == n && entry.1.handle == id) (λ (entry : ℕ × Lock). entry.1.handle) id own v.locks (lock_of_handle n id))

-- what a client's number names is there
named-there : (v : Volume) (client handle id : ℕ) → handle_of v client handle ≡ Some id → row_of v.handles id ≡ None → ⊥
named-there v client handle id named none = elim (option_cases (find (λ (entry : ℕ × Handle). is_opened_by client handle entry.1) v.handles)) [
  | inl missing ↦ (let impossible : None ≡ Some id = rw missing at named in cc)
  | inr found ↦ (let is : Some found.0.0 ≡ Some id = rw found.1 at named in let same : found.0.0 ≡ id = cc in
      let there = find-any (λ (entry : ℕ × Handle). is_opened_by client handle entry.1) (λ entry. entry.0 == id) v.handles found.0 found.1 (eq-eqb found.0.0 id same) in
      elim (option_cases (find (λ (entry : ℕ × Handle). entry.0 == id) v.handles)) [
        | inl nothing ↦ (let no = find-none (λ (entry : ℕ × Handle). entry.0 == id) v.handles nothing in let impossible : true ≡ false = sym there ∙ no in cc)
        | inr some ↦ (let impossible : Some some.0.1 ≡ None = rw some.1 at none in cc)
      ])
]

ends-close : (v : Volume) (client handle : ℕ) → LeavesUnended v client (Ask (Close handle)) (volume_after (try_close v client handle))
unfolding try_close close_at
ends-close v client handle id b = elim (option_cases (handle_of v client handle)) [
  | inl none ↦ rw none (and_true (holds v id b))
  | inr own ↦ rw own.1 (elim (option_cases (row_of v.handles own.0)) [ inl none ↦ absurd (named-there v client handle own.0 own.1 none) | inr row ↦ rw row.1 (closed-holds v own.0 row.0 id b) ])
]

-- ---- a leaving

all_closed-holds : (handles : List (ℕ × Handle)) (v : Volume) (id : ℕ) (b : Blocker) → holds (with_all_closed handles v) id b ≡ (holds v id b && not (list_any (λ entry. entry.0 == id) handles))
all_closed-holds [] v id b = and_true (holds v id b)
all_closed-holds (entry ∷ handles) v id b =
    all_closed-holds handles (with_closed v entry.0 entry.1) id b
    ∙ rw (closed-holds v entry.0 entry.1 id b) (both (holds v id b) (entry.0 == id) (list_any (λ e. e.0 == id) handles))
  where
    both : (a b c : Bool) → ((a && not b) && not c) ≡ (a && not (b || c))
    both true true c = refl
    both true false c = refl
    both false b c = refl

-- the handles that a leaving closes are the client's
closed_of : (v : Volume) (client id : ℕ) → list_any (λ entry. entry.0 == id) (handles_of_client v client) ≡ is_open_of v client id
closed_of v client id =
    any-in_order (λ (entry : ℕ × Handle). entry.0 == id) (λ a b. nat_lt a.1.number b.1.number) (filter (λ (entry : ℕ × Handle). entry.1.client == client) v.handles)
    ∙ any-filter_and (λ (entry : ℕ × Handle). entry.0 == id) (λ entry. entry.1.client == client) v.handles

holds-same : {v w : Volume} → SameBlockers v w → (id : ℕ) (b : Blocker) → holds w id b ≡ holds v id b
holds-same same id (blocker.Break n) = rw same.oplocks refl
holds-same same id (blocker.Lock n) = rw same.locks refl

-- who has left is no break and no lock
left-holds : (v : Volume) (client id : ℕ) (b : Blocker) → holds (with_left v client) id b ≡ holds v id b
left-holds v client id (blocker.Break n) = refl
left-holds v client id (blocker.Lock n) = refl

ends-leave : (v : Volume) (client : ℕ) → LeavesUnended v client Leave (volume_after (try_leave v client))
unfolding try_leave with_client_gone
ends-leave v client id b =
    let ended : Volume = with_calls_ended (λ _. Cancelled) (pending_by_turn (is_left_behind client) v) v in
    left-holds (with_all_closed (handles_of_client v client) ended) client id b
    ∙ all_closed-holds (handles_of_client v client) ended id b
    ∙ rw (holds-same (blockers-calls_ended (λ _. Cancelled) (pending_by_turn (is_left_behind client) v) v) id b, closed_of v client id) refl

-- ---- any call

-- a call of another kind ends none
ends_none : (v : Volume) (client : ℕ) (what : What) (id : ℕ) (b : Blocker) → may_release what ≡ false → ends_held v client what id b ≡ false
ends_none v client (Ask (Ack handle level)) id b other = absurd (let impossible : true ≡ false = other in cc)
ends_none v client (Ask (Unlock handle at count)) id b other = absurd (let impossible : true ≡ false = other in cc)
ends_none v client (Ask (Close handle)) id b other = absurd (let impossible : true ≡ false = other in cc)
ends_none v client Leave id b other = absurd (let impossible : true ≡ false = other in cc)
ends_none v client (Ask _) id b other = refl
ends_none v client _ id b other = refl

ends-own : (v : Volume) (turn client number : ℕ) (what : What) → HasOneOplockEach v → IsTidy v → may_release what ≡ true → LeavesUnended v client what (volume_after (try_what v turn client number what))
ends-own v turn client number (Ask (Ack handle level)) one tidy may = ends-ack v client handle level turn one
ends-own v turn client number (Ask (Unlock handle at count)) one tidy may = ends-unlock v client handle at count tidy.locks
ends-own v turn client number (Ask (Close handle)) one tidy may = ends-close v client handle
ends-own v turn client number Leave one tidy may = ends-leave v client
ends-own v turn client number _ one tidy may = absurd (let impossible : false ≡ true = may in cc)

ends-try : (v : Volume) (call : Call) (turn : ℕ) → HasOneOplockEach v → HasOneBreakEach v → IsTidy v → (id : ℕ) (b : Blocker) → is_given v b ≡ true
    → holds (volume_after (try v call turn)) id b ≡ (holds v id b && not (ends v call id b))
ends-try v call turn one ones tidy id b had = elim (cases_Bool (may_release call.what)) [
  | inr other ↦ stays-held v call turn one ones tidy.none other id b had
      ∙ rw (and_none (not (has_left v call.client)) _ (ends_none v call.client call.what id b other)) (and_true (holds v id b))
  | inl may ↦ elim (cases_Bool (has_left v call.client)) [
    | inl gone ↦ rw gone (and_true (holds v id b))
    | inr here ↦ rw here (ends-own v turn call.client call.number call.what one tidy may id b)
  ]
]

-- ---- who holds what lives

held-lives : (v : Volume) (id : ℕ) (b : Blocker) → holds v id b ≡ true → blocker_lives v b ≡ true
held-lives v id (blocker.Break n) is = any-weaker (λ o. is_breaking n o && o.handle == id) (is_breaking n) v.oplocks (λ o both. and_left (is_breaking n o) (o.handle == id) both) is
held-lives v id (blocker.Lock n) is = any-weaker (λ (entry : ℕ × Lock). entry.0 == n && entry.1.handle == id) (λ entry. entry.0 == n) v.locks (λ entry both. and_left (entry.0 == n) (entry.1.handle == id) both) is

lives-held : (v : Volume) (b : Blocker) → blocker_lives v b ≡ true → (id : ℕ) × (holds v id b ≡ true)
lives-held v (blocker.Break n) lives =
    let some = some_item (is_breaking n) v.oplocks lives in
    (some.item.handle, some.is_there (λ o. is_breaking n o && o.handle == some.item.handle) (rw (some.passes, eq-eqb some.item.handle some.item.handle refl) refl))
lives-held v (blocker.Lock n) lives =
    let some = some_item (λ (entry : ℕ × Lock). entry.0 == n) v.locks lives in
    (some.item.1.handle, some.is_there (λ entry. entry.0 == n && entry.1.handle == some.item.1.handle) (rw (some.passes, eq-eqb some.item.1.handle some.item.1.handle refl) refl))

-- by a handle that passes, and by none
held-by : (test : ℕ → Bool) (v : Volume) (id : ℕ) (b : Blocker) → holds v id b ≡ true → test id ≡ true → is_held_by test v b ≡ true
held-by test v id (blocker.Break n) is passes = any-weaker (λ o. is_breaking n o && o.handle == id) (λ o. is_breaking n o && test o.handle) v.oplocks
    (λ o both. (let same : o.handle ≡ id = eqb-true o.handle id (of_handle n id o both) in rw (and_left (is_breaking n o) (o.handle == id) both, same, passes) refl)) is
held-by test v id (blocker.Lock n) is passes = any-weaker (λ (entry : ℕ × Lock). entry.0 == n && entry.1.handle == id) (λ entry. entry.0 == n && test entry.1.handle) v.locks
    (λ entry both. (let same : entry.1.handle ≡ id = eqb-true entry.1.handle id (lock_of_handle n id entry both) in rw (and_left (entry.0 == n) (entry.1.handle == id) both, same, passes) refl)) is

held-none : (test : ℕ → Bool) (v : Volume) (b : Blocker) → ((id : ℕ) → test id ≡ false) → is_held_by test v b ≡ false
held-none test v (blocker.Break n) none = any-never (λ o. is_breaking n o && test o.handle) v.oplocks (λ o. and_none (is_breaking n o) (test o.handle) (none o.handle))
held-none test v (blocker.Lock n) none = any-never (λ (entry : ℕ × Lock). entry.0 == n && test entry.1.handle) v.locks (λ entry. and_none (entry.0 == n) (test entry.1.handle) (none entry.1.handle))

-- ---- a settlement

-- what lives was given a number, each break another, and no oplock with a break is granted to a call; and each handle holds
-- what it held in the first volume, and nothing else that was given a number there
record Settles (v w : Volume) : Type 0 where
  given : (b : Blocker) → is_given v b ≡ true → is_given w b ≡ true
  living : (b : Blocker) → blocker_lives w b ≡ true → is_given w b ≡ true
  ones : HasOneBreakEach w
  tidy : IsTidy w
  held : (id : ℕ) (b : Blocker) → is_given v b ≡ true → holds w id b ≡ holds v id b

lives-same : {v w : Volume} → SameBlockers v w → (b : Blocker) → blocker_lives w b ≡ blocker_lives v b
lives-same same (blocker.Break n) = rw same.oplocks refl
lives-same same (blocker.Lock n) = rw same.locks refl

given-same : {v w : Volume} → SameBlockers v w → (b : Blocker) → is_given w b ≡ is_given v b
given-same same (blocker.Break n) = rw same.last_break refl
given-same same (blocker.Lock n) = rw same.last_lock refl

Settles-same : {u v w : Volume} → SameBlockers v w → Settles u v → Settles u w
Settles-same same settles = record {
  given = λ b had. given-same same b ∙ settles.given b had;
  living = λ b lives. given-same same b ∙ settles.living b (sym (lives-same same b) ∙ lives);
  ones = λ number. rw same.oplocks (settles.ones number);
  tidy = IsTidy-same same settles.tidy;
  held = λ id b had. holds-same same id b ∙ settles.held id b had;
}

held-other : (what : What) → may_be_held what ≡ true → may_release what ≡ false
held-other (Ask (Ack handle level)) held = absurd (let impossible : false ≡ true = held in cc)
held-other (Ask (Unlock handle at count)) held = absurd (let impossible : false ≡ true = held in cc)
held-other (Ask (Close handle)) held = absurd (let impossible : false ≡ true = held in cc)
held-other Leave held = absurd (let impossible : false ≡ true = held in cc)
held-other (Ask _) held = refl
held-other _ held = refl

Settles-try : (u v : Volume) (call : Call) (turn : ℕ) → HasOneOplockEach v → may_be_held call.what ≡ true → Settles u v → Settles u (volume_after (try v call turn))
Settles-try u v call turn one held settles = record {
  given = λ b had. after.given b (settles.given b had);
  living = λ b lives. elim (after.new b lives) [ inl before ↦ after.given b (settles.living b before) | inr new ↦ new.1 ];
  ones = after.ones one settles.living settles.ones;
  tidy = TriesApart.so (apart-try v call turn one settles.tidy);
  held = λ id b had. stays-held v call turn one settles.ones settles.tidy.none (held-other call.what held) id b (settles.given b had) ∙ settles.held id b had;
}
  where
    after : Leaves v (volume_after (try v call turn))
    after = of_tries (try v call turn) (Tries.so (try-tries v call turn one held))
      where
        of_tries : (outcome : Outcome) → TriesTo Leaves v outcome → Leaves v (volume_after outcome)
        of_tries (Done w reply) tries = tries.0
        of_tries (Stay w interim) tries = absurd tries
        of_tries (Hold w blockers interim) tries = tries.0

Settles-taken_up : (u : Volume) (s : Settling) (entry : ℕ × Pending) → MaySettle s.volume → IsNext s.volume entry → Settles u s.volume → Settles u (taken_up s entry).volume
Settles-taken_up u s entry may next settles = elim (cases_Bool (is_held entry.1)) [
  | inr comes ↦ rw comes (Settles-same (blockers-come s entry.1 entry.1.call.what) settles)
  | inl held ↦ rw held (elim (cases_Bool (starves s.starved entry.1)) [
    | inl starving ↦ rw starving (Settles-same (record { oplocks = refl; locks = refl; last_break = refl; last_lock = refl }) settles)
    | inr plenty ↦ rw plenty (Settles-same (blockers-tried entry.0 entry.1 (try s.volume entry.1.call entry.0))
        (Settles-try u s.volume entry.1.call entry.0 may.oplocks (next-may_be_held s.volume entry may next held) settles))
  ])
]

-- steps from wherever the settlement has come to
Settles-steps : (most : ℕ) (u : Volume) (s : Settling) → MaySettle s.volume → Settles u s.volume → Settles u (repeated settle_step most s).volume
Settles-steps most u s may settles = steps-keep (Settles u) (Settles-taken_up u) most s may settles

repeated-sum : {S : Type 0} (step : S → Option S) (first more : ℕ) (s : S) → repeated step (more + first) s ≡ repeated step more (repeated step first s)
repeated-sum step zero more s = ap (λ (n : ℕ). repeated step n s) (let e : more + 0 ≡ more = omega arith in e)
repeated-sum step (suc first) more s =
    ap (λ (n : ℕ). repeated step n s) (let e : more + suc first ≡ suc (more + first) = omega arith in e)
    ∙ elim (option_cases (step s)) [
      | inl none ↦ rw none (sym (repeated-none step more s none))
      | inr some ↦ rw some.1 (repeated-sum step first more some.0)
    ]

-- from any step on the settlement comes to where it ends
pub repeated-last : {S : Type 0} (step : S → Option S) (most steps : ℕ) (s : S) → step (repeated step most s) ≡ None → repeated step most s ≡ repeated step most (repeated step steps s)
repeated-last step most steps s done =
    sym (repeated-none step steps (repeated step most s) done)
    ∙ sym (repeated-sum step most steps s)
    ∙ ap (λ (n : ℕ). repeated step n s) (let e : steps + most ≡ most + steps = omega arith in e)
    ∙ repeated-sum step steps most s

-- ---- a turn

-- a held call that is released waited for one that the call has ended
released-ended : (v : Volume) (call : Call) → ((b : Blocker) → blocker_lives v b ≡ true → blocker_lives (own_tried v call) b ≡ false → is_ended_by v call b ≡ true) → (turn : ℕ) (entry : ℕ × Pending)
    → is_released v (own_tried v call) turn entry ≡ true → (entry.0 == turn && waits_for_ended v call entry.1) ≡ true
released-ended v call ended_by turn entry is = rw (its, any-where (blocker_lives v) (blocker_lives (own_tried v call)) (is_ended_by v call) entry.1.blockers ended_by gone was) refl
  where
    before : (entry.0 == turn && is_held entry.1 && is_blocked (blocker_lives v) entry.1) ≡ true
    before = and_left (entry.0 == turn && is_held entry.1 && is_blocked (blocker_lives v) entry.1) (lives (own_tried v call).pending turn)
        (and_left (entry.0 == turn && is_held entry.1 && is_blocked (blocker_lives v) entry.1 && lives (own_tried v call).pending turn) (not (is_blocked (blocker_lives (own_tried v call)) entry.1)) is)

    its : (entry.0 == turn) ≡ true
    its = and_left (entry.0 == turn) (is_held entry.1) (and_left (entry.0 == turn && is_held entry.1) (is_blocked (blocker_lives v) entry.1) before)

    was : is_blocked (blocker_lives v) entry.1 ≡ true
    was = and_right (entry.0 == turn && is_held entry.1) (is_blocked (blocker_lives v) entry.1) before

    gone : is_blocked (blocker_lives (own_tried v call)) entry.1 ≡ false
    gone = not-true (is_blocked (blocker_lives (own_tried v call)) entry.1)
        (and_right (entry.0 == turn && is_held entry.1 && is_blocked (blocker_lives v) entry.1 && lives (own_tried v call).pending turn) (not (is_blocked (blocker_lives (own_tried v call)) entry.1)) is)

module _ (setup : Setup) (history front later : List HistoryEntry) (entry : HistoryEntry) (r : Run) (differ : CallsDiffer history) (is : history ≡ front ++ entry ∷ later) (runs : run setup front ≡ Some r) where
  differ_to : CallsDiffer (front ++ entry ∷ [])
  differ_to = differ-before history front later entry is differ

  differ_front : CallsDiffer front
  differ_front = differ-front front (entry ∷ []) differ_to

  takes : TakesReleased r.volume entry.call entry.starved
  takes = run-released setup front entry r differ_to runs

  may : MayTurn r.volume
  may = (run-before setup front entry r differ_to runs).may

  new : times entry.call.client entry.call.number r.volume ≡ 0
  new = new-before setup front entry r differ_to runs

  tidy : IsTidy r.volume
  tidy = run-tidy setup front r differ_front runs

  abbrev outcome : Outcome
  outcome = try r.volume entry.call (turn_number r.volume)

  same : SameBlockers (volume_after outcome) (own_tried r.volume entry.call)
  same = blockers-answered entry.call (turn_number r.volume) outcome

  tried : TriedTo r.volume (turn_number r.volume) entry.call.what outcome
  tried = try-keeps r.volume entry.call (turn_number r.volume) may.take_up.may.oplocks

  own_given : HasGiven (own_tried r.volume entry.call)
  own_given = (Adds-answered r.volume entry.call outcome may new tried).may.take_up.given

  given : (b : Blocker) → is_given r.volume b ≡ true → is_given (own_tried r.volume entry.call) b ≡ true
  given b had = given-same same b ∙ of_tried outcome tried b had
    where
      of_tried : (outcome : Outcome) → TriedTo r.volume (turn_number r.volume) entry.call.what outcome → (b : Blocker) → is_given r.volume b ≡ true → is_given (volume_after outcome) b ≡ true
      of_tried (Done w reply) tried b had = tried.0.given b had
      of_tried (Stay w interim) tried b had = tried.given b had
      of_tried (Hold w blockers interim) tried b had = tried.0.given b had

  ends_tried : (id : ℕ) (b : Blocker) → is_given r.volume b ≡ true → holds (own_tried r.volume entry.call) id b ≡ (holds r.volume id b && not (ends r.volume entry.call id b))
  ends_tried id b had = holds-same same id b ∙ ends-try r.volume entry.call (turn_number r.volume) may.take_up.may.oplocks may.take_up.given.ones tidy id b had

  own_settles : Settles (own_tried r.volume entry.call) (own_tried r.volume entry.call)
  own_settles = record {
    given = λ b had. had;
    living = own_given.living;
    ones = own_given.ones;
    tidy = own-tidy r.volume entry.call may.take_up.may.oplocks tidy;
    held = λ id b had. refl;
  }

  settles : Settles (own_tried r.volume entry.call) (settlement r.volume entry.call entry.starved).volume
  settles = settled-keeps (Settles (own_tried r.volume entry.call)) (Settles-taken_up (own_tried r.volume entry.call)) r.volume entry.call entry.starved (own-may r.volume entry.call may new)
      (Settles-same (blockers-stalled (taken_up_all (own_tried r.volume entry.call) entry.starved).volume))
      own_settles

  -- to any step of the settlement, and from there on
  so_far : (steps : ℕ) → Settles (own_tried r.volume entry.call) (settling_after r.volume entry.call entry.starved steps).volume
  so_far steps =
      Settles-steps steps (own_tried r.volume entry.call) (record { volume = own_tried r.volume entry.call; starved = entry.starved; taken = [] }) (own-may r.volume entry.call may new) own_settles

  goes_on : (steps : ℕ) → Settles (settling_after r.volume entry.call entry.starved steps).volume (settlement r.volume entry.call entry.starved).volume
  goes_on steps =
      let begun : Settling = record { volume = own_tried r.volume entry.call; starved = entry.starved; taken = [] } in
      let own_may : MaySettle (own_tried r.volume entry.call) = own-may r.volume entry.call may new in
      let done = taken_up_all-done (own_tried r.volume entry.call) entry.starved own_may in
      let came : Settles (own_tried r.volume entry.call) (settling_after r.volume entry.call entry.starved steps).volume = so_far steps in
      let rest : Settles (settling_after r.volume entry.call entry.starved steps).volume (repeated settle_step (length (own_tried r.volume entry.call).pending) (settling_after r.volume entry.call entry.starved steps)).volume
      = Settles-steps (length (own_tried r.volume entry.call).pending) (settling_after r.volume entry.call entry.starved steps).volume (settling_after r.volume entry.call entry.starved steps) (repeated-keeps steps begun own_may)
      (record { given = λ b had. had; living = came.living; ones = came.ones; tidy = came.tidy; held = λ id b had. refl }) in
      Settles-same (blockers-stalled (taken_up_all (own_tried r.volume entry.call) entry.starved).volume)
      (subst (λ (s : Settling). Settles (settling_after r.volume entry.call entry.starved steps).volume s.volume)
      (sym (repeated-last settle_step (length (own_tried r.volume entry.call).pending) steps begun (rw done.0 refl))) rest)

  ended_by : (b : Blocker) → blocker_lives r.volume b ≡ true → blocker_lives (own_tried r.volume entry.call) b ≡ false → is_ended_by r.volume entry.call b ≡ true
  ended_by b lived ended =
      let held = lives-held r.volume b lived in
      let equation = ends_tried held.0 b (may.take_up.given.living b lived) in
      held-by (λ id. ends r.volume entry.call id b) r.volume held.0 b held.1 (elim (cases_Bool (ends r.volume entry.call held.0 b)) [
        | inl ends_it ↦ ends_it
        | inr stays ↦ absurd (let still : holds (own_tried r.volume entry.call) held.0 b ≡ true = equation ∙ rw (held.1, stays) refl in no_both (held-lives (own_tried r.volume entry.call) held.0 b still) ended)
      ])

  some_released : {n : ℕ} (b : Bool) → n ≡ cond b 1 0 → 1 ≤ n → b ≡ true
  some_released true is some = refl
  some_released false is some = absurd (omega arith)

  turn-ends : EndsWhatItHolds r.volume entry.call entry.starved
  turn-ends = record {
    stays_given = λ b had. settles.given b (given b had);
    numbered = λ b lived. may.take_up.given.living b lived;
    numbered_on = λ steps b lives. Settles.living (so_far steps) b lives;
    tried = ends_tried;
    settled = λ id b had. settles.held id b (given b had) ∙ ends_tried id b had;
    goes_on = λ steps id b had. Settles.held (goes_on steps) id b had;
    taken = λ turn some. any-weaker (is_released r.volume (own_tried r.volume entry.call) turn) (λ e. e.0 == turn && waits_for_ended r.volume entry.call e.1) r.volume.pending
        (released-ended r.volume entry.call ended_by turn)
        (some_released (list_any (is_released r.volume (own_tried r.volume entry.call) turn) r.volume.pending) (takes.taken turn) some);
  }

  -- a call of another kind ends none
  turn-releases_none : may_release entry.call.what ≡ false → ReleasesNone r.volume entry.call entry.starved
  turn-releases_none other = record {
    live_on = λ b lived. (let held = lives-held r.volume b lived in
        held-lives (settlement r.volume entry.call entry.starved).volume held.0 b (turn-ends.settled held.0 b (may.take_up.given.living b lived) ∙ rw (held.1, ends_no held.0 b) refl));
    none_taken = empty (settlement r.volume entry.call entry.starved).taken (λ turn some.
        no_both (turn-ends.taken turn some) (any-never (λ (e : ℕ × Pending). e.0 == turn && waits_for_ended r.volume entry.call e.1) r.volume.pending (λ e. and_none (e.0 == turn) _
        (any-never (is_ended_by r.volume entry.call) e.1.blockers (λ b. held-none (λ id. ends r.volume entry.call id b) r.volume b (λ id. ends_no id b))))));
  }
    where
      ends_no : (id : ℕ) (b : Blocker) → ends r.volume entry.call id b ≡ false
      ends_no id b = and_none (not (has_left r.volume entry.call.client)) _ (ends_none r.volume entry.call.client entry.call.what id b other)

      empty : (turns : List ℕ) → ((turn : ℕ) → 1 ≤ how_many (λ t. t == turn) turns → ⊥) → turns ≡ []
      empty [] none = refl
      empty (turn ∷ turns) none = absurd (none turn (let self : (turn == turn) ≡ true = eq-eqb turn turn refl in rw self (omega arith)))

-- so it is in each turn of a run
pub holders-release : (setup : Setup) (history : List HistoryEntry) → CallsDiffer history → HoldersRelease setup history
holders-release setup history differ front later entry r is runs = turn-ends setup history front later entry r differ is runs

pub others-release_none : (setup : Setup) (history : List HistoryEntry) → CallsDiffer history → OthersReleaseNone setup history
others-release_none setup history differ front later entry r is runs other = turn-releases_none setup history front later entry r differ is runs other
