-- In each turn of a run each pending call that the turn's call calls off ends in the try of that, once, and with the status that
-- the turn's call gives it.
use Rattle.std.proofs.Common.{◌≡◌, ℕ, zero, suc, ◌+◌, ◌<◌, ◌≤◌, Bool, true, false, not, List, [], ◌∷◌, ◌++◌, length, get_or, refl, ap, sym, ◌∙◌, arith, inl, inr, Some}
use Rattle.std.specs.List.{All, filter, find, list_any}
use Rattle.std.specs.Prelude.{◌==◌, ◌&&◌, nat_lt}
use Rattle.std.proofs.lemmas.Bool.{cases_Bool, eqb-true}
use Rattle.std.proofs.lemmas.List.Elements.{All-cons, All-filter, All-head, All-push, All-tail}
use Rattle.std.proofs.lemmas.List.Folds.{list_any_at}
use Rattle.fsa_types.specs.Rows.{row_of}
use Rattle.fsa_types.specs.declared.reply.Body.TheVariants.{Nothing}
use Rattle.fsa_types.specs.declared.reply.EndOf.{EndOf}
use Rattle.fsa_types.specs.declared.reply.Reply.{Reply}
use Rattle.fsa_types.specs.declared.request.Call.{Call}
use Rattle.fsa_types.specs.declared.request.CallId.{CallId}
use Rattle.fsa_types.specs.declared.request.Request.TheVariants.{Ack, Cancel, Close, Notify, Oplock as OplockRequest}
use Rattle.fsa_types.specs.declared.request.What.{What}
use Rattle.fsa_types.specs.declared.request.What.TheVariants.{Ask, Leave}
use Rattle.fsa_types.specs.declared.status.Status.{Status}
use Rattle.fsa_types.specs.declared.status.Status.TheVariants.{Cancelled}
use Rattle.fsa_model.specs.Close.{close_at, closed_status, handles_of_client, is_call_on, is_left_behind, is_open_or_wait, names, pending_by_turn, try_close, try_leave, with_all_closed, with_calls_ended, with_client_gone, with_closed, with_mark_on_close}
use Rattle.fsa_model.specs.Edits.{is_call, with_end, without_handle}
use Rattle.fsa_model.specs.Engine.{CallsDiffer, own_tried}
use Rattle.fsa_model.specs.History.{HistoryEntry}
use Rattle.fsa_model.specs.Lookups.{handle_of, has_left, is_opened_by}
use Rattle.fsa_model.specs.Once.{how_many, is_end, times}
use Rattle.fsa_model.specs.Outcome.{Outcome, Done, Stay, Hold}
use Rattle.fsa_model.specs.Settle.{taken_up_all}
use Rattle.fsa_model.specs.Settling.{MayTurn}
use Rattle.fsa_model.specs.Setup.{Setup}
use Rattle.fsa_model.specs.Try.{try, try_what}
use Rattle.fsa_model.specs.Turn.{answered, settlement, turn_number, volume_after}
use Rattle.fsa_model.specs.Volume.{Handle, Pending, Volume}
use Rattle.fsa_model.specs.Waiting.{try_cancel, with_oplock_given_up}
use Rattle.fsa_model.proofs.CoherenceLaws.{All-in_order}
use Rattle.fsa_model.proofs.CountLaws.{and_left, and_right, how_many-filter_le, how_many-none, how_many-same, how_many-some, how_many-split, how_many-weaker, none-how_many, only-one}
use Rattle.fsa_model.proofs.EngineLaws.{new-before, run-before}
use Rattle.fsa_model.proofs.KeepLaws.{Untouched-mark_on_close, Untouched-swept}
use Rattle.fsa_model.proofs.OnceLaws.{is_call_of, is_same, is_same-equal, is_same-refl, pending-with_end}
use Rattle.fsa_model.proofs.RowLaws.{find-all, find-none, option_cases, row_of-here}
use Rattle.fsa_model.proofs.SettleLaws.{Steps, Steps-taken_up}
use Rattle.fsa_model.proofs.TryLaws.{Untouched, Untouched-next}
use Rattle.fsa_model.proofs.TurnLaws.{Adds, Adds-answered, stalled-kept, try-keeps}
use Rattle.fsa_model.proofs.WaitLaws.{All-kept, find-passes}
use Rattle.history_laws.specs.Holding.{CalledOffEnd, EndsWhatItCallsOff, asks_off, called_off_end, called_off_status, calls_off}
use Rattle.history_laws.proofs.AnyLaws.{any-never}
use Rattle.history_laws.proofs.LeavingLaws.{own_fewer}
use Rattle.history_laws.proofs.OpensStay.{EndsAtOnce, calling_off-ends, may_call_off}
use Rattle.history_laws.proofs.PendingNames.{CallsNamed, closed-gone, leave-gone, run-calls_named}
use Rattle.history_laws.proofs.TurnByTurn.{differ-before, differ-front, own-may, settled-keeps}

-- the call calls off this one, whatever that waits for
abbrev is_off : Volume → Call → Call → Bool
is_off v call other = calls_off v call (record { call = other; blockers = [] })

off-alone : (v : Volume) (client : ℕ) (what : What) (pending : Pending) → asks_off v client what pending ≡ asks_off v client what (record { call = pending.call; blockers = [] })
off-alone v client (Ask (Cancel number)) pending = refl
off-alone v client (Ask (Close handle)) pending = refl
off-alone v client (Ask _) pending = refl
off-alone v client Leave pending = refl
off-alone v client _ pending = refl

none-of_none : (entries : List (ℕ × Pending)) → how_many (λ e. false) entries ≡ 0
none-of_none entries = how_many-none (λ e. false) entries (any-never (λ e. false) entries (λ e. refl))

-- ---- each kind of call

cancel-gone : (v : Volume) (client number : ℕ) → how_many (λ e. is_call client number e.1) (volume_after (try_cancel v client number)).pending ≡ 0
unfolding try_cancel
cancel-gone v client number = elim (option_cases (find (is_call_of client number) v.pending)) [
  | inl none ↦ rw none (how_many-none (is_call_of client number) v.pending (find-none (is_call_of client number) v.pending none))
  | inr some ↦ rw some.1 (rw (is_same-refl client number) at (pending-with_end (with_oplock_given_up v some.0.0) client number client number (record { status = Cancelled; body = Nothing })))
]

close-gone : (v : Volume) (client handle : ℕ) → how_many (λ e. asks_off v client (Ask (Close handle)) e.1) (volume_after (try_close v client handle)).pending ≡ 0
unfolding try_close close_at
close-gone v client handle = elim (option_cases (handle_of v client handle)) [
  | inl none ↦ rw none (none-of_none v.pending)
  | inr id ↦ rw id.1 (elim (option_cases (row_of v.handles id.0)) [
    | inl none ↦ rw none (none-of_none v.pending)
    | inr row ↦ rw row.1 (closed-gone v id.0 row.0)
  ])
]

left-gone : (v : Volume) (client : ℕ) → CallsNamed v → how_many (λ e. e.1.call.client == client) (volume_after (try_leave v client)).pending ≡ 0
unfolding try_leave
left-gone v client tidy = leave-gone v client tidy.named

what-gone : (v : Volume) (turn client number : ℕ) (what : What) → CallsNamed v → how_many (λ e. asks_off v client what e.1) (volume_after (try_what v turn client number what)).pending ≡ 0
what-gone v turn client number (Ask (Cancel cancelled)) tidy = cancel-gone v client cancelled
what-gone v turn client number (Ask (Close handle)) tidy = close-gone v client handle
what-gone v turn client number Leave tidy = left-gone v client tidy
what-gone v turn client number (Ask asked) tidy = none-of_none _
what-gone v turn client number _ tidy = none-of_none _

-- what is called off is the client's own
off-own : (v : Volume) (client : ℕ) (what : What) (pending : Pending) → CallsNamed v → asks_off v client what pending ≡ true → (pending.call.client == client) ≡ true
off-own v client (Ask (Cancel number)) pending tidy is = and_left (pending.call.client == client) (pending.call.number == number) is
off-own v client (Ask (Close handle)) pending tidy is = elim (option_cases (find (λ (h : ℕ × Handle). is_opened_by client handle h.1) v.handles)) [
  | inl none ↦ (let impossible : false ≡ true = rw none at is in cc)
  | inr some ↦ (
      let row : row_of v.handles some.0.0 ≡ Some some.0.1 = find-all (λ (h : ℕ × Handle). row_of v.handles h.0 ≡ Some h.1) (λ (h : ℕ × Handle). is_opened_by client handle h.1) v.handles some.0 some.1
      (λ k d within. row_of-here v.handles v.last_handle k d tidy.numbered within) in
      let own : is_opened_by client handle some.0.1 ≡ true = find-passes (λ (h : ℕ × Handle). is_opened_by client handle h.1) v.handles some.0 some.1 in
      let by : some.0.1.client ≡ client = eqb-true some.0.1.client client (and_left (some.0.1.client == client) (some.0.1.number == handle) own) in
      let on : is_call_on some.0.1 pending ≡ true = rw (some.1, row) at is in
      rw (← by) (and_left (pending.call.client == some.0.1.client) (names pending.call.what some.0.1.number) on))
]
off-own v client Leave pending tidy is = is
off-own v client (Ask _) pending tidy is = cc
off-own v client _ pending tidy is = cc

-- ---- with which status it ends

-- a close gives each call the status that is said, and so does a leaving, also to opens and waits
closed-as_said : (handle : ℕ) (asked : What) → closed_status asked ≡ called_off_status (Ask (Close handle)) asked
closed-as_said handle (Ask (Notify watched filter tree room)) = refl
closed-as_said handle (Ask (OplockRequest granted level)) = refl
closed-as_said handle (Ask (Ack broken level)) = refl
closed-as_said handle (Ask _) = refl
closed-as_said handle _ = refl

left-as_said : (asked : What) → closed_status asked ≡ called_off_status Leave asked
left-as_said (Ask (Notify watched filter tree room)) = refl
left-as_said (Ask (OplockRequest granted level)) = refl
left-as_said (Ask (Ack broken level)) = refl
left-as_said (Ask _) = refl
left-as_said _ = refl

behind-as_said : (asked : What) → is_open_or_wait asked ≡ true → Cancelled ≡ called_off_status Leave asked
behind-as_said (Ask (Notify watched filter tree room)) is = cc
behind-as_said (Ask (OplockRequest granted level)) is = cc
behind-as_said (Ask (Ack broken level)) is = cc
behind-as_said (Ask _) is = refl
behind-as_said _ is = refl

-- a reply of this status alone
abbrev bare : Status → Reply
bare status = record { status = status; body = Nothing }

module _ (client number : ℕ) (asked : What) (status : Status) where
  -- where this is the client's call of that number it asks this
  abbrev Asks : ℕ × Pending → Type 0
  Asks e = is_call_of client number e ≡ true → e.1.call.what ≡ asked

  -- it ends with this status, where calls end with those of a table
  abbrev EndsBy : (What → Status) → ℕ × Pending → Type 0
  EndsBy status_of e = is_call_of client number e ≡ true → status_of e.1.call.what ≡ status

  -- it has ended with this status, and no body
  abbrev Ended : EndOf → Type 0
  Ended end = is_end client number end ≡ true → end.reply ≡ bare status

  -- so it is of all that is pending, and of all that has ended
  record EndsSo (v : Volume) : Type 0 where
    asks : All Asks v.pending
    ended : All Ended v.ended

  -- it stays so where another call ends, or this one with this status
  so-end : (v : Volume) (other_client other_number : ℕ) (reply : Reply) → (is_same other_client other_number client number ≡ true → reply ≡ bare status) → EndsSo v
      → EndsSo (with_end v other_client other_number reply)
  so-end v other_client other_number reply is so = record {
    asks = All-filter (λ (e : ℕ × Pending). not (is_call other_client other_number e.1)) Asks v.pending so.asks;
    ended = All-push Ended v.ended (record { client = other_client; number = other_number; reply = reply }) so.ended is;
  }

  so-calls : (status_of : What → Status) (calls : List (ℕ × Pending)) (v : Volume) → All (EndsBy status_of) calls → EndsSo v → EndsSo (with_calls_ended status_of calls v)
  so-calls status_of [] v by so = so
  so-calls status_of (entry ∷ calls) v by so =
      let reply : Reply = bare (status_of entry.1.call.what) in
      so-calls status_of calls (with_end v entry.1.call.client entry.1.call.number reply) (All-tail (EndsBy status_of) entry calls by)
      (so-end v entry.1.call.client entry.1.call.number reply (λ its. ap bare (All-head (EndsBy status_of) entry calls by its)) so)

  -- and where all pending calls end that pass a test, this one with this status if it passes
  so-by_turn : (status_of : What → Status) (test : Pending → Bool) (v : Volume) → ((p : Pending) → test p ≡ true → p.call.what ≡ asked → status_of asked ≡ status) → EndsSo v
      → EndsSo (with_calls_ended status_of (pending_by_turn test v) v)
  so-by_turn status_of test v is so =
      so-calls status_of (pending_by_turn test v) v
      (All-in_order (EndsBy status_of) (λ a b. nat_lt a.0 b.0) (filter (λ (e : ℕ × Pending). test e.1) v.pending) (All-kept (EndsBy status_of) (λ e. test e.1) v.pending
      (λ k d within passes its. (let what = so.asks k d within its in ap status_of what ∙ is (get_or v.pending k d).1 passes what)))) so

  -- and where handles close, which give it this status
  so-closed : (v : Volume) (id : ℕ) (handle : Handle) → closed_status asked ≡ status → EndsSo v → EndsSo (with_closed v id handle)
  unfolding with_closed
  so-closed v id handle is so =
      let over : Volume = with_calls_ended closed_status (pending_by_turn (is_call_on handle) v) v in
      let gone : Volume = without_handle over id in
      let same : Untouched gone (with_closed v id handle) = Untouched-next (Untouched-mark_on_close gone handle) (Untouched-swept (with_mark_on_close gone handle) handle) in
      let ends : EndsSo over = so-by_turn closed_status (is_call_on handle) v (λ p on what. is) so in
      record { asks = rw same.pending ends.asks; ended = rw same.ended ends.ended }

  so-all_closed : (handles : List (ℕ × Handle)) (v : Volume) → closed_status asked ≡ status → EndsSo v → EndsSo (with_all_closed handles v)
  so-all_closed [] v is so = so
  so-all_closed (entry ∷ handles) v is so = so-all_closed handles (with_closed v entry.0 entry.1) is (so-closed v entry.0 entry.1 is so)

  -- and in a cancellation, a close or a leaving, which give it this status
  so-cancel : (v : Volume) (by cancelled : ℕ) → Cancelled ≡ status → EndsSo v → EndsSo (volume_after (try_cancel v by cancelled))
  unfolding try_cancel
  so-cancel v by cancelled is so = elim (option_cases (find (is_call_of by cancelled) v.pending)) [
    | inl none ↦ rw none so
    | inr some ↦ rw some.1 (so-end (with_oplock_given_up v some.0.0) by cancelled (bare Cancelled) (λ its. ap bare is) (record { asks = so.asks; ended = so.ended }))
  ]

  so-close : (v : Volume) (by handle : ℕ) → closed_status asked ≡ status → EndsSo v → EndsSo (volume_after (try_close v by handle))
  unfolding try_close close_at
  so-close v by handle is so = elim (option_cases (handle_of v by handle)) [
    | inl none ↦ rw none so
    | inr id ↦ rw id.1 (elim (option_cases (row_of v.handles id.0)) [
      | inl none ↦ rw none so
      | inr row ↦ rw row.1 (so-closed v id.0 row.0 is so)
    ])
  ]

  so-leave : (v : Volume) (by : ℕ) → closed_status asked ≡ status → (is_open_or_wait asked ≡ true → Cancelled ≡ status) → EndsSo v → EndsSo (volume_after (try_leave v by))
  unfolding try_leave with_client_gone
  so-leave v by is behind so =
      let over : Volume = with_calls_ended (λ _. Cancelled) (pending_by_turn (is_left_behind by) v) v in
      let ends : EndsSo over = so-by_turn (λ _. Cancelled) (is_left_behind by) v
      (λ p passes what. behind (rw (← what) (and_right (p.call.client == by) (is_open_or_wait p.call.what) passes))) so in
      let closed : EndsSo (with_all_closed (handles_of_client v by) over) = so-all_closed (handles_of_client v by) over is ends in
      record { asks = closed.asks; ended = closed.ended }

-- and in the try of what calls off, where it ends as is said
so-what : (v : Volume) (turn by made : ℕ) (what : What) (client number : ℕ) (asked : What) → may_call_off what ≡ true → EndsSo client number asked (called_off_status what asked) v
    → EndsSo client number asked (called_off_status what asked) (volume_after (try_what v turn by made what))
so-what v turn by made (Ask (Cancel cancelled)) client number asked may so = so-cancel client number asked Cancelled v by cancelled refl so
so-what v turn by made (Ask (Close handle)) client number asked may so = so-close client number asked (called_off_status (Ask (Close handle)) asked) v by handle (closed-as_said handle asked) so
so-what v turn by made Leave client number asked may so = so-leave client number asked (called_off_status Leave asked) v by (left-as_said asked) (behind-as_said asked) so
so-what v turn by made (Ask _) client number asked may so = absurd (let impossible : false ≡ true = may in cc)
so-what v turn by made _ client number asked may so = absurd (let impossible : false ≡ true = may in cc)

-- the end of the turn's own call is another
so-answered : (client number : ℕ) (asked : What) (status : Status) (call : Call) (turn : ℕ) (outcome : Outcome) → EndsAtOnce outcome → is_same call.client call.number client number ≡ false
    → EndsSo client number asked status (volume_after outcome) → EndsSo client number asked status (answered call turn outcome)
so-answered client number asked status call turn (Done w reply) ends other so =
    so-end client number asked status w call.client call.number reply (λ is. absurd (let impossible : true ≡ false = sym is ∙ other in cc)) so
so-answered client number asked status call turn (Stay w interim) ends other so = absurd ends
so-answered client number asked status call turn (Hold w blockers interim) ends other so = absurd ends

-- ---- where one item passes a test

-- where one item at most passes a test, and this one does, it is each that passes
only-at : {X : Type 0} (p : X → Bool) (xs : List X) (k : ℕ) (d : X) → k < length xs → p (get_or xs k d) ≡ true → how_many p xs ≤ 1 → All (λ x. p x ≡ true → x ≡ get_or xs k d) xs
only-at p [] k d within passes one = absurd (omega arith)
only-at p (x ∷ xs) zero d within passes one = All-cons (λ y. p y ≡ true → y ≡ x) x xs (λ too. refl)
    (λ j e inside too. absurd (let some = how_many-some p xs (list_any_at p xs j e inside too) in let two : 1 + how_many p xs ≤ 1 = rw passes at one in omega arith))
only-at p (x ∷ xs) (suc k) d within passes one =
    let inside : k < length xs = omega arith in
    let some = how_many-some p xs (list_any_at p xs k d inside passes) in
    elim (cases_Bool (p x)) [
      | inl too ↦ absurd (let two : 1 + how_many p xs ≤ 1 = rw too at one in omega arith)
      | inr fails ↦ (let rest : 0 + how_many p xs ≤ 1 = rw fails at one in
          All-cons (λ y. p y ≡ true → y ≡ get_or xs k d) x xs (λ too. absurd (let impossible : true ≡ false = sym too ∙ fails in cc)) (only-at p xs k d inside passes (omega arith)))
    ]

-- a filter keeps nothing where none passes; and where one does, and each that passes is this one, just this one
filter-none : {X : Type 0} (p : X → Bool) (xs : List X) → how_many p xs ≡ 0 → filter p xs ≡ []
filter-none p [] none = refl
filter-none p (x ∷ xs) none = elim (cases_Bool (p x)) [
  | inl passes ↦ absurd (let some : 1 + how_many p xs ≡ 0 = rw passes at none in omega arith)
  | inr fails ↦ (let rest : 0 + how_many p xs ≡ 0 = rw fails at none in rw fails (filter-none p xs (omega arith)))
]

filter-one : {X : Type 0} (p : X → Bool) (xs : List X) (it : X) → All (λ x. p x ≡ true → x ≡ it) xs → how_many p xs ≡ 1 → filter p xs ≡ it ∷ []
filter-one p [] it all one = absurd (omega arith)
filter-one p (x ∷ xs) it all one = elim (cases_Bool (p x)) [
  | inl passes ↦ (let rest : 1 + how_many p xs ≡ 1 = rw passes at one in
      rw (passes, All-head (λ y. p y ≡ true → y ≡ it) x xs all passes, filter-none p xs (omega arith)) refl)
  | inr fails ↦ (let rest : 0 + how_many p xs ≡ 1 = rw fails at one in rw fails (filter-one p xs it (All-tail (λ y. p y ≡ true → y ≡ it) x xs all) (omega arith)))
]

-- an end is its client, its number and its reply
end-is : (client number : ℕ) (reply : Reply) (end : EndOf) → is_end client number end ≡ true → end.reply ≡ reply
    → end ≡ record { client = client; number = number; reply = reply }
end-is client number reply end its so = (let same = is_same-equal end.client end.number client number its in rw (← same.0, ← same.1, ← so) refl)

-- ---- the try of the turn's call

-- a call that was never made is none that is pending
another : (v : Volume) (client number other_client other_number : ℕ) → times client number v ≡ 0 → 1 ≤ how_many (is_call_of other_client other_number) v.pending → is_same client number other_client other_number ≡ false
another v client number other_client other_number new pends = elim (cases_Bool (is_same client number other_client other_number)) [
  | inr isnt ↦ isnt
  | inl is ↦ absurd (let same = is_same-equal client number other_client other_number is in let none : times other_client other_number v ≡ 0 = rw (← same.0, ← same.1) new in omega arith)
]

answered-none : (call : Call) (turn : ℕ) (test : ℕ × Pending → Bool) (outcome : Outcome) → EndsAtOnce outcome → how_many test (volume_after outcome).pending ≡ 0 → how_many test (answered call turn outcome).pending ≡ 0
answered-none call turn test (Done w reply) ends none = (let less = how_many-filter_le test (λ e. not (is_call call.client call.number e.1)) w.pending in omega arith)
answered-none call turn test (Stay w interim) ends none = absurd ends
answered-none call turn test (Hold w blockers interim) ends none = absurd ends

module _ (v : Volume) (call : Call) (may : MayTurn v) (new : times call.client call.number v ≡ 0) (tidy : CallsNamed v) where
  abbrev turn : ℕ
  turn = turn_number v

  try-gone : how_many (λ e. calls_off v call e.1) (volume_after (try v call turn)).pending ≡ 0
  try-gone = elim (cases_Bool (has_left v call.client)) [
    | inr here ↦ rw here (what-gone v turn call.client call.number call.what tidy)
    | inl gone ↦ rw gone (let none = tidy.quiet call.client gone in
        let weaker = how_many-weaker (λ (e : ℕ × Pending). calls_off v call e.1) (λ e. e.1.call.client == call.client) v.pending (λ e is. off-own v call.client call.what e.1 tidy is) in omega arith)
  ]

  -- what calls something off is of a kind that does, and ends at once
  off-may : (pending : Pending) → calls_off v call pending ≡ true → may_call_off call.what ≡ true
  off-may pending is = by call.what is
    where
      by : (what : What) → asks_off v call.client what pending ≡ true → may_call_off what ≡ true
      by (Ask (Cancel number)) is = refl
      by (Ask (Close handle)) is = refl
      by Leave is = refl
      by (Ask _) is = cc
      by _ is = cc

  ends-own : may_call_off call.what ≡ true → EndsAtOnce (try v call turn)
  ends-own may_off = elim (cases_Bool (has_left v call.client)) [
    | inl gone ↦ rw gone tt
    | inr here ↦ rw here (calling_off-ends v turn call.client call.number call.what may_off)
  ]

  own-gone : how_many (λ e. calls_off v call e.1) (own_tried v call).pending ≡ 0
  own-gone = elim (cases_Bool (may_call_off call.what)) [
    | inl may_off ↦ answered-none call turn (λ e. calls_off v call e.1) (try v call turn) (ends-own may_off) try-gone
    | inr isnt ↦ how_many-none (λ e. calls_off v call e.1) (own_tried v call).pending (any-never (λ e. calls_off v call e.1) (own_tried v call).pending (λ e. never e.1 isnt))
  ]
    where
      never : (pending : Pending) → may_call_off call.what ≡ false → calls_off v call pending ≡ false
      never pending isnt = elim (cases_Bool (calls_off v call pending)) [
        | inr none ↦ none
        | inl is ↦ absurd (let impossible : true ≡ false = sym (off-may pending is) ∙ isnt in cc)
      ]

  -- as many are called off, by their calls alone
  same-off : (entries : List (ℕ × Pending)) → how_many (λ e. calls_off v call e.1) entries ≡ how_many (λ e. is_off v call e.1.call) entries
  same-off entries = how_many-same (λ e. calls_off v call e.1) (λ e. is_off v call e.1.call) entries (λ e. off-alone v call.client call.what e.1)

  settled-gone : (starved : List CallId) → how_many (λ e. calls_off v call e.1) (settlement v call starved).volume.pending ≡ 0
  settled-gone starved =
      same-off (settlement v call starved).volume.pending
      ∙ settled-keeps (λ w. how_many (λ (e : ℕ × Pending). is_off v call e.1.call) w.pending ≡ 0)
      (λ s entry may next none. (let less = Steps.pending (Steps-taken_up s entry may next) (λ turn other. is_off v call other) in omega arith)) v call starved (own-may v call may new)
      (λ none. (let w : Volume = (taken_up_all (own_tried v call) starved).volume in let less = (stalled-kept w).kept.keeps.pending (λ e. is_off v call e.1.call) in omega arith))
      (sym (same-off (own_tried v call).pending) ∙ own-gone)

  -- each call that is called off has just the end that is said
  off-ended : All (λ entry. calls_off v call entry.1 ≡ true
      → filter (is_end entry.1.call.client entry.1.call.number) (own_tried v call).ended ≡ called_off_end call.what entry.1 ∷ []) v.pending
  off-ended k d within its_off =
      filter-one (is_end client number) (own_tried v call).ended (called_off_end call.what entry.1)
      (λ j e inside its. end-is client number (bare status) (get_or (own_tried v call).ended j e) its (EndsSo.ended own_so j e inside its)) one
    where
      entry : ℕ × Pending
      entry = get_or v.pending k d

      client : ℕ
      client = entry.1.call.client

      number : ℕ
      number = entry.1.call.number

      asked : What
      asked = entry.1.call.what

      status : Status
      status = called_off_status call.what asked

      itself : is_call_of client number entry ≡ true
      itself = is_same-refl client number

      pends : 1 ≤ how_many (is_call_of client number) v.pending
      pends = how_many-some (is_call_of client number) v.pending (list_any_at (is_call_of client number) v.pending k d within itself)

      once : times client number v ≤ 1
      once = may.take_up.once client number

      differs : is_same call.client call.number client number ≡ false
      differs = another v call.client call.number client number new pends

      -- it is this call, and isn't called off
      other : Call → Bool
      other made = (made.client == client && made.number == number) && not (is_off v call made)

      none_other : how_many (λ e. other e.1.call) v.pending ≡ 0
      none_other =
          (let there : list_any (λ e. is_call_of client number e && is_off v call e.1.call) v.pending ≡ true
          = list_any_at (λ e. is_call_of client number e && is_off v call e.1.call) v.pending k d within (rw (itself, ← off-alone v call.client call.what entry.1) its_off) in
          how_many-none (λ e. other e.1.call) v.pending (only-one (is_call_of client number) (λ e. is_off v call e.1.call) v.pending (let few = once in omega arith) there))

      gone : how_many (is_call_of client number) (own_tried v call).pending ≡ 0
      gone =
          (let split = how_many-split (is_call_of client number) (λ e. is_off v call e.1.call) (own_tried v call).pending in
          let off = own-gone in
          let same = same-off (own_tried v call).pending in
          let weaker = how_many-weaker (λ (e : ℕ × Pending). is_call_of client number e && is_off v call e.1.call) (λ e. is_off v call e.1.call) (own_tried v call).pending (λ e both. and_right (is_call_of client number e) (is_off v call e.1.call) both) in
          let rest = own_fewer v call turn other may.take_up.may.oplocks (rw differs refl) in
          let none = none_other in omega arith)

      one : how_many (is_end client number) (own_tried v call).ended ≡ 1
      one =
          (let adds : Adds v call.client call.number (own_tried v call) = Adds-answered v call (try v call turn) may new (try-keeps v call turn may.take_up.may.oplocks) in
          let more : times client number (own_tried v call) ≡ times client number v + 0 = rw differs at (adds.times client number) in
          let none = gone in let some = pends in let few = once in omega arith)

      so : EndsSo client number asked status v
      so = record {
        asks = λ j e inside its. ap (λ (e : ℕ × Pending). e.1.call.what) (only-at (is_call_of client number) v.pending k d within itself (let few = once in omega arith) j e inside its);
        ended = λ j e inside its. absurd (
            let some = how_many-some (is_end client number) v.ended (list_any_at (is_end client number) v.ended j e inside its) in
            let few = once in let there = pends in omega arith);
      }

      may_off : may_call_off call.what ≡ true
      may_off = off-may entry.1 its_off

      own_so : EndsSo client number asked status (own_tried v call)
      own_so = so-answered client number asked status call turn (try v call turn) (ends-own may_off) differs (elim (cases_Bool (has_left v call.client)) [
        | inl left ↦ rw left so
        | inr here ↦ rw here (so-what v turn call.client call.number call.what client number asked may_off so)
      ])

  turn-ends_off : (starved : List CallId) → EndsWhatItCallsOff v call starved
  turn-ends_off starved = record {
    ended = off-ended;
    tried = none-how_many (λ e. calls_off v call e.1) (own_tried v call).pending own-gone;
    settled = none-how_many (λ e. calls_off v call e.1) (settlement v call starved).volume.pending (settled-gone starved);
  }

-- ---- in each turn of a run

pub called_off-end : (setup : Setup) (history : List HistoryEntry) → CallsDiffer history → CalledOffEnd setup history
called_off-end setup history differ front later entry r is runs =
    turn-ends_off r.volume entry.call (run-before setup front entry r differ_to runs).may (new-before setup front entry r differ_to runs)
    (run-calls_named setup front r (differ-front front (entry ∷ []) differ_to) runs) entry.starved
  where
    differ_to : CallsDiffer (front ++ entry ∷ [])
    differ_to = differ-before history front later entry is differ
