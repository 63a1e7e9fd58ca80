-- Where a watch reports to a Notify, or a settlement takes it up, that is the earliest of its handle that is pending.
use Rattle.std.proofs.Common.{◌≡◌, ℕ, zero, suc, ◌+◌, ◌≤◌, Bool, true, false, not, List, [], ◌∷◌, ◌++◌, length, get_or, refl, ap, sym, subst, ◌∙◌, arith, inl, inr, Some, None, All}
use Rattle.std.specs.List.{filter, list_any}
use Rattle.std.specs.Option.{option_map_or}
use Rattle.std.specs.Prelude.{◌==◌, ◌&&◌, nat_le, nat_lt, is_some, slice_get}
use Rattle.std.proofs.lemmas.Bool.{cases_Bool, eq-eqb, eqb-true, ltb-false}
use Rattle.std.proofs.lemmas.List.Folds.{list_any_at}
use Rattle.std.proofs.lemmas.List.Elements.{All-append, All-cons, All-nil}
use Rattle.fsa_types.specs.Rows.{row_of}
use Rattle.fsa_types.specs.declared.request.Call.{Call}
use Rattle.fsa_types.specs.declared.request.CallId.{CallId}
use Rattle.fsa_types.specs.declared.request.Request.TheVariants.{Notify}
use Rattle.fsa_types.specs.declared.request.What.{What}
use Rattle.fsa_types.specs.declared.request.What.TheVariants.{Ask}
use Rattle.fsa_types.specs.declared.status.Status.{Status}
use Rattle.fsa_types.specs.declared.status.Status.TheVariants.{InvalidHandle}
use Rattle.fsa_model.specs.Close.{pending_by_turn}
use Rattle.fsa_model.specs.Engine.{CallsDiffer, own_tried}
use Rattle.fsa_model.specs.History.{HistoryEntry, Run, begun, turn_on}
use Rattle.fsa_model.specs.Lookups.{handle_of, has_left}
use Rattle.fsa_model.specs.Once.{IsOnce, how_many}
use Rattle.fsa_model.specs.Outcome.{Outcome, Done, Hold, Stay, refused}
use Rattle.fsa_model.specs.Reports.{settling_after}
use Rattle.fsa_model.specs.Settle.{Settling, starves, taken_up}
use Rattle.fsa_model.specs.Settling.{GoesOn, MaySettle, MayTakeUp, MayTurn, is_call_of, is_under, may_be_held}
use Rattle.fsa_model.specs.Setup.{Setup}
use Rattle.fsa_model.specs.Try.{try, try_what}
use Rattle.fsa_model.specs.Turn.{settlement, turn_number}
use Rattle.fsa_model.specs.Volume.{Handle, Pending, Volume}
use Rattle.fsa_model.specs.Waiting.{has_due, is_first_notify, is_held, is_notify_of, is_notify_on, is_ready, next_ready}
use Rattle.fsa_model.specs.Watched.{Notice, is_report_status, notices_asked, notices_by, notices_come, notices_from, notices_in, notices_of_steps, notices_of_turn, notices_reported}
use Rattle.fsa_model.specs.Watching.{due_size, is_something_due, notify_at, notify_by, try_notify, watch_of, with_watch_begun}
use Rattle.fsa_model.proofs.CoherenceRuns.{turn_on-settled}
use Rattle.fsa_model.proofs.CountLaws.{and_left, and_right, how_many-none, how_many-some, how_many-weaker, none-how_many, only-one}
use Rattle.fsa_model.proofs.EngineLaws.{new-before, run-before}
use Rattle.fsa_model.proofs.NoticeRuns.{fixed-none_due}
use Rattle.fsa_model.proofs.OnceHistory.{MayTurn-fresh}
use Rattle.fsa_model.proofs.OnceLaws.{is_same-refl}
use Rattle.fsa_model.proofs.ReportLaws.{ReportsOnly, notify_by-only, status_of}
use Rattle.fsa_model.proofs.RowLaws.{eqb-swap, none-all, option_cases}
use Rattle.fsa_model.proofs.SettleLaws.{IsNext, first-least, is_unreported, lacks_report, next-may_be_held, next_ready-is, none-unreported, some_equal}
use Rattle.fsa_model.proofs.TakenLaws.{GoesOn-begins, GoesOn-settle_step}
use Rattle.fsa_model.proofs.TurnLaws.{Turns, settlement-turns}
use Rattle.fsa_model.proofs.WaitLaws.{All-kept}
use Rattle.fsa_types.proofs.OplockLemmas.{All-in_order}
use Rattle.history_laws.specs.ReportsInOrder.{IsEarliest, JustMade, Pends, ReportsGoToEarliest, is_of_its_handle}
use Rattle.history_laws.proofs.AnyLaws.{and_true, any-filter_and}
use Rattle.history_laws.proofs.TurnByTurn.{Differ, differ-before, goes-keep, new-call, own-takes_up}

-- ---- the first in order

-- the first item of a list is as all are
head-is : {X : Type 0} (P : X → Type 0) (items : List X) (first : X) → slice_get items 0 ≡ Some first → All P items → P first
head-is P [] first is all = cc
head-is P (x ∷ items) first is all = subst P (some_equal x first is) (all zero x (omega arith))

-- so is the first that is kept, once they are put in order
first-is : (P : ℕ × Pending → Type 0) (keep : Pending → Bool) (v : Volume) (first : ℕ × Pending) → slice_get (pending_by_turn keep v) 0 ≡ Some first
    → All (λ e. keep e.1 ≡ true → P e) v.pending → P first
first-is P keep v first is all =
    head-is P (pending_by_turn keep v) first is (All-in_order P (λ a b. nat_lt a.0 b.0) (filter (λ e. keep e.1) v.pending) (All-kept P (λ e. keep e.1) v.pending all))

-- ---- the row of a turn

-- where no two rows have one turn, each is the row of its own
rows-own : (rows : List (ℕ × Pending)) → ((turn : ℕ) → how_many (is_under turn) rows ≤ 1) → All (λ e. row_of rows e.0 ≡ Some e.1) rows
rows-own [] few k d within = absurd (omega arith)
rows-own (x ∷ rows) few zero d within = rw (eq-eqb x.0 x.0 refl) refl
rows-own (x ∷ rows) few (suc k) d within = elim (cases_Bool (x.0 == (get_or rows k d).0)) [
  | inr apart ↦ rw apart (rows-own rows (λ turn. (let all = few turn in omega arith)) k d (omega arith))
  | inl same ↦ (
      let there = how_many-some (is_under x.0) rows (list_any_at (is_under x.0) rows k d (omega arith) (eqb-swap (get_or rows k d).0 x.0 ∙ same)) in
      let self : (x.0 == x.0) ≡ true = eq-eqb x.0 x.0 refl in
      let both : 1 + how_many (is_under x.0) rows ≤ 1 = rw self at (few x.0) in absurd (omega arith))
]

-- ---- a Notify that is taken up

module _ (v : Volume) (entry : ℕ × Pending) (may : MaySettle v) (once : IsOnce v) (is_next : next_ready v ≡ Some entry) where
  abbrev client : ℕ
  client = entry.1.call.client

  abbrev number : ℕ
  number = entry.1.call.number

  -- its row is that of its turn
  next-row : row_of v.pending entry.0 ≡ Some entry.1
  next-row = first-is (λ e. row_of v.pending e.0 ≡ Some e.1) (is_ready v) v entry is_next (λ k d within passes. rows-own v.pending may.turns k d within)

  -- the first of its handle has its number, so its turn
  same-turn : (handle : ℕ) (first : ℕ × Pending) → slice_get (pending_by_turn (is_notify_on client handle) v) 0 ≡ Some first → (first.1.call.number == number) ≡ true → entry.0 ≡ first.0
  same-turn handle first is numbered = elim (cases_Bool (entry.0 == first.0)) [
    | inl same ↦ eqb-true entry.0 first.0 same
    | inr apart ↦ (
        let next : IsNext v entry = next_ready-is v entry is_next in
        let few = once client number in
        let only = how_many-none (λ e. is_call_of client number e && not (e.0 == first.0)) v.pending
        (only-one (is_call_of client number) (λ e. e.0 == first.0) v.pending (omega arith) there) in
        let other = next.is_there (λ e. is_call_of client number e && not (e.0 == first.0)) (rw (is_same-refl client number, apart) refl) in
        absurd (omega arith))
  ]
    where
      own : (first.1.call.client == client) ≡ true
      own = first-is (λ e. (e.1.call.client == client) ≡ true) (is_notify_on client handle) v first is
          (λ k d within passes. and_left ((get_or v.pending k d).1.call.client == client) (is_notify_of handle (get_or v.pending k d).1.call.what) passes)

      there : list_any (λ e. is_call_of client number e && (e.0 == first.0)) v.pending ≡ true
      there = first-is (λ e. (is_call_of client number e && (e.0 == first.0)) ≡ true → list_any (λ e. is_call_of client number e && (e.0 == first.0)) v.pending ≡ true)
          (is_notify_on client handle) v first is (λ k d within passes is. list_any_at (λ e. is_call_of client number e && (e.0 == first.0)) v.pending k d within is)
          (rw (own, numbered, eq-eqb first.0 first.0 refl) refl)

  -- and no other of its handle has a lesser one
  next-lowest : (handle : ℕ) → is_first_notify v client number handle ≡ true → All (λ e. is_notify_on client handle e.1 ≡ true → entry.0 ≤ e.0) v.pending
  next-lowest handle is_first k d within notify = elim (option_cases (slice_get (pending_by_turn (is_notify_on client handle) v) 0)) [
    | inl none ↦ (let impossible : false ≡ true = rw none at is_first in cc)
    | inr first ↦ (
        let turn : entry.0 ≡ first.0.0 = same-turn handle first.0 first.1 (rw first.1 at is_first) in
        let none : list_any (λ e. nat_lt e.0 first.0.0 && is_notify_on client handle e.1) v.pending ≡ false
        = sym (any-filter_and (λ e. nat_lt e.0 first.0.0) (λ e. is_notify_on client handle e.1) v.pending) ∙ none-how_many (λ e. nat_lt e.0 first.0.0) (filter (λ e. is_notify_on client handle e.1) v.pending)
        (first-least (filter (λ e. is_notify_on client handle e.1) v.pending) first.0 first.1) in
        let fails : (nat_lt (get_or v.pending k d).0 first.0.0 && true) ≡ false
        = rw notify at (none-all (λ e. nat_lt e.0 first.0.0 && is_notify_on client handle e.1) v.pending none k d within) in
        let least : first.0.0 ≤ (get_or v.pending k d).0 = ltb-false (get_or v.pending k d).0 first.0.0 (and_true (nat_lt (get_or v.pending k d).0 first.0.0) ∙ fails) in
        omega arith)
  ]

  -- so it is the earliest
  next-earliest : (handle filter : ℕ) (whole : Bool) (room : ℕ) → entry.1.call.what ≡ Ask (Notify handle filter whole room) → is_held entry.1 ≡ false → IsEarliest v entry.1.call
  next-earliest handle filter whole room what waits =
      let next : IsNext v entry = next_ready-is v entry is_next in
      let come : (has_due v client handle && is_first_notify v client number handle) ≡ true = rw (waits, what) at next.ready in
      Pends entry.0 entry.1 next-row refl (rw what (next-lowest handle (and_right (has_due v client handle) (is_first_notify v client number handle) come)))

-- so is each call that is taken up: what is held is no Notify
next-any : (v : Volume) (entry : ℕ × Pending) (what : What) → MaySettle v → IsOnce v → next_ready v ≡ Some entry → entry.1.call.what ≡ what → IsEarliest v entry.1.call
next-any v entry (Ask (Notify handle filter whole room)) may once is_next is = elim (cases_Bool (is_held entry.1)) [
  | inl held ↦ (let impossible : false ≡ true = rw is at (next-may_be_held v entry may (next_ready-is v entry is_next) held) in cc)
  | inr waits ↦ next-earliest v entry may once is_next handle filter whole room is waits
]
next-any v entry _ may once is_next is = JustMade (rw is (λ k d within. refl))

-- ---- what is reported

-- a report is to the earliest
abbrev ToEarliest : Notice → Type 0
ToEarliest notice = is_some notice.reply ≡ true → IsEarliest notice.before notice.call

-- a single one
one-earliest : (notice : Notice) → ToEarliest notice → All ToEarliest (notice ∷ [])
one-earliest notice is = All-cons ToEarliest notice [] is (All-nil ToEarliest)

-- of what is taken up
reported-earliest : (s : Settling) (pending : Pending) (id filter : ℕ) (whole : Bool) (room : ℕ) → IsEarliest s.volume pending.call
    → All ToEarliest (notices_reported s pending id filter whole room)
reported-earliest s pending id filter whole room is = elim (cases_Bool (starves s.starved pending && nat_le (due_size s.volume id) room)) [
  | inl starving ↦ rw starving (All-nil ToEarliest)
  | inr plenty ↦ rw plenty (one-earliest _ (λ some. is))
]

come-earliest : (s : Settling) (entry : ℕ × Pending) (what : What) → MaySettle s.volume → IsOnce s.volume → next_ready s.volume ≡ Some entry
    → is_held entry.1 ≡ false → entry.1.call.what ≡ what → All ToEarliest (notices_come s entry.1 what)
come-earliest s entry (Ask (Notify handle filter whole room)) may once is_next waits is = elim (option_cases (handle_of s.volume entry.1.call.client handle)) [
  | inl none ↦ rw none (All-nil ToEarliest)
  | inr id ↦ rw id.1 (reported-earliest s entry.1 id.0 filter whole room (next-earliest s.volume entry may once is_next handle filter whole room is waits))
]
come-earliest s entry _ may once is_next waits is = All-nil ToEarliest

-- what can be held is no Notify
held-none : (v : Volume) (call : Call) (what : What) (outcome : Outcome) → may_be_held what ≡ true → All ToEarliest (notices_asked v call what outcome)
held-none v call (Ask (Notify handle filter whole room)) outcome held = cc
held-none v call _ outcome held = All-nil ToEarliest

taken_up-earliest : (s : Settling) (entry : ℕ × Pending) → MaySettle s.volume → IsOnce s.volume → next_ready s.volume ≡ Some entry → All ToEarliest (notices_in s entry)
taken_up-earliest s entry may once is_next = elim (cases_Bool (is_held entry.1)) [
  | inr waits ↦ rw waits (come-earliest s entry entry.1.call.what may once is_next waits refl)
  | inl held ↦ rw held (elim (cases_Bool (starves s.starved entry.1)) [
    | inl starving ↦ rw starving (All-nil ToEarliest)
    | inr plenty ↦ rw plenty (held-none s.volume entry.1.call entry.1.call.what (try s.volume entry.1.call entry.0) (next-may_be_held s.volume entry may (next_ready-is s.volume entry is_next) held))
  ])
]

steps-earliest : (own : Volume) (most : ℕ) (s : Settling) → GoesOn own s → All ToEarliest (notices_of_steps most s)
steps-earliest own zero s on = All-nil ToEarliest
steps-earliest own (suc more) s on = elim (option_cases (next_ready s.volume)) [
  | inl none ↦ rw none (All-nil ToEarliest)
  | inr some ↦ rw some.1 (All-append ToEarliest (notices_in s some.0) (notices_of_steps more (taken_up s some.0)) (taken_up-earliest s some.0 on.may on.once some.1)
      (steps-earliest own more (taken_up s some.0) (GoesOn-settle_step own s (taken_up s some.0) on (rw some.1 refl)).0))
]

-- ---- a Notify's own try

-- where nothing is ready, none of a handle to whose watch something is due is pending
none-pending : (v : Volume) (call : Call) (handle filter : ℕ) (whole : Bool) (room : ℕ) → MaySettle v → next_ready v ≡ None
    → call.what ≡ Ask (Notify handle filter whole room) → has_due v call.client handle ≡ true → All (λ e. is_of_its_handle call e.1 ≡ false) v.pending
none-pending v call handle filter whole room may done is due =
    let none = none-unreported v may done in
    let fewer = how_many-weaker (λ e. is_notify_on call.client handle e.1) (is_unreported v) v.pending (λ e notify. unreported e.1.call.what e.1.call.client notify) in
    rw is (none-all (λ e. is_notify_on call.client handle e.1) v.pending (none-how_many (λ e. is_notify_on call.client handle e.1) v.pending (omega arith)))
  where
    unreported : (what : What) (client : ℕ) → (client == call.client && is_notify_of handle what) ≡ true → lacks_report v client what ≡ true
    unreported (Ask (Notify other asked tree size)) client notify =
        rw (eqb-true client call.client (and_left (client == call.client) (other == handle) notify), eqb-true other handle (and_right (client == call.client) (other == handle) notify)) due
    unreported _ client notify = (let impossible : false ≡ true = and_right (client == call.client) false notify in cc)

module _ (v : Volume) (call : Call) (handle filter : ℕ) (whole : Bool) (room : ℕ) (may : MaySettle v) (done : next_ready v ≡ None) (is : call.what ≡ Ask (Notify handle filter whole room)) where
  -- a refusal is no report
  refused-none : (id : ℕ) (status : Status) → is_report_status status ≡ false → All ToEarliest (notices_by v call id filter whole room (refused v status))
  refused-none id status other = rw other (All-nil ToEarliest)

  -- what the try tells
  told-earliest : (id : ℕ) (outcome : Outcome) → ((status : Status) → status_of outcome ≡ Some status → is_report_status status ≡ true → IsEarliest v call)
      → All ToEarliest (notices_by v call id filter whole room outcome)
  told-earliest id (Done w reply) earliest = elim (cases_Bool (is_report_status reply.status)) [
    | inl reports ↦ rw reports (one-earliest _ (λ some. earliest reply.status refl reports))
    | inr other ↦ rw other (All-nil ToEarliest)
  ]
  told-earliest id (Stay w interim) earliest = elim (cases_Bool (is_some (watch_of v id))) [
    | inl there ↦ rw there (All-nil ToEarliest)
    | inr new ↦ rw new (one-earliest _ (λ some. cc))
  ]
  told-earliest id (Hold w blockers interim) earliest = All-nil ToEarliest

  -- the handle's watch reports only where it has one already
  due-before : (id : ℕ) → is_something_due (with_watch_begun v id filter whole) id ≡ true → is_something_due v id ≡ true
  due-before id some = elim (option_cases (watch_of v id)) [
    | inl none ↦ (let impossible : true ≡ false = sym (rw none at some) ∙ fixed-none_due v id filter whole none in cc)
    | inr watch ↦ rw watch.1 at some
  ]

  by-earliest : (id : ℕ) (row : Handle) → handle_of v call.client handle ≡ Some id → All ToEarliest (notices_by v call id filter whole room (notify_by v id row filter whole room))
  by-earliest id row named = told-earliest id (notify_by v id row filter whole room) (λ status told reports.
      (let only : ReportsOnly v id row filter whole = notify_by-only v id row filter whole room status told reports in
      JustMade (none-pending v call handle filter whole room may done is (rw named (due-before id only.some)))))

  notify-earliest : All ToEarliest (notices_asked v call (Ask (Notify handle filter whole room)) (try_notify v call.client handle filter whole room))
  unfolding try_notify notify_at
  notify-earliest = elim (option_cases (handle_of v call.client handle)) [
    | inl none ↦ rw none (All-nil ToEarliest)
    | inr id ↦ rw id.1 (elim (option_cases (row_of v.handles id.0)) [
      | inl none ↦ rw none (refused-none id.0 InvalidHandle refl)
      | inr row ↦ rw row.1 (by-earliest id.0 row.0 id.1)
    ])
  ]

  left-earliest : All ToEarliest (notices_asked v call (Ask (Notify handle filter whole room)) (refused v InvalidHandle))
  left-earliest = elim (option_cases (handle_of v call.client handle)) [
    | inl none ↦ rw none (All-nil ToEarliest)
    | inr id ↦ rw id.1 (refused-none id.0 InvalidHandle refl)
  ]

tried-earliest : (v : Volume) (call : Call) (turn : ℕ) (what : What) → MaySettle v → next_ready v ≡ None → call.what ≡ what → All ToEarliest (notices_asked v call what (try v call turn))
tried-earliest v call turn (Ask (Notify handle filter whole room)) may done is = elim (cases_Bool (has_left v call.client)) [
  | inl left ↦ rw left (left-earliest v call handle filter whole room may done is)
  | inr here ↦ rw here (subst (λ (asked : What). All ToEarliest (notices_asked v call (Ask (Notify handle filter whole room)) (try_what v turn call.client call.number asked))) (sym is)
      (notify-earliest v call handle filter whole room may done is))
]
tried-earliest v call turn _ may done is = All-nil ToEarliest

-- ---- turns, and a history

-- the turns behind the first
later-earliest : (r : Run) (entry : HistoryEntry) (more : List HistoryEntry) → MayTurn r.volume → Differ r.volume (entry ∷ more)
    → ((next : Run) → MayTurn next.volume → next_ready next.volume ≡ None → Differ next.volume more → All ToEarliest (notices_from next more))
    → All ToEarliest (option_map_or (λ next. notices_from next more) (turn_on r entry) [])
later-earliest r entry more may differ rest = elim (option_cases (turn_on r entry)) [
  | inl none ↦ rw none (All-nil ToEarliest)
  | inr next ↦ (
      let turns : Turns r.volume entry.call (settlement r.volume entry.call entry.starved).volume = settlement-turns r.volume entry.call entry.starved may (new-call r.volume entry more differ) in
      let settles : next.0.volume ≡ (settlement r.volume entry.call entry.starved).volume = turn_on-settled r entry next.0 next.1 in
      rw next.1 (rest next.0 (subst MayTurn (sym settles) turns.may) (ap next_ready settles ∙ turns.done)
      (λ client number. (let one = turns.times client number in let few = differ client number in rw settles (omega arith)))))
]

from-earliest : (history : List HistoryEntry) (r : Run) → MayTurn r.volume → next_ready r.volume ≡ None → Differ r.volume history → All ToEarliest (notices_from r history)
from-earliest [] r may done differ = All-nil ToEarliest
from-earliest (entry ∷ more) r may done differ =
    let own : Volume = own_tried r.volume entry.call in
    let start : Settling = record { volume = own; starved = entry.starved; taken = [] } in
    let tried = notices_asked r.volume entry.call entry.call.what (try r.volume entry.call (turn_number r.volume)) in
    All-append ToEarliest (notices_of_turn r.volume entry.call entry.starved) _
    (All-append ToEarliest tried (notices_of_steps (length own.pending) start) (tried-earliest r.volume entry.call (turn_number r.volume) entry.call.what may.take_up.may done refl)
    (steps-earliest own (length own.pending) start (GoesOn-begins own entry.starved (own-takes_up r.volume entry.call may (new-call r.volume entry more differ)))))
    (later-earliest r entry more may differ (λ next may_next done_next differ_next. from-earliest more next may_next done_next differ_next))

-- where a settlement has come so far
so_far : (v : Volume) (call : Call) (starved : List CallId) (steps : ℕ) → MayTakeUp (own_tried v call) → GoesOn (own_tried v call) (settling_after v call starved steps)
so_far v call starved steps own =
    (goes-keep (own_tried v call) (λ w. w ≡ w) (λ s entry on next same. refl) steps (record { volume = own_tried v call; starved = starved; taken = [] }) (GoesOn-begins (own_tried v call) starved own) refl).0

pub run-reports_to_earliest : (setup : Setup) (history : List HistoryEntry) → CallsDiffer history → ReportsGoToEarliest setup history
run-reports_to_earliest setup history differ = record {
  reported = from-earliest history (begun setup) (MayTurn-fresh setup) refl (λ client number. (let few = differ client number in omega arith));
  taken_up = λ front later entry r steps next is runs is_next.
      (let differ_to : CallsDiffer (front ++ entry ∷ []) = differ-before history front later entry is differ in
      let on : GoesOn (own_tried r.volume entry.call) (settling_after r.volume entry.call entry.starved steps) = so_far r.volume entry.call entry.starved steps
      (own-takes_up r.volume entry.call (run-before setup front entry r differ_to runs).may (new-before setup front entry r differ_to runs)) in
      next-any (settling_after r.volume entry.call entry.starved steps).volume next next.1.call.what on.may on.once is_next refl);
}
