-- In a turn each pending call that asks for an oplock or answers a break still has an oplock that is granted under its turn.
use Rattle.std.proofs.Common.{◌≡◌, ℕ, ◌≤◌, Bool, true, false, not, List, [], ◌∷◌, refl, sym, ◌∙◌, arith, inl, inr, Option, Some, None}
use Rattle.std.specs.List.{filter, find}
use Rattle.std.specs.Option.{option_map_or}
use Rattle.std.specs.Prelude.{◌==◌, ◌&&◌, is_some, if◌then◌else◌}
use Rattle.std.proofs.lemmas.Bool.{cases_Bool, eqb-true}
use Rattle.fsa_types.specs.OplockGrants.{as_answered, as_granted}
use Rattle.fsa_types.specs.Oplocks.{has_read, in_both}
use Rattle.fsa_types.specs.declared.reply.Body.TheVariants.{Left, Nothing}
use Rattle.fsa_types.specs.declared.reply.Blocker.{Blocker}
use Rattle.fsa_types.specs.declared.reply.Interim.TheVariants.{Granted}
use Rattle.fsa_types.specs.declared.reply.Reply.{Reply}
use Rattle.fsa_types.specs.declared.request.Call.{Call}
use Rattle.fsa_types.specs.declared.request.Level.{Level}
use Rattle.fsa_types.specs.declared.request.Level.TheVariants.{Nil}
use Rattle.fsa_types.specs.declared.request.Request.TheVariants.{Ack, Cancel, Close, Oplock as OplockRequest, Unlock}
use Rattle.fsa_types.specs.declared.request.What.{What}
use Rattle.fsa_types.specs.declared.request.What.TheVariants.{Ask, Leave}
use Rattle.fsa_types.specs.declared.status.Status.{Status}
use Rattle.fsa_types.specs.declared.status.Status.TheVariants.{InvalidHandle, InvalidOplockProtocol, Success}
use Rattle.fsa_model.specs.Close.{try_close, try_leave}
use Rattle.fsa_model.specs.Edits.{is_call, with_blockers, with_end, with_pending, without_oplock}
use Rattle.fsa_model.specs.Engine.{GrantsPend, handle_granted, own_tried}
use Rattle.fsa_model.specs.Grant.{ack_at, ack_keeping, oplock_at, oplock_by, oplock_on, target_of, try_ack, try_oplock, with_all_switched, with_granted, with_level_kept}
use Rattle.fsa_model.specs.Locking.{try_unlock, unlock_at, unlock_by, unlock_range}
use Rattle.fsa_model.specs.Lookups.{handle_of, has_left}
use Rattle.fsa_model.specs.Once.{how_many}
use Rattle.fsa_model.specs.Outcome.{Outcome, Done, Stay, Hold, refused}
use Rattle.fsa_model.specs.Settle.{Settling, starves, taken_up, with_tried}
use Rattle.fsa_model.specs.Settling.{HasOneOplockEach, MaySettle, is_of, is_under, may_be_held}
use Rattle.fsa_model.specs.Try.{try, try_what}
use Rattle.fsa_model.specs.Turn.{answered, turn_number, volume_after}
use Rattle.fsa_model.specs.Volume.{Oplock, Pending, Volume}
use Rattle.fsa_model.specs.Waiting.{is_granted_under, is_held, try_cancel, with_stalled}
use Rattle.fsa_model.proofs.CountLaws.{how_many-append, how_many-filter, how_many-filter_le, how_many-map, how_many-same, how_many-some, how_many-split, how_many-weaker}
use Rattle.fsa_model.proofs.OnceLaws.{SameBlockers, is_call_of}
use Rattle.fsa_model.proofs.RowLaws.{change_at, eqb-swap, find-any, option_cases}
use Rattle.fsa_model.proofs.SettleLaws.{IsNext, Steps, Steps-taken_up, next-may_be_held}
use Rattle.fsa_model.proofs.TurnLaws.{stalled-kept}
use Rattle.fsa_model.proofs.WaitLaws.{find-passes}
use Rattle.history_laws.proofs.AnyLaws.{and_none}
use Rattle.history_laws.proofs.BackedBreaks.{AreBacked, IsBacked, TurnsDiffer, all_switched-backed, alone, asking-under, backed-by, backed-fewer, backed-without, ended-under, is_asking_under, is_own}
use Rattle.history_laws.proofs.BackedCloses.{close-backed, leave-backed}
use Rattle.history_laws.proofs.BrokenGrants.{IsTidy, NoBrokenGrant, is_broken_grant}
use Rattle.history_laws.proofs.ByBreaks.{TriesByBreaks}
use Rattle.history_laws.proofs.OwnGrants.{unasked}
use Rattle.history_laws.proofs.PendingNames.{CallsNamed}
use Rattle.history_laws.proofs.TriesByBreaks.{changes_otherwise, held-by_breaks, what-by_breaks}
use Rattle.history_laws.proofs.TurnBlockers.{blockers-come, blockers-stalled}

-- ---- a call that asks for none

-- a call ends
ends-backed : (v : Volume) (client number : ℕ) (reply : Reply) → AreBacked v → AreBacked (with_end v client number reply)
ends-backed v client number reply backed = backed-fewer v (with_end v client number reply) refl (λ test. how_many-filter_le (λ (e : ℕ × Pending). test e.0 e.1.call) (λ e. not (is_call client number e.1)) v.pending) backed

-- it becomes pending
pending-backed : (v : Volume) (turn : ℕ) (call : Call) (blockers : List Blocker) → is_some (handle_granted call.what) ≡ false → AreBacked v → AreBacked (with_pending v turn call blockers)
pending-backed v turn call blockers plain backed other =
    let before = backed other in
    let all = how_many-append (is_asking_under other) v.pending ((turn, record { call = call; blockers = blockers }) ∷ []) in
    let none : how_many (is_asking_under other) ((turn, record { call = call; blockers = blockers }) ∷ []) ≡ 0 = rw (and_none (turn == other) (is_some (handle_granted call.what)) plain) refl in
    omega arith

-- what it waits for is no matter
same-blockers : (v : Volume) (turn : ℕ) (blockers : List Blocker) (test : ℕ → Call → Bool) → how_many (λ e. test e.0 e.1.call) (with_blockers v turn blockers).pending ≡ how_many (λ e. test e.0 e.1.call) v.pending
same-blockers v turn blockers test =
    how_many-map (λ (e : ℕ × Pending). test e.0 e.1.call) (change_at {R = Pending} (λ row. record row { blockers = blockers }) turn) v.pending
    ∙ how_many-same (λ e. test (change_at (λ row. record row { blockers = blockers }) turn e).0 (change_at (λ row. record row { blockers = blockers }) turn e).1.call) (λ e. test e.0 e.1.call) v.pending
    (λ e. elim (cases_Bool (e.0 == turn)) [ inl here ↦ rw here refl | inr other ↦ rw other refl ])

blockers-backed : (v : Volume) (turn : ℕ) (blockers : List Blocker) → AreBacked v → AreBacked (with_blockers v turn blockers)
blockers-backed v turn blockers backed = backed-fewer v (with_blockers v turn blockers) refl (λ test. (let same = same-blockers v turn blockers test in omega arith)) backed

-- it is answered
plain-answered : (call : Call) (turn : ℕ) (outcome : Outcome) → is_some (handle_granted call.what) ≡ false → AreBacked (volume_after outcome) → AreBacked (answered call turn outcome)
plain-answered call turn (Done w reply) plain backed = ends-backed w call.client call.number reply backed
plain-answered call turn (Stay w interim) plain backed = pending-backed w turn call [] plain backed
plain-answered call turn (Hold w blockers interim) plain backed = pending-backed w turn call blockers plain backed

-- ---- an oplock's request, and an unlock

-- once the call is answered, so it is
record Answers (call : Call) (turn : ℕ) (outcome : Outcome) : Type 0 where
  so : AreBacked (answered call turn outcome)

module _ (call : Call) (turn : ℕ) where
  -- how a definition goes on
  answers-if : (test : Bool) (one other : Outcome) → Answers call turn one → Answers call turn other → Answers call turn (if test then one else other)
  answers-if true one other holds fails = holds
  answers-if false one other holds fails = fails

  answers-option : {X : Type 0} (found : Option X) (some : X → Outcome) (none : Outcome) → ((x : X) → Answers call turn (some x)) → Answers call turn none → Answers call turn (option_map_or some found none)
  answers-option None some none with_some with_none = with_none
  answers-option (Some x) some none with_some with_none = with_some x

  answers-refused : (v : Volume) (status : Status) → AreBacked v → Answers call turn (refused v status)
  answers-refused v status backed = record { so = ends-backed v call.client call.number (record { status = status; body = Nothing }) backed }

  -- the oplock is granted to this call
  answers-granted : (v : Volume) (id key stream : ℕ) (level : Level) → IsBacked v → Answers call turn (Stay (with_granted v id key stream level turn) (Granted level))
  answers-granted v id key stream level so = record {
    so = λ other.
        (let w : Volume = with_all_switched v id key stream in
        let before : how_many (is_asking_under other) w.pending ≤ how_many (is_granted_under other) w.oplocks = all_switched-backed v id key stream so.one so.turns so.backed other in
        let asked = how_many-append (is_asking_under other) w.pending ((turn, record { call = call; blockers = [] }) ∷ []) in
        let granted = how_many-append (is_granted_under other) w.oplocks (as_granted id key level turn ∷ []) in
        let one = asking-under other ((turn, record { call = call; blockers = [] }) ∷ []) in omega arith);
  }

  -- or refused
  answers-oplock : (v : Volume) (client handle : ℕ) (level : Level) → IsBacked v → AreBacked v → Answers call turn (try_oplock v client handle level turn)
  unfolding try_oplock oplock_at oplock_by oplock_on
  answers-oplock v client handle level so backed = search (answers-if, answers-option, answers-refused, answers-granted) depth 20

  -- an unlock
  answers-unlock : (v : Volume) (client handle at count : ℕ) → AreBacked v → Answers call turn (try_unlock v client handle at count)
  unfolding try_unlock unlock_at unlock_by unlock_range
  answers-unlock v client handle at count backed = search (answers-option, answers-refused) depth 20

-- ---- an acknowledgement

-- an oplock with a break is granted under no turn
broken-own : (v : Volume) (id turn : ℕ) (target : Level) → target_of v id ≡ Some target → HasOneOplockEach v → NoBrokenGrant v.oplocks → (how_many (is_own turn id) v.oplocks ≡ 0) × (1 ≤ how_many (is_of id) v.oplocks)
broken-own v id turn target is one none = elim (option_cases (find (is_of id) v.oplocks)) [
  | inl missing ↦ (let impossible : None ≡ Some target = rw missing at is in cc)
  | inr o ↦ (
      let here : is_of id o.0 ≡ true = find-passes (is_of id) v.oplocks o.0 o.1 in (
        alone v v.oplocks one (λ test. omega arith) turn id (how_many-some (λ x. is_of id x && not (is_granted_under turn x)) v.oplocks
            (find-any (is_of id) (λ x. is_of id x && not (is_granted_under turn x)) v.oplocks o.0 o.1 (rw (here, free o.0 o.1 (rw o.1 at is)) refl))),
        how_many-some (is_of id) v.oplocks (find-any (is_of id) (is_of id) v.oplocks o.0 o.1 here),
      ))
]
  where
    free : (o : Oplock) → find (is_of id) v.oplocks ≡ Some o → o.target ≡ Some target → is_granted_under turn o ≡ false
    free o found its = elim (option_cases o.call) [
      | inl nobody ↦ rw nobody refl
      | inr call ↦ (let there = find-any (is_of id) is_broken_grant v.oplocks o found (rw (its, call.1) refl) in let impossible : true ≡ false = sym there ∙ none in cc)
    ]

module _ (v : Volume) (call : Call) (turn : ℕ) (so : IsBacked v) (none : NoBrokenGrant v.oplocks) where
  -- what stays of the oplock is granted to this call
  level-backed : (id : ℕ) (target level : Level) → target_of v id ≡ Some target → AreBacked (with_pending (with_level_kept v id level turn) turn call [])
  level-backed id target level is other =
      let free = broken-own v id other target is so.one none in
      let left = backed-without v id other free.0 so.backed in
      let kept = how_many-filter (is_granted_under other) (λ (x : Oplock). not (is_of id x)) v.oplocks in
      let mapped = how_many-map (is_granted_under other) (as_answered id level turn) v.oplocks in
      let split = how_many-split (λ x. is_granted_under other (as_answered id level turn x)) (is_of id) v.oplocks in
      let elsewhere = how_many-weaker (λ (x : Oplock). not (is_of id x) && is_granted_under other x) (λ x. is_granted_under other (as_answered id level turn x) && not (is_of id x)) v.oplocks
      (λ x both. elim (cases_Bool (x.handle == id)) [
        | inl here ↦ (let impossible : false ≡ true = rw here at both in cc)
        | inr apart ↦ (let granted : is_granted_under other x ≡ true = rw apart at both in rw (apart, granted) refl)
      ]) in
      let asked = how_many-append (is_asking_under other) v.pending ((turn, record { call = call; blockers = [] }) ∷ []) in
      let one = asking-under other ((turn, record { call = call; blockers = [] }) ∷ []) in
      elim (cases_Bool (turn == other)) [
        | inr apart ↦ (let nothing : how_many (is_under other) ((turn, record { call = call; blockers = [] }) ∷ []) ≡ 0 = rw apart refl in omega arith)
        | inl own ↦ (
            let most : how_many (is_under other) ((turn, record { call = call; blockers = [] }) ∷ []) ≡ 1 = rw own refl in
            let its = how_many-weaker (is_of id) (λ x. is_granted_under other (as_answered id level turn x) && is_of id x) v.oplocks (λ x here. rw (here, own) refl) in
            let some = free.1 in omega arith)
      ]

  -- and where nothing stays, the oplock goes
  answers-ack : (client handle : ℕ) (level : Level) → Answers call turn (try_ack v client handle level turn)
  unfolding try_ack ack_at ack_keeping
  answers-ack client handle level = answers-option call turn (handle_of v client handle) _ _ (λ id. elim (option_cases (target_of v id)) [
    | inl none ↦ rw none (answers-refused call turn v InvalidOplockProtocol so.backed)
    | inr target ↦ rw target.1 (answers-if call turn (has_read (in_both level target.0)) _ _
        (record { so = level-backed id target.0 (in_both level target.0) target.1 })
        (record { so = ends-backed (without_oplock v id) call.client call.number (record { status = Success; body = Left Nil }) (λ other. backed-without v id other (broken-own v id other target.0 target.1 so.one none).0 so.backed) }))
  ]) (answers-refused call turn v InvalidHandle so.backed)

-- ---- a cancellation

-- the oplock that was granted under the turn of the cancelled call goes with it
cancel-backed : (v : Volume) (client number : ℕ) → TurnsDiffer v → AreBacked v → AreBacked (volume_after (try_cancel v client number))
unfolding try_cancel
cancel-backed v client number turns backed = elim (option_cases (find (is_call_of client number) v.pending)) [
  | inl missing ↦ rw missing backed
  | inr e ↦ rw e.1 (λ turn. elim (cases_Bool (e.0.0 == turn)) [
    | inl own ↦ (
        let there = how_many-some (λ x. is_call_of client number x && x.0 == turn) v.pending (find-any (is_call_of client number) (λ x. is_call_of client number x && x.0 == turn) v.pending e.0 e.1 (rw (find-passes (is_call_of client number) v.pending e.0 e.1) own)) in
        let none = ended-under v.pending client number turn (turns turn) there in
        let fewer = asking-under turn (filter (λ x. not (is_call client number x.1)) v.pending) in omega arith)
    | inr apart ↦ (
        let before : how_many (is_asking_under turn) v.pending ≤ how_many (is_granted_under turn) v.oplocks = backed turn in
        let fewer = how_many-filter_le (is_asking_under turn) (λ x. not (is_call client number x.1)) v.pending in
        let kept = how_many-filter (is_granted_under turn) (λ o. not (is_granted_under e.0.0 o)) v.oplocks in
        let weaker = how_many-weaker (is_granted_under turn) (λ o. not (is_granted_under e.0.0 o) && is_granted_under turn o) v.oplocks (λ o granted. rw (other e.0.0 turn o apart granted, granted) refl) in
        omega arith)
  ])
]
  where
    other : (at turn : ℕ) (o : Oplock) → (at == turn) ≡ false → is_granted_under turn o ≡ true → is_granted_under at o ≡ false
    other at turn o apart granted = elim (option_cases o.call) [
      | inl none ↦ rw none refl
      | inr call ↦ (let same : call.0 ≡ turn = eqb-true call.0 turn (rw call.1 at granted) in rw (call.1, same) (eqb-swap turn at ∙ apart))
    ]

-- ---- any try

-- what is asked of the volume between turns, and kept in them
pub record MayBack (v : Volume) : Type 0 where
  pub so : IsBacked v
  pub tidy : IsTidy v
  pub pend : GrantsPend v
  pub named : CallsNamed v

-- whatever is asked
answers-what : (v : Volume) (call : Call) (turn : ℕ) (what : What) → call.what ≡ what → MayBack v → Answers call turn (try_what v turn call.client call.number what)
answers-what v call turn what is may = elim (cases_Bool (changes_otherwise what)) [
  | inr breaks ↦ record { so = plain-answered call turn (try_what v turn call.client call.number what) (rw is (unasked (λ asked. not (changes_otherwise asked)) (λ handle level. refl) (λ handle level. refl) what (rw breaks refl))) (IsBacked.backed (backed-by (TriesByBreaks.so (what-by_breaks v turn call.client call.number what breaks)) may.so)) }
  | inl more ↦ own what is more
]
  where
    own : (what : What) → call.what ≡ what → changes_otherwise what ≡ true → Answers call turn (try_what v turn call.client call.number what)
    own (Ask (OplockRequest handle level)) is more = answers-oplock call turn v call.client handle level may.so may.so.backed
    own (Ask (Ack handle level)) is more = answers-ack v call turn may.so may.tidy.none call.client handle level
    own (Ask (Unlock handle at count)) is more = answers-unlock call turn v call.client handle at count may.so.backed
    own (Ask (Close handle)) is more = record { so = plain-answered call turn (try_close v call.client handle) (rw is refl) (close-backed v call.client handle may.so.turns may.pend may.tidy.none may.named may.so.backed) }
    own (Ask (Cancel number)) is more = record { so = plain-answered call turn (try_cancel v call.client number) (rw is refl) (cancel-backed v call.client number may.so.turns may.so.backed) }
    own Leave is more = record { so = plain-answered call turn (try_leave v call.client) (rw is refl) (leave-backed v call.client may.so.turns may.pend may.tidy.none may.named may.so.backed) }
    own _ is more = absurd (let impossible : false ≡ true = more in cc)

-- the turn's own call
pub own-backed : (v : Volume) (call : Call) → MayBack v → AreBacked (own_tried v call)
own-backed v call may =
    Answers.so (answers-if call (turn_number v) (has_left v call.client) _ _ (answers-refused call (turn_number v) v InvalidHandle may.so.backed) (answers-what v call (turn_number v) call.what refl may))

-- ---- a settlement

-- a call that was tried again ends, or is held anew
tried-backed : (turn : ℕ) (pending : Pending) (outcome : Outcome) → AreBacked (volume_after outcome) → AreBacked (with_tried turn pending outcome)
tried-backed turn pending (Done w reply) backed = ends-backed w pending.call.client pending.call.number reply backed
tried-backed turn pending (Stay w interim) backed = blockers-backed w turn [] backed
tried-backed turn pending (Hold w blockers interim) backed = blockers-backed w turn blockers backed

-- a held call is tried; any other ends
pub taken_up-backed : (s : Settling) (entry : ℕ × Pending) → MaySettle s.volume → IsNext s.volume entry → AreBacked s.volume → AreBacked (taken_up s entry).volume
taken_up-backed s entry may next backed = elim (cases_Bool (is_held entry.1)) [
  | inr comes ↦ ended (rw comes (SameBlockers.oplocks (blockers-come s entry.1 entry.1.call.what)))
  | inl held ↦ elim (cases_Bool (starves s.starved entry.1)) [
    | inl starving ↦ ended (rw (held, starving) refl)
    | inr plenty ↦ rw (held, plenty) (tried-backed entry.0 entry.1 (try s.volume entry.1.call entry.0) (tried (next-may_be_held s.volume entry may next held)))
  ]
]
  where
    ended : (taken_up s entry).volume.oplocks ≡ s.volume.oplocks → AreBacked (taken_up s entry).volume
    ended same = backed-fewer s.volume (taken_up s entry).volume same (Steps.pending (Steps-taken_up s entry may next)) backed

    tried : may_be_held entry.1.call.what ≡ true → AreBacked (volume_after (try s.volume entry.1.call entry.0))
    tried can = elim (cases_Bool (has_left s.volume entry.1.call.client)) [
      | inl gone ↦ rw gone backed
      | inr here ↦ rw here (IsBacked.backed (backed-by (TriesByBreaks.so (what-by_breaks s.volume entry.0 entry.1.call.client entry.1.call.number entry.1.call.what (held-by_breaks entry.1.call.what can))) (record { one = may.oplocks; turns = may.turns; backed = backed })))
    ]

-- and at last all waits end, where all clients wait
pub stalled-backed : (v : Volume) → AreBacked v → AreBacked (with_stalled v)
stalled-backed v backed = backed-fewer v (with_stalled v) (SameBlockers.oplocks (blockers-stalled v)) (λ test. (stalled-kept v).kept.keeps.pending (λ e. test e.0 e.1.call)) backed
