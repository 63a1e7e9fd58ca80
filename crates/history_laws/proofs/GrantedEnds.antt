-- In each turn of a run a pending call that asks for an oplock or answers a break ends only as it is told of a break, is called
-- off, or is switched by a request for an oplock.
use Rattle.std.proofs.Common.{◌≡◌, ℕ, zero, suc, ◌≤◌, Bool, true, false, not, List, [], ◌∷◌, ◌++◌, refl, ◌∙◌, arith, inl, inr, ◌⊎◌}
use Rattle.std.specs.List.{list_any}
use Rattle.std.specs.Prelude.{◌==◌, ◌&&◌, is_some, if◌then◌else◌}
use Rattle.std.proofs.lemmas.Bool.{cases_Bool, not-true}
use Rattle.fsa_types.specs.declared.reply.Body.TheVariants.{Nothing}
use Rattle.fsa_types.specs.declared.reply.Blocker.{Blocker}
use Rattle.fsa_types.specs.declared.reply.Reply.{Reply}
use Rattle.fsa_types.specs.declared.request.Call.{Call}
use Rattle.fsa_types.specs.declared.request.CallId.{CallId}
use Rattle.fsa_types.specs.declared.request.Request.TheVariants.{Ack, Cancel, Close, Oplock as OplockRequest, Unlock}
use Rattle.fsa_types.specs.declared.request.What.{What}
use Rattle.fsa_types.specs.declared.request.What.TheVariants.{Ask, Leave}
use Rattle.fsa_types.specs.declared.status.Status.TheVariants.{NoMemory}
use Rattle.fsa_model.specs.Edits.{is_call, with_blockers}
use Rattle.fsa_model.specs.Engine.{CallsDiffer, handle_granted, own_tried}
use Rattle.fsa_model.specs.History.{HistoryEntry}
use Rattle.fsa_model.specs.Lookups.{has_left}
use Rattle.fsa_model.specs.Once.{IsOnce, times}
use Rattle.fsa_model.specs.Outcome.{Outcome, Done, Stay, Hold}
use Rattle.fsa_model.specs.Settle.{Settling, repeated, settle_step, starves, taken_up, taken_up_all, with_tried}
use Rattle.fsa_model.specs.Settling.{GoesOn, MaySettle, MayTakeUp, MayTurn, may_be_held}
use Rattle.fsa_model.specs.Setup.{Setup}
use Rattle.fsa_model.specs.Try.{try, try_what}
use Rattle.fsa_model.specs.Turn.{answered, turn_number, volume_after}
use Rattle.fsa_model.specs.Volume.{Pending, Volume}
use Rattle.fsa_model.specs.Waiting.{all_wait, has_come, is_held, is_wait, next_ready, with_stalled}
use Rattle.fsa_model.proofs.CountLaws.{and_left, and_right, how_many-weaker, none-how_many}
use Rattle.fsa_model.proofs.EngineLaws.{new-before, run-before}
use Rattle.fsa_model.proofs.OnceLaws.{is_call_of, is_same, is_same-refl}
use Rattle.fsa_model.proofs.RowLaws.{any-map, any-push, any-same, any-weaker, option_cases}
use Rattle.fsa_model.proofs.SettleLaws.{IsNext, next-may_be_held, next_ready-is}
use Rattle.fsa_model.proofs.TakenLaws.{GoesOn-begins, GoesOn-settle_step, taken_up_all-goes}
use Rattle.fsa_model.proofs.WatchLaws.{comes_over}
use Rattle.history_laws.specs.GrantedEnds.{GrantedCallsEndForCause, IsSwitched, IsTold, Pends, PendsOn, is_asking_call, is_switch, requests_oplock}
use Rattle.history_laws.specs.Holding.{asks_oplock, calls_off}
use Rattle.history_laws.specs.Telling.{tells_of_break}
use Rattle.history_laws.proofs.ByBreaks.{TriesByBreaks}
use Rattle.history_laws.proofs.CallsApart.{next-apart}
use Rattle.history_laws.proofs.EndsByBreaks.{StaysOrEnds, TriesSo, differs, ends-more, other-ends, so-oplock, stays-by}
use Rattle.history_laws.proofs.HeldTries.{TriesKeep, keep-ack, keep-cancel, keep-close, keep-leave, keep-unlock}
use Rattle.history_laws.proofs.OwnGrants.{asks-fails, unasked}
use Rattle.history_laws.proofs.TriesByBreaks.{changes_otherwise, held-by_breaks, what-by_breaks}
use Rattle.history_laws.proofs.TurnByTurn.{differ-before, own-takes_up}
use Rattle.history_laws.proofs.UnreadyStay.{stalled-stays}

-- the reply tells of a break
abbrev tells : Reply → Bool
tells reply = tells_of_break reply && true

-- or of a switch
abbrev switches : Reply → Bool
switches reply = is_switch reply.status

-- ---- the try of the turn's call

module _ (v : Volume) (call : Call) (client number : ℕ) where
  -- it asks for an oplock or answers a break, and isn't called off
  abbrev stays_if : ℕ × Pending → Bool
  stays_if entry = is_asking_call client number entry && not (calls_off v call entry.1)

  its : (e : ℕ × Pending) → stays_if e ≡ true → is_call_of client number e ≡ true
  its e all = and_right (asks_oplock e.1) (is_call client number e.1) (and_left (is_asking_call client number e) (not (calls_off v call e.1)) all)

  not_off : (e : ℕ × Pending) → stays_if e ≡ true → calls_off v call e.1 ≡ false
  not_off e all = not-true (calls_off v call e.1) (and_right (is_asking_call client number e) (not (calls_off v call e.1)) all)

  -- it stays, or is told or switched
  abbrev Caused : Volume → Type 0
  Caused w = (list_any stays_if w.pending ≡ true) ⊎ (IsTold client number v w ⊎ ((requests_oplock call.what ≡ true) × IsSwitched client number v w))

  caused-what : (turn : ℕ) (what : What) → call.what ≡ what → IsOnce v → list_any stays_if v.pending ≡ true → Caused (volume_after (try_what v turn call.client call.number what))
  caused-what turn what is once some = elim (cases_Bool (changes_otherwise what)) [
    | inr breaks ↦ elim (StaysOrEnds.stays (stays-by stays_if client number its tells (λ level ack. refl) (TriesByBreaks.so (what-by_breaks v turn call.client call.number what breaks))) some) [
      | inl stays ↦ inl stays
      | inr told ↦ inr (inl told)
    ]
    | inl more ↦ own what is more
  ]
    where
      own : (what : What) → call.what ≡ what → changes_otherwise what ≡ true → Caused (volume_after (try_what v turn call.client call.number what))
      own (Ask (OplockRequest handle level)) is more = elim (StaysOrEnds.stays (TriesSo.so (so-oplock stays_if client number its switches refl v call.client handle level turn)) some) [
        | inl stays ↦ inl stays
        | inr switched ↦ inr (inr (rw is refl, switched))
      ]
      own (Ask (Ack handle level)) is more = inl (TriesKeep.keep (keep-ack stays_if v call.client handle level turn) some)
      own (Ask (Unlock handle at count)) is more = inl (TriesKeep.keep (keep-unlock stays_if v call.client handle at count) some)
      own (Ask (Close handle)) is more = inl (keep-close stays_if v call.client handle once (λ e passes. (rw is at (not_off e passes))) some)
      own (Ask (Cancel other)) is more = inl (keep-cancel stays_if v call.client other (λ e passes. (rw is at (not_off e passes))) some)
      own Leave is more = inl (keep-leave stays_if v call.client once (λ e passes. (rw is at (not_off e passes))) some)
      own _ is more = absurd (let impossible : false ≡ true = more in cc)

  caused-try : (turn : ℕ) → IsOnce v → list_any stays_if v.pending ≡ true → Caused (volume_after (try v call turn))
  caused-try turn once some = elim (cases_Bool (has_left v call.client)) [
    | inl gone ↦ rw gone (inl some)
    | inr here ↦ rw here (caused-what turn call.what refl once some)
  ]

  -- the turn's call, which is another one, is answered
  caused-answered : (turn : ℕ) (outcome : Outcome) → is_same call.client call.number client number ≡ false → Caused (volume_after outcome) → Caused (answered call turn outcome)
  caused-answered turn (Done w reply) other caused = elim caused [
    | inl stays ↦ inl (other-ends stays_if client number its w call.client call.number reply other stays)
    | inr (inl told) ↦ inr (inl (ends-more stays_if client number its tells v w call.client call.number reply told))
    | inr (inr switched) ↦ inr (inr (switched.0, ends-more stays_if client number its switches v w call.client call.number reply switched.1))
  ]
  caused-answered turn (Stay w interim) other caused = elim caused [
    | inl stays ↦ inl (any-push stays_if w.pending _ stays)
    | inr ends ↦ inr ends
  ]
  caused-answered turn (Hold w blockers interim) other caused = elim caused [
    | inl stays ↦ inl (any-push stays_if w.pending _ stays)
    | inr ends ↦ inr ends
  ]

  own-caused : IsOnce v → times call.client call.number v ≡ 0 → PendsOn call client number v
      → Pends client number (own_tried v call) ⊎ (IsTold client number v (own_tried v call) ⊎ ((requests_oplock call.what ≡ true) × IsSwitched client number v (own_tried v call)))
  own-caused once new some = elim (caused-answered (turn_number v) (try v call (turn_number v)) other (caused-try (turn_number v) once some)) [
    | inl stays ↦ inl (any-weaker stays_if (is_asking_call client number) (own_tried v call).pending (λ e all. and_left (is_asking_call client number e) (not (calls_off v call e.1)) all) stays)
    | inr ends ↦ inr ends
  ]
    where
      other : is_same call.client call.number client number ≡ false
      other = differs stays_if client number its v call.client call.number
          (none-how_many (λ e. stays_if e && is_call_of call.client call.number e) v.pending
          (let none = new in
          let weaker = how_many-weaker (λ e. stays_if e && is_call_of call.client call.number e) (is_call_of call.client call.number) v.pending (λ e both. and_right (stays_if e) (is_call_of call.client call.number e) both) in omega arith)) some

-- ---- a settlement

-- what is ready unheld asks for no oplock, and answers no break
free-asks_none : (v : Volume) (client number : ℕ) (what : What) → has_come v client number what ≡ true → is_some (handle_granted what) ≡ false
free-asks_none v client number what come = unasked (has_come v client number) (λ handle level. refl) (λ handle level. refl) what come

module _ (client number : ℕ) where
  abbrev asking : ℕ × Pending → Bool
  asking = is_asking_call client number

  is_its : (e : ℕ × Pending) → asking e ≡ true → is_call_of client number e ≡ true
  is_its e both = and_right (asks_oplock e.1) (is_call client number e.1) both

  -- it stays, or is told
  abbrev StaysOrTold : Volume → Volume → Type 0
  StaysOrTold v w = Pends client number v → Pends client number w ⊎ IsTold client number v w

  -- what a call waits for changes nothing of this
  blocked-stays : (w : Volume) (turn : ℕ) (blockers : List Blocker) → Pends client number w → Pends client number (with_blockers w turn blockers)
  blocked-stays w turn blockers some =
      any-map asking (λ e. if e.0 == turn then (e.0, record e.1 { blockers = blockers }) else e) w.pending
      ∙ any-same (λ e. asking (if e.0 == turn then (e.0, record e.1 { blockers = blockers }) else e)) asking w.pending (λ e. elim (cases_Bool (e.0 == turn)) [ inl here ↦ rw here refl | inr apart ↦ rw apart refl ]) ∙ some

  -- a held call that is taken up is tried
  tried-stays : (v : Volume) (entry : ℕ × Pending) (outcome : Outcome) → is_same entry.1.call.client entry.1.call.number client number ≡ false → Pends client number (volume_after outcome) ⊎ IsTold client number v (volume_after outcome)
      → Pends client number (with_tried entry.0 entry.1 outcome) ⊎ IsTold client number v (with_tried entry.0 entry.1 outcome)
  tried-stays v entry (Done w reply) other caused = elim caused [
    | inl stays ↦ inl (other-ends asking client number is_its w entry.1.call.client entry.1.call.number reply other stays)
    | inr told ↦ inr (ends-more asking client number is_its tells v w entry.1.call.client entry.1.call.number reply told)
  ]
  tried-stays v entry (Stay w interim) other caused = elim caused [
    | inl stays ↦ inl (blocked-stays w entry.0 [] stays)
    | inr told ↦ inr told
  ]
  tried-stays v entry (Hold w blockers interim) other caused = elim caused [
    | inl stays ↦ inl (blocked-stays w entry.0 blockers stays)
    | inr told ↦ inr told
  ]

  -- the call that is taken up is none of these
  next-other : (v : Volume) (entry : ℕ × Pending) → MaySettle v → IsOnce v → IsNext v entry → Pends client number v → is_same entry.1.call.client entry.1.call.number client number ≡ false
  next-other v entry may once next some = differs asking client number is_its v entry.1.call.client entry.1.call.number
      (next-apart (is_call_of entry.1.call.client entry.1.call.number) asking v entry
      (let few : times entry.1.call.client entry.1.call.number v ≤ 1 = once entry.1.call.client entry.1.call.number in omega arith) next (is_same-refl entry.1.call.client entry.1.call.number)
      (rw asks_none refl)) some
    where
      asks_none : asks_oplock entry.1 ≡ false
      asks_none = elim (cases_Bool (is_held entry.1)) [
        | inl held ↦ unasked may_be_held (λ handle level. refl) (λ handle level. refl) entry.1.call.what (next-may_be_held v entry may next held)
        | inr free ↦ free-asks_none v entry.1.call.client entry.1.call.number entry.1.call.what (rw free at next.ready)
      ]

  -- which ends as what it waits for has come, or starves, or is tried
  taken_up-stays : (s : Settling) (entry : ℕ × Pending) → MaySettle s.volume → IsOnce s.volume → IsNext s.volume entry → StaysOrTold s.volume (taken_up s entry).volume
  taken_up-stays s entry may once next some = elim (cases_Bool (is_held entry.1)) [
    | inr free ↦ rw free (let comes = comes_over s entry.1 free next.ready in
        rw comes.is (inl (other-ends asking client number is_its comes.seen entry.1.call.client entry.1.call.number comes.reply other (rw comes.untouched.pending some))))
    | inl held ↦ rw held (elim (cases_Bool (starves s.starved entry.1)) [
      | inl starving ↦ rw starving (inl (other-ends asking client number is_its s.volume entry.1.call.client entry.1.call.number (record { status = NoMemory; body = Nothing }) other some))
      | inr plenty ↦ rw plenty (tried-stays s.volume entry (try s.volume entry.1.call entry.0) other (tried (next-may_be_held s.volume entry may next held)))
    ])
  ]
    where
      other : is_same entry.1.call.client entry.1.call.number client number ≡ false
      other = next-other s.volume entry may once next some

      tried : may_be_held entry.1.call.what ≡ true → Pends client number (volume_after (try s.volume entry.1.call entry.0)) ⊎ IsTold client number s.volume (volume_after (try s.volume entry.1.call entry.0))
      tried can = elim (cases_Bool (has_left s.volume entry.1.call.client)) [
        | inl gone ↦ rw gone (inl some)
        | inr here ↦ rw here (StaysOrEnds.stays (stays-by asking client number is_its tells (λ level ack. refl)
            (TriesByBreaks.so (what-by_breaks s.volume entry.0 entry.1.call.client entry.1.call.number entry.1.call.what (held-by_breaks entry.1.call.what can)))) some)
      ]

  -- the step of a settlement after so many, which changes nothing where no call is ready
  step-stays : (own : Volume) (steps : ℕ) (s : Settling) → GoesOn own s → StaysOrTold (repeated settle_step steps s).volume (repeated settle_step (suc steps) s).volume
  step-stays own zero s on some = elim (option_cases (next_ready s.volume)) [
    | inl none ↦ rw none (inl some)
    | inr found ↦ rw found.1 (taken_up-stays s found.0 on.may on.once (next_ready-is s.volume found.0 found.1) some)
  ]
  step-stays own (suc steps) s on some = elim (option_cases (next_ready s.volume)) [
    | inl none ↦ rw none (inl (rw none at some))
    | inr found ↦ rw found.1 (step-stays own steps (taken_up s found.0) (GoesOn-settle_step own s (taken_up s found.0) on (rw found.1 refl)).0 (rw found.1 at some))
  ]

  -- and at last only waits end
  end-stays : (own : Volume) (starved : List CallId) → GoesOn own (taken_up_all own starved) → Pends client number (taken_up_all own starved).volume → Pends client number (with_stalled (taken_up_all own starved).volume)
  end-stays own starved on some =
      let w : Volume = (taken_up_all own starved).volume in
      stalled-stays w on.once asking (any-weaker asking (λ e. not (is_wait e.1.call.what && all_wait w) && asking e) w.pending
      (λ e both. (let no_wait : is_wait e.1.call.what ≡ false = asks-fails is_wait (λ handle level. refl) (λ handle level. refl) e.1.call.what (and_left (asks_oplock e.1) (is_call client number e.1) both) in rw no_wait both)) some)

-- ---- in each turn of a run

pub granted_calls-end_for_cause : (setup : Setup) (history : List HistoryEntry) → CallsDiffer history → GrantedCallsEndForCause setup history
granted_calls-end_for_cause setup history differ front later entry r is runs = record {
  tried = λ client number. own-caused r.volume entry.call client number may.take_up.once new;
  stepped = λ steps client number. step-stays client number own steps (record { volume = own; starved = entry.starved; taken = [] }) (GoesOn-begins own entry.starved own_may);
  stalled = λ client number. end-stays client number own entry.starved (taken_up_all-goes own entry.starved own_may).1;
}
  where
    differ_to : CallsDiffer (front ++ entry ∷ [])
    differ_to = differ-before history front later entry is differ

    may : MayTurn r.volume
    may = (run-before setup front entry r differ_to runs).may

    new : times entry.call.client entry.call.number r.volume ≡ 0
    new = new-before setup front entry r differ_to runs

    own : Volume
    own = own_tried r.volume entry.call

    own_may : MayTakeUp own
    own_may = own-takes_up r.volume entry.call may new
