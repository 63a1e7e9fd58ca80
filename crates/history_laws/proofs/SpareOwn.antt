-- Every call leaves a bare wait as it is, but for what its own client does to it: closes, leavings, cancellations,
-- oplocks' requests and acknowledgements, and then all calls.
use Rattle.std.proofs.Common.{◌≡◌, ℕ, ◌+◌, ◌≤◌, Bool, true, false, not, List, [], ◌∷◌, refl, sym, ◌∙◌, arith, inl, inr, Option, Some, None}
use Rattle.std.specs.List.{filter, fold}
use Rattle.std.specs.Option.{option_map_or}
use Rattle.std.specs.Prelude.{◌==◌, ◌&&◌, ◌||◌, if◌then◌else◌, nat_lt, slice_index_or, slice_set}
use Rattle.std.proofs.lemmas.Bool.{cases_Bool, eq-eqb, eqb-true}
use Rattle.std.proofs.lemmas.List.{get_or-set_other}
use Rattle.fsa_types.specs.Rows.{row_of}
use Rattle.fsa_types.specs.declared.oplock.Class.TheVariants.{Clash}
use Rattle.fsa_types.specs.declared.reply.Body.TheVariants.{Nothing}
use Rattle.fsa_types.specs.declared.reply.Interim.TheVariants.{Granted}
use Rattle.fsa_types.specs.declared.reply.Reply.{Reply}
use Rattle.fsa_types.specs.declared.request.Call.{Call}
use Rattle.fsa_types.specs.declared.request.Level.{Level}
use Rattle.fsa_types.specs.declared.request.Request.TheVariants as request
use Rattle.fsa_types.specs.declared.request.What.{What}
use Rattle.fsa_types.specs.declared.request.What.TheVariants.{Ask, Tick, WaitFor, Leave}
use Rattle.fsa_types.specs.declared.status.Status.{Status}
use Rattle.fsa_types.specs.declared.status.Status.TheVariants.{Cancelled, InvalidHandle, InvalidParameter, OplockSwitchedToNewHandle}
use Rattle.fsa_model.specs.Close.{close_at, closed_status, handles_of_client, is_call_on, is_left_behind, names, pending_by_turn, try_close, try_leave, with_all_closed, with_calls_ended, with_client_gone, with_closed, with_mark_on_close}
use Rattle.fsa_model.specs.Edits.{is_call, with_end, without_handle, without_lock, without_oplock}
use Rattle.fsa_model.specs.Grant.{ack_at, ack_keeping, oplock_at, oplock_by, oplock_on, switched, try_ack, try_oplock, with_call_ended, with_granted, with_level_kept, with_switched}
use Rattle.fsa_model.specs.Locking.{try_unlock, unlock_at, unlock_by, unlock_range}
use Rattle.fsa_model.specs.Lookups.{has_left, number_of}
use Rattle.fsa_model.specs.Once.{how_many, is_end}
use Rattle.fsa_model.specs.Outcome.{Outcome, Done, Stay, refused}
use Rattle.fsa_model.specs.Frame.{is_leave}
use Rattle.fsa_model.specs.Try.{try, try_what}
use Rattle.fsa_model.specs.Turn.{volume_after}
use Rattle.fsa_model.specs.Volume.{Handle, Oplock, Pending, Volume}
use Rattle.fsa_model.specs.Waiting.{is_granted_under, is_wait, try_cancel, with_oplock_given_up}
use Rattle.fsa_model.proofs.CountLaws.{and_left, and_right, how_many-filter, how_many-filter_le, how_many-in_order, how_many-weaker}
use Rattle.fsa_model.proofs.RowLaws.{option_cases}
use Rattle.fsa_model.proofs.OnceLaws.{fewer-calls_ended}
use Rattle.history_laws.proofs.ByBreaks.{TriesByBreaks}
use Rattle.history_laws.proofs.SpareLaws.{IsBareWait, IsBareWait-fewer, Spares, Spares-by, Spares-end, Spares-next, Spares-same, Spares-still, filter-other_end, other_under}
use Rattle.history_laws.specs.WaitEnds.{cancels, is_cancel_of}
use Rattle.history_laws.proofs.TriesByBreaks.{changes_otherwise, marked_on_close, swept, what-by_breaks}

module _ (who number : ℕ) where
  -- ---- calls that end, but not this one

  oplocks-calls : (status_of : What → Status) (calls : List (ℕ × Pending)) (v : Volume) → (with_calls_ended status_of calls v).oplocks ≡ v.oplocks
  oplocks-calls status_of [] v = refl
  oplocks-calls status_of (entry ∷ calls) v = oplocks-calls status_of calls (with_end v entry.1.call.client entry.1.call.number _)

  pub left-calls : (status_of : What → Status) (calls : List (ℕ × Pending)) (v : Volume) → (with_calls_ended status_of calls v).left ≡ v.left
  left-calls status_of [] v = refl
  left-calls status_of (entry ∷ calls) v = left-calls status_of calls (with_end v entry.1.call.client entry.1.call.number _)

  ended-calls : (status_of : What → Status) (calls : List (ℕ × Pending)) (v : Volume) → how_many (λ e. is_call who number e.1) calls ≡ 0
      → filter (is_end who number) (with_calls_ended status_of calls v).ended ≡ filter (is_end who number) v.ended
  ended-calls status_of [] v none = refl
  ended-calls status_of (entry ∷ calls) v none = elim (cases_Bool (is_call who number entry.1)) [
    | inl is ↦ (let some : 1 + how_many (λ e. is_call who number e.1) calls ≡ 0 = rw is at none in absurd (omega arith))
    | inr isnt ↦ (let rest : 0 + how_many (λ e. is_call who number e.1) calls ≡ 0 = rw isnt at none in
        ended-calls status_of calls (with_end v entry.1.call.client entry.1.call.number (record { status = status_of entry.1.call.what; body = Nothing })) (omega arith)
        ∙ filter-other_end who number v.ended entry.1.call.client entry.1.call.number _ isnt)
  ]

  pub IsBareWait-calls : (status_of : What → Status) (calls : List (ℕ × Pending)) (v : Volume) → IsBareWait who number v → IsBareWait who number (with_calls_ended status_of calls v)
  IsBareWait-calls status_of calls v bare =
      IsBareWait-fewer who number {v = v} {w = with_calls_ended status_of calls v} (λ turn. rw (oplocks-calls status_of calls v) (omega arith)) (fewer-calls_ended status_of calls v) bare

  pub Spares-calls : (status_of : What → Status) (test : Pending → Bool) (v : Volume) → ((p : Pending) → test p ≡ true → is_call who number p ≡ true → is_wait p.call.what ≡ true → ⊥)
      → Spares who number v (with_calls_ended status_of (pending_by_turn test v) v)
  Spares-calls status_of test v apart = record {
    kept = IsBareWait-calls status_of (pending_by_turn test v) v;
    ended = λ bare. ended-calls status_of (pending_by_turn test v) v
        (let ordered = how_many-in_order (λ (e : ℕ × Pending). is_call who number e.1) (λ a b. nat_lt a.0 b.0) (filter (λ (e : ℕ × Pending). test e.1) v.pending) in
        let kept = how_many-filter (λ (e : ℕ × Pending). is_call who number e.1) (λ e. test e.1) v.pending in
        let weaker = how_many-weaker (λ (e : ℕ × Pending). test e.1 && is_call who number e.1) (λ e. is_call who number e.1 && not (is_wait e.1.call.what)) v.pending (λ e both. others e.1 (and_left (test e.1) (is_call who number e.1) both) (and_right (test e.1) (is_call who number e.1) both)) in
        let none = bare.waits in omega arith);
    left = rw (left-calls status_of (pending_by_turn test v) v) refl;
  }
    where
      others : (p : Pending) → test p ≡ true → is_call who number p ≡ true → (is_call who number p && not (is_wait p.call.what)) ≡ true
      others p passes its = elim (cases_Bool (is_wait p.call.what)) [ inl is ↦ absurd (apart p passes its is) | inr isnt ↦ rw (its, isnt) refl ]

  -- ---- closes, and clients that leave

  -- with fewer oplocks
  fewer_oplocks : (v w : Volume) (keep : Oplock → Bool) → w.oplocks ≡ filter keep v.oplocks → w.pending ≡ v.pending → w.ended ≡ v.ended → w.left ≡ v.left → Spares who number v w
  fewer_oplocks v w keep oplocks pending ended left = record {
    kept = IsBareWait-fewer who number {v = v} {w = w} (λ turn. rw oplocks (how_many-filter_le (is_granted_under turn) keep v.oplocks)) (λ test. rw pending (omega arith));
    ended = λ bare. rw ended refl;
    left = rw left refl;
  }

  names-no_wait : (what : What) (handle : ℕ) → names what handle ≡ true → is_wait what ≡ true → ⊥
  names-no_wait (WaitFor earlier) handle is waits = (let impossible : false ≡ true = is in cc)
  names-no_wait (Ask asked) handle is waits = (let impossible : false ≡ true = waits in cc)
  names-no_wait (Tick ticks) handle is waits = (let impossible : false ≡ true = waits in cc)
  names-no_wait Leave handle is waits = (let impossible : false ≡ true = waits in cc)

  closed : (v : Volume) (id : ℕ) (handle : Handle) → Spares who number v (with_closed v id handle)
  unfolding with_closed
  closed v id handle =
      let over : Volume = with_calls_ended closed_status (pending_by_turn (is_call_on handle) v) v in
      let gone : Volume = without_handle over id in
      let marked : Volume = with_mark_on_close gone handle in
      Spares-next who number (Spares-calls closed_status (is_call_on handle) v (λ p on its waits. names-no_wait p.call.what handle.number (and_right (p.call.client == handle.client) (names p.call.what handle.number) on) waits))
      (Spares-next who number (fewer_oplocks over gone (λ oplock. not (oplock.handle == id)) refl refl refl refl) (Spares-next who number (Spares-by who number (marked_on_close {kind = Clash} gone handle)) (Spares-by who number (swept {kind = Clash} marked handle))))

  pub all_closed : (handles : List (ℕ × Handle)) (v : Volume) → Spares who number v (with_all_closed handles v)
  all_closed [] v = Spares-same who number v
  all_closed (entry ∷ handles) v = Spares-next who number (closed v entry.0 entry.1) (all_closed handles (with_closed v entry.0 entry.1))

  -- another client leaves
  left_other : (left : List Bool) (client : ℕ) → (client == who) ≡ false → slice_index_or (slice_set left client true) who false ≡ slice_index_or left who false
  left_other left client other = get_or-set_other left client who true false (λ same. ne-self client who other (sym same))
    where
      ne-self : (a b : ℕ) → (a == b) ≡ false → a ≡ b → ⊥
      ne-self a b differs same = (let is : (a == b) ≡ true = eq-eqb a b same in let impossible : true ≡ false = sym is ∙ differs in cc)

  -- ---- outcomes

  -- it has ended as it had, and its client has left where it had
  pub record KeepsEnds (v w : Volume) : Type 0 where
    pub ended : IsBareWait who number v → filter (is_end who number) w.ended ≡ filter (is_end who number) v.ended
    pub left : has_left w who ≡ has_left v who

  pub record TriesKeep (v : Volume) (outcome : Outcome) : Type 0 where
    pub so : KeepsEnds v (volume_after outcome)

  keep-spares : {v : Volume} {outcome : Outcome} → Spares who number v (volume_after outcome) → TriesKeep v outcome
  keep-spares spares = record { so = record { ended = spares.ended; left = spares.left } }

  keep-if : {v : Volume} (test : Bool) (one other : Outcome) → TriesKeep v one → TriesKeep v other → TriesKeep v (if test then one else other)
  keep-if true one other holds fails = holds
  keep-if false one other holds fails = fails

  keep-option : {X : Type 0} {v : Volume} (found : Option X) (some : X → Outcome) (none : Outcome) → ((x : X) → TriesKeep v (some x)) → TriesKeep v none → TriesKeep v (option_map_or some found none)
  keep-option None some none with_some with_none = with_none
  keep-option (Some x) some none with_some with_none = with_some x

  keep-refused : (v : Volume) (status : Status) → TriesKeep v (refused v status)
  keep-refused v status = keep-spares (Spares-same who number v)

  keep-closed : (v : Volume) (id : ℕ) (handle : Handle) (reply : Reply) → TriesKeep v (Done (with_closed v id handle) reply)
  keep-closed v id handle reply = keep-spares (closed v id handle)

  closes : (v : Volume) (client handle : ℕ) → TriesKeep v (try_close v client handle)
  unfolding try_close close_at
  closes v client handle = search (keep-option, keep-refused, keep-closed) depth 20

  leave_other : (v : Volume) (client : ℕ) → (client == who) ≡ false → TriesKeep v (try_leave v client)
  unfolding try_leave with_client_gone
  leave_other v client other =
      let over : Volume = with_calls_ended (λ _. Cancelled) (pending_by_turn (is_left_behind client) v) v in
      let gone : Volume = with_all_closed (handles_of_client v client) over in
      keep-spares (Spares-next who number (Spares-calls (λ _. Cancelled) (is_left_behind client) v (λ p on its waits. another p on its))
      (Spares-next who number (all_closed (handles_of_client v client) over) (record { kept = λ bare. record { waits = bare.waits; none = bare.none }; ended = λ bare. refl; left = left_other gone.left client other })))
    where
      another : (p : Pending) → is_left_behind client p ≡ true → is_call who number p ≡ true → ⊥
      another p on its =
          let first : p.call.client ≡ client = eqb-true p.call.client client (and_left (p.call.client == client) _ on) in
          let second : p.call.client ≡ who = eqb-true p.call.client who (and_left (p.call.client == who) _ its) in
          let is : (client == who) ≡ true = eq-eqb client who (sym first ∙ second) in let impossible : true ≡ false = sym is ∙ other in cc

  -- ---- unlocks, and cancellations of other calls

  keep-unlocked : (v : Volume) (id at count : ℕ) (reply : Reply) → TriesKeep v (Done (without_lock v id at count) reply)
  keep-unlocked v id at count reply = keep-spares (Spares-still who number {v = v} {w = without_lock v id at count} refl refl refl refl)

  unlocks : (v : Volume) (client handle at count : ℕ) → TriesKeep v (try_unlock v client handle at count)
  unfolding try_unlock unlock_at unlock_by unlock_range
  unlocks v client handle at count = search (keep-option, keep-refused, keep-unlocked) depth 20

  cancels_other : (v : Volume) (client other : ℕ) → (client == who && other == number) ≡ false → TriesKeep v (try_cancel v client other)
  unfolding try_cancel
  cancels_other v client other differs =
      keep-option (number_of (is_call client other) v.pending) _ _
      (λ turn. keep-spares (Spares-next who number (fewer_oplocks v (with_oplock_given_up v turn) (λ oplock. not (is_granted_under turn oplock)) refl refl refl refl)
      (Spares-end who number (with_oplock_given_up v turn) client other (record { status = Cancelled; body = Nothing }) differs))) (keep-refused v InvalidParameter)

  -- ---- oplocks

  -- the oplocks that are switched were granted, and are told to other calls
  pending-ended : (v : Volume) (turn : Option ℕ) (status : Status) (test : ℕ × Pending → Bool) → how_many test (with_call_ended v turn status).pending ≤ how_many test v.pending
  pending-ended v None status test = omega arith
  pending-ended v (Some turn) status test = elim (option_cases (row_of v.pending turn)) [
    | inl none ↦ rw none (omega arith)
    | inr some ↦ rw some.1 (how_many-filter_le test (λ e. not (is_call some.0.call.client some.0.call.number e.1)) v.pending)
  ]

  left-ended : (v : Volume) (turn : Option ℕ) (status : Status) → (with_call_ended v turn status).left ≡ v.left
  left-ended v None status = refl
  left-ended v (Some turn) status = elim (option_cases (row_of v.pending turn)) [ inl none ↦ rw none refl | inr some ↦ rw some.1 refl ]

  ended-ended : (v w : Volume) (turn : Option ℕ) (status : Status) → IsBareWait who number v → ((test : ℕ × Pending → Bool) → how_many test w.pending ≤ how_many test v.pending)
      → ((t : ℕ) → turn ≡ Some t → 1 ≤ how_many (is_granted_under t) v.oplocks) → filter (is_end who number) (with_call_ended w turn status).ended ≡ filter (is_end who number) w.ended
  ended-ended v w None status bare fewer granted = refl
  ended-ended v w (Some turn) status bare fewer granted = elim (option_cases (row_of w.pending turn)) [
    | inl none ↦ rw none refl
    | inr some ↦ rw some.1 (filter-other_end who number w.ended some.0.call.client some.0.call.number _ (other_under who number v w turn some.0 bare fewer (granted turn refl) some.1))
  ]

  left-switched : (oplocks : List Oplock) (v : Volume) → (fold with_switched v oplocks).left ≡ v.left
  left-switched [] v = refl
  left-switched (o ∷ oplocks) v = left-switched oplocks (with_switched v o) ∙ left-ended (without_oplock v o.handle) o.call OplockSwitchedToNewHandle

  ended-switched : (oplocks : List Oplock) (v w : Volume) → IsBareWait who number v → ((test : ℕ × Pending → Bool) → how_many test w.pending ≤ how_many test v.pending)
      → ((test : Oplock → Bool) → how_many test oplocks ≤ how_many test v.oplocks) → filter (is_end who number) (fold with_switched w oplocks).ended ≡ filter (is_end who number) w.ended
  ended-switched [] v w bare fewer among = refl
  ended-switched (o ∷ oplocks) v w bare fewer among =
      ended-switched oplocks v (with_switched w o) bare (λ test. let one = fewer test in let two = pending-ended (without_oplock w o.handle) o.call OplockSwitchedToNewHandle test in omega arith) (λ test. let few = among test in omega arith)
      ∙ ended-ended v (without_oplock w o.handle) o.call OplockSwitchedToNewHandle bare fewer (λ t call. granted t call)
    where
      granted : (t : ℕ) → o.call ≡ Some t → 1 ≤ how_many (is_granted_under t) v.oplocks
      granted t call = (let few = among (is_granted_under t) in let here : is_granted_under t o ≡ true = rw call (eq-eqb t t refl) in
          let more : 1 + how_many (is_granted_under t) oplocks ≤ how_many (is_granted_under t) v.oplocks = rw here at few in omega arith)

  keep-granted : (v : Volume) (id key stream : ℕ) (level : Level) (turn : ℕ) → TriesKeep v (Stay (with_granted v id key stream level turn) (Granted level))
  keep-granted v id key stream level turn = record {
    so = record {
      ended = λ bare. ended-switched (switched v id key stream) v v bare (λ test. omega arith) (λ test. how_many-switched test);
      left = rw (left-switched (switched v id key stream) v) refl;
    };
  }
    where
      how_many-switched : (test : Oplock → Bool) → how_many test (switched v id key stream) ≤ how_many test v.oplocks
      how_many-switched test = how_many-filter_le test _ v.oplocks

  oplocks : (v : Volume) (client handle : ℕ) (level : Level) (turn : ℕ) → TriesKeep v (try_oplock v client handle level turn)
  unfolding try_oplock oplock_at oplock_by oplock_on
  oplocks v client handle level turn = search (keep-if, keep-option, keep-refused, keep-granted) depth 20

  keep-level : (v : Volume) (id : ℕ) (level : Level) (turn : ℕ) → TriesKeep v (Stay (with_level_kept v id level turn) (Granted level))
  keep-level v id level turn = record { so = record { ended = λ bare. refl; left = refl } }

  keep-none : (v : Volume) (id : ℕ) (reply : Reply) → TriesKeep v (Done (without_oplock v id) reply)
  keep-none v id reply = record { so = record { ended = λ bare. refl; left = refl } }

  acks : (v : Volume) (client handle : ℕ) (level : Level) (turn : ℕ) → TriesKeep v (try_ack v client handle level turn)
  unfolding try_ack ack_at ack_keeping
  acks v client handle level turn = search (keep-if, keep-option, keep-refused, keep-level, keep-none) depth 20

  -- ---- any call but the client's leaving and its cancellation of this call

  what-keeps : (v : Volume) (turn client call : ℕ) (what : What) → (client == who && (is_leave what || is_cancel_of number what)) ≡ false → TriesKeep v (try_what v turn client call what)
  what-keeps v turn client call what other = elim (cases_Bool (changes_otherwise what)) [
    | inl more ↦ own-keeps v turn client call what more other
    | inr none ↦ keep-spares (Spares-by who number (TriesByBreaks.so (what-by_breaks v turn client call what none)))
  ]
    where
      and_true_right : (b : Bool) → (b && true) ≡ false → b ≡ false
      and_true_right true is = is
      and_true_right false is = refl

      own-keeps : (v : Volume) (turn client call : ℕ) (what : What) → changes_otherwise what ≡ true → (client == who && (is_leave what || is_cancel_of number what)) ≡ false → TriesKeep v (try_what v turn client call what)
      own-keeps v turn client call (Ask (request.Close handle)) more other = closes v client handle
      own-keeps v turn client call (Ask (request.Unlock handle at count)) more other = unlocks v client handle at count
      own-keeps v turn client call (Ask (request.Oplock handle level)) more other = oplocks v client handle level turn
      own-keeps v turn client call (Ask (request.Ack handle level)) more other = acks v client handle level turn
      own-keeps v turn client call (Ask (request.Cancel cancelled)) more other = cancels_other v client cancelled other
      own-keeps v turn client call Leave more other = leave_other v client (and_true_right (client == who) other)
      own-keeps v turn client call _ more other = cc

  pub try-keeps_ends : (v : Volume) (call : Call) (turn : ℕ) → cancels who number call ≡ false → TriesKeep v (try v call turn)
  try-keeps_ends v call turn other = keep-if (has_left v call.client) _ _ (keep-refused v InvalidHandle) (what-keeps v turn call.client call.number call.what other)
