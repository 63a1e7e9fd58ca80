-- A wait ends in few ways, over a whole run.
use Rattle.std.proofs.Common.{◌≡◌, ℕ, zero, suc, ◌+◌, ◌≤◌, Bool, true, false, not, List, [], ◌∷◌, ◌++◌, refl, ap, sym, ◌∙◌, arith, inl, inr, Some}
use Rattle.std.specs.List.{filter, list_any}
use Rattle.std.specs.Prelude.{◌==◌, ◌&&◌, ◌||◌, map, nat_le, nat_lt, slice_index_or}
use Rattle.std.proofs.lemmas.Bool.{cases_Bool, eqb-true, lt-ltb, or_right}
use Rattle.fsa_types.specs.declared.reply.Blocker.{Blocker}
use Rattle.fsa_types.specs.declared.reply.Body.TheVariants.{Nothing}
use Rattle.fsa_types.specs.declared.reply.EndOf.{EndOf}
use Rattle.fsa_types.specs.declared.reply.Reply.{Reply}
use Rattle.fsa_types.specs.declared.request.Call.{Call}
use Rattle.fsa_types.specs.declared.request.CallId.{CallId}
use Rattle.fsa_types.specs.declared.request.Request.TheVariants.{Notify, Cancel}
use Rattle.fsa_types.specs.declared.request.What.{What}
use Rattle.fsa_types.specs.declared.request.What.TheVariants.{Ask, WaitFor, Leave}
use Rattle.fsa_types.specs.declared.status.Status.{Status}
use Rattle.fsa_types.specs.declared.status.Status.TheVariants.{Cancelled, InvalidHandle, InvalidParameter, NoMemory, Stalled, Success}
use Rattle.fsa_model.specs.Close.{handles_of_client, is_left_behind, pending_by_turn, try_leave, with_all_closed, with_calls_ended, with_client_gone}
use Rattle.fsa_model.specs.Edits.{is_call, with_end, with_pending}
use Rattle.fsa_model.specs.Engine.{CallsDiffer, is_entry_of, own_tried}
use Rattle.fsa_model.specs.History.{HistoryEntry, Run, run, steps, turn_on}
use Rattle.fsa_model.specs.Frame.{is_leave}
use Rattle.fsa_model.specs.Lookups.{handle_of, has_left, number_of}
use Rattle.fsa_model.specs.Once.{how_many, is_end, made, times}
use Rattle.fsa_model.specs.Outcome.{Outcome, Done, Stay, Hold}
use Rattle.fsa_model.specs.Settle.{Settling, come_over, starves, taken_up, taken_up_all, with_tried}
use Rattle.fsa_model.specs.Settling.{MaySettle, MayTurn, is_under, may_be_held}
use Rattle.fsa_model.specs.Setup.{Client, Setup}
use Rattle.fsa_model.specs.Try.{try, try_what}
use Rattle.fsa_model.specs.Turn.{answered, settlement, turn, turn_number, volume_after}
use Rattle.fsa_model.specs.Volume.{Pending, Volume, fresh}
use Rattle.fsa_model.specs.Waiting.{all_wait, has_ended, is_granted_under, is_held, is_pending, is_wait, try_cancel, try_wait, waits_in_order, with_stalled}
use Rattle.fsa_model.specs.Watching.{due_size, report}
use Rattle.fsa_model.proofs.CountLaws.{and_left, and_right, how_many-append, how_many-filter, how_many-filter_le, how_many-weaker, none-how_many}
use Rattle.fsa_model.proofs.OnceLaws.{is_same, is_same-refl}
use Rattle.fsa_model.proofs.RowLaws.{option_cases}
use Rattle.fsa_model.proofs.SettleLaws.{IsNext, Steps, Steps-taken_up, next-may_be_held, try-tries}
use Rattle.fsa_model.proofs.TryLaws.{Tries, TriesTo, Leaves}
use Rattle.fsa_model.proofs.TurnLaws.{TriedTo, Turns, try-keeps}
use Rattle.fsa_model.proofs.WatchLaws.{comes_over}
use Rattle.history_laws.specs.WaitEnds.{cancels, cancels_in, ends_otherwise, is_cancel_of, is_wait_end, leaves, leaves_in}
use Rattle.history_laws.proofs.LeavingLaws.{leave_isnt_held, answered_left}
use Rattle.history_laws.proofs.SpareLaws.{IsBareWait, IsBareWait-fewer, Spares}
use Rattle.history_laws.proofs.SpareOwn.{IsBareWait-calls, all_closed, left-calls, KeepsEnds, TriesKeep, try-keeps_ends}
use Rattle.history_laws.proofs.TurnByTurn.{Differ, Parts, differ-front, from-keeps, new-call, own-may, parts, run-keeps, settled-keeps, taken_up-keeps}
use Rattle.history_laws.proofs.AnyLaws.{and_none}

module _ (who number : ℕ) (fine : Reply → Bool) where
  -- each end of the call is one of these
  abbrev pub AreFine : List EndOf → Type 0
  AreFine ended = how_many (λ end. is_end who number end && not (fine end.reply)) ended ≡ 0

  fine-same : (a b : List EndOf) → filter (is_end who number) b ≡ filter (is_end who number) a → AreFine a → AreFine b
  fine-same a b same all =
      let first = how_many-filter (λ (end : EndOf). not (fine end.reply)) (is_end who number) a in
      let second = how_many-filter (λ (end : EndOf). not (fine end.reply)) (is_end who number) b in
      let both = ap (how_many (λ (end : EndOf). not (fine end.reply))) same in omega arith

  pub fine-more : (ended : List EndOf) (end : EndOf) → (is_end who number end ≡ true → fine end.reply ≡ true) → AreFine ended → AreFine (ended ++ end ∷ [])
  fine-more ended end so all =
      let pushed = how_many-append (λ e. is_end who number e && not (fine e.reply)) ended (end ∷ []) in
      elim (cases_Bool (is_end who number end)) [
        | inr isnt ↦ (let none : how_many (λ e. is_end who number e && not (fine e.reply)) (ended ++ end ∷ []) ≡ how_many (λ e. is_end who number e && not (fine e.reply)) ended + (0 + 0) = rw isnt at pushed in omega arith)
        | inl is ↦ (let none : how_many (λ e. is_end who number e && not (fine e.reply)) (ended ++ end ∷ []) ≡ how_many (λ e. is_end who number e && not (fine e.reply)) ended + (0 + 0) = rw (is, so is) at pushed in omega arith)
      ]

  -- calls that end with a status that is fine
  pub fine-calls : (status_of : What → Status) → ((what : What) → fine (record { status = status_of what; body = Nothing }) ≡ true) → (calls : List (ℕ × Pending)) (v : Volume) → AreFine v.ended → AreFine (with_calls_ended status_of calls v).ended
  fine-calls status_of so [] v all = all
  fine-calls status_of so (entry ∷ calls) v all =
      fine-calls status_of so calls (with_end v entry.1.call.client entry.1.call.number (record { status = status_of entry.1.call.what; body = Nothing }))
      (fine-more v.ended (record { client = entry.1.call.client; number = entry.1.call.number; reply = record { status = status_of entry.1.call.what; body = Nothing } }) (λ its. so entry.1.call.what) all)

  -- the call is a bare wait, and has ended so if it has
  pub record EndsWell (v : Volume) : Type 0 where
    pub bare : IsBareWait who number v
    pub ended : AreFine v.ended

  -- ---- a step of a settlement

  wait_next : (v : Volume) (entry : ℕ × Pending) → IsBareWait who number v → IsNext v entry → is_call who number entry.1 ≡ true → is_wait entry.1.call.what ≡ true
  wait_next v entry bare next its = elim (cases_Bool (is_wait entry.1.call.what)) [
    | inl is ↦ is
    | inr isnt ↦ (let some = next.is_there (λ e. is_call who number e.1 && not (is_wait e.1.call.what)) (rw (its, isnt) refl) in let none = bare.waits in absurd (omega arith))
  ]

  wait-not_held : (what : What) → is_wait what ≡ true → may_be_held what ≡ true → ⊥
  wait-not_held (WaitFor earlier) waits held = (let impossible : false ≡ true = held in cc)
  wait-not_held (Ask asked) waits held = (let impossible : false ≡ true = waits in cc)
  wait-not_held Leave waits held = (let impossible : false ≡ true = waits in cc)
  wait-not_held _ waits held = (let impossible : false ≡ true = waits in cc)

  pub held_other : (v : Volume) (entry : ℕ × Pending) → MaySettle v → IsBareWait who number v → IsNext v entry → is_held entry.1 ≡ true → is_call who number entry.1 ≡ false
  held_other v entry may bare next held = elim (cases_Bool (is_call who number entry.1)) [
    | inr isnt ↦ isnt
    | inl its ↦ absurd (wait-not_held entry.1.call.what (wait_next v entry bare next its) (next-may_be_held v entry may next held))
  ]

  pub bare-onward : {v w : Volume} → ((turn : ℕ) → how_many (is_granted_under turn) w.oplocks ≤ how_many (is_granted_under turn) v.oplocks)
      → ((test : ℕ → Call → Bool) → how_many (λ e. test e.0 e.1.call) w.pending ≤ how_many (λ e. test e.0 e.1.call) v.pending) → IsBareWait who number v → IsBareWait who number w
  bare-onward granted fewer bare = record {
    waits = (let few = fewer (λ turn call. (call.client == who && call.number == number) && not (is_wait call.what)) in let none = bare.waits in omega arith);
    none = λ turn some. (let many = granted turn in let few = fewer (λ under call. under == turn && (call.client == who && call.number == number)) in let none = bare.none turn (omega arith) in omega arith);
  }

  held-goes_on : (what : What) → may_be_held what ≡ true → (is_leave what || is_cancel_of number what) ≡ false
  held-goes_on (Ask (Cancel other)) held = (let impossible : false ≡ true = held in cc)
  held-goes_on Leave held = (let impossible : false ≡ true = held in cc)
  held-goes_on (Ask _) held = refl
  held-goes_on _ held = refl

  fine-come : (s : Settling) (pending : Pending) (what : What) → (is_call who number pending ≡ true → is_wait what ≡ true) → (is_call who number pending ≡ true → fine (record { status = Success; body = Nothing }) ≡ true)
      → AreFine s.volume.ended → AreFine (come_over s pending what).volume.ended
  fine-come s pending (Ask (Notify handle asked whole room)) its comes all = elim (option_cases (handle_of s.volume pending.call.client handle)) [
    | inl none ↦ rw none all
    | inr some ↦ rw some.1 (elim (cases_Bool (starves s.starved pending && nat_le (due_size s.volume some.0) room)) [
      | inl starving ↦ rw starving (fine-more s.volume.ended (record { client = pending.call.client; number = pending.call.number; reply = record { status = NoMemory; body = Nothing } })
          (λ is. (let impossible : false ≡ true = its is in cc)) all)
      | inr reports ↦ rw reports (fine-more s.volume.ended (record { client = pending.call.client; number = pending.call.number; reply = report s.volume some.0 room })
          (λ is. (let impossible : false ≡ true = its is in cc)) all)
    ])
  ]
  fine-come s pending _ its comes all = fine-more s.volume.ended (record { client = pending.call.client; number = pending.call.number; reply = record { status = Success; body = Nothing } }) comes all

  fine-tried : (turn : ℕ) (pending : Pending) (outcome : Outcome) → is_call who number pending ≡ false → AreFine (volume_after outcome).ended → AreFine (with_tried turn pending outcome).ended
  fine-tried turn pending (Done v reply) other all =
      fine-more v.ended (record { client = pending.call.client; number = pending.call.number; reply = reply }) (λ is. (let impossible : true ≡ false = sym is ∙ other in cc)) all
  fine-tried turn pending (Stay v interim) other all = all
  fine-tried turn pending (Hold v blockers interim) other all = all

  -- a try that doesn't cancel it
  fine-try : (v : Volume) (call : Call) (turn : ℕ) → EndsWell v → cancels who number call ≡ false → AreFine (volume_after (try v call turn)).ended
  fine-try v call turn well other =
      let keeps : TriesKeep who number v (try v call turn) = try-keeps_ends who number v call turn other in
      fine-same v.ended (volume_after (try v call turn)).ended (keeps.so.ended well.bare) well.ended

  pub fine-taken_up : (s : Settling) (entry : ℕ × Pending) → MaySettle s.volume → EndsWell s.volume → IsNext s.volume entry → (is_call who number entry.1 ≡ true → fine (record { status = Success; body = Nothing }) ≡ true)
      → AreFine (taken_up s entry).volume.ended
  fine-taken_up s entry may well next comes = elim (cases_Bool (is_held entry.1)) [
    | inr waits ↦ rw waits (fine-come s entry.1 entry.1.call.what (wait_next s.volume entry well.bare next) comes well.ended)
    | inl held ↦ (let other : is_call who number entry.1 ≡ false = held_other s.volume entry may well.bare next held in
        rw held (elim (cases_Bool (starves s.starved entry.1)) [
          | inl starving ↦ rw starving (fine-more s.volume.ended (record { client = entry.1.call.client; number = entry.1.call.number; reply = record { status = NoMemory; body = Nothing } })
              (λ is. (let impossible : true ≡ false = sym is ∙ other in cc)) well.ended)
          | inr plenty ↦ rw plenty (fine-tried entry.0 entry.1 (try s.volume entry.1.call entry.0) other
              (fine-try s.volume entry.1.call entry.0 well (rw (held-goes_on entry.1.call.what (next-may_be_held s.volume entry may next held)) (and_none (entry.1.call.client == who) false refl))))
        ]))
  ]

  granted-tried : (v : Volume) (turn : ℕ) (pending : Pending) (outcome : Outcome) → TriesTo Leaves v outcome → (other : ℕ)
      → how_many (is_granted_under other) (with_tried turn pending outcome).oplocks ≤ how_many (is_granted_under other) v.oplocks
  granted-tried v turn pending (Done w reply) tries other = tries.0.keeps.granted other
  granted-tried v turn pending (Stay w interim) tries other = absurd tries
  granted-tried v turn pending (Hold w blockers interim) tries other = tries.0.keeps.granted other

  pub granted-taken_up : (s : Settling) (entry : ℕ × Pending) → MaySettle s.volume → IsNext s.volume entry → (other : ℕ)
      → how_many (is_granted_under other) (taken_up s entry).volume.oplocks ≤ how_many (is_granted_under other) s.volume.oplocks
  granted-taken_up s entry may next other = elim (cases_Bool (is_held entry.1)) [
    | inr waits ↦ rw waits (let comes = comes_over s entry.1 waits next.ready in
        let same = ap (λ (v : Volume). how_many (is_granted_under other) v.oplocks) comes.is in
        let seen = ap (λ oplocks. how_many (is_granted_under other) oplocks) comes.untouched.oplocks in omega arith)
    | inl held ↦ rw held (elim (cases_Bool (starves s.starved entry.1)) [
      | inl starving ↦ rw starving (omega arith)
      | inr plenty ↦ rw plenty (granted-tried s.volume entry.0 entry.1 (try s.volume entry.1.call entry.0)
          (Tries.so (try-tries s.volume entry.1.call entry.0 may.oplocks (next-may_be_held s.volume entry may next held))) other)
    ])
  ]

  -- ---- the turn's own call

  -- another call becomes pending in its turn
  bare-pending : (v w : Volume) (call : Call) (blockers : List Blocker) → MayTurn v → IsBareWait who number v → (call.client == who && call.number == number) ≡ false
      → ((test : ℕ × Pending → Bool) → how_many test w.pending ≤ how_many test v.pending)
      → ((other : ℕ) → (turn_number v == other) ≡ false → how_many (is_granted_under other) w.oplocks ≤ how_many (is_granted_under other) v.oplocks)
      → IsBareWait who number (with_pending w (turn_number v) call blockers)
  bare-pending v w call blockers may bare other fewer granted = record {
    waits =
        (let pushed = how_many-append (λ e. is_call who number e.1 && not (is_wait e.1.call.what)) w.pending ((turn_number v, record { call = call; blockers = blockers }) ∷ []) in
        let all : how_many (λ e. is_call who number e.1 && not (is_wait e.1.call.what)) (w.pending ++ (turn_number v, record { call = call; blockers = blockers }) ∷ []) ≡ how_many (λ e. is_call who number e.1 && not (is_wait e.1.call.what)) w.pending + (0 + 0) = rw other at pushed in
        let few = fewer (λ e. is_call who number e.1 && not (is_wait e.1.call.what)) in let none = bare.waits in omega arith);
    none = λ turn some.
        (let pushed = how_many-append (λ e. is_under turn e && is_call who number e.1) w.pending ((turn_number v, record { call = call; blockers = blockers }) ∷ []) in
        let gone : (is_under turn (turn_number v, record { call = call; blockers = blockers }) && is_call who number (record { call = call; blockers = blockers })) ≡ false = rw other (and_none (turn_number v == turn) false refl) in
        let all : how_many (λ e. is_under turn e && is_call who number e.1) (w.pending ++ (turn_number v, record { call = call; blockers = blockers }) ∷ []) ≡ how_many (λ e. is_under turn e && is_call who number e.1) w.pending + (0 + 0) = rw gone at pushed in
        let few = fewer (λ e. is_under turn e && is_call who number e.1) in
        elim (cases_Bool (turn_number v == turn)) [
          | inr differs ↦ (let many = granted turn differs in let none = bare.none turn (omega arith) in omega arith)
          | inl its ↦ (let same : turn_number v ≡ turn = eqb-true (turn_number v) turn its in
              let later = how_many-weaker (λ e. is_under turn e && is_call who number e.1) (λ e. nat_lt (made v) e.0) v.pending
              (λ e both. (let here : e.0 ≡ turn = eqb-true e.0 turn (and_left (is_under turn e) _ both) in lt-ltb (made v) e.0 (omega arith))) in
              let none = may.turns in omega arith)
        ]);
  }

  pub bare-answered : (v : Volume) (call : Call) (outcome : Outcome) → MayTurn v → IsBareWait who number v → (call.client == who && call.number == number) ≡ false
      → TriedTo v (turn_number v) call.what outcome → IsBareWait who number (answered call (turn_number v) outcome)
  bare-answered v call (Done w reply) may bare other tried =
      IsBareWait-fewer who number {v = v} {w = with_end w call.client call.number reply} tried.0.keeps.granted
      (λ test. (let few = how_many-filter_le test (λ entry. not (is_call call.client call.number entry.1)) w.pending in let first = tried.0.keeps.pending test in omega arith)) bare
  bare-answered v call (Stay w interim) may bare other tried =
      bare-pending v w call [] may bare other tried.pending
      (λ turn differs. (let many = tried.granted turn in let few : how_many (is_granted_under turn) w.oplocks ≤ how_many (is_granted_under turn) v.oplocks + 0 = rw differs at many in omega arith))
  bare-answered v call (Hold w blockers interim) may bare other tried =
      bare-pending v w call blockers may bare other tried.0.keeps.pending (λ turn differs. tried.0.keeps.granted turn)

  pub fine-answered : (v : Volume) (call : Call) (outcome : Outcome) → (call.client == who && call.number == number) ≡ false → AreFine (volume_after outcome).ended → AreFine (answered call (turn_number v) outcome).ended
  fine-answered v call (Done w reply) other all = fine-more w.ended (record { client = call.client; number = call.number; reply = reply }) (λ is. (let impossible : true ≡ false = sym is ∙ other in cc)) all
  fine-answered v call (Stay w interim) other all = all
  fine-answered v call (Hold w blockers interim) other all = all

  -- the client's own cancellation, or its leaving
  fine-leave : (v : Volume) (client : ℕ) → EndsWell v → fine (record { status = Cancelled; body = Nothing }) ≡ true → AreFine (volume_after (try_leave v client)).ended
  unfolding try_leave with_client_gone
  fine-leave v client well cancelled =
      let calls : List (ℕ × Pending) = pending_by_turn (is_left_behind client) v in
      let over : Volume = with_calls_ended (λ _. Cancelled) calls v in
      fine-same over.ended (with_all_closed (handles_of_client v client) over).ended
      (Spares.ended (all_closed who number (handles_of_client v client) over) (IsBareWait-calls who number (λ _. Cancelled) calls v well.bare))
      (fine-calls (λ _. Cancelled) (λ what. cancelled) calls v well.ended)

  fine-cancel : (v : Volume) (client other : ℕ) → EndsWell v → fine (record { status = Cancelled; body = Nothing }) ≡ true → AreFine (volume_after (try_cancel v client other)).ended
  unfolding try_cancel
  fine-cancel v client other well cancelled = elim (option_cases (number_of (is_call client other) v.pending)) [
    | inl none ↦ rw none well.ended
    | inr some ↦ rw some.1 (fine-more v.ended (record { client = client; number = other; reply = record { status = Cancelled; body = Nothing } }) (λ is. cancelled) well.ended)
  ]

  fine-what : (v : Volume) (turn client call : ℕ) (what : What) → EndsWell v → (is_leave what || is_cancel_of number what) ≡ true → fine (record { status = Cancelled; body = Nothing }) ≡ true
      → AreFine (volume_after (try_what v turn client call what)).ended
  fine-what v turn client call Leave well some cancelled = fine-leave v client well cancelled
  fine-what v turn client call (Ask (Cancel other)) well some cancelled = fine-cancel v client other well cancelled
  fine-what v turn client call _ well some cancelled = absurd (let impossible : false ≡ true = some in cc)

  pub fine-any : (v : Volume) (call : Call) (turn : ℕ) → EndsWell v → (cancels who number call ≡ true → fine (record { status = Cancelled; body = Nothing }) ≡ true) → AreFine (volume_after (try v call turn)).ended
  fine-any v call turn well cancelled = elim (cases_Bool (cancels who number call)) [
    | inr other ↦ fine-try v call turn well other
    | inl is ↦ elim (cases_Bool (has_left v call.client)) [
      | inl gone ↦ rw gone well.ended
      | inr here ↦ rw here (fine-what v turn call.client call.number call.what well (and_right (call.client == who) _ is) (cancelled is))
    ]
  ]

  -- ---- the wait's own turn

  -- a call that isn't made yet
  pub well-new : (v : Volume) → times who number v ≡ 0 → EndsWell v
  well-new v none = record {
    bare = record {
      waits = (let weaker = how_many-weaker (λ (e : ℕ × Pending). is_call who number e.1 && not (is_wait e.1.call.what)) (λ e. is_call who number e.1) v.pending (λ e both. and_left (is_call who number e.1) _ both) in omega arith);
      none = λ turn some. (let weaker = how_many-weaker (λ (e : ℕ × Pending). is_under turn e && is_call who number e.1) (λ e. is_call who number e.1) v.pending (λ e both. and_right (is_under turn e) _ both) in omega arith);
    };
    ended = (let weaker = how_many-weaker (λ (end : EndOf). is_end who number end && not (fine end.reply)) (is_end who number) v.ended (λ end both. and_left (is_end who number end) _ both) in omega arith);
  }

  well-done : (v : Volume) (client other : ℕ) (reply : Reply) → EndsWell v → fine reply ≡ true → EndsWell (with_end v client other reply)
  well-done v client other reply well so = record {
    bare = IsBareWait-fewer who number {v = v} {w = with_end v client other reply} (λ turn. omega arith) (λ test. how_many-filter_le test (λ entry. not (is_call client other entry.1)) v.pending) well.bare;
    ended = fine-more v.ended (record { client = client; number = other; reply = reply }) (λ is. so) well.ended;
  }

  pub well-stays : (v : Volume) (call : Call) → MayTurn v → times who number v ≡ 0 → is_wait call.what ≡ true → EndsWell (with_pending v (turn_number v) call [])
  well-stays v call may none waits = record {
    bare = record {
      waits =
          (let pushed = how_many-append (λ e. is_call who number e.1 && not (is_wait e.1.call.what)) v.pending ((turn_number v, record { call = call; blockers = [] }) ∷ []) in
          let right : (is_call who number (record { call = call; blockers = [] }) && not (is_wait call.what)) ≡ false = rw waits (and_none (is_call who number (record { call = call; blockers = [] })) false refl) in
          let all : how_many (λ e. is_call who number e.1 && not (is_wait e.1.call.what)) (v.pending ++ (turn_number v, record { call = call; blockers = [] }) ∷ []) ≡ how_many (λ e. is_call who number e.1 && not (is_wait e.1.call.what)) v.pending + (0 + 0) = rw right at pushed in
          let before = (well-new v none).bare.waits in omega arith);
      none = λ turn some. elim (cases_Bool (turn_number v == turn)) [
        | inl its ↦ (let same : turn_number v ≡ turn = eqb-true (turn_number v) turn its in let no_grant = may.granted turn (omega arith) in absurd (omega arith))
        | inr differs ↦ (let pushed = how_many-append (λ e. is_under turn e && is_call who number e.1) v.pending ((turn_number v, record { call = call; blockers = [] }) ∷ []) in
            let all : how_many (λ e. is_under turn e && is_call who number e.1) (v.pending ++ (turn_number v, record { call = call; blockers = [] }) ∷ []) ≡ how_many (λ e. is_under turn e && is_call who number e.1) v.pending + (0 + 0) = rw differs at pushed in
            let before = (well-new v none).bare.none turn some in omega arith)
      ];
    };
    ended = (well-new v none).ended;
  }

  -- ---- where SUCCESS is fine

  module _ (success : fine (record { status = Success; body = Nothing }) ≡ true) where
    well-step : (s : Settling) (entry : ℕ × Pending) → MaySettle s.volume → IsNext s.volume entry → EndsWell s.volume → EndsWell (taken_up s entry).volume
    well-step s entry may next well = record {
      bare = bare-onward {v = s.volume} {w = (taken_up s entry).volume} (granted-taken_up s entry may next) (Steps.pending (Steps-taken_up s entry may next)) well.bare;
      ended = fine-taken_up s entry may well next (λ _. success);
    }

    -- once all is taken up that is ready
    well-taken_up : (v : Volume) (starved : List CallId) → MaySettle v → EndsWell v → EndsWell (taken_up_all v starved).volume
    well-taken_up v starved may well = taken_up-keeps EndsWell well-step v starved may well

    -- the try of another call
    well-own : (v : Volume) (call : Call) → MayTurn v → EndsWell v → (call.client == who && call.number == number) ≡ false
        → (cancels who number call ≡ true → fine (record { status = Cancelled; body = Nothing }) ≡ true) → EndsWell (own_tried v call)
    well-own v call may well other cancelled =
        let outcome : Outcome = try v call (turn_number v) in
        let tried : TriedTo v (turn_number v) call.what outcome = try-keeps v call (turn_number v) may.take_up.may.oplocks in
        record { bare = bare-answered v call outcome may well.bare other tried; ended = fine-answered v call outcome other (fine-any v call (turn_number v) well cancelled) }

    -- and of the wait
    well-wait : (v : Volume) (call : Call) (earlier : ℕ) → call.what ≡ WaitFor earlier → MayTurn v → times who number v ≡ 0 → (has_left v call.client ≡ true → fine (record { status = InvalidHandle; body = Nothing }) ≡ true)
        → fine (record { status = InvalidParameter; body = Nothing }) ≡ true → EndsWell (answered call (turn_number v) (try v call (turn_number v)))
    unfolding try_wait
    well-wait v call earlier is may none left parameter =
        let new : EndsWell v = well-new v none in
        elim (cases_Bool (has_left v call.client)) [
          | inl gone ↦ rw gone (well-done v call.client call.number (record { status = InvalidHandle; body = Nothing }) new (left gone))
          | inr here ↦ rw here (rw is (elim (cases_Bool (has_ended v call.client earlier)) [
            | inl over ↦ rw over (well-done v call.client call.number (record { status = Success; body = Nothing }) new success)
            | inr goes_on ↦ rw goes_on (elim (cases_Bool (is_pending v call.client earlier)) [
              | inl pends ↦ rw pends (well-stays v (record { client = call.client; number = call.number; what = WaitFor earlier }) may none refl)
              | inr no_call ↦ rw no_call (well-done v call.client call.number (record { status = InvalidParameter; body = Nothing }) new parameter)
            ])
          ]))
        ]

  -- ---- where STALLED is fine too

  module _ (success : fine (record { status = Success; body = Nothing }) ≡ true) (stalled : fine (record { status = Stalled; body = Nothing }) ≡ true) where
    well-stalled : (v : Volume) → EndsWell v → EndsWell (with_stalled v)
    well-stalled v well = elim (cases_Bool (all_wait v)) [
      | inl all ↦ rw all (record { bare = IsBareWait-calls who number (λ _. Stalled) (waits_in_order v) v well.bare; ended = fine-calls (λ _. Stalled) (λ what. stalled) (waits_in_order v) v well.ended })
      | inr some ↦ rw some well
    ]

    pub well-settled : (v : Volume) (call : Call) (starved : List CallId) → MaySettle (own_tried v call) → EndsWell (own_tried v call) → EndsWell (settlement v call starved).volume
    well-settled v call starved may own = settled-keeps EndsWell (well-step success) v call starved may (well-stalled (taken_up_all (own_tried v call) starved).volume) own

    -- the wait is made, and what is still to come
    record WellOn (v : Volume) (later : List HistoryEntry) : Type 0 where
      there : times who number v ≡ 1
      cancelled : list_any (λ e. cancels who number e.call) later ≡ true → fine (record { status = Cancelled; body = Nothing }) ≡ true
      well : EndsWell v

    well-on : (v : Volume) (entry : HistoryEntry) (later : List HistoryEntry) → MayTurn v → Differ v (entry ∷ later) → Turns v entry.call (settlement v entry.call entry.starved).volume → WellOn v (entry ∷ later)
        → WellOn (settlement v entry.call entry.starved).volume later
    well-on v entry later may differ turns on = record {
      there = (let one = turns.times who number in let same_times : times who number (settlement v entry.call entry.starved).volume ≡ times who number v + 0 = rw other at one in let there = on.there in omega arith);
      cancelled = λ behind. on.cancelled (rw behind (or_right (cancels who number entry.call) true refl));
      well = well-settled v entry.call entry.starved (own-may v entry.call may (new-call v entry later differ)) (well-own success v entry.call may on.well other (λ here. on.cancelled (rw here refl)));
    }
      where
        other : (entry.call.client == who && entry.call.number == number) ≡ false
        other = elim (cases_Bool (is_entry_of who number entry)) [
          | inr isnt ↦ isnt
          | inl its ↦ (let few = differ who number in let two : times who number v + (1 + how_many (is_entry_of who number) later) ≤ 1 = rw its at few in let there = on.there in absurd (omega arith))
        ]

    -- the wait's turn, and those behind it
    pub well-from : (entry : HistoryEntry) (later : List HistoryEntry) (earlier : ℕ) (r s : Run) → entry.call.client ≡ who → entry.call.number ≡ number → entry.call.what ≡ WaitFor earlier
        → MayTurn r.volume → Differ r.volume (entry ∷ later) → (has_left r.volume who ≡ true → fine (record { status = InvalidHandle; body = Nothing }) ≡ true) → fine (record { status = InvalidParameter; body = Nothing }) ≡ true
        → (list_any (λ e. cancels who number e.call) later ≡ true → fine (record { status = Cancelled; body = Nothing }) ≡ true) → steps turn_on r (entry ∷ later) ≡ Some s → EndsWell s.volume
    well-from entry later earlier r s client call is may differ left parameter cancelled runs =
        WellOn.well (from-keeps WellOn well-on entry later r s may differ made runs)
      where
        made : Turns r.volume entry.call (settlement r.volume entry.call entry.starved).volume → WellOn (settlement r.volume entry.call entry.starved).volume later
        made turns = record {
          there = (let one = turns.times who number in let its : is_same entry.call.client entry.call.number who number ≡ true = rw (client, call) (is_same-refl who number) in
              let there : times who number (settlement r.volume entry.call entry.starved).volume ≡ times who number r.volume + 1 = rw its at one in let none = new in omega arith);
          cancelled = cancelled;
          well = well-settled r.volume entry.call entry.starved (own-may r.volume entry.call may (new-call r.volume entry later differ))
              (well-wait success r.volume entry.call earlier is may new (λ gone. left (rw client at gone)) parameter);
        }
          where
            new : times who number r.volume ≡ 0
            new = (let none : times entry.call.client entry.call.number r.volume ≡ 0 = new-call r.volume entry later differ in rw (client, call) at none)

-- ---- who has left

module _ (who : ℕ) where
  -- a number of which the call is no cancellation
  abbrev spared_number : What → ℕ
  spared_number (Ask (Cancel other)) = suc other
  spared_number _ = 0

  no_cancel : (what : What) → is_cancel_of (spared_number what) what ≡ false
  no_cancel (Ask (Cancel other)) = elim (cases_Bool (other == suc other)) [
    | inr isnt ↦ isnt
    | inl is ↦ (let same : other ≡ suc other = eqb-true other (suc other) is in absurd (omega arith))
  ]
  no_cancel (Ask _) = refl
  no_cancel _ = refl

  pub left-try : (v : Volume) (call : Call) (turn : ℕ) → leaves who call ≡ false → has_left (volume_after (try v call turn)) who ≡ has_left v who
  left-try v call turn stays = KeepsEnds.left (TriesKeep.so (try-keeps_ends who (spared_number call.what) v call turn (rw (no_cancel call.what) (or_false (call.client == who) (is_leave call.what) stays))))
    where
      or_false : (a b : Bool) → (a && b) ≡ false → (a && (b || false)) ≡ false
      or_false true true is = is
      or_false true false is = refl
      or_false false b is = refl

  left-come : (s : Settling) (pending : Pending) (what : What) → (come_over s pending what).volume.left ≡ s.volume.left
  left-come s pending (Ask (Notify handle asked whole room)) = elim (option_cases (handle_of s.volume pending.call.client handle)) [
    | inl none ↦ rw none refl
    | inr some ↦ rw some.1 (elim (cases_Bool (starves s.starved pending && nat_le (due_size s.volume some.0) room)) [ inl starving ↦ rw starving refl | inr reports ↦ rw reports refl ])
  ]
  left-come s pending _ = refl

  left-tried : (turn : ℕ) (pending : Pending) (outcome : Outcome) → (with_tried turn pending outcome).left ≡ (volume_after outcome).left
  left-tried turn pending (Done v reply) = refl
  left-tried turn pending (Stay v interim) = refl
  left-tried turn pending (Hold v blockers interim) = refl

  pub left-taken_up : (s : Settling) (entry : ℕ × Pending) → MaySettle s.volume → IsNext s.volume entry → has_left (taken_up s entry).volume who ≡ has_left s.volume who
  left-taken_up s entry may next = elim (cases_Bool (is_held entry.1)) [
    | inr waits ↦ rw waits (rw (left-come s entry.1 entry.1.call.what) refl)
    | inl held ↦ rw held (elim (cases_Bool (starves s.starved entry.1)) [
      | inl starving ↦ rw starving refl
      | inr plenty ↦ rw plenty (rw (left-tried entry.0 entry.1 (try s.volume entry.1.call entry.0))
          (left-try s.volume entry.1.call entry.0 (rw (leave_isnt_held entry.1.call.what (next-may_be_held s.volume entry may next held)) (and_none (entry.1.call.client == who) false refl))))
    ])
  ]

  pub left-stalled : (v : Volume) → (with_stalled v).left ≡ v.left
  left-stalled v = elim (cases_Bool (all_wait v)) [
    | inl all ↦ rw all (left-calls who 0 (λ _. Stalled) (waits_in_order v) v)
    | inr some ↦ rw some refl
  ]

  left-turn : (v : Volume) (call : Call) (starved : List CallId) → MaySettle (own_tried v call) → leaves who call ≡ false → has_left (settlement v call starved).volume who ≡ has_left v who
  left-turn v call starved may stays =
      settled-keeps (λ w. has_left w who ≡ has_left v who) (λ s entry may next same. left-taken_up s entry may next ∙ same) v call starved may
      (λ same. ap (λ (left : List Bool). slice_index_or left who false) (left-stalled (taken_up_all (own_tried v call) starved).volume) ∙ same)
      (ap (λ (left : List Bool). slice_index_or left who false) (answered_left call (turn_number v) (try v call (turn_number v))) ∙ left-try v call (turn_number v) stays)

-- none has left at first
fresh-left : (setup : Setup) (who : ℕ) → has_left (fresh setup) who ≡ false
fresh-left setup who = none setup.clients who
  where
    none : (clients : List Client) (who : ℕ) → slice_index_or (map (λ _. false) clients) who false ≡ false
    none [] who = refl
    none (client ∷ clients) zero = refl
    none (client ∷ clients) (suc who) = none clients who

-- where it has left, and where it leaves later, it leaves in these turns
record LeavesIn (who : ℕ) (entries : List HistoryEntry) (v : Volume) (later : List HistoryEntry) : Type 0 where
  gone : has_left v who ≡ true → leaves_in who entries ≡ true
  goes : leaves_in who later ≡ true → leaves_in who entries ≡ true

leaves-on : (who : ℕ) (entries : List HistoryEntry) (v : Volume) (entry : HistoryEntry) (later : List HistoryEntry) → MayTurn v → Differ v (entry ∷ later) → LeavesIn who entries v (entry ∷ later)
    → LeavesIn who entries (settlement v entry.call entry.starved).volume later
leaves-on who entries v entry later may differ on = record {
  gone = λ gone. elim (cases_Bool (leaves who entry.call)) [
    | inl now ↦ on.goes (rw now refl)
    | inr stays ↦ on.gone (sym (left-turn who v entry.call entry.starved (own-may v entry.call may (new-call v entry later differ)) stays) ∙ gone)
  ];
  goes = λ behind. on.goes (rw behind (or_right (leaves who entry.call) true refl));
}

left-run : (setup : Setup) (who : ℕ) (front : List HistoryEntry) (r : Run) → CallsDiffer front → run setup front ≡ Some r → has_left r.volume who ≡ true → leaves_in who front ≡ true
left-run setup who front r differ is =
    LeavesIn.gone (run-keeps (LeavesIn who front) (λ v entry later may differ turns on. leaves-on who front v entry later may differ on) setup front r differ
    (record { gone = λ gone. absurd (let never = fresh-left setup who in let impossible : true ≡ false = sym gone ∙ never in cc); goes = λ behind. behind }) is)

-- ---- a whole run

-- in which ways a wait may end, by what else happens in the run
pub record MayEnd (setup : Setup) (front later : List HistoryEntry) (entry : HistoryEntry) (fine : Reply → Bool) : Type 0 where
  pub success : fine (record { status = Success; body = Nothing }) ≡ true
  pub parameter : fine (record { status = InvalidParameter; body = Nothing }) ≡ true
  pub left : leaves_in entry.call.client front ≡ true → fine (record { status = InvalidHandle; body = Nothing }) ≡ true
  pub cancelled : cancels_in entry.call.client entry.call.number later ≡ true → fine (record { status = Cancelled; body = Nothing }) ≡ true
  pub stalled : fine (record { status = Stalled; body = Nothing }) ≡ true

well-run : (setup : Setup) (front later : List HistoryEntry) (entry : HistoryEntry) (r : Run) (fine : Reply → Bool) → CallsDiffer (front ++ entry ∷ later) → run setup (front ++ entry ∷ later) ≡ Some r → is_wait entry.call.what ≡ true
    → MayEnd setup front later entry fine → EndsWell entry.call.client entry.call.number fine r.volume
well-run setup front later entry r fine differ runs is may = by entry.call.what refl is
  where
    at : Parts setup front (entry ∷ later) r
    at = parts setup front (entry ∷ later) r differ runs

    differ_front : CallsDiffer front
    differ_front = differ-front front (entry ∷ later) differ

    so : (earlier : ℕ) → entry.call.what ≡ WaitFor earlier → EndsWell entry.call.client entry.call.number fine r.volume
    so earlier waits = well-from entry.call.client entry.call.number fine may.success may.stalled entry later earlier at.at r refl refl waits at.may at.differ
        (λ gone. may.left (left-run setup entry.call.client front at.at differ_front at.runs gone)) may.parameter may.cancelled at.goes

    by : (what : What) → entry.call.what ≡ what → is_wait what ≡ true → EndsWell entry.call.client entry.call.number fine r.volume
    by (WaitFor earlier) asks waits = so earlier asks
    by _ asks waits = absurd (let impossible : false ≡ true = waits in cc)

-- a wait ends in few ways, and with no body
pub waits-end : (setup : Setup) (front later : List HistoryEntry) (entry : HistoryEntry) (r : Run) → CallsDiffer (front ++ entry ∷ later) → run setup (front ++ entry ∷ later) ≡ Some r → is_wait entry.call.what ≡ true
    → ends_otherwise (is_wait_end (leaves_in entry.call.client front) (cancels_in entry.call.client entry.call.number later)) entry.call.client entry.call.number r.volume ≡ false
waits-end setup front later entry r differ runs is =
    none-how_many (λ end. is_end entry.call.client entry.call.number end && not (ways end.reply)) r.volume.ended
    (EndsWell.ended (well-run setup front later entry r ways differ runs is (record { success = refl; parameter = refl; left = λ left. rw left refl; cancelled = λ cancelled. rw cancelled refl; stalled = refl })))
  where
    ways : Reply → Bool
    ways reply = is_wait_end (leaves_in entry.call.client front) (cancels_in entry.call.client entry.call.number later) reply
