-- A wait has ended with SUCCESS only where the call that it was for has ended, over a whole run.
use Rattle.std.proofs.Common.{◌≡◌, ℕ, ◌+◌, ◌≤◌, Bool, true, false, not, List, [], ◌∷◌, ◌++◌, refl, ap, sym, ◌∙◌, arith, eq-eqb, inl, inr, ◌⊎◌, Some}
use Rattle.std.specs.Prelude.{◌==◌, ◌&&◌}
use Rattle.std.proofs.lemmas.Bool.{cases_Bool, eqb-true}
use Rattle.fsa_types.specs.declared.reply.Body.TheVariants.{Nothing}
use Rattle.fsa_types.specs.declared.reply.EndOf.{EndOf}
use Rattle.fsa_types.specs.declared.reply.Reply.{Reply}
use Rattle.fsa_types.specs.declared.request.Call.{Call}
use Rattle.fsa_types.specs.declared.request.CallId.{CallId}
use Rattle.fsa_types.specs.declared.request.Request.TheVariants.{Notify}
use Rattle.fsa_types.specs.declared.request.What.{What}
use Rattle.fsa_types.specs.declared.request.What.TheVariants.{Ask, WaitFor}
use Rattle.fsa_types.specs.declared.status.Status.TheVariants.{InvalidHandle, InvalidParameter, NoMemory, Stalled, Success}
use Rattle.fsa_model.specs.Close.{with_calls_ended}
use Rattle.fsa_model.specs.Edits.{is_call, with_end, with_pending}
use Rattle.fsa_model.specs.Engine.{CallsDiffer, is_entry_of, own_tried}
use Rattle.fsa_model.specs.History.{HistoryEntry, Run, run, steps, turn_on}
use Rattle.fsa_model.specs.Lookups.{handle_of, has_left}
use Rattle.fsa_model.specs.Once.{how_many, is_end, times}
use Rattle.fsa_model.specs.Outcome.{Outcome, Done, Stay, Hold}
use Rattle.fsa_model.specs.Settle.{Settling, come_over, starves, taken_up, taken_up_all, with_tried}
use Rattle.fsa_model.specs.Settling.{AddsEnds, MaySettle, MayTurn}
use Rattle.fsa_model.specs.Setup.{Script, Setup}
use Rattle.fsa_model.specs.Try.{try}
use Rattle.fsa_model.specs.Turn.{answered, settlement, turn, turn_number, volume_after}
use Rattle.fsa_model.specs.Volume.{Pending, Volume}
use Rattle.fsa_model.specs.Waiting.{all_wait, has_come, has_ended, is_held, is_pending, is_ready, is_wait, try_wait, waits, waits_in_order, with_stalled}
use Rattle.fsa_model.specs.Watching.{due_size, report}
use Rattle.std.specs.Prelude.{nat_le}
use Rattle.fsa_model.proofs.CountLaws.{and_left, and_right, how_many-append, how_many-filter_le, how_many-none, how_many-some, how_many-split, how_many-weaker, some-how_many}
use Rattle.fsa_model.proofs.OnceHistory.{is_entry_of-self, run-runs}
use Rattle.fsa_model.proofs.OnceLaws.{AddsEnds-next, AddsEnds-same, ended-calls_ended, fewer-calls_ended, is_same, is_same-refl}
use Rattle.fsa_model.proofs.RowLaws.{option_cases}
use Rattle.fsa_model.proofs.SettleLaws.{IsNext, Steps, Steps-taken_up}
use Rattle.fsa_model.proofs.TurnLaws.{TriedTo, Turns, answered-ended, own_end, tried-begins, try-keeps}
use Rattle.history_laws.specs.Races.{AllComeAfterWaits, NoneMadeWaiting}
use Rattle.history_laws.specs.WaitEnds.{IsOver, has_succeeded, is_success}
use Rattle.history_laws.proofs.LeavingLaws.{own_fewer}
use Rattle.history_laws.proofs.SpareLaws.{IsBareWait, IsBareWait-fewer}
use Rattle.history_laws.proofs.SpareOwn.{IsBareWait-calls}
use Rattle.history_laws.proofs.WaitRuns.{AreFine, bare-answered, bare-onward, fine-answered, fine-any, fine-calls, fine-more, fine-taken_up, granted-taken_up, held_other, well-new, well-stays}
use Rattle.history_laws.proofs.TurnByTurn.{Differ, Parts, from-keeps, new-call, own-may, parts, settled-keeps}
use Rattle.history_laws.proofs.AnyLaws.{and_none}

-- ---- ends are only added

one-more : (ended : List EndOf) (end : EndOf) → AddsEnds ended (ended ++ end ∷ [])
one-more ended end = record { more = end ∷ []; is = refl }

extends-come : (s : Settling) (pending : Pending) (what : What) → AddsEnds s.volume.ended (come_over s pending what).volume.ended
extends-come s pending (Ask (Notify handle asked whole room)) = elim (option_cases (handle_of s.volume pending.call.client handle)) [
  | inl none ↦ rw none (AddsEnds-same s.volume.ended)
  | inr some ↦ rw some.1 (elim (cases_Bool (starves s.starved pending && nat_le (due_size s.volume some.0) room)) [
    | inl starving ↦ rw starving (one-more s.volume.ended (record { client = pending.call.client; number = pending.call.number; reply = record { status = NoMemory; body = Nothing } }))
    | inr reports ↦ rw reports (one-more s.volume.ended (record { client = pending.call.client; number = pending.call.number; reply = report s.volume some.0 room }))
  ])
]
extends-come s pending _ = one-more s.volume.ended (record { client = pending.call.client; number = pending.call.number; reply = record { status = Success; body = Nothing } })

extends-tried : (v : Volume) (turn : ℕ) (pending : Pending) (outcome : Outcome) → AddsEnds v.ended (volume_after outcome).ended → AddsEnds v.ended (with_tried turn pending outcome).ended
extends-tried v turn pending (Done w reply) extends = AddsEnds-next extends (one-more w.ended (record { client = pending.call.client; number = pending.call.number; reply = reply }))
extends-tried v turn pending (Stay w interim) extends = extends
extends-tried v turn pending (Hold w blockers interim) extends = extends

extends-taken_up : (s : Settling) (entry : ℕ × Pending) → MaySettle s.volume → AddsEnds s.volume.ended (taken_up s entry).volume.ended
extends-taken_up s entry may = elim (cases_Bool (is_held entry.1)) [
  | inr waits ↦ rw waits (extends-come s entry.1 entry.1.call.what)
  | inl held ↦ rw held (elim (cases_Bool (starves s.starved entry.1)) [
    | inl starving ↦ rw starving (one-more s.volume.ended (record { client = entry.1.call.client; number = entry.1.call.number; reply = record { status = NoMemory; body = Nothing } }))
    | inr plenty ↦ rw plenty (extends-tried s.volume entry.0 entry.1 (try s.volume entry.1.call entry.0)
        (tried-begins s.volume entry.0 entry.1.call.what (try s.volume entry.1.call entry.0) (try-keeps s.volume entry.1.call entry.0 may.oplocks)))
  ])
]

extends-answered : (v : Volume) (call : Call) (turn : ℕ) (outcome : Outcome) → TriedTo v turn call.what outcome → AddsEnds v.ended (answered call turn outcome).ended
extends-answered v call turn outcome tried =
    AddsEnds-next (tried-begins v turn call.what outcome tried) (record { more = own_end call outcome; is = answered-ended call turn outcome })

-- this waits for that call
abbrev is_wait_for : ℕ → What → Bool
is_wait_for awaited (WaitFor number) = number == awaited
is_wait_for awaited _ = false

abbrev unsuccessful : Reply → Bool
unsuccessful reply = not (is_success reply.status)

module _ (who number awaited : ℕ) where
  -- the call, where it's pending, is a bare wait for that one; and either that has ended, or no end of the call is SUCCESS
  record IsAwaited (v : Volume) : Type 0 where
    bare : IsBareWait who number v
    only : how_many (λ e. is_call who number e.1 && not (is_wait_for awaited e.1.call.what)) v.pending ≡ 0
    so : (has_ended v who awaited ≡ true) ⊎ AreFine who number unsuccessful v.ended

  ended-later : (v w : Volume) → AddsEnds v.ended w.ended → has_ended v who awaited ≡ true → has_ended w who awaited ≡ true
  ended-later v w extends is =
      let some = how_many-some (is_end who awaited) v.ended is in
      let all = how_many-append (is_end who awaited) v.ended extends.more in
      let same = ap (λ (ended : List EndOf). how_many (is_end who awaited) ended) extends.is in
      some-how_many (is_end who awaited) w.ended (omega arith)

  -- ---- a step of a settlement

  next-waits_for : (v : Volume) (entry : ℕ × Pending) → IsAwaited v → IsNext v entry → is_call who number entry.1 ≡ true → is_wait_for awaited entry.1.call.what ≡ true
  next-waits_for v entry waited next its = elim (cases_Bool (is_wait_for awaited entry.1.call.what)) [
    | inl is ↦ is
    | inr isnt ↦ (let some = next.is_there (λ e. is_call who number e.1 && not (is_wait_for awaited e.1.call.what)) (rw (its, isnt) refl) in let none = waited.only in absurd (omega arith))
  ]

  -- where the call is taken up, what it waits for has ended
  next-ended : (v : Volume) (entry : ℕ × Pending) → MaySettle v → IsAwaited v → IsNext v entry → is_call who number entry.1 ≡ true → has_ended v who awaited ≡ true
  next-ended v entry may waited next its = by entry.1.call.what refl (next-waits_for v entry waited next its)
    where
      client : entry.1.call.client ≡ who
      client = eqb-true entry.1.call.client who (and_left (entry.1.call.client == who) (entry.1.call.number == number) its)

      free : is_held entry.1 ≡ false
      free = elim (cases_Bool (is_held entry.1)) [
        | inr isnt ↦ isnt
        | inl held ↦ absurd (let other = held_other who number unsuccessful v entry may waited.bare next held in let impossible : true ≡ false = sym its ∙ other in cc)
      ]

      by : (what : What) → entry.1.call.what ≡ what → is_wait_for awaited what ≡ true → has_ended v who awaited ≡ true
      by (WaitFor other) is for =
          let same : other ≡ awaited = eqb-true other awaited for in
          let ready : is_ready v entry.1 ≡ true = next.ready in
          let came : has_come v entry.1.call.client entry.1.call.number entry.1.call.what ≡ true = rw free at ready in
          let comes : has_ended v entry.1.call.client other ≡ true = rw is at came in
          rw (client, same) at comes
      by _ is for = absurd (let impossible : false ≡ true = for in cc)

  waited-taken_up : (s : Settling) (entry : ℕ × Pending) → MaySettle s.volume → IsAwaited s.volume → IsNext s.volume entry → IsAwaited (taken_up s entry).volume
  waited-taken_up s entry may waited next =
      let stepped : Steps s.volume (taken_up s entry).volume = Steps-taken_up s entry may next in
      let extends : AddsEnds s.volume.ended (taken_up s entry).volume.ended = extends-taken_up s entry may in
      record {
        bare = bare-onward who number unsuccessful {v = s.volume} {w = (taken_up s entry).volume} (granted-taken_up who number unsuccessful s entry may next) stepped.pending waited.bare;
        only = (let fewer = stepped.pending (λ turn call. (call.client == who && call.number == number) && not (is_wait_for awaited call.what)) in let none = waited.only in omega arith);
        so = elim waited.so [
          | inl over ↦ inl (ended-later s.volume (taken_up s entry).volume extends over)
          | inr fine ↦ elim (cases_Bool (is_call who number entry.1)) [
            | inl its ↦ inl (ended-later s.volume (taken_up s entry).volume extends (next-ended s.volume entry may waited next its))
            | inr other ↦ inr (fine-taken_up who number unsuccessful s entry may (record { bare = waited.bare; ended = fine }) next (λ its. absurd (let impossible : true ≡ false = sym its ∙ other in cc)))
          ]
        ];
      }

  waited-stalled : (v : Volume) → IsAwaited v → IsAwaited (with_stalled v)
  waited-stalled v waited = elim (cases_Bool (all_wait v)) [
    | inl all ↦ rw all (record {
      bare = IsBareWait-calls who number (λ _. Stalled) (waits_in_order v) v waited.bare;
      only = (let fewer = fewer-calls_ended (λ _. Stalled) (waits_in_order v) v (λ e. is_call who number e.1 && not (is_wait_for awaited e.1.call.what)) in let none = waited.only in omega arith);
      so = elim waited.so [
        | inl over ↦ inl (ended-later v (with_calls_ended (λ _. Stalled) (waits_in_order v) v) (ended-calls_ended (λ _. Stalled) (waits_in_order v) v) over)
        | inr fine ↦ inr (fine-calls who number unsuccessful (λ _. Stalled) (λ what. refl) (waits_in_order v) v fine)
      ];
    })
    | inr some ↦ rw some waited
  ]

  waited-settled : (v : Volume) (call : Call) (starved : List CallId) → MaySettle (own_tried v call) → IsAwaited (own_tried v call) → IsAwaited (settlement v call starved).volume
  waited-settled v call starved may own = settled-keeps IsAwaited (λ s entry may next waited. waited-taken_up s entry may waited next) v call starved may (waited-stalled (taken_up_all (own_tried v call) starved).volume) own

  -- ---- a turn of another call

  waited-turn : (v : Volume) (call : Call) (starved : List CallId) → MayTurn v → times call.client call.number v ≡ 0 → IsAwaited v → (call.client == who && call.number == number) ≡ false
      → IsAwaited (settlement v call starved).volume
  waited-turn v call starved may none waited other =
      let outcome : Outcome = try v call (turn_number v) in
      let tried : TriedTo v (turn_number v) call.what outcome = try-keeps v call (turn_number v) may.take_up.may.oplocks in
      waited-settled v call starved (own-may v call may none) (record {
        bare = bare-answered who number unsuccessful v call outcome may waited.bare other tried;
        only = (let fewer = own_fewer v call (turn_number v) (λ c. (c.client == who && c.number == number) && not (is_wait_for awaited c.what)) may.take_up.may.oplocks (rw other refl) in let none = waited.only in omega arith);
        so = elim waited.so [
          | inl over ↦ inl (ended-later v (own_tried v call) (extends-answered v call (turn_number v) outcome tried) over)
          | inr fine ↦ inr (fine-answered who number unsuccessful v call outcome other (fine-any who number unsuccessful v call (turn_number v) (record { bare = waited.bare; ended = fine }) (λ cancelled. refl)))
        ];
      })

  -- ---- the wait's own turn

  waited-new : (v : Volume) → times who number v ≡ 0 → IsAwaited v
  waited-new v none = record {
    bare = (well-new who number unsuccessful v none).bare;
    only = (let weaker = how_many-weaker (λ (e : ℕ × Pending). is_call who number e.1 && not (is_wait_for awaited e.1.call.what)) (λ e. is_call who number e.1) v.pending
        (λ e both. and_left (is_call who number e.1) _ both) in omega arith);
    so = inr (well-new who number unsuccessful v none).ended;
  }

  waited-done : (v : Volume) (client other : ℕ) (reply : Reply) → IsAwaited v → (unsuccessful reply ≡ true) ⊎ (has_ended v who awaited ≡ true) → IsAwaited (with_end v client other reply)
  waited-done v client other reply waited fits =
      let extends : AddsEnds v.ended (with_end v client other reply).ended = one-more v.ended (record { client = client; number = other; reply = reply }) in
      record {
        bare = IsBareWait-fewer who number {v = v} {w = with_end v client other reply} (λ turn. omega arith) (λ test. how_many-filter_le test (λ entry. not (is_call client other entry.1)) v.pending) waited.bare;
        only = (let few = how_many-filter_le (λ e. is_call who number e.1 && not (is_wait_for awaited e.1.call.what)) (λ entry. not (is_call client other entry.1)) v.pending in let none = waited.only in omega arith);
        so = elim waited.so [
          | inl over ↦ inl (ended-later v (with_end v client other reply) extends over)
          | inr fine ↦ elim fits [
            | inl right ↦ inr (fine-more who number unsuccessful v.ended (record { client = client; number = other; reply = reply }) (λ is. right) fine)
            | inr over ↦ inl (ended-later v (with_end v client other reply) extends over)
          ]
        ];
      }

  waited-stays : (v : Volume) (call : Call) → MayTurn v → times who number v ≡ 0 → is_wait call.what ≡ true → is_wait_for awaited call.what ≡ true → IsAwaited (with_pending v (turn_number v) call [])
  waited-stays v call may none waits for = record {
    bare = (well-stays who number unsuccessful v call may none waits).bare;
    only =
        (let pushed = how_many-append (λ e. is_call who number e.1 && not (is_wait_for awaited e.1.call.what)) v.pending ((turn_number v, record { call = call; blockers = [] }) ∷ []) in
        let right : (is_call who number (record { call = call; blockers = [] }) && not (is_wait_for awaited call.what)) ≡ false = rw for (and_none (is_call who number (record { call = call; blockers = [] })) false refl) in
        let all : how_many (λ e. is_call who number e.1 && not (is_wait_for awaited e.1.call.what)) (v.pending ++ (turn_number v, record { call = call; blockers = [] }) ∷ []) ≡ how_many (λ e. is_call who number e.1 && not (is_wait_for awaited e.1.call.what)) v.pending + (0 + 0) = rw right at pushed in
        let before = (waited-new v none).only in omega arith);
    so = (waited-new v none).so;
  }

  waited-wait : (v : Volume) (call : Call) → call.what ≡ WaitFor awaited → call.client ≡ who → MayTurn v → times who number v ≡ 0 → IsAwaited (answered call (turn_number v) (try v call (turn_number v)))
  unfolding try_wait
  waited-wait v call is client may none =
      let new : IsAwaited v = waited-new v none in
      elim (cases_Bool (has_left v call.client)) [
        | inl gone ↦ rw gone (waited-done v call.client call.number (record { status = InvalidHandle; body = Nothing }) new (inl refl))
        | inr here ↦ rw here (rw is (elim (cases_Bool (has_ended v call.client awaited)) [
          | inl over ↦ rw over (waited-done v call.client call.number (record { status = Success; body = Nothing }) new (inr (rw client at over)))
          | inr goes_on ↦ rw goes_on (elim (cases_Bool (is_pending v call.client awaited)) [
            | inl pends ↦ rw pends (waited-stays v (record { client = call.client; number = call.number; what = WaitFor awaited }) may none refl (eq-eqb awaited awaited refl))
            | inr no_call ↦ rw no_call (waited-done v call.client call.number (record { status = InvalidParameter; body = Nothing }) new (inl refl))
          ])
        ]))
      ]

  -- ---- the turns behind it

  record AwaitedOn (v : Volume) (later : List HistoryEntry) : Type 0 where
    there : times who number v ≡ 1
    waited : IsAwaited v

  waited-on : (v : Volume) (entry : HistoryEntry) (later : List HistoryEntry) → MayTurn v → Differ v (entry ∷ later) → Turns v entry.call (settlement v entry.call entry.starved).volume → AwaitedOn v (entry ∷ later)
      → AwaitedOn (settlement v entry.call entry.starved).volume later
  waited-on v entry later may differ turns on = record {
    there = (let one = turns.times who number in let same_times : times who number (settlement v entry.call entry.starved).volume ≡ times who number v + 0 = rw other at one in let there = on.there in omega arith);
    waited = waited-turn v entry.call entry.starved may (new-call v entry later differ) on.waited other;
  }
    where
      other : (entry.call.client == who && entry.call.number == number) ≡ false
      other = elim (cases_Bool (is_entry_of who number entry)) [
        | inr isnt ↦ isnt
        | inl its ↦ (let few = differ who number in let two : times who number v + (1 + how_many (is_entry_of who number) later) ≤ 1 = rw its at few in let there = on.there in absurd (omega arith))
      ]

  waited-from : (entry : HistoryEntry) (later : List HistoryEntry) (r s : Run) → entry.call.client ≡ who → entry.call.number ≡ number → entry.call.what ≡ WaitFor awaited
      → MayTurn r.volume → Differ r.volume (entry ∷ later) → steps turn_on r (entry ∷ later) ≡ Some s → IsAwaited s.volume
  waited-from entry later r s client call is may differ runs = AwaitedOn.waited (from-keeps AwaitedOn waited-on entry later r s may differ made runs)
    where
      new : times who number r.volume ≡ 0
      new = (let none : times entry.call.client entry.call.number r.volume ≡ 0 = new-call r.volume entry later differ in rw (client, call) at none)

      made : Turns r.volume entry.call (settlement r.volume entry.call entry.starved).volume → AwaitedOn (settlement r.volume entry.call entry.starved).volume later
      made turns = record {
        there = (let one = turns.times who number in let its : is_same entry.call.client entry.call.number who number ≡ true = rw (client, call) (is_same-refl who number) in
            let there : times who number (settlement r.volume entry.call entry.starved).volume ≡ times who number r.volume + 1 = rw its at one in let none = new in omega arith);
        waited = waited-settled r.volume entry.call entry.starved (own-may r.volume entry.call may (new-call r.volume entry later differ)) (waited-wait r.volume entry.call is client may new);
      }

-- what a wait has kept once its turn was made
waited-run_to : (setup : Setup) (front later : List HistoryEntry) (entry : HistoryEntry) (awaited : ℕ) (r : Run) → CallsDiffer (front ++ entry ∷ later) → run setup (front ++ entry ∷ later) ≡ Some r
    → entry.call.what ≡ WaitFor awaited → IsAwaited entry.call.client entry.call.number awaited r.volume
waited-run_to setup front later entry awaited r differ runs is =
    let at : Parts setup front (entry ∷ later) r = parts setup front (entry ∷ later) r differ runs in
    waited-from entry.call.client entry.call.number awaited entry later at.at r refl refl is at.may at.differ at.goes

-- a wait that has ended with SUCCESS has its call ended
pub succeeded-ended : (setup : Setup) (front later : List HistoryEntry) (entry : HistoryEntry) (awaited : ℕ) (r : Run) → CallsDiffer (front ++ entry ∷ later) → run setup (front ++ entry ∷ later) ≡ Some r
    → entry.call.what ≡ WaitFor awaited → has_succeeded r.volume entry.call.client entry.call.number ≡ true → has_ended r.volume entry.call.client awaited ≡ true
succeeded-ended setup front later entry awaited r differ runs is succeeded = elim (waited-run_to setup front later entry awaited r differ runs is).so [
  | inl over ↦ over
  | inr fine ↦ (let some = how_many-some (λ end. is_end entry.call.client entry.call.number end && is_success end.reply.status) r.volume.ended succeeded in
      let fewer = how_many-weaker (λ (end : EndOf). is_end entry.call.client entry.call.number end && is_success end.reply.status) (λ end. is_end entry.call.client entry.call.number end && not (unsuccessful end.reply)) r.volume.ended
      (λ end both. rw (and_left (is_end entry.call.client entry.call.number end) (is_success end.reply.status) both, and_right (is_end entry.call.client entry.call.number end) (is_success end.reply.status) both) refl) in
      absurd (omega arith))
]

-- a wait whose client doesn't wait is over
pub waits-over : (setup : Setup) (front later : List HistoryEntry) (entry : HistoryEntry) (awaited : ℕ) (r : Run) → CallsDiffer (front ++ entry ∷ later) → run setup (front ++ entry ∷ later) ≡ Some r
    → entry.call.what ≡ WaitFor awaited → waits r.volume entry.call.client ≡ false → IsOver r.volume entry.call.client entry.call.number awaited
waits-over setup front later entry awaited r differ runs is free = record {
  ended =
      (let runs_to = run-runs setup (front ++ entry ∷ later) r differ runs in
      let there = runs_to.times who number in
      let made = how_many-append (is_entry_of who number) front (entry ∷ later) in
      let self : is_entry_of who number entry ≡ true = is_entry_of-self entry in
      let once : how_many (is_entry_of who number) (front ++ entry ∷ later) ≡ how_many (is_entry_of who number) front + (1 + how_many (is_entry_of who number) later) = rw self at made in
      let none_bare = waited.bare.waits in
      let halves = how_many-split (λ (e : ℕ × Pending). is_call who number e.1) (λ e. is_wait e.1.call.what) r.volume.pending in
      let none_waits = how_many-none (λ (e : ℕ × Pending). e.1.call.client == who && is_wait e.1.call.what) r.volume.pending free in
      let fewer = how_many-weaker (λ (e : ℕ × Pending). is_call who number e.1 && is_wait e.1.call.what) (λ e. e.1.call.client == who && is_wait e.1.call.what) r.volume.pending
      (λ e both. rw (and_left (e.1.call.client == who) (e.1.call.number == number) (and_left (is_call who number e.1) (is_wait e.1.call.what) both), and_right (is_call who number e.1) (is_wait e.1.call.what) both) refl) in
      some-how_many (is_end who number) r.volume.ended (omega arith));
  awaited_ended = succeeded-ended setup front later entry awaited r differ runs is;
}
  where
    who : ℕ
    who = entry.call.client

    number : ℕ
    number = entry.call.number

    waited : IsAwaited entry.call.client entry.call.number awaited r.volume
    waited = waited-run_to setup front later entry awaited r differ runs is

-- where no client makes a call while it waits
pub free-over : (script : Script) (history : List HistoryEntry) → NoneMadeWaiting script history → CallsDiffer history → AllComeAfterWaits script.setup history
free-over script history none differ before between later wait entry awaited r is runs same asks =
    waits-over script.setup before between wait awaited r differ_before runs asks (rw same at free)
  where
    free : waits r.volume entry.call.client ≡ false
    free = none (before ++ wait ∷ between) later entry is r runs

    differ_before : CallsDiffer (before ++ wait ∷ between)
    differ_before client number =
        let few = differ client number in
        let all = ap (λ (entries : List HistoryEntry). how_many (is_entry_of client number) entries) is in
        let parts = how_many-append (is_entry_of client number) (before ++ wait ∷ between) (entry ∷ later) in
        omega arith
