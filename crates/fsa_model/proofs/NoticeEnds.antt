-- A Notify ends SUCCESS or NOTIFY_ENUM_DIR just where a watch reports to it, over a whole run.
use Rattle.std.proofs.Common.{◌≡◌, ℕ, zero, suc, ◌+◌, ◌≤◌, Bool, true, false, not, List, [], ◌∷◌, ◌++◌, append-nil, append_assoc, length, refl, ap, sym, subst, ◌∙◌, arith, inl, inr, Option, Some, None}
use Rattle.std.specs.List.{filter}
use Rattle.std.specs.Option.{option_map_or}
use Rattle.std.specs.Prelude.{◌==◌, ◌&&◌, nat_le, nat_lt, option_map}
use Rattle.std.proofs.lemmas.Bool.{cases_Bool, eqb-true, lt-ltb}
use Rattle.std.proofs.lemmas.List.Elements.{filter-append}
use Rattle.fsa_types.specs.declared.reply.EndOf.{EndOf}
use Rattle.fsa_types.specs.declared.request.Call.{Call}
use Rattle.fsa_types.specs.declared.request.CallId.{CallId}
use Rattle.fsa_types.specs.declared.request.Request.TheVariants.{Notify}
use Rattle.fsa_types.specs.declared.request.What.{What}
use Rattle.fsa_types.specs.declared.request.What.TheVariants.{Ask}
use Rattle.fsa_types.specs.declared.reply.Blocker.{Blocker}
use Rattle.fsa_types.specs.declared.status.Status.TheVariants.{Stalled}
use Rattle.fsa_model.specs.Edits.{is_call, with_end, with_pending}
use Rattle.fsa_model.specs.Engine.{CallsDiffer, is_entry_of, own_tried}
use Rattle.fsa_model.specs.History.{HistoryEntry, Run, begun, run, steps, turn_on, with_turn}
use Rattle.fsa_model.specs.Lookups.{handle_of}
use Rattle.fsa_model.specs.Once.{how_many, made, times}
use Rattle.fsa_model.specs.Outcome.{Outcome, Done, Stay, Hold}
use Rattle.fsa_model.specs.Settle.{Settling, come_over, repeated, reported, settle_step, starves, taken_up, taken_up_all, wait_over, with_tried}
use Rattle.fsa_model.specs.Settling.{MaySettle, MayTurn, asks_report, is_under, may_be_held}
use Rattle.fsa_model.specs.Setup.{Setup}
use Rattle.fsa_model.specs.Try.{try}
use Rattle.fsa_model.specs.Turn.{Turned, answered, settlement, turn, turn_number, volume_after}
use Rattle.fsa_model.specs.Volume.{Pending, Volume, fresh}
use Rattle.fsa_model.specs.Waiting.{all_wait, is_granted_under, is_held, next_ready, waits_in_order, with_stalled}
use Rattle.fsa_model.specs.Watched.{Notice, WatchesReport, ends_in, is_end_in_report, is_notify_in, notices_asked, notices_come, notices_from, notices_in, notices_of, notices_of_steps, notices_of_turn, notices_reported}
use Rattle.fsa_model.specs.Watching.{due_size, report}
use Rattle.fsa_model.proofs.CoherenceRuns.{turn_on-settled}
use Rattle.fsa_model.proofs.CountLaws.{and_left, how_many-append, how_many-filter_le, how_many-none, how_many-weaker, none-how_many, only-one, some-how_many}
use Rattle.fsa_model.proofs.KeepLaws.{KeepsAll, KeptTo, Kept}
use Rattle.fsa_model.proofs.NoticeRuns.{reports-status, run-adds, run-reports_since}
use Rattle.fsa_model.proofs.NoticeTries.{Says, Tells, agrees, agrees-equal, all-other, is_mistaken, says-other, says-report, says-try}
use Rattle.fsa_model.proofs.OnceHistory.{MayTurn-fresh, is_entry_of-self}
use Rattle.fsa_model.proofs.QuietLaws.{Onward, Onward-same, QuietEnds}
use Rattle.fsa_model.proofs.RowLaws.{option_cases}
use Rattle.fsa_model.proofs.SettleLaws.{IsNext, Steps, Steps-taken_up, next_ready-is, next-may_be_held, some_equal, try-tries}
use Rattle.fsa_model.proofs.TryLaws.{Tries, TriesTo, Leaves}
use Rattle.fsa_model.proofs.TryQuiet.{Onward-calls_ended}
use Rattle.fsa_model.proofs.TurnLaws.{Adds-answered, TriedTo, Turns, answered-ended, may_be_granted, own_end, try-keeps, try-kept, turn-turns}
use Rattle.fsa_model.proofs.WatchLaws.{comes_over}

-- ---- one after another

ends_in-append : (first second : List Notice) → ends_in (first ++ second) ≡ ends_in first ++ ends_in second
ends_in-append [] second = refl
ends_in-append (notice ∷ more) second = elim (option_cases notice.reply) [
  | inl none ↦ rw none (ends_in-append more second)
  | inr some ↦ rw some.1 (ap (λ (ends : List EndOf). record { client = notice.call.client; number = notice.call.number; reply = some.0 } ∷ ends) (ends_in-append more second))
]

says-next : (is_notify : ℕ → ℕ → Bool) (first second : List Notice) (a b c : List EndOf) → Says is_notify first a b → Says is_notify second b c → Says is_notify (first ++ second) a c
says-next is_notify first second a b c one two =
    two ∙ ap (λ (ends : List EndOf). ends ++ ends_in second) one
    ∙ append_assoc (filter (is_end_in_report is_notify) a) (ends_in first) (ends_in second)
    ∙ ap (λ (ends : List EndOf). filter (is_end_in_report is_notify) a ++ ends) (sym (ends_in-append first second))

says-same : (is_notify : ℕ → ℕ → Bool) (a b : List EndOf) → b ≡ a → Says is_notify [] a b
says-same is_notify a b same = rw same (sym (append-nil (filter (is_end_in_report is_notify) a)))

says-quiet : (is_notify : ℕ → ℕ → Bool) (v w : Volume) → Tells is_notify v → QuietEnds v v w → Says is_notify [] v.ended w.ended
says-quiet is_notify v w tells quiet =
    ap (λ (ended : List EndOf). filter (is_end_in_report is_notify) ended) quiet.is ∙ filter-append (is_end_in_report is_notify) v.ended quiet.ends
    ∙ ap (λ (more : List EndOf). filter (is_end_in_report is_notify) v.ended ++ more) (all-other is_notify v tells quiet.ends quiet.all)

Tells-onward : (is_notify : ℕ → ℕ → Bool) (v w : Volume) → ((turn : ℕ) → how_many (is_granted_under turn) w.oplocks ≤ how_many (is_granted_under turn) v.oplocks)
    → ((test : ℕ → Call → Bool) → how_many (λ e. test e.0 e.1.call) w.pending ≤ how_many (λ e. test e.0 e.1.call) v.pending) → Tells is_notify v → Tells is_notify w
Tells-onward is_notify v w granted fewer tells = record {
  known = (let few = fewer (λ turn call. not (agrees (is_notify call.client call.number) (asks_report call.what))) in let none = tells.known in omega arith);
  none = λ turn some. (let many = granted turn in let few = fewer (λ under call. under == turn && asks_report call.what) in let none = tells.none turn (omega arith) in omega arith);
}

-- ---- a step of a settlement

known-next : (is_notify : ℕ → ℕ → Bool) (v : Volume) (entry : ℕ × Pending) → Tells is_notify v → IsNext v entry → is_notify entry.1.call.client entry.1.call.number ≡ asks_report entry.1.call.what
known-next is_notify v entry tells next = elim (cases_Bool (agrees (is_notify entry.1.call.client entry.1.call.number) (asks_report entry.1.call.what))) [
  | inl is ↦ agrees-equal _ _ is
  | inr isnt ↦ (let some = next.is_there (is_mistaken is_notify) (rw isnt refl) in let none = tells.known in absurd (omega arith))
]

tried-ended : (turn : ℕ) (pending : Pending) (outcome : Outcome) → (with_tried turn pending outcome).ended ≡ (volume_after outcome).ended ++ own_end pending.call outcome
tried-ended turn pending (Done v reply) = refl
tried-ended turn pending (Stay v interim) = sym (append-nil v.ended)
tried-ended turn pending (Hold v blockers interim) = sym (append-nil v.ended)

says-reported : (is_notify : ℕ → ℕ → Bool) (s : Settling) (pending : Pending) (id asked : ℕ) (whole : Bool) (room : ℕ) → is_notify pending.call.client pending.call.number ≡ true
    → Says is_notify (notices_reported s pending id asked whole room) s.volume.ended (reported s pending id room).volume.ended
says-reported is_notify s pending id asked whole room known = elim (cases_Bool (starves s.starved pending && nat_le (due_size s.volume id) room)) [
  | inl starving ↦ rw starving (says-other is_notify s.volume.ended _ refl)
  | inr reports ↦ rw reports (says-report is_notify s.volume.ended
      (record { before = s.volume; call = pending.call; handle = id; filter = asked; tree = whole; room = room; reply = Some (report s.volume id room) })
      (record { client = pending.call.client; number = pending.call.number; reply = report s.volume id room }) (rw (reports-status s.volume id room, known) refl) refl)
]

says-over : (is_notify : ℕ → ℕ → Bool) (s : Settling) (pending : Pending) → is_notify pending.call.client pending.call.number ≡ false → Says is_notify [] s.volume.ended (wait_over s pending).volume.ended
says-over is_notify s pending other = says-other is_notify s.volume.ended _ (rw other refl)

says-come_notify : (is_notify : ℕ → ℕ → Bool) (s : Settling) (pending : Pending) (handle asked : ℕ) (whole : Bool) (room : ℕ) → is_notify pending.call.client pending.call.number ≡ true
    → Says is_notify (notices_come s pending (Ask (Notify handle asked whole room))) s.volume.ended (come_over s pending (Ask (Notify handle asked whole room))).volume.ended
says-come_notify is_notify s pending handle asked whole room known = elim (option_cases (handle_of s.volume pending.call.client handle)) [
  | inl none ↦ rw none (says-same is_notify s.volume.ended s.volume.ended refl)
  | inr id ↦ rw id.1 (says-reported is_notify s pending id.0 asked whole room known)
]

says-come : (is_notify : ℕ → ℕ → Bool) (s : Settling) (pending : Pending) (what : What) → is_notify pending.call.client pending.call.number ≡ asks_report what
    → Says is_notify (notices_come s pending what) s.volume.ended (come_over s pending what).volume.ended
says-come is_notify s pending (Ask (Notify handle asked whole room)) known = says-come_notify is_notify s pending handle asked whole room known
says-come is_notify s pending _ known = says-over is_notify s pending known

says-taken_up : (is_notify : ℕ → ℕ → Bool) (s : Settling) (entry : ℕ × Pending) → Tells is_notify s.volume → IsNext s.volume entry
    → Says is_notify (notices_in s entry) s.volume.ended (taken_up s entry).volume.ended
says-taken_up is_notify s entry tells next = elim (cases_Bool (is_held entry.1)) [
  | inr waits ↦ rw waits (says-come is_notify s entry.1 entry.1.call.what (known-next is_notify s.volume entry tells next))
  | inl held ↦ rw held (elim (cases_Bool (starves s.starved entry.1)) [
    | inl starving ↦ rw starving (says-other is_notify s.volume.ended _ refl)
    | inr plenty ↦ rw plenty (subst (λ (ended : List EndOf). Says is_notify (notices_asked s.volume entry.1.call entry.1.call.what (try s.volume entry.1.call entry.0)) s.volume.ended ended)
        (sym (tried-ended entry.0 entry.1 (try s.volume entry.1.call entry.0))) (says-try is_notify s.volume entry.1.call entry.0 tells (known-next is_notify s.volume entry tells next)))
  ])
]

granted-tried : (v : Volume) (turn : ℕ) (pending : Pending) (outcome : Outcome) → TriesTo Leaves v outcome → (other : ℕ)
    → how_many (is_granted_under other) (with_tried turn pending outcome).oplocks ≤ how_many (is_granted_under other) v.oplocks
granted-tried v turn pending (Done w reply) tries other = tries.0.keeps.granted other
granted-tried v turn pending (Stay w interim) tries other = absurd tries
granted-tried v turn pending (Hold w blockers interim) tries other = tries.0.keeps.granted other

granted-taken_up : (s : Settling) (entry : ℕ × Pending) → MaySettle s.volume → IsNext s.volume entry → (other : ℕ)
    → how_many (is_granted_under other) (taken_up s entry).volume.oplocks ≤ how_many (is_granted_under other) s.volume.oplocks
granted-taken_up s entry may next other = elim (cases_Bool (is_held entry.1)) [
  | inr waits ↦ rw waits (let comes = comes_over s entry.1 waits next.ready in
      let same = ap (λ (v : Volume). how_many (is_granted_under other) v.oplocks) comes.is in
      let seen = ap (λ oplocks. how_many (is_granted_under other) oplocks) comes.untouched.oplocks in omega arith)
  | inl held ↦ rw held (elim (cases_Bool (starves s.starved entry.1)) [
    | inl starving ↦ rw starving (omega arith)
    | inr plenty ↦ rw plenty (granted-tried s.volume entry.0 entry.1 (try s.volume entry.1.call entry.0)
        (Tries.so (try-tries s.volume entry.1.call entry.0 may.oplocks (next-may_be_held s.volume entry may next held))) other)
  ])
]

-- what so many steps keep and say
record Settled (is_notify : ℕ → ℕ → Bool) (notices : List Notice) (v w : Volume) : Type 0 where
  says : Says is_notify notices v.ended w.ended
  tells : Tells is_notify w

settled-steps : (is_notify : ℕ → ℕ → Bool) (most : ℕ) (s : Settling) → MaySettle s.volume → Tells is_notify s.volume → Settled is_notify (notices_of_steps most s) s.volume (repeated settle_step most s).volume
settled-steps is_notify zero s may tells = record { says = says-same is_notify s.volume.ended s.volume.ended refl; tells = tells }
settled-steps is_notify (suc more) s may tells = elim (option_cases (next_ready s.volume)) [
  | inl none ↦ rw none (record { says = says-same is_notify s.volume.ended s.volume.ended refl; tells = tells })
  | inr some ↦ (let next : IsNext s.volume some.0 = next_ready-is s.volume some.0 some.1 in
      let stepped : Steps s.volume (taken_up s some.0).volume = Steps-taken_up s some.0 may next in
      let kept : Tells is_notify (taken_up s some.0).volume = Tells-onward is_notify s.volume (taken_up s some.0).volume (granted-taken_up s some.0 may next) stepped.pending tells in
      let rest : Settled is_notify (notices_of_steps more (taken_up s some.0)) (taken_up s some.0).volume (repeated settle_step more (taken_up s some.0)).volume
      = settled-steps is_notify more (taken_up s some.0) stepped.may kept in
      rw some.1 (record {
        says = says-next is_notify (notices_in s some.0) (notices_of_steps more (taken_up s some.0)) s.volume.ended (taken_up s some.0).volume.ended (repeated settle_step more (taken_up s some.0)).volume.ended (says-taken_up is_notify s some.0 tells next) rest.says;
        tells = rest.tells;
      }))
]

Onward-stalled : (v : Volume) → Onward v (with_stalled v)
Onward-stalled v = elim (cases_Bool (all_wait v)) [
  | inl all ↦ rw all (Onward-calls_ended (λ _. Stalled) (waits_in_order v) v (λ what. refl))
  | inr some ↦ rw some (Onward-same v)
]

settled-stalled : (is_notify : ℕ → ℕ → Bool) (v : Volume) → Tells is_notify v → Settled is_notify [] v (with_stalled v)
settled-stalled is_notify v tells =
    let onward : Onward v (with_stalled v) = Onward-stalled v in
    record {
      says = says-quiet is_notify v (with_stalled v) tells onward.quiet.ended;
      tells = Tells-onward is_notify v (with_stalled v) onward.granted (λ test. onward.pending (λ e. test e.0 e.1.call)) tells;
    }

settled-next : (is_notify : ℕ → ℕ → Bool) (first second : List Notice) (u v w : Volume) → Settled is_notify first u v → Settled is_notify second v w → Settled is_notify (first ++ second) u w
settled-next is_notify first second u v w one two = record { says = says-next is_notify first second u.ended v.ended w.ended one.says two.says; tells = two.tells }

-- ---- the turn's own call

agrees-same : (b : Bool) → agrees b b ≡ true
agrees-same true = refl
agrees-same false = refl

-- the call becomes pending in its turn: no oplock is granted to it, where it is a Notify
tells-pending : (is_notify : ℕ → ℕ → Bool) (v w : Volume) (call : Call) (blockers : List Blocker) → MayTurn v → Tells is_notify v → is_notify call.client call.number ≡ asks_report call.what
    → ((test : ℕ × Pending → Bool) → how_many test w.pending ≤ how_many test v.pending)
    → ((other : ℕ) → (turn_number v == other) ≡ false → how_many (is_granted_under other) w.oplocks ≤ how_many (is_granted_under other) v.oplocks)
    → (asks_report call.what ≡ true → (other : ℕ) → how_many (is_granted_under other) w.oplocks ≤ how_many (is_granted_under other) v.oplocks)
    → Tells is_notify (with_pending w (turn_number v) call blockers)
tells-pending is_notify v w call blockers may tells known fewer granted own = record {
  known =
      (let right : is_mistaken is_notify (turn_number v, record { call = call; blockers = blockers }) ≡ false = rw (known, agrees-same (asks_report call.what)) refl in
      let pushed = how_many-append (is_mistaken is_notify) w.pending ((turn_number v, record { call = call; blockers = blockers }) ∷ []) in
      let none = tells.known in
      let few = fewer (is_mistaken is_notify) in
      let all : how_many (is_mistaken is_notify) (w.pending ++ (turn_number v, record { call = call; blockers = blockers }) ∷ []) ≡ how_many (is_mistaken is_notify) w.pending + (0 + 0) = rw right at pushed in
      omega arith);
  none = λ turn some. elim (cases_Bool (turn_number v == turn)) [
    | inr other ↦ (let gone : (is_under turn (turn_number v, record { call = call; blockers = blockers }) && asks_report call.what) ≡ false = rw other refl in
        let pushed = how_many-append (λ e. is_under turn e && asks_report e.1.call.what) w.pending ((turn_number v, record { call = call; blockers = blockers }) ∷ []) in
        let all : how_many (λ e. is_under turn e && asks_report e.1.call.what) (w.pending ++ (turn_number v, record { call = call; blockers = blockers }) ∷ []) ≡ how_many (λ e. is_under turn e && asks_report e.1.call.what) w.pending + (0 + 0) = rw gone at pushed in
        let many = granted turn other in
        let few = fewer (λ e. is_under turn e && asks_report e.1.call.what) in
        let none = tells.none turn (omega arith) in
        omega arith)
    | inl its ↦ (let same : turn_number v ≡ turn = eqb-true (turn_number v) turn its in
        elim (cases_Bool (asks_report call.what)) [
          | inl asks ↦ (let many = own asks turn in let never = may.granted turn (omega arith) in absurd (omega arith))
          | inr isnt ↦ (let pushed = how_many-append (λ e. is_under turn e && asks_report e.1.call.what) w.pending ((turn_number v, record { call = call; blockers = blockers }) ∷ []) in
              let gone : (is_under turn (turn_number v, record { call = call; blockers = blockers }) && asks_report call.what) ≡ false = rw (its, isnt) refl in
              let all : how_many (λ e. is_under turn e && asks_report e.1.call.what) (w.pending ++ (turn_number v, record { call = call; blockers = blockers }) ∷ []) ≡ how_many (λ e. is_under turn e && asks_report e.1.call.what) w.pending + (0 + 0) = rw gone at pushed in
              let few = fewer (λ e. is_under turn e && asks_report e.1.call.what) in
              let later = how_many-weaker (λ e. is_under turn e && asks_report e.1.call.what) (λ e. nat_lt (made v) e.0) v.pending
              (λ e both. (let here : e.0 ≡ turn = eqb-true e.0 turn (and_left (is_under turn e) _ both) in lt-ltb (made v) e.0 (omega arith))) in
              let none = may.turns in
              omega arith)
        ])
  ];
}

tells-answered : (is_notify : ℕ → ℕ → Bool) (v : Volume) (call : Call) (outcome : Outcome) → MayTurn v → Tells is_notify v → is_notify call.client call.number ≡ asks_report call.what
    → TriedTo v (turn_number v) call.what outcome → (asks_report call.what ≡ true → KeptTo v outcome) → Tells is_notify (answered call (turn_number v) outcome)
tells-answered is_notify v call (Done w reply) may tells known tried kept =
    Tells-onward is_notify v (with_end w call.client call.number reply) tried.0.keeps.granted
    (λ test. (let few = how_many-filter_le (λ e. test e.0 e.1.call) (λ entry. not (is_call call.client call.number entry.1)) w.pending in let first = tried.0.keeps.pending (λ e. test e.0 e.1.call) in omega arith)) tells
tells-answered is_notify v call (Stay w interim) may tells known tried kept =
    tells-pending is_notify v w call [] may tells known tried.pending
    (λ other differs. (let many = tried.granted other in let few : how_many (is_granted_under other) w.oplocks ≤ how_many (is_granted_under other) v.oplocks + 0 = rw differs at many in omega arith))
    (λ asks other. (let all : KeepsAll v w = kept asks in all.kept.keeps.granted other))
tells-answered is_notify v call (Hold w blockers interim) may tells known tried kept =
    tells-pending is_notify v w call blockers may tells known tried.0.keeps.pending (λ other differs. tried.0.keeps.granted other) (λ asks other. tried.0.keeps.granted other)

report-kept : (v : Volume) (call : Call) (turn : ℕ) → MayTurn v → asks_report call.what ≡ true → KeptTo v (try v call turn)
report-kept v call turn may asks = Kept.so (try-kept v call turn may.take_up.may.oplocks (never_held call.what asks) (never_granted call.what asks))
  where
    never_held : (what : What) → asks_report what ≡ true → may_be_held what ≡ false
    never_held (Ask (Notify handle asked whole room)) asks = refl
    never_held _ asks = cc

    never_granted : (what : What) → asks_report what ≡ true → may_be_granted what ≡ false
    never_granted (Ask (Notify handle asked whole room)) asks = refl
    never_granted _ asks = cc

settled-last : (is_notify : ℕ → ℕ → Bool) (v : Volume) (call : Call) (starved : List CallId)
    → Settled is_notify (notices_of_steps (length (own_tried v call).pending) (record { volume = own_tried v call; starved = starved; taken = [] })) (own_tried v call) (taken_up_all (own_tried v call) starved).volume
    → Says is_notify (notices_asked v call call.what (try v call (turn_number v))) v.ended (own_tried v call).ended
    → Settled is_notify (notices_of_turn v call starved) v (settlement v call starved).volume
settled-last is_notify v call starved taken own =
    let stalled : Settled is_notify [] (taken_up_all (own_tried v call) starved).volume (settlement v call starved).volume = settled-stalled is_notify (taken_up_all (own_tried v call) starved).volume taken.tells in
    let steps : List Notice = notices_of_steps (length (own_tried v call).pending) (record { volume = own_tried v call; starved = starved; taken = [] }) in
    let rest : Settled is_notify (steps ++ []) (own_tried v call) (settlement v call starved).volume = settled-next is_notify steps [] _ _ _ taken stalled in
    record {
      says = says-next is_notify (notices_asked v call call.what (try v call (turn_number v))) steps v.ended (own_tried v call).ended (settlement v call starved).volume.ended own
          (subst (λ (notices : List Notice). Says is_notify notices (own_tried v call).ended (settlement v call starved).volume.ended) (append-nil steps) rest.says);
      tells = rest.tells;
    }

settled-turn : (is_notify : ℕ → ℕ → Bool) (v : Volume) (call : Call) (starved : List CallId) → MayTurn v → times call.client call.number v ≡ 0 → Tells is_notify v → is_notify call.client call.number ≡ asks_report call.what
    → Settled is_notify (notices_of_turn v call starved) v (settlement v call starved).volume
settled-turn is_notify v call starved may none tells known =
    let outcome : Outcome = try v call (turn_number v) in
    let tried : TriedTo v (turn_number v) call.what outcome = try-keeps v call (turn_number v) may.take_up.may.oplocks in
    let own : Volume = own_tried v call in
    let start : Settling = record { volume = own; starved = starved; taken = [] } in
    let adds = Adds-answered v call outcome may none tried in
    let own_tells : Tells is_notify own = tells-answered is_notify v call outcome may tells known tried (report-kept v call (turn_number v) may) in
    let own_says : Says is_notify (notices_asked v call call.what outcome) v.ended own.ended
    = subst (λ (ended : List EndOf). Says is_notify (notices_asked v call call.what outcome) v.ended ended) (sym (answered-ended call (turn_number v) outcome)) (says-try is_notify v call (turn_number v) tells known) in
    let taken : Settled is_notify (notices_of_steps (length own.pending) start) own (taken_up_all own starved).volume = settled-steps is_notify (length own.pending) start adds.may.take_up.may own_tells in
    settled-last is_notify v call starved taken own_says

-- ---- a run

-- each call of these turns is known as what it is
abbrev AreKnown : (ℕ → ℕ → Bool) → List HistoryEntry → Type 0
AreKnown is_notify [] = Unit {0}
AreKnown is_notify (entry ∷ more) = (is_notify entry.call.client entry.call.number ≡ asks_report entry.call.what) × AreKnown is_notify more

abbrev Differ : Run → List HistoryEntry → Type 0
Differ r history = (client number : ℕ) → times client number r.volume + how_many (is_entry_of client number) history ≤ 1

says-more : (is_notify : ℕ → ℕ → Bool) (r : Run) (entry : HistoryEntry) (more : List HistoryEntry) (next after : Run) → turn_on r entry ≡ Some next
    → Says is_notify (notices_of_turn r.volume entry.call entry.starved) r.volume.ended next.volume.ended → Says is_notify (notices_from next more) next.volume.ended after.volume.ended
    → Says is_notify (notices_of_turn r.volume entry.call entry.starved ++ option_map_or (λ next. notices_from next more) (turn_on r entry) []) r.volume.ended after.volume.ended
says-more is_notify r entry more next after is first rest =
    subst (λ (found : Option Run). Says is_notify (notices_of_turn r.volume entry.call entry.starved ++ option_map_or (λ next. notices_from next more) found []) r.volume.ended after.volume.ended) (sym is)
    (says-next is_notify (notices_of_turn r.volume entry.call entry.starved) (notices_from next more) r.volume.ended next.volume.ended after.volume.ended first rest)

says-from : (is_notify : ℕ → ℕ → Bool) (history : List HistoryEntry) (r after : Run) → MayTurn r.volume → Differ r history → Tells is_notify r.volume → AreKnown is_notify history → steps turn_on r history ≡ Some after
    → Says is_notify (notices_from r history) r.volume.ended after.volume.ended
says-from is_notify [] r after may differ tells known is =
    says-same is_notify r.volume.ended after.volume.ended (ap (λ (x : Run). x.volume.ended) (sym (some_equal r after is)))
says-from is_notify (entry ∷ more) r after may differ tells known is = elim (option_cases (turn r.volume entry.call entry.starved)) [
  | inl none ↦ (let impossible : None ≡ Some after = rw none at is in cc)
  | inr some ↦ (let turns : Turns r.volume entry.call some.0.volume = turn-turns r.volume entry.call entry.starved some.0 may new some.1 in
      let made_turn : turn_on r entry ≡ Some (with_turn r some.0) = ap (λ (found : Option Turned). option_map (with_turn r) found) some.1 in
      let settled : Settled is_notify (notices_of_turn r.volume entry.call entry.starved) r.volume (settlement r.volume entry.call entry.starved).volume = settled-turn is_notify r.volume entry.call entry.starved may new tells known.0 in
      let same : (settlement r.volume entry.call entry.starved).volume ≡ some.0.volume = sym (turn_on-settled r entry (with_turn r some.0) made_turn) in
      says-more is_notify r entry more (with_turn r some.0) after made_turn
      (subst (λ (w : Volume). Says is_notify (notices_of_turn r.volume entry.call entry.starved) r.volume.ended w.ended) same settled.says)
      (says-from is_notify more (with_turn r some.0) after turns.may (λ client number. (let one = turns.times client number in let few = differ client number in omega arith))
      (subst (λ (w : Volume). Tells is_notify w) same settled.tells) known.1 (rw some.1 at is)))
]
  where
    new : times entry.call.client entry.call.number r.volume ≡ 0
    new = (let few = differ entry.call.client entry.call.number in
        let self : is_entry_of entry.call.client entry.call.number entry ≡ true = is_entry_of-self entry in
        let one : times entry.call.client entry.call.number r.volume + (1 + how_many (is_entry_of entry.call.client entry.call.number) more) ≤ 1 = rw self at few in omega arith)

-- in a history whose calls differ
known-in : (history first : List HistoryEntry) (entry : HistoryEntry) (more : List HistoryEntry) → CallsDiffer history → history ≡ first ++ entry ∷ more
    → is_notify_in history entry.call.client entry.call.number ≡ asks_report entry.call.what
known-in history first entry more differ is = elim (cases_Bool (asks_report entry.call.what)) [
  | inl asks ↦ some-how_many (λ e. its e && asks_report e.call.what) history (there (λ e. its e && asks_report e.call.what) (rw (is_entry_of-self entry, asks) refl)) ∙ sym asks
  | inr isnt ↦ (let only = only-one its (λ e. not (asks_report e.call.what)) history (differ entry.call.client entry.call.number)
      (some-how_many (λ e. its e && not (asks_report e.call.what)) history (there (λ e. its e && not (asks_report e.call.what)) (rw (is_entry_of-self entry, isnt) refl))) in
      let weaker = how_many-weaker (λ e. its e && asks_report e.call.what) (λ e. its e && not (not (asks_report e.call.what))) history (λ e both. doubly (its e) (asks_report e.call.what) both) in
      let none = how_many-none (λ e. its e && not (not (asks_report e.call.what))) history only in
      none-how_many (λ e. its e && asks_report e.call.what) history (omega arith) ∙ sym isnt)
]
  where
    its : HistoryEntry → Bool
    its e = is_entry_of entry.call.client entry.call.number e

    there : (test : HistoryEntry → Bool) → test entry ≡ true → 1 ≤ how_many test history
    there test passes = (let all = how_many-append test first (entry ∷ more) in let same = ap (λ (entries : List HistoryEntry). how_many test entries) is in
        let one : how_many test (first ++ entry ∷ more) ≡ how_many test first + (1 + how_many test more) = rw passes at all in omega arith)

    doubly : (a b : Bool) → (a && b) ≡ true → (a && not (not b)) ≡ true
    doubly true true both = refl
    doubly true false both = both
    doubly false b both = both

are-known : (history first more : List HistoryEntry) → CallsDiffer history → history ≡ first ++ more → AreKnown (is_notify_in history) more
are-known history first [] differ is = tt
are-known history first (entry ∷ more) differ is =
    (known-in history first entry more differ is, are-known history (first ++ entry ∷ []) more differ (is ∙ sym (append_assoc first (entry ∷ []) more)))

Tells-fresh : (is_notify : ℕ → ℕ → Bool) (setup : Setup) → Tells is_notify (fresh setup)
Tells-fresh is_notify setup = record { known = refl; none = λ turn some. refl }

run-says : (setup : Setup) (history : List HistoryEntry) (r : Run) → CallsDiffer history → run setup history ≡ Some r
    → filter (is_end_in_report (is_notify_in history)) r.volume.ended ≡ ends_in (notices_of setup history)
run-says setup history r differ is =
    says-from (is_notify_in history) history (begun setup) r (MayTurn-fresh setup) (λ client number. (let few : how_many (is_entry_of client number) history ≤ 1 = differ client number in omega arith)) (Tells-fresh (is_notify_in history) setup)
    (are-known history [] history differ refl) is

pub run-watches_report : (setup : Setup) (history : List HistoryEntry) → WatchesReport setup history
run-watches_report setup history = record {
  reports = run-reports_since setup history;
  adds = λ r is. run-adds setup history r is;
  ends = λ r differ is. run-says setup history r differ is;
}
