-- One call that is taken up, as the code sees it.
use Rattle.std.proofs.Common.{◌≡◌, ℕ, ◌+◌, ◌<◌, ◌≤◌, true, false, List, [], ◌∷◌, ◌++◌, length, refl, ap, sym, subst, ◌∙◌, arith, inl, inr, Option, Some, None, zero, suc, drop, length-append, append_assoc, append-nil}
use Rattle.std.specs.Prelude.{option_map}
use Rattle.std.proofs.lemmas.Bool.{cases_Bool}
use Rattle.std.proofs.lemmas.List.{drop_all}
use Rattle.std.proofs.Math.Seq.{drop-append_seam}
use Rattle.std.proofs.lemmas.List.{drop-append-le}
use Rattle.fsa_types.specs.Rows.{row_of}
use Rattle.fsa_types.specs.declared.request.CallId.{CallId}
use Rattle.fsa_types.specs.declared.reply.Body.TheVariants.{Nothing}
use Rattle.fsa_types.specs.declared.reply.EndOf.{EndOf}
use Rattle.fsa_types.specs.declared.reply.Reply.{Reply}
use Rattle.fsa_types.specs.declared.status.Status.TheVariants.{Success, NoMemory}
use Rattle.fsa_types.specs.declared.request.Call.{Call}
use Rattle.fsa_types.specs.declared.reply.Interim.{Interim}
use Rattle.fsa_model.specs.Bounds.{most_entries}
use Rattle.fsa_model.specs.Edits.{with_blockers, with_end}
use Rattle.fsa_model.specs.Outcome.{Outcome, Done, Stay, Hold}
use Rattle.fsa_model.specs.Settle.{with_ended, with_reported, with_tried, starves}
use Rattle.fsa_model.specs.Try.{try}
use Rattle.fsa_model.specs.Turn.{ends_between, volume_after}
use Rattle.fsa_model.specs.Volume.{Pending, Volume}
use Rattle.fsa_model.proofs.OnceLaws.{AddsEnds-length, is_same-equal, is_same-refl}
use Rattle.fsa_model.specs.Waiting.{is_held, next_ready}
use Rattle.fsa_model.proofs.LoopLaws.{Keeping, Reaches-step, Reaches-keeping, TakesUp-tried, TakesUp-waits, TakesUp-reports, TakesUp-keeping, next-row, held-stays, try-extends}
use Rattle.fsa_model.proofs.CountLaws.{how_many-length}
use Rattle.fsa_model.proofs.RowLaws.{option_cases}
use Rattle.std.specs.Prelude.{◌==◌, ◌&&◌, nat_lt, find, Bool, not, IsTrue, All}
use Rattle.std.specs.Option.{ForSome}
use Rattle.std.proofs.lemmas.Bool.{eq-eqb, ltb-true}
use Rattle.std.proofs.lemmas.List.Elements.{All-head, All-tail}
use Rattle.fsa_types.specs.declared.request.What.{What}
use Rattle.fsa_types.specs.declared.request.What.TheVariants.{Ask, WaitFor}
use Rattle.fsa_types.specs.declared.request.Request.TheVariants.{Notify}
use Rattle.fsa_model.specs.Frame.{EndsPending, FitsReply, FramedTo, InFrame}
use Rattle.fsa_model.specs.Lookups.{handle_of, is_opened_by}
use Rattle.fsa_model.specs.Once.{IsOnce, how_many, is_end, made, times}
use Rattle.fsa_model.specs.Volume.{Handle}
use Rattle.fsa_model.specs.Waiting.{has_come, has_ended}
use Rattle.fsa_model.specs.Watching.{report, with_watch_seen}
use Rattle.fsa_model.specs.Settling.{AddsEnds, GoesOn, MaySettle, MayTakeUp, Reaches, TakesNext, TakesUp, how_many_free, is_under, may_be_held}
use Rattle.fsa_model.proofs.CountLaws.{and_right, how_many-some, how_many-weaker, some-how_many}
use Rattle.fsa_model.proofs.LoopLaws.{Reaches-begins}
use Rattle.fsa_model.proofs.SettleLaws.{IsNext, MaySettle-kept, next_ready-is, next-may_be_held, some_equal, try-tries}
use Rattle.fsa_model.proofs.TryFrame.{try-frame}
use Rattle.fsa_model.proofs.WatchLaws.{come_cases}
use Rattle.fsa_model.proofs.TryLaws.{Leaves, Tries, TriesTo}
use Rattle.fsa_machine.specs.Serves.{KnowsWaited, MayHoldAnew, MayTry, Serves, ServesOn, is_line_call, most_turns}
use Rattle.fsa_machine.specs.Step.{AreBare, Starves, ready_of, report_to}
use Rattle.fsa_machine.proofs.ServeLaws.{Comes, ComesTo, GivesUpTo-more, few-oplocks, All-each, none-fails, line-asked, try-comes, SameBase-next, Serves-ends, Serves-over, Serves-blockers}
use Rattle.fsa_machine.specs.declared.store.Ready.{Ready}
use Rattle.fsa_machine.specs.declared.store.Report.{Report}

-- the call that is ready
pub record IsReady (v : Volume) (ready : Ready) : Type 0 where
  pub entry : ℕ × Pending
  pub found : next_ready v ≡ Some entry
  pub is : ready_of v entry ≡ ready

pub ready-is : (v : Volume) (ready : Ready) → option_map (ready_of v) (next_ready v) ≡ Some ready → IsReady v ready
ready-is v ready is = elim (option_cases (next_ready v)) [
  | inl none ↦ (let impossible : None ≡ Some ready = rw none at is in cc)
  | inr some ↦ (let same : Some (ready_of v some.0) ≡ Some ready = rw some.1 at is in record { entry = some.0; found = some.1; is = cc })
]

pub ready-call : (v : Volume) (ready : Ready) → MayTakeUp v → option_map (ready_of v) (next_ready v) ≡ Some ready
    → option_map (λ row. row.call) (row_of v.pending ready.turn) ≡ option_map (λ entry. entry.1.call) (next_ready v)
ready-call v ready may is =
    let next = ready-is v ready is in
    ap (λ (r : Ready). option_map (λ (row : Pending). row.call) (row_of v.pending r.turn)) (sym next.is)
    ∙ ap (λ (o : Option Pending). option_map (λ (row : Pending). row.call) o) (next-row v next.entry may next.found)
    ∙ ap (λ (o : Option (ℕ × Pending)). option_map (λ (entry : ℕ × Pending). entry.1.call) o) (sym next.found)

pub ready-there : (v : Volume) (ready : Ready) → MayTakeUp v → option_map (ready_of v) (next_ready v) ≡ Some ready → None ≡ option_map (λ row. row.call) (row_of v.pending ready.turn) → ⊥
ready-there v ready may is none =
    let next = ready-is v ready is in
    let impossible : None ≡ Some next.entry.1.call = none ∙ ready-call v ready may is ∙ ap (λ (o : Option (ℕ × Pending)). option_map (λ (entry : ℕ × Pending). entry.1.call) o) next.found in cc

-- ---- a held call that is tried again

-- the volume that it leaves
abbrev pub retried : Ready → Outcome → Volume
retried ready (Done w reply) = with_end w ready.client ready.number reply
retried ready (Stay w interim) = with_blockers w ready.turn []
retried ready (Hold w blockers interim) = with_blockers w ready.turn blockers

abbrev pub own_ends : Outcome → ℕ
own_ends (Done w reply) = 1
own_ends (Stay w interim) = 0
own_ends (Hold w blockers interim) = 0

-- ---- a try of it may be made

-- what holds of each pending call holds of the next one
next-passes : (v : Volume) (entry : ℕ × Pending) (test : ℕ × Pending → Bool) → next_ready v ≡ Some entry → All (λ e. IsTrue (test e)) v.pending → test entry ≡ true
next-passes v entry test found all = elim (cases_Bool (test entry)) [
  | inl is ↦ is
  | inr isnt ↦ (let some = IsNext.is_there (next_ready-is v entry found) (λ e. not (test e)) (rw isnt refl) in let none = none-fails test v.pending all in absurd (omega arith))
]

-- it has opened no handle
no-handle : (v : Volume) (client number : ℕ) → IsOnce v → 1 ≤ how_many (λ (e : ℕ × Pending). e.1.call.client == client && e.1.call.number == number) v.pending
    → (handles : List (ℕ × Handle)) → All (λ entry. IsTrue (has_ended v entry.1.client entry.1.number)) handles
    → option_map (λ (entry : ℕ × Handle). entry.0) (find (λ (entry : ℕ × Handle). is_opened_by client number entry.1) handles) ≡ None
no-handle v client number once pends [] all = refl
no-handle v client number once pends (entry ∷ handles) all = elim (cases_Bool (is_opened_by client number entry.1)) [
  | inr other ↦ rw other (no-handle v client number once pends handles (All-tail (λ (e : ℕ × Handle). IsTrue (has_ended v e.1.client e.1.number)) entry handles all))
  | inl own ↦ absurd (let same = is_same-equal entry.1.client entry.1.number client number own in
      let ended : IsTrue (has_ended v entry.1.client entry.1.number) = All-head (λ (e : ℕ × Handle). IsTrue (has_ended v e.1.client e.1.number)) entry handles all in
      let here : IsTrue (has_ended v client number) = rw (same.0, same.1) at ended in
      let some = how_many-some (is_end client number) v.ended here in
      let few : times client number v ≤ 1 = once client number in omega arith)
]

knows-held : (v : Volume) (client number : ℕ) (what : What) → may_be_held what ≡ true → KnowsWaited v client number what
knows-held v client number (WaitFor earlier) held = cc
knows-held v client number _ held = tt

pub may-retry : (v : Volume) (ready : Ready) (call : Call) → Serves v → MayTakeUp v → option_map (ready_of v) (next_ready v) ≡ Some ready → ready.held ≡ true
    → option_map (λ entry. entry.1.call) (next_ready v) ≡ Some call → made v ≤ most_entries → MayTry v call
may-retry v ready call serves may is held called few =
    let next : IsReady v ready = ready-is v ready is in
    let same : Some next.entry.1.call ≡ Some call = rw next.found at called in
    let own : next.entry.1.call ≡ call = cc in
    let is_held_entry : is_held next.entry.1 ≡ true = ap (λ (r : Ready). r.held) next.is ∙ held in
    let there : IsNext v next.entry = next_ready-is v next.entry next.found in
    let asked : is_line_call (length v.clients) next.entry.1.call ≡ true = next-passes v next.entry (λ e. is_line_call (length v.clients) e.1.call) next.found serves.asked in
    let made_few : length v.pending + length v.ended ≤ 1000000 = few in
    subst (λ (c : Call). MayTry v c) own (record {
      points = serves.points;
      asked = line-asked (length v.clients) next.entry.1.call asked;
      new = no-handle v next.entry.1.call.client next.entry.1.call.number serves.once
          (there.is_there (λ (e : ℕ × Pending). e.1.call.client == next.entry.1.call.client && e.1.call.number == next.entry.1.call.number) (is_same-refl next.entry.1.call.client next.entry.1.call.number)) v.handles serves.handles;
      opened = All-each (λ (entry : ℕ × Handle). IsTrue (nat_lt 0 entry.1.number)) (λ (entry : ℕ × Handle). 0 < entry.1.number) (λ entry above. ltb-true 0 entry.1.number above) v.handles serves.opened;
      gives = GivesUpTo-more v (length v.ended + 1) most_turns (omega arith) serves.gives;
      breaks = few-oplocks v most_turns may.given (let most = serves.breaks in omega arith);
      waited = knows-held v next.entry.1.call.client next.entry.1.call.number next.entry.1.call.what (next-may_be_held v next.entry may.may there is_held_entry);
    })

-- ---- what a try of it leaves

-- the reply is short
abbrev pub RepliesWithin : What → Outcome → Type 0
RepliesWithin what (Done w reply) = FitsReply what reply
RepliesWithin what (Stay w interim) = Unit {0}
RepliesWithin what (Hold w blockers interim) = Unit {0}

within-frame : (call : Call) (v : Volume) (outcome : Outcome) → FramedTo call v outcome → RepliesWithin call.what outcome
within-frame call v (Done w reply) frame = frame.1.0
within-frame call v (Stay w interim) frame = tt
within-frame call v (Hold w blockers interim) frame = tt

-- calls that it ends have replies without bytes
bare-after : (v w : Volume) → EndsPending v w → AreBare (drop (length v.ended) w.ended)
bare-after v w ends = subst (λ (rest : List EndOf). AreBare rest) (sym (ap (λ (ended : List EndOf). drop (length v.ended) ended) ends.is ∙ drop-append_seam v.ended ends.more)) ends.bare

bare-frame : (call : Call) (v : Volume) (outcome : Outcome) → FramedTo call v outcome → AreBare (drop (length v.ended) (volume_after outcome).ended)
bare-frame call v (Done w reply) frame = bare-after v w frame.0.ended
bare-frame call v (Stay w interim) frame = bare-after v w frame.0.ended
bare-frame call v (Hold w blockers interim) frame = bare-after v w frame.0.ended

pub record Replies (call : Call) (v : Volume) (outcome : Outcome) : Type 0 where
  pub within : RepliesWithin call.what outcome
  pub bare : AreBare (drop (length v.ended) (volume_after outcome).ended)

pub replies : (v : Volume) (call : Call) (turn : ℕ) (outcome : Outcome) → Serves v → try v call turn ≡ outcome → Replies call v outcome
replies v call turn outcome serves tried =
    subst (λ (o : Outcome). Replies call v o) tried (record {
      within = within-frame call v (try v call turn) (InFrame.so (try-frame v call turn serves.points));
      bare = bare-frame call v (try v call turn) (InFrame.so (try-frame v call turn serves.points));
    })

-- held anew it is still there
held-there : (rows : List (ℕ × Pending)) (turn : ℕ) → how_many (is_under turn) rows ≤ 1 → 1 ≤ how_many (λ e. is_held e.1 && e.0 == turn) rows → ForSome (row_of rows turn) (λ row. is_held row ≡ true)
held-there [] turn few some = absurd (omega arith)
held-there (row ∷ rows) turn few some = elim (cases_Bool (row.0 == turn)) [
  | inr other ↦ elim (cases_Bool (is_held row.1)) [
    | inl held ↦ (let rest : 1 ≤ 0 + how_many (λ e. is_held e.1 && e.0 == turn) rows = rw (held, other) at some in
        let few_rest : 0 + how_many (is_under turn) rows ≤ 1 = rw other at few in rw other (held-there rows turn (omega arith) (omega arith)))
    | inr free ↦ (let rest : 1 ≤ 0 + how_many (λ e. is_held e.1 && e.0 == turn) rows = rw free at some in
        let few_rest : 0 + how_many (is_under turn) rows ≤ 1 = rw other at few in rw other (held-there rows turn (omega arith) (omega arith)))
  ]
  | inl own ↦ elim (cases_Bool (is_held row.1)) [
    | inl held ↦ rw own (λ x is. subst (λ (r : Pending). is_held r ≡ true) (some_equal row.1 x is) held)
    | inr free ↦ absurd (let rest : 1 ≤ 0 + how_many (λ e. is_held e.1 && e.0 == turn) rows = rw free at some in
        let all : 1 + how_many (is_under turn) rows ≤ 1 = rw own at few in
        let weaker = how_many-weaker (λ (e : ℕ × Pending). is_held e.1 && e.0 == turn) (is_under turn) rows (λ e both. and_right (is_held e.1) (e.0 == turn) both) in omega arith)
  ]
]

-- where it is held anew, it may be
abbrev pub HoldsAnew : ℕ → Outcome → Type 0
HoldsAnew turn (Done w reply) = Unit {0}
HoldsAnew turn (Stay w interim) = Unit {0}
HoldsAnew turn (Hold w blockers interim) = MayHoldAnew w turn blockers

holds-anew : (v : Volume) (entry : ℕ × Pending) (outcome : Outcome) → MayTakeUp v → IsNext v entry → is_held entry.1 ≡ true → TriesTo Leaves v outcome → HoldsAnew entry.0 outcome
holds-anew v entry (Done w reply) may there held tries = tt
holds-anew v entry (Stay w interim) may there held tries = tt
holds-anew v entry (Hold w blockers interim) may there held tries =
    let still : 1 ≤ how_many (λ (e : ℕ × Pending). is_held e.1 && e.0 == entry.0) w.pending
    = (let kept = tries.0.held may.once may.none_held (λ e. e.0 == entry.0) in
    let some = there.is_there (λ (e : ℕ × Pending). is_held e.1 && e.0 == entry.0) (rw (held, eq-eqb entry.0 entry.0 refl) refl) in omega arith) in
    record {
      there = some-how_many (is_under entry.0) w.pending
          (let weaker = how_many-weaker (λ (e : ℕ × Pending). is_held e.1 && e.0 == entry.0) (is_under entry.0) w.pending (λ e both. and_right (is_held e.1) (e.0 == entry.0) both) in omega arith);
      held = held-there w.pending entry.0 (MaySettle.turns (MaySettle-kept v w tries.0.keeps may.may) entry.0) still;
      some = tries.1.1.some;
      living = tries.1.1.live;
    }

-- and the volume stays as it is between tries
next-numbered : (v : Volume) (entry : ℕ × Pending) → Serves v → next_ready v ≡ Some entry → nat_lt 0 entry.1.call.number ≡ true
next-numbered v entry serves found = next-passes v entry (λ e. nat_lt 0 e.1.call.number) found serves.numbered

tried-serves : (v : Volume) (entry : ℕ × Pending) (outcome : Outcome) → Serves v → IsTrue (nat_lt 0 entry.1.call.number) → Comes entry.1.call v outcome → TriesTo Leaves v outcome
    → IsOnce (with_tried entry.0 entry.1 outcome) → ((client number : ℕ) → times client number (with_tried entry.0 entry.1 outcome) ≡ times client number v) → ServesOn v (with_tried entry.0 entry.1 outcome)
tried-serves v entry (Done w reply) serves numbered comes tries once same = record {
  serves = Serves-ends v w entry.1.call reply serves numbered comes.0 once (λ c n. (let equal = same c n in omega arith));
  base = record { table = comes.0.base.table; clients = comes.0.base.clients };
}
tried-serves v entry (Stay w interim) serves numbered comes tries once same = absurd tries
tried-serves v entry (Hold w blockers interim) serves numbered comes tries once same = record {
  serves = Serves-blockers w entry.0 blockers comes.serves;
  base = record { table = comes.base.table; clients = comes.base.clients };
}

-- a call that is taken up is there as often as before
pub takes-times : (v w : Volume) (entry : ℕ × Pending) (more : List CallId) → MayTakeUp v → next_ready v ≡ Some entry → TakesUp v entry more w → (client number : ℕ) → times client number w ≡ times client number v
takes-times v w entry more may found takes client number = (let reaches : Reaches v ([] ++ more) w = (Reaches-step v v w [] more entry (Reaches-begins v may) found takes).0 in GoesOn.times reaches.on client number)

pub record Retries (v : Volume) (ready : Ready) (call : Call) (outcome : Outcome) : Type 0 where
  pub next : TakesNext v [] (retried ready outcome)
  pub begins : length v.ended ≤ length (volume_after outcome).ended
  pub few : length (volume_after outcome).ended + own_ends outcome ≤ made v
  pub replies : Replies call v outcome
  pub anew : HoldsAnew ready.turn outcome
  pub serves : ServesOn v (retried ready outcome)

pub retries : (v : Volume) (ready : Ready) (call : Call) (outcome : Outcome) → Serves v → MayTakeUp v → option_map (ready_of v) (next_ready v) ≡ Some ready → ready.held ≡ true
    → option_map (λ entry. entry.1.call) (next_ready v) ≡ Some call → try v call ready.turn ≡ outcome → Retries v ready call outcome
retries v ready call outcome serves may is held called tried =
    let next : IsReady v ready = ready-is v ready is in
    let same : Some next.entry.1.call ≡ Some call = rw next.found at called in
    let own : next.entry.1.call ≡ call = cc in
    let turn : next.entry.0 ≡ ready.turn = ap (λ (r : Ready). r.turn) next.is in
    let there : IsNext v next.entry = next_ready-is v next.entry next.found in
    let is_tried : try v next.entry.1.call next.entry.0 ≡ outcome = ap (λ (c : Call). try v c next.entry.0) own ∙ ap (λ (t : ℕ). try v call t) turn ∙ tried in
    let is_held_entry : is_held next.entry.1 ≡ true = ap (λ (r : Ready). r.held) next.is ∙ held in
    let takes = TakesUp-tried v next.entry outcome is_held_entry is_tried in
    let keeping = TakesUp-keeping v (with_tried next.entry.0 next.entry.1 outcome) next.entry [] may next.found takes in
    let left : with_tried next.entry.0 next.entry.1 outcome ≡ retried ready outcome = as_retried next.entry outcome ∙ ap (λ (r : Ready). retried r outcome) next.is in
    let comes : Comes next.entry.1.call v outcome = subst (λ (o : Outcome). Comes next.entry.1.call v o) is_tried
    (ComesTo.so (try-comes v next.entry.1.call next.entry.0 serves may.may.oplocks (next-passes v next.entry (λ e. is_line_call (length v.clients) e.1.call) next.found serves.asked))) in
    let tries : TriesTo Leaves v outcome = subst (λ (o : Outcome). TriesTo Leaves v o) is_tried
    (Tries.so (try-tries v next.entry.1.call next.entry.0 may.may.oplocks (next-may_be_held v next.entry may.may there is_held_entry))) in
    record {
      next = record { entry = next.entry; found = next.found; takes = subst (λ (w : Volume). TakesUp v next.entry [] w) left takes };
      begins = AddsEnds-length (subst (λ (o : Outcome). AddsEnds v.ended (volume_after o).ended) tried (try-extends v call ready.turn may));
      few = few_of next.entry outcome keeping.made;
      replies = replies v call ready.turn outcome serves tried;
      anew = subst (λ (t : ℕ). HoldsAnew t outcome) turn (holds-anew v next.entry outcome may there is_held_entry tries);
      serves = subst (λ (w : Volume). ServesOn v w) left
          (tried-serves v next.entry outcome serves (next-numbered v next.entry serves next.found) comes tries keeping.may.once (takes-times v (with_tried next.entry.0 next.entry.1 outcome) next.entry [] may next.found takes));
    }
  where
    as_retried : (entry : ℕ × Pending) (outcome : Outcome) → with_tried entry.0 entry.1 outcome ≡ retried (ready_of v entry) outcome
    as_retried entry (Done w reply) = refl
    as_retried entry (Stay w interim) = refl
    as_retried entry (Hold w blockers interim) = refl

    few_of : (entry : ℕ × Pending) (outcome : Outcome) → made (with_tried entry.0 entry.1 outcome) ≡ made v → length (volume_after outcome).ended + own_ends outcome ≤ made v
    few_of entry (Done w reply) same = (let one = length-append w.ended (record { client = entry.1.call.client; number = entry.1.call.number; reply = reply } ∷ []) in omega arith)
    few_of entry (Stay w interim) same = omega arith
    few_of entry (Hold w blockers interim) same = omega arith

pub never-stays : (v w : Volume) (ready : Ready) (call : Call) (interim : Interim) → MayTakeUp v → option_map (ready_of v) (next_ready v) ≡ Some ready → ready.held ≡ true
    → option_map (λ entry. entry.1.call) (next_ready v) ≡ Some call → try v call ready.turn ≡ Stay w interim → ⊥
never-stays v w ready call interim may is held called tried =
    let next : IsReady v ready = ready-is v ready is in
    let same : Some next.entry.1.call ≡ Some call = rw next.found at called in
    let own : next.entry.1.call ≡ call = cc in
    let turn : next.entry.0 ≡ ready.turn = ap (λ (r : Ready). r.turn) next.is in
    held-stays v w next.entry interim may next.found (ap (λ (r : Ready). r.held) next.is ∙ held) (ap (λ (c : Call). try v c next.entry.0) own ∙ ap (λ (t : ℕ). try v call t) turn ∙ tried)

-- one more end at the end
pub drop-push : {X : Type 0} (n : ℕ) (xs : List X) (x : X) → n ≤ length xs → drop n (xs ++ x ∷ []) ≡ drop n xs ++ x ∷ []
drop-push zero xs x within = refl
drop-push (suc n) [] x within = absurd (omega arith)
drop-push (suc n) (y ∷ xs) x within = drop-push n xs x (omega arith)

-- the ends that a try added and then the call's own have been given out
pub told-own : (v w x : Volume) (client number : ℕ) (reply : Reply) (before told after : List EndOf) → length v.ended ≤ length w.ended → x ≡ with_end w client number reply
    → told ≡ before ++ drop (length v.ended) w.ended → after ≡ told ++ record { client = client; number = number; reply = reply } ∷ [] → after ≡ before ++ ends_between v x
told-own v w x client number reply before told after within is told_is after_is =
    after_is ∙ ap (λ (ends : List EndOf). ends ++ own) told_is ∙ append_assoc before (drop (length v.ended) w.ended) own
    ∙ ap (λ (ends : List EndOf). before ++ ends) (sym (drop-push (length v.ended) w.ended (record { client = client; number = number; reply = reply }) within) ∙ ap (λ (u : Volume). drop (length v.ended) u.ended) (sym is))
  where
    own : List EndOf
    own = record { client = client; number = number; reply = reply } ∷ []

-- ---- the other ways to take it up

-- the call is taken up so, and the volume stays as it is between tries
pub record Steps (v : Volume) (more : List CallId) (w : Volume) : Type 0 where
  pub next : TakesNext v more w
  pub serves : ServesOn v w

over-serves : (v w : Volume) (client number : ℕ) (reply : Reply) (entry : ℕ × Pending) (more : List CallId) → Serves v → MayTakeUp v → next_ready v ≡ Some entry → TakesUp v entry more w → w ≡ with_end v client number reply → ServesOn v w
over-serves v w client number reply entry more serves may found takes is =
    let keeping = TakesUp-keeping v w entry more may found takes in
    let same = takes-times v w entry more may found takes in
    subst (λ (u : Volume). ServesOn v u) (sym is) (record {
      serves = Serves-over v client number reply serves (subst (λ (u : Volume). IsOnce u) is keeping.may.once)
          (λ c n. (let equal : times c n (with_end v client number reply) ≡ times c n v = ap (λ (u : Volume). times c n u) (sym is) ∙ same c n in omega arith));
      base = record { table = refl; clients = refl };
    })

-- and then the volume stays so too
pub starved-serves : (v : Volume) (ready : Ready) → Serves v → MayTakeUp v → Starves v ready → ServesOn v (with_end v ready.client ready.number (record { status = NoMemory; body = Nothing }))
starved-serves v ready serves may starves =
    over-serves v (with_end v ready.client ready.number (record { status = NoMemory; body = Nothing })) ready.client ready.number (record { status = NoMemory; body = Nothing }) starves.entry
    (record { client = ready.client; number = ready.number } ∷ []) serves may starves.found starves.takes refl

-- what is ready, isn't held and isn't reported to waits for a call
waits-for : (v : Volume) (client number : ℕ) (what : What) → has_come v client number what ≡ true → report_to v client what ≡ None → (earlier : ℕ) × (what ≡ WaitFor earlier)
waits-for v client number (WaitFor earlier) come none = (earlier, refl)
waits-for v client number (Ask (Notify handle filter whole room)) come none = elim (option_cases (handle_of v client handle)) [
  | inl gone ↦ (let impossible : false ≡ true = rw gone at come in cc)
  | inr some ↦ (let reported : Report = record { handle = some.0; room = room } in let impossible : Some reported ≡ None = rw some.1 at none in cc)
]
waits-for v client number _ come none = (let impossible : false ≡ true = come in cc)

pub waits-step : (v : Volume) (ready : Ready) → Serves v → MayTakeUp v → option_map (ready_of v) (next_ready v) ≡ Some ready → ready.held ≡ false → ready.report ≡ None
    → Steps v [] (with_end v ready.client ready.number (record { status = Success; body = Nothing }))
waits-step v ready serves may is held none =
    let next : IsReady v ready = ready-is v ready is in
    let free : is_held next.entry.1 ≡ false = ap (λ (r : Ready). r.held) next.is ∙ held in
    let there : IsNext v next.entry = next_ready-is v next.entry next.found in
    let come : has_come v next.entry.1.call.client next.entry.1.call.number next.entry.1.call.what ≡ true = rw free at there.ready in
    let waited = waits-for v next.entry.1.call.client next.entry.1.call.number next.entry.1.call.what come (ap (λ (r : Ready). r.report) next.is ∙ none) in
    let takes = TakesUp-waits v next.entry waited.0 free waited.1 in
    subst (λ (r : Ready). Steps v [] (with_end v r.client r.number (record { status = Success; body = Nothing }))) next.is
    (record {
      next = record { entry = next.entry; found = next.found; takes = takes };
      serves = over-serves v (with_ended v next.entry.1 Success) next.entry.1.call.client next.entry.1.call.number (record { status = Success; body = Nothing }) next.entry [] serves may next.found takes refl;
    })

-- ---- a Notify that is reported to

-- what it asks, and the handle that reports
pub record IsAsked (v : Volume) (client : ℕ) (what : What) (asked : Report) : Type 0 where
  pub handle : ℕ
  pub filter : ℕ
  pub tree : Bool
  pub is : what ≡ Ask (Notify handle filter tree asked.room)
  pub found : handle_of v client handle ≡ Some asked.handle

is-asked : (v : Volume) (client : ℕ) (what : What) (asked : Report) → report_to v client what ≡ Some asked → IsAsked v client what asked
is-asked v client (Ask (Notify handle filter tree room)) asked reports = elim (option_cases (handle_of v client handle)) [
  | inl none ↦ (let impossible : None ≡ Some asked = rw none at reports in cc)
  | inr some ↦ (let both : Some (record { handle = some.0; room = room }) ≡ Some asked = rw some.1 at reports in
      let same : record { handle = some.0; room = room } ≡ asked = some_equal (record { handle = some.0; room = room }) asked both in
      subst (λ (a : Report). IsAsked v client (Ask (Notify handle filter tree room)) a) same (record { handle = handle; filter = filter; tree = tree; is = refl; found = some.1 }))
]
is-asked v client _ asked reports = (let impossible : None ≡ Some asked = reports in cc)

-- a report leaves what is between tries
Serves-seen : (v : Volume) (id : ℕ) → Serves v → Serves (with_watch_seen v id)
Serves-seen v id serves = record {
  points = serves.points;
  once = serves.once;
  asked = serves.asked;
  numbered = serves.numbered;
  waited = serves.waited;
  handles = serves.handles;
  opened = serves.opened;
  gives = record { files = serves.gives.files; links = serves.gives.links; streams = serves.gives.streams; handles = serves.gives.handles; locks = serves.gives.locks; clock = serves.gives.clock };
  breaks = serves.breaks;
}

pub reports-step : (v : Volume) (ready : Ready) (asked : Report) → Serves v → MayTakeUp v → option_map (ready_of v) (next_ready v) ≡ Some ready → ready.held ≡ false → ready.report ≡ Some asked
    → Steps v [] (with_end (with_watch_seen v asked.handle) ready.client ready.number (report v asked.handle asked.room))
reports-step v ready asked serves may is held reports =
    let next : IsReady v ready = ready-is v ready is in
    let free : is_held next.entry.1 ≡ false = ap (λ (r : Ready). r.held) next.is ∙ held in
    let call : IsAsked v next.entry.1.call.client next.entry.1.call.what asked = is-asked v next.entry.1.call.client next.entry.1.call.what asked (ap (λ (r : Ready). r.report) next.is ∙ reports) in
    let takes = TakesUp-reports v next.entry call.handle call.filter call.tree asked.room asked.handle free call.is call.found in
    let keeping = TakesUp-keeping v (with_reported v next.entry.1 asked.handle asked.room) next.entry [] may next.found takes in
    let same = takes-times v (with_reported v next.entry.1 asked.handle asked.room) next.entry [] may next.found takes in
    subst (λ (r : Ready). Steps v [] (with_end (with_watch_seen v asked.handle) r.client r.number (report v asked.handle asked.room))) next.is
    (record {
      next = record { entry = next.entry; found = next.found; takes = takes };
      serves = record {
        serves = Serves-over (with_watch_seen v asked.handle) next.entry.1.call.client next.entry.1.call.number (report v asked.handle asked.room) (Serves-seen v asked.handle serves) keeping.may.once
            (λ c n. (let equal : times c n (with_reported v next.entry.1 asked.handle asked.room) ≡ times c n v = same c n in
            let alike : times c n (with_watch_seen v asked.handle) ≡ times c n v = refl in omega arith));
        base = record { table = refl; clients = refl };
      };
    })

-- some call is pending then
pub ready-pending : (v : Volume) (ready : Ready) → option_map (ready_of v) (next_ready v) ≡ Some ready → 1 ≤ length v.pending
ready-pending v ready is =
    let next : IsReady v ready = ready-is v ready is in
    let there = IsNext.is_there (next_ready-is v next.entry next.found) (λ e. true) refl in
    let most = how_many-length (λ e. true) v.pending in omega arith

-- ---- the loop

-- one more end is given out
pub told-end : (v x : Volume) (client number : ℕ) (reply : Reply) (before after : List EndOf) → x ≡ with_end v client number reply
    → after ≡ before ++ record { client = client; number = number; reply = reply } ∷ [] → after ≡ before ++ ends_between v x
told-end v x client number reply before after is after_is =
    after_is ∙ ap (λ (ends : List EndOf). before ++ ends) (sym (drop-append_seam v.ended (record { client = client; number = number; reply = reply } ∷ [])) ∙ ap (λ (u : Volume). drop (length v.ended) u.ended) (sym is))

-- as many ends have come as calls starve
more-ends : (w x : Volume) (entry : ℕ × Pending) (more : List CallId) → TakesUp w entry more x → AddsEnds w.ended x.ended → length more + length w.ended ≤ length x.ended
more-ends w x entry [] takes extends = (let longer = AddsEnds-length extends in omega arith)
more-ends w x entry (id ∷ more) takes extends = elim (cases_Bool (is_held entry.1)) [
  | inr waits ↦ elim (come_cases w entry.1 entry.1.call.what) [
    | inl certain ↦ (let impossible : id ∷ more ≡ [] = rw (waits, certain.is (id ∷ more) []) at takes.all in cc)
    | inr unsure ↦ elim (cases_Bool (starves (id ∷ more) entry.1)) [
      | inr plenty ↦ (let impossible : id ∷ more ≡ [] = rw (waits, unsure.is (id ∷ more) [], plenty) at takes.all in cc)
      | inl starving ↦ (let none : more ≡ [] = rw (waits, unsure.is (id ∷ more) [], starving) at takes.all in
          let is : x ≡ with_ended w entry.1 NoMemory = rw (waits, unsure.is (id ∷ more) [], starving) at takes.is in
          let one : length (with_ended w entry.1 NoMemory).ended ≡ length w.ended + 1 = length-append w.ended (record { client = entry.1.call.client; number = entry.1.call.number; reply = record { status = NoMemory; body = Nothing } } ∷ []) in
          rw (is, none) (omega arith))
    ]
  ]
  | inl held ↦ elim (cases_Bool (starves (id ∷ more) entry.1)) [
    | inr plenty ↦ (let impossible : id ∷ more ≡ [] = rw (held, plenty) at takes.all in cc)
    | inl starving ↦ (let none : more ≡ [] = rw (held, starving) at takes.all in
        let is : x ≡ with_ended w entry.1 NoMemory = rw (held, starving) at takes.is in
        let one : length (with_ended w entry.1 NoMemory).ended ≡ length w.ended + 1 = length-append w.ended (record { client = entry.1.call.client; number = entry.1.call.number; reply = record { status = NoMemory; body = Nothing } } ∷ []) in
        rw (is, none) (omega arith))
  ]
]

-- the loop goes on
pub record Onward (v w x : Volume) (names after : List CallId) : Type 0 where
  pub reaches : Reaches v after x
  pub falls : how_many_free x < how_many_free w
  pub named : length after + length x.pending ≤ length names + length w.pending
  pub extends : AddsEnds w.ended x.ended
  pub before : Keeping v w
  pub serves : ServesOn v x

pub onward : (v w x : Volume) (names after : List CallId) → Reaches v names w → ServesOn v w → (more : List CallId) × (after ≡ names ++ more) × TakesNext w more x → ServesOn w x → Onward v w x names after
onward v w x names after reaches on step next_on =
    let more : List CallId = step.0 in
    let takes : TakesNext w more x = step.2 in
    let keeping : Keeping v w = Reaches-keeping v w names reaches in
    let keeps : Keeping w x = TakesUp-keeping w x takes.entry more keeping.may takes.found takes.takes in
    let one = Reaches-step v w x names more takes.entry reaches takes.found takes.takes in
    let ends = more-ends w x takes.entry more takes.takes keeps.ended in
    let same = keeps.made in
    let longer = length-append names more in
    record {
      reaches = subst (λ (ids : List CallId). Reaches v ids x) (sym step.1) one.0;
      falls = one.1;
      named = rw step.1 (omega arith);
      extends = keeps.ended;
      before = keeping;
      serves = record { serves = next_on.serves; base = SameBase-next on.base next_on.base };
    }

pub ends-joined : (v w x : Volume) → AddsEnds v.ended w.ended → AddsEnds w.ended x.ended → ends_between v w ++ ends_between w x ≡ ends_between v x
ends-joined v w x first second =
    let within = AddsEnds-length first in
    ap (λ (ends : List EndOf). ends_between v w ++ ends) (ap (λ (ends : List EndOf). drop (length w.ended) ends) second.is ∙ drop-append_seam w.ended second.more)
    ∙ sym (drop-append-le (length v.ended) w.ended second.more within)
    ∙ ap (λ (ends : List EndOf). drop (length v.ended) ends) (sym second.is)

pub told-on : (v w x : Volume) (names after : List CallId) (before told now : List EndOf) → Onward v w x names after → told ≡ before ++ ends_between v w → now ≡ told ++ ends_between w x → now ≡ before ++ ends_between v x
told-on v w x names after before told now on told_is now_is =
    now_is ∙ ap (λ (ends : List EndOf). ends ++ ends_between w x) told_is ∙ append_assoc before (ends_between v w) (ends_between w x)
    ∙ ap (λ (ends : List EndOf). before ++ ends) (ends-joined v w x on.before.ended on.extends)

-- nothing has ended yet
pub told-none : (v : Volume) (before : List EndOf) → before ≡ before ++ ends_between v v
told-none v before = sym (ap (λ (ends : List EndOf). before ++ ends) (drop_all (length v.ended) v.ended (omega arith)) ∙ append-nil before)

pub not-true : (b : Bool) → not b ≡ true → b ≡ false
not-true true is = cc
not-true false is = refl

pub not-false : (b : Bool) → not b ≡ false → b ≡ true
not-false true is = refl
not-false false is = cc
