-- What a loop that settles keeps, when it learns only as it goes which calls starve: the settlement is defined
-- with the whole list of them.
use Rattle.std.proofs.Common.{◌≡◌, ℕ, ◌+◌, ◌<◌, ◌≤◌, ◌⊎◌, filter, Bool, true, false, not, List, [], ◌∷◌, ◌++◌, refl, ap, sym, subst, ◌∙◌, arith, inl, inr, Some, None, append_assoc, append-nil}
use Rattle.std.specs.Prelude.{◌==◌, ◌&&◌, nat_le, nat_lt, slice_get}
use Rattle.std.proofs.lemmas.Bool.{cases_Bool, eq-eqb, eqb-true, le-leb}
use Rattle.fsa_types.specs.declared.reply.Reply.{Reply}
use Rattle.fsa_types.specs.declared.request.Call.{Call}
use Rattle.fsa_types.specs.declared.request.Request.TheVariants.{Notify}
use Rattle.fsa_types.specs.declared.request.What.{What}
use Rattle.fsa_types.specs.declared.request.What.TheVariants.{Ask, WaitFor}
use Rattle.fsa_model.specs.Edits.{is_call, with_end}
use Rattle.fsa_model.specs.Lookups.{handle_of}
use Rattle.fsa_model.specs.Watching.{due_size}
use Rattle.fsa_types.specs.declared.request.CallId.{CallId}
use Rattle.fsa_types.specs.Rows.{row_of}
use Rattle.fsa_types.specs.Sorting.{put_in_order, in_order}
use Rattle.fsa_types.specs.declared.reply.Interim.{Interim}
use Rattle.fsa_types.specs.declared.status.Status.TheVariants.{Success, NoMemory}
use Rattle.fsa_model.specs.Outcome.{Outcome, Stay}
use Rattle.fsa_model.specs.Turn.{volume_after}
use Rattle.fsa_model.specs.Try.{try}
use Rattle.fsa_model.specs.Once.{made, how_many, times, IsOnce}
use Rattle.fsa_model.specs.Settle.{Settling, with_ended, with_reported, with_tried, starves, taken_up, settle_step, taken_up_all, settled}
use Rattle.fsa_model.specs.Volume.{Pending, Volume}
use Rattle.fsa_model.specs.Waiting.{is_held, is_ready, next_ready, with_stalled}
pub use Rattle.fsa_model.specs.Settling.{IsLetGo, AreLetGo, Reaches, TakesUp, TakesNext}
use Rattle.fsa_model.proofs.CountLaws.{and_left, and_right, and_true, how_many-weaker, how_many-append, how_many-filter, how_many-split, how_many-none, some-how_many, only-one}
use Rattle.fsa_model.proofs.OnceLaws.{is_call_of, AddsEnds}
use Rattle.fsa_model.proofs.SettleLaws.{MaySettle, IsNext, is_held_wrongly, may_be_held, Steps, Steps-settle_step, is_under, how_many_free, next_ready-is, ready-free, taken_up_from-step, taken_up_from-done, next-may_be_held, some_equal, try-tries}
use Rattle.fsa_model.proofs.TryLaws.{Leaves, Tries, TriesTo}
use Rattle.fsa_model.proofs.TurnLaws.{try-keeps, tried-begins}
use Rattle.fsa_model.proofs.WatchLaws.{asks_report, come_cases, come_volume, come_starved, come_taken}
use Rattle.fsa_model.proofs.TakenLaws.{GoesOn, GoesOn-begins, GoesOn-settle_step, MayTakeUp, is_let_go_under}

-- ---- one step

-- what a settlement has come to says nothing of the calls that are to starve
GoesOn-starving : (v w : Volume) (starved other : List CallId) (taken : List ℕ) → GoesOn v (record { volume = w; starved = starved; taken = taken }) → GoesOn v (record { volume = w; starved = other; taken = taken })
GoesOn-starving v w starved other taken on = record {
  may = on.may;
  once = on.once;
  none_held = on.none_held;
  given = on.given;
  times = on.times;
  made = on.made;
  under = on.under;
  granted = on.granted;
  ended = on.ended;
  seen = on.seen;
  gives = on.gives;
  breaks = on.breaks;
  taken = on.taken;
  in_order = on.in_order;
  below = on.below;
}

pub Reaches-begins : (v : Volume) → MayTakeUp v → Reaches v [] v
Reaches-begins v may = record { taken = []; on = GoesOn-begins v [] may; goes = λ rest let_go. refl }

-- the turns that were taken up have no part in what the step does
step_volume : (v : Volume) (entry : ℕ × Pending) (more : List CallId) (taken other : List ℕ)
    → (taken_up (record { volume = v; starved = more; taken = taken }) entry).volume ≡ (taken_up (record { volume = v; starved = more; taken = other }) entry).volume
step_volume v entry more taken other = elim (cases_Bool (is_held entry.1)) [
  | inr waits ↦ rw waits (come_volume v entry.1 entry.1.call.what more taken other)
  | inl held ↦ elim (cases_Bool (starves more entry.1)) [ inl starving ↦ rw (held, starving) refl | inr plenty ↦ rw (held, plenty) refl ]
]

-- as many turns have been taken up, and one more where the call is held
step_taken : (v : Volume) (entry : ℕ × Pending) (more : List CallId) (taken : List ℕ) → is_held entry.1 ≡ true
    → (taken_up (record { volume = v; starved = more; taken = taken }) entry).taken ≡ taken ++ entry.0 ∷ []
step_taken v entry more taken held = elim (cases_Bool (starves more entry.1)) [ inl starving ↦ rw (held, starving) refl | inr plenty ↦ rw (held, plenty) refl ]

taken_longer : (v : Volume) (entry : ℕ × Pending) (more : List CallId) (taken : List ℕ) (turn : ℕ)
    → how_many (λ t. t == turn) taken ≤ how_many (λ t. t == turn) (taken_up (record { volume = v; starved = more; taken = taken }) entry).taken
taken_longer v entry more taken turn = elim (cases_Bool (is_held entry.1)) [
  | inr waits ↦ rw waits (rw (come_taken v entry.1 entry.1.call.what more taken) (omega arith))
  | inl held ↦ rw (step_taken v entry more taken held) (let longer = how_many-append (λ t. t == turn) taken (entry.0 ∷ []) in omega arith)
]

-- ---- a call that was taken up isn't taken up again

-- a step from one volume to the next of a settlement: what both have in common
record Step (v w x : Volume) (taken after : List ℕ) : Type 0 where
  on : GoesOn v (record { volume = w; starved = []; taken = taken })
  then_on : GoesOn v (record { volume = x; starved = []; taken = after })
  steps : Steps w x
  longer : (turn : ℕ) → how_many (λ t. t == turn) taken ≤ how_many (λ t. t == turn) after

-- under its turn another call isn't pending
only_under : (v : Volume) (turn client number : ℕ) → IsOnce v → 1 ≤ how_many (λ e. is_call_of client number e && is_under turn e) v.pending
    → how_many (λ e. is_call_of client number e && not (is_under turn e)) v.pending ≡ 0
only_under v turn client number once some =
    let few : times client number v ≤ 1 = once client number in
    how_many-none (λ e. is_call_of client number e && not (is_under turn e)) v.pending
    (only-one (is_call_of client number) (is_under turn) v.pending (omega arith) (some-how_many (λ e. is_call_of client number e && is_under turn e) v.pending some))

-- what is let go after the step was so before it
let_go-before : (v w x : Volume) (taken after : List ℕ) (client number turn : ℕ) → Step v w x taken after
    → 1 ≤ how_many (λ e. is_call_of client number e && is_let_go_under turn x e) x.pending → 1 ≤ how_many (λ e. is_call_of client number e && is_let_go_under turn w e) w.pending
let_go-before v w x taken after client number turn step some =
    let fewer = how_many-weaker (λ e. is_call_of client number e && is_let_go_under turn x e) (is_let_go_under turn x) x.pending (λ e both. and_right (is_call_of client number e) (is_let_go_under turn x e) both) in
    let before = step.on.taken turn in
    let now = step.then_on.taken turn in
    let more = step.longer turn in
    let called = how_many-weaker (λ e. is_call_of client number e && is_let_go_under turn x e) (λ e. is_under turn e && is_call_of client number e) x.pending
    (λ e both. and_true (is_under turn e) (is_call_of client number e) (and_left (is_under turn e) _ (and_right (is_call_of client number e) (is_let_go_under turn x e) both)) (and_left (is_call_of client number e) (is_let_go_under turn x e) both)) in
    let kept = step.steps.pending (λ t call. t == turn && (call.client == client && call.number == number)) in
    let few : how_many (is_under turn) w.pending ≤ 1 = step.on.may.turns turn in
    let none = how_many-none (λ e. is_under turn e && not (is_call_of client number e)) w.pending
    (only-one (is_under turn) (is_call_of client number) w.pending few (some-how_many (λ e. is_under turn e && is_call_of client number e) w.pending (omega arith))) in
    let split = how_many-split (is_let_go_under turn w) (is_call_of client number) w.pending in
    let other = how_many-weaker (λ e. is_let_go_under turn w e && not (is_call_of client number e)) (λ e. is_under turn e && not (is_call_of client number e)) w.pending
    (λ e both. and_true (is_under turn e) (not (is_call_of client number e)) (and_left (is_under turn e) _ (and_left (is_let_go_under turn w e) _ both)) (and_right (is_let_go_under turn w e) _ both)) in
    let own = how_many-weaker (λ e. is_let_go_under turn w e && is_call_of client number e) (λ e. is_call_of client number e && is_let_go_under turn w e) w.pending
    (λ e both. and_true (is_call_of client number e) (is_let_go_under turn w e) (and_right (is_let_go_under turn w e) _ both) (and_left (is_let_go_under turn w e) _ both)) in
    omega arith

AreLetGo-before : (v w x : Volume) (taken after : List ℕ) (ids : List CallId) → Step v w x taken after → AreLetGo x ids → AreLetGo w ids
AreLetGo-before v w x taken after [] step are = tt
AreLetGo-before v w x taken after (id ∷ more) step are = (one are.0, AreLetGo-before v w x taken after more step are.1)
  where
    one : IsLetGo x id.client id.number → IsLetGo w id.client id.number
    one (inl held) = inl (held.0, let_go-before v w x taken after id.client id.number held.0 step held.1)
    one (inr asks) = inr (let kept = step.steps.pending (λ t call. (call.client == id.client && call.number == id.number) && asks_report call.what) in omega arith)

-- the held call that is next is let go
next-let_go : (w : Volume) (entry : ℕ × Pending) → IsNext w entry → is_held entry.1 ≡ true
    → 1 ≤ how_many (λ e. is_call_of entry.1.call.client entry.1.call.number e && is_let_go_under entry.0 w e) w.pending
next-let_go w entry next held =
    next.is_there (λ e. is_call_of entry.1.call.client entry.1.call.number e && is_let_go_under entry.0 w e)
    (rw (held, ready-free w entry.1 next.ready, eq-eqb entry.0 entry.0 refl, eq-eqb entry.1.call.client entry.1.call.client refl, eq-eqb entry.1.call.number entry.1.call.number refl) refl)

-- and isn't any more once it has been taken up
not_again : (v w x : Volume) (taken : List ℕ) (entry : ℕ × Pending) (turn : ℕ) → Step v w x taken (taken ++ entry.0 ∷ []) → IsNext w entry → is_held entry.1 ≡ true
    → 1 ≤ how_many (λ e. is_call_of entry.1.call.client entry.1.call.number e && is_let_go_under turn x e) x.pending → ⊥
not_again v w x taken entry turn step next held some =
    let client : ℕ = entry.1.call.client in
    let number : ℕ = entry.1.call.number in
    let go = next-let_go w entry next held in
    let under = how_many-weaker (λ e. is_call_of client number e && is_let_go_under entry.0 w e) (λ e. is_call_of client number e && is_under entry.0 e) w.pending
    (λ e both. and_true (is_call_of client number e) (is_under entry.0 e) (and_left (is_call_of client number e) _ both) (and_left (is_under entry.0 e) _ (and_right (is_call_of client number e) _ both))) in
    let none = only_under w entry.0 client number step.on.once (omega arith) in
    let kept = step.steps.pending (λ t call. (call.client == client && call.number == number) && not (t == entry.0)) in
    elim (cases_Bool (turn == entry.0)) [
      | inl is ↦ (let same : turn ≡ entry.0 = eqb-true turn entry.0 is in
          let some_here : 1 ≤ how_many (λ e. is_call_of client number e && is_let_go_under entry.0 x e) x.pending
          = subst (λ (t : ℕ). 1 ≤ how_many (λ e. is_call_of client number e && is_let_go_under t x e) x.pending) same some in
          let fewer = how_many-weaker (λ e. is_call_of client number e && is_let_go_under entry.0 x e) (is_let_go_under entry.0 x) x.pending (λ e both. and_right (is_call_of client number e) (is_let_go_under entry.0 x e) both) in
          let before = step.on.taken entry.0 in
          let now = step.then_on.taken entry.0 in
          let more = how_many-append (λ t. t == entry.0) taken (entry.0 ∷ []) in
          let one : how_many (λ t. t == entry.0) (entry.0 ∷ []) ≡ 1 = rw (eq-eqb entry.0 entry.0 refl) refl in
          let few : how_many (is_under entry.0) w.pending ≤ 1 = step.on.may.turns entry.0 in
          let most = how_many-weaker (is_let_go_under entry.0 w) (is_under entry.0) w.pending (λ e both. and_left (is_under entry.0 e) _ both) in
          omega arith)
      | inr other ↦ (let elsewhere = how_many-weaker (λ e. is_call_of client number e && is_let_go_under turn x e) (λ e. is_call_of client number e && not (is_under entry.0 e)) x.pending
          (λ e both. and_true (is_call_of client number e) (not (is_under entry.0 e)) (and_left (is_call_of client number e) _ both)
          (apart e (and_left (is_under turn e) _ (and_right (is_call_of client number e) _ both)) other)) in
          omega arith)
    ]
  where
    apart : (e : ℕ × Pending) → (e.0 == turn) ≡ true → (turn == entry.0) ≡ false → not (e.0 == entry.0) ≡ true
    apart e here other = (let same : e.0 ≡ turn = eqb-true e.0 turn here in
        let differs : (e.0 == entry.0) ≡ false = rw same other in rw differs refl)

-- ---- one step of the loop

-- a held call is no Notify
held_asks : (w : Volume) (entry : ℕ × Pending) → MaySettle w → IsOnce w → IsNext w entry → is_held entry.1 ≡ true
    → 1 ≤ how_many (λ e. is_call_of entry.1.call.client entry.1.call.number e && asks_report e.1.call.what) w.pending → ⊥
held_asks w entry may once next held some =
    let client : ℕ = entry.1.call.client in
    let number : ℕ = entry.1.call.number in
    let few : times client number w ≤ 1 = once client number in
    let there = next.is_there (λ e. is_call_of client number e && is_held e.1) (rw (eq-eqb client client refl, eq-eqb number number refl) held) in
    let none = how_many-none (λ e. is_call_of client number e && not (is_held e.1)) w.pending
    (only-one (is_call_of client number) (λ e. is_held e.1) w.pending (omega arith) (some-how_many (λ e. is_call_of client number e && is_held e.1) w.pending there)) in
    let split = how_many-split (λ e. is_call_of client number e && asks_report e.1.call.what) (λ e. is_held e.1) w.pending in
    let unheld = how_many-weaker (λ e. (is_call_of client number e && asks_report e.1.call.what) && not (is_held e.1)) (λ e. is_call_of client number e && not (is_held e.1)) w.pending
    (λ e both. and_true (is_call_of client number e) (not (is_held e.1)) (and_left (is_call_of client number e) _ (and_left (is_call_of client number e && asks_report e.1.call.what) _ both)) (and_right (is_call_of client number e && asks_report e.1.call.what) _ both)) in
    let wrong = how_many-weaker (λ e. (is_call_of client number e && asks_report e.1.call.what) && is_held e.1) is_held_wrongly w.pending
    (λ e both. and_true (is_held e.1) (not (may_be_held e.1.call.what)) (and_right (is_call_of client number e && asks_report e.1.call.what) _ both)
    (never e.1.call.what (and_right (is_call_of client number e) _ (and_left (is_call_of client number e && asks_report e.1.call.what) _ both)))) in
    let no_wrong = may.held in
    absurd (omega arith)
  where
    never : (what : What) → asks_report what ≡ true → not (may_be_held what) ≡ true
    never (Ask (Notify handle filter tree room)) asks = refl
    never _ asks = cc

-- the calls that are still to starve don't begin with a call that is taken up and doesn't
starves_later : (v w x : Volume) (taken after : List ℕ) (entry : ℕ × Pending) (rest : List CallId) → Step v w x taken after → IsNext w entry → is_held entry.1 ≡ true → after ≡ taken ++ entry.0 ∷ []
    → AreLetGo x rest → starves rest entry.1 ≡ false
starves_later v w x taken after entry [] step next held is are = refl
starves_later v w x taken after entry (id ∷ rest) step next held is are = elim (cases_Bool (id.client == entry.1.call.client && id.number == entry.1.call.number)) [
  | inr other ↦ other
  | inl own ↦ absurd (let client : id.client ≡ entry.1.call.client = eqb-true id.client entry.1.call.client (and_left (id.client == entry.1.call.client) _ own) in
      let number : id.number ≡ entry.1.call.number = eqb-true id.number entry.1.call.number (and_right (id.client == entry.1.call.client) _ own) in
      not_own (subst (λ (n : ℕ). IsLetGo x entry.1.call.client n) number (subst (λ (c : ℕ). IsLetGo x c id.number) client are.0)))
]
  where
    not_own : IsLetGo x entry.1.call.client entry.1.call.number → ⊥
    not_own (inl let_go) = not_again v w x taken entry let_go.0 (subst (λ (turns : List ℕ). Step v w x taken turns) is step) next held let_go.1
    not_own (inr asks) = held_asks w entry step.on.may step.on.once next held
        (let kept = step.steps.pending (λ t call. (call.client == entry.1.call.client && call.number == entry.1.call.number) && asks_report call.what) in omega arith)

-- a call that has ended isn't among them
ended_later : (seen : Volume) (client number : ℕ) (reply : Reply) → IsLetGo (with_end seen client number reply) client number → ⊥
ended_later seen client number reply is = go is
  where
    gone : how_many (is_call_of client number) (with_end seen client number reply).pending ≡ 0
    gone = how_many-filter (is_call_of client number) (λ (e : ℕ × Pending). not (is_call client number e.1)) seen.pending ∙ never seen.pending
      where
        never : (rows : List (ℕ × Pending)) → how_many (λ e. not (is_call client number e.1) && is_call_of client number e) rows ≡ 0
        never [] = refl
        never (row ∷ rows) = (let rest = never rows in elim (cases_Bool (is_call client number row.1)) [ inl is ↦ rw is (omega arith) | inr isnt ↦ rw isnt (omega arith) ])

    go : IsLetGo (with_end seen client number reply) client number → ⊥
    go (inl let_go) = (let none = gone in let fewer = how_many-weaker (λ e. is_call_of client number e && is_let_go_under let_go.0 (with_end seen client number reply) e) (is_call_of client number) (with_end seen client number reply).pending (λ e both. and_left (is_call_of client number e) _ both) in
        let some = let_go.1 in absurd (omega arith))
    go (inr asks) = (let none = gone in let fewer = how_many-weaker (λ e. is_call_of client number e && asks_report e.1.call.what) (is_call_of client number) (with_end seen client number reply).pending (λ e both. and_left (is_call_of client number e) _ both) in absurd (omega arith))

ended_starves : (x seen : Volume) (pending : Pending) (reply : Reply) (rest : List CallId) → x ≡ with_end seen pending.call.client pending.call.number reply → AreLetGo x rest → starves rest pending ≡ false
ended_starves x seen pending reply [] is are = refl
ended_starves x seen pending reply (id ∷ rest) is are = elim (cases_Bool (id.client == pending.call.client && id.number == pending.call.number)) [
  | inr other ↦ other
  | inl own ↦ absurd (let client : id.client ≡ pending.call.client = eqb-true id.client pending.call.client (and_left (id.client == pending.call.client) _ own) in
      let number : id.number ≡ pending.call.number = eqb-true id.number pending.call.number (and_right (id.client == pending.call.client) _ own) in
      ended_later seen pending.call.client pending.call.number reply (subst (λ (u : Volume). IsLetGo u pending.call.client pending.call.number) is
      (subst (λ (n : ℕ). IsLetGo x pending.call.client n) number (subst (λ (c : ℕ). IsLetGo x c id.number) client are.0))))
]

-- with whatever calls are still to starve the step is the same
same_step : (v w x : Volume) (taken after : List ℕ) (entry : ℕ × Pending) (more rest : List CallId) → Step v w x taken after → IsNext w entry
    → x ≡ (taken_up (record { volume = w; starved = more; taken = taken }) entry).volume → (taken_up (record { volume = w; starved = more; taken = taken }) entry).starved ≡ []
    → after ≡ (taken_up (record { volume = w; starved = more; taken = taken }) entry).taken → AreLetGo x rest
    → taken_up (record { volume = w; starved = more ++ rest; taken = taken }) entry ≡ record { volume = x; starved = rest; taken = after }
same_step v w x taken after entry more rest step next is all later are = elim (cases_Bool (is_held entry.1)) [
  | inr waits ↦ unheld waits more is all later
  | inl held ↦ of_held held more is all later
]
  where
    unheld : is_held entry.1 ≡ false → (more : List CallId) → x ≡ (taken_up (record { volume = w; starved = more; taken = taken }) entry).volume
        → (taken_up (record { volume = w; starved = more; taken = taken }) entry).starved ≡ [] → after ≡ (taken_up (record { volume = w; starved = more; taken = taken }) entry).taken
        → taken_up (record { volume = w; starved = more ++ rest; taken = taken }) entry ≡ record { volume = x; starved = rest; taken = after }
    unheld waits [] is all later = elim (come_cases w entry.1 entry.1.call.what) [
      | inl certain ↦ rw (is, later, waits, certain.is rest taken, certain.is [] taken) refl
      | inr unsure ↦ (let ended : x ≡ with_end unsure.seen entry.1.call.client entry.1.call.number unsure.reply = rw (waits, unsure.is [] taken) at is in
          let plenty : starves rest entry.1 ≡ false = ended_starves x unsure.seen entry.1 unsure.reply rest ended are in
          rw (is, later, waits, unsure.is rest taken, unsure.is [] taken, plenty) refl)
    ]
    unheld waits (id ∷ more) is all later = elim (come_cases w entry.1 entry.1.call.what) [
      | inl certain ↦ (let impossible : id ∷ more ≡ [] = rw (waits, certain.is (id ∷ more) taken) at all in cc)
      | inr unsure ↦ elim (cases_Bool (starves (id ∷ more) entry.1)) [
        | inr plenty ↦ (let impossible : id ∷ more ≡ [] = rw (waits, unsure.is (id ∷ more) taken, plenty) at all in cc)
        | inl starving ↦ (let none : more ≡ [] = rw (waits, unsure.is (id ∷ more) taken, starving) at all in
            rw (is, later, waits, unsure.is ((id ∷ more) ++ rest) taken, unsure.is (id ∷ more) taken, starving, none) refl)
      ]
    ]

    of_held : is_held entry.1 ≡ true → (more : List CallId) → x ≡ (taken_up (record { volume = w; starved = more; taken = taken }) entry).volume
        → (taken_up (record { volume = w; starved = more; taken = taken }) entry).starved ≡ [] → after ≡ (taken_up (record { volume = w; starved = more; taken = taken }) entry).taken
        → taken_up (record { volume = w; starved = more ++ rest; taken = taken }) entry ≡ record { volume = x; starved = rest; taken = after }
    of_held held [] is all later =
        let plenty : starves rest entry.1 ≡ false = starves_later v w x taken after entry rest step next held (rw held at later) are in
        rw (is, later, held, plenty) refl
    of_held held (id ∷ more) is all later = elim (cases_Bool (starves (id ∷ more) entry.1)) [
      | inr plenty ↦ (let impossible : id ∷ more ≡ [] = rw (held, plenty) at all in cc)
      | inl starving ↦ (let none : more ≡ [] = rw (held, starving) at all in rw (is, later, held, starving, none) refl)
    ]

-- the call that starves is let go
let_go-starves : (w : Volume) (entry : ℕ × Pending) (more rest : List CallId) (taken : List ℕ) → IsNext w entry
    → (taken_up (record { volume = w; starved = more; taken = taken }) entry).starved ≡ [] → AreLetGo w rest → AreLetGo w (more ++ rest)
let_go-starves w entry [] rest taken next all are = are
let_go-starves w entry (id ∷ more) rest taken next all are = elim (cases_Bool (is_held entry.1)) [
  | inr waits ↦ elim (come_cases w entry.1 entry.1.call.what) [
    | inl certain ↦ (let impossible : id ∷ more ≡ [] = rw (waits, certain.is (id ∷ more) taken) at all in cc)
    | inr unsure ↦ elim (cases_Bool (starves (id ∷ more) entry.1)) [
      | inr plenty ↦ (let impossible : id ∷ more ≡ [] = rw (waits, unsure.is (id ∷ more) taken, plenty) at all in cc)
      | inl starving ↦ (let none : more ≡ [] = rw (waits, unsure.is (id ∷ more) taken, starving) at all in
          let client : id.client ≡ entry.1.call.client = eqb-true id.client entry.1.call.client (and_left (id.client == entry.1.call.client) _ starving) in
          let number : id.number ≡ entry.1.call.number = eqb-true id.number entry.1.call.number (and_right (id.client == entry.1.call.client) _ starving) in
          rw (none, client, number) (
            inr (next.is_there (λ e. is_call_of entry.1.call.client entry.1.call.number e && asks_report e.1.call.what)
                (rw (eq-eqb entry.1.call.client entry.1.call.client refl, eq-eqb entry.1.call.number entry.1.call.number refl) unsure.asks)),
            are,
          ))
    ]
  ]
  | inl held ↦ elim (cases_Bool (starves (id ∷ more) entry.1)) [
    | inr plenty ↦ (let impossible : id ∷ more ≡ [] = rw (held, plenty) at all in cc)
    | inl starving ↦ (let none : more ≡ [] = rw (held, starving) at all in
        let client : id.client ≡ entry.1.call.client = eqb-true id.client entry.1.call.client (and_left (id.client == entry.1.call.client) _ starving) in
        let number : id.number ≡ entry.1.call.number = eqb-true id.number entry.1.call.number (and_right (id.client == entry.1.call.client) _ starving) in
        rw (none, client, number) (inl (entry.0, next-let_go w entry next held), are))
  ]
]

-- one more call is taken up
pub Reaches-step : (v w x : Volume) (names more : List CallId) (entry : ℕ × Pending) → Reaches v names w → next_ready w ≡ Some entry → TakesUp w entry more x
    → Reaches v (names ++ more) x × (how_many_free x < how_many_free w)
Reaches-step v w x names more entry reaches found takes =
    let s : Settling = record { volume = w; starved = more; taken = reaches.taken } in
    let t : Settling = taken_up s entry in
    let next : IsNext w entry = next_ready-is w entry found in
    let stepped : settle_step s ≡ Some t = rw found refl in
    let is : x ≡ t.volume = takes.is ∙ step_volume w entry more [] reaches.taken in
    let all : t.starved ≡ [] = step_starved w entry more [] reaches.taken takes.all in
    let gone = GoesOn-settle_step v s t (GoesOn-starving v w [] more reaches.taken reaches.on) stepped in
    let steps : Steps w x = subst (λ (u : Volume). Steps w u) (sym is) (Steps-settle_step s t reaches.on.may stepped) in
    let on : GoesOn v (record { volume = x; starved = []; taken = t.taken }) = subst (λ (u : Volume). GoesOn v (record { volume = u; starved = []; taken = t.taken })) (sym is) (GoesOn-starving v t.volume t.starved [] t.taken gone.0) in
    let step : Step v w x reaches.taken t.taken = record { on = reaches.on; then_on = on; steps = steps; longer = λ turn. taken_longer w entry more reaches.taken turn } in (
      record {
        taken = t.taken;
        on = on;
        goes = λ rest are.
            (let taken_on : taken_up (record { volume = w; starved = more ++ rest; taken = reaches.taken }) entry ≡ record { volume = x; starved = rest; taken = t.taken }
            = same_step v w x reaches.taken t.taken entry more rest step next is all refl are in
            let before : AreLetGo w (more ++ rest) = let_go-starves w entry more rest reaches.taken next all (AreLetGo-before v w x reaches.taken t.taken rest step are) in
            taken_up_from-step (record { volume = w; starved = more ++ rest; taken = reaches.taken }) (record { volume = x; starved = rest; taken = t.taken }) reaches.on.may
            (rw (found, taken_on) refl)
            ∙ reaches.goes (more ++ rest) before
            ∙ ap (λ (ids : List CallId). taken_up_all v ids) (sym (append_assoc names more rest)));
      },
      steps.falls,
    )
  where
    step_starved : (v : Volume) (entry : ℕ × Pending) (more : List CallId) (taken other : List ℕ) → (taken_up (record { volume = v; starved = more; taken = taken }) entry).starved ≡ []
        → (taken_up (record { volume = v; starved = more; taken = other }) entry).starved ≡ []
    step_starved v entry more taken other all = elim (cases_Bool (is_held entry.1)) [
      | inr waits ↦ rw waits (come_starved v entry.1 entry.1.call.what more other taken ∙ (rw waits at all))
      | inl held ↦ elim (cases_Bool (starves more entry.1)) [ inl starving ↦ rw (held, starving) (rw (held, starving) at all) | inr plenty ↦ rw (held, plenty) (rw (held, plenty) at all) ]
    ]

-- where no call is ready it is done, with the names so far
pub Reaches-done : (v w : Volume) (names : List CallId) → Reaches v names w → next_ready w ≡ None → ((settled v names).volume ≡ with_stalled w) × ((settled v names).starved ≡ [])
Reaches-done v w names reaches none =
    let s : Settling = record { volume = w; starved = []; taken = reaches.taken } in
    let no_step : settle_step s ≡ None = rw none refl in
    let is : taken_up_all v names ≡ s = ap (λ (ids : List CallId). taken_up_all v ids) (sym (append-nil names)) ∙ sym (reaches.goes [] tt) ∙ taken_up_from-done s no_step in
    rw is (refl, refl)

-- ---- the three ways to take a call up

-- a held call is tried again
pub TakesUp-tried : (v : Volume) (entry : ℕ × Pending) (outcome : Outcome) → is_held entry.1 ≡ true → try v entry.1.call entry.0 ≡ outcome → TakesUp v entry [] (with_tried entry.0 entry.1 outcome)
TakesUp-tried v entry outcome held tried = record { is = rw held (ap (λ (o : Outcome). with_tried entry.0 entry.1 o) (sym tried)); all = rw held refl }

-- or starves
pub TakesUp-starves : (v : Volume) (entry : ℕ × Pending) → is_held entry.1 ≡ true
    → TakesUp v entry (record { client = entry.1.call.client; number = entry.1.call.number } ∷ []) (with_ended v entry.1 NoMemory)
TakesUp-starves v entry held =
    let own : starves (record { client = entry.1.call.client; number = entry.1.call.number } ∷ []) entry.1 ≡ true
    = rw (eq-eqb entry.1.call.client entry.1.call.client refl, eq-eqb entry.1.call.number entry.1.call.number refl) refl in
    record { is = rw (held, own) refl; all = rw (held, own) refl }

-- a wait is over
pub TakesUp-waits : (v : Volume) (entry : ℕ × Pending) (number : ℕ) → is_held entry.1 ≡ false → entry.1.call.what ≡ WaitFor number → TakesUp v entry [] (with_ended v entry.1 Success)
TakesUp-waits v entry number waits what = record { is = rw (waits, what) refl; all = rw (waits, what) refl }

-- a watch reports
pub TakesUp-reports : (v : Volume) (entry : ℕ × Pending) (handle filter : ℕ) (whole : Bool) (room id : ℕ) → is_held entry.1 ≡ false → entry.1.call.what ≡ Ask (Notify handle filter whole room)
    → handle_of v entry.1.call.client handle ≡ Some id → TakesUp v entry [] (with_reported v entry.1 id room)
TakesUp-reports v entry handle filter whole room id waits what found = record { is = rw (waits, what, found) refl; all = rw (waits, what, found) refl }

-- or its Notify starves, where a report would have bytes
pub TakesUp-report_starves : (v : Volume) (entry : ℕ × Pending) (handle filter : ℕ) (whole : Bool) (room id : ℕ) → is_held entry.1 ≡ false → entry.1.call.what ≡ Ask (Notify handle filter whole room)
    → handle_of v entry.1.call.client handle ≡ Some id → due_size v id ≤ room
    → TakesUp v entry (record { client = entry.1.call.client; number = entry.1.call.number } ∷ []) (with_ended v entry.1 NoMemory)
TakesUp-report_starves v entry handle filter whole room id waits what found fits =
    let own : starves (record { client = entry.1.call.client; number = entry.1.call.number } ∷ []) entry.1 ≡ true
    = rw (eq-eqb entry.1.call.client entry.1.call.client refl, eq-eqb entry.1.call.number entry.1.call.number refl) refl in
    let enough : nat_le (due_size v id) room ≡ true = le-leb (due_size v id) room fits in
    record { is = rw (waits, what, found, own, enough) refl; all = rw (waits, what, found, own, enough) refl }

-- each makes no call, loses none, and only adds ends
pub record Keeping (v w : Volume) : Type 0 where
  pub may : MayTakeUp w
  pub made : made w ≡ made v
  pub ended : AddsEnds v.ended w.ended

pub Reaches-keeping : (v w : Volume) (names : List CallId) → Reaches v names w → Keeping v w
Reaches-keeping v w names reaches = record {
  may = record { may = reaches.on.may; once = reaches.on.once; none_held = reaches.on.none_held; given = reaches.on.given };
  made = reaches.on.made;
  ended = reaches.on.ended;
}

pub TakesUp-keeping : (v w : Volume) (entry : ℕ × Pending) (more : List CallId) → MayTakeUp v → next_ready v ≡ Some entry → TakesUp v entry more w → Keeping v w
TakesUp-keeping v w entry more may found takes = Reaches-keeping v w more (Reaches-step v v w [] more entry (Reaches-begins v may) found takes).0

-- a try only adds ends
pub try-extends : (v : Volume) (call : Call) (turn : ℕ) → MayTakeUp v → AddsEnds v.ended (volume_after (try v call turn)).ended
try-extends v call turn may = tried-begins v turn call.what (try v call turn) (try-keeps v call turn may.may.oplocks)

-- a held call never stays
pub held-stays : (v w : Volume) (entry : ℕ × Pending) (interim : Interim) → MayTakeUp v → next_ready v ≡ Some entry → is_held entry.1 ≡ true → try v entry.1.call entry.0 ≡ Stay w interim → ⊥
held-stays v w entry interim may found held stays =
    let next = next_ready-is v entry found in
    subst (λ (o : Outcome). TriesTo Leaves v o) stays (Tries.so (try-tries v entry.1.call entry.0 may.may.oplocks (next-may_be_held v entry may.may next held)))

-- ---- the next call stands in the list of pending calls

abbrev IsIn : {X : Type 0} → X → List X → Type 0
IsIn x [] = ⊥
IsIn x (y ∷ ys) = (x ≡ y) ⊎ IsIn x ys

in-put : {X : Type 0} (before : X → X → Bool) (item : X) (items : List X) (x : X) → slice_get (put_in_order before item items) 0 ≡ Some x → (x ≡ item) ⊎ (slice_get items 0 ≡ Some x)
in-put before item [] x found = inl (sym (some_equal item x found))
in-put before item (first ∷ items) x found = elim (cases_Bool (before item first)) [
  | inl is ↦ inl (sym (some_equal item x (rw is at found)))
  | inr isnt ↦ inr (rw isnt at found)
]

in-order : {X : Type 0} (before : X → X → Bool) (items : List X) (x : X) → slice_get (in_order before items) 0 ≡ Some x → IsIn x items
in-order before [] x found = (let impossible : None ≡ Some x = found in cc)
in-order before (item ∷ items) x found = elim (in-put before item (in_order before items) x found) [
  | inl is ↦ inl is
  | inr later ↦ inr (in-order before items x later)
]

in-filter : {X : Type 0} (keep : X → Bool) (items : List X) (x : X) → IsIn x (filter keep items) → IsIn x items
in-filter keep [] x is = is
in-filter keep (item ∷ items) x is = elim (cases_Bool (keep item)) [
  | inl kept ↦ (let parts : (x ≡ item) ⊎ IsIn x (filter keep items) = rw kept at is in elim parts [ inl same ↦ inl same | inr later ↦ inr (in-filter keep items x later) ])
  | inr gone ↦ (let later : IsIn x (filter keep items) = rw gone at is in inr (in-filter keep items x later))
]

in-counted : (rows : List (ℕ × Pending)) (entry : ℕ × Pending) → IsIn entry rows → 1 ≤ how_many (is_under entry.0) rows
in-counted [] entry is = absurd is
in-counted (row ∷ rows) entry (inl same) = (let here : (row.0 == entry.0) ≡ true = eq-eqb row.0 entry.0 (ap (λ (e : ℕ × Pending). e.0) (sym same)) in rw here (omega arith))
in-counted (row ∷ rows) entry (inr later) = (let more = in-counted rows entry later in omega arith)

in-found : (rows : List (ℕ × Pending)) (entry : ℕ × Pending) → IsIn entry rows → how_many (is_under entry.0) rows ≤ 1 → row_of rows entry.0 ≡ Some entry.1
in-found [] entry is few = absurd is
in-found (row ∷ rows) entry is few = elim (cases_Bool (row.0 == entry.0)) [
  | inl here ↦ elim is [
    | inl same ↦ rw here (ap (λ (e : ℕ × Pending). Some e.1) (sym same))
    | inr later ↦ (let more = in-counted rows entry later in let both : 1 + how_many (is_under entry.0) rows ≤ 1 = rw here at few in absurd (omega arith))
  ]
  | inr other ↦ elim is [
    | inl same ↦ (let impossible : (row.0 == entry.0) ≡ true = eq-eqb row.0 entry.0 (ap (λ (e : ℕ × Pending). e.0) (sym same)) in cc)
    | inr later ↦ (let rest : 0 + how_many (is_under entry.0) rows ≤ 1 = rw other at few in rw other (in-found rows entry later (omega arith)))
  ]
]

pub next-row : (v : Volume) (entry : ℕ × Pending) → MayTakeUp v → next_ready v ≡ Some entry → row_of v.pending entry.0 ≡ Some entry.1
next-row v entry may found =
    in-found v.pending entry (in-filter (λ e. is_ready v e.1) v.pending entry (in-order (λ a b. nat_lt a.0 b.0) (filter (λ e. is_ready v e.1) v.pending) entry found)) (may.may.turns entry.0)
