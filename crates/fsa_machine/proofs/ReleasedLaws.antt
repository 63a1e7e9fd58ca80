-- How many held calls a turn tries: each that is taken up is one fewer of those that are let go, and of these there
-- are no more than its own call released.
use Rattle.std.proofs.Common.{◌≡◌, ℕ, ◌+◌, ◌≤◌, Bool, true, cond, List, [], ◌∷◌, ◌++◌, length, length-append, refl, ap, sym, subst, ◌∙◌, arith, inl, inr, Some, None, if◌then◌else◌}
use Rattle.std.specs.Prelude.{◌==◌, ◌&&◌, option_map}
use Rattle.std.specs.List.{list_any}
use Rattle.std.proofs.lemmas.Bool.{cases_Bool, eq-eqb, eqb-true}
use Rattle.fsa_types.specs.Rows.{lives}
use Rattle.fsa_types.specs.declared.request.Call.{Call}
use Rattle.fsa_types.specs.declared.request.CallId.{CallId}
use Rattle.fsa_model.specs.Engine.{is_released, own_tried}
use Rattle.fsa_model.specs.History.{HistoryEntry, Run, run}
use Rattle.fsa_model.specs.LineCalls.{IsLineCall}
use Rattle.fsa_model.specs.Once.{how_many, times}
use Rattle.fsa_model.specs.Outcome.{TurnOut}
use Rattle.fsa_model.specs.Schedule.{calls_of}
use Rattle.fsa_model.specs.Settle.{Settling, settle_step, starves, taken_up}
use Rattle.fsa_model.specs.Settling.{GoesOn, MayTakeUp, MayTurn, TakesNext, TakesUp, is_free, is_under, let_go}
use Rattle.fsa_model.specs.Setup.{Setup}
use Rattle.fsa_model.specs.Volume.{Pending, Volume}
use Rattle.fsa_model.specs.Waiting.{blocker_lives, is_blocked, is_held, next_ready}
use Rattle.fsa_model.proofs.CountLaws.{and_left, how_many-append, how_many-some, how_many-weaker}
use Rattle.fsa_model.proofs.EngineLaws.{turn-released}
use Rattle.fsa_model.proofs.OnceHistory.{Takes, turn-takes}
use Rattle.fsa_model.proofs.SettleLaws.{some_equal}
use Rattle.fsa_model.proofs.TakenLaws.{GoesOn-begins, GoesOn-settle_step}
use Rattle.fsa_machine.specs.MachineView.{RunsTo, calls_of_entries}
use Rattle.fsa_machine.specs.Released.{how_many_let_go, how_many_released, is_held_free}
use Rattle.fsa_machine.specs.Step.{ready_of}
use Rattle.fsa_machine.specs.declared.store.Ready.{Ready}
use Rattle.fsa_machine.proofs.StandLaws.{asks-turn, same-run, stands-runs}
use Rattle.fsa_machine.proofs.StepLaws.{IsReady, ready-is}

-- ---- lists of turns

-- the first of these turns that is this one is taken out
abbrev without_first : ℕ → List ℕ → List ℕ
without_first x [] = []
without_first x (y ∷ ys) = if y == x then ys else y ∷ without_first x ys

without-length : (x : ℕ) (ys : List ℕ) → 1 ≤ how_many (λ t. t == x) ys → length ys ≡ 1 + length (without_first x ys)
without-length x [] some = absurd (omega (arith, some))
without-length x (y ∷ ys) some = elim (cases_Bool (y == x)) [
  | inl is ↦ rw is (omega arith)
  | inr isnt ↦ (let later : 1 ≤ 0 + how_many (λ t. t == x) ys = rw isnt at some in let rest = without-length x ys (omega (arith, later)) in rw isnt (omega (arith, rest)))
]

without-often : (x : ℕ) (ys : List ℕ) (n : ℕ) → 1 ≤ how_many (λ t. t == x) ys → how_many (λ t. t == n) ys ≡ cond (x == n) 1 0 + how_many (λ t. t == n) (without_first x ys)
without-often x [] n some = absurd (omega (arith, some))
without-often x (y ∷ ys) n some = elim (cases_Bool (y == x)) [
  | inl is ↦ (let same : y ≡ x = eqb-true y x is in rw is (rw same refl))
  | inr isnt ↦ (let later : 1 ≤ 0 + how_many (λ t. t == x) ys = rw isnt at some in let rest = without-often x ys n (omega (arith, later)) in rw isnt (omega (arith, rest)))
]

-- where no turn stands more often in the first list than in the second, the first isn't longer
no-longer : (xs ys : List ℕ) → ((n : ℕ) → how_many (λ t. t == n) xs ≤ how_many (λ t. t == n) ys) → length xs ≤ length ys
no-longer [] ys fewer = omega arith
no-longer (x ∷ xs) ys fewer =
    let here : (x == x) ≡ true = eq-eqb x x refl in
    let at : cond (x == x) 1 0 + how_many (λ t. t == x) xs ≤ how_many (λ t. t == x) ys = fewer x in
    let more : 1 + how_many (λ t. t == x) xs ≤ how_many (λ t. t == x) ys = rw here at at in
    let some : 1 ≤ how_many (λ t. t == x) ys = omega (arith, more) in
    let rest = no-longer xs (without_first x ys) (λ n. fewer_left n some) in
    let one = without-length x ys some in
    omega (arith, rest, one)
  where
    fewer_left : (n : ℕ) → 1 ≤ how_many (λ t. t == x) ys → how_many (λ t. t == n) xs ≤ how_many (λ t. t == n) (without_first x ys)
    fewer_left n some =
        let at : cond (x == n) 1 0 + how_many (λ t. t == n) xs ≤ how_many (λ t. t == n) ys = fewer n in
        let same = without-often x ys n some in
        omega (arith, at, same)

-- the turns of those rows that pass
abbrev turns_of : (ℕ × Pending → Bool) → List (ℕ × Pending) → List ℕ
turns_of passes [] = []
turns_of passes (row ∷ rows) = if passes row then row.0 ∷ turns_of passes rows else turns_of passes rows

turns-length : (passes : ℕ × Pending → Bool) (rows : List (ℕ × Pending)) → length (turns_of passes rows) ≡ how_many passes rows
turns-length passes [] = refl
turns-length passes (row ∷ rows) = (let rest = turns-length passes rows in elim (cases_Bool (passes row)) [ inl is ↦ rw is (omega (arith, rest)) | inr isnt ↦ rw isnt (omega (arith, rest)) ])

turns-often : (passes : ℕ × Pending → Bool) (rows : List (ℕ × Pending)) (n : ℕ) → how_many (λ t. t == n) (turns_of passes rows) ≡ how_many (λ e. is_under n e && passes e) rows
turns-often passes [] n = refl
turns-often passes (row ∷ rows) n = (let rest = turns-often passes rows n in elim (cases_Bool (passes row)) [
  | inr isnt ↦ elim (cases_Bool (row.0 == n)) [ inl under ↦ rw (isnt, under) (omega (arith, rest)) | inr other ↦ rw (isnt, other) (omega (arith, rest)) ]
  | inl is ↦ elim (cases_Bool (row.0 == n)) [ inl under ↦ rw (is, under) (omega (arith, rest)) | inr other ↦ rw (is, other) (omega (arith, rest)) ]
])

-- ---- a call is taken up

-- where of each turn as many were taken up as are let go no more, so many fewer are let go
let_go-fewer : (v w : Volume) (taken : List ℕ) → ((turn : ℕ) → how_many (λ t. t == turn) taken + let_go turn w ≡ let_go turn v) → length taken + how_many_let_go w ≤ how_many_let_go v
let_go-fewer v w taken is =
    let fewer = no-longer (taken ++ turns_of (is_held_free w) w.pending) (turns_of (is_held_free v) v.pending) (λ n. often n) in
    let both = length-append taken (turns_of (is_held_free w) w.pending) in
    let left = turns-length (is_held_free w) w.pending in
    let before = turns-length (is_held_free v) v.pending in
    omega (arith, fewer, both, left, before)
  where
    often : (n : ℕ) → how_many (λ t. t == n) (taken ++ turns_of (is_held_free w) w.pending) ≤ how_many (λ t. t == n) (turns_of (is_held_free v) v.pending)
    often n =
        let both = how_many-append (λ t. t == n) taken (turns_of (is_held_free w) w.pending) in
        let left : how_many (λ t. t == n) (turns_of (is_held_free w) w.pending) ≡ let_go n w = turns-often (is_held_free w) w.pending n in
        let before : how_many (λ t. t == n) (turns_of (is_held_free v) v.pending) ≡ let_go n v = turns-often (is_held_free v) v.pending n in
        let same = is n in
        omega (arith, both, left, before, same)

-- what is taken up is let go no more, where it was held; and no other call is let go
pub let_go-falls : (v w : Volume) (entry : ℕ × Pending) (more : List CallId) → MayTakeUp v → next_ready v ≡ Some entry → TakesUp v entry more w
    → cond (is_held entry.1) 1 0 + how_many_let_go w ≤ how_many_let_go v
let_go-falls v w entry more may found takes =
    let s : Settling = record { volume = v; starved = more; taken = [] } in
    let t : Settling = taken_up s entry in
    let stepped : settle_step s ≡ Some t = rw found refl in
    let on : GoesOn v t = (GoesOn-settle_step v s t (GoesOn-begins v more may) stepped).0 in
    let fewer : length t.taken + how_many_let_go t.volume ≤ how_many_let_go v = let_go-fewer v t.volume t.taken on.taken in
    let same : w ≡ t.volume = takes.is in
    subst (λ (u : Volume). cond (is_held entry.1) 1 0 + how_many_let_go u ≤ how_many_let_go v) (sym same) (let one = counted in omega (arith, fewer, one))
  where
    counted : cond (is_held entry.1) 1 0 ≤ length (taken_up (record { volume = v; starved = more; taken = [] }) entry).taken
    counted = elim (cases_Bool (is_held entry.1)) [
      | inr waits ↦ rw waits (omega arith)
      | inl held ↦ elim (cases_Bool (starves more entry.1)) [ inl starving ↦ rw (held, starving) (omega arith) | inr plenty ↦ rw (held, plenty) (omega arith) ]
    ]

-- so each step that is taken for it is one call fewer that is let go
pub let_go-steps : (v w : Volume) (ready : Ready) (more : List CallId) (before after : ℕ) → MayTakeUp v → option_map (ready_of v) (next_ready v) ≡ Some ready → TakesNext v more w
    → after ≤ before + cond ready.held 1 0 → after + how_many_let_go w ≤ before + how_many_let_go v
let_go-steps v w ready more before after may next takes most =
    let is : IsReady v ready = ready-is v ready next in
    let same : is.entry ≡ takes.entry = some_equal is.entry takes.entry (sym is.found ∙ takes.found) in
    let held : is_held takes.entry.1 ≡ ready.held = subst (λ (e : ℕ × Pending). is_held e.1 ≡ ready.held) same (ap (λ (r : Ready). r.held) is.is) in
    let one = let_go-falls v w takes.entry more may takes.found takes.takes in
    let falls : cond ready.held 1 0 + how_many_let_go w ≤ how_many_let_go v = rw held at one in
    omega (arith, most, falls)

-- ---- the turn's own call

-- a turn stands among those of the released calls where such a call is pending under it
released-often : (v own : Volume) (n : ℕ) → cond (list_any (is_released v own n) v.pending) 1 0 ≤ how_many (λ e. is_under n e && is_released v own e.0 e) v.pending
released-often v own n = elim (cases_Bool (list_any (is_released v own n) v.pending)) [
  | inr none ↦ rw none (omega arith)
  | inl some ↦ (let one = how_many-some (is_released v own n) v.pending some in
      let also = how_many-weaker (is_released v own n) (λ e. is_under n e && is_released v own e.0 e) v.pending (λ e is. own_turn e is) in
      rw some (omega (arith, one, also)))
]
  where
    own_turn : (e : ℕ × Pending) → is_released v own n e ≡ true → (is_under n e && is_released v own e.0 e) ≡ true
    own_turn e is =
        let held = is_under n e && is_held e.1 in
        let blocked = held && is_blocked (blocker_lives v) e.1 in
        let stays = blocked && lives own.pending n in
        let first = and_left stays (is_free own e) is in
        let second = and_left blocked (lives own.pending n) first in
        let third = and_left held (is_blocked (blocker_lives v) e.1) second in
        let under : is_under n e ≡ true = and_left (is_under n e) (is_held e.1) third in
        let same : e.0 ≡ n = eqb-true e.0 n under in
        let there : is_released v own e.0 e ≡ true = subst (λ (k : ℕ). is_released v own k e ≡ true) (sym same) is in
        rw (under, there) refl

-- once the turn's own call has been tried, no more calls are let go than it released
own-let_go : (v : Volume) (call : Call) → MayTurn v → next_ready v ≡ None → times call.client call.number v ≡ 0 → how_many_let_go (own_tried v call) ≤ how_many_released v call
own-let_go v call may done none =
    let own : Volume = own_tried v call in
    let fewer = no-longer (turns_of (is_held_free own) own.pending) (turns_of (λ e. is_released v own e.0 e) v.pending) (λ n. often n) in
    let left = turns-length (is_held_free own) own.pending in
    let released = turns-length (λ e. is_released v own e.0 e) v.pending in
    omega (arith, fewer, left, released)
  where
    often : (n : ℕ) → how_many (λ t. t == n) (turns_of (is_held_free (own_tried v call)) (own_tried v call).pending)
        ≤ how_many (λ t. t == n) (turns_of (λ e. is_released v (own_tried v call) e.0 e) v.pending)
    often n =
        let own : Volume = own_tried v call in
        let takes : Takes v call [] = turn-takes v call [] may done none in
        let is : let_go n own ≡ cond (list_any (is_released v own n) v.pending) 1 0 = sym (takes.taken n) ∙ (turn-released v call [] may done none).taken n in
        let left : how_many (λ t. t == n) (turns_of (is_held_free own) own.pending) ≡ let_go n own = turns-often (is_held_free own) own.pending n in
        let released = turns-often (λ e. is_released v own e.0 e) v.pending n in
        let least = released-often v own n in
        omega (arith, is, left, released, least)

-- so the tries of a turn are one, and one more for each call that it released
pub tries-released : (setup : Setup) (entries : List HistoryEntry) (outs : List TurnOut) (v : Volume) (call : Call) (before after : ℕ) → RunsTo setup entries outs v → IsLineCall (length v.clients) call
    → call.number ≡ calls_of call.client (calls_of_entries entries) + 1 → after ≤ before + (1 + how_many_let_go (own_tried v call))
    → (r : Run) → run setup entries ≡ Some r → after ≤ before + (1 + how_many_released r.volume call)
tries-released setup entries outs v call before after stands asked next most r runs =
    let same : r.volume ≡ v = (same-run setup entries outs v r stands runs).0 in
    let asks = asks-turn setup entries outs v call stands asked next in
    let ran = stands-runs setup entries outs v stands in
    let fewer = own-let_go v call ran.may ran.done asks.new in
    subst (λ (u : Volume). after ≤ before + (1 + how_many_released u call)) (sym same) (omega (arith, most, fewer))
