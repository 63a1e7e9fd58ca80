-- The calls that are held, among all that haven't ended: how they follow as calls are held, held anew, let go or
-- ended, and as breaks and locks end.
use Rattle.std.proofs.Common.{◌≡◌, ℕ, suc, Bool, true, false, not, List, [], ◌∷◌, ◌++◌, length, refl, ap, sym, ◌∙◌, arith, inl, inr}
use Rattle.std.specs.List.{list_any, All}
use Rattle.std.specs.Prelude.{◌==◌, ◌&&◌, map, filter, option_map}
use Rattle.std.proofs.lemmas.Bool.{cases_Bool, ne_eqb, false≢true}
use Rattle.fsa_types.specs.Pending.{Pending, is_held, is_let_go, next_let_go}
use Rattle.fsa_types.specs.Rows.{lives, without_row, with_row_changed}
use Rattle.fsa_types.specs.declared.reply.Blocker.{Blocker}
use Rattle.pending_queue.specs.Lists.{least}
use Rattle.pending_queue.specs.PendingQueue.{is_same, with_call_held, with_blocker_ended, next_unblocked, held_among}
use Rattle.pending_queue.proofs.LeastLemmas.{in_order-first}

-- ---- which call is next

filter-none : (test : Blocker → Bool) (blockers : List Blocker) → (length (filter test blockers) == 0) ≡ not (list_any test blockers)
filter-none test [] = refl
filter-none test (b ∷ bs) =
    elim (cases_Bool (test b)) [
      | inl passes ↦ rw passes (ne_eqb (suc (length (filter test bs))) 0 (λ none. absurd (omega arith)))
      | inr fails ↦ rw fails (filter-none test bs)
    ]

ready-among : (alive : Blocker → Bool) (pending : List (ℕ × Pending))
    → map (λ e. e.0) (filter (λ e. length e.1 == 0) (held_among alive pending)) ≡ map (λ e. e.0) (filter (λ e. is_let_go alive e.1) pending)
ready-among alive [] = refl
ready-among alive (p ∷ ps) =
    elim (cases_Bool (is_held p.1)) [
      | inl held ↦ elim (cases_Bool (list_any alive p.1.blockers)) [
        | inl blocked ↦ rw (held, filter-none alive p.1.blockers, blocked) (ready-among alive ps)
        | inr free ↦ rw (held, filter-none alive p.1.blockers, free) (ap (λ rest. p.0 ∷ rest) (ready-among alive ps))
      ]
      | inr waits ↦ rw waits (ready-among alive ps)
    ]

-- the least turn of the queue is the one that may be taken up next
pub next_unblocked-among : (alive : Blocker → Bool) (pending : List (ℕ × Pending)) → next_unblocked (held_among alive pending) ≡ option_map (λ e. e.0) (next_let_go alive pending)
next_unblocked-among alive pending = in_order-first (filter (λ e. length e.1 == 0) (held_among alive pending)) ∙ ap least (ready-among alive pending)
    ∙ sym (in_order-first (filter (λ e. is_let_go alive e.1) pending))

-- ---- breaks and locks end

filter-both : (test more : Blocker → Bool) (blockers : List Blocker) → filter (λ b. test b && more b) blockers ≡ filter more (filter test blockers)
filter-both test more [] = refl
filter-both test more (b ∷ bs) =
    elim (cases_Bool (test b)) [
      | inl passes ↦ elim (cases_Bool (more b)) [
        | inl stays ↦ rw (passes, stays) (ap (λ rest. b ∷ rest) (filter-both test more bs))
        | inr goes ↦ rw (passes, goes) (filter-both test more bs)
      ]
      | inr fails ↦ rw fails (filter-both test more bs)
    ]

-- one of them lives no more
pub among-ended : (alive : Blocker → Bool) (pending : List (ℕ × Pending)) (blocker : Blocker)
    → held_among (λ b. alive b && not (is_same blocker b)) pending ≡ with_blocker_ended (held_among alive pending) blocker
among-ended alive [] blocker = refl
among-ended alive (p ∷ ps) blocker =
    elim (cases_Bool (is_held p.1)) [
      | inl held ↦ rw (held, filter-both alive (λ b. not (is_same blocker b)) p.1.blockers, among-ended alive ps blocker) refl
      | inr waits ↦ rw waits (among-ended alive ps blocker)
    ]

filter-same : (test other : Blocker → Bool) (blockers : List Blocker) → All (λ b. test b ≡ other b) blockers → filter test blockers ≡ filter other blockers
filter-same test other [] same = refl
filter-same test other (b ∷ bs) same =
    let here : test b ≡ other b = same 0 b (omega arith) in
    let rest = filter-same test other bs (λ k d within. same (suc k) d (omega arith)) in
    elim (cases_Bool (other b)) [
      | inl passes ↦ rw (here, passes) (ap (λ more. b ∷ more) rest)
      | inr fails ↦ rw (here, fails) rest
    ]

-- only what calls wait for matters
pub among-same : (alive other : Blocker → Bool) (pending : List (ℕ × Pending)) → All (λ e. All (λ b. alive b ≡ other b) e.1.blockers) pending
    → held_among alive pending ≡ held_among other pending
among-same alive other [] same = refl
among-same alive other (p ∷ ps) same =
    let rest = among-same alive other ps (λ k d within. same (suc k) d (omega arith)) in
    elim (cases_Bool (is_held p.1)) [
      | inl held ↦ rw (held, filter-same alive other p.1.blockers (same 0 p (omega arith)), rest) refl
      | inr waits ↦ rw waits rest
    ]

-- ---- calls are held, held anew, and no more

filter-whole : (test : Blocker → Bool) (blockers : List Blocker) → All (λ b. test b ≡ true) blockers → filter test blockers ≡ blockers
filter-whole test [] all = refl
filter-whole test (b ∷ bs) all =
    let here : test b ≡ true = all 0 b (omega arith) in
    rw here (ap (λ more. b ∷ more) (filter-whole test bs (λ k d within. all (suc k) d (omega arith))))

among-last : (alive : Blocker → Bool) (pending : List (ℕ × Pending)) (turn : ℕ) (row : Pending) → is_held row ≡ true
    → held_among alive (pending ++ (turn, row) ∷ []) ≡ held_among alive pending ++ (turn, filter alive row.blockers) ∷ []
among-last alive [] turn row is = rw is refl
among-last alive (p ∷ ps) turn row is =
    elim (cases_Bool (is_held p.1)) [
      | inl held ↦ rw held (ap (λ rest. (p.0, filter alive p.1.blockers) ∷ rest) (among-last alive ps turn row is))
      | inr waits ↦ rw waits (among-last alive ps turn row is)
    ]

-- a call that only waits is not held
pub among-waits : (alive : Blocker → Bool) (pending : List (ℕ × Pending)) (turn : ℕ) (row : Pending) → is_held row ≡ false
    → held_among alive (pending ++ (turn, row) ∷ []) ≡ held_among alive pending
among-waits alive [] turn row is = rw is refl
among-waits alive (p ∷ ps) turn row is =
    elim (cases_Bool (is_held p.1)) [
      | inl held ↦ rw held (ap (λ rest. (p.0, filter alive p.1.blockers) ∷ rest) (among-waits alive ps turn row is))
      | inr waits ↦ rw waits (among-waits alive ps turn row is)
    ]

among-none : (alive : Blocker → Bool) (pending : List (ℕ × Pending)) (turn : ℕ) → lives pending turn ≡ false → lives (held_among alive pending) turn ≡ false
among-none alive [] turn none = refl
among-none alive (p ∷ ps) turn none =
    elim (cases_Bool (p.0 == turn)) [
      | inl here ↦ (let never : true ≡ false = rw here at none in absurd (false≢true (sym never)))
      | inr other ↦ (let rest : lives ps turn ≡ false = rw other at none in
          elim (cases_Bool (is_held p.1)) [
            | inl held ↦ rw (held, other) (among-none alive ps turn rest)
            | inr waits ↦ rw waits (among-none alive ps turn rest)
          ])
    ]

-- a new call is held
pub among-held : (alive : Blocker → Bool) (pending : List (ℕ × Pending)) (turn : ℕ) (row : Pending) → lives pending turn ≡ false → is_held row ≡ true
    → All (λ b. alive b ≡ true) row.blockers → held_among alive (pending ++ (turn, row) ∷ []) ≡ with_call_held (held_among alive pending) turn row.blockers
among-held alive pending turn row none is all = rw (among-none alive pending turn none) (among-last alive pending turn row is
    ∙ ap (λ its. held_among alive pending ++ (turn, its) ∷ []) (filter-whole alive row.blockers all))

-- what is pending under this turn is held
abbrev pub IsHeldUnder : List (ℕ × Pending) → ℕ → Type 0
IsHeldUnder pending turn = All (λ e. (e.0 == turn) ≡ true → is_held e.1 ≡ true) pending

abbrev pub with_blockers : List Blocker → Pending → Pending
with_blockers blockers row = record row { blockers = blockers }

among-lives : (alive : Blocker → Bool) (pending : List (ℕ × Pending)) (turn : ℕ) → IsHeldUnder pending turn → lives pending turn ≡ true → lives (held_among alive pending) turn ≡ true
among-lives alive [] turn all some = some
among-lives alive (p ∷ ps) turn all some =
    elim (cases_Bool (p.0 == turn)) [
      | inl here ↦ (let held : is_held p.1 ≡ true = all 0 p (omega arith) here in rw (held, here) refl)
      | inr other ↦ (let rest : lives ps turn ≡ true = rw other at some in
          let found = among-lives alive ps turn (λ k d within. all (suc k) d (omega arith)) rest in
          elim (cases_Bool (is_held p.1)) [
            | inl held ↦ rw (held, other) found
            | inr waits ↦ rw waits found
          ])
    ]

among-changed : (alive : Blocker → Bool) (pending : List (ℕ × Pending)) (turn : ℕ) (blockers : List Blocker) → IsHeldUnder pending turn
    → (length blockers == 0) ≡ false → filter alive blockers ≡ blockers
    → held_among alive (with_row_changed (with_blockers blockers) pending turn) ≡ with_row_changed (λ _. blockers) (held_among alive pending) turn
among-changed alive [] turn blockers all some whole = refl
among-changed alive (p ∷ ps) turn blockers all some whole =
    let rest = among-changed alive ps turn blockers (λ k d within. all (suc k) d (omega arith)) some whole in
    elim (cases_Bool (p.0 == turn)) [
      | inl here ↦ (let held : is_held p.1 ≡ true = all 0 p (omega arith) here in
          rw (here, some, held, here, whole) (ap (λ more. (p.0, blockers) ∷ more) rest))
      | inr other ↦ elim (cases_Bool (is_held p.1)) [
        | inl held ↦ rw (other, held, other) (ap (λ more. (p.0, filter alive p.1.blockers) ∷ more) rest)
        | inr waits ↦ rw (other, waits) rest
      ]
    ]

-- a call that is held is held anew
pub among-held_anew : (alive : Blocker → Bool) (pending : List (ℕ × Pending)) (turn : ℕ) (blockers : List Blocker) → lives pending turn ≡ true → IsHeldUnder pending turn
    → (length blockers == 0) ≡ false → All (λ b. alive b ≡ true) blockers
    → held_among alive (with_row_changed (with_blockers blockers) pending turn) ≡ with_call_held (held_among alive pending) turn blockers
among-held_anew alive pending turn blockers there all some alive_all = rw (among-lives alive pending turn all there)
    (among-changed alive pending turn blockers all some (filter-whole alive blockers alive_all))

-- a call waits for nothing of this kind any more
pub among-let_go : (alive : Blocker → Bool) (pending : List (ℕ × Pending)) (turn : ℕ)
    → held_among alive (with_row_changed (with_blockers []) pending turn) ≡ without_row (held_among alive pending) turn
among-let_go alive [] turn = refl
among-let_go alive (p ∷ ps) turn =
    elim (cases_Bool (p.0 == turn)) [
      | inl here ↦ elim (cases_Bool (is_held p.1)) [
        | inl held ↦ rw (here, held, here) (among-let_go alive ps turn)
        | inr waits ↦ rw (here, waits) (among-let_go alive ps turn)
      ]
      | inr other ↦ elim (cases_Bool (is_held p.1)) [
        | inl held ↦ rw (other, held, other) (ap (λ more. (p.0, filter alive p.1.blockers) ∷ more) (among-let_go alive ps turn))
        | inr waits ↦ rw (other, waits) (among-let_go alive ps turn)
      ]
    ]

-- a call has ended
pub among-removed : (alive : Blocker → Bool) (pending : List (ℕ × Pending)) (turn : ℕ)
    → held_among alive (without_row pending turn) ≡ without_row (held_among alive pending) turn
among-removed alive [] turn = refl
among-removed alive (p ∷ ps) turn =
    elim (cases_Bool (p.0 == turn)) [
      | inl here ↦ elim (cases_Bool (is_held p.1)) [
        | inl held ↦ rw (here, held, here) (among-removed alive ps turn)
        | inr waits ↦ rw (here, waits) (among-removed alive ps turn)
      ]
      | inr other ↦ elim (cases_Bool (is_held p.1)) [
        | inl held ↦ rw (other, held, other) (ap (λ more. (p.0, filter alive p.1.blockers) ∷ more) (among-removed alive ps turn))
        | inr waits ↦ rw (other, waits) (among-removed alive ps turn)
      ]
    ]
