-- The calls that are held, with those of their blockers that live, beside the room for more of them.
use Rattle.std.specs.Prelude.{ℕ, Bool, false, List, [], ◌∷◌, ◌++◌, ◌==◌, not, nat_lt, map, filter, length, Option, option_map, slice_get, if◌then◌else◌}
use Rattle.fsa_types.specs.Rows.{lives, with_row_changed}
use Rattle.fsa_types.specs.Sorting.{in_order}
use Rattle.fsa_types.specs.Pending.{Pending, is_held}
use Rattle.fsa_types.specs.declared.reply.Blocker.{Blocker}
use Rattle.fsa_types.specs.declared.reply.Blocker.TheVariants.{Break, Lock}

-- the turns of the calls that are held, each with those of its blockers that live, in the order in which they
-- were held; how many more calls can be held, and by how many blockers in all, without taking memory
pub record Queue : Type 0 where
  pub held : List (ℕ × List Blocker)
  pub room_for_calls : ℕ
  pub room_for_blockers : ℕ

-- the blockers of one turn, of blockers that stand under turns; the turns, each with its blockers
abbrev pub blockers_under : List (ℕ × Blocker) → ℕ → List Blocker
blockers_under waited turn = map (λ entry. entry.1) (filter (λ entry. entry.0 == turn) waited)

abbrev pub held_of : List ℕ → List (ℕ × Blocker) → List (ℕ × List Blocker)
held_of turns waited = map (λ turn. (turn, blockers_under waited turn)) turns

-- two blockers are the same
abbrev pub is_same : Blocker → Blocker → Bool
is_same (Break number) (Break other) = number == other
is_same (Lock number) (Lock other) = number == other
is_same _ _ = false

-- the call of this turn is held by these blockers: in its place where it is held already, else behind all others
abbrev pub with_call_held : List (ℕ × List Blocker) → ℕ → List Blocker → List (ℕ × List Blocker)
with_call_held held turn blockers = if lives held turn then with_row_changed (λ _. blockers) held turn else held ++ (turn, blockers) ∷ []

-- how many calls more are held then
abbrev pub calls_added : List (ℕ × List Blocker) → ℕ → ℕ
calls_added held turn = if lives held turn then 0 else 1

-- no call waits for this blocker any more
abbrev pub with_blocker_ended : List (ℕ × List Blocker) → Blocker → List (ℕ × List Blocker)
with_blocker_ended held blocker = map (λ entry. (entry.0, filter (λ other. not (is_same blocker other)) entry.1)) held

-- the least turn of a call none of whose blockers lives
abbrev pub next_unblocked : List (ℕ × List Blocker) → Option ℕ
next_unblocked held = option_map (λ entry. entry.0) (slice_get (in_order (λ a b. nat_lt a.0 b.0) (filter (λ entry. length entry.1 == 0) held)) 0)

-- of calls that haven't ended, those that are held, each with those of its blockers that live
abbrev pub held_among : (Blocker → Bool) → List (ℕ × Pending) → List (ℕ × List Blocker)
held_among lives pending = map (λ entry. (entry.0, filter lives entry.1.blockers)) (filter (λ entry. is_held entry.1) pending)
