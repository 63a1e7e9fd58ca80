-- Calls with how many of their blockers live, and blockers with the turns that wait for them.
use Rattle.std.specs.Prelude.{ℕ, suc, Bool, true, false, ◌≡◌, ◌<◌, ◌≤◌, get_or, List, [], ◌∷◌, ◌++◌, ◌==◌, ◌-◌, min, nat_lt, not, map, filter, length, slice_get, Option, Some, None, AllPairs, if◌then◌else◌}
use Rattle.std.specs.List.{list_any}
use Rattle.std.specs.Option.{option_map_or}
use Rattle.fsa_types.specs.Rows.{lives, with_row_changed}
use Rattle.fsa_types.specs.Sorting.{in_order, put_in_order}
use Rattle.fsa_types.specs.declared.reply.Blocker.{Blocker}
use Rattle.pending_queue.specs.PendingQueue.{blockers_under, is_same}

-- the lesser of a number, where there is one, and another
abbrev pub least_of : Option ℕ → ℕ → ℕ
least_of None number = number
least_of (Some other) number = min other number

-- the least of these numbers
abbrev pub least : List ℕ → Option ℕ
least [] = None
least (number ∷ numbers) = Some (least_of (least numbers) number)

-- numbers in rising order
abbrev pub sorted : List ℕ → List ℕ
sorted numbers = in_order nat_lt numbers

-- this turn stands at this place
pub record IsPlace (turns : List ℕ) (turn place : ℕ) : Type 0 where
  pub within : place < length turns
  pub here : (d : ℕ) → get_or turns place d ≡ turn

-- it isn't there, and would stand at this place
pub record IsGap (turns : List ℕ) (turn place : ℕ) : Type 0 where
  pub within : place ≤ length turns
  pub before : (k : ℕ) (d : ℕ) → k < place → get_or turns k d < turn
  pub after : (k : ℕ) (d : ℕ) → place ≤ k → k < length turns → turn < get_or turns k d

-- the turns without this one
abbrev pub without_turn : List ℕ → ℕ → List ℕ
without_turn turns turn = filter (λ other. not (other == turn)) turns

-- the turns that are ready, in rising order, with this one among them where it is ready, and else without it
abbrev pub with_ready : List ℕ → ℕ → Bool → List ℕ
with_ready ready turn is = if is then put_in_order nat_lt turn (without_turn ready turn) else without_turn ready turn

-- the turns with this one among them
abbrev pub with_turn_among : List ℕ → ℕ → List ℕ
with_turn_among turns turn = if list_any (λ other. other == turn) turns then turns else turns ++ turn ∷ []

-- ---- calls, each its turn and how many of its blockers live

abbrev pub turns_of : List (ℕ × ℕ) → List ℕ
turns_of calls = map (λ call. call.0) calls

-- the turns of those none of whose blockers lives
abbrev pub ready_turns : List (ℕ × ℕ) → List ℕ
ready_turns calls = map (λ call. call.0) (filter (λ call. call.1 == 0) calls)

-- the call at this place is the one of this turn
abbrev pub is_at : {R : Type 0} → List (ℕ × R) → ℕ → ℕ → Bool
is_at calls place turn = option_map_or (λ call. call.0 == turn) (slice_get calls place) false

-- so many blockers of the call of this turn live: in its place where it is there already, else behind all others
abbrev pub with_count : List (ℕ × ℕ) → ℕ → ℕ → List (ℕ × ℕ)
with_count calls turn count = if lives calls turn then with_row_changed (λ _. count) calls turn else calls ++ (turn, count) ∷ []

-- one less for each of these entries that is of this blocker
abbrev pub discounted : Blocker → List (ℕ × Blocker) → List (ℕ × ℕ) → List (ℕ × ℕ)
discounted blocker [] calls = calls
discounted blocker (entry ∷ entries) calls = discounted blocker entries (if is_same blocker entry.1 then with_row_changed (λ count. count - 1) calls entry.0 else calls)

-- the turns, each with how many blockers stand under it
abbrev pub counted : List ℕ → List (ℕ × Blocker) → List (ℕ × ℕ)
counted turns waited = map (λ turn. (turn, length (blockers_under waited turn))) turns

-- no blocker stands under a turn that is no call's
abbrev pub NoneBeside : List (ℕ × ℕ) → List (ℕ × Blocker) → Type 0
NoneBeside calls waited = (turn : ℕ) → lives calls turn ≡ false → blockers_under waited turn ≡ []

-- the turns rise, where that is known
abbrev pub AreInOrder : {R : Type 0} → Bool → List (ℕ × R) → Type 0
AreInOrder rising calls = rising ≡ true → AllPairs (λ a b. a.0 < b.0) calls

-- the last of these calls has a lower turn, where there is one
abbrev pub IsBehind : {R : Type 0} → List (ℕ × R) → ℕ → Type 0
IsBehind {R} calls turn = (k : ℕ) (d : ℕ × R) → suc k ≡ length calls → (get_or calls k d).0 < turn

-- no two calls have one turn; their counts are those of the blockers that stand under their turns; and the turns of those
-- that may be taken up, in rising order
pub record AreCounted (calls : List (ℕ × ℕ)) (waited : List (ℕ × Blocker)) (ready : List ℕ) : Type 0 where
  pub differ : AllPairs (λ a b. (a.0 == b.0) ≡ false) calls
  pub counts : calls ≡ counted (turns_of calls) waited
  pub are_ready : ready ≡ sorted (ready_turns calls)
  pub beside : NoneBeside calls waited
