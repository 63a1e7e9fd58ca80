-- Pending calls in the order of their turns.
use Rattle.std.specs.Fn.{Called, ReturnsEach, AlwaysReturns}
use Rattle.std.proofs.Common.{◌≡◌, ℕ, suc, ◌<◌, ◌≤◌, ◌-◌, ◌++◌, Bool, true, false, List, [], ◌∷◌, length, get_or, ap, sym, ◌∙◌, refl, arith, inl, inr}
use Rattle.std.specs.List.{filter, list_any, find, All, AllPairs, position_or_len}
use Rattle.std.specs.List.Sorted.{IsNonDecreasingBy, IsPartitionPoint}
use Rattle.std.specs.Prelude.{◌&&◌, nat_lt, option_map, slice_get}
use Rattle.std.proofs.lemmas.Bool.{cases_lt, and_left, lt-ltb, le-ltb}
use Rattle.std.proofs.lemmas.List.{get_or_default}
use Rattle.std.proofs.lemmas.List.Folds.{find_at, list_any_none}
use Rattle.std.proofs.lemmas.List.Kept.{AllPairs-filter}
use Rattle.std.proofs.lemmas.List.Quantifiers.{all_pairs_push}
use Rattle.std.proofs.lemmas.List.Sums.{position_or_len_is}
use Rattle.fsa_types.specs.Rows.{with_row_changed}
use Rattle.fsa_types.specs.declared.reply.Blocker.{Blocker}
use Rattle.fsa_model.specs.Volume.{Pending}
use Rattle.fsa_model.proofs.RowLaws.{AllPairs-map, change_at, change_at-number}
use Rattle.pending_queue.specs.Lists.{AreInOrder, IsBehind}
use Rattle.volume_breaks.specs.Calls.{is_next_turn}
use denote.Param.Members.{Mut}

-- a fact of the closure that each call keeps tells what each call answers
module _ {F X R : Type 0} (g : Mut F X R) (P : X → R → Type 0) (I : F → Type 0) (step : (f : F) (a : X) (r : R) (f' : F) → Called g f a r f' → I f → P a r × I f') where
  answers_each : (xs : List X) (f : F) → I f → ReturnsEach g P f xs
  answers_each [] f i = tt
  answers_each (a ∷ xs) f i = λ r f' c. let s = step f a r f' c i in (s.0, answers_each xs f' s.1)

  pub answers_by : (f : F) → I f → AlwaysReturns g P f
  answers_by f i = record { at = λ xs. answers_each xs f i }

abbrev pub AllRise : List (ℕ × Pending) → Type 0
AllRise pending = AllPairs (λ a b. a.0 < b.0) pending

pub never-falls : (pending : List (ℕ × Pending)) → AllRise pending → IsNonDecreasingBy (λ e. e.0) pending
never-falls pending rise i j d below within =
    elim (cases_lt i j) [
      | inl less ↦ (let apart : (get_or pending i d).0 < (get_or pending j d).0 = rise i j d less within in omega arith)
      | inr more ↦ (let same : i ≡ j = omega arith in rw same (omega arith))
    ]

-- ---- as a call comes, changes or goes

pub AreInOrder-filter : (rising : Bool) (test : ℕ × Pending → Bool) (pending : List (ℕ × Pending)) → AreInOrder rising pending → AreInOrder rising (filter test pending)
AreInOrder-filter rising test pending are is = AllPairs-filter (λ a b. a.0 < b.0) test pending (are is)

all-behind : (pending : List (ℕ × Pending)) (turn : ℕ) → AllRise pending → IsBehind pending turn → All (λ e. e.0 < turn) pending
all-behind pending turn rise behind k d within =
    elim (cases_lt (suc k) (length pending)) [
      | inl more ↦ (
          let below : (get_or pending k d).0 < (get_or pending (length pending - 1) d).0 = rise k (length pending - 1) d (omega arith) (omega arith) in
          let last : (get_or pending (length pending - 1) d).0 < turn = behind (length pending - 1) d (omega arith) in
          omega arith)
      | inr past ↦ behind k d (omega arith)
    ]

pub AreInOrder-push : (rising stays : Bool) (pending : List (ℕ × Pending)) (turn : ℕ) (row : Pending) → AreInOrder rising pending → (stays ≡ true → rising ≡ true) → (stays ≡ true → IsBehind pending turn)
    → AreInOrder stays (pending ++ (turn, row) ∷ [])
AreInOrder-push rising stays pending turn row are rose behind is =
    all_pairs_push (λ a b. a.0 < b.0) pending (turn, row) (are (rose is)) (all-behind pending turn (are (rose is)) (behind is))

pub AreInOrder-changed : (rising : Bool) (pending : List (ℕ × Pending)) (turn : ℕ) (blockers : List Blocker) → AreInOrder rising pending
    → AreInOrder rising (with_row_changed (λ row. record row { blockers = blockers }) pending turn)
AreInOrder-changed rising pending turn blockers are is =
    let change : Pending → Pending = λ row. record row { blockers = blockers } in
    AllPairs-map (λ a b. a.0 < b.0) (change_at change turn) pending
    (λ i j d below within. rw (change_at-number change turn (get_or pending i d), change_at-number change turn (get_or pending j d)) (are is i j d below within))

-- ---- the next turn is the first above

and_false : (b : Bool) → (b && false) ≡ false
and_false true = refl
and_false false = refl

first-from : (rows : List (ℕ × Pending)) (i after : ℕ) (d : ℕ × Pending) → AllRise rows → i ≤ length rows → IsPartitionPoint (λ e. e.0 ≤ after) (λ e. after < e.0) rows i
    → slice_get rows i ≡ find (is_next_turn rows after) rows
first-from rows i after d rise bound point =
    let place : position_or_len (is_next_turn rows after) rows ≡ i = position_or_len_is (is_next_turn rows after) rows i d bound
    (λ k below. and_left (nat_lt after (get_or rows k d).0) _ (le-ltb after (get_or rows k d).0 (point.0 k d (omega arith) below)))
    passes in
    ap (slice_get rows) (sym place) ∙ sym (find_at (is_next_turn rows after) rows)
  where
    none-between : (i < length rows) → (k : ℕ) → k < length rows → (nat_lt after (get_or rows k d).0 && nat_lt (get_or rows k d).0 (get_or rows i d).0) ≡ false
    none-between within k inside = elim (cases_lt k i) [
      | inl before ↦ and_left (nat_lt after (get_or rows k d).0) _ (le-ltb after (get_or rows k d).0 (point.0 k d (omega arith) before))
      | inr behind ↦ (let later : (get_or rows i d).0 ≤ (get_or rows k d).0 = never-falls rows rise i k d behind inside in
          let fails : nat_lt (get_or rows k d).0 (get_or rows i d).0 ≡ false = le-ltb (get_or rows k d).0 (get_or rows i d).0 later in
          rw fails (and_false (nat_lt after (get_or rows k d).0)))
    ]

    passes : (i < length rows) → is_next_turn rows after (get_or rows i d) ≡ true
    passes within =
        let above : nat_lt after (get_or rows i d).0 ≡ true = lt-ltb after (get_or rows i d).0 (point.1 i d (omega arith) within) in
        let none : list_any (λ (other : ℕ × Pending). nat_lt after other.0 && nat_lt other.0 (get_or rows i d).0) rows ≡ false =
        list_any_none (λ (other : ℕ × Pending). nat_lt after other.0 && nat_lt other.0 (get_or rows i d).0) rows (λ k e inside. rw (get_or_default rows k e d inside) (none-between within k inside)) in
        rw (above, none) refl

pub first-above : (rows : List (ℕ × Pending)) (i after : ℕ) → AllRise rows → i ≤ length rows → IsPartitionPoint (λ e. e.0 ≤ after) (λ e. after < e.0) rows i
    → option_map (λ e. e.0) (slice_get rows i) ≡ option_map (λ e. e.0) (find (is_next_turn rows after) rows)
first-above [] i after rise bound point = refl
first-above (row ∷ rows) i after rise bound point = ap (option_map (λ e. e.0)) (first-from (row ∷ rows) i after row rise bound point)
