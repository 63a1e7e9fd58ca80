-- Items in the order of their keys, each of which is a list of numbers.
use Rattle.std.specs.Prelude.{◌≡◌, ℕ, ◌+◌, ◌≤◌, ◌<◌, Bool, false, List, AllPairs, length, MatchResult, Result}
use Rattle.std.specs.List.{AllWithin, HoldsAt}
use Rattle.std.specs.Cmp.Lexicographic.{slice_cmp}
use Rattle.std.specs.Ordering.{is_lt, is_eq, nat_cmp}
use Rattle.std.specs.declared.cmp.Ordering.{Ordering}
use Rattle.std.specs.declared.cmp.Ordering.TheVariants.{Less, Equal, Greater}

-- how two keys compare: by the first numbers that differ, a proper prefix first
abbrev pub cmp_keys : List ℕ → List ℕ → Ordering
cmp_keys one other = slice_cmp nat_cmp one other

-- one item stands before another: its key is less
abbrev pub is_key_before : {X : Type 0} → (X → List ℕ) → X → X → Bool
is_key_before key one other = is_lt (cmp_keys (key one) (key other))

-- the items are in the order of their keys, which differ
abbrev pub AreInKeyOrder : {X : Type 0} → (X → List ℕ) → List X → Type 0
AreInKeyOrder key items = AllPairs (λ one other. cmp_keys (key one) (key other) ≡ Less) items

-- their keys differ
abbrev pub KeysDiffer : {X : Type 0} → (X → List ℕ) → List X → Type 0
KeysDiffer key items = AllPairs (λ one other. is_eq (cmp_keys (key one) (key other)) ≡ false) items

-- where a search for a key ends: at its item, or at the place where it would stand. What stands before is less,
-- and what stands behind greater
abbrev pub IsKeyPlace : {X : Type 0} → (X → List ℕ) → List X → List ℕ → Result ℕ ℕ → Type 0
IsKeyPlace key items wanted searched = MatchResult searched
    (λ i. (i < length items) × AllWithin (λ e. cmp_keys (key e) wanted ≡ Less) items 0 i × HoldsAt (λ e. cmp_keys (key e) wanted ≡ Equal) items i × AllWithin (λ e. cmp_keys (key e) wanted ≡ Greater) items (i + 1) (length items))
    (λ i. (i ≤ length items) × AllWithin (λ e. cmp_keys (key e) wanted ≡ Less) items 0 i × AllWithin (λ e. cmp_keys (key e) wanted ≡ Greater) items i (length items))
