-- Opens under keys: what each key has as one comes, changes, and goes.
use Rattle.std.proofs.Common.{◌≡◌, ◌≢◌, ℕ, zero, suc, ◌≤◌, true, false, List, [], ◌∷◌, ◌++◌, length, get_or, Option, Some, None, is_some, IsPermutation, refl, ap, sym, ◌∙◌, arith, inl, inr, eq-eqb}
use Rattle.std.specs.Prelude.{IsSome, ◌==◌}
use Rattle.std.specs.List.{All, AllPairs, insert, position, remove}
use Rattle.std.specs.Option.{option_and_then, option_map_or}
use Rattle.std.proofs.lemmas.Bool.{cases_Bool, both_ways, eqb-true, false≢true, ne_eqb}
use Rattle.std.proofs.lemmas.List.Elements.{All-cons}
use Rattle.std.proofs.lemmas.List.Kept.{AllPairs-cons}
use Rattle.fsa_types.specs.Places.{IsAt, StandsAt}
use Rattle.fsa_types.specs.Rows.{row_of, without_row}
use Rattle.fsa_types.proofs.PlaceLemmas.{AreRising-insert, row_of-insert_other, row_of-insert_own, row_of-missing}
use Rattle.object_tables.specs.Places.{ArePlaced, rows_by}
use Rattle.object_tables.proofs.PlaceLemmas.{placed-changed, placed-removed, row-placed, rows-changed, rows-removed}
use Rattle.object_tables.proofs.SearchLemmas.{position-here}
use Rattle.volume_tables.specs.ShareTable.{HaveOpens, IsAdded, IsTaken, held_in}
use Rattle.volume_tables.proofs.PlaceLemmas.{row_of-without}
use Rattle.volume_tables.proofs.StreamLemmas.{row_of-other}

-- ---- lists in which one item is put in

all-insert : {X : Type 0} (P : X → Type 0) (xs : List X) (i : ℕ) (x : X) → i ≤ length xs → P x → All P xs → All P (insert xs i x)
all-insert P xs zero x within here all = All-cons P x xs here all
all-insert P [] (suc i) x within here all = absurd (omega arith)
all-insert P (y ∷ ys) (suc i) x within here all =
    All-cons P y (insert ys i x) (all 0 y (omega arith)) (all-insert P ys i x (omega arith) here (λ k d w. all (suc k) d (omega arith)))

differ-insert : (xs : List (ℕ × ℕ)) (i : ℕ) (x : ℕ × ℕ) → i ≤ length xs → All (λ y. y.1 ≢ x.1) xs → AllPairs (λ a b. a.1 ≢ b.1) xs → AllPairs (λ a b. a.1 ≢ b.1) (insert xs i x)
differ-insert xs zero x within apart differ = AllPairs-cons (λ (a b : ℕ × ℕ). a.1 ≢ b.1) x xs (λ k d w same. apart k d w (sym same)) differ
differ-insert [] (suc i) x within apart differ = absurd (omega arith)
differ-insert (y ∷ ys) (suc i) x within apart differ =
    AllPairs-cons (λ (a b : ℕ × ℕ). a.1 ≢ b.1) y (insert ys i x)
    (all-insert (λ (z : ℕ × ℕ). y.1 ≢ z.1) ys i x (omega arith) (apart 0 y (omega arith)) (λ k d w. differ 0 (suc k) d (omega arith) (omega arith)))
    (differ-insert ys i x (omega arith) (λ k d w. apart (suc k) d (omega arith)) (λ a b d less w. differ (suc a) (suc b) d (omega arith) (omega arith)))

-- ---- rows that are found by their keys

some-row : {T : Type 0} (row : Option T) → IsSome row → (some : T) × (row ≡ Some some)
some-row None is = absurd (false≢true is)
some-row (Some row) is = (row, refl)

pub row_of-out : {T : Type 0} (rows : List (ℕ × T)) (id : ℕ) → row_of (without_row rows id) id ≡ None
row_of-out [] id = refl
row_of-out (x ∷ rows) id =
    elim (cases_Bool (x.0 == id)) [
      | inl here ↦ rw here (row_of-out rows id)
      | inr other ↦ rw (other, other) (row_of-out rows id)
    ]

apart : (a b : ℕ) → (a == b) ≡ false → (b == a) ≡ false
apart a b differ = ne_eqb b a (λ same. absurd (both_ways (a == b) differ (eq-eqb a b (sym same))))

module _ {T : Type 0} where
  -- the row of a key is the one in its slot
  row-found : (found : ℕ → Option T) (places : List (ℕ × ℕ)) (key : ℕ) → All (λ place. IsSome (found place.1)) places → row_of (rows_by found places) key ≡ option_and_then found (row_of places key)
  row-found found [] key there = refl
  row-found found (p ∷ places) key there =
      let here = some-row (found p.1) (there 0 p (omega arith)) in
      let rest = row-found found places key (λ k d within. there (suc k) d (omega arith)) in
      elim (cases_Bool (p.0 == key)) [
        | inl same ↦ rw (here.1, same) (sym here.1)
        | inr other ↦ rw (here.1, other) rest
      ]

  -- where the slots have the same rows, so have the keys
  found-same : (old new : ℕ → Option T) (places : List (ℕ × ℕ)) (key : ℕ) → All (λ place. new place.1 ≡ old place.1) places → option_and_then new (row_of places key) ≡ option_and_then old (row_of places key)
  found-same old new [] key same = refl
  found-same old new (p ∷ places) key same =
      elim (cases_Bool (p.0 == key)) [
        | inl here ↦ rw here (same 0 p (omega arith))
        | inr other ↦ rw other (found-same old new places key (λ k d within. same (suc k) d (omega arith)))
      ]

  -- a key comes, with a slot that was free
  module _ (old new : ℕ → Option T) (places : List (ℕ × ℕ)) (last key slot i : ℕ) (row : T) (placed : ArePlaced old places last) (low : key ≤ last) (at : StandsAt places key i) (vacant : old slot ≡ None)
      (put : new slot ≡ Some row) (others : (other : ℕ) → other ≢ slot → new other ≡ old other) where
    slots-differ : All (λ place. place.1 ≢ slot) places
    slots-differ k d within same =
        let is : is_some (old (get_or places k d).1) ≡ true = placed.there k d within in
        let none : is_some (old (get_or places k d).1) ≡ false = ap (λ at. is_some (old at)) same ∙ ap is_some vacant in
        false≢true (sym none ∙ is)

    same-slots : All (λ place. new place.1 ≡ old place.1) places
    same-slots k d within = others _ (slots-differ k d within)

    pub placed-inserted : ArePlaced new (insert places i (key, slot)) last
    placed-inserted = record {
      numbered = record {
        rising = AreRising-insert places key i slot placed.numbered.rising at;
        given = all-insert (λ (place : ℕ × ℕ). place.0 ≤ last) places i (key, slot) at.within low placed.numbered.given;
      };
      there = all-insert (λ (place : ℕ × ℕ). IsSome (new place.1)) places i (key, slot) at.within (rw put refl) (λ k d within. rw (same-slots k d within) (placed.there k d within));
      differ = differ-insert places i (key, slot) at.within slots-differ placed.differ;
    }

    pub row-inserted : row_of (rows_by new (insert places i (key, slot))) key ≡ Some row
    row-inserted = row-found new (insert places i (key, slot)) key placed-inserted.there ∙ ap (option_and_then new) (row_of-insert_own places key i slot at) ∙ put

    pub row-beside : (other : ℕ) → (other == key) ≡ false → row_of (rows_by new (insert places i (key, slot))) other ≡ row_of (rows_by old places) other
    row-beside other differ =
        row-found new (insert places i (key, slot)) other placed-inserted.there
        ∙ ap (option_and_then new) (row_of-insert_other places key i slot other at differ)
        ∙ found-same old new places other same-slots
        ∙ sym (row-found old places other placed.there)

  -- a key that isn't there has no row
  pub row-none : (found : ℕ → Option T) (places : List (ℕ × ℕ)) (last key i : ℕ) → ArePlaced found places last → StandsAt places key i → row_of (rows_by found places) key ≡ None
  row-none found places last key i placed at = row-found found places key placed.there ∙ ap (option_and_then found) (row_of-missing places key i at)

  -- the row of a key that is there
  pub row-in : (found : ℕ → Option T) (places : List (ℕ × ℕ)) (last key slot i : ℕ) (e : ℕ × ℕ) → ArePlaced found places last → IsAt places key i → (get_or places i e).1 ≡ slot
      → row_of (rows_by found places) key ≡ found slot
  row-in found places last key slot i e placed at under =
      row-placed found places last key i e placed (position-here places i e key placed.numbered.rising at.within (at.here e)) ∙ ap found under

  -- the row in the slot of a key changes
  module _ (old new : ℕ → Option T) (places : List (ℕ × ℕ)) (last key slot i : ℕ) (e : ℕ × ℕ) (row : T) (placed : ArePlaced old places last) (at : IsAt places key i) (under : (get_or places i e).1 ≡ slot)
      (put : new slot ≡ Some row) (others : (other : ℕ) → other ≢ slot → new other ≡ old other) where
    pub placed-put : ArePlaced new places last
    placed-put = placed-changed old new slot key row put others places last placed

    pub row-put : row_of (rows_by new places) key ≡ Some row
    row-put = row-in new places last key slot i e placed-put at under ∙ put

    pub row-kept : (other : ℕ) → (other == key) ≡ false → row_of (rows_by new places) other ≡ row_of (rows_by old places) other
    row-kept other differ =
        ap (λ (rows : List (ℕ × T)). row_of rows other)
        (rows-changed old new slot key row put others places last i e placed (position-here places i e key placed.numbered.rising at.within (at.here e)) under)
        ∙ row_of-other (λ _. row) (rows_by old places) key other differ

-- ---- the opens of keys

pub held_in-some : (rows : List (ℕ × List (ℕ × ℕ))) (key : ℕ) (held : List (ℕ × ℕ)) → row_of rows key ≡ Some held → held_in rows key ≡ held
held_in-some rows key held some = rw some refl

pub held_in-none : (rows : List (ℕ × List (ℕ × ℕ))) (key : ℕ) → row_of rows key ≡ None → held_in rows key ≡ []
held_in-none rows key none = rw none refl

-- one key has one open more
pub IsAdded-put : (old new : List (ℕ × List (ℕ × ℕ))) (key : ℕ) (masks : ℕ × ℕ) → held_in new key ≡ held_in old key ++ masks ∷ []
    → ((other : ℕ) → (other == key) ≡ false → row_of new other ≡ row_of old other) → IsAdded (λ other. key == other) old new masks
IsAdded-put old new key masks more others = record {
  here = λ other is. (let same : other ≡ key = sym (eqb-true key other is) in rw same more);
  others = λ other differ. rw (others other (apart key other differ)) refl;
}

-- or one less
pub IsTaken-put : (old new : List (ℕ × List (ℕ × ℕ))) (key : ℕ) (masks : ℕ × ℕ) → IsPermutation (held_in old key) (masks ∷ held_in new key)
    → ((other : ℕ) → (other == key) ≡ false → row_of new other ≡ row_of old other) → IsTaken (λ other. key == other) old new masks
IsTaken-put old new key masks less others = record {
  here = λ other is. (let same : other ≡ key = sym (eqb-true key other is) in rw same less);
  others = λ other differ. rw (others other (apart key other differ)) refl;
}

-- ---- each key has an open

as-many : (one other : List (ℕ × ℕ)) → Some one ≡ Some other → length one ≡ length other
as-many one other same = ap (λ (row : Option (List (ℕ × ℕ))). length (option_map_or (λ (held : List (ℕ × ℕ)). held) row [])) same

-- one that has got an open
pub more-opens : (row : Option (List (ℕ × ℕ))) (held : List (ℕ × ℕ)) (masks : ℕ × ℕ) → row ≡ Some (held ++ masks ∷ []) → row ≢ Some []
more-opens row [] masks is none = let many = as-many (masks ∷ []) [] (sym is ∙ none) in absurd (omega (arith, many))
more-opens row (x ∷ held) masks is none = let many = as-many ((x ∷ held) ++ masks ∷ []) [] (sym is ∙ none) in absurd (omega (arith, many))

-- one that has some left
pub some-opens : (row : Option (List (ℕ × ℕ))) (left : List (ℕ × ℕ)) → row ≡ Some left → (length left == 0) ≡ false → row ≢ Some []
some-opens row [] is some none = absurd (false≢true (sym some))
some-opens row (x ∷ left) is some none = let many = as-many (x ∷ left) [] (sym is ∙ none) in absurd (omega (arith, many))

pub HaveOpens-put : (old new : List (ℕ × List (ℕ × ℕ))) (key : ℕ) → HaveOpens old → row_of new key ≢ Some [] → ((other : ℕ) → (other == key) ≡ false → row_of new other ≡ row_of old other) → HaveOpens new
HaveOpens-put old new key are here others other none =
    elim (cases_Bool (other == key)) [
      | inl is ↦ here (ap (row_of new) (sym (eqb-true other key is)) ∙ none)
      | inr differ ↦ are other (sym (others other differ) ∙ none)
    ]

empty-list : {X : Type 0} (xs : List X) → length xs ≡ 0 → xs ≡ []
empty-list [] none = refl
empty-list (x ∷ xs) none = absurd (omega arith)

-- a key without opens goes
module _ (old new : ℕ → Option (List (ℕ × ℕ))) (places : List (ℕ × ℕ)) (last key i : ℕ) (e : ℕ × ℕ) (placed : ArePlaced old places last) (at : IsAt places key i)
    (others : (other : ℕ) → other ≢ (get_or places i e).1 → new other ≡ old other) where
  found-at : position (λ p. p.0 == key) places ≡ Some i
  found-at = position-here places i e key placed.numbered.rising at.within (at.here e)

  pub placed-out : ArePlaced new (remove places i) last
  placed-out = placed-removed old new places last key i e placed found-at others

  pub held-out : length (held_in (rows_by old places) key) ≡ 0 → (other : ℕ) → held_in (rows_by new (remove places i)) other ≡ held_in (rows_by old places) other
  held-out none other =
      let rows : rows_by new (remove places i) ≡ without_row (rows_by old places) key = rows-removed old new places last key i e placed found-at others in
      ap (λ (rs : List (ℕ × List (ℕ × ℕ))). held_in rs other) rows ∙ elim (cases_Bool (other == key)) [
        | inl here ↦ (let same : other ≡ key = eqb-true other key here in
            rw same (held_in-none (without_row (rows_by old places) key) key (row_of-out (rows_by old places) key) ∙ sym (empty-list (held_in (rows_by old places) key) none)))
        | inr differ ↦ rw (row_of-without (rows_by old places) key other differ) refl
      ]

  pub opens-out : ((other : ℕ) → (other == key) ≡ false → row_of (rows_by old places) other ≢ Some []) → HaveOpens (rows_by new (remove places i))
  opens-out have other none =
      let rows : rows_by new (remove places i) ≡ without_row (rows_by old places) key = rows-removed old new places last key i e placed found-at others in
      let left : row_of (without_row (rows_by old places) key) other ≡ Some [] = ap (λ (rs : List (ℕ × List (ℕ × ℕ))). row_of rs other) (sym rows) ∙ none in
      elim (cases_Bool (other == key)) [
        | inl here ↦ (let out : row_of (without_row (rows_by old places) key) other ≡ None = ap (row_of (without_row (rows_by old places) key)) (eqb-true other key here) ∙ row_of-out (rows_by old places) key in
            absurd (false≢true (ap (λ (row : Option (List (ℕ × ℕ))). is_some row) (sym out ∙ left))))
        | inr differ ↦ have other differ (sym (row_of-without (rows_by old places) key other differ) ∙ left)
      ]
