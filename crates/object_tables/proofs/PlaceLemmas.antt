-- The rows that a slab has under the keys of rising numbers: as one comes, changes, and goes.
use Rattle.std.proofs.Common.{◌≡◌, ◌≢◌, ℕ, zero, suc, ◌+◌, ◌<◌, ◌≤◌, true, false, not, List, [], ◌∷◌, ◌++◌, length, get_or, set, Option, Some, None, is_some, cond, refl, ap, sym, ◌∙◌, arith, inl, inr}
use Rattle.std.specs.Prelude.{IsSome, nat_lt, option_map, slice_get, ◌==◌}
use Rattle.std.specs.List.{All, AllPairs, position, position_or_len, remove}
use Rattle.std.proofs.lemmas.Bool.{cases_Bool, cases_eq, false≢true}
use Rattle.std.proofs.lemmas.List.Elements.{All-filter, All-push, filter_map-append}
use Rattle.std.proofs.lemmas.List.Kept.{AllPairs-filter}
use Rattle.std.proofs.lemmas.List.Quantifiers.{all_pairs_push}
use Rattle.std.proofs.lemmas.List.Sums.{sum_by-set}
use Rattle.std.proofs.lemmas.Option.{slice_get_past}
use Rattle.fsa_types.specs.Rows.{IsNumbered, row_of, with_row_changed, without_row}
use Rattle.fsa_types.proofs.RowLemmas.{IsAt-position, IsNumbered-remove, remove-at, row_of-at, row_of-none, set-at, without_row-none}
use Rattle.slab.specs.Slab.{Slab, ContainsKey, slab_len, with_value}
use Rattle.slab.proofs.SlabLemmas.{ContainsKey-within}
use Rattle.object_tables.specs.Next.{next_number_after}
use Rattle.object_tables.specs.Places.{ArePlaced, rows_by}

some-row : {T : Type 0} (row : Option T) → IsSome row → (some : T) × (row ≡ Some some)
some-row None is = absurd (false≢true is)
some-row (Some row) is = (row, refl)

pair-is : (p : ℕ × ℕ) (a b : ℕ) → p.0 ≡ a → p.1 ≡ b → p ≡ (a, b)
pair-is (x, y) a b first second = rw (first, second) refl

-- the keys of the other places are others
keys-differ : (places : List (ℕ × ℕ)) (i : ℕ) (e : ℕ × ℕ) → AllPairs (λ a b. a.1 ≢ b.1) places → i < length places → All (λ place. place.1 ≢ (get_or places i e).1) (remove places i)
keys-differ [] i e differ within k d below same = absurd (omega arith)
keys-differ (p ∷ places) zero e differ within k d below same =
    differ 0 (suc k) d (omega arith) (omega arith) (sym same)
keys-differ (p ∷ places) (suc i) e differ within zero d below same =
    differ 0 (suc i) e (omega arith) (omega arith) same
keys-differ (p ∷ places) (suc i) e differ within (suc k) d below same =
    keys-differ places i e (λ a b d less inside. differ (suc a) (suc b) d (omega arith) (omega arith)) (omega arith) k d (omega arith) same

module _ {T : Type 0} where
  -- a row is found under each key
  abbrev AreThere : (ℕ → Option T) → List (ℕ × ℕ) → Type 0
  AreThere found places = All (λ place. IsSome (found place.1)) places

  later-there : (found : ℕ → Option T) (p : ℕ × ℕ) (places : List (ℕ × ℕ)) → AreThere found (p ∷ places) → AreThere found places
  later-there found p places there k d within = there (suc k) d (omega arith)

  module _ (found : ℕ → Option T) where
    pub rows-length : (places : List (ℕ × ℕ)) → AreThere found places → length (rows_by found places) ≡ length places
    rows-length [] there = refl
    rows-length (p ∷ places) there =
        let here = some-row (found p.1) (there 0 p (omega arith)) in
        let rest = rows-length places (later-there found p places there) in
        rw here.1 (ap suc rest)

    number-at : (places : List (ℕ × ℕ)) → AreThere found places → (i : ℕ) (d : ℕ × T) (e : ℕ × ℕ) → i < length places → (get_or (rows_by found places) i d).0 ≡ (get_or places i e).0
    number-at [] there i d e within = absurd (omega arith)
    number-at (p ∷ places) there zero d e within =
        let here = some-row (found p.1) (there 0 p (omega arith)) in
        rw here.1 refl
    number-at (p ∷ places) there (suc i) d e within =
        let here = some-row (found p.1) (there 0 p (omega arith)) in
        rw here.1 (number-at places (later-there found p places there) i d e (omega arith))

    -- the row at a place is the one under its key
    row-at : (places : List (ℕ × ℕ)) → AreThere found places → (i : ℕ) (d : ℕ × T) (e : ℕ × ℕ) → i < length places → Some (get_or (rows_by found places) i d).1 ≡ found (get_or places i e).1
    row-at [] there i d e within = absurd (omega arith)
    row-at (p ∷ places) there zero d e within =
        let here = some-row (found p.1) (there 0 p (omega arith)) in
        rw here.1 refl
    row-at (p ∷ places) there (suc i) d e within =
        let here = some-row (found p.1) (there 0 p (omega arith)) in
        rw here.1 (row-at places (later-there found p places there) i d e (omega arith))

    -- the entry at a place is the row under its key, with its number
    pub entry-here : (places : List (ℕ × ℕ)) → AreThere found places → (i : ℕ) (e : ℕ × ℕ) (row : T) → i < length places → found (get_or places i e).1 ≡ Some row
        → slice_get (rows_by found places) i ≡ Some ((get_or places i e).0, row)
    entry-here [] there i e row within under = absurd (omega arith)
    entry-here (p ∷ places) there zero e row within under = rw under refl
    entry-here (p ∷ places) there (suc i) e row within under =
        let here = some-row (found p.1) (there 0 p (omega arith)) in
        rw here.1 (entry-here places (later-there found p places there) i e row (omega arith) under)

    pub entry-past : (places : List (ℕ × ℕ)) → AreThere found places → (i : ℕ) → length places ≤ i → slice_get (rows_by found places) i ≡ None
    entry-past places there i past = slice_get_past (rows_by found places) i (omega (arith, rows-length places there))

    -- the rows have the numbers
    pub rows-numbered : (places : List (ℕ × ℕ)) (last : ℕ) → ArePlaced found places last → IsNumbered (rows_by found places) last
    rows-numbered places last placed =
        let same = rows-length places placed.there in
        record {
          rising = λ i j d below within.
              (let e : ℕ × ℕ = (d.0, 0) in
              rw (number-at places placed.there i d e (omega arith), number-at places placed.there j d e (omega arith)) (placed.numbered.rising i j e below (omega arith)));
          given = λ k d within.
              (let e : ℕ × ℕ = (d.0, 0) in
              rw (number-at places placed.there k d e (omega arith)) (placed.numbered.given k e (omega arith)));
        }

    first-same : (places : List (ℕ × ℕ)) → AreThere found places → (id : ℕ) → position_or_len (λ e. e.0 == id) (rows_by found places) ≡ position_or_len (λ e. e.0 == id) places
    first-same [] there id = refl
    first-same (p ∷ places) there id =
        let here = some-row (found p.1) (there 0 p (omega arith)) in
        let rest = first-same places (later-there found p places there) id in
        elim (cases_Bool (p.0 == id)) [
          | inl same ↦ rw (here.1, same) refl
          | inr other ↦ rw (here.1, other) (ap (λ n. 1 + n) rest)
        ]

    -- a number has the same place in both
    pub place-same : (places : List (ℕ × ℕ)) → AreThere found places → (id : ℕ) → position (λ e. e.0 == id) (rows_by found places) ≡ position (λ e. e.0 == id) places
    place-same places there id = rw (first-same places there id, rows-length places there) refl

    -- the row of a number is the one under its key
    pub row-placed : (places : List (ℕ × ℕ)) (last id i : ℕ) (e : ℕ × ℕ) → ArePlaced found places last → position (λ e. e.0 == id) places ≡ Some i → row_of (rows_by found places) id ≡ found (get_or places i e).1
    row-placed places last id i e placed at =
        let is = IsAt-position places id i e at in
        let some = some-row (found (get_or places i e).1) (placed.there i e is.within) in
        let d : ℕ × T = (e.0, some.0) in
        let same = rows-length places placed.there in
        row_of-at (rows_by found places) i d id (rows-numbered places last placed).rising (omega (arith, is.within)) (number-at places placed.there i d e is.within ∙ is.here e)
        ∙ row-at places placed.there i d e is.within

    pub key-there : (places : List (ℕ × ℕ)) (last id i : ℕ) (e : ℕ × ℕ) → ArePlaced found places last → position (λ e. e.0 == id) places ≡ Some i → IsSome (found (get_or places i e).1)
    key-there places last id i e placed at = placed.there i e (IsAt-position places id i e at).within

    pub row-missing : (places : List (ℕ × ℕ)) (last id : ℕ) → ArePlaced found places last → position (λ e. e.0 == id) places ≡ None → row_of (rows_by found places) id ≡ None
    row-missing places last id placed none = row_of-none (rows_by found places) id (place-same places placed.there id ∙ none)

    pub rows-missing : (places : List (ℕ × ℕ)) (last id : ℕ) → ArePlaced found places last → position (λ e. e.0 == id) places ≡ None → without_row (rows_by found places) id ≡ rows_by found places
    rows-missing places last id placed none = without_row-none (rows_by found places) id (place-same places placed.there id ∙ none)

    pub after-same : (places : List (ℕ × ℕ)) → AreThere found places → (after : ℕ) → next_number_after (rows_by found places) after ≡ next_number_after places after
    after-same [] there after = refl
    after-same (p ∷ places) there after =
        let here = some-row (found p.1) (there 0 p (omega arith)) in
        elim (cases_Bool (nat_lt after p.0)) [
          | inl more ↦ rw (here.1, more) refl
          | inr less ↦ rw (here.1, less) (after-same places (later-there found p places there) after)
        ]

    rows-remove : (places : List (ℕ × ℕ)) (i : ℕ) → AreThere found places → i < length places → rows_by found (remove places i) ≡ remove (rows_by found places) i
    rows-remove [] i there within = absurd (omega arith)
    rows-remove (p ∷ places) zero there within =
        let here = some-row (found p.1) (there 0 p (omega arith)) in
        rw here.1 refl
    rows-remove (p ∷ places) (suc i) there within =
        let here = some-row (found p.1) (there 0 p (omega arith)) in
        rw here.1 (ap (λ (rest : List (ℕ × T)). (p.0, here.0) ∷ rest) (rows-remove places i (later-there found p places there) (omega arith)))

  -- where the keys find the same, the rows are the same
  rows-same : (old new : ℕ → Option T) (places : List (ℕ × ℕ)) → All (λ place. new place.1 ≡ old place.1) places → rows_by new places ≡ rows_by old places
  rows-same old new [] same = refl
  rows-same old new (p ∷ places) same =
      let here : new p.1 ≡ old p.1 = same 0 p (omega arith) in
      let rest : rows_by new places ≡ rows_by old places = rows-same old new places (λ k d within. same (suc k) d (omega arith)) in
      rw (here, rest) refl

  -- ---- a row comes

  module _ (old new : ℕ → Option T) (places : List (ℕ × ℕ)) (last key : ℕ) (row : T) (placed : ArePlaced old places last) (vacant : old key ≡ None) (put : new key ≡ Some row)
      (others : (other : ℕ) → other ≢ key → new other ≡ old other) where
    others-differ : All (λ place. place.1 ≢ key) places
    others-differ k d within same =
        let is : is_some (old (get_or places k d).1) ≡ true = placed.there k d within in
        let none : is_some (old (get_or places k d).1) ≡ false = ap (λ at. is_some (old at)) same ∙ ap is_some vacant in
        false≢true (sym none ∙ is)

    pub rows-added : rows_by new (places ++ (last + 1, key) ∷ []) ≡ rows_by old places ++ (last + 1, row) ∷ []
    rows-added =
        filter_map-append (λ (place : ℕ × ℕ). option_map (λ (r : T). (place.0, r)) (new place.1)) places ((last + 1, key) ∷ [])
        ∙ rw put (ap (λ (front : List (ℕ × T)). front ++ (last + 1, row) ∷ []) (rows-same old new places (λ k d within. others _ (others-differ k d within))))

    pub placed-added : ArePlaced new (places ++ (last + 1, key) ∷ []) (last + 1)
    placed-added = record {
      numbered = record {
        rising = all_pairs_push (λ a b. a.0 < b.0) places (last + 1, key) placed.numbered.rising (λ k d within. let bound = placed.numbered.given k d within in omega arith);
        given = All-push (λ place. place.0 ≤ last + 1) places (last + 1, key) (λ k d within. let bound = placed.numbered.given k d within in omega arith) (omega arith);
      };
      there = All-push (λ place. IsSome (new place.1)) places (last + 1, key) (λ k d within. rw (others _ (others-differ k d within)) (placed.there k d within)) (rw put refl);
      differ = all_pairs_push (λ (a b : ℕ × ℕ). a.1 ≢ b.1) places (last + 1, key) placed.differ others-differ;
    }

  -- ---- a row goes

  module _ (old new : ℕ → Option T) (places : List (ℕ × ℕ)) (last id i : ℕ) (e : ℕ × ℕ) (placed : ArePlaced old places last) (at : position (λ p. p.0 == id) places ≡ Some i)
      (others : (other : ℕ) → other ≢ (get_or places i e).1 → new other ≡ old other) where
    same-others : All (λ place. new place.1 ≡ old place.1) (remove places i)
    same-others k d within = others _ (keys-differ places i e placed.differ (IsAt-position places id i e at).within k d within)

    rest-there : AreThere old (remove places i)
    rest-there =
        let is = IsAt-position places id i e at in
        rw (remove-at places i e id placed.numbered.rising is.within (is.here e)) (All-filter (λ (p : ℕ × ℕ). not (p.0 == id)) (λ p. IsSome (old p.1)) places placed.there)

    pub placed-removed : ArePlaced new (remove places i) last
    placed-removed =
        let is = IsAt-position places id i e at in
        record {
          numbered = IsNumbered-remove places last id i e placed.numbered at;
          there = λ k d within. rw (same-others k d within) (rest-there k d within);
          differ = rw (remove-at places i e id placed.numbered.rising is.within (is.here e)) (AllPairs-filter (λ (a b : ℕ × ℕ). a.1 ≢ b.1) (λ (p : ℕ × ℕ). not (p.0 == id)) places placed.differ);
        }

    pub rows-removed : rows_by new (remove places i) ≡ without_row (rows_by old places) id
    rows-removed =
        let is = IsAt-position places id i e at in
        let some = some-row (old (get_or places i e).1) (placed.there i e is.within) in
        let d : ℕ × T = (e.0, some.0) in
        let same = rows-length old places placed.there in
        rows-same old new (remove places i) same-others
        ∙ rows-remove old places i placed.there is.within
        ∙ remove-at (rows_by old places) i d id (rows-numbered old places last placed).rising (omega (arith, is.within)) (number-at old places placed.there i d e is.within ∙ is.here e)

  -- ---- a row changes

  module _ (old new : ℕ → Option T) (key id : ℕ) (row : T) (put : new key ≡ Some row) (others : (other : ℕ) → other ≢ key → new other ≡ old other) where
    rows-set : (places : List (ℕ × ℕ)) (i : ℕ) (e : ℕ × ℕ) → AreThere old places → AllPairs (λ a b. a.1 ≢ b.1) places → i < length places → get_or places i e ≡ (id, key)
        → rows_by new places ≡ set (rows_by old places) i (id, row)
    rows-set [] i e there differ within at = absurd (omega arith)
    rows-set (p ∷ places) zero e there differ within at =
        let here = some-row (old p.1) (there 0 p (omega arith)) in
        let same : p.1 ≡ key = ap (λ (x : ℕ × ℕ). x.1) at in
        let number : p.0 ≡ id = ap (λ (x : ℕ × ℕ). x.0) at in
        let now : new p.1 ≡ Some row = ap new same ∙ put in
        let rest = rows-same old new places (λ k d below. others _ (λ (equal : (get_or places k d).1 ≡ key). differ 0 (suc k) d (omega arith) (omega arith) (same ∙ sym equal))) in
        rw (here.1, now, rest, number) refl
    rows-set (p ∷ places) (suc i) e there differ within at =
        let here = some-row (old p.1) (there 0 p (omega arith)) in
        let apart : p.1 ≢ key = λ equal. differ 0 (suc i) e (omega arith) (omega arith) (equal ∙ sym (ap (λ (x : ℕ × ℕ). x.1) at)) in
        let now : new p.1 ≡ Some here.0 = others p.1 apart ∙ here.1 in
        rw (here.1, now) (ap (λ (rest : List (ℕ × T)). (p.0, here.0) ∷ rest)
        (rows-set places i e (later-there old p places there) (λ a b d less inside. differ (suc a) (suc b) d (omega arith) (omega arith)) (omega arith) at))

    pub rows-changed : (places : List (ℕ × ℕ)) (last i : ℕ) (e : ℕ × ℕ) → ArePlaced old places last → position (λ p. p.0 == id) places ≡ Some i → (get_or places i e).1 ≡ key
        → rows_by new places ≡ with_row_changed (λ _. row) (rows_by old places) id
    rows-changed places last i e placed at under =
        let is = IsAt-position places id i e at in
        let some = some-row (old (get_or places i e).1) (placed.there i e is.within) in
        let d : ℕ × T = (e.0, some.0) in
        let same = rows-length old places placed.there in
        let both : get_or places i e ≡ (id, key) = pair-is (get_or places i e) id key (is.here e) under in
        rows-set places i e placed.there placed.differ is.within both
        ∙ set-at (rows_by old places) i d id (λ _. row) (rows-numbered old places last placed).rising (omega (arith, is.within)) (number-at old places placed.there i d e is.within ∙ is.here e)

    pub placed-changed : (places : List (ℕ × ℕ)) (last : ℕ) → ArePlaced old places last → ArePlaced new places last
    placed-changed places last placed = record {
      numbered = placed.numbered;
      there = λ k d within. elim (cases_eq (get_or places k d).1 key) [
        | inl same ↦ (let now : new (get_or places k d).1 ≡ Some row = ap new same ∙ put in rw now refl)
        | inr differs ↦ rw (others _ differs) (placed.there k d within)
      ];
      differ = placed.differ;
    }

  -- a slab has as many rows with another one under a key
  pub len-changed : (s : Slab T) (key : ℕ) (row : T) → ContainsKey s key → slab_len (with_value s key row) ≡ slab_len s
  len-changed s key row there =
      let within = ContainsKey-within s key there in
      let one = sum_by-set (λ (o : Option T). cond (is_some o) 1 0) s.slots key (Some row) None within in
      let was : is_some (get_or s.slots key None) ≡ true = there in
      let counted = rw was at one in
      omega arith
