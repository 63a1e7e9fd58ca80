-- The row of a number in a list of rows: its place, and another row put there.
use Rattle.std.proofs.Common.{◌≡◌, ℕ, true, false, List, [], ◌∷◌, length, ◌++◌, get_or, refl, ap, ◌∙◌, take, drop, inl, inr, Some, None}
use Rattle.std.specs.List.{insert}
use Rattle.std.specs.Prelude.{◌==◌}
use Rattle.std.proofs.lemmas.Bool.{cases_Bool, eqb-true}
use Rattle.std.proofs.Math.ListN.{set}
use Rattle.std.proofs.Math.Seq.{take-append_seam}
use Rattle.fsa_types.specs.Places.{IsAt, StandsAt}
use Rattle.fsa_types.specs.Rows.{row_of, lives, without_row}
use Rattle.fsa_types.proofs.RowLemmas.{AreRising, row_of-at}
use Rattle.fsa_types.proofs.PlaceLemmas.{AreRising-set, row_of-set_own, row_of-set_other, row_of-insert_own, row_of-insert_other}

-- one number has this row, and the others theirs
pub record IsPut {T : Type 0} (old new : List (ℕ × T)) (id : ℕ) (row : T) : Type 0 where
  pub here : row_of new id ≡ Some row
  pub others : (other : ℕ) → (other == id) ≡ false → row_of new other ≡ row_of old other

-- rows that are put behind others leave those as they are
pub row_of-append : {T : Type 0} (rows more : List (ℕ × T)) (id : ℕ) → lives rows id ≡ true → row_of (rows ++ more) id ≡ row_of rows id
row_of-append [] more id living = (let impossible : false ≡ true = living in cc)
row_of-append (entry ∷ rows) more id living =
    elim (cases_Bool (entry.0 == id)) [
      | inl here ↦ rw here refl
      | inr other ↦ rw other (row_of-append rows more id (rw other at living))
    ]

-- without one row the others stay
pub row_of-without : {T : Type 0} (rows : List (ℕ × T)) (id other : ℕ) → (other == id) ≡ false → row_of (without_row rows id) other ≡ row_of rows other
row_of-without [] id other differ = refl
row_of-without (entry ∷ rows) id other differ =
    elim (cases_Bool (entry.0 == other)) [
      | inl here ↦ (let is : entry.0 ≡ other = eqb-true _ _ here in let kept : (entry.0 == id) ≡ false = ap (λ i. i == id) is ∙ differ in rw (kept, here) refl)
      | inr on ↦ elim (cases_Bool (entry.0 == id)) [
        | inl gone ↦ rw (gone, on) (row_of-without rows id other differ)
        | inr kept ↦ rw (kept, on) (row_of-without rows id other differ)
      ]
    ]

-- a number that doesn't live has no row
pub row_of-gone : {T : Type 0} (rows : List (ℕ × T)) (id : ℕ) → lives rows id ≡ false → row_of rows id ≡ None
row_of-gone [] id gone = refl
row_of-gone (entry ∷ rows) id gone =
    elim (cases_Bool (entry.0 == id)) [
      | inl here ↦ (let impossible : true ≡ false = rw here at gone in cc)
      | inr other ↦ rw other (row_of-gone rows id (rw other at gone))
    ]

-- ---- where the numbers rise

-- the row of a number is what stands at its place
pub row-at : {T : Type 0} (rows : List (ℕ × T)) (id i : ℕ) (d : ℕ × T) → AreRising rows → IsAt rows id i → row_of rows id ≡ Some (get_or rows i d).1
row-at rows id i d rising at = row_of-at rows i d id rising at.within (at.here d)

-- another row there
pub put-at : {T : Type 0} (rows : List (ℕ × T)) (id i : ℕ) (d : ℕ × T) (row : T) → AreRising rows → IsAt rows id i → IsPut rows (set rows i ((get_or rows i d).0, row)) id row
put-at rows id i d row rising at = rw (at.here d) (record {
  here = row_of-set_own rows id i row rising at;
  others = λ other differ. row_of-set_other rows id i row other at differ;
})

pub rising-at : {T : Type 0} (rows : List (ℕ × T)) (id i : ℕ) (d : ℕ × T) (row : T) → AreRising rows → IsAt rows id i → AreRising (set rows i ((get_or rows i d).0, row))
rising-at rows id i d row rising at = rw (at.here d) (AreRising-set rows id i row rising at)

-- a row of a number that had none, put in where it stands
pub put-insert : {T : Type 0} (rows : List (ℕ × T)) (id i : ℕ) (row : T) → StandsAt rows id i → IsPut rows (insert rows i (id, row)) id row
put-insert rows id i row at = record {
  here = row_of-insert_own rows id i row at;
  others = λ other differ. row_of-insert_other rows id i row other at differ;
}

-- what stands in the place of rows of which there are as many
pub rising-seam : {T : Type 0} (n : ℕ) (new old : List (ℕ × T)) → n ≡ length new → AreRising new → AreRising (take n (new ++ drop (length new) old))
rising-seam {T} n new old as_many rising = rw (as_many, take-append_seam new (drop (length new) old)) rising
