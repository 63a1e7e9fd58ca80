-- The first link of a file, by its number.
use Rattle.std.proofs.Common.{◌≡◌, ℕ, Bool, List, Option, Some, None, [], ◌∷◌, refl, get_or, inl, inr}
use Rattle.std.specs.List.{find, list_any}
use Rattle.std.specs.Option.{is_some}
use Rattle.std.specs.Prelude.{option_map}
use Rattle.std.proofs.lemmas.Bool.{cases_Bool}
use Rattle.fsa_types.specs.Rows.{IsNumbered, row_of}
use Rattle.fsa_types.proofs.RowLemmas.{row_of-at}
use Rattle.fsa_model.proofs.RowLaws.{find-all}

pub found-any : {R : Type 0} (p : ℕ × R → Bool) (rows : List (ℕ × R)) → is_some (option_map (λ (row : ℕ × R). row.0) (find p rows)) ≡ list_any p rows
found-any p [] = refl
found-any p (x ∷ rows) = elim (cases_Bool (p x)) [
  | inl passes ↦ rw passes refl
  | inr fails ↦ rw fails (found-any p rows)
]

row-at : {R : Type 0} (rows : List (ℕ × R)) (found : Option (ℕ × R)) (id : ℕ) → Some id ≡ option_map (λ (row : ℕ × R). row.0) found
    → ((e : ℕ × R) → found ≡ Some e → row_of rows e.0 ≡ Some e.1) → row_of rows id ≡ option_map (λ (row : ℕ × R). row.1) found
row-at rows None id is there = cc
row-at rows (Some e) id is there = let same : id ≡ e.0 = cc in rw same (there e refl)

-- the row of the number of the first one that passes is the first one that passes
pub row-found : {R : Type 0} (p : ℕ × R → Bool) (rows : List (ℕ × R)) (last id : ℕ) → IsNumbered rows last → Some id ≡ option_map (λ (row : ℕ × R). row.0) (find p rows)
    → row_of rows id ≡ option_map (λ (row : ℕ × R). row.1) (find p rows)
row-found p rows last id numbered is =
    row-at rows (find p rows) id is (λ e found. find-all (λ row. row_of rows row.0 ≡ Some row.1) p rows e found (λ i d within. row_of-at rows i d (get_or rows i d).0 numbered.rising within refl))
