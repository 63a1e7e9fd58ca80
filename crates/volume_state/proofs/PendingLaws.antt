-- What is true of an entry that is found by a test of its number too, and where none is found.
use Rattle.std.proofs.Common.{◌≡◌, ℕ, Bool, true, false, List, Option, Some, None, refl, inl, inr}
use Rattle.std.specs.Borrow.{Bor}
use Rattle.std.specs.List.{All, find, list_any}
use Rattle.std.specs.Option.{option_copied}
use Rattle.std.specs.Prelude.{◌==◌, ◌&&◌, option_map, IfSome, IfNone, IsSome}
use Rattle.std.proofs.lemmas.Bool.{and_from, eq-eqb}
use Rattle.fsa_types.specs.Rows.{row_of, lives}
use Rattle.fsa_model.proofs.RowLaws.{find-any, find-none, lives-found, none-all, option_cases}
use Rattle.volume_state.proofs.OpenLaws.{find-passes}

-- a number that is found lives
pub entry-lives : {R : Type 0} (test : ℕ × R → Bool) (rows : List (ℕ × R)) → IfSome (option_map (λ entry. entry.0) (find test rows)) (λ id. lives rows id ≡ true)
entry-lives {R} test rows =
    elim (option_cases (find test rows)) [
      | inl none ↦ rw none tt
      | inr some ↦ rw some.1 (find-any test (λ (entry : ℕ × R). entry.0 == some.0.0) rows some.0 some.1 (eq-eqb some.0.0 some.0.0 refl))
    ]

-- an entry that passes another test too stands under a number that is found
pub entry-there : {R : Type 0} (test other : ℕ × R → Bool) (rows : List (ℕ × R)) → ((entry : ℕ × R) → test entry ≡ true → other entry ≡ true)
    → IfSome (option_map (λ entry. entry.0) (find test rows)) (λ id. list_any (λ entry. entry.0 == id && other entry) rows ≡ true)
entry-there {R} test other rows also =
    elim (option_cases (find test rows)) [
      | inl none ↦ rw none tt
      | inr some ↦ rw some.1 (find-any test (λ (entry : ℕ × R). entry.0 == some.0.0 && other entry) rows some.0 some.1
          (and_from (some.0.0 == some.0.0) (other some.0) (eq-eqb some.0.0 some.0.0 refl) (also some.0 (find-passes test rows some.0 some.1))))
    ]

-- what each entry that passes says of its number is so of the one that is found
pub entry-passes : {R : Type 0} (test : ℕ × R → Bool) (rows : List (ℕ × R)) (P : ℕ → Type 0) → ((entry : ℕ × R) → test entry ≡ true → P entry.0)
    → IfSome (option_map (λ entry. entry.0) (find test rows)) P
entry-passes test rows P implies =
    elim (option_cases (find test rows)) [
      | inl none ↦ rw none tt
      | inr some ↦ rw some.1 (implies some.0 (find-passes test rows some.0 some.1))
    ]

-- what follows where no entry passes is so where no number is found
pub entry-unfound : {R : Type 0} (test : ℕ × R → Bool) (rows : List (ℕ × R)) (P : Type 0) → (All (λ entry. test entry ≡ false) rows → P) → IfNone (option_map (λ entry. entry.0) (find test rows)) P
entry-unfound test rows P follows =
    elim (option_cases (find test rows)) [
      | inl none ↦ rw none (follows (none-all test rows (find-none test rows none)))
      | inr some ↦ rw some.1 tt
    ]

-- what is true of a part of the item, where there is one
pub IfSome-map : {R S : Type 0} (P : S → Type 0) (part : R → S) (item : Option R) → IfSome item (λ row. P (part row)) → IfSome (option_map part item) P
IfSome-map P part None holds = holds
IfSome-map P part (Some row) holds = holds

-- a part of a row that lives is lent
pub lent-living : {R S : Type 0} (part : R → S) (rows : List (ℕ × R)) (id : ℕ) (lent : Option (Bor S)) → option_copied lent ≡ option_map part (row_of rows id) → lives rows id ≡ true → IsSome lent
lent-living part rows id (Some row) is living = refl
lent-living {R} {S} part rows id None is living =
    elim (option_cases (row_of rows id)) [
      | inl none ↦ absurd (lives-found rows id living none)
      | inr some ↦ (let impossible : None ≡ Some (part some.0) = rw some.1 at is in cc)
    ]
