-- A file's row says whether there is a directory of its number.
use Rattle.std.proofs.Common.{◌≡◌, ℕ, ◌<◌, Bool, false, List, [], ◌∷◌, refl, arith, inl, inr, get_or}
use Rattle.std.specs.Prelude.{◌==◌, ◌&&◌}
use Rattle.std.specs.List.{list_any}
use Rattle.std.specs.Option.{option_map_or}
use Rattle.std.proofs.lemmas.Bool.{cases_Bool, ne_eqb, eqb-true}
use Rattle.std.proofs.lemmas.List.Folds.{list_any_none}
use Rattle.fsa_types.specs.Rows.{IsNumbered, row_of}
use Rattle.fsa_types.proofs.RowLemmas.{AreRising, AreRising-first, AreRising-rest}
use Rattle.fsa_model.specs.Lookups.{is_directory}
use Rattle.fsa_model.specs.Volume.{File}
use Rattle.fsa_model.proofs.RowLaws.{or-false}

is_directory-rising : (files : List (ℕ × File)) (id : ℕ) → AreRising files → is_directory files id ≡ option_map_or (λ file. file.directory) (row_of files id) false
is_directory-rising [] id rising = refl
is_directory-rising (x ∷ files) id rising = elim (cases_Bool (x.0 == id)) [
  | inl here ↦ (
      let test : ℕ × File → Bool = λ entry. entry.0 == id && entry.1.directory in
      let none : list_any test files ≡ false = list_any_none test files (λ k d within.
      let above : x.0 < (get_or files k d).0 = AreRising-first x files rising k d within in
      let same : x.0 ≡ id = eqb-true x.0 id here in
      let other : ((get_or files k d).0 == id) ≡ false = ne_eqb (get_or files k d).0 id (λ e. absurd (omega arith)) in
      rw other refl) in
      rw (here, none) (or-false x.1.directory))
  | inr other ↦ rw other (is_directory-rising files id (AreRising-rest x files rising))
]

pub is_directory-row : (files : List (ℕ × File)) (last id : ℕ) → IsNumbered files last → is_directory files id ≡ option_map_or (λ file. file.directory) (row_of files id) false
is_directory-row files last id numbered = is_directory-rising files id numbered.rising
