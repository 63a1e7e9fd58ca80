-- The walk up from a directory that a note takes, and the paths that it writes.
use Rattle.std.proofs.Common.{◌≡◌, ℕ, ◌+◌, ◌-◌, ◌≤◌, List, [], ◌∷◌, ◌++◌, length, refl, ap, sym, ◌∙◌, arith, add-one, inl, inr, Some, None, length-append}
use Rattle.std.specs.Prelude.{option_map, reverse}
use Rattle.std.proofs.lemmas.List.{reverse-append, reverse-reverse, length-reverse}
use Rattle.fsa_model.specs.Changes.{ancestors, path_units}
use Rattle.fsa_model.specs.Lookups.{link_of_file}
use Rattle.fsa_model.specs.Volume.{Link}
use Rattle.fsa_model.proofs.RowLaws.{option_cases}

-- the names by which an ancestor sees something are no shorter than its own
pub path_units-own : (most : ℕ) (links : List (ℕ × Link)) (dir : ℕ) (name : List ℕ) → length name ≤ path_units (ancestors (most + 1) links dir name)
path_units-own most links dir name = rw (add-one most) (omega arith)

-- what the walk up has noted, where it ends: at the last link, or at a directory without one
pub ancestors-last : (links : List (ℕ × Link)) (dir : ℕ) (name : List ℕ) → ancestors (0 + 1) links dir name ≡ (dir, name) ∷ []
ancestors-last links dir name = elim (option_cases (link_of_file links dir)) [ inl none ↦ rw none refl | inr some ↦ rw some.1 refl ]

pub ancestors-root : (most : ℕ) (links : List (ℕ × Link)) (dir : ℕ) (name : List ℕ) → link_of_file links dir ≡ None → ancestors (most + 1) links dir name ≡ (dir, name) ∷ []
ancestors-root most links dir name none = rw (add-one most, none) refl

-- and where it goes on
pub ancestors-up : (most : ℕ) (links : List (ℕ × Link)) (dir : ℕ) (name : List ℕ) (link : Link) → option_map (λ (entry : ℕ × Link). entry.1) (link_of_file links dir) ≡ Some link
    → ancestors (most + 1) links dir name ≡ (dir, name) ∷ ancestors most links link.parent (link.name ++ 92 ∷ name)
ancestors-up most links dir name link found = elim (option_cases (link_of_file links dir)) [
  | inl none ↦ (let impossible : None ≡ Some link = rw none at found in cc)
  | inr some ↦ (let is : Some some.0.1 ≡ Some link = rw some.1 at found in let same : some.0.1 ≡ link = cc in rw (add-one most, some.1, same) refl)
]

-- a path written from its last unit to its first
pub reverse-up : (path name : List ℕ) → reverse ((path ++ 92 ∷ []) ++ reverse name) ≡ name ++ 92 ∷ reverse path
reverse-up path name = rw (reverse-append (path ++ 92 ∷ []) (reverse name), reverse-reverse name, reverse-append path (92 ∷ [])) refl

-- one step up, with the path written on
pub walk-up : (more : ℕ) (links : List (ℕ × Link)) (dir : ℕ) (path : List ℕ) (link : Link) → (more ≡ 0 → ⊥)
    → option_map (λ (entry : ℕ × Link). entry.1) (link_of_file links dir) ≡ Some link
    → ancestors (more + 1) links dir (reverse path) ≡ (dir, reverse path) ∷ ancestors (more - 1 + 1) links link.parent (reverse ((path ++ 92 ∷ []) ++ reverse link.name))
walk-up more links dir path link some found =
    let same : more ≡ more - 1 + 1 = omega arith in
    ancestors-up more links dir (reverse path) link found
    ∙ ap (λ n. (dir, reverse path) ∷ ancestors n links link.parent (link.name ++ 92 ∷ reverse path)) same
    ∙ ap (λ (name : List ℕ). (dir, reverse path) ∷ ancestors (more - 1 + 1) links link.parent name) (sym (reverse-up path link.name))

-- the path written on is no longer than what is noted further up
pub path_units-up : (more : ℕ) (links : List (ℕ × Link)) (parent : ℕ) (path name : List ℕ)
    → length path + 1 + length name ≤ path_units (ancestors (more + 1) links parent (reverse ((path ++ 92 ∷ []) ++ reverse name)))
path_units-up more links parent path name =
    let own = path_units-own more links parent (reverse ((path ++ 92 ∷ []) ++ reverse name)) in
    let long : length (reverse ((path ++ 92 ∷ []) ++ reverse name)) ≡ length path + 1 + length name
    = length-reverse ((path ++ 92 ∷ []) ++ reverse name) ∙ omega (arith, length-append (path ++ 92 ∷ []) (reverse name), length-append path (92 ∷ []), length-reverse name) in
    omega arith
