-- Paths: what is noted of a link is as long as its name and what stands above it, and a link more
-- leaves what stands above.
use Rattle.std.proofs.Common.{◌≡◌, ℕ, zero, suc, ◌+◌, ◌-◌, ◌≤◌, true, false, List, ◌∷◌, ◌++◌, length, refl, ap, ◌∙◌, arith, inl, inr, Some, None, length-append}
use Rattle.std.specs.Prelude.{◌==◌}
use Rattle.std.proofs.lemmas.Bool.{cases_Bool, eqb-true}
use Rattle.std.proofs.lemmas.List.Folds.{find-append}
use Rattle.fsa_model.specs.Changes.{ancestors, path_units}
use Rattle.fsa_model.specs.Lookups.{link_of_file, leads_to}
use Rattle.fsa_model.specs.Volume.{Link}
use Rattle.fsa_model.proofs.RowLaws.{option_cases}
use Rattle.volume_state.specs.Paths.{units_above, dirs_above}

-- how long what is noted of a name is
pub path_units-ancestors : (most : ℕ) (links : List (ℕ × Link)) (dir : ℕ) (name : List ℕ)
    → path_units (ancestors (suc most) links dir name) ≡ length name + units_above most links dir
path_units-ancestors zero links dir name =
    elim (option_cases (link_of_file links dir)) [ inl none ↦ rw none (grind arith) | inr some ↦ rw some.1 (grind arith) ]
path_units-ancestors (suc most) links dir name =
    elim (option_cases (link_of_file links dir)) [
      | inl none ↦ rw none (grind arith)
      | inr some ↦ (let up = path_units-ancestors most links some.0.1.parent (some.0.1.name ++ 92 ∷ name) in
          let long : length (some.0.1.name ++ 92 ∷ name) ≡ length some.0.1.name + 1 + length name = omega (arith, length-append some.0.1.name (92 ∷ name)) in
          rw (some.1, up, long) (grind arith))
    ]

-- from how many directories it is seen
pub length-ancestors : (most : ℕ) (links : List (ℕ × Link)) (dir : ℕ) (name : List ℕ)
    → length (ancestors (suc most) links dir name) ≡ 1 + dirs_above most links dir
length-ancestors zero links dir name =
    elim (option_cases (link_of_file links dir)) [ inl none ↦ rw none refl | inr some ↦ rw some.1 refl ]
length-ancestors (suc most) links dir name =
    elim (option_cases (link_of_file links dir)) [
      | inl none ↦ rw none refl
      | inr some ↦ (let up = length-ancestors most links some.0.1.parent (some.0.1.name ++ 92 ∷ name) in rw (some.1, up) (omega arith))
    ]

-- with more links, and with more steps than lead up to the root, the ancestors are the same
ancestors-root : (i j : ℕ) (links more : List (ℕ × Link)) (dir : ℕ) (name : List ℕ) → link_of_file links 1 ≡ None → link_of_file (links ++ more) 1 ≡ None
    → (dir == 1) ≡ true → ancestors (suc i) (links ++ more) dir name ≡ ancestors (suc j) links dir name
ancestors-root i j links more dir name old new here =
    let root : dir ≡ 1 = eqb-true _ _ here in
    let none : link_of_file links dir ≡ None = ap (λ d. link_of_file links d) root ∙ old in
    let none_more : link_of_file (links ++ more) dir ≡ None = ap (λ d. link_of_file (links ++ more) d) root ∙ new in
    rw (none, none_more) refl

pub ancestors-push : (steps i j : ℕ) (links more : List (ℕ × Link)) (dir : ℕ) (name : List ℕ) → link_of_file links 1 ≡ None → link_of_file (links ++ more) 1 ≡ None
    → steps ≤ i → steps ≤ j → leads_to steps links 1 dir ≡ true → ancestors (suc i) (links ++ more) dir name ≡ ancestors (suc j) links dir name
ancestors-push zero i j links more dir name old new below_i below_j leads = ancestors-root i j links more dir name old new leads
ancestors-push (suc steps) i j links more dir name old new below_i below_j leads =
    elim (cases_Bool (dir == 1)) [
      | inl here ↦ ancestors-root i j links more dir name old new here
      | inr on ↦ elim (option_cases (link_of_file links dir)) [
        | inl none ↦ (let impossible : false ≡ true = rw (on, none) at leads in cc)
        | inr some ↦ (let next : leads_to steps links 1 some.0.1.parent ≡ true = rw (on, some.1) at leads in
            let found : link_of_file (links ++ more) dir ≡ Some some.0 = rw (find-append (λ (e : ℕ × Link). e.1.file == dir) links more, some.1) refl in
            let i_is : i ≡ suc (i - 1) = omega arith in
            let j_is : j ≡ suc (j - 1) = omega arith in
            let up = ancestors-push steps (i - 1) (j - 1) links more some.0.1.parent (some.0.1.name ++ 92 ∷ name) old new (omega arith) (omega arith) next in
            rw (found, some.1, i_is, j_is, up) refl)
      ]
    ]
