-- What is left of the opens where one of them is taken out.
use Rattle.std.proofs.Common.{◌≡◌, ℕ, ◌<◌, ◌==◌, ◌∙◌, sym, refl, ap, Bool, true, false, List, [], ◌∷◌, arith, length, Contains, IsPermutation, get_or, eq-eqb, ◌||◌, zero, suc, inl, inr}
use Rattle.std.proofs.lemmas.Bool.{cases_Bool, cond-true, cond-false, and_parts, eqb-true}
use Rattle.std.proofs.lemmas.List.Sorted.{IsPermutation-refl, IsPermutation-cons, IsPermutation-trans, IsPermutation-middle}
use Rattle.std.specs.List.{list_any}
use Rattle.tallies.specs.Held.{is_like, without_open}

-- opens with the same masks are the same
like-same : (one other : ℕ × ℕ) → is_like one other ≡ true → other ≡ one
like-same one other like =
    let parts : ((other.0 == one.0) ≡ true) × ((other.1 == one.1) ≡ true) = and_parts _ _ like in
    (λ i. (eqb-true other.0 one.0 parts.0 i, eqb-true other.1 one.1 parts.1 i))

-- an open is like itself
same-like : (one : ℕ × ℕ) → is_like one one ≡ true
same-like one = rw (eq-eqb one.0 one.0 refl, eq-eqb one.1 one.1 refl) refl

or_true : (b : Bool) → (b || true) ≡ true
or_true true = refl
or_true false = refl

-- some open is like one that is held
any-held : (held : List (ℕ × ℕ)) (place : ℕ) (one : ℕ × ℕ) → place < length held → get_or held place one ≡ one → list_any (is_like one) held ≡ true
any-held [] place one below there = absurd (omega arith)
any-held (first ∷ held) zero one below there = rw (there, same-like one) refl
any-held (first ∷ held) (suc place) one below there =
    ap (λ b. is_like one first || b) (any-held held place one (omega arith) there) ∙ or_true (is_like one first)

-- an open that is held, and the others
others : (held : List (ℕ × ℕ)) (one : ℕ × ℕ) → list_any (is_like one) held ≡ true → IsPermutation held (one ∷ without_open held one)
others [] one there = absurd (let no : false ≡ true = there in cc)
others (first ∷ held) one there = elim (cases_Bool (is_like one first)) [
  | inl like ↦
      let gone : without_open (first ∷ held) one ≡ held = cond-true _ _ _ like in
      rw (gone, like-same one first like) (IsPermutation-refl (one ∷ held))
  | inr unlike ↦
      let stays : without_open (first ∷ held) one ≡ first ∷ without_open held one = cond-false _ _ _ unlike in
      let later : list_any (is_like one) held ≡ true = sym (ap (λ b. b || list_any (is_like one) held) unlike) ∙ there in
      rw stays (IsPermutation-trans (first ∷ held) (first ∷ one ∷ without_open held one) (one ∷ first ∷ without_open held one)
      (IsPermutation-cons first held (one ∷ without_open held one) (others held one later))
      (IsPermutation-middle (first ∷ []) one (without_open held one)))
]

pub IsPermutation-without_open : (held : List (ℕ × ℕ)) (one : ℕ × ℕ) → Contains held one → IsPermutation held (one ∷ without_open held one)
IsPermutation-without_open held one there = others held one (any-held held there.0 one there.1 there.2)
