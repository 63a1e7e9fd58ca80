-- How far back the last place stands that passes a test, and what is linked so.
use Rattle.std.proofs.Common.{◌≡◌, ℕ, zero, suc, Bool, true, false, ◌<◌, ◌≤◌, List, [], ◌∷◌, ◌++◌, length, get_or, refl, ap, sym, ◌∙◌, arith, inl, inr, get_or-set_same, get_or-set_other}
use Rattle.std.specs.Prelude.{◌==◌}
use Rattle.std.proofs.Math.ListN.{set, length-set}
use Rattle.std.proofs.lemmas.Bool.{cases_Bool, cases_eq, cases_lt, eqb-true, eqb-false}
use Rattle.std.proofs.lemmas.List.{get_or_append_left, get_or_push}
use Rattle.pending_queue.specs.Waits.{AreLinked, end_of, is_in, seek}

pub seek-le : (is : ℕ → Bool) (n : ℕ) → seek is n ≤ n
seek-le is zero = omega arith
seek-le is (suc n) =
    elim (cases_Bool (is n)) [
      | inl passes ↦ rw passes (omega arith)
      | inr fails ↦ (let rest = seek-le is n in rw fails (omega arith))
    ]

-- none between passes
pub seek-gap : (is : ℕ → Bool) (n p : ℕ) → seek is n ≤ p → p < n → is p ≡ false
seek-gap is zero p above below = absurd (omega arith)
seek-gap is (suc n) p above below =
    elim (cases_Bool (is n)) [
      | inl passes ↦ (let from : suc n ≤ p = rw passes at above in absurd (omega arith))
      | inr fails ↦ (let from : seek is n ≤ p = rw fails at above in
          elim (cases_eq p n) [
            | inl same ↦ rw same fails
            | inr other ↦ seek-gap is n p from (omega arith)
          ])
    ]

pub seek-settled : (is : ℕ → Bool) (n : ℕ) → seek is (seek is n) ≡ seek is n
seek-settled is zero = refl
seek-settled is (suc n) =
    elim (cases_Bool (is n)) [
      | inl passes ↦ rw (passes, passes) refl
      | inr fails ↦ rw fails (seek-settled is n)
    ]

-- the place before what was found passes
pub settled-here : (is : ℕ → Bool) (place : ℕ) → seek is (suc place) ≡ suc place → is place ≡ true
settled-here is place settled =
    elim (cases_Bool (is place)) [
      | inl passes ↦ passes
      | inr fails ↦ (let further : seek is place ≡ suc place = rw fails at settled in let back = seek-le is place in absurd (omega arith))
    ]

pub seek-same : (is other : ℕ → Bool) (n : ℕ) → ((p : ℕ) → p < n → is p ≡ other p) → seek is n ≡ seek other n
seek-same is other zero same = refl
seek-same is other (suc n) same =
    let here : is n ≡ other n = same n (omega arith) in
    let rest : seek is n ≡ seek other n = seek-same is other n (λ p below. same p (omega arith)) in
    rw (here, rest) refl

pub seek-all : (is : ℕ → Bool) (n : ℕ) → ((p : ℕ) → p < n → is p ≡ true) → n ≡ seek is n
seek-all is zero all = refl
seek-all is (suc n) all = let here : is n ≡ true = all n (omega arith) in rw here refl

-- ---- heads and links

end_of-within : (heads : List ℕ) (own many : ℕ) → own < length heads → end_of heads own many ≡ get_or heads own 0
end_of-within [] own many within = absurd (omega arith)
end_of-within (h ∷ hs) zero many within = refl
end_of-within (h ∷ hs) (suc own) many within = end_of-within hs own many (omega arith)

-- where those of a slot end that has a head
pub end-headed : (heads slots links : List ℕ) (own : ℕ) → AreLinked heads slots links → own < length heads → end_of heads own (length slots) ≡ seek (is_in slots own) (length slots)
end-headed heads slots links own are within = end_of-within heads own (length slots) within ∙ are.ends own within

length-more : (xs : List ℕ) (y : ℕ) → length (xs ++ y ∷ []) ≡ suc (length xs)
length-more [] y = refl
length-more (x ∷ xs) y = ap suc (length-more xs y)

-- one more is as if it weren't there before its place
seek-more : (slots : List ℕ) (more own n : ℕ) → n ≤ length slots → seek (is_in slots own) n ≡ seek (is_in (slots ++ more ∷ []) own) n
seek-more slots more own n within =
    seek-same (is_in slots own) (is_in (slots ++ more ∷ []) own) n
    (λ p below. ap (λ (x : ℕ). x == own) (sym (get_or_append_left slots (more ∷ []) 0 p (omega arith))))

ends-more : (heads slots links : List ℕ) (own : ℕ) → AreLinked heads slots links → (k : ℕ) → k < length heads
    → get_or (set heads own (suc (length slots))) k 0 ≡ seek (is_in (slots ++ own ∷ []) k) (suc (length slots))
ends-more heads slots links own are k within =
    let last : get_or (slots ++ own ∷ []) (length slots) 0 ≡ own = get_or_push slots own 0 (length slots) refl in
    rw last (elim (cases_Bool (own == k)) [
      | inl same ↦ (let is : own ≡ k = eqb-true own k same in
          rw same (rw is (get_or-set_same heads k (suc (length slots)) 0 within)))
      | inr other ↦ rw other (
          get_or-set_other heads own k (suc (length slots)) 0 (λ is. eqb-false own k other (sym is))
          ∙ are.ends k within ∙ seek-more slots own k (length slots) (omega arith))
    ])

nexts-more : (heads slots links : List ℕ) (own link : ℕ) → AreLinked heads slots links → length links ≡ length slots → link ≡ seek (is_in slots own) (length slots)
    → (place : ℕ) → place < suc (length slots)
    → get_or (links ++ link ∷ []) place 0 ≡ seek (is_in (slots ++ own ∷ []) (get_or (slots ++ own ∷ []) place 0)) place
nexts-more heads slots links own link are many is place within =
    elim (cases_lt place (length slots)) [
      | inl below ↦ (
          let link_there : get_or (links ++ link ∷ []) place 0 ≡ get_or links place 0 = get_or_append_left links (link ∷ []) 0 place (omega arith) in
          let slot_there : get_or (slots ++ own ∷ []) place 0 ≡ get_or slots place 0 = get_or_append_left slots (own ∷ []) 0 place below in
          link_there ∙ are.nexts place below ∙ seek-more slots own (get_or slots place 0) place (omega arith)
          ∙ ap (λ (s : ℕ). seek (is_in (slots ++ own ∷ []) s) place) (sym slot_there))
      | inr last ↦ (
          let same : place ≡ length slots = omega arith in
          let link_there : get_or (links ++ link ∷ []) place 0 ≡ link = get_or_push links link 0 place (many ∙ sym same) in
          let slot_there : get_or (slots ++ own ∷ []) place 0 ≡ own = get_or_push slots own 0 place (sym same) in
          link_there ∙ is ∙ seek-more slots own own (length slots) (omega arith)
          ∙ ap (λ (s : ℕ). seek (is_in (slots ++ own ∷ []) s) (length slots)) (sym slot_there)
          ∙ ap (λ (n : ℕ). seek (is_in (slots ++ own ∷ []) (get_or (slots ++ own ∷ []) place 0)) n) (sym same))
    ]

-- one more is put in, and its slot ends behind it
pub AreLinked-push : (heads slots links : List ℕ) (own link : ℕ) → AreLinked heads slots links → length links ≡ length slots → link ≡ seek (is_in slots own) (length slots)
    → AreLinked (set heads own (suc (length slots))) (slots ++ own ∷ []) (links ++ link ∷ [])
AreLinked-push heads slots links own link are many is = record {
  ends = λ k within.
      rw length-more (ends-more heads slots links own are k (omega (arith, length-set heads own (suc (length slots)))));
  nexts = λ place within. nexts-more heads slots links own link are many is place (omega (arith, length-more slots own));
}
