-- The walk denies nothing exactly where the first entry that names each wanted right allows it.
use Rattle.std.proofs.Common.{◌≡◌, ◌≢◌, ◌↔◌, ℕ, ◌-◌, ◌∙◌, sym, ap, true, false, min, List, [], ◌∷◌, Option, Some, None, cond, arith, inl, inr, eq-eqb, refl, find, is_some, IsSome}
use Rattle.std.specs.Option.{option_map_or}
use Rattle.std.specs.Int.{bit_at}
use Rattle.std.specs.Int.RustNames.{bit_and}
use Rattle.std.proofs.lemmas.Bool.{cases_Bool, cond-true, cond-false, eqb-true, eqb-false, ne_eqb, not-false}
use Rattle.std.proofs.lemmas.Nat.Bits.{bit_at_and, bit_at-lt, bit_at-zero, same_from_bits}
use Rattle.fsa_types.specs.declared.request.Ace.{Ace}
use Rattle.fsa_types.specs.Access.{asked_of_list, check, entries_for, has_any, walk_denies, without}
use Rattle.acl_check.specs.FirstEntry.{has_right, allows, AllowEach, ListAllows}
use Rattle.acl_check.proofs.BitLemmas.{bit_at-without}

-- a right is there or not
has-one : (mask right : ℕ) → has_right mask right ≡ true → bit_at mask right ≡ 1
has-one mask right has = eqb-true (bit_at mask right) 1 has

lacks-zero : (mask right : ℕ) → has_right mask right ≡ false → bit_at mask right ≡ 0
lacks-zero mask right lacks =
    let other : bit_at mask right ≢ 1 = eqb-false (bit_at mask right) 1 lacks in
    omega (arith, bit_at-lt mask right)

one-has : (mask right : ℕ) → bit_at mask right ≡ 1 → has_right mask right ≡ true
one-has mask right one = eq-eqb (bit_at mask right) 1 one

-- the first entry decides a right that it names, the later ones any other
pub allows-first : (entry : Ace) (entries : List Ace) (right : ℕ) → has_right entry.mask right ≡ true → allows (entry ∷ entries) right ≡ entry.allow
allows-first entry entries right names =
    ap (λ b. option_map_or (λ (ace : Ace). ace.allow) (cond b (Some entry) (find (λ (ace : Ace). has_right ace.mask right) entries)) false) names

pub allows-later : (entry : Ace) (entries : List Ace) (right : ℕ) → has_right entry.mask right ≡ false → allows (entry ∷ entries) right ≡ allows entries right
allows-later entry entries right other =
    ap (λ b. option_map_or (λ (ace : Ace). ace.allow) (cond b (Some entry) (find (λ (ace : Ace). has_right ace.mask right) entries)) false) other

-- a mask without any right is zero
mask-zero : (mask : ℕ) → ((right : ℕ) → has_right mask right ≡ true → ⊥) → mask ≡ 0
mask-zero mask none =
    same_from_bits mask 0 (λ i. elim (cases_Bool (has_right mask i)) [
      | inl has ↦ absurd (none i has)
      | inr lacks ↦ lacks-zero mask i lacks ∙ sym (bit_at-zero i)
    ])

-- two masks with no right in common
apart : (left mask right : ℕ) → has_any left mask ≡ false → has_right left right ≡ true → has_right mask right ≡ false
apart left mask right none has =
    let zero_and : bit_and left mask ≡ 0 = eqb-true (bit_and left mask) 0 (not-false _ none) in
    let both : min (bit_at left right) (bit_at mask right) ≡ 0 = sym (bit_at_and left mask right) ∙ rw zero_and (bit_at-zero right) in
    let one : bit_at left right ≡ 1 = has-one left right has in
    ne_eqb (bit_at mask right) 1 (omega arith)

-- two masks with some right in common have one
apart-from : (left mask : ℕ) → ((right : ℕ) → has_right left right ≡ true → has_right mask right ≡ true → ⊥) → has_any left mask ≡ false
apart-from left mask none =
    let zero_and : bit_and left mask ≡ 0 = mask-zero (bit_and left mask) (λ right has.
    let one : bit_at (bit_and left mask) right ≡ 1 = has-one _ right has in
    let both : bit_at (bit_and left mask) right ≡ min (bit_at left right) (bit_at mask right) = bit_at_and left mask right in
    none right (one-has left right (omega (arith, bit_at-lt left right, bit_at-lt mask right))) (one-has mask right (omega (arith, bit_at-lt left right, bit_at-lt mask right)))) in
    rw zero_and refl

-- the rights that are left after an allow entry
left-of : (left mask right : ℕ) → has_right (without left mask) right ≡ true → (has_right left right ≡ true) × (has_right mask right ≡ false)
left-of left mask right has =
    let one : bit_at (without left mask) right ≡ 1 = has-one _ right has in
    let both : bit_at (without left mask) right ≡ min (bit_at left right) (1 - bit_at mask right) = bit_at-without left mask right in
    (one-has left right (omega (arith, bit_at-lt left right)), ne_eqb (bit_at mask right) 1 (omega arith))

still-left : (left mask right : ℕ) → has_right left right ≡ true → has_right mask right ≡ false → has_right (without left mask) right ≡ true
still-left left mask right has lacks =
    let one : bit_at left right ≡ 1 = has-one left right has in
    let zero : bit_at mask right ≡ 0 = lacks-zero mask right lacks in
    one-has _ right (bit_at-without left mask right ∙ rw (one, zero) refl)

-- where each right is allowed by the first entry that names it, nothing is denied
pub walk_denies-allowed : (entries : List Ace) (wanted : ℕ) → AllowEach entries wanted → walk_denies entries wanted ≡ false
walk_denies-allowed [] wanted each =
    let nothing : wanted ≡ 0 = mask-zero wanted (λ right has. let no : false ≡ true = each right has in cc) in
    rw nothing refl
walk_denies-allowed (entry ∷ entries) wanted each = elim (cases_Bool entry.allow) [
  | inl allow ↦ cond-true _ _ _ allow ∙ walk_denies-allowed entries (without wanted entry.mask) (λ right has.
      let left : (has_right wanted right ≡ true) × (has_right entry.mask right ≡ false) = left-of wanted entry.mask right has in
      sym (allows-later entry entries right left.1) ∙ each right left.0)
  | inr deny ↦
      let apart_now : has_any wanted entry.mask ≡ false = apart-from wanted entry.mask (λ right has names.
      let no : false ≡ true = sym deny ∙ sym (allows-first entry entries right names) ∙ each right has in cc) in
      cond-false _ _ _ deny ∙ cond-false _ _ _ apart_now ∙ walk_denies-allowed entries wanted (λ right has.
      sym (allows-later entry entries right (apart wanted entry.mask right apart_now has)) ∙ each right has)
]

-- where nothing is denied, each right is allowed by the first entry that names it
pub walk_denies-allows : (entries : List Ace) (wanted : ℕ) → walk_denies entries wanted ≡ false → AllowEach entries wanted
walk_denies-allows [] wanted granted right has =
    let nothing : wanted ≡ 0 = eqb-true wanted 0 (not-false _ granted) in
    let one : bit_at wanted right ≡ 1 = has-one wanted right has in
    absurd (omega (arith, rw nothing at one, bit_at-zero right))
walk_denies-allows (entry ∷ entries) wanted granted right has = elim (cases_Bool entry.allow) [
  | inl allow ↦
      let later : walk_denies entries (without wanted entry.mask) ≡ false = sym (cond-true _ _ _ allow) ∙ granted in
      elim (cases_Bool (has_right entry.mask right)) [
        | inl names ↦ allows-first entry entries right names ∙ allow
        | inr other ↦ allows-later entry entries right other
            ∙ walk_denies-allows entries (without wanted entry.mask) later right (still-left wanted entry.mask right has other)
      ]
  | inr deny ↦
      let after : cond (has_any wanted entry.mask) true (walk_denies entries wanted) ≡ false = sym (cond-false _ _ _ deny) ∙ granted in
      elim (cases_Bool (has_any wanted entry.mask)) [
        | inl meets ↦ absurd (let no : true ≡ false = sym (cond-true _ _ _ meets) ∙ after in cc)
        | inr apart_now ↦ allows-later entry entries right (apart wanted entry.mask right apart_now has)
            ∙ walk_denies-allows entries wanted (sym (cond-false _ _ _ apart_now) ∙ after) right has
      ]
]

-- what the check answers, as the first entries have it
pub check-grants : (dacl : Option (List Ace)) (owner : ℕ) (sids : List ℕ) (wanted : ℕ) (granted : Option ℕ)
    → granted ≡ check dacl owner sids wanted → IsSome granted ↔ ListAllows dacl owner sids wanted
check-grants None owner sids wanted granted is = (λ _. tt, λ _. rw is refl)
check-grants (Some entries) owner sids wanted granted is =
    let walk = walk_denies (entries_for sids entries) (asked_of_list owner sids wanted) in
    elim (cases_Bool walk) [
      | inl denies ↦
          let none : granted ≡ None = is ∙ cond-true _ _ _ denies in (
            λ some. absurd (let no : false ≡ true = ap is_some (sym none) ∙ some in cc),
            λ each. absurd (let no : true ≡ false = sym denies ∙ walk_denies-allowed _ _ each in cc),
          )
      | inr grants ↦
          let some : granted ≡ Some wanted = is ∙ cond-false _ _ _ grants in
          (λ _. walk_denies-allows _ _ grants, λ _. ap is_some some)
    ]
