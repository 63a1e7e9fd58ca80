-- Mapped masks have no generic right, and a mask without one is its own map.
use Rattle.std.proofs.Common.{◌≡◌, ℕ, ◌<◌, ◌^◌, ◌∙◌, sym, ap, refl, false, arith}
use Rattle.std.specs.Int.RustNames.{bit_and}
use Rattle.std.specs.Int.Bits.{and_zero_l, or_zero_r}
use Rattle.std.proofs.lemmas.Bool.{cond_both, cond-false}
use Rattle.std.proofs.lemmas.Nat.{and_assoc, and_le_r, and_or_apart, and_mask}
use Rattle.std.proofs.lemmas.Nat.Bits.{and_high}
use Rattle.fsa_types.specs.Access.{has_any, map_generic, plain_bits, stands_for}
use Rattle.fsa_types.specs.Masks.{FILE_ALL_ACCESS, FILE_GENERIC_EXECUTE, FILE_GENERIC_READ, FILE_GENERIC_WRITE, GENERIC_ALL, GENERIC_EXECUTE, GENERIC_READ, GENERIC_WRITE, generic_bits}

-- what a generic right stands for has no generic right
stands_for-none_left : (mask generic rights : ℕ) → bit_and rights generic_bits ≡ 0 → bit_and (stands_for mask generic rights) generic_bits ≡ 0
stands_for-none_left mask generic rights plain =
    cond_both (has_any mask generic) rights 0 (λ x. bit_and x generic_bits ≡ 0) (λ _. plain) (λ _. and_zero_l generic_bits)

pub map_generic-none_left : (mask : ℕ) → bit_and (map_generic mask) generic_bits ≡ 0
map_generic-none_left mask =
    let nothing : bit_and mask 0 ≡ 0 = omega (arith, and_le_r mask 0) in
    and_or_apart generic_bits _ _ (stands_for-none_left mask GENERIC_READ FILE_GENERIC_READ refl)
    ∙ and_or_apart generic_bits _ _ (stands_for-none_left mask GENERIC_WRITE FILE_GENERIC_WRITE refl)
    ∙ and_or_apart generic_bits _ _ (stands_for-none_left mask GENERIC_EXECUTE FILE_GENERIC_EXECUTE refl)
    ∙ and_or_apart generic_bits _ _ (stands_for-none_left mask GENERIC_ALL FILE_ALL_ACCESS refl)
    ∙ and_assoc generic_bits mask plain_bits
    ∙ nothing

-- a mask without generic rights has no one of them
lacks : (mask generic rights : ℕ) → bit_and mask generic_bits ≡ 0 → bit_and generic_bits generic ≡ generic → stands_for mask generic rights ≡ 0
lacks mask generic rights plain within =
    let none : bit_and mask generic ≡ 0 =
    ap (bit_and mask) (sym within) ∙ sym (and_assoc generic mask generic_bits) ∙ rw plain (and_zero_l generic) in
    let no : has_any mask generic ≡ false = rw none refl in
    cond-false _ _ _ no

pub map_generic-plain : (mask : ℕ) → mask < 2 ^ 32 → bit_and mask generic_bits ≡ 0 → map_generic mask ≡ mask
map_generic-plain mask fits plain =
    rw (lacks mask GENERIC_READ FILE_GENERIC_READ plain refl, lacks mask GENERIC_WRITE FILE_GENERIC_WRITE plain refl, lacks mask GENERIC_EXECUTE FILE_GENERIC_EXECUTE plain refl, lacks mask GENERIC_ALL FILE_ALL_ACCESS plain refl)
    (or_zero_r _ ∙ or_zero_r _ ∙ or_zero_r _ ∙ or_zero_r _ ∙ and_mask mask 28 ∙ omega (arith, and_high mask 4 28, plain))
