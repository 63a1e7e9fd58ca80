-- The bits of what is left of a mask.
use Rattle.std.proofs.Common.{◌≡◌, ℕ, ◌-◌, ◌^◌, ◌<◌, ◌∙◌, sym, refl, min, arith, inl, inr}
use Rattle.std.specs.Int.{bit_at, w32}
use Rattle.std.specs.Int.RustNames.{bit_and}
use Rattle.std.proofs.lemmas.Bool.{cases_lt}
use Rattle.std.proofs.lemmas.Nat.Bits.{bit_at_and, bit_at_xor, bit_at_not, bit_at-lt, bit_at_above, same_from_bits}
use Rattle.fsa_types.specs.Access.{without}

-- a bit is left where the mask has it and the bits taken off don't
pub bit_at-without : (mask bits i : ℕ) → bit_at (without mask bits) i ≡ min (bit_at mask i) (1 - bit_at bits i)
bit_at-without mask bits i =
    bit_at_xor mask (bit_and mask bits) i ∙ rw (bit_at_and mask bits i) (omega (arith, bit_at-lt mask i, bit_at-lt bits i))

-- a bit of the complement
bit_at-complement : (mask bits i : ℕ) → mask < 2 ^ 32 → bits < 2 ^ 32
    → min (bit_at mask i) (bit_at (2 ^ 32 - 1 - bits) i) ≡ min (bit_at mask i) (1 - bit_at bits i)
bit_at-complement mask bits i mask_fits bits_fit =
    elim (cases_lt i 32) [
      | inl below ↦ rw (bit_at_not w32 bits i bits_fit below) refl
      | inr above ↦ omega (arith, bit_at_above mask 32 i mask_fits above)
    ]

-- what the complement leaves of a mask
pub and_not-without : (mask bits : ℕ) → mask < 2 ^ 32 → bits < 2 ^ 32 → bit_and mask (2 ^ 32 - 1 - bits) ≡ without mask bits
and_not-without mask bits mask_fits bits_fit =
    same_from_bits _ _ (λ i. bit_at_and mask (2 ^ 32 - 1 - bits) i ∙ bit_at-complement mask bits i mask_fits bits_fit ∙ sym (bit_at-without mask bits i))
