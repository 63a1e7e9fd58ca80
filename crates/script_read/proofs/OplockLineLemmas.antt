-- The fields of a line that asks for an oplock or acknowledges its break are read again as they are written.
use Rattle.std.proofs.Common.{◌≡◌, ℕ, ◌≤◌, true, [], ◌∷◌, refl}
use Rattle.std.specs.Prelude.{Ok, nat_le}
use Rattle.fsa_types.specs.Request.{level_fits}
use Rattle.fsa_types.specs.declared.request.Level.{Level}
use Rattle.fsa_types.specs.declared.request.Level.TheVariants.{Nil, R, RH, RW, RWH}
use Rattle.fsa_types.specs.declared.request.What.TheVariants.{Ask}
use Rattle.fsa_types.specs.declared.request.Request.TheVariants.{Oplock, Ack}
use Rattle.fsa_model.specs.Words.{most_id}
use Rattle.fsa_model.specs.FieldText.{level_text}
use Rattle.fsa_model.specs.OplockLines.{level_at, oplock_fields, ack_fields, level_fields_text, is_oplock}
use Rattle.script_read.proofs.SpellLemmas.{both, at_most, field_at-again, number_at-again}

level_at-last : (level : Level) → level_at (level_text level) ≡ Ok (level, [])
unfolding level_at
level_at-last Nil = rw (field_at-again (110 ∷ 111 ∷ 110 ∷ 101 ∷ []) [] (refl, (refl, (refl, (refl, tt)))) tt) refl
level_at-last R = rw (field_at-again (114 ∷ []) [] (refl, tt) tt) refl
level_at-last RH = rw (field_at-again (114 ∷ 104 ∷ []) [] (refl, (refl, tt)) tt) refl
level_at-last RW = rw (field_at-again (114 ∷ 119 ∷ []) [] (refl, (refl, tt)) tt) refl
level_at-last RWH = rw (field_at-again (114 ∷ 119 ∷ 104 ∷ []) [] (refl, (refl, (refl, tt))) tt) refl

pub oplock_fields-again : (handle : ℕ) (level : Level) → is_oplock handle level ≡ true → oplock_fields (level_fields_text handle level) ≡ Ok (Ask (Oplock handle level))
unfolding oplock_fields
oplock_fields-again handle level fits =
    let parts = both (nat_le handle most_id) (level_fits level) fits in
    rw (number_at-again 4294967295 handle (level_text level) (at_most handle most_id parts.0) refl, level_at-last level, parts.1) refl

pub ack_fields-again : (handle : ℕ) (level : Level) → handle ≤ most_id → ack_fields (level_fields_text handle level) ≡ Ok (Ask (Ack handle level))
unfolding ack_fields
ack_fields-again handle level small = rw (number_at-again 4294967295 handle (level_text level) small refl, level_at-last level) refl
