-- The fields of locks and unlocks are read again as they are written.
use Rattle.std.proofs.Common.{◌≡◌, ℕ, true, Bool, ◌&&◌, ◌++◌, refl}
use Rattle.std.specs.Prelude.{Ok, nat_le, codes}
use Rattle.fsa_types.specs.declared.request.What.TheVariants.{Ask}
use Rattle.fsa_types.specs.declared.request.Request.TheVariants.{Lock, Unlock}
use Rattle.fsa_model.specs.Words.{most_id, most_place}
use Rattle.fsa_model.specs.FieldText.{number_text, choice_text}
use Rattle.fsa_model.specs.LockLines.{lock_fields, lock_text, unlock_fields, unlock_text, is_range_line}
use Rattle.script_read.proofs.SpellLemmas.{both, at_most, number_at-again, number_at-last, choice_at-again, choice_at-last}

pub lock_fields-again : (handle place count : ℕ) (exclusive wait : Bool) → is_range_line handle place count ≡ true
    → lock_fields (lock_text handle place count exclusive wait) ≡ Ok (Ask (Lock handle place count exclusive wait))
unfolding lock_fields
lock_fields-again handle place count exclusive wait fits =
    let outer = both (nat_le handle most_id && nat_le place most_place) (nat_le count most_place) fits in
    let inner = both (nat_le handle most_id) (nat_le place most_place) outer.0 in
    let from_wait = choice_text (codes "wait") (codes "now") wait in
    let from_exclusive = choice_text (codes "ex") (codes "sh") exclusive ++ from_wait in
    let from_count = number_text count ++ from_exclusive in
    rw (
      number_at-again 4294967295 handle (number_text place ++ from_count) (at_most handle most_id inner.0) refl,
      number_at-again most_place place from_count (at_most place most_place inner.1) refl,
      number_at-again most_place count from_exclusive (at_most count most_place outer.1) refl,
      choice_at-again (codes "ex") (codes "sh") exclusive from_wait (refl, (refl, tt)) (refl, (refl, tt)) refl refl refl refl,
      choice_at-last (codes "wait") (codes "now") wait (refl, (refl, (refl, (refl, tt)))) (refl, (refl, (refl, tt))) refl refl refl,
    ) refl

pub unlock_fields-again : (handle place count : ℕ) → is_range_line handle place count ≡ true → unlock_fields (unlock_text handle place count) ≡ Ok (Ask (Unlock handle place count))
unfolding unlock_fields
unlock_fields-again handle place count fits =
    let outer = both (nat_le handle most_id && nat_le place most_place) (nat_le count most_place) fits in
    let inner = both (nat_le handle most_id) (nat_le place most_place) outer.0 in
    rw (
      number_at-again 4294967295 handle (number_text place ++ number_text count) (at_most handle most_id inner.0) refl,
      number_at-again most_place place (number_text count) (at_most place most_place inner.1) refl,
      number_at-last most_place count (at_most count most_place outer.1),
    ) refl
