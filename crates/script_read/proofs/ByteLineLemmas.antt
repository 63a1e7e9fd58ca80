-- The fields of the lines that read and write bytes are read again as they are written.
use Rattle.std.proofs.Common.{◌≡◌, ap, sym, ◌∙◌, ℕ, ◌≤◌, true, false, ◌&&◌, List, ◌∷◌, [], ◌++◌, Option, Some, None, length, refl, arith}
use Rattle.std.specs.Prelude.{Ok, nat_le}
use Rattle.std.specs.Option.{option_map_or}
use Rattle.std.specs.List.{list_all}
use Rattle.fsa_types.specs.declared.request.What.TheVariants.{Ask}
use Rattle.fsa_types.specs.declared.request.Request.TheVariants.{Read, Write, Flush, SetEnd}
use Rattle.fsa_model.specs.Numbers.{spelled, written_number}
use Rattle.fsa_model.specs.Words.{same, most_id, most_place, most_bytes}
use Rattle.fsa_model.specs.FieldText.{number_text, string_text}
use Rattle.fsa_model.specs.ByteLines.{read_fields, read_text, is_read, start_at, start_text, write_fields, write_text, is_write, flush_fields, set_end_fields, set_end_text, is_set_end}
use Rattle.script_read.proofs.SpellLemmas.{both, at_most, same-eq, unless, EndsWord, field_at-again, number_of-spelled, NoSpace-spelled, number_at-again, number_at-last}
use Rattle.script_read.proofs.TextLemmas.{string_at-last}

pub read_fields-again : (handle place count : ℕ) → is_read handle place count ≡ true → read_fields (read_text handle place count) ≡ Ok (Ask (Read handle place count))
unfolding read_fields
read_fields-again handle place count fits =
    let outer = both (nat_le handle most_id && nat_le place most_place) (nat_le count most_bytes) fits in
    let inner = both (nat_le handle most_id) (nat_le place most_place) outer.0 in
    rw (
      number_at-again 4294967295 handle (number_text place ++ number_text count) (at_most handle most_id inner.0) refl,
      number_at-again most_place place (number_text count) (at_most place most_place inner.1) refl,
      number_at-last 16384 count (at_most count most_bytes outer.1),
    ) refl

-- a number is not the word `end`
not_end : (place : ℕ) → place ≤ most_place → same (spelled 10 place) (101 ∷ 110 ∷ 100 ∷ []) ≡ false
not_end place small =
    unless (same (spelled 10 place) (101 ∷ 110 ∷ 100 ∷ [])) (λ is.
    let reads : written_number 10 most_place (spelled 10 place) ≡ Some place = number_of-spelled 10 most_place place (omega arith) (omega arith) small in
    let never : None ≡ Some place = ap (written_number 10 most_place) (sym (same-eq (spelled 10 place) _ is)) ∙ reads in
    cc)

start_at-again : (start : Option ℕ) (rest : List ℕ) → option_map_or (λ place. nat_le place most_place) start true ≡ true → EndsWord rest
    → start_at (start_text start ++ rest) ≡ Ok (start, rest)
unfolding start_at
start_at-again None rest small ends = rw (field_at-again (101 ∷ 110 ∷ 100 ∷ []) rest (refl, (refl, (refl, tt))) ends) refl
start_at-again (Some place) rest small ends =
    let below = at_most place most_place small in
    rw (
      field_at-again (spelled 10 place) rest (NoSpace-spelled 10 place) ends,
      not_end place below,
      number_of-spelled 10 most_place place (omega arith) (omega arith) below,
    ) refl

EndsWord-start : (start : Option ℕ) (rest : List ℕ) → EndsWord (start_text start ++ rest)
EndsWord-start None rest = refl
EndsWord-start (Some place) rest = refl

pub write_fields-again : (handle : ℕ) (start : Option ℕ) (bytes : List ℕ) → is_write handle start bytes ≡ true → write_fields (write_text handle start bytes) ≡ Ok (Ask (Write handle start bytes))
unfolding write_fields
write_fields-again handle start bytes fits =
    let are_bytes = list_all (λ byte. nat_le byte 255) bytes in
    let begins = option_map_or (λ place. nat_le place most_place) start true in
    let outer = both (nat_le handle most_id && begins && are_bytes) (nat_le (length bytes) most_bytes) fits in
    let middle = both (nat_le handle most_id && begins) are_bytes outer.0 in
    let inner = both (nat_le handle most_id) begins middle.0 in
    rw (
      number_at-again 4294967295 handle (start_text start ++ string_text bytes) (at_most handle most_id inner.0) (EndsWord-start start (string_text bytes)),
      start_at-again start (string_text bytes) inner.1 refl,
      string_at-last bytes middle.1 (at_most (length bytes) most_bytes outer.1),
    ) refl

pub flush_fields-again : (handle : ℕ) → handle ≤ most_id → flush_fields (number_text handle) ≡ Ok (Ask (Flush handle))
unfolding flush_fields
flush_fields-again handle small = rw (number_at-last 4294967295 handle small) refl

pub set_end_fields-again : (handle length : ℕ) → is_set_end handle length ≡ true → set_end_fields (set_end_text handle length) ≡ Ok (Ask (SetEnd handle length))
unfolding set_end_fields
set_end_fields-again handle length fits =
    let parts = both (nat_le handle most_id) (nat_le length most_place) fits in
    rw (
      number_at-again 4294967295 handle (number_text length) (at_most handle most_id parts.0) refl,
      number_at-last most_place length (at_most length most_place parts.1),
    ) refl
