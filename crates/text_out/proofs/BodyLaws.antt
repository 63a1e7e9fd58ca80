-- Laws of printed numbers: one digit more.
use Rattle.std.proofs.Common.{◌≡◌, ◌∙◌, ap, ℕ, ◌/◌, ◌%◌, ◌<◌, List, [], ◌∷◌, ◌++◌, map, sym, append_assoc, arith}
use Rattle.std.specs.Int.Digits.{digits_of}
use Rattle.std.proofs.lemmas.Int.Digits.{digits_of_step}
use Rattle.std.proofs.lemmas.List.{map-append}
use Rattle.fsa_model.specs.Numbers.{glyph}

pub glyphs_step : (line : List ℕ) (number : ℕ) → 0 < number
    → (line ++ map glyph (digits_of 16 (number / 16))) ++ glyph (number % 16) ∷ [] ≡ line ++ map glyph (digits_of 16 number)
glyphs_step line number some =
    append_assoc line (map glyph (digits_of 16 (number / 16))) (glyph (number % 16) ∷ [])
    ∙ ap (λ (digits : List ℕ). line ++ digits)
    (sym (ap (map glyph) (digits_of_step 16 number (omega arith) some) ∙ map-append glyph (digits_of 16 (number / 16)) (number % 16 ∷ [])))
