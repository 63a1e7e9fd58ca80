-- What a call of a source over bytes in memory gives, by places in its bytes.
use Rattle.std.proofs.Common.{◌≡◌, ℕ, ◌+◌, ◌-◌, ◌<◌, ◌≤◌, min, List, [], ◌++◌, length, take, drop, Some, refl, sym, ap, ◌∙◌, length-take, length-drop, arith}
use Rattle.std.proofs.lemmas.List.{take_at, take-append-drop, drop-drop, drop_all}
use Rattle.wire_io.specs.Source.{HasRead}

-- n bytes from the place on were copied to the front of a buffer
pub HasRead-copied : (bytes : List ℕ) (place n : ℕ) (copied behind : List ℕ) → copied ≡ take (place + n - place) (drop place bytes) → n ≤ length bytes - place
    → HasRead (Some (drop place bytes)) (Some (drop (place + n) bytes)) (take n (copied ++ behind))
HasRead-copied bytes place n copied behind is within =
    let count : place + n - place ≡ n = omega arith in
    let same : copied ≡ take n (drop place bytes) = is ∙ ap (λ k. take k (drop place bytes)) count in
    let long : length copied ≡ n = omega (arith, ap length same, length-take n (drop place bytes), length-drop place bytes) in (
      drop (place + n) bytes,
      refl,
      sym (take-append-drop n (drop place bytes))
          ∙ ap (λ xs. xs ++ drop n (drop place bytes)) (sym (take_at copied behind n long ∙ same))
          ∙ ap (λ xs. take n (copied ++ behind) ++ xs) (drop-drop n place bytes),
    )

-- a call with room gives nothing only at the end
pub drop-at_end : (bytes : List ℕ) (place n room piece : ℕ) → n ≡ min (min room piece) (length bytes - place) → 0 < piece → 0 < room → n ≡ 0
    → drop (place + n) bytes ≡ []
drop-at_end bytes place n room piece count some wide none = drop_all (place + n) bytes (omega arith)
