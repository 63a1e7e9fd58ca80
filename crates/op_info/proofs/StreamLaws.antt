-- The rows of a file's streams, as a walk from name to name adds one after the other.
use Rattle.std.proofs.Common.{◌≡◌, ◌∙◌, ℕ, ◌<◌, true, List, [], ◌∷◌, ◌++◌, Option, Some, None, length, refl, sym, ap, subst, inl, inr, arith}
use Rattle.std.specs.Prelude.{map, IfSome}
use Rattle.fsa_types.specs.PackedRows.{PackRow, stream_row}
use Rattle.fsa_types.specs.Rows.{lives, row_of}
use Rattle.fsa_model.specs.QueryInfo.{streams_of}
use Rattle.fsa_model.specs.ShownNumbers.{space_shown}
use Rattle.fsa_model.specs.Volume.{Stream, Volume}
use Rattle.fsa_model.proofs.RowLaws.{lives-found, option_cases}
use Rattle.volume_state.specs.InOrder.{streams_after}
use Rattle.op_info.specs.Streams.{IsWalked, row_in}

joined : (rows : List PackRow) (row : PackRow) (more : List PackRow) → (rows ++ row ∷ []) ++ more ≡ rows ++ row ∷ more
joined [] row more = refl
joined (first ∷ rows) row more = ap (λ (l : List PackRow). first ∷ l) (joined rows row more)

-- what is true of a value that is there, is true of it
here : {T : Type 0} (P : T → Type 0) (o : Option T) (x : T) → o ≡ Some x → IfSome o P → P x
here P None x is holds = cc
here P (Some y) x is holds = (let same : y ≡ x = cc in subst P same holds)

pub walk-more : (v : Volume) (file : ℕ) (units next : List ℕ) (rows : List PackRow) (id : ℕ) (made : PackRow) → lives v.streams id ≡ true
    → IfSome (row_of v.streams id) (λ row. streams_after v file units ≡ (id, row) ∷ streams_after v file row.name)
    → IfSome (row_of v.streams id) (λ s. made ≡ stream_row (length s.bytes) (space_shown v (Some id)) s.name)
    → IfSome (row_of v.streams id) (λ s. next ≡ s.name)
    → IsWalked v file rows units → IsWalked v file (rows ++ made ∷ []) next
walk-more v file units next rows id made living rest is name walked = elim (option_cases (row_of v.streams id)) [
  | inl none ↦ absurd (lives-found v.streams id living none)
  | inr some ↦ (
      let behind : streams_after v file units ≡ (id, some.0) ∷ streams_after v file some.0.name = rw some.1 at rest in
      let row : made ≡ row_in v (id, some.0) = here (λ s. made ≡ row_in v (id, s)) (row_of v.streams id) some.0 some.1 is in
      let called : next ≡ some.0.name = rw some.1 at name in
      joined rows made (map (row_in v) (streams_after v file next))
      ∙ (λ i. rows ++ row i ∷ map (row_in v) (streams_after v file (called i)))
      ∙ ap (λ (l : List (ℕ × Stream)). rows ++ map (row_in v) l) (sym behind)
      ∙ walked)
]

pub walk-fewer : (v : Volume) (file : ℕ) (units next : List ℕ) (id : ℕ) → lives v.streams id ≡ true
    → IfSome (row_of v.streams id) (λ row. streams_after v file units ≡ (id, row) ∷ streams_after v file row.name)
    → IfSome (row_of v.streams id) (λ s. next ≡ s.name)
    → length (streams_after v file next) < length (streams_after v file units)
walk-fewer v file units next id living rest name = elim (option_cases (row_of v.streams id)) [
  | inl none ↦ absurd (lives-found v.streams id living none)
  | inr some ↦ (
      let behind : streams_after v file units ≡ (id, some.0) ∷ streams_after v file some.0.name = rw some.1 at rest in
      let called : next ≡ some.0.name = rw some.1 at name in
      let whole : length (streams_after v file units) ≡ length ((id, some.0) ∷ streams_after v file some.0.name) = ap length behind in
      let part : length (streams_after v file next) ≡ length (streams_after v file some.0.name) = ap (λ (n : List ℕ). length (streams_after v file n)) called in
      omega (arith, whole, part))
]

-- it begins behind the default stream
pub walk-default : (v : Volume) (file : ℕ) (id : ℕ) (made : PackRow) → lives v.streams id ≡ true
    → IfSome (row_of v.streams id) (λ row. streams_of v file ≡ (id, row) ∷ streams_after v file [])
    → IfSome (row_of v.streams id) (λ s. made ≡ stream_row (length s.bytes) (space_shown v (Some id)) s.name)
    → IsWalked v file (made ∷ []) []
walk-default v file id made living first is = elim (option_cases (row_of v.streams id)) [
  | inl none ↦ absurd (lives-found v.streams id living none)
  | inr some ↦ (
      let all : streams_of v file ≡ (id, some.0) ∷ streams_after v file [] = rw some.1 at first in
      let row : made ≡ row_in v (id, some.0) = here (λ s. made ≡ row_in v (id, s)) (row_of v.streams id) some.0 some.1 is in
      (λ i. row i ∷ map (row_in v) (streams_after v file [])) ∙ ap (map (row_in v)) (sym all))
]

pub walk-no_default : (v : Volume) (file : ℕ) → streams_of v file ≡ streams_after v file [] → IsWalked v file [] []
walk-no_default v file all = ap (map (row_in v)) (sym all)
