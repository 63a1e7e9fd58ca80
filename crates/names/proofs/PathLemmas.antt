-- Steps over the pieces of a path.
use Rattle.std.proofs.Common.{◌≡◌, ◌∙◌, ℕ, ◌<◌, ◌+◌, List, [], ◌∷◌, Some, None, length, refl, sym, ap, arith, drop, inl, inr}
use Rattle.std.specs.Prelude.{slice_get}
use Rattle.std.specs.List.{before_first, slice_split, join_with_byte}
use Rattle.std.proofs.lemmas.Bool.{cases_eq, eq-eqb, ne_eqb}
use Rattle.std.proofs.lemmas.Option.{slice_get-map}
use Rattle.std.proofs.lemmas.List.Splits.{join_with_byte-slice_split}
use Rattle.names.proofs.CutLemmas.{slice_split-head, slice_get-drop}
use Rattle.fsa_types.specs.Paths.{PathFault, BadStream, component_fault, pieces_fault, stream_fault, is_separator, is_colon, path_pieces, components, rest_of}

-- the first of the pieces is sound, or at fault, and others follow
pub pieces_fault-more : (place : ℕ) (piece : List ℕ) (more : List (List ℕ)) → 0 < length more → component_fault place piece ≡ None
    → pieces_fault place (piece ∷ more) ≡ pieces_fault (place + (length piece + 1)) more
pieces_fault-more place piece more others sound =
    let sum : place + length piece + 1 ≡ place + (length piece + 1) = omega arith in
    rw (ne_eqb (length more) 0 (λ e. omega arith), sound, sum) refl

pub pieces_fault-here : (place : ℕ) (piece : List ℕ) (more : List (List ℕ)) (fault : PathFault) → 0 < length more → component_fault place piece ≡ Some fault
    → pieces_fault place (piece ∷ more) ≡ Some fault
pieces_fault-here place piece more fault others found = rw (ne_eqb (length more) 0 (λ e. omega arith), found) refl

-- more than three parts
pub stream_fault-four : (name stream kind : List ℕ) (parts : List (List ℕ)) → 0 < length parts → stream_fault (name ∷ stream ∷ kind ∷ parts) ≡ Some BadStream
stream_fault-four name stream kind [] others = absurd (omega arith)
stream_fault-four name stream kind (part ∷ parts) others = refl

-- ---- what a path says, from what is left of its pieces

pub component_at : (path tail : List ℕ) (i : ℕ) → i < length (components path) → slice_split is_separator tail ≡ drop i (path_pieces path)
    → slice_get (components path) i ≡ Some (before_first is_colon (before_first is_separator tail))
component_at path tail i within left =
    elim (cases_eq (length path) 1) [
      | inl root ↦ absurd (let none : i < 0 = rw (eq-eqb (length path) 1 root) at within in omega arith)
      | inr other ↦
          rw (ne_eqb (length path) 1 other, slice_get-map (before_first is_colon) (path_pieces path) i, slice_get-drop (path_pieces path) i, ← left, slice_split-head is_separator tail) refl
    ]

pub rest_at : (path tail : List ℕ) (i : ℕ) → slice_split is_separator tail ≡ drop i (path_pieces path) → tail ≡ rest_of path i
rest_at path tail i left = sym (join_with_byte-slice_split 92 tail) ∙ ap (join_with_byte 92) left
