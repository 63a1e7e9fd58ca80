-- The walk of a path, and a reparse point that stops it, as every try of a request with a path has them.
use Rattle.std.proofs.Common.{◌≡◌, ℕ, zero, suc, ◌≤◌, List, [], ◌∷◌, length, length-append, drop, refl, ap, arith, inl, inr, Some, None}
use Rattle.std.specs.List.{join_with_byte}
use Rattle.std.proofs.lemmas.List.{length-drop}
use Rattle.std.proofs.lemmas.List.Splits.{join_with_byte-slice_split}
use Rattle.fsa_types.specs.Paths.{rest_of, path_pieces}
use Rattle.fsa_types.specs.Rows.{row_of}
use Rattle.fsa_types.specs.declared.request.Call.{Call}
use Rattle.fsa_types.specs.declared.status.Status.TheVariants as status
use Rattle.fsa_model.specs.Bounds.{most_point_bytes}
use Rattle.fsa_model.specs.Frame.{most_reply_bytes, most_reply_units, PointsFit}
use Rattle.fsa_model.specs.Open.{stopped}
use Rattle.fsa_model.specs.Sound.{PointFits}
use Rattle.fsa_model.specs.Starving.{only_settlements_give}
use Rattle.fsa_model.specs.Volume.{File, Volume}
use Rattle.fsa_model.specs.Walk.{Walked, point_of, walk_from}
use Rattle.fsa_model.proofs.FaultStatuses.{BarsWithout, stop-fails, walk-fails}
use Rattle.fsa_model.proofs.ObeyLaws.{Obeys, Obeys-option, Obeys-refused, Obeys-replies_fit}
use Rattle.fsa_model.proofs.RowLaws.{option_cases, row_of-all}

-- ---- what is left of a path

join-drop : (parts : List (List ℕ)) (n : ℕ) → length (join_with_byte 92 (drop n parts)) ≤ length (join_with_byte 92 parts)
join-drop parts zero = omega arith
join-drop [] (suc n) = omega arith
join-drop (part ∷ []) (suc n) = few n
  where
    few : (k : ℕ) → length (join_with_byte 92 (drop k [])) ≤ length part
    few zero = omega arith
    few (suc k) = omega arith
join-drop (part ∷ next ∷ parts) (suc n) =
    let rest = join-drop (next ∷ parts) n in
    let whole = length-append part (92 ∷ join_with_byte 92 (next ∷ parts)) in
    omega arith

pub length-rest_of : (path : List ℕ) (next : ℕ) → length (rest_of path next) ≤ length path
length-rest_of path next =
    let fewer = join-drop (path_pieces path) next in
    let whole = ap (λ (units : List ℕ). length units) (join_with_byte-slice_split 92 (drop 1 path)) in
    let tail = length-drop 1 path in
    omega arith

-- ---- the walk of a path

-- a walk that is barred isn't so for want of memory, nor since all clients wait
abbrev pub BarsPlainly : Walked → Type 0
BarsPlainly walked = BarsWithout only_settlements_give walked

pub walk_from-plain : (v : Volume) (dir place : ℕ) (names : List (List ℕ)) → BarsPlainly (walk_from v dir place names)
walk_from-plain v dir place names = walk-fails only_settlements_give refl refl v names dir place

-- ---- a reparse point

-- what is there to be said of a point fits a reply
short : (v : Volume) (file : ℕ) (point : ℕ × List ℕ) → PointsFit v → point_of v file ≡ Some point → length point.1 ≤ most_point_bytes
short v file point fit is = elim (option_cases (row_of v.files file)) [
  | inl none ↦ (let impossible : None ≡ Some point = rw none at is in cc)
  | inr some ↦ (let here : some.0.point ≡ Some point = rw some.1 at is in
      let fits : PointFits some.0 = row_of-all (λ (row : File). PointFits row) v.files file some.0 some.1 fit in rw here at fits)
]

-- a reparse point stops it
pub stopped-obeys : (call : Call) (v : Volume) (file : ℕ) (rest : List ℕ) → most_point_bytes ≤ most_reply_bytes call.what → length rest ≤ most_reply_units call.what → Obeys call v (stopped v file rest)
unfolding stopped
stopped-obeys call v file rest bytes units =
    Obeys-option (point_of v file) _ _
    (λ point is. Obeys-replies_fit call v _ (λ fit. record { bytes = (let few = short v file point fit is in omega arith); units = units }) (stop-fails only_settlements_give point.0 refl refl))
    (Obeys-refused call v status.ObjectPathNotFound refl)
