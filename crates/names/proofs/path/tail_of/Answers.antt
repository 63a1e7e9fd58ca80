use Rattle.std.proofs.Common.{◌∙◌, sym, ap, ℕ, List, length, drop, arith}
use Rattle.std.proofs.lemmas.List.{length-drop, drop-drop}
use Rattle.std.specs.List.{slice_split}
use Rattle.fsa_types.specs.Paths.{is_separator}
use Rattle.names.proofs.path.tail_of.Goals as goal

pub unreachable-requires : goal.unreachable-requires
unreachable-requires c = omega (arith, ap length c.in_default.ensures.parts, ap length c.loop-place.invariant, length-drop {A = List ℕ})

pub loop-place-preserved : goal.loop-place-preserved
loop-place-preserved c =
    ap (drop 1) (sym c.in-Some.ensures.parts ∙ c.loop-place.invariant) ∙ drop-drop 1 c.loop-place._place (slice_split is_separator c.args.rest.now)
