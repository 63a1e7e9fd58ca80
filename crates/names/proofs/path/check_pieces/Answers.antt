use Rattle.std.proofs.Common.{◌∙◌, sym, ap, length, arith}
use Rattle.std.proofs.lemmas.Result.{err_from_is_err_and}
use Rattle.std.specs.List.{slice_split}
use Rattle.fsa_types.specs.Paths.{is_separator, pieces_fault}
use Rattle.names.proofs.CutLemmas.{slice_split-some_part}
use Rattle.names.proofs.PathLemmas.{pieces_fault-more, pieces_fault-here}
use Rattle.names.proofs.path.check_pieces.Goals as goal

pub returns-in_err-check_component-clause-fault : goal.returns-in_err-check_component-clause-fault
returns-in_err-check_component-clause-fault c =
    let p = err_from_is_err_and c.from_residual.result c.from_residual.ensures.1 in
    rw (p.1, p.2) (sym c.pieces.invariant.fault ∙ ap (pieces_fault c.pieces.place) c.in-Some.ensures.parts
    ∙ pieces_fault-here c.pieces.place c.in-Some.piece.now (slice_split is_separator c.in-Some.more.now) _ (slice_split-some_part is_separator c.in-Some.more.now) c.in_err-check_component.ensures)

pub pieces-preserved : goal.pieces-preserved
pieces-preserved c = record {
  place = omega (arith, c.in-Some.ensures.len);
  below = omega arith;
  count = omega (arith, ap length c.in-Some.ensures.parts);
  fault =
      sym (pieces_fault-more c.pieces.place c.in-Some.piece.now (slice_split is_separator c.in-Some.more.now) (slice_split-some_part is_separator c.in-Some.more.now) c.in_ok-check_component.ensures)
      ∙ ap (pieces_fault c.pieces.place) (sym c.in-Some.ensures.parts) ∙ c.pieces.invariant.fault;
}
