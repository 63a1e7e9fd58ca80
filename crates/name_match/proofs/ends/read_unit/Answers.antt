use Rattle.std.proofs.Common.{rules, refl, ◌≡◌, ◌-◌, drop, get_or, sym, arith, ◌∙◌}
use Rattle.std.proofs.lemmas.Bool.{ne_eqb}
use Rattle.fsa_types.specs.Match.{is_last_dot, matches}
use Rattle.name_match.proofs.DeadLaws.{IsBeingRead-set, NoneFrom-less, cell-read}
use Rattle.name_match.proofs.ends.read_unit.Goals.{then-is_dot, else-is_dot}
use Rattle.name_match.proofs.ends.read_unit.Goals as goal

pub loop-place-preserved : goal.loop-place-preserved
loop-place-preserved c =
    let last : c.if-is_dot.is_last_dot ≡ is_last_dot (get_or c.args.name.now 0 0) (drop 1 c.args.name.now) = elim c.if-is_dot.branch [
      | then-is_dot w ↦ w.is_last_dot-is ∙ rw (w.if-is_dot.true, c.requires.dot) refl
      | else-is_dot w ↦ w.is_last_dot-is ∙ rw (ne_eqb (get_or c.args.name.now 0 0) 46 w.if-is_dot.false) refl
    ] in
    let here : c.cell-set.result ≡ matches c.args.table.now (drop (c.loop-place.place - 1) c.args.expression.now) c.args.name.now
    = cell-read c.args.table.now c.args.expression.now c.args.name.now c.loop-place.row c.loop-place.next c.loop-place.place (c.loop-place.place - 1) _ _ _ c.cell-set.result
    c.requires.unit (omega (arith, c.loop-place-test.true)) (omega (arith, c.loop-place-test.true, c.loop-place.auto.place))
    (rw (c.requires.upcased.cells (c.loop-place.place - 1) (omega (arith, c.loop-place-test.true, c.loop-place.auto.place)), c.up-first.ensures) refl) refl last c.cell-set.ensures c.loop-place.invariant.row in
    record {
      row = IsBeingRead-set c.args.table.now c.args.expression.now c.args.name.now c.loop-place.row c.loop-place.next c.loop-place.place (c.loop-place.place - 1) c.cell-set.result
          (omega (arith, c.loop-place-test.true)) (search rules) here c.loop-place.invariant.row;
      dead = λ unset. NoneFrom-less c.args.table.now c.args.expression.now c.args.name.now c.loop-place.place (c.loop-place.place - 1)
          (omega (arith, c.loop-place-test.true)) (sym here ∙ unset) (c.loop-place.invariant.dead c.if-lives.false);
    }
