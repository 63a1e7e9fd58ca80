use Rattle.std.proofs.Common.{List, ap, sym, ◌∙◌, arith}
use Rattle.std.specs.Prelude.{map, min}
use Rattle.volume_state.specs.Watches.{least_place, watch_of_row}
use Rattle.volume_state.specs.declared.watch_row.WatchRow.{WatchRow}
use Rattle.volume_state.proofs.KeptLaws.{least-first, least-step}
use Rattle.volume_state.proofs.watches.least_place.Goals as goal

pub rows-init : goal.rows-init
rows-init c = record { least = least-first c.args.rows.now c.args.end; most = omega arith }

pub rows-preserved : goal.rows-preserved
rows-preserved c = record {
  least = least-step c.in-Some.more.now c.in-Some.row.now c.args.end c.rows.least c.smaller-least.result c.smaller-least.ensures
      ∙ ap (λ (rows : List WatchRow). min c.rows.least (least_place (map watch_of_row rows) c.args.end)) (sym c.in-Some.ensures.cases.0) ∙ c.rows.invariant.least;
  most = (let most = c.rows.invariant.most in omega (arith, c.smaller-least.ensures));
}
