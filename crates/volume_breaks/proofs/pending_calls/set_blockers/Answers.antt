use Rattle.std.proofs.Common.{◌≡◌, Some, sym, ◌∙◌, ap}
use Rattle.std.specs.List.{position}
use Rattle.std.specs.Prelude.{◌==◌}
use Rattle.fsa_types.proofs.RowLemmas.{IsAt-position, fails-none}
use Rattle.fsa_model.specs.Volume.{Pending}
use Rattle.volume_breaks.proofs.CallLemmas.{changed-at, unchanged}
use Rattle.volume_breaks.proofs.pending_calls.set_blockers.Goals as goal

pub returns-in-Some-clause-items : goal.returns-in-Some-clause-items
returns-in-Some-clause-items c =
    let rows = c.args.rows.now.items in
    let entry = c.at_mut.result.now in
    let found : position (λ e. e.0 == c.args.turn) rows ≡ Some c.in-Some.place = rw c.as_slice.ensures at (sym c.place_of.ensures ∙ c.in-Some.is) in
    let at = IsAt-position rows c.args.turn c.in-Some.place entry found in
    let number : entry.0 ≡ c.args.turn = ap (λ e. e.0) c.at_mut.ensures.value ∙ at.here entry in
    rw (c.set_in_row.ensures, number, c.at_mut.ensures.value)
    (changed-at (λ (row : Pending). record row { blockers = c.args.blockers.items }) rows c.args.turn c.in-Some.place entry c.requires.differ at.within (at.here entry))

pub returns-in_default-clause-items : goal.returns-in_default-clause-items
returns-in_default-clause-items c =
    unchanged (λ (row : Pending). record row { blockers = c.args.blockers.items }) c.args.rows.now.items c.args.turn
    (fails-none c.args.rows.now.items c.args.turn (rw c.as_slice.ensures at (sym c.place_of.ensures ∙ c.in_default.is)))
