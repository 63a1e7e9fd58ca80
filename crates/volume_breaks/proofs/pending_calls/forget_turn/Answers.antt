use Rattle.std.proofs.Common.{◌≡◌, Some, ap, refl, sym, ◌∙◌}
use Rattle.fsa_types.specs.Rows.{row_of}
use Rattle.fsa_model.specs.Volume.{Pending}
use Rattle.volume_breaks.proofs.WaitingLemmas.{row-there}
use Rattle.volume_breaks.proofs.pending_calls.forget_turn.Goals as goal

pub returns-clause-calls : goal.returns-clause-calls
returns-clause-calls c last numbered is =
    let row : Pending = record { call = c.row.inside.call; blockers = c.row.inside.blockers.items } in
    let found : row_of c.args.rows.now c.args.turn ≡ Some row
    = sym (row-there c.args.rows.now c.args.place c.args.turn c.index-rows-place.result c.requires.differ c.requires.there) ∙ ap Some (sym c.row.view_is) in
    c.remove.ensures.calls c.args.rows.now last row numbered found refl is

pub returns-clause-handles : goal.returns-clause-handles
returns-clause-handles c last numbered is =
    let row : Pending = record { call = c.row.inside.call; blockers = c.row.inside.blockers.items } in
    let found : row_of c.args.rows.now c.args.turn ≡ Some row
    = sym (row-there c.args.rows.now c.args.place c.args.turn c.index-rows-place.result c.requires.differ c.requires.there) ∙ ap Some (sym c.row.view_is) in
    c.remove.ensures.handles c.args.rows.now last row numbered found refl is
