use Rattle.std.proofs.Common.{Some, ap, ◌∙◌, sym}
use Rattle.fsa_model.specs.Volume.{Pending}
use Rattle.volume_breaks.proofs.WaitingLemmas.{call-at, call-none}
use Rattle.volume_breaks.proofs.pending_calls.call_of.Goals as goal

pub returns-in-None : goal.returns-in-None
returns-in-None c = call-none c.args.rows.now c.args.turn (sym c.place_of.ensures ∙ c.in-None.is)

pub returns-in-Some : goal.returns-in-Some
returns-in-Some c =
    ap (λ (row : Pending). Some row.call) c.row.view_is
    ∙ call-at c.args.rows.now c.in-Some.place c.args.turn c.index-rows-place.result c.requires.differ (sym c.place_of.ensures ∙ c.in-Some.is)
