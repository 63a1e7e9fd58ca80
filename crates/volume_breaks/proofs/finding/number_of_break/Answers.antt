use Rattle.std.proofs.Common.{◌∙◌, sym, ap}
use Rattle.fsa_types.specs.Oplocks.{Oplock}
use Rattle.volume_breaks.proofs.PlaceLemmas.{break-none, break-there}
use Rattle.volume_breaks.proofs.finding.number_of_break.Goals as goal

pub returns-in-None : goal.returns-in-None
returns-in-None c = break-none c.args.oplocks.now c.args.handle (sym c.place_of.ensures ∙ c.in-None.is)

pub returns-in-Some : goal.returns-in-Some
returns-in-Some c =
    ap (λ (o : Oplock). o.number) (c.oplock.view_is ∙ c.index-oplocks-place.is)
    ∙ break-there c.args.oplocks.now c.args.handle c.in-Some.place c.index-oplocks-place.result c.requires.differ (sym c.place_of.ensures ∙ c.in-Some.is)
