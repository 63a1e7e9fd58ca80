use Rattle.std.proofs.Common.{◌∙◌, ap, sym}
use Rattle.std.proofs.Math.ListN.{set}
use Rattle.fsa_types.specs.OplockLists.{lowered}
use Rattle.volume_breaks.proofs.PlaceLemmas.{lowered-none, lowered-there}
use Rattle.volume_breaks.proofs.oplock_list.lower.Goals as goal

pub returns-in-Some : goal.returns-in-Some
returns-in-Some c =
    let rows = c.args.rows.now in
    let row = c.index-rows-place.result in
    ap (set rows c.in-Some.place) (c.with_target.ensures ∙ ap (lowered c.args.handle c.args.level) c.index-rows-place.is)
    ∙ lowered-there rows c.args.handle c.in-Some.place c.args.level row c.requires.differ (sym c.place_of.ensures ∙ c.in-Some.is)

pub returns-in_default : goal.returns-in_default
returns-in_default c = lowered-none c.args.rows.now c.args.handle c.args.level (sym c.place_of.ensures ∙ c.in_default.is)
