use Rattle.std.proofs.Common.{◌∙◌, ap, sym}
use Rattle.std.proofs.Math.ListN.{set}
use Rattle.fsa_types.specs.OplockLists.{break_begun}
use Rattle.volume_breaks.proofs.PlaceLemmas.{begun-none, begun-there}
use Rattle.volume_breaks.proofs.oplock_list.begin_break.Goals as goal

pub returns-in-Some : goal.returns-in-Some
returns-in-Some c =
    let rows = c.args.rows.now in
    let row = c.index-rows-place.result in
    ap (set rows c.in-Some.place) (c.with_break_begun.ensures ∙ ap (break_begun c.args.handle c.args.level c.args.number) c.index-rows-place.is)
    ∙ begun-there rows c.args.handle c.in-Some.place c.args.level c.args.number row c.requires.differ (sym c.place_of.ensures ∙ c.in-Some.is)

pub returns-in_default : goal.returns-in_default
returns-in_default c = begun-none c.args.rows.now c.args.handle c.args.level c.args.number (sym c.place_of.ensures ∙ c.in_default.is)
