use Rattle.std.proofs.Common.{◌∙◌, sym}
use Rattle.fsa_types.proofs.RowLemmas.{row_of-none}
use Rattle.volume_breaks.proofs.WaitingLemmas.{row-there}
use Rattle.volume_breaks.proofs.pending_calls.row_under.Goals as goal

pub returns-in-None : goal.returns-in-None
returns-in-None c = sym (row_of-none c.args.rows.now c.args.turn (sym c.place_of.ensures ∙ c.in-None.is))

pub returns-in-Some : goal.returns-in-Some
returns-in-Some c = row-there c.args.rows.now c.in-Some.place c.args.turn c.index-rows-place.result c.requires.differ (sym c.place_of.ensures ∙ c.in-Some.is)
