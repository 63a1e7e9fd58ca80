use Rattle.std.proofs.Common.{ap, ◌∙◌}
use Rattle.std.specs.Option.{option_map_or}
use Rattle.fsa_types.specs.CaseTable.{up}
use Rattle.link_index.proofs.HeadLemmas.{unit-upcased}
use Rattle.link_index.proofs.head.unit_at.Goals as goal

pub returns-in-None : goal.returns-in-None
returns-in-None c = ap (λ o. option_map_or (up c.args.upcase.now) o 0) c.in-None.ensures ∙ unit-upcased c.args.upcase.now c.args.units.now c.args.place

pub returns-in-Some : goal.returns-in-Some
returns-in-Some c = c.up.ensures ∙ ap (λ o. option_map_or (up c.args.upcase.now) o 0) c.in-Some.ensures ∙ unit-upcased c.args.upcase.now c.args.units.now c.args.place
