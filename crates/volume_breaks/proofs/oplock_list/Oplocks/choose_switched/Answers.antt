use Rattle.std.proofs.Common.{◌∙◌, List, ap}
use Rattle.std.specs.Prelude.{filter}
use Rattle.fsa_types.specs.OplockGrants.{is_of_key}
use Rattle.fsa_types.specs.Oplocks.{Oplock}
use Rattle.fsa_model.specs.Grant.{is_oplock_on}
use Rattle.volume_breaks.specs.Oplocks.{OplocksView}
use Rattle.volume_breaks.proofs.GrantLemmas.{switched-on}
use Rattle.volume_breaks.proofs.oplock_list.Oplocks.choose_switched.Goals as goal

pub returns : goal.returns
returns c =
    c.keep_of_key.ensures
    ∙ ap (λ (held : OplocksView). record held { chosen = filter (is_of_key c.args.handle c.args.key) held.chosen }) c.choose_on.ensures
    ∙ ap (λ (chosen : List Oplock). record c.args.self.now { chosen = chosen }) (switched-on (is_oplock_on c.args.tree.now c.args.stream) c.args.handle c.args.key c.args.self.now.rows)
