use Rattle.std.proofs.Common.{◌∙◌}
use Rattle.fsa_types.specs.Sharing.{clash}
use Rattle.fsa_model.specs.Lookups.{is_open_by}
use Rattle.volume_tables.specs.ShareTable.{held_in}
use Rattle.volume_tables.proofs.OpenLemmas.{any-open}
use Rattle.volume_tables.proofs.handle_shares.HandleShares.clashes_by.Goals as goal

pub returns : goal.returns
returns c rows is =
    let i = c.self.inside in
    let mine = rw (← c.self.view_is) at is in
    c.clashes.ensures ∙ any-open (is_open_by c.args.link) rows (held_in i.links.rows c.args.link) (mine.links c.args.link) (λ other. clash c.args.access c.args.share other.0 other.1)
