use Rattle.std.proofs.Common.{◌≡◌, ◌∙◌, None, sym}
use Rattle.fsa_model.specs.Lookups.{file_of_link}
use Rattle.fsa_model.proofs.RowLaws.{lives-found}
use Rattle.volume_state.proofs.WatchedLaws.{linked-home}
use Rattle.volume_state.proofs.watches.new_row.Goals as goal

pub unreachable-requires : goal.unreachable-requires
unreachable-requires c = lives-found c.args.handles.now.rows c.args.handle c.requires.living (sym c.in_default.ensures)

pub unreachable-requires-in_default-file_of_link : goal.unreachable-requires-in_default-file_of_link
unreachable-requires-in_default-file_of_link c =
    let none : file_of_link c.args.links.now.rows c.row.inside.link ≡ None = sym c.file_of_link.ensures ∙ c.in_default-file_of_link.is in
    linked-home c.args.links.now.rows c.row.inside.link (rw (← c.in-Some.ensures, ← c.row.view_is) at c.requires.linked) none
