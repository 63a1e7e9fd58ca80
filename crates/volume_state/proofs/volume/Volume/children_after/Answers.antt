use Rattle.std.proofs.Common.{ℕ, Bool, ◌∙◌, ap}
use Rattle.std.specs.Prelude.{filter}
use Rattle.std.specs.Option.{option_copied}
use Rattle.fsa_model.specs.Volume.{Link}
use Rattle.link_index.specs.Beginnings.{begins_with}
use Rattle.volume_state.specs.Children.{is_unmarked}
use Rattle.volume_state.specs.Content.{content_of}
use Rattle.volume_state.proofs.ChildLaws.{children-listed, children-under}
use Rattle.volume_state.proofs.volume.Volume.children_after.Goals as goal

pub returns-clause-links : goal.returns-clause-links
returns-clause-links c =
    let v = content_of c.self.inside in
    let begins : ℕ × Link → Bool = λ e. begins_with v.table c.args.units.now e.1.name in
    rw (← c.self.view_is, c.children_beginning.ensures) (children-under v c.args.dir (option_copied c.args.after) begins c.self.invariant.0)

pub returns-clause-listed : goal.returns-clause-listed
returns-clause-listed c =
    let v = content_of c.self.inside in
    let begins : ℕ × Link → Bool = λ e. begins_with v.table c.args.units.now e.1.name in
    rw (← c.self.view_is, c.children_beginning.ensures)
    (ap (filter is_unmarked) (children-under v c.args.dir (option_copied c.args.after) begins c.self.invariant.0)
    ∙ children-listed v c.args.dir (option_copied c.args.after) begins c.self.invariant.0)
