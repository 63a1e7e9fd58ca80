use Rattle.std.proofs.Common.{ℕ, ◌==◌, ◌&&◌}
use Rattle.std.proofs.lemmas.Bool.{and_left}
use Rattle.std.proofs.lemmas.List.Folds.{list_any_none}
use Rattle.fsa_model.specs.Volume.{Link}
use Rattle.volume_state.proofs.OpenLaws.{row_of-0}
use Rattle.volume_state.proofs.volume.Volume.root.Goals as goal

pub returns-clause-unmarked : goal.returns-clause-unmarked
returns-clause-unmarked c =
    rw (← c.self.view_is) (list_any_none (λ (e : ℕ × Link). e.1.file == 1 && e.1.deleted) c.self.inside.links.rows (λ k d within. and_left _ _ (c.self.invariant.0.tree.root_has_no_link k d within)))

pub returns-clause-no_link : goal.returns-clause-no_link
returns-clause-no_link c = rw (← c.self.view_is) (row_of-0 c.self.inside.links.rows c.self.invariant.0.tree.numbers_are_not_0)
