use Rattle.std.proofs.Common.{◌≡◌, true, false, ◌==◌, ◌&&◌}
use Rattle.fsa_types.specs.Rows.{lives}
use Rattle.fsa_model.specs.Lookups.{has_row, is_directory}
use Rattle.fsa_model.specs.Sound.{LeadsUp}
use Rattle.fsa_model.specs.Volume.{Link}
use Rattle.fsa_model.proofs.RowLaws.{found-all, lent-row}
use Rattle.fsa_model.proofs.SoundLaws.{LeadsUp-file, childless, one-mark, tree_of}
use Rattle.volume_state.specs.Content.{content_of}
use Rattle.volume_state.specs.Living.{is_link_to}
use Rattle.volume_state.proofs.OpenLaws.{lent-lives, linked}
use Rattle.fsa_model.specs.Lookups.{has_child}
use Rattle.fsa_model.specs.Sound.{is_link_of_directory}
use Rattle.volume_state.proofs.OpenLaws.{linked-directory, found-number}
use Rattle.volume_state.proofs.volume.Volume.link.Goals as goal

pub returns-clause-file : goal.returns-clause-file
returns-clause-file c =
    let P : Link → Type 0 = λ row. lives c.self.inside.files.rows row.file ≡ true in
    rw (← c.self.view_is) (lent-row P c.get.result _ c.get.ensures (found-all P c.self.inside.links.rows c.args.id c.self.invariant.0.tree.link_files_live))

pub returns-clause-parent : goal.returns-clause-parent
returns-clause-parent c =
    let P : Link → Type 0 = λ row. is_directory c.self.inside.files.rows row.parent ≡ true in
    rw (← c.self.view_is) (lent-row P c.get.result _ c.get.ensures (found-all P c.self.inside.links.rows c.args.id c.self.invariant.0.tree.parents_are_directories))

pub returns-clause-leads : goal.returns-clause-leads
returns-clause-leads c =
    let P : Link → Type 0 = λ row. is_directory c.self.inside.files.rows row.file ≡ true → LeadsUp c.self.inside.links.rows row.file in
    rw (← c.self.view_is) (lent-row P c.get.result _ c.get.ensures (found-all P c.self.inside.links.rows c.args.id
    (λ k d within directory. LeadsUp-file (content_of c.self.inside) (tree_of (content_of c.self.inside) c.self.invariant.0) k d within)))

pub returns-clause-not_root : goal.returns-clause-not_root
returns-clause-not_root c =
    let P : Link → Type 0 = λ row. (row.file == 1) ≡ false in
    lent-row P c.get.result _ c.get.ensures (found-all P c.self.inside.links.rows c.args.id c.self.invariant.0.tree.root_has_no_link)

pub returns-clause-linked : goal.returns-clause-linked
returns-clause-linked c =
    let P : Link → Type 0 = λ row. is_link_to c.self.inside.links.rows c.args.id row.file ≡ true in
    rw (← c.self.view_is) (lent-row P c.get.result _ c.get.ensures (linked c.self.inside.links.rows c.args.id))

pub returns-clause-lives : goal.returns-clause-lives
returns-clause-lives c = rw (← c.self.view_is) (lent-lives c.self.inside.links.rows c.args.id c.get.result c.get.ensures)

pub returns-clause-mark : goal.returns-clause-mark
returns-clause-mark c =
    let P : Link → Type 0 = λ row. is_directory c.self.inside.files.rows row.file ≡ true → has_row (λ link. link.file == row.file && link.deleted) c.self.inside.links.rows ≡ row.deleted in
    rw (← c.self.view_is) (lent-row P c.get.result _ c.get.ensures (found-all P c.self.inside.links.rows c.args.id (one-mark (content_of c.self.inside) (tree_of (content_of c.self.inside) c.self.invariant.0))))

pub returns-clause-directory : goal.returns-clause-directory
returns-clause-directory c =
    let P : Link → Type 0 = λ row. is_directory c.self.inside.files.rows row.file ≡ true → is_link_of_directory c.self.inside.files.rows c.self.inside.links.rows c.args.id ≡ true in
    rw (← c.self.view_is) (lent-row P c.get.result _ c.get.ensures (linked-directory c.self.inside.files.rows c.self.inside.links.rows c.args.id))

pub returns-clause-childless : goal.returns-clause-childless
returns-clause-childless c =
    let P : Link → Type 0 = λ row. is_directory c.self.inside.files.rows row.file ≡ false → has_child c.self.inside.links.rows row.file ≡ false in
    rw (← c.self.view_is) (lent-row P c.get.result _ c.get.ensures (found-all P c.self.inside.links.rows c.args.id (λ k d within. childless (content_of c.self.inside) (tree_of (content_of c.self.inside) c.self.invariant.0) _)))

pub returns-clause-number : goal.returns-clause-number
returns-clause-number c =
    let P : Link → Type 0 = λ row. (c.args.id == 0) ≡ false in
    lent-row P c.get.result _ c.get.ensures (found-number c.self.inside.links.rows c.args.id c.self.invariant.0.tree.numbers_are_not_0)

pub returns-clause-empty : goal.returns-clause-empty
returns-clause-empty c =
    let P : Link → Type 0 = λ row. row.deleted ≡ true → has_child c.self.inside.links.rows row.file ≡ false in
    rw (← c.self.view_is) (lent-row P c.get.result _ c.get.ensures (found-all P c.self.inside.links.rows c.args.id (λ k d within deleted. rw deleted at (c.self.invariant.0.tree.marked_are_empty k d within))))
