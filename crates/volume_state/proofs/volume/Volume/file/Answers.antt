use Rattle.std.proofs.Common.{◌≡◌}
use Rattle.fsa_model.proofs.RowLaws.{lent-row}
use Rattle.fsa_model.specs.Lookups.{is_directory}
use Rattle.fsa_model.specs.Volume.{File}
use Rattle.volume_state.proofs.OpenLaws.{lent-lives, only-row}
use Rattle.volume_state.proofs.volume.Volume.file.Goals as goal

pub returns-clause-lives : goal.returns-clause-lives
returns-clause-lives c = rw (← c.self.view_is) (lent-lives c.self.inside.files.rows c.args.id c.get.result c.get.ensures)

pub returns-clause-directory : goal.returns-clause-directory
returns-clause-directory c =
    let P : File → Type 0 = λ row. is_directory c.self.inside.files.rows c.args.id ≡ row.directory in
    rw (← c.self.view_is) (lent-row P c.get.result _ c.get.ensures (only-row (λ file. file.directory) c.self.inside.files.rows c.args.id c.self.invariant.0.files_numbered.rising))
