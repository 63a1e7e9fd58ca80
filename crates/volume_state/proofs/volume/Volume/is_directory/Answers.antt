use Rattle.std.proofs.Common.{◌∙◌, ap, sym}
use Rattle.fsa_model.specs.Volume.{File}
use Rattle.volume_state.proofs.KindLaws.{is_directory-row}
use Rattle.volume_state.proofs.volume.Volume.is_directory.Goals as goal

pub returns-in-None : goal.returns-in-None
returns-in-None c =
    rw (← c.self.view_is) (sym (rw (← c.in-None.ensures) at (is_directory-row c.self.inside.files.rows c.self.inside.files.last c.args.file c.self.invariant.0.files_numbered)))

pub returns-in-Some : goal.returns-in-Some
returns-in-Some c =
    let found = rw (← c.in-Some.ensures) at (is_directory-row c.self.inside.files.rows c.self.inside.files.last c.args.file c.self.invariant.0.files_numbered) in
    rw (← c.self.view_is) (ap (λ (file : File). file.directory) c.row.view_is ∙ sym found)
