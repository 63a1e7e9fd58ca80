use Rattle.std.proofs.Common.{◌==◌}
use Rattle.volume_rows.proofs.FileLemmas.{found-any}
use Rattle.volume_rows.proofs.links.LinksByFile.has_link_of.Goals as goal

pub returns : goal.returns
returns c = rw (c.is_some.ensures, c.number_of.ensures) (found-any (λ link. link.1.file == c.args.file) c.args.self.now.rows)
