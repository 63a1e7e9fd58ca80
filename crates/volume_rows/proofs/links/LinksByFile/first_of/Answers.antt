use Rattle.std.proofs.Common.{◌==◌, ◌∙◌}
use Rattle.volume_rows.proofs.FileLemmas.{row-found}
use Rattle.volume_rows.proofs.links.LinksByFile.first_of.Goals as goal

pub returns-in-Some : goal.returns-in-Some
returns-in-Some c =
    let i = c.self.inside in
    rw (← c.self.view_is) (c.get.ensures ∙ row-found (λ link. link.1.file == c.args.file) i.links.rows i.links.last c.in-Some.id c.len-numbered.ensures.numbered (rw (← c.self.view_is) at c.in-Some.ensures))
