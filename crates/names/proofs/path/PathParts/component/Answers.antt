use Rattle.names.proofs.PathLemmas.{component_at}
use Rattle.names.proofs.path.PathParts.component.Goals as goal

pub returns : goal.returns
returns c = rw (c.before-3.ensures, c.before-2.ensures) (component_at c.args.self.now c.tail.result.now c.args.i c.requires c.tail.ensures)
