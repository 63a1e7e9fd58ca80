use Rattle.names.proofs.PathLemmas.{rest_at}
use Rattle.names.proofs.path.PathParts.rest.Goals as goal

pub returns : goal.returns
returns c = rest_at c.args.self.now c.tail.result.now c.args.i c.tail.ensures
