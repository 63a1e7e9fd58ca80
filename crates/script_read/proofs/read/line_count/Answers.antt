use Rattle.script_read.proofs.ScriptLemmas.{length-pieces}
use Rattle.script_read.proofs.read.line_count.Goals as goal

pub returns-clause-count : goal.returns-clause-count
returns-clause-count c = length-pieces c.args.bytes.now _ c.feed_count.ensures.count
