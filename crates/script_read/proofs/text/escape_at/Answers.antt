use Rattle.std.proofs.Common.{arith}
use Rattle.script_read.proofs.ReadLemmas.{escaped_units-some, escaped_units-none}
use Rattle.script_read.proofs.text.escape_at.Goals as goal

pub returns-in-Some-clause-unit : goal.returns-in-Some-clause-unit
returns-in-Some-clause-unit c = escaped_units-some c.args.bytes.now _ (omega arith) c.in-Some.ensures

pub returns-in-None-clause-err : goal.returns-in-None-clause-err
returns-in-None-clause-err c = escaped_units-none c.args.bytes.now (omega arith) c.in-None.ensures
