use Rattle.std.proofs.Common.{eqb, sym}
use Rattle.script_read.proofs.ReadLemmas.{position_or_len-from_some, position_or_len-from_none}
use Rattle.script_read.proofs.word.end_before.Goals as goal

pub returns-in-Some-clause-end : goal.returns-in-Some-clause-end
returns-in-Some-clause-end c = position_or_len-from_some (λ byte. eqb byte c.args.mark) c.args.bytes.now _ (sym c.in-Some.ensures.place)

pub returns-in-None-clause-end : goal.returns-in-None-clause-end
returns-in-None-clause-end c = position_or_len-from_none (λ byte. eqb byte c.args.mark) c.args.bytes.now (sym c.in-None.ensures.place)
