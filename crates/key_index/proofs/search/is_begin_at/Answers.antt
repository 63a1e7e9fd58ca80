use Rattle.key_index.proofs.KeyLemmas.{begin-here}
use Rattle.key_index.proofs.search.is_begin_at.Goals as goal

pub returns-then-is_lower_before : goal.returns-then-is_lower_before
returns-then-is_lower_before c is =
    begin-here c.args.entries.now c.args.place c.args.key c.requires.rising c.requires.bound (c.is_lower_before.ensures c.if-is_lower_before.true) (c.is_no_lower_at.ensures is)
