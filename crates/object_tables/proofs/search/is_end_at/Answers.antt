use Rattle.object_tables.proofs.NextLemmas.{end-here}
use Rattle.object_tables.proofs.search.is_end_at.Goals as goal

pub returns-then-is_up_to_before : goal.returns-then-is_up_to_before
returns-then-is_up_to_before g c is =
    end-here c.args.rows.now c.args.place c.args.after c.requires.rising (c.is_up_to_before.ensures c.if-is_up_to_before.true) (c.is_above_at.ensures is) c.requires.bound
