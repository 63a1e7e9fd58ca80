use Rattle.notify_queue.proofs.LogLemmas.{IsLog-finish}
use Rattle.notify_queue.proofs.part.LogPart.finish.Goals as goal

pub invariant_of-self : goal.invariant_of-self
invariant_of-self c =
    rw (c.push.ensures.items, c.len.ensures, c.len-2.ensures, c.len-self-inside.ensures, c.len-self-inside-2.ensures)
    (IsLog-finish c.self.inside.units.items c.self.inside.dirs.items c.self.inside.entries.items c.self.inside.first_unit c.self.inside.first_dir c.args.action c.args.bits c.self.invariant)
