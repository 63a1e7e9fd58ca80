use Rattle.notify_queue.proofs.LogLemmas.{changes_of-dirs}
use Rattle.notify_queue.proofs.part.LogPart.add_dir.Goals as goal

pub returns-clause-changes : goal.returns-clause-changes
returns-clause-changes c =
    rw (← c.self.view_is, c.push.ensures.items) (changes_of-dirs c.self.inside.units.items c.self.inside.dirs.items _ c.self.inside.entries.items _ _ c.self.invariant)
