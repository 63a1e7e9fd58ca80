use Rattle.notify_queue.proofs.LogLemmas.{changes_of-units, seen-units}
use Rattle.notify_queue.proofs.part.LogPart.add_unit.Goals as goal

pub returns-clause-changes : goal.returns-clause-changes
returns-clause-changes c =
    rw (← c.self.view_is, c.push.ensures.items) (changes_of-units c.self.inside.units.items _ c.self.inside.dirs.items c.self.inside.entries.items _ _ c.self.invariant)

pub returns-clause-seen : goal.returns-clause-seen
returns-clause-seen c =
    rw (← c.self.view_is, c.push.ensures.items) (seen-units c.self.inside.units.items _ c.self.inside.dirs.items c.self.inside.entries.items _ _ c.self.invariant)
