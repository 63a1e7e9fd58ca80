use Rattle.std.proofs.Common.{refl}
use Rattle.volume_state.proofs.KeptLaws.{all-within, kept-trimmed, may-trim}
use Rattle.volume_state.proofs.volume.Volume.trim_changes.Goals as goal

pub least_place-base-requires : goal.least_place-base-requires
least_place-base-requires c = record {
  within = rw (c.as_slice.ensures, c.len-end.ensures, c.log.ensures.changes) (all-within c.self.inside.changes.base _ c.self.inside.watches.items c.self.invariant.5);
}

pub trim-requires : goal.trim-requires
trim-requires c = record {
  from = rw (c.least_place-base.ensures, c.as_slice.ensures, c.len-end.ensures, c.log.ensures.changes) (may-trim c.self.inside.changes.base _ c.self.inside.watches.items c.self.invariant.5).0;
  to = rw (c.least_place-base.ensures, c.as_slice.ensures, c.len-end.ensures, c.log.ensures.changes) (may-trim c.self.inside.changes.base _ c.self.inside.watches.items c.self.invariant.5).1;
}

pub invariant_of-self : goal.invariant_of-self
invariant_of-self c = (
  rw c.trim.ensures.changes c.self.invariant.0,
  c.self.invariant.1,
  c.self.invariant.2,
  c.self.invariant.3,
  rw c.trim.ensures.changes c.self.invariant.4,
  rw (c.trim.ensures.changes, c.trim.ensures.base, c.least_place-base.ensures, c.as_slice.ensures, c.len-end.ensures, c.log.ensures.changes) (kept-trimmed c.self.inside.changes.base _ c.self.inside.watches.items c.self.invariant.5),
)

pub returns-clause-beside : goal.returns-clause-beside
returns-clause-beside c = rw (← c.self.view_is, c.trim.ensures.base, c.least_place-base.ensures, c.as_slice.ensures, c.len-end.ensures, c.log.ensures.changes) refl
