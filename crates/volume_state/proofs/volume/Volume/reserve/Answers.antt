use Rattle.std.proofs.Common.{rules}
use Rattle.volume_state.proofs.SortedLaws.{homes-fit}
use Rattle.volume_state.specs.Content.{content_of}
use Rattle.volume_state.proofs.volume.Volume.reserve.Goals as goal

pub returns-clause-room : goal.returns-clause-room
returns-clause-room c = record {
  files = c.in_ok-reserve_objects.ensures.room.0;
  links = c.in_ok-reserve_objects.ensures.room.1;
  streams = c.in_ok-reserve_objects.ensures.room.2;
  handles = c.in_ok-reserve_handles.ensures.room;
  owners = c.in_ok-reserve_objects.ensures.room.3;
  locks = c.in_ok-reserve_handles.ensures.locks;
  oplocks = c.in_ok-reserve_handles.ensures.oplock_room;
  watches = c.in_ok-reserve_notes.ensures.rows.0;
  limits = c.in_ok-reserve_notes.ensures.rows.1;
  pending = c.in_ok-reserve_calls.ensures.room.0;
  blockers = c.in_ok-reserve_calls.ensures.room.1;
  changes = c.in_ok-reserve_notes.ensures.room.0;
  ends = c.in_ok-reserve_calls.ensures.room.2;
  units = c.in_ok-reserve_notes.ensures.room.1;
  dirs = c.in_ok-reserve_notes.ensures.room.2;
}

pub reserve_handles-requires : goal.reserve_handles-requires
reserve_handles-requires c = record { fit = homes-fit (content_of c.self.inside) c.self.invariant.0 }

pub invariant_of-self-in_err-reserve_handles : goal.invariant_of-self-in_err-reserve_handles
invariant_of-self-in_err-reserve_handles c = (
  search rules,
  search rules,
  (let tallied = c.self.invariant.2 in
      rw (c.reserve_objects.ensures.space, c.reserve_objects.ensures.streams.0, c.reserve_objects.ensures.files.0) (record { charges = tallied.charges; clusters = tallied.clusters; owners = tallied.owners })),
  c.reserve_handles.ensures.sorted c.reserve_handles.new.handles.rows (rw c.reserve_handles.ensures.handles c.self.invariant.3),
  rw (c.reserve_handles.ensures.handles, c.reserve_objects.ensures.links.1) c.self.invariant.4,
  search rules,
)

pub invariant_of-self-in_err-reserve_notes : goal.invariant_of-self-in_err-reserve_notes
invariant_of-self-in_err-reserve_notes c = (
  search rules,
  search rules,
  (let tallied = c.self.invariant.2 in
      rw (c.reserve_objects.ensures.space, c.reserve_objects.ensures.streams.0, c.reserve_objects.ensures.files.0) (record { charges = tallied.charges; clusters = tallied.clusters; owners = tallied.owners })),
  c.reserve_handles.ensures.sorted c.reserve_handles.new.handles.rows (rw c.reserve_handles.ensures.handles c.self.invariant.3),
  rw (c.reserve_handles.ensures.handles, c.reserve_objects.ensures.links.1, c.reserve_notes.ensures.changes.0, c.reserve_notes.ensures.watches.0) c.self.invariant.4,
  rw (c.reserve_notes.ensures.changes.0, c.reserve_notes.ensures.changes.1, c.reserve_notes.ensures.watches.0) c.self.invariant.5,
)

pub invariant_of-self-in_err-reserve_calls : goal.invariant_of-self-in_err-reserve_calls
invariant_of-self-in_err-reserve_calls c = (
  search rules,
  search rules,
  (let tallied = c.self.invariant.2 in
      rw (c.reserve_objects.ensures.space, c.reserve_objects.ensures.streams.0, c.reserve_objects.ensures.files.0) (record { charges = tallied.charges; clusters = tallied.clusters; owners = tallied.owners })),
  c.reserve_handles.ensures.sorted c.reserve_handles.new.handles.rows (rw c.reserve_handles.ensures.handles c.self.invariant.3),
  rw (c.reserve_handles.ensures.handles, c.reserve_objects.ensures.links.1, c.reserve_notes.ensures.changes.0, c.reserve_notes.ensures.watches.0, c.reserve_calls.ensures.pending) c.self.invariant.4,
  rw (c.reserve_notes.ensures.changes.0, c.reserve_notes.ensures.changes.1, c.reserve_notes.ensures.watches.0) c.self.invariant.5,
)

pub invariant_of-self-2 : goal.invariant_of-self-2
invariant_of-self-2 c = (
  search rules,
  search rules,
  (let tallied = c.self.invariant.2 in
      rw (c.reserve_objects.ensures.space, c.reserve_objects.ensures.streams.0, c.reserve_objects.ensures.files.0) (record { charges = tallied.charges; clusters = tallied.clusters; owners = tallied.owners })),
  c.reserve_handles.ensures.sorted c.reserve_handles.new.handles.rows (rw c.reserve_handles.ensures.handles c.self.invariant.3),
  rw (c.reserve_handles.ensures.handles, c.reserve_objects.ensures.links.1, c.reserve_notes.ensures.changes.0, c.reserve_notes.ensures.watches.0, c.reserve_calls.ensures.pending) c.self.invariant.4,
  rw (c.reserve_notes.ensures.changes.0, c.reserve_notes.ensures.changes.1, c.reserve_notes.ensures.watches.0) c.self.invariant.5,
)
