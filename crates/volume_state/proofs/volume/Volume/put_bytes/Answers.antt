use Rattle.std.proofs.Common.{◌+◌, ◌≤◌, length, refl}
use Rattle.fsa_types.specs.StreamBytes.{put}
use Rattle.fsa_model.proofs.SoundLaws.{IsSound-stream_changed}
use Rattle.fsa_model.specs.Volume.{Stream}
use Rattle.volume_state.specs.Content.{content_of}
use Rattle.volume_state.proofs.StreamLemmas.{room-down, length-put_le}
use Rattle.volume_state.proofs.StreamLemmas.{rooms-same}
use Rattle.volume_state.proofs.TallyLaws.{clusters_at-few, may-resize_stream, tallied-changed}
use Rattle.volume_state.proofs.volume.Volume.put_bytes.Goals as goal

pub put-requires-clause-room : goal.put-requires-clause-room
put-requires-clause-room c =
    room-down (λ room. (room.from ≤ c.args.at) × (c.args.at + length c.args.bytes.now ≤ room.to)) c.self.inside.streams.rows c.args.stream (rw (← c.self.view_is) at c.requires.room)

pub resize-requires : goal.resize-requires
resize-requires c =
    let sound = c.self.invariant.0 in
    let v = content_of c.self.inside in
    let change : Stream → Stream = λ row. record row { bytes = put row.bytes c.args.at c.args.bytes.now } in
    let few = clusters_at-few v.streams c.args.stream change sound.streams_fit (λ row fits. length-put_le row.bytes c.args.at c.args.bytes.now _ fits c.requires.fits) in
    rw (c.part_of_stream-part.ensures, c.clusters_at-after.ensures, c.put.ensures.rows)
    (may-resize_stream v.files v.streams v.last_stream c.self.inside.space sound.streams_numbered sound.bounded.streams sound.streams_fit sound.tree.stream_files_live c.self.invariant.2 c.args.stream _ few)

pub invariant_of-self : goal.invariant_of-self
invariant_of-self c = (
  (rw (c.put.ensures.rows, c.put.ensures.last)
      (IsSound-stream_changed (content_of c.self.inside) (λ row. record row { bytes = put row.bytes c.args.at c.args.bytes.now }) c.args.stream c.self.invariant.0
      (λ row. refl) (λ row. refl) (λ row fits. length-put_le row.bytes c.args.at c.args.bytes.now _ fits c.requires.fits))),
  c.self.invariant.1,
  rw c.put.ensures.rows
      (tallied-changed c.self.inside.files.rows (content_of c.self.inside).streams c.self.inside.space c.resize.new.space c.args.stream c.self.invariant.0.streams_numbered.rising
      c.self.invariant.0.tree.stream_files_live c.self.invariant.2 (λ row. record row { bytes = put row.bytes c.args.at c.args.bytes.now }) (λ row. refl)
      (rw (c.part_of_stream-part.ensures, c.clusters_at-after.ensures, c.put.ensures.rows) at c.resize.ensures.some) (rw c.part_of_stream-part.ensures at c.resize.ensures.none)),
  c.self.invariant.3,
  c.self.invariant.4,
  c.self.invariant.5,
)

pub returns-clause-bytes : goal.returns-clause-bytes
returns-clause-bytes c =
    rw (← c.self.view_is) (λ other differ. rooms-same c.self.inside.streams.rows c.put.new.self.rows other (c.put.ensures.others other differ))
