use Rattle.std.proofs.Common.{refl}
use Rattle.fsa_types.specs.StreamBytes.{cut}
use Rattle.fsa_model.proofs.SoundLaws.{IsSound-stream_changed}
use Rattle.fsa_model.specs.Volume.{Stream}
use Rattle.volume_state.specs.Content.{content_of}
use Rattle.volume_state.proofs.StreamLemmas.{length-cut}
use Rattle.volume_state.proofs.StreamLemmas.{rooms-same}
use Rattle.volume_state.proofs.TallyLaws.{clusters_at-few, may-resize_stream, tallied-changed}
use Rattle.volume_state.proofs.volume.Volume.set_length.Goals as goal

pub resize-requires : goal.resize-requires
resize-requires c =
    let sound = c.self.invariant.0 in
    let v = content_of c.self.inside in
    let change : Stream → Stream = λ row. record row { bytes = cut row.bytes c.args.bytes } in
    let few = clusters_at-few v.streams c.args.stream change sound.streams_fit (λ row fits. rw (length-cut row.bytes c.args.bytes) c.requires.fits) in
    rw (c.part_of_stream-part.ensures, c.clusters_at-after.ensures, c.set_length.ensures.rows)
    (may-resize_stream v.files v.streams v.last_stream c.self.inside.space sound.streams_numbered sound.bounded.streams sound.streams_fit sound.tree.stream_files_live c.self.invariant.2 c.args.stream _ few)

pub invariant_of-self : goal.invariant_of-self
invariant_of-self c = (
  (rw (c.set_length.ensures.rows, c.set_length.ensures.last)
      (IsSound-stream_changed (content_of c.self.inside) (λ row. record row { bytes = cut row.bytes c.args.bytes }) c.args.stream c.self.invariant.0
      (λ row. refl) (λ row. refl) (λ row fits. rw (length-cut row.bytes c.args.bytes) c.requires.fits))),
  c.self.invariant.1,
  rw c.set_length.ensures.rows
      (tallied-changed c.self.inside.files.rows (content_of c.self.inside).streams c.self.inside.space c.resize.new.space c.args.stream c.self.invariant.0.streams_numbered.rising
      c.self.invariant.0.tree.stream_files_live c.self.invariant.2 (λ row. record row { bytes = cut row.bytes c.args.bytes }) (λ row. refl)
      (rw (c.part_of_stream-part.ensures, c.clusters_at-after.ensures, c.set_length.ensures.rows) at c.resize.ensures.some) (rw c.part_of_stream-part.ensures at c.resize.ensures.none)),
  c.self.invariant.3,
  c.self.invariant.4,
  c.self.invariant.5,
)

pub returns-clause-bytes : goal.returns-clause-bytes
returns-clause-bytes c =
    rw (← c.self.view_is) (λ other differ. rooms-same c.self.inside.streams.rows c.set_length.new.self.rows other (c.set_length.ensures.others other differ))
