use Rattle.std.proofs.Common.{refl, arith}
use Rattle.fsa_model.proofs.SoundLaws.{IsSound-file_changed}
use Rattle.volume_state.specs.Content.{content_of}
use Rattle.volume_state.proofs.TallyLaws.{clusters-few, may-pass, may-resize_file, tallied-admitted, tallied-owner_changed}
use Rattle.volume_state.proofs.volume.Volume.set_owner.Goals as goal

pub part_of_file-part-requires : goal.part_of_file-part-requires
part_of_file-part-requires c =
    let sound = c.self.invariant.0 in
    let few = clusters-few c.self.inside.files.rows (content_of c.self.inside).streams c.self.inside.streams.last sound.streams_numbered sound.bounded.streams sound.streams_fit in
    omega arith

pub hand_over-requires : goal.hand_over-requires
hand_over-requires c =
    let sound = c.self.invariant.0 in
    let v = content_of c.self.inside in
    let tallied = tallied-admitted v.files v.streams c.self.inside.space c.admit.new.self c.args.owner c.admit.ensures c.self.invariant.2 in
    record {
      from = rw c.part_of_file-part.ensures (may-resize_file v.files v.streams v.last_stream c.admit.new.self sound.streams_numbered sound.bounded.streams sound.streams_fit sound.tree.stream_files_live tallied c.args.file);
      to = c.admit.ensures.here;
      fits = rw c.part_of_file-part.ensures (may-pass v.files v.streams v.last_stream c.admit.new.self sound.streams_numbered sound.bounded.streams sound.streams_fit sound.tree.stream_files_live tallied c.args.file c.args.owner);
    }

pub invariant_of-self : goal.invariant_of-self
invariant_of-self c = (
  (rw (c.set_owner.ensures.rows, c.set_owner.ensures.last)
      (IsSound-file_changed (content_of c.self.inside) (λ row. record row { owner = c.args.owner }) c.args.file c.self.invariant.0 (λ row. refl) (λ row fits. fits))),
  c.self.invariant.1,
  rw c.set_owner.ensures.rows
      (tallied-owner_changed c.self.inside.files.rows (content_of c.self.inside).streams c.admit.new.self c.hand_over.new.space c.args.file c.args.owner
      (tallied-admitted c.self.inside.files.rows (content_of c.self.inside).streams c.self.inside.space c.admit.new.self c.args.owner c.admit.ensures c.self.invariant.2)
      c.admit.ensures.here (rw c.part_of_file-part.ensures at c.hand_over.ensures.some) (rw c.part_of_file-part.ensures at c.hand_over.ensures.none)),
  c.self.invariant.3,
  c.self.invariant.4,
  c.self.invariant.5,
)
