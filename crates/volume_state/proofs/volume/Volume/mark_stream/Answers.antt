use Rattle.std.proofs.Common.{refl}
use Rattle.fsa_types.proofs.RowLemmas.{map-change, map-unseen}
use Rattle.fsa_model.proofs.SoundLaws.{IsSound-stream_changed}
use Rattle.fsa_model.specs.Volume.{Stream}
use Rattle.volume_state.specs.Content.{content_of}
use Rattle.volume_rows.specs.Streams.{StreamRowView}
use Rattle.volume_state.proofs.MarkLaws.{units_noted-stream_marked, dirs_noted-stream_marked}
use Rattle.volume_state.proofs.TallyLaws.{tallied-unseen}
use Rattle.volume_state.proofs.volume.Volume.mark_stream.Goals as goal

pub invariant_of-self : goal.invariant_of-self
invariant_of-self c = (
  (let change : StreamRowView → StreamRowView = λ row. record row { stream = record row.stream { deleted = c.args.deleted } } in
      let seen : Stream → Stream = λ row. record row { deleted = c.args.deleted } in
      rw (c.mark.ensures.rows, c.mark.ensures.last, map-change (λ kept. kept.stream) change seen c.self.inside.streams.rows c.args.stream (λ row. refl))
      (IsSound-stream_changed (content_of c.self.inside) seen c.args.stream c.self.invariant.0 (λ row. refl) (λ row. refl) (λ row fits. fits))),
  c.self.invariant.1,
  (let change : StreamRowView → StreamRowView = λ row. record row { stream = record row.stream { deleted = c.args.deleted } } in
      let seen : Stream → Stream = λ row. record row { deleted = c.args.deleted } in
      rw (c.mark.ensures.rows, map-change (λ kept. kept.stream) change seen c.self.inside.streams.rows c.args.stream (λ row. refl))
      (tallied-unseen c.self.inside.files.rows (content_of c.self.inside).streams c.self.inside.space c.args.stream seen c.self.invariant.0.streams_numbered.rising (λ row. refl) (λ row. refl) c.self.invariant.2)),
  c.self.invariant.3,
  c.self.invariant.4,
  c.self.invariant.5,
)

pub returns-clause-content : goal.returns-clause-content
returns-clause-content c =
    let change : StreamRowView → StreamRowView = λ row. record row { stream = record row.stream { deleted = c.args.deleted } } in
    let seen : Stream → Stream = λ row. record row { deleted = c.args.deleted } in
    rw (← c.self.view_is, c.mark.ensures.rows, c.mark.ensures.last, map-change (λ kept. kept.stream) change seen c.self.inside.streams.rows c.args.stream (λ row. refl))

pub returns-clause-room : goal.returns-clause-room
returns-clause-room c =
    let change : StreamRowView → StreamRowView = λ row. record row { stream = record row.stream { deleted = c.args.deleted } } in
    rw (← c.self.view_is, c.mark.ensures.rows, c.mark.ensures.room, map-unseen (λ kept. kept.room) change c.self.inside.streams.rows c.args.stream (λ row. refl))

pub returns-clause-units : goal.returns-clause-units
returns-clause-units c =
    let change : StreamRowView → StreamRowView = λ row. record row { stream = record row.stream { deleted = c.args.deleted } } in
    let seen : Stream → Stream = λ row. record row { deleted = c.args.deleted } in
    rw (← c.self.view_is, c.mark.ensures.rows, map-change (λ kept. kept.stream) change seen c.self.inside.streams.rows c.args.stream (λ row. refl))
    (λ link stream. units_noted-stream_marked (content_of c.self.inside) c.args.stream c.args.deleted link stream)

pub returns-clause-dirs : goal.returns-clause-dirs
returns-clause-dirs c =
    let change : StreamRowView → StreamRowView = λ row. record row { stream = record row.stream { deleted = c.args.deleted } } in
    let seen : Stream → Stream = λ row. record row { deleted = c.args.deleted } in
    rw (← c.self.view_is, c.mark.ensures.rows, map-change (λ kept. kept.stream) change seen c.self.inside.streams.rows c.args.stream (λ row. refl))
    (λ link stream. dirs_noted-stream_marked (content_of c.self.inside) c.args.stream c.args.deleted link stream)
