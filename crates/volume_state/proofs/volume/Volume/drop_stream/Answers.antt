use Rattle.fsa_types.proofs.RowLemmas.{map-filter_seen}
use Rattle.std.proofs.Common.{not, subst, ◌==◌, arith}
use Rattle.fsa_model.proofs.SoundLaws.{IsSound-without_stream}
use Rattle.fsa_model.specs.Sound.{IsSound}
use Rattle.volume_state.specs.Content.{content_of}
use Rattle.volume_state.specs.VolumeView.{VolumeView}
use Rattle.volume_state.proofs.DropLaws.{units_noted-without_stream, dirs_noted-without_stream}
use Rattle.volume_state.proofs.StreamLemmas.{rooms-same}
use Rattle.volume_tables.proofs.PlaceLemmas.{row_of-without}
use Rattle.volume_state.proofs.TallyLaws.{may-resize_stream, tallied-without}
use Rattle.volume_state.proofs.volume.Volume.drop_stream.Goals as goal

pub resize-requires : goal.resize-requires
resize-requires c =
    let sound = c.self.invariant.0 in
    let v = content_of c.self.inside in
    rw c.part_of_stream-part.ensures
    (may-resize_stream v.files v.streams v.last_stream c.self.inside.space sound.streams_numbered sound.bounded.streams sound.streams_fit sound.tree.stream_files_live c.self.invariant.2 c.args.stream 0 (omega arith))

pub invariant_of-self : goal.invariant_of-self
invariant_of-self c = (
  (rw (c.remove.ensures.rows, c.remove.ensures.last, map-filter_seen (λ kept. kept.stream) (λ e. not (e.0 == c.args.stream)) c.self.inside.streams.rows)
      (IsSound-without_stream (content_of c.self.inside) c.args.stream c.self.invariant.0 (rw (← c.self.view_is) at c.requires.unopened))),
  c.self.invariant.1,
  rw (c.remove.ensures.rows, map-filter_seen (λ kept. kept.stream) (λ e. not (e.0 == c.args.stream)) c.self.inside.streams.rows)
      (tallied-without c.self.inside.files.rows (content_of c.self.inside).streams c.self.inside.space c.resize.new.space c.args.stream c.self.invariant.0.streams_numbered.rising
      c.self.invariant.0.tree.stream_files_live c.self.invariant.2 (rw c.part_of_stream-part.ensures at c.resize.ensures.some) (rw c.part_of_stream-part.ensures at c.resize.ensures.none)),
  c.self.invariant.3,
  c.self.invariant.4,
  c.self.invariant.5,
)

pub returns-clause-content : goal.returns-clause-content
returns-clause-content c =
    rw (← c.self.view_is, c.remove.ensures.rows, c.remove.ensures.last, map-filter_seen (λ kept. kept.stream) (λ e. not (e.0 == c.args.stream)) c.self.inside.streams.rows)

pub returns-clause-bytes : goal.returns-clause-bytes
returns-clause-bytes c =
    rw (← c.self.view_is) (λ other differ. rooms-same c.self.inside.streams.rows c.remove.new.self.rows other (rw c.remove.ensures.rows (row_of-without c.self.inside.streams.rows c.args.stream other differ)))

pub returns-clause-units : goal.returns-clause-units
returns-clause-units c =
    units_noted-without_stream c.args.self.now.content c.args.stream (subst (λ (s : VolumeView). IsSound s.content) c.self.view_is c.self.invariant.0) _ (returns-clause-content c)

pub returns-clause-dirs : goal.returns-clause-dirs
returns-clause-dirs c =
    dirs_noted-without_stream c.args.self.now.content c.args.stream (subst (λ (s : VolumeView). IsSound s.content) c.self.view_is c.self.invariant.0) _ (returns-clause-content c)
