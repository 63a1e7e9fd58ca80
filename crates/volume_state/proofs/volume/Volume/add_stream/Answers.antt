use Rattle.std.proofs.Common.{ap}
use Rattle.std.proofs.lemmas.List.{map-append}
use Rattle.stream_pages.specs.Streams.{StreamView}
use Rattle.fsa_model.proofs.SoundLaws.{IsSound-with_stream}
use Rattle.volume_state.specs.Content.{content_of}
use Rattle.fsa_model.specs.Lookups.{is_stream_named}
use Rattle.volume_state.proofs.OpenLaws.{number_of-push, units_noted-stream, dirs_noted-stream}
use Rattle.volume_state.proofs.StreamLemmas.{row_of-before, rooms-same}
use Rattle.volume_state.proofs.TallyLaws.{tallied-push}
use Rattle.volume_state.proofs.volume.Volume.add_stream.Goals as goal

pub invariant_of-self : goal.invariant_of-self
invariant_of-self c = (
  (rw (c.add.ensures.rows, c.add.ensures.last, map-append, c.new-bytes.ensures)
      (IsSound-with_stream (content_of c.self.inside) c.args.file c.args.name c.self.invariant.0
      (rw (← c.self.view_is) at c.requires.ids_left) (rw (← c.self.view_is) at c.requires.file)
      (rw (← c.self.view_is) at c.requires.no_directory) (rw (← c.self.view_is) at c.requires.new))),
  c.self.invariant.1,
  rw (c.add.ensures.rows, map-append) (tallied-push c.self.inside.files.rows (content_of c.self.inside).streams c.self.inside.space _ (ap (λ (s : StreamView). s.bytes) c.new-bytes.ensures) c.self.invariant.2),
  c.self.invariant.3,
  c.self.invariant.4,
  c.self.invariant.5,
)

pub returns-clause-named : goal.returns-clause-named
returns-clause-named c =
    rw (← c.self.view_is, c.add.ensures.rows, map-append) (λ other units differ. number_of-push (is_stream_named c.self.inside.links.table other units) (content_of c.self.inside).streams _ differ)

pub returns-clause-units : goal.returns-clause-units
returns-clause-units c =
    rw (← c.self.view_is, c.add.ensures.id, c.add.ensures.rows, map-append, c.new-bytes.ensures) (λ link. units_noted-stream (content_of c.self.inside) c.args.file c.args.name link c.self.invariant.0)

pub returns-clause-dirs : goal.returns-clause-dirs
returns-clause-dirs c =
    rw (← c.self.view_is, c.add.ensures.id, c.add.ensures.rows, map-append, c.new-bytes.ensures) (λ link. dirs_noted-stream (content_of c.self.inside) c.args.file c.args.name link)

pub returns-clause-bytes : goal.returns-clause-bytes
returns-clause-bytes c =
    rw (← c.self.view_is, c.add.ensures.id) (λ other differ. rooms-same c.self.inside.streams.rows c.add.new.self.rows other
    (rw c.add.ensures.rows (row_of-before c.self.inside.streams.rows _ other differ)))
