use Rattle.std.proofs.Common.{◌≡◌, ◌≤◌, ◌^◌, true, length, ap, refl, sym, ◌∙◌, Some}
use Rattle.fsa_types.proofs.RowLemmas.{row_of-map, lives-map}
use Rattle.fsa_types.specs.Rows.{lives}
use Rattle.fsa_model.specs.Volume.{Stream}
use Rattle.fsa_model.proofs.RowLaws.{found-all, lives-found}
use Rattle.volume_rows.specs.Streams.{streams_in}
use Rattle.volume_state.proofs.volume.Volume.stream.Goals as goal

pub returns-in-None-clause-info : goal.returns-in-None-clause-info
returns-in-None-clause-info c =
    rw (← c.self.view_is, row_of-map (λ kept. kept.stream) c.self.inside.streams.rows c.args.id, ← c.in-None.ensures) refl

pub returns-in-None-clause-lives : goal.returns-in-None-clause-lives
returns-in-None-clause-lives c =
    rw (← c.self.view_is) (λ living. absurd (lives-found c.self.inside.streams.rows c.args.id (sym (lives-map (λ kept. kept.stream) c.self.inside.streams.rows c.args.id) ∙ living) (sym c.in-None.ensures)))

pub returns-in-Some-clause-info : goal.returns-in-Some-clause-info
returns-in-Some-clause-info c =
    rw (← c.self.view_is, row_of-map (λ kept. kept.stream) c.self.inside.streams.rows c.args.id, ← c.in-Some.ensures) (ap Some c.info.ensures)

pub returns-in-Some-clause-file : goal.returns-in-Some-clause-file
returns-in-Some-clause-file c =
    let living = found-all (λ (stream : Stream). lives c.self.inside.files.rows stream.file ≡ true) (streams_in c.self.inside.streams.rows) c.args.id c.self.invariant.0.tree.stream_files_live in
    rw (← c.self.view_is, c.info.ensures) (rw (row_of-map (λ kept. kept.stream) c.self.inside.streams.rows c.args.id, ← c.in-Some.ensures) at living)

pub returns-in-Some-clause-few : goal.returns-in-Some-clause-few
returns-in-Some-clause-few c =
    let few = found-all (λ (stream : Stream). length stream.bytes ≤ 2 ^ 26) (streams_in c.self.inside.streams.rows) c.args.id c.self.invariant.0.streams_fit in
    rw c.info.ensures (rw (row_of-map (λ kept. kept.stream) c.self.inside.streams.rows c.args.id, ← c.in-Some.ensures) at few)
