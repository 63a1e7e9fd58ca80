use Rattle.std.proofs.Common.{sym, ◌∙◌}
use Rattle.fsa_types.proofs.RowLemmas.{row_of-map, lives-map}
use Rattle.fsa_model.proofs.RowLaws.{lives-found}
use Rattle.volume_state.proofs.volume.Volume.parts_of.Goals as goal

pub unreachable-requires : goal.unreachable-requires
unreachable-requires c =
    lives-found c.self.inside.streams.rows c.args.stream
    (sym (lives-map (λ kept. kept.stream) c.self.inside.streams.rows c.args.stream) ∙ (rw (← c.self.view_is) at c.requires.lives)) (sym c.in-None.ensures)

pub parts-requires : goal.parts-requires
parts-requires c = rw (← c.self.view_is, row_of-map (λ kept. kept.stream) c.self.inside.streams.rows c.args.stream, ← c.in-Some.ensures) at c.requires.within

pub returns : goal.returns
returns c = record { bytes = rw (← c.self.view_is, row_of-map (λ kept. kept.stream) c.self.inside.streams.rows c.args.stream, ← c.in-Some.ensures) c.parts.ensures }
