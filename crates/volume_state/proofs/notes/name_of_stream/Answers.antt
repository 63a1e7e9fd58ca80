use Rattle.std.proofs.Common.{refl, ap, ◌∷◌, List, ℕ}
use Rattle.fsa_types.proofs.RowLemmas.{row_of-map}
use Rattle.volume_state.proofs.notes.name_of_stream.Goals as goal

pub returns-in-None-get : goal.returns-in-None-get
returns-in-None-get c =
    rw (c.in-Some.is, row_of-map (λ kept. kept.stream) c.args.streams.now.rows c.in-Some.id, ← c.in-None-get.ensures) refl

pub returns-in-Some-get : goal.returns-in-Some-get
returns-in-Some-get c =
    rw (c.in-Some.is, row_of-map (λ kept. kept.stream) c.args.streams.now.rows c.in-Some.id, ← c.in-Some-get.ensures) (ap (λ (name : List ℕ). 58 ∷ name) c.name.ensures)
