use Rattle.std.proofs.Common.{refl}
use Rattle.fsa_types.proofs.RowLemmas.{row_of-map}
use Rattle.volume_tables.proofs.stream_table.first_at.Goals as goal

pub returns-in-None : goal.returns-in-None
returns-in-None c = rw (row_of-map (λ kept. kept.stream) c.args.table.now.rows c.args.id, ← c.in-None.ensures) refl

pub returns-in-Some : goal.returns-in-Some
returns-in-Some c = rw (row_of-map (λ kept. kept.stream) c.args.table.now.rows c.args.id, ← c.in-Some.ensures) c.first_with.ensures
