use Rattle.object_tables.proofs.NextLemmas.{next-seen}
use Rattle.volume_state.proofs.volume.Volume.next_stream.Goals as goal

pub returns : goal.returns
returns c = rw (← c.self.view_is) (next-seen (λ kept. kept.stream) c.self.inside.streams.rows c.args.after c.next.result c.next.ensures)
