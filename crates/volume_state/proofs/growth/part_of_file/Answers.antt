use Rattle.std.proofs.Common.{ap, Some}
use Rattle.volume_state.proofs.growth.part_of_file.Goals as goal

pub returns-in-Some : goal.returns-in-Some
returns-in-Some c = rw (← c.in-Some.ensures, ← c.row.view_is) (ap (λ n. Some (c.row.inside.owner, n)) c.clusters_of_file.ensures)
