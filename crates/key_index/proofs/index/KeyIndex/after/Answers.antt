use Rattle.std.proofs.Common.{◌≡◌, ◌<◌, ◌≤◌, ◌∙◌, length}
use Rattle.std.specs.Prelude.{slice_get}
use Rattle.std.specs.List.Sorted.{IsPartitionPoint}
use Rattle.key_index.proofs.KeyLemmas.{after-here}
use Rattle.key_index.proofs.index.KeyIndex.after.Goals as goal

pub returns-clause-entry : goal.returns-clause-entry
returns-clause-entry c =
    let point : IsPartitionPoint (λ e. e.0 ≤ c.args.key) (λ e. c.args.key < e.0) c.self.inside.entries.items c.end_of.result = rw c.as_slice-entries.ensures at c.end_of.ensures.point in
    let bound : c.end_of.result ≤ length c.self.inside.entries.items = rw c.as_slice-entries.ensures at c.end_of.ensures.bound in
    let read : c.entry_at.result ≡ slice_get c.self.inside.entries.items c.end_of.result = rw c.as_slice-entries.ensures at c.entry_at.ensures in
    rw (← c.self.view_is) (read ∙ after-here c.self.inside.entries.items c.end_of.result c.args.key bound point)
