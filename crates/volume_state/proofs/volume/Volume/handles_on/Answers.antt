use Rattle.std.proofs.Common.{◌≡◌, ℕ, Bool, ◌≤◌, ◌+◌, length, arith}
use Rattle.std.specs.Prelude.{filter}
use Rattle.fsa_types.proofs.RowLemmas.{length-numbered, length-filter_le}
use Rattle.fsa_model.specs.Lookups.{is_one_of}
use Rattle.fsa_model.specs.Volume.{Handle}
use Rattle.volume_state.proofs.volume.Volume.handles_on.Goals as goal

pub overflow_cast-result : goal.overflow_cast-result
overflow_cast-result c =
    let few : length c.self.inside.handles.rows ≤ c.self.inside.handles.last + 1
    = length-numbered c.self.inside.handles.rows c.self.inside.handles.last c.count_on.ensures.numbered in
    let bound = c.self.invariant.0.bounded.handles in
    let test : ℕ × Handle → Bool = λ entry. is_one_of c.by_file.result.now.rows c.args.on entry.1 in
    let count : c.count_on.result ≡ length (filter test c.self.inside.handles.rows) = c.count_on.ensures.count in
    let kept : length (filter test c.self.inside.handles.rows) ≤ length c.self.inside.handles.rows = length-filter_le test c.self.inside.handles.rows in
    omega arith
