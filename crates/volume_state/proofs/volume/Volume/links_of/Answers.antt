use Rattle.std.proofs.Common.{◌≡◌, ℕ, Bool, not, ◌≤◌, ◌+◌, ap, length, arith}
use Rattle.std.specs.Prelude.{◌==◌, ◌&&◌, filter}
use Rattle.fsa_types.proofs.RowLemmas.{length-numbered, length-filter_le}
use Rattle.fsa_model.specs.Volume.{Link}
use Rattle.volume_state.proofs.volume.Volume.links_of.Goals as goal

pub overflow_cast-unmarked : goal.overflow_cast-unmarked
overflow_cast-unmarked c =
    let few : length c.self.inside.links.rows ≤ c.self.inside.links.last + 1
    = length-numbered c.self.inside.links.rows c.self.inside.links.last c.self.invariant.0.links_numbered in
    let same : length c.by_file-links.result.now.rows ≡ length c.self.inside.links.rows = ap length c.by_file-links.ensures.rows in
    let bound = c.self.invariant.0.bounded.links in
    let test : ℕ × Link → Bool = λ entry. entry.1.file == c.args.file && not entry.1.deleted in
    let count : c.count_unmarked_of-unmarked.result ≡ length (filter test c.by_file-links.result.now.rows) = c.count_unmarked_of-unmarked.ensures in
    let kept : length (filter test c.by_file-links.result.now.rows) ≤ length c.by_file-links.result.now.rows = length-filter_le test c.by_file-links.result.now.rows in
    omega arith

pub overflow_cast-result : goal.overflow_cast-result
overflow_cast-result c =
    let few : length c.self.inside.links.rows ≤ c.self.inside.links.last + 1
    = length-numbered c.self.inside.links.rows c.self.inside.links.last c.self.invariant.0.links_numbered in
    let same : length c.by_file-links.result.now.rows ≡ length c.self.inside.links.rows = ap length c.by_file-links.ensures.rows in
    let bound = c.self.invariant.0.bounded.links in
    let test : ℕ × Link → Bool = λ entry. entry.1.file == c.args.file in
    let count : c.count_of.result ≡ length (filter test c.by_file-links.result.now.rows) = c.count_of.ensures.count in
    let kept : length (filter test c.by_file-links.result.now.rows) ≤ length c.by_file-links.result.now.rows = length-filter_le test c.by_file-links.result.now.rows in
    omega arith
