use Rattle.std.proofs.Common.{ℕ, ◌*◌, ◌==◌, ap, arith, length, ◌∙◌, sym}
use Rattle.std.specs.Prelude.{filter}
use Rattle.fsa_types.specs.Clusters.{cluster_size, clusters_for}
use Rattle.fsa_model.specs.Volume.{Stream}
use Rattle.volume_rows.specs.Streams.{streams_in}
use Rattle.volume_state.specs.Content.{content_of}
use Rattle.volume_state.proofs.SumLemmas.{sum-scaled}
use Rattle.volume_state.proofs.TallyLaws.{clusters-few, clusters_of_file-few}
use Rattle.volume_state.proofs.volume.Volume.charge_of_file.Goals as goal

pub clusters_of_file-requires : goal.clusters_of_file-requires
clusters_of_file-requires c =
    let v = content_of c.self.inside in
    let few = clusters-few v.files v.streams v.last_stream c.self.invariant.0.streams_numbered c.self.invariant.0.bounded.streams c.self.invariant.0.streams_fit in
    record { fits = omega arith }

pub overflow_mul-result : goal.overflow_mul-result
overflow_mul-result c =
    let v = content_of c.self.inside in
    let few = clusters_of_file-few v.files v.streams v.last_stream c.self.invariant.0.streams_numbered c.self.invariant.0.bounded.streams c.self.invariant.0.streams_fit c.args.file in
    let is = c.clusters_of_file.ensures in
    omega arith

pub returns : goal.returns
returns c =
    rw (← c.self.view_is)
    (ap (λ n. cluster_size * n) c.clusters_of_file.ensures
    ∙ sym (sum-scaled cluster_size (λ (entry : ℕ × Stream). clusters_for (length entry.1.bytes)) (filter (λ entry. entry.1.file == c.args.file) (streams_in c.self.inside.streams.rows))))
