-- What owners are charged once clusters pass from one to another.
use Rattle.std.proofs.Common.{◌≡◌, ℕ, ◌+◌, ◌*◌, ◌≤◌, refl, ◌∙◌, arith, inl, inr}
use Rattle.std.specs.Prelude.{◌==◌}
use Rattle.std.proofs.lemmas.Bool.{cases_Bool}
use Rattle.fsa_types.specs.Clusters.{cluster_size}
use Rattle.tallies.specs.Charges.{sum_of}
use Rattle.volume_tables.specs.Space.{HandsOver, Resizes, Space, share}

-- what an owner is charged once clusters are taken from another is no more than before
pub charged-less : (old new : Space) (from to clusters : ℕ) → Resizes old new from clusters 0 → sum_of new.sums to ≤ sum_of old.sums to
charged-less old new from to clusters resized =
    let even = resized.charges to in
    elim (cases_Bool (from == to)) [
      | inl same ↦ (let told : sum_of new.sums to + cluster_size * clusters ≡ sum_of old.sums to + cluster_size * 0 = rw same at even in omega arith)
      | inr differ ↦ (let told : sum_of new.sums to + 0 ≡ sum_of old.sums to + 0 = rw differ at even in omega arith)
    ]

pub share-none : (owner other : ℕ) → share owner other 0 ≡ 0
share-none owner other = elim (cases_Bool (owner == other)) [
  | inl same ↦ rw same refl
  | inr differ ↦ rw differ refl
]

pub handed-over : (old mid new : Space) (from to clusters : ℕ) → Resizes old mid from clusters 0 → Resizes mid new to 0 clusters → HandsOver old new from to clusters
handed-over old mid new from to clusters first second = record {
  charges = λ other. (
      let one = first.charges other in
      let two = second.charges other in
      let none = share-none from other in
      let nothing = share-none to other in
      omega arith);
  clusters = let one = first.clusters in let two = second.clusters in omega arith;
  there = λ other there. second.there other (first.there other there);
  room = second.room ∙ first.room;
}
