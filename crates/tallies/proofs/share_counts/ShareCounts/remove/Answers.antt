use Rattle.std.proofs.Common.{ℕ, ◌∷◌, IsPermutation, ap, arith}
use Rattle.std.proofs.lemmas.List.Sorted.{length_permutation}
use Rattle.fsa_types.specs.Sharing.{reads, writes, deletes}
use Rattle.tallies.specs.Counts.{Counts, refuses_read, refuses_write, refuses_delete}
use Rattle.tallies.specs.Held.{without_open}
use Rattle.tallies.proofs.CountLemmas.{count_by-others, same_counts}
use Rattle.tallies.proofs.HeldLemmas.{IsPermutation-without_open}
use Rattle.tallies.proofs.share_counts.ShareCounts.remove.Goals as goal

pub invariant_of-self : goal.invariant_of-self
invariant_of-self c =
    let held = c.self.inside.held.pairs in
    let gone : ℕ × ℕ = (c.args.access, c.args.share) in
    let left = without_open held gone in
    let moved : IsPermutation held (gone ∷ left) = IsPermutation-without_open held gone (rw c.self.view_is c.requires) in
    rw (c.reads.ensures, c.writes.ensures, c.deletes.ensures, c.refuses_read.ensures, c.refuses_write.ensures, c.refuses_delete.ensures, c.without-self-inside.ensures)
    (same_counts _ _ (omega (arith, ap (λ (k : Counts). k.opens) c.self.invariant, length_permutation held (gone ∷ left) moved))
    (omega (arith, ap (λ (k : Counts). k.readers) c.self.invariant, count_by-others (λ o. reads o.0) held gone left moved))
    (omega (arith, ap (λ (k : Counts). k.writers) c.self.invariant, count_by-others (λ o. writes o.0) held gone left moved))
    (omega (arith, ap (λ (k : Counts). k.deleters) c.self.invariant, count_by-others (λ o. deletes o.0) held gone left moved))
    (omega (arith, ap (λ (k : Counts). k.read_refusers) c.self.invariant, count_by-others (λ o. refuses_read o.0 o.1) held gone left moved))
    (omega (arith, ap (λ (k : Counts). k.write_refusers) c.self.invariant, count_by-others (λ o. refuses_write o.0 o.1) held gone left moved))
    (omega (arith, ap (λ (k : Counts). k.delete_refusers) c.self.invariant, count_by-others (λ o. refuses_delete o.0 o.1) held gone left moved)))

pub returns-clause-others : goal.returns-clause-others
returns-clause-others c =
    rw (c.without-self-inside.ensures, ← c.self.view_is) (IsPermutation-without_open _ _ (rw c.self.view_is c.requires))
