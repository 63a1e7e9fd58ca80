use Rattle.std.proofs.Common.{◌∙◌, sym}
use Rattle.std.proofs.lemmas.List.Sorted.{list_any-IsPermutation}
use Rattle.fsa_types.specs.Sharing.{clash}
use Rattle.tallies.proofs.ClashLemmas.{clashes-counts_of, clashes-swap}
use Rattle.tallies.proofs.share_counts.ShareCounts.clashes.Goals as goal

pub returns-clause-found : goal.returns-clause-found
returns-clause-found c = c.meet.ensures ∙ sym (clashes-counts_of c.args.self.now c.args.access c.args.share)

pub returns-clause-symmetric : goal.returns-clause-symmetric
returns-clause-symmetric c = returns-clause-found c ∙ clashes-swap c.args.self.now c.args.access c.args.share

pub returns-clause-any_order : goal.returns-clause-any_order
returns-clause-any_order c held moved =
    returns-clause-found c ∙ list_any-IsPermutation (λ other. clash c.args.access c.args.share other.0 other.1) c.args.self.now held moved
