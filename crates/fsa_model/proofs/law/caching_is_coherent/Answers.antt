use Rattle.fsa_model.proofs.CoherenceRuns.{run-coherent}
use Rattle.fsa_model.proofs.law.caching_is_coherent.Goals as goal

pub returns : goal.returns
returns c = record { coherent = run-coherent }
