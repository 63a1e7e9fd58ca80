use Rattle.fsa_model.proofs.CoherenceSound.{IsTied-sound}
use Rattle.fsa_model.proofs.CoherenceTries.{IsCoherent-try}
use Rattle.fsa_model.proofs.law.each_try_is_coherent.Goals as goal

pub returns : goal.returns
returns c = record { sound = IsTied-sound; coherent = IsCoherent-try }
