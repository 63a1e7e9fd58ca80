use Rattle.fsa_model.proofs.TryFrame.{try-frame}
use Rattle.fsa_model.proofs.law.each_try_keeps_its_frame.Goals as goal

pub returns : goal.returns
returns c = record { frame = try-frame }
