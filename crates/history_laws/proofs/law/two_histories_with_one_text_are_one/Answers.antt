use Rattle.history_laws.proofs.SameText.{same_text}
use Rattle.history_laws.proofs.law.two_histories_with_one_text_are_one.Goals as goal

pub returns : goal.returns
returns c = record { only = same_text }
