use Rattle.history_laws.proofs.SameRace.{same_race}
use Rattle.history_laws.proofs.law.two_whole_histories_with_one_text_are_one.Goals as goal

pub returns : goal.returns
returns c = record { only = same_race }
