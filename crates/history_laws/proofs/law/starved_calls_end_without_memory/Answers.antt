use Rattle.history_laws.proofs.SettlePlain.{GivesStarved, turn-starved}
use Rattle.history_laws.proofs.law.starved_calls_end_without_memory.Goals as goal

pub returns : goal.returns
returns c = record { starved = λ v call starved turned turns. GivesStarved.names (turn-starved v call starved turned turns) }
