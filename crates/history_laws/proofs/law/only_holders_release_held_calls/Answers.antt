use Rattle.history_laws.proofs.HoldersRelease.{holders-release, others-release_none}
use Rattle.history_laws.proofs.law.only_holders_release_held_calls.Goals as goal

pub returns : goal.returns
returns c = record { holders = holders-release; others = others-release_none }
