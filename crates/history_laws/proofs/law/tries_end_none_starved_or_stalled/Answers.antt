use Rattle.history_laws.proofs.PlainTries.{try-plain}
use Rattle.history_laws.proofs.law.tries_end_none_starved_or_stalled.Goals as goal

pub returns : goal.returns
returns c = record { plain = try-plain }
