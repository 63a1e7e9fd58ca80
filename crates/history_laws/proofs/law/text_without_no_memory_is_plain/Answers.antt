use Rattle.history_laws.proofs.PlainText.{text-plain}
use Rattle.history_laws.proofs.law.text_without_no_memory_is_plain.Goals as goal

pub returns : goal.returns
returns c = record { plain = text-plain }
