use Rattle.std.proofs.Common.{◌∙◌, sym}
use Rattle.script_read.proofs.SpelledLemmas.{lines_spelled}
use Rattle.script_read.proofs.read.read_script.Goals as goal

pub returns-clause-spelled : goal.returns-clause-spelled
returns-clause-spelled c = lines_spelled c.args.bytes.now c.read_lines.result (sym c.is_empty.ensures ∙ c.if-is_empty.false) c.read_lines.ensures
