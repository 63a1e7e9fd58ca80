use Rattle.std.proofs.Common.{sym, subst}
use Rattle.fsa_model.specs.Setup.{Script}
use Rattle.history_laws.specs.Named.{IsReadScript}
use Rattle.script_read.specs.ScriptView.{contents}
use Rattle.fsa_top.specs.Summaries.{IsSummary}
use Rattle.fsa_top.proofs.SummaryLaws.{summary-is}
use Rattle.fsa_top.proofs.generated_run.summary_of_seed.Goals as goal

pub returns : goal.returns
returns c =
    subst (λ (script : Script). IsSummary script c.in_ok-text.text.items) c.in_ok-script.ensures.script
    (summary-is (contents c.in_ok-script.script) c.in_ok-machine.machine c.in_ok-text.text.items (subst IsReadScript (sym c.in_ok-script.ensures.script) c.in_ok-script.ensures.is_read)
    c.in_ok-machine.ensures.setup c.in_ok-machine.ensures.scheduled c.in_ok-machine.ensures.all c.in_ok-text.ensures)
