use Rattle.std.proofs.Common.{◌∙◌, ℕ, ap, length}
use Rattle.fsa_model.specs.Summary.{summary_text}
use Rattle.fsa_top.proofs.summary.summary_of.Goals as goal

pub returns : goal.returns
returns c = λ r runs.
    c.in_ok-text.ensures
    ∙ ap (λ (n : ℕ). summary_text n c.deref.result.now) c.len.ensures
    ∙ ap (summary_text (length c.args.machine.now.entries)) (c.deref.ensures.value ∙ c.in_ok-ends.ensures r runs)
