use Rattle.std.proofs.Common.{◌∙◌, ◌++◌, ◌∷◌, [], ℕ, List, ap}
use Rattle.std.specs.Prelude.{codes, decimal}
use Rattle.fsa_top.proofs.SummaryLaws.{summary-parts}
use Rattle.fsa_top.proofs.summary.summary_text.Goals as goal

pub returns : goal.returns
returns c =
    summary-parts c.args.turns c.args.ends.now c.push_turns.new.text.items c.push_all_counts.new.text.items c.extend_from_slice.new.self.items
    (c.in_ok-push_turns.ensures ∙ ap (λ (text : List ℕ). text ++ codes "turns " ++ decimal c.args.turns ++ 10 ∷ []) c.new-text.ensures.items)
    c.in_ok-push_all_counts.ensures (c.in_ok-extend_from_slice.ensures.items ∙ ap (λ (last : List ℕ). c.push_all_counts.new.text.items ++ last) c.as_slice.ensures)
