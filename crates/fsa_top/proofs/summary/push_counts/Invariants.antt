use Rattle.std.proofs.Common.{◌≡◌, ◌++◌, drop}
use Rattle.std.specs.List.{flat_map}
use Rattle.fsa_model.specs.Summary.{count_line}
use Rattle.fsa_top.proofs.summary.push_counts.Given as goal

abbrev pub invariant-loop-this : goal.invariant-loop-this
invariant-loop-this l = l.text.items ++ flat_map (count_line l.ends) (drop l.this-index l.statuses) ≡ l.fn.text.items ++ flat_map (count_line l.ends) l.statuses
