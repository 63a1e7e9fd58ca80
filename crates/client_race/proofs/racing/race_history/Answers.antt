use Rattle.std.proofs.Common.{arith, sym, subst, ◌∙◌}
use Rattle.history_lock.proofs.Places.{given_below}
use Rattle.script_read.specs.ScriptView.{contents}
use Rattle.client_run.specs.Calls.{IsLined}
use Rattle.client_race.proofs.CallLaws.{own_calls-lined}
use Rattle.client_race.proofs.Facing.{some_at}
use Rattle.client_race.proofs.racing.race_history.Goals as goal

pub made-requires-clause-lines : goal.made-requires-clause-lines
made-requires-clause-lines g c κs within i line at = subst (IsLined i) (sym (c.in_ok-lines.ensures.calls i line at)) (own_calls-lined (contents c.args.script.now) i c.requires.can)

pub returns-clause-made : goal.returns-clause-made
returns-clause-made g c i p at =
    let a = c.in_ok-lines.lines.ok.0 in let b = c.in_ok-passes.passes.ok.0 in let d = c.in_ok-passes.ensures.one_each in
    let h = given_below c.in_ok-passes.passes.items i p at in
    let line = some_at c.in_ok-lines.lines.items i (omega arith) in
    c.in_ok-passes.ensures.made i line.0 p line.1 at ∙ c.in_ok-lines.ensures.calls i line.0 line.1
