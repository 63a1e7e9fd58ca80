use Rattle.std.proofs.Common.{List, length, ap, arith, ◌≡◌, ◌∙◌}
use Rattle.fsa_types.specs.declared.request.Call.{Call}
use Rattle.script_read.specs.ScriptView.{contents}
use Rattle.fsa_top.proofs.OrderLaws.{leave_behind}
use Rattle.fsa_top.proofs.order.Order.behind.Goals as goal

pub returns : goal.returns
returns c = λ call at.
    let long : length c.as_slice-lines.result.now ≡ length (contents c.args.script.now).lines = ap (λ (lines : List Call). length lines) (c.as_slice-lines.ensures ∙ c.lines.ensures) in
    let both = leave_behind (contents c.args.script.now) c.args.place (omega (arith, c.if-place-lines.false, long)) call at in
    (omega (arith, both.0, long), omega (arith, both.1, long, c.len.ensures, c.requires.long))
