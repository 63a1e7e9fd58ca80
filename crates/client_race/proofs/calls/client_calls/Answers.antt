use Rattle.std.proofs.Common.{◌≡◌, length, ap, ◌∙◌, arith}
use Rattle.fsa_model.specs.Schedule.{calls_of}
use Rattle.fsa_model.proofs.ScriptLaws.{length-filter_calls}
use Rattle.client_race.proofs.CallLaws.{calls_of-few, with_leave}
use Rattle.client_race.proofs.calls.client_calls.Goals as goal

pub overflow_cast-number : goal.overflow_cast-number
overflow_cast-number c =
    let long = c.len.ensures in let ok = c.in_ok-calls.calls.ok in let same : length c.in_ok-calls.calls.items ≡ calls_of c.args.client c.args.lines.now = ap length c.in_ok-calls.ensures ∙ length-filter_calls c.args.lines.now c.args.client in
    let size : c.len.result ≡ calls_of c.args.client c.args.lines.now = omega arith in
    let few = calls_of-few c.args.client c.args.lines.now in let most = c.requires.few in omega arith

pub overflow_add-number : goal.overflow_add-number
overflow_add-number c =
    let long = c.len.ensures in let ok = c.in_ok-calls.calls.ok in let same : length c.in_ok-calls.calls.items ≡ calls_of c.args.client c.args.lines.now = ap length c.in_ok-calls.ensures ∙ length-filter_calls c.args.lines.now c.args.client in
    let size : c.len.result ≡ calls_of c.args.client c.args.lines.now = omega arith in
    let few = calls_of-few c.args.client c.args.lines.now in let most = c.requires.few in omega arith

pub returns : goal.returns
returns c =
    let long = c.len.ensures in let ok = c.in_ok-calls.calls.ok in let same : length c.in_ok-calls.calls.items ≡ calls_of c.args.client c.args.lines.now = ap length c.in_ok-calls.ensures ∙ length-filter_calls c.args.lines.now c.args.client in
    let size : c.len.result ≡ calls_of c.args.client c.args.lines.now = omega arith in
    c.in_ok-push_back.ensures.items ∙ with_leave c.args.lines.now c.in_ok-calls.calls.items c.args.client c.len.result c.in_ok-calls.ensures size
