use Rattle.std.proofs.Common.{◌≡◌, ◌+◌, ◌-◌, List, length, map, subst, sym, ap, arith, ◌∙◌}
use Rattle.fsa_types.specs.declared.request.Call.{Call}
use Rattle.fsa_model.specs.LineCalls.{IsLineCall}
use Rattle.fsa_model.specs.Schedule.{calls_of, leave_after}
use Rattle.script_read.specs.ScriptView.{contents}
use Rattle.fsa_top.specs.Progress.{MakesTurn}
use Rattle.fsa_top.proofs.OrderLaws.{leave_is, length-all_calls, line_is, same_call}
use Rattle.fsa_top.proofs.run.make_turn_at.Goals as goal

pub make_turn-requires-clause-asked : goal.make_turn-requires-clause-asked
make_turn-requires-clause-asked g c =
    (c.requires.asked c.index-lines-place.result
    (line_is (contents c.args.script.now) c.as_slice-lines.result.now c.args.place c.index-lines-place.result (c.as_slice-lines.ensures ∙ c.lines.ensures) c.if-place-lines.true c.index-lines-place.is)).0

pub make_turn-requires-clause-number : goal.make_turn-requires-clause-number
make_turn-requires-clause-number g c =
    (c.requires.asked c.index-lines-place.result
    (line_is (contents c.args.script.now) c.as_slice-lines.result.now c.args.place c.index-lines-place.result (c.as_slice-lines.ensures ∙ c.lines.ensures) c.if-place-lines.true c.index-lines-place.is)).1

pub overflow_cast-place : goal.overflow_cast-place
overflow_cast-place g c =
    let long = length-all_calls (contents c.args.script.now) in
    let lines : length c.as_slice-lines.result.now ≡ length (contents c.args.script.now).lines = ap (λ (l : List Call). length l) (c.as_slice-lines.ensures ∙ c.lines.ensures) in
    omega (arith, c.requires.there, long, lines, c.requires.within.clients)

pub make_turn-requires-else-place-lines-clause-asked : goal.make_turn-requires-else-place-lines-clause-asked
make_turn-requires-else-place-lines-clause-asked g c =
    let lines : length c.as_slice-lines.result.now ≡ length (contents c.args.script.now).lines = ap (λ (l : List Call). length l) (c.as_slice-lines.ensures ∙ c.lines.ensures) in
    let leaving : c.leave_after-call.result ≡ leave_after (contents c.args.script.now).lines (c.args.place - length (contents c.args.script.now).lines)
    = c.leave_after-call.ensures ∙ ap (λ (l : List Call). leave_after l (c.args.place - length l)) (c.as_slice-lines.ensures ∙ c.lines.ensures) in
    subst (λ (call : Call). IsLineCall (length c.args.machine.now.setup.clients) call) (sym leaving)
    (c.requires.asked (leave_after (contents c.args.script.now).lines (c.args.place - length (contents c.args.script.now).lines))
    (leave_is (contents c.args.script.now) c.args.place (omega (arith, c.if-place-lines.false, lines)) c.requires.there)).0

pub make_turn-requires-else-place-lines-clause-number : goal.make_turn-requires-else-place-lines-clause-number
make_turn-requires-else-place-lines-clause-number g c =
    let lines : length c.as_slice-lines.result.now ≡ length (contents c.args.script.now).lines = ap (λ (l : List Call). length l) (c.as_slice-lines.ensures ∙ c.lines.ensures) in
    let leaving : c.leave_after-call.result ≡ leave_after (contents c.args.script.now).lines (c.args.place - length (contents c.args.script.now).lines)
    = c.leave_after-call.ensures ∙ ap (λ (l : List Call). leave_after l (c.args.place - length l)) (c.as_slice-lines.ensures ∙ c.lines.ensures) in
    subst (λ (call : Call). call.number ≡ calls_of call.client (map (λ entry. entry.call) c.args.machine.now.entries) + 1) (sym leaving)
    (c.requires.asked (leave_after (contents c.args.script.now).lines (c.args.place - length (contents c.args.script.now).lines))
    (leave_is (contents c.args.script.now) c.args.place (omega (arith, c.if-place-lines.false, lines)) c.requires.there)).1

pub returns-then-place-lines-clause-made : goal.returns-then-place-lines-clause-made
returns-then-place-lines-clause-made g c = λ call at.
    subst (λ (one : Call). MakesTurn c.args.machine.now c.make_turn.new.machine one (g.K.Sink.written c.args.sink.now) (g.K.Sink.written c.make_turn.new.sink) c.args.buffer.now c.make_turn.new.buffer c.make_turn.result)
    (same_call (contents c.args.script.now) c.args.place c.index-lines-place.result call
    (line_is (contents c.args.script.now) c.as_slice-lines.result.now c.args.place c.index-lines-place.result (c.as_slice-lines.ensures ∙ c.lines.ensures) c.if-place-lines.true c.index-lines-place.is) at)
    c.make_turn.ensures.made

pub returns-else-place-lines-clause-made : goal.returns-else-place-lines-clause-made
returns-else-place-lines-clause-made g c = λ call at.
    let lines : length c.as_slice-lines.result.now ≡ length (contents c.args.script.now).lines = ap (λ (l : List Call). length l) (c.as_slice-lines.ensures ∙ c.lines.ensures) in
    let leaving : c.leave_after-call.result ≡ leave_after (contents c.args.script.now).lines (c.args.place - length (contents c.args.script.now).lines)
    = c.leave_after-call.ensures ∙ ap (λ (l : List Call). leave_after l (c.args.place - length l)) (c.as_slice-lines.ensures ∙ c.lines.ensures) in
    subst (λ (one : Call). MakesTurn c.args.machine.now c.make_turn-else-place-lines.new.machine one (g.K.Sink.written c.args.sink.now) (g.K.Sink.written c.make_turn-else-place-lines.new.sink) c.args.buffer.now c.make_turn-else-place-lines.new.buffer c.make_turn-else-place-lines.result)
    (leaving ∙ same_call (contents c.args.script.now) c.args.place _ call (leave_is (contents c.args.script.now) c.args.place (omega (arith, c.if-place-lines.false, lines)) c.requires.there) at)
    c.make_turn-else-place-lines.ensures.made
