use Rattle.std.proofs.Common.{Some, ap, ◌∙◌}
use Rattle.std.proofs.lemmas.Option.{slice_get_within}
use Rattle.fsa_model.specs.Schedule.{all_calls}
use Rattle.script_read.specs.ScriptView.{contents}
use Rattle.text_out.specs.declared.write.TextFault.{TextFault}
use Rattle.fsa_top.proofs.OrderLaws.{same_call}
use Rattle.fsa_top.proofs.RunLaws.{MakesTurn-part, OnErr-any, WroteTurns-turn, Progress-room, Progress-turn, left-turn, next-asked}
use Rattle.fsa_top.proofs.run.take_turn.Goals as goal

pub make_turn_at-requires-clause-asked : goal.make_turn_at-requires-clause-asked
make_turn_at-requires-clause-asked g c = λ call at.
    next-asked (contents c.args.script.now) c.args.machine.now c.args.order.now c.args.place call c.requires.stands
    (c.requires.next.is ∙ ap Some (same_call (contents c.args.script.now) c.args.place c.requires.next.call call c.requires.next.at at)) at

pub returns-in_err-make_turn_at-clause-part : goal.returns-in_err-make_turn_at-clause-part
returns-in_err-make_turn_at-clause-part g c =
    OnErr-any {T = Unit {0}} {E = TextFault} c.from_residual.result _
    (λ first shows. MakesTurn-part (contents c.args.script.now) c.args.machine.now c.make_turn_at.new.machine c.requires.next.call first (g.K.Sink.written c.args.sink.now) (g.K.Sink.written c.make_turn_at.new.sink) c.args.buffer.now c.make_turn_at.new.buffer
    c.in_err-make_turn_at.field-0.0 c.requires.stands.is_read c.requires.stands.setup c.requires.next.is (c.in_err-make_turn_at.ensures.made c.requires.next.call c.requires.next.at) shows)

pub go_on-requires-clause-there : goal.go_on-requires-clause-there
go_on-requires-clause-there g c = slice_get_within (all_calls (contents c.args.script.now)) c.args.place c.requires.next.call c.requires.next.at

pub returns-clause-stands : goal.returns-clause-stands
returns-clause-stands g c =
    let made = c.in_ok-make_turn_at.ensures.made c.requires.next.call c.requires.next.at in
    Progress-turn (contents c.args.script.now) c.args.machine.now c.make_turn_at.new.machine c.args.order.now c.go_on.new.self c.args.place c.requires.next.call made.0 c.requires.stands c.requires.next.is c.requires.next.at
    made.1 c.go_on.ensures.following (c.go_on.ensures.places c.requires.next.call c.requires.next.at)

pub returns-clause-fewer : goal.returns-clause-fewer
returns-clause-fewer g c =
    let made = c.in_ok-make_turn_at.ensures.made c.requires.next.call c.requires.next.at in
    left-turn (contents c.args.script.now) c.args.machine.now c.make_turn_at.new.machine c.requires.next.call made.0 c.requires.stands.setup c.requires.next.is made.1

pub returns-clause-shows : goal.returns-clause-shows
returns-clause-shows g c = λ first shows.
    let made = c.in_ok-make_turn_at.ensures.made c.requires.next.call c.requires.next.at in
    WroteTurns-turn (contents c.args.script.now) c.args.machine.now c.make_turn_at.new.machine c.requires.next.call made.0 first (g.K.Sink.written c.args.sink.now) (g.K.Sink.written c.make_turn_at.new.sink) c.args.buffer.now c.make_turn_at.new.buffer
    c.requires.stands.setup c.requires.next.is made.1 made.2 shows

pub make_turn_at-requires-clause-few : goal.make_turn_at-requires-clause-few
make_turn_at-requires-clause-few g c = Progress-room (contents c.args.script.now) c.args.machine.now c.args.order.now c.requires.stands
