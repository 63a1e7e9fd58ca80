use Rattle.std.proofs.Common.{List, subst}
use Rattle.fsa_model.specs.Outcome.{out_of}
use Rattle.fsa_model.specs.Setup.{Client}
use Rattle.fsa_model.specs.Text.{turn_text}
use Rattle.text_out.specs.Writes.{AddsText}
use Rattle.fsa_top.proofs.RunLaws.{MakesTurn-made, MakesTurn-none}
use Rattle.fsa_top.proofs.run.make_turn.Goals as goal

pub returns-in-Ok-clause-made : goal.returns-in-Ok-clause-made
returns-in-Ok-clause-made g c =
    let before = g.K.Sink.written c.args.sink.now in
    let now = g.K.Sink.written c.add_turn.new.sink in
    let call = c.args.call.now in
    let out = out_of c.in-Ok.out in
    MakesTurn-made c.args.machine.now c.turn_of.new.machine call out before now c.args.buffer.now c.add_turn.new.self c.add_turn.result c.in-Ok.ensures.made
    (subst (λ (clients : List Client). AddsText before now c.args.buffer.now c.add_turn.new.self (turn_text clients call out) c.add_turn.result) c.requires.clients c.add_turn.ensures.adds)

pub returns-in-Err-clause-made : goal.returns-in-Err-clause-made
returns-in-Err-clause-made g c =
    MakesTurn-none c.args.machine.now c.turn_of.new.machine c.args.call.now (g.K.Sink.written c.args.sink.now) (g.K.Sink.written c.give_up.new.sink) c.args.buffer.now c.give_up.new.self c.give_up.result c.give_up.ensures.put
