use Rattle.std.proofs.Common.{◌∙◌, List, ap, subst}
use Rattle.fsa_model.specs.History.{run}
use Rattle.fsa_model.specs.Outcome.{out_of}
use Rattle.fsa_model.specs.Setup.{Client, Setup}
use Rattle.fsa_model.specs.Text.{turn_text}
use Rattle.text_out.specs.Writes.{AddsText}
use Rattle.fsa_top.proofs.race_text.add_turn.Goals as goal

pub returns-clause-adds : goal.returns-clause-adds
returns-clause-adds g c =
    let old = g.K.Sink.written c.args.sink.now in
    let now = g.K.Sink.written c.add_turn.new.sink in
    let call = c.call_at.result.now in
    let out = out_of c.out_at.result.now in (
      call,
      out,
      c.call_at.ensures,
      λ r runs. c.out_at.ensures r (ap (λ (s : Setup). run s c.args.machine.now.entries) c.requires.setup ∙ runs),
      subst (λ (clients : List Client). AddsText old now c.args.buffer.now c.add_turn.new.self (turn_text clients call out) c.add_turn.result) c.clients.ensures c.add_turn.ensures.adds,
    )
