use Rattle.fsa_model.specs.Text.{last_line}
use Rattle.text_out.proofs.GatherLaws.{GivesUp-finishes}
use Rattle.text_out.proofs.write.TextBuffer.finish.Goals as goal

pub returns-in-Err-clause-finishes : goal.returns-in-Err-clause-finishes
returns-in-Err-clause-finishes g c =
    GivesUp-finishes (g.K.Sink.written c.args.sink.now) (g.K.Sink.written c.give_up.new.sink) c.args.self.now c.gather_last.new.self c.give_up.new.self (last_line c.args.turns) c.give_up.result c.in-Err.ensures.err c.give_up.ensures.put
