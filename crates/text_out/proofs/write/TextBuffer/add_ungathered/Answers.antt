use Rattle.std.proofs.Common.{map, refl}
use Rattle.fsa_model.specs.Outcome.{out_of}
use Rattle.fsa_model.specs.Setup.{client_of}
use Rattle.fsa_model.specs.Text.{turn_text}
use Rattle.text_out.proofs.GatherLaws.{GivesUp-adds}
use Rattle.text_out.proofs.write.TextBuffer.add_ungathered.Goals as goal

pub returns-in-None-clause-adds : goal.returns-in-None-clause-adds
returns-in-None-clause-adds g c =
    GivesUp-adds (g.K.Sink.written c.args.sink.now) (g.K.Sink.written c.give_up.new.sink) c.args.self.now c.args.self.now c.give_up.new.self
    (turn_text (map client_of c.args.names.now.items) c.args.call.now (out_of c.args.out.now)) c.give_up.result refl c.give_up.ensures.put
