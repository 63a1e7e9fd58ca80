use Rattle.std.proofs.Common.{map}
use Rattle.std.proofs.lemmas.Result.{err_from_is_err_and}
use Rattle.fsa_model.specs.Outcome.{out_of}
use Rattle.fsa_model.specs.Setup.{client_of}
use Rattle.fsa_model.specs.Text.{bytes_text, turn_text}
use Rattle.text_out.specs.AroundBytes.{after_bytes, before_bytes}
use Rattle.text_out.proofs.GatherLaws.{GivesUp-adds, around-failed, around-put}
use Rattle.text_out.proofs.PartLaws.{around_bytes}
use Rattle.text_out.proofs.write.TextBuffer.add_around.Goals as goal

pub returns-in_err-put_around-in-Ok-clause-adds : goal.returns-in_err-put_around-in-Ok-clause-adds
returns-in_err-put_around-in-Ok-clause-adds g c =
    let clients = map client_of c.args.names.now.items in
    let call = c.args.call.now in
    let out = out_of c.args.out.now in
    let made = rw c.as_slice.ensures at c.in-Ok.ensures.ok in
    let p = err_from_is_err_and c.from_residual.result c.from_residual.ensures.1 in
    rw (p.1, p.2) (
      around-failed (g.K.Sink.written c.args.sink.now) (g.K.Sink.written c.put_around.new.sink) c.args.self.now c.gather_around.new.self (before_bytes clients call c.args.status) (bytes_text c.args.bytes.now)
          (after_bytes clients out.ended) (turn_text clients call out) c.in-Ok.place c.in-Ok.ensures.place made (around_bytes clients call out c.args.status c.args.bytes.now c.requires) c.in_err-put_around-in-Ok.ensures.part,
      c.in_err-put_around-in-Ok.ensures.none,
    )

pub returns-in_ok-put_around-in-Ok-clause-adds : goal.returns-in_ok-put_around-in-Ok-clause-adds
returns-in_ok-put_around-in-Ok-clause-adds g c =
    let clients = map client_of c.args.names.now.items in
    let call = c.args.call.now in
    let out = out_of c.args.out.now in
    let made = rw c.as_slice.ensures at c.in-Ok.ensures.ok in
    around-put (g.K.Sink.written c.args.sink.now) (g.K.Sink.written c.put_around.new.sink) c.args.self.now c.gather_around.new.self c.put_around.new.self (before_bytes clients call c.args.status) (bytes_text c.args.bytes.now)
    (after_bytes clients out.ended) (turn_text clients call out) c.in-Ok.place c.in-Ok.ensures.place made (around_bytes clients call out c.args.status c.args.bytes.now c.requires)
    c.in_ok-put_around-in-Ok.ensures.all c.in_ok-put_around-in-Ok.ensures.after

pub returns-in-Err-clause-adds : goal.returns-in-Err-clause-adds
returns-in-Err-clause-adds g c =
    GivesUp-adds (g.K.Sink.written c.args.sink.now) (g.K.Sink.written c.give_up.new.sink) c.args.self.now c.gather_around.new.self c.give_up.new.self
    (turn_text (map client_of c.args.names.now.items) c.args.call.now (out_of c.args.out.now)) c.give_up.result c.in-Err.ensures.err c.give_up.ensures.put
