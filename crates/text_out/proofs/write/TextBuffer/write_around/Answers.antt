use Rattle.std.proofs.Common.{◌≡◌, ◌∙◌, ◌++◌, take}
use Rattle.std.proofs.lemmas.Result.{err_from_is_err_and}
use Rattle.fsa_model.specs.Text.{bytes_text}
use Rattle.wire_io.specs.Sink.{AppendsPart}
use Rattle.wire_io.proofs.SinkLaws.{AppendsPart-append, AppendsPart-longer}
use Rattle.text_out.proofs.PartLaws.{OnErr-weaker}
use Rattle.text_out.proofs.write.TextBuffer.write_around.Goals as goal

pub returns-in_err-put_all-clause-part : goal.returns-in_err-put_all-clause-part
returns-in_err-put_all-clause-part g c =
    let p = err_from_is_err_and c.from_residual.result c.from_residual.ensures.1 in
    let same : c.bytes.result.now ≡ c.args.self.now = c.bytes.ensures ∙ c.self.view_is in
    let part = rw same at c.in_err-put_all.ensures.part in
    rw p.1 (AppendsPart-longer (g.K.Sink.written c.args.sink.now) (g.K.Sink.written c.put_all.new.sink) (take c.args.place c.args.self.now) (bytes_text c.args.bytes.now) part)

pub returns-clause-part : goal.returns-clause-part
returns-clause-part g c =
    let same : c.bytes.result.now ≡ c.args.self.now = c.bytes.ensures ∙ c.self.view_is in
    let put = rw same at c.in_ok-put_all.ensures.all in
    OnErr-weaker (AppendsPart (g.K.Sink.written c.put_all.new.sink) (g.K.Sink.written c.write_bytes.new.sink) (bytes_text c.args.bytes.now))
    (AppendsPart (g.K.Sink.written c.args.sink.now) (g.K.Sink.written c.write_bytes.new.sink) (take c.args.place c.args.self.now ++ bytes_text c.args.bytes.now)) c.write_bytes.result
    (λ part. AppendsPart-append (g.K.Sink.written c.args.sink.now) (g.K.Sink.written c.put_all.new.sink) (g.K.Sink.written c.write_bytes.new.sink) (take c.args.place c.args.self.now) (bytes_text c.args.bytes.now) put part)
    c.write_bytes.ensures.part
