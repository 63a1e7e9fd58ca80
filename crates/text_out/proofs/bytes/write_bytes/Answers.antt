use Rattle.std.proofs.Common.{[], ◌∷◌}
use Rattle.std.proofs.lemmas.Result.{err_from_is_err_and}
use Rattle.fsa_model.specs.Text.{bytes_text, hex_digits}
use Rattle.wire_io.specs.Sink.{AppendsPart}
use Rattle.wire_io.proofs.SinkLaws.{AppendsPart-append, AppendsPart-longer}
use Rattle.text_out.proofs.PartLaws.{OnErr-weaker}
use Rattle.text_out.proofs.bytes.write_bytes.Goals as goal

pub returns-in_err-put_all-clause-part : goal.returns-in_err-put_all-clause-part
returns-in_err-put_all-clause-part g c =
    let p = err_from_is_err_and c.from_residual.result c.from_residual.ensures.1 in
    rw p.1 (AppendsPart-longer (g.K.Sink.written c.args.sink.now) (g.K.Sink.written c.put_all.new.sink) (120 ∷ []) (hex_digits c.args.bytes.now) c.in_err-put_all.ensures.part)

pub returns-clause-part : goal.returns-clause-part
returns-clause-part g c =
    OnErr-weaker (AppendsPart (g.K.Sink.written c.put_all.new.sink) (g.K.Sink.written c.write_hex.new.sink) (hex_digits c.args.bytes.now))
    (AppendsPart (g.K.Sink.written c.args.sink.now) (g.K.Sink.written c.write_hex.new.sink) (bytes_text c.args.bytes.now)) c.write_hex.result
    (λ part. AppendsPart-append (g.K.Sink.written c.args.sink.now) (g.K.Sink.written c.put_all.new.sink) (g.K.Sink.written c.write_hex.new.sink) (120 ∷ []) (hex_digits c.args.bytes.now) c.in_ok-put_all.ensures.all part)
    c.write_hex.ensures.part
