use Rattle.std.proofs.Common.{◌∙◌, ap, length, arith}
use Rattle.std.proofs.lemmas.Result.{err_from_is_err_and}
use Rattle.text_out.proofs.PartLaws.{parts-failed, parts-more}
use Rattle.text_out.proofs.bytes.write_hex.Goals as goal

pub returns-in_err-write_part-clause-part : goal.returns-in_err-write_part-clause-part
returns-in_err-write_part-clause-part g c =
    let p = err_from_is_err_and c.from_residual.result c.from_residual.ensures.1 in
    let part = rw c.part.ensures at c.in_err-write_part.ensures.part in
    rw p.1 (parts-failed (g.K.Sink.written c.args.sink.now) (g.K.Sink.written c.parts.sink) (g.K.Sink.written c.write_part.new.sink) c.args.bytes.now c.parts.at c.min-count.result c.parts.invariant.wrote part)

pub parts-preserved : goal.parts-preserved
parts-preserved g c =
    let part = rw c.part.ensures at c.in_ok-write_part.ensures.all in
    let len = ap length c.bytes-len.ensures in
    record {
      within = omega arith;
      wrote = parts-more (g.K.Sink.written c.args.sink.now) (g.K.Sink.written c.parts.sink) (g.K.Sink.written c.write_part.new.sink) c.args.bytes.now c.parts.at c.min-count.result c.parts.invariant.wrote part;
      later = c.in_ok-write_part.ensures.cause.succeeded ∙ c.parts.invariant.later;
    }
