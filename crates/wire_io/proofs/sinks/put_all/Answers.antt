use Rattle.std.proofs.Common.{ℕ, ◌≡◌, ◌<◌, ◌≤◌, ◌+◌, ◌∙◌, length, length-take, length-drop, arith, sym}
use Rattle.std.proofs.lemmas.Result.{err_from_is_err_and}
use Rattle.wire_io.proofs.SinkLaws.{Extends-rest, AppendsPart-rest}
use Rattle.wire_io.proofs.sinks.put_all.Goals as goal

pub returns-in_err-done-clause-part : goal.returns-in_err-done-clause-part
returns-in_err-done-clause-part g c =
    let p = err_from_is_err_and c.from_residual.result c.from_residual.ensures.1 in
    let within : c.pieces.done < length c.args.bytes.now = omega (arith, c.pieces-test.true) in
    rw p.1 (AppendsPart-rest (g.K.Sink.written c.args.sink.now) (g.K.Sink.written c.pieces.sink) (g.K.Sink.written c.put.new.self) c.args.bytes.now c.pieces.done c.in_err-done.field-0.0
    c.pieces.invariant.written within c.in_err-done.ensures.bytes
    (omega (arith, c.pieces.invariant.few, c.in_err-done.ensures.counted.puts))
    (let none = c.in_err-done.ensures.counted.empty_puts (omega (arith, length-take {A = ℕ}, length-drop {A = ℕ})) in omega (arith, c.pieces.invariant.none_empty)))

pub pieces-preserved : goal.pieces-preserved
pieces-preserved g c = record {
  written = Extends-rest _ _ _ c.args.bytes.now c.pieces.done c.in_ok-done.field-0 c.pieces.invariant.written c.in_ok-done.ensures.bytes;
  within = omega (arith, length-take {A = ℕ}, length-drop {A = ℕ}, c.in_ok-done.ensures.bound);
  few = omega (arith, length-take {A = ℕ}, length-drop {A = ℕ}, c.pieces.invariant.few, c.in_ok-done.ensures.counted.puts, c.in_ok-done.ensures.moves);
  none_empty = (let none = c.in_ok-done.ensures.counted.empty_puts (omega (arith, length-take {A = ℕ}, length-drop {A = ℕ})) in omega (arith, c.pieces.invariant.none_empty));
  later = c.in_ok-done.ensures.cause.succeeded ∙ c.pieces.invariant.later;
}
