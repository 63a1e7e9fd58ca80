use Rattle.std.proofs.Common.{ℕ, ◌≤◌, ◌<◌, ◌∙◌, inl, inr, length, length-take, arith}
use Rattle.std.proofs.lemmas.List.{take-append-le}
use Rattle.wire_io.proofs.SourceLaws.{HasRead-append, HasReadAtMost-append, HasReadAtMost-more, HasMoreThan-append}
use Rattle.wire_io.proofs.whole_input.read_pieces.Goals as goal
use Rattle.wire_io.proofs.whole_input.read_pieces.Goals.{else-takes-test, then-takes-test+in_ok-count+else-count-eq0+else-count-left+in_ok-extend_from_slice+else-take-limit}

pub returns-in_err-count-clause-read : goal.returns-in_err-count-clause-read
returns-in_err-count-clause-read g c =
    HasReadAtMost-more _ _ _ _ _ _ c.takes.invariant.read c.in_err-count.ensures.bytes
    (omega (arith, c.takes.bytes.ok.0, length-take {A = ℕ}, c.take.auto.buf))

pub returns-then-count-left-clause-too_many : goal.returns-then-count-left-clause-too_many
returns-then-count-left-clause-too_many g c = λ _.
    HasMoreThan-append _ _ _ _ _ _ c.takes.invariant.read c.in_ok-count.ensures.bytes.0
    (omega (arith, c.takes.bytes.ok.0, length-take {A = ℕ}, c.take.auto.buf, c.in_ok-count.ensures.bound))

pub returns-then-count-left-clause-read : goal.returns-then-count-left-clause-read
returns-then-count-left-clause-read g c =
    HasReadAtMost-append _ _ _ _ _ _ c.takes.invariant.read c.in_ok-count.ensures.bytes.0
    (omega (arith, c.takes.bytes.ok.0, length-take {A = ℕ}, c.take.auto.buf, c.in_ok-count.ensures.bound))

pub returns-in_err-extend_from_slice-clause-read :
    goal.returns-in_err-extend_from_slice-clause-read
returns-in_err-extend_from_slice-clause-read g c =
    HasReadAtMost-append _ _ _ _ _ _ c.takes.invariant.read c.in_ok-count.ensures.bytes.0
    (omega (arith, c.takes.bytes.ok.0, length-take {A = ℕ}, c.take.auto.buf, c.in_ok-count.ensures.bound))

pub returns-in_err-count-clause-little : goal.returns-in_err-count-clause-little
returns-in_err-count-clause-little g c = record {
  given = omega (arith, length-take {A = ℕ}, c.take.auto.buf, c.takes.invariant.given, c.in_err-count.ensures.taken.0, c.takes.bytes.ok.0);
  once = omega (arith, c.takes.invariant.stops, c.in_err-count.ensures.taken.1);
  last = inr c.in_err-count.ensures.taken.2;
}

pub returns-then-count-eq0-clause-little : goal.returns-then-count-eq0-clause-little
returns-then-count-eq0-clause-little g c = record {
  given = omega (arith, length-take {A = ℕ}, c.take.auto.buf, c.takes.invariant.given, c.takes.invariant.within, c.in_ok-count.ensures.taken.0, c.if-count-eq0.true);
  once = omega (arith, c.takes.invariant.stops, c.in_ok-count.ensures.taken.1);
  last = inr (c.in_ok-count.ensures.taken.3 (omega (arith, c.if-count-eq0.true)) (omega (arith, length-take {A = ℕ}, c.take.auto.buf)));
}

pub returns-then-count-left-clause-little : goal.returns-then-count-left-clause-little
returns-then-count-left-clause-little g c =
    let still = c.in_ok-count.ensures.taken.2 (omega arith) in
    record {
      given = omega (arith, length-take {A = ℕ}, c.take.auto.buf, c.takes.invariant.given, c.in_ok-count.ensures.taken.0, c.in_ok-count.ensures.bound, c.takes.bytes.ok.0);
      once = omega (arith, c.takes.invariant.stops, c.in_ok-count.ensures.taken.1);
      last = inl (omega (arith, c.takes.invariant.stops, still));
    }

pub returns-in_err-extend_from_slice-clause-little : goal.returns-in_err-extend_from_slice-clause-little
returns-in_err-extend_from_slice-clause-little g c =
    let still = c.in_ok-count.ensures.taken.2 (omega arith) in
    record {
      given = omega (arith, length-take {A = ℕ}, c.take.auto.buf, c.takes.invariant.given, c.in_ok-count.ensures.taken.0, c.in_ok-count.ensures.bound, c.takes.bytes.ok.0);
      once = omega (arith, c.takes.invariant.stops, c.in_ok-count.ensures.taken.1);
      last = inl (omega (arith, c.takes.invariant.stops, still));
    }

pub takes-preserved : goal.takes-preserved
takes-preserved g c =
    let fits : c.in_ok-count.count ≤ length c.take.new.buf = c.in_ok-count.ensures.bound in
    record {
      read = rw (c.in_ok-extend_from_slice.ensures.items, take-append-le c.in_ok-count.count c.take.new.buf)
          (HasRead-append _ _ _ _ _ c.takes.invariant.read c.in_ok-count.ensures.bytes.0);
      within = omega (arith, length-take {A = ℕ}, c.in_ok-extend_from_slice.ensures.len, c.in_ok-count.ensures.bound);
      moves = omega (arith, length-take {A = ℕ}, c.in_ok-extend_from_slice.ensures.len, c.in_ok-count.ensures.bound);
      counted = omega (arith, c.take.ensures.counted, c.takes.invariant.counted);
      given = omega (arith, length-take {A = ℕ}, c.in_ok-extend_from_slice.ensures.len, c.takes.invariant.given, c.in_ok-count.ensures.taken.0);
      stops = (let still = c.in_ok-count.ensures.taken.2 (omega arith) in omega (arith, c.takes.invariant.stops));
      unfailed = c.in_ok-count.ensures.cause.succeeded ∙ c.takes.invariant.unfailed;
    }

pub unreachable-requires : goal.unreachable-requires
unreachable-requires g c =
    elim c.takes-test.branch [
      | else-takes-test w ↦ omega arith
      | then-takes-test+in_ok-count+else-count-eq0+else-count-left+in_ok-extend_from_slice+else-take-limit w ↦ omega arith
    ]
