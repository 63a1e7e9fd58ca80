use Rattle.std.proofs.Common.{refl, arith, inl, inr}
use Rattle.std.proofs.lemmas.Bool.{cases_lt}
use Rattle.std.proofs.lemmas.List.{length-set}
use Rattle.script_read.proofs.DigitLemmas.{byte-bad, byte-good, bytes-done}
use Rattle.script_read.proofs.text.read_digits.Goals as goal

pub bytes-preserved : goal.bytes-preserved
bytes-preserved c =
    let fits = c.bytes.invariant.size in
    record {
      size = rw (length-set c.bytes.bytes c.bytes.i) c.bytes.invariant.size;
      good = λ small. byte-good c.args.digits.now c.bytes.bytes c.bytes.i c.digit_of-high.result c.digit_of-low.result _ (omega (arith, fits)) (omega arith) c.digit_of-high.ensures.digit
          c.digit_of-low.ensures.digit (omega (arith, small, c.max.ensures, c.max-greatest.ensures)) (omega (arith, small, c.max.ensures, c.max-greatest.ensures)) refl
          (c.bytes.invariant.good (omega (arith, small, c.max.ensures, c.max-greatest.ensures)));
      bad = λ great. elim (cases_lt c.bytes.greatest 16) [
        | inl before ↦ byte-bad c.args.digits.now c.bytes.bytes c.bytes.i c.digit_of-high.result c.digit_of-low.result (omega (arith, fits)) c.digit_of-high.ensures.digit
            c.digit_of-low.ensures.digit (λ first. omega (arith, great, before, first, c.max.ensures, c.max-greatest.ensures)) (c.bytes.invariant.good before)
        | inr already ↦ c.bytes.invariant.bad already
      ];
    }

pub returns-clause-digits : goal.returns-clause-digits
returns-clause-digits c small = bytes-done c.args.digits.now _ c.bytes.i (omega arith) (omega (arith, c.bytes.invariant.size)) (c.bytes.invariant.good small)
