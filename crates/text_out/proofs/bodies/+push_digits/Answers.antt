use Rattle.text_out.proofs.BodyLaws.{glyphs_step}
use Rattle.text_out.proofs.bodies.+push_digits.Goals as goal

pub returns-in_ok-push-clause-lines : goal.returns-in_ok-push-clause-lines
returns-in_ok-push-clause-lines size c =
    rw (c.in_ok-push.ensures.lines, c.in_ok-push_digits.ensures.lines, c.digit.ensures)
    (glyphs_step c.args.draft.now.lines c.args.number c.if-number-gt0.true)
