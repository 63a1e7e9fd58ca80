use Rattle.volume_state.specs.Content.{content_of}
use Rattle.volume_state.proofs.GrantLaws.{IsSound-with_answer, held-answered}
use Rattle.volume_state.proofs.SortedLaws.{homes-fit}
use Rattle.volume_state.proofs.volume.Volume.answer_break.Goals as goal

pub invariant_of-self : goal.invariant_of-self
invariant_of-self c = (
  rw (c.answer.ensures.rows, c.release_breaks.ensures.others) (IsSound-with_answer (content_of c.self.inside) c.args.handle c.in_both-kept.result c.args.turn c.self.invariant.0),
  rw c.answer.ensures.rows (
      held-answered c.self.inside.oplocks.rows c.self.inside.handles.locks c.self.inside.pending c.release_breaks.new.pending c.args.handle c.in_both-kept.result c.args.turn c.self.inside.oplocks.last
      c.self.invariant.0.oplocks (rw c.as_slice-2.ensures at c.release_breaks.ensures.held) c.self.invariant.1),
  c.self.invariant.2,
  c.answer.ensures.sorted,
  rw c.release_breaks.ensures.others c.self.invariant.4,
  c.self.invariant.5,
)

pub answer-requires-clause-sorted : goal.answer-requires-clause-sorted
answer-requires-clause-sorted c = c.self.invariant.3

pub answer-requires-clause-fit : goal.answer-requires-clause-fit
answer-requires-clause-fit c = homes-fit (content_of c.self.inside) c.self.invariant.0
