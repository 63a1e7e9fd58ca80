use Rattle.std.proofs.Common.{◌∙◌, sym}
use Rattle.pending_queue.proofs.CountLemmas.{is_at-place, place-none}
use Rattle.pending_queue.proofs.calls.place_of.Goals as goal

pub returns-then-is_at-clause-place : goal.returns-then-is_at-clause-place
returns-then-is_at-clause-place c = is_at-place c.args.calls.now c.partition_point-place.result c.args.turn c.requires.differ (sym c.is_at.ensures ∙ c.if-is_at.true)

pub returns-clause-none : goal.returns-clause-none
returns-clause-none c = place-none c.args.calls.now c.args.turn c.look_for.result c.look_for.ensures
