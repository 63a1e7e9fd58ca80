use Rattle.std.proofs.Common.{◌∙◌, sym}
use Rattle.pending_queue.proofs.CountLemmas.{count-at, count-none}
use Rattle.pending_queue.proofs.calls.count_of.Goals as goal

pub returns-in-None : goal.returns-in-None
returns-in-None c = count-none c.args.calls.now c.args.turn (sym c.find_call.ensures.place ∙ c.in-None.is)

pub returns-in-Some : goal.returns-in-Some
returns-in-Some c = count-at c.args.calls.now c.args.turn c.in-Some.place (0, 0) c.requires.differ (sym c.find_call.ensures.place ∙ c.in-Some.is)
