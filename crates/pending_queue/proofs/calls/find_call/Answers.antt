use Rattle.pending_queue.proofs.CountLemmas.{place-none}
use Rattle.pending_queue.proofs.calls.find_call.Goals as goal

pub returns-then-rising-clause-none : goal.returns-then-rising-clause-none
returns-then-rising-clause-none c = place-none c.args.calls.now c.args.turn c.place_of.result c.place_of.ensures
