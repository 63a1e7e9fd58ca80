use Rattle.pending_queue.proofs.ReadyLemmas.{place-searched, gap-searched}
use Rattle.pending_queue.proofs.ready.place_of.Goals as goal

pub returns-clause-there : goal.returns-clause-there
returns-clause-there c = place-searched c.args.ready.now c.args.turn c.binary_search.result c.binary_search.ensures.bound c.binary_search.ensures.position

pub returns-clause-missing : goal.returns-clause-missing
returns-clause-missing c = gap-searched c.args.ready.now c.args.turn c.requires.rising c.binary_search.result c.binary_search.ensures.bound c.binary_search.ensures.position
