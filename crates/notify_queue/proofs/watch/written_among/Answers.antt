use Rattle.std.proofs.Common.{None, Some}
use Rattle.notify_queue.proofs.DueLaws.{among-written}
use Rattle.notify_queue.proofs.watch.written_among.Goals as goal

pub returns-in-None-clause-seen : goal.returns-in-None-clause-seen
returns-in-None-clause-seen c = (among-written c.args.dir c.args.seen.now None (rw (c.in-None.is) at c.find_dir.ensures)).0

pub returns-in-Some-clause-seen : goal.returns-in-Some-clause-seen
returns-in-Some-clause-seen c = (among-written c.args.dir c.args.seen.now (Some c.in-Some.ancestor.now) c.in-Some.ensures).0

pub returns-in-Some-clause-written : goal.returns-in-Some-clause-written
returns-in-Some-clause-written c = (among-written c.args.dir c.args.seen.now (Some c.in-Some.ancestor.now) c.in-Some.ensures).1
