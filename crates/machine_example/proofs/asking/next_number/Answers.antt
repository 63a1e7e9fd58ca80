use Rattle.std.proofs.Common.{arith}
use Rattle.fsa_machine.specs.MachineView.{calls_of_entries}
use Rattle.machine_example.proofs.CountLaws.{counts-on}
use Rattle.machine_example.proofs.asking.next_number.Goals as goal

pub loop-i-preserved : goal.loop-i-preserved
loop-i-preserved c = record {
  counts = counts-on c.args.client (calls_of_entries c.args.machine.now.entries) c.loop-i.i c.loop-i.count c.with_call-count.result c.call_at.result.now c.call_at.ensures c.with_call-count.ensures.counts c.loop-i.invariant.counts;
  bound = omega (arith, c.with_call-count.ensures.bound, c.loop-i.invariant.bound);
}
