use Rattle.fsa_model.specs.Generator.{generated}
use Rattle.script_read.proofs.generator.generate.Goals as goal

pub returns : goal.returns
unfolding generated
returns c = λ i. record {
  setup = record { table = c.in_ok-table.ensures i; clients = c.in_ok-clients.ensures i };
  lines = c.in_ok-lines.ensures i;
}
