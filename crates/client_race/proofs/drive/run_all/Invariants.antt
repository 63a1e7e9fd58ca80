use Rattle.client_race.specs.Runners.{IsReady, Follows}
use Rattle.client_race.proofs.drive.run_all.Given as goal

abbrev pub invariant-loop : goal.invariant-loop
invariant-loop g l = record {
  run : Follows l.volume l.fn.runner l.runner;
  ready : IsReady l.volume l.fn.runner;
}
