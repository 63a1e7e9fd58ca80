use Rattle.std.proofs.Common.{ap, ◌∙◌, ◌+◌}
use Rattle.shared_volume.proofs.HistoryLaws.{turn-history, length-mine}
use Rattle.shared_volume.proofs.engine.EngineMachine.turn.Goals as goal

pub turn-requires-clause-number : goal.turn-requires-clause-number
turn-requires-clause-number c = c.requires.may.next ∙ ap (λ n. n + 1) (length-mine c.args.call.client c.args.self.now.machine.entries)

pub invariant_of-self : goal.invariant_of-self
invariant_of-self c = let e = c.turn.ensures in let before = c.args.self.now in record {
  history = turn-history before.machine c.turn.new.self c.args.call c.turn.result before.history (c.requires.may.next ∙ ap (λ n. n + 1) (length-mine c.args.call.client before.machine.entries)) e.setup e.entries e.out e.full e.err;
}
