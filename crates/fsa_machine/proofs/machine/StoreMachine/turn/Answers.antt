use Rattle.fsa_model.proofs.CoherenceRuns.{run-coherent}
use Rattle.fsa_model.proofs.NoticeEnds.{run-watches_report}
use Rattle.fsa_machine.proofs.StandLaws.{RunsTo-none_ready, RunsTo-ends_once, released-turn}
use Rattle.fsa_machine.proofs.TrimLaws.{RunsTo-trimmed}
use Rattle.fsa_machine.proofs.machine.StoreMachine.turn.Goals as goal

pub returns-clause-none_is_ready : goal.returns-clause-none_is_ready
returns-clause-none_is_ready g c = λ r runs. RunsTo-none_ready _ _ _ _ r c.turn_uncounted.ensures.stands runs

pub returns-clause-each_call_ends_once : goal.returns-clause-each_call_ends_once
returns-clause-each_call_ends_once g c = λ r runs. RunsTo-ends_once _ _ _ _ r c.turn_uncounted.ensures.stands runs

pub returns-clause-a_held_call_is_tried_in_the_turn_that_lets_it_go : goal.returns-clause-a_held_call_is_tried_in_the_turn_that_lets_it_go
returns-clause-a_held_call_is_tried_in_the_turn_that_lets_it_go g c =
    rw (← c.self.view_is) (released-turn _ _ _ _ _ _ c.turn_uncounted.result c.args.call c.turn_uncounted.ensures.stands c.turn_uncounted.ensures.setup c.turn_uncounted.ensures.entries)

pub returns-clause-caching_is_coherent : goal.returns-clause-caching_is_coherent
returns-clause-caching_is_coherent g c = run-coherent _ _

pub returns-clause-watches_report_exactly : goal.returns-clause-watches_report_exactly
returns-clause-watches_report_exactly g c = run-watches_report _ _

pub returns-clause-trimmed : goal.returns-clause-trimmed
returns-clause-trimmed g c = λ r runs. RunsTo-trimmed _ _ _ _ r _ c.turn_uncounted.ensures.stands runs c.turn_uncounted.ensures.trimmed
