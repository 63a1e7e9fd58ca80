use Rattle.std.proofs.Common.{ap, length, sym, ◌∙◌}
use Rattle.std.proofs.lemmas.List.{length-map}
use Rattle.fsa_model.specs.Setup.{Setup, client_of}
use Rattle.shared_volume.proofs.HistoryLaws.{history-none}
use Rattle.shared_volume.proofs.shared.SharedVolume.start.Goals as goal

-- what the lock says of each of its passes
pub returns-in-Ok-clause-passes : goal.returns-in-Ok-clause-passes
returns-in-Ok-clause-passes c = λ i p at. ((c.in-Ok.ensures.passes i p at).0, ap (λ k. k.own) (c.in-Ok.ensures.passes i p at).1)

pub invariant_of-start : goal.invariant_of-start
invariant_of-start c = record { history = history-none c.in_ok-machine.machine.setup c.in_ok-machine.machine.entries c.in_ok-machine.ensures.entries }

pub invariant_of-result : goal.invariant_of-result
invariant_of-result c = record {
  clients = c.in-Ok.ensures.lock.1 ∙ ap (λ clients. length clients) c.as_slice.ensures
      ∙ sym (ap (λ (setup : Setup). length setup.clients) (c.in-Ok.ensures.lock.0 ∙ c.in_ok-machine.ensures.setup) ∙ length-map c.args.setup.clients.items client_of);
}
