use Rattle.std.proofs.Common.{ap, map, subst, sym, ◌∙◌}
use Rattle.fsa_types.specs.BoundedList.{Bounded}
use Rattle.fsa_types.specs.declared.setup.Client.{Client as GivenClient}
use Rattle.fsa_model.specs.Setup.{client_of}
use Rattle.fsa_model.specs.LineCalls.{HaveSids}
use Rattle.fsa_top.proofs.RunLaws.{HaveSids-given}
use Rattle.fsa_top.proofs.run.begin.Goals as goal

pub new-requires : goal.new-requires
new-requires c = record {
  sids = HaveSids-given c.in_ok-clients.clients.items
      (subst HaveSids (sym (ap (λ (given : Bounded GivenClient). map client_of given.items) c.in_ok-clients.ensures ∙ c.clients.ensures)) c.requires.sids);
}
