use Rattle.std.proofs.Common.{arith, ap, map, subst, sym, ◌∙◌}
use Rattle.fsa_types.specs.BoundedList.{Bounded}
use Rattle.fsa_types.specs.declared.setup.Client.{Client as GivenClient}
use Rattle.fsa_model.specs.LineCalls.{HaveSids}
use Rattle.fsa_model.specs.Setup.{client_of}
use Rattle.client_race.proofs.SetupLaws.{HaveSids-given, as_many}
use Rattle.client_race.proofs.racing.started.Goals as goal

pub start-requires-clause-clients : goal.start-requires-clause-clients
start-requires-clause-clients c =
    let given = ap (λ (given : Bounded GivenClient). map client_of given.items) c.in_ok-clients.ensures ∙ c.clients.ensures in
    let many = as_many c.in_ok-clients.clients.items _ given in let some = c.requires.can.some in let few = c.requires.can.clients in (omega arith, omega arith)

pub start-requires-clause-sids : goal.start-requires-clause-sids
start-requires-clause-sids c =
    HaveSids-given c.in_ok-clients.clients.items
    (subst HaveSids (sym (ap (λ (given : Bounded GivenClient). map client_of given.items) c.in_ok-clients.ensures ∙ c.clients.ensures)) c.requires.can.sids)
