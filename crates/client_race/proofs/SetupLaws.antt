-- The clients of a setup, as they are given.
use Rattle.std.proofs.Common.{◌≡◌, ◌<◌, List, [], ◌∷◌, length, map, All, ap, sym, ◌∙◌}
use Rattle.std.proofs.lemmas.List.{length-map}
use Rattle.std.proofs.lemmas.List.Elements.{All-cons, All-nil}
use Rattle.fsa_types.specs.declared.setup.Client.{Client as GivenClient}
use Rattle.fsa_model.specs.LineCalls.{HaveSids}
use Rattle.fsa_model.specs.Setup.{Client, client_of}

-- clients that have SIDs
pub HaveSids-given : (clients : List GivenClient) → HaveSids (map client_of clients) → All (λ client. 0 < length client.sids.items) clients
HaveSids-given [] have = All-nil (λ (client : GivenClient). 0 < length client.sids.items)
HaveSids-given (client ∷ clients) have = All-cons (λ (client : GivenClient). 0 < length client.sids.items) client clients have.0 (HaveSids-given clients have.1)

pub as_many : (given : List GivenClient) (clients : List Client) → map client_of given ≡ clients → length given ≡ length clients
as_many given clients is = sym (length-map given client_of) ∙ ap length is
