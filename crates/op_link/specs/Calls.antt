-- The calls that give a file a new name.
use Rattle.std.specs.Prelude.{ℕ}
use Rattle.fsa_types.specs.declared.request.Request.TheVariants as request
use Rattle.fsa_types.specs.declared.request.What.{What}
use Rattle.fsa_types.specs.declared.request.What.TheVariants.{Ask}
use Rattle.fsa_types.specs.declared.status.Status.TheVariants.{InvalidDeviceRequest}
use Rattle.fsa_model.specs.Link.{try_link}
use Rattle.fsa_model.specs.Outcome.{Outcome, refused}
use Rattle.fsa_model.specs.Rename.{try_rename}
use Rattle.fsa_model.specs.Volume.{Volume}

-- it is a Rename
abbrev pub IsRename : What → Type 0
IsRename (Ask (request.Rename handle path replace)) = Unit {0}
IsRename _ = ⊥

-- it is a Link
abbrev pub IsLink : What → Type 0
IsLink (Ask (request.Link handle path replace)) = Unit {0}
IsLink _ = ⊥

-- one try of a rename by this client; of no other call anything is said
abbrev pub asked_rename : Volume → ℕ → What → Outcome
asked_rename v client (Ask (request.Rename handle path replace)) = try_rename v client handle path replace
asked_rename v client _ = refused v InvalidDeviceRequest

-- one try of a link by this client
abbrev pub asked_link : Volume → ℕ → What → Outcome
asked_link v client (Ask (request.Link handle path replace)) = try_link v client handle path replace
asked_link v client _ = refused v InvalidDeviceRequest
