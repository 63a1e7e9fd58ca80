-- The call of an open.
use Rattle.std.specs.Prelude.{ℕ}
use Rattle.fsa_types.specs.declared.request.Request.TheVariants.{Create}
use Rattle.fsa_types.specs.declared.request.What.{What}
use Rattle.fsa_types.specs.declared.request.What.TheVariants.{Ask}
use Rattle.fsa_types.specs.declared.status.Status.TheVariants.{InvalidDeviceRequest}
use Rattle.fsa_model.specs.Open.{try_create}
use Rattle.fsa_model.specs.Outcome.{Outcome, refused}
use Rattle.fsa_model.specs.Volume.{Volume}

-- it is a Create
abbrev pub IsCreate : What → Type 0
IsCreate (Ask (Create path wanted share disposition options attributes key)) = Unit {0}
IsCreate _ = ⊥

-- one try of it; of no other call anything is said
abbrev pub asked_try : Volume → ℕ → ℕ → What → Outcome
asked_try v client number (Ask (Create path wanted share disposition options attributes key)) =
    try_create v (record {
      client = client;
      number = number;
      path = path;
      wanted = wanted;
      share = share;
      disposition = disposition;
      options = options;
      attributes = attributes;
      key = key;
    })
asked_try v client number _ = refused v InvalidDeviceRequest
