-- The calls that ask for an oplock and acknowledge a break.
use Rattle.std.specs.Prelude.{ℕ}
use Rattle.fsa_types.specs.declared.request.Request.TheVariants.{Oplock, Ack}
use Rattle.fsa_types.specs.declared.request.What.{What}
use Rattle.fsa_types.specs.declared.request.What.TheVariants.{Ask}
use Rattle.fsa_types.specs.declared.status.Status.TheVariants.{InvalidDeviceRequest}
use Rattle.fsa_model.specs.Grant.{try_oplock, try_ack}
use Rattle.fsa_model.specs.Outcome.{Outcome, refused}
use Rattle.fsa_model.specs.Volume.{Volume}

-- it is an Oplock
abbrev pub IsOplock : What → Type 0
IsOplock (Ask (Oplock handle level)) = Unit {0}
IsOplock _ = ⊥

-- it is an Ack
abbrev pub IsAck : What → Type 0
IsAck (Ask (Ack handle level)) = Unit {0}
IsAck _ = ⊥

-- one try of an oplock's request by this client, in this turn; of no other call anything is said
abbrev pub asked_oplock : Volume → ℕ → ℕ → What → Outcome
asked_oplock v client turn (Ask (Oplock handle level)) = try_oplock v client handle level turn
asked_oplock v client turn _ = refused v InvalidDeviceRequest

-- one try of an acknowledgement by this client, in this turn
abbrev pub asked_ack : Volume → ℕ → ℕ → What → Outcome
asked_ack v client turn (Ask (Ack handle level)) = try_ack v client handle level turn
asked_ack v client turn _ = refused v InvalidDeviceRequest
