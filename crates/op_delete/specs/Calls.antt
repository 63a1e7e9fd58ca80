-- The calls of a SetDisposition, of a close and of a leaving.
use Rattle.std.specs.Prelude.{ℕ}
use Rattle.fsa_types.specs.declared.request.Request.TheVariants.{Close, SetDisposition}
use Rattle.fsa_types.specs.declared.request.What.{What}
use Rattle.fsa_types.specs.declared.request.What.TheVariants.{Ask, Leave}
use Rattle.fsa_types.specs.declared.status.Status.TheVariants.{InvalidDeviceRequest}
use Rattle.fsa_model.specs.Close.{try_close, try_leave}
use Rattle.fsa_model.specs.Outcome.{Outcome, refused}
use Rattle.fsa_model.specs.SetDisposition.{try_set_disposition}
use Rattle.fsa_model.specs.Volume.{Volume}

-- it is a SetDisposition
abbrev pub IsSetDisposition : What → Type 0
IsSetDisposition (Ask (SetDisposition handle delete)) = Unit {0}
IsSetDisposition _ = ⊥

-- it is a Close; a client leaves by it
abbrev pub IsClose : What → Type 0
IsClose (Ask (Close handle)) = Unit {0}
IsClose _ = ⊥

abbrev pub IsLeave : What → Type 0
IsLeave Leave = Unit {0}
IsLeave _ = ⊥

-- one try of a SetDisposition, of a close, and of a leaving; of no other call anything is said
abbrev pub asked_set_disposition : Volume → ℕ → What → Outcome
asked_set_disposition v client (Ask (SetDisposition handle delete)) = try_set_disposition v client handle delete
asked_set_disposition v client _ = refused v InvalidDeviceRequest

abbrev pub asked_close : Volume → ℕ → What → Outcome
asked_close v client (Ask (Close handle)) = try_close v client handle
asked_close v client _ = refused v InvalidDeviceRequest

abbrev pub asked_leave : Volume → ℕ → What → Outcome
asked_leave v client Leave = try_leave v client
asked_leave v client _ = refused v InvalidDeviceRequest
