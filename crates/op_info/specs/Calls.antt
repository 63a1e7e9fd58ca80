-- The calls that ask for information, set times and attributes, and set the owner and the access list.
use Rattle.std.specs.Prelude.{ℕ}
use Rattle.fsa_types.specs.declared.request.Request.TheVariants.{QueryInfo, SetBasic, SetSecurity}
use Rattle.fsa_types.specs.declared.request.What.{What}
use Rattle.fsa_types.specs.declared.request.What.TheVariants.{Ask}
use Rattle.fsa_types.specs.declared.status.Status.TheVariants.{InvalidDeviceRequest}
use Rattle.fsa_model.specs.Outcome.{Outcome, refused}
use Rattle.fsa_model.specs.QueryInfo.{try_query_info}
use Rattle.fsa_model.specs.Security.{try_set_security}
use Rattle.fsa_model.specs.SetBasic.{try_set_basic}
use Rattle.fsa_model.specs.Volume.{Volume}

-- it is a QueryInfo, a SetBasic, a SetSecurity
abbrev pub IsQueryInfo : What → Type 0
IsQueryInfo (Ask (QueryInfo handle kind room)) = Unit {0}
IsQueryInfo _ = ⊥

abbrev pub IsSetBasic : What → Type 0
IsSetBasic (Ask (SetBasic handle creation access write change attributes)) = Unit {0}
IsSetBasic _ = ⊥

abbrev pub IsSetSecurity : What → Type 0
IsSetSecurity (Ask (SetSecurity handle owner dacl)) = Unit {0}
IsSetSecurity _ = ⊥

-- one try of each; of no other call anything is said
abbrev pub asked_query_info : Volume → ℕ → What → Outcome
asked_query_info v client (Ask (QueryInfo handle kind room)) = try_query_info v client handle kind room
asked_query_info v client _ = refused v InvalidDeviceRequest

abbrev pub asked_set_basic : Volume → ℕ → What → Outcome
asked_set_basic v client (Ask (SetBasic handle creation access write change attributes)) =
    try_set_basic v client handle (record { creation = creation; access = access; write = write; change = change; attributes = attributes })
asked_set_basic v client _ = refused v InvalidDeviceRequest

abbrev pub asked_set_security : Volume → ℕ → What → Outcome
asked_set_security v client (Ask (SetSecurity handle owner dacl)) = try_set_security v client handle owner dacl
asked_set_security v client _ = refused v InvalidDeviceRequest
