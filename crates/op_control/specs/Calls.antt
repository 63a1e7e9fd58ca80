-- The calls that set, ask for and remove a reparse point, and that set a limit and ask for a charge.
use Rattle.std.specs.Prelude.{ℕ}
use Rattle.fsa_types.specs.declared.request.Request.TheVariants as request
use Rattle.fsa_types.specs.declared.request.What.{What}
use Rattle.fsa_types.specs.declared.request.What.TheVariants.{Ask}
use Rattle.fsa_types.specs.declared.status.Status.TheVariants.{InvalidDeviceRequest}
use Rattle.fsa_model.specs.Outcome.{Outcome, refused}
use Rattle.fsa_model.specs.Quota.{try_query_quota, try_set_quota}
use Rattle.fsa_model.specs.ReparsePoints.{try_delete_reparse, try_get_reparse, try_set_reparse}
use Rattle.fsa_model.specs.Volume.{Volume}

-- it is a SetReparse
abbrev pub IsSetReparse : What → Type 0
IsSetReparse (Ask (request.SetReparse handle bytes)) = Unit {0}
IsSetReparse _ = ⊥

-- it is a GetReparse
abbrev pub IsGetReparse : What → Type 0
IsGetReparse (Ask (request.GetReparse handle room)) = Unit {0}
IsGetReparse _ = ⊥

-- it is a DeleteReparse
abbrev pub IsDeleteReparse : What → Type 0
IsDeleteReparse (Ask (request.DeleteReparse handle tag)) = Unit {0}
IsDeleteReparse _ = ⊥

-- it is a SetQuota
abbrev pub IsSetQuota : What → Type 0
IsSetQuota (Ask (request.SetQuota sid limit)) = Unit {0}
IsSetQuota _ = ⊥

-- it is a QueryQuota
abbrev pub IsQueryQuota : What → Type 0
IsQueryQuota (Ask (request.QueryQuota sid)) = Unit {0}
IsQueryQuota _ = ⊥

-- one try of setting a reparse point by this client; of no other call anything is said
abbrev pub asked_set_reparse : Volume → ℕ → What → Outcome
asked_set_reparse v client (Ask (request.SetReparse handle bytes)) = try_set_reparse v client handle bytes
asked_set_reparse v client _ = refused v InvalidDeviceRequest

-- one try of asking for a reparse point by this client
abbrev pub asked_get_reparse : Volume → ℕ → What → Outcome
asked_get_reparse v client (Ask (request.GetReparse handle room)) = try_get_reparse v client handle room
asked_get_reparse v client _ = refused v InvalidDeviceRequest

-- one try of removing a reparse point by this client
abbrev pub asked_delete_reparse : Volume → ℕ → What → Outcome
asked_delete_reparse v client (Ask (request.DeleteReparse handle tag)) = try_delete_reparse v client handle tag
asked_delete_reparse v client _ = refused v InvalidDeviceRequest

-- one try of setting a limit by this client
abbrev pub asked_set_quota : Volume → ℕ → What → Outcome
asked_set_quota v client (Ask (request.SetQuota sid limit)) = try_set_quota v client sid limit
asked_set_quota v client _ = refused v InvalidDeviceRequest

-- one try of asking for a charge, whoever asks
abbrev pub asked_query_quota : Volume → What → Outcome
asked_query_quota v (Ask (request.QueryQuota sid)) = try_query_quota v sid
asked_query_quota v _ = refused v InvalidDeviceRequest
