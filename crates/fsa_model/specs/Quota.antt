-- Quotas, after [MS-FSA] 'Server Requests Setting Quota Information' and 'Server Requests Querying Quota
-- Information'.
use Rattle.std.specs.Prelude.{ℕ, Bool, not, if◌then◌else◌}
use Rattle.fsa_types.specs.Access.{has_sid}
use Rattle.fsa_types.specs.declared.reply.Body.TheVariants as body
use Rattle.fsa_types.specs.declared.status.Status.TheVariants.{Success, AccessDenied}
use Rattle.fsa_model.specs.Charge.{charge, limit}
use Rattle.fsa_model.specs.Edits.{with_limit}
use Rattle.fsa_model.specs.Lookups.{sids_of}
use Rattle.fsa_model.specs.Outcome.{Outcome, Done, ends_with, refused}
use Rattle.fsa_model.specs.Volume.{Volume}

-- the client has SID 0, which sets limits
abbrev pub is_administrator : Volume → ℕ → Bool
is_administrator v client = has_sid (sids_of v client) 0

-- one try of setting an owner's limit, also below what he is charged
unfoldable pub try_set_quota : Volume → ℕ → ℕ → ℕ → Outcome
try_set_quota v client sid bytes =
    if not (is_administrator v client) then refused v AccessDenied else ends_with (with_limit v sid bytes) Success

-- one try of asking for an owner's charge and limit
unfoldable pub try_query_quota : Volume → ℕ → Outcome
try_query_quota v sid = Done v (record { status = Success; body = body.Quota (charge v sid) (limit v sid) })
