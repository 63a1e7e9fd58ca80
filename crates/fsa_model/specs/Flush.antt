-- Flushing, after [MS-FSA] 'Server Requests Flushing Cached Data'.
use Rattle.std.specs.Prelude.{ℕ, ◌||◌, if◌then◌else◌}
use Rattle.std.specs.Option.{option_map_or}
use Rattle.fsa_types.specs.Access.{has_any}
use Rattle.fsa_types.specs.Masks.{APPEND_DATA, WRITE_DATA}
use Rattle.fsa_types.specs.Rows.{row_of}
use Rattle.fsa_types.specs.declared.status.Status.TheVariants.{Success, InvalidHandle, AccessDenied}
use Rattle.fsa_model.specs.Lookups.{handle_of}
use Rattle.fsa_model.specs.Outcome.{Outcome, ends_with, refused}
use Rattle.fsa_model.specs.Volume.{Handle, Volume}

-- WRITE_DATA or APPEND_DATA is granted; nothing is changed, and no oplock is broken
abbrev pub flush_by : Volume → Handle → Outcome
flush_by v handle = if has_any handle.access WRITE_DATA || has_any handle.access APPEND_DATA then ends_with v Success else refused v AccessDenied

-- the handle of this number
unfoldable pub flush_at : Volume → ℕ → Outcome
flush_at v id = option_map_or (λ handle. flush_by v handle) (row_of v.handles id) (refused v InvalidHandle)

-- one try of a flush
unfoldable pub try_flush : Volume → ℕ → ℕ → Outcome
try_flush v client handle = option_map_or (λ id. flush_at v id) (handle_of v client handle) (refused v InvalidHandle)
