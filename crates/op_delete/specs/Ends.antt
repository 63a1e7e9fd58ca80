-- Which pending calls end, and how.
use Rattle.std.specs.Prelude.{ℕ, Bool, ◌==◌, ◌&&◌, nat_lt, List, filter, if◌then◌else◌}
use Rattle.std.specs.Option.{option_map_or}
use Rattle.fsa_types.specs.Rows.{row_of}
use Rattle.fsa_types.specs.Sorting.{in_order}
use Rattle.fsa_types.specs.declared.reply.Body.TheVariants.{Nothing}
use Rattle.fsa_types.specs.declared.request.Call.{Call}
use Rattle.fsa_types.specs.declared.request.What.{What}
use Rattle.fsa_types.specs.declared.status.Status.{Status}
use Rattle.fsa_types.specs.declared.status.Status.TheVariants.{Cancelled}
use Rattle.fsa_model.specs.Close.{closed_status, is_open_or_wait, names, pending_by_turn, with_calls_ended}
use Rattle.fsa_model.specs.Edits.{with_end}
use Rattle.fsa_model.specs.Volume.{Pending, Volume}
use Rattle.op_delete.specs.declared.ends.Ending.{Ending}
use Rattle.op_delete.specs.declared.ends.Ending.TheVariants.{OfHandle, OfClient}

-- the call is one of those that end
abbrev pub ends_call : Ending → Call → Bool
ends_call (OfHandle client handle) call = call.client == client && names call.what handle
ends_call (OfClient client) call = call.client == client && is_open_or_wait call.what

-- the status with which it ends
abbrev pub end_status : Ending → What → Status
end_status (OfHandle client handle) what = closed_status what
end_status (OfClient client) what = Cancelled

-- all of them ended, in order of turns
abbrev pub with_ending : Ending → Volume → Volume
with_ending ending v = with_calls_ended (end_status ending) (pending_by_turn (λ pending. ends_call ending pending.call) v) v

-- the call that is pending under this turn ended, where it is one of them
abbrev pub with_row_ended : Ending → Pending → Volume → Volume
with_row_ended ending row v =
    if ends_call ending row.call then with_end v row.call.client row.call.number (record { status = end_status ending row.call.what; body = Nothing })
    else v

abbrev pub with_turn_ended : Ending → ℕ → Volume → Volume
with_turn_ended ending turn v = option_map_or (λ row. with_row_ended ending row v) (row_of v.pending turn) v

-- those of later turns that are still to end, in order of turns
abbrev pub to_end : Ending → ℕ → Volume → List (ℕ × Pending)
to_end ending after v =
    in_order (λ a b. nat_lt a.0 b.0) (filter (λ entry. ends_call ending entry.1.call && nat_lt after entry.0) v.pending)
