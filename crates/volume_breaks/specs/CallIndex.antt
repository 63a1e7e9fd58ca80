-- The turns of pending calls under clients and numbers, and under the handles that they name.
use Rattle.std.specs.Prelude.{ℕ, Bool, List, Option, None, ◌==◌, ◌&&◌, nat_lt, not}
use Rattle.std.specs.List.{list_any}
use Rattle.std.specs.Option.{option_map_or}
use Rattle.fsa_types.specs.declared.request.Call.{Call}
use Rattle.fsa_types.specs.declared.request.What.{What}
use Rattle.fsa_types.specs.declared.request.What.TheVariants.{Ask}
use Rattle.fsa_model.specs.Close.{handle_named, names}
use Rattle.fsa_model.specs.Volume.{Pending}
use Rattle.volume_tables.specs.CallKey.{call_key_of}

-- the entries by calls and by handles; and how many more calls can be added without taking memory
pub record IndexedCalls : Type 0 where
  pub calls : List (ℕ × ℕ)
  pub handles : List (ℕ × ℕ)
  pub room : ℕ

-- the number of the handle that is named by what is asked
abbrev pub handle_in : What → Option ℕ
handle_in (Ask request) = handle_named request
handle_in _ = None

-- the key of a call by its client and number, and by its client and the handle that it names, 0 where it names none
abbrev pub call_key : Call → ℕ
call_key call = call_key_of call.client call.number

abbrev pub handle_key : Call → ℕ
handle_key call = option_map_or (λ handle. call_key_of call.client handle) (handle_in call.what) 0

abbrev pub row_call_key : Pending → ℕ
row_call_key pending = call_key pending.call

abbrev pub row_handle_key : Pending → ℕ
row_handle_key pending = handle_key pending.call

-- a call of this client that names this handle
abbrev pub is_naming : ℕ → ℕ → Pending → Bool
is_naming client handle pending = pending.call.client == client && names pending.call.what handle

-- of these calls the one of the least turn
abbrev pub is_first_naming : List (ℕ × Pending) → ℕ → ℕ → ℕ × Pending → Bool
is_first_naming pending client handle entry =
    is_naming client handle entry.1 && not (list_any (λ other. is_naming client handle other.1 && nat_lt other.0 entry.0) pending)
