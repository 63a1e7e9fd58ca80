-- Oplocks as they are kept, beside what a break of them sets aside.
use Rattle.std.specs.Prelude.{ℕ, Bool, false, ◌^◌, ◌<◌, ◌≤◌, ◌==◌, List, slice_get}
use Rattle.std.specs.Option.{option_map_or}
use Rattle.fsa_types.specs.OplockLists.{OplockState}
use Rattle.fsa_model.specs.Volume.{Oplock}
use Rattle.volume_breaks.specs.declared.telling.Told.{Told}

-- the oplocks; copies of those that the last break chose, in order; whom it told, and the breaks that it
-- waits for; the number of the last break that began; and how many more oplocks of each home can be put in
-- without taking memory, none where it isn't told
pub record OplocksView : Type 0 where
  pub rows : List Oplock
  pub chosen : List Oplock
  pub told : List Told
  pub waited : List ℕ
  pub last : ℕ
  pub rooms : List (ℕ × ℕ)

-- the oplocks, with the number of the last break that began
abbrev pub state_of : OplocksView → OplockState
state_of held = record { oplocks = held.rows; last_break = held.last }

-- the oplock at this place is of this handle
abbrev pub is_handle_at : List Oplock → ℕ → ℕ → Bool
is_handle_at oplocks place handle = option_map_or (λ oplock. oplock.handle == handle) (slice_get oplocks place) false

-- there is room for so many oplocks in all, and for as many that are chosen, told and waited for; their count
-- is below 2^32, and so is that of those chosen last
pub record IsRoomy (in_all rows chosen told waited last_chosen : ℕ) : Type 0 where
  pub rows_fit : in_all ≤ rows
  pub chosen_fit : in_all ≤ chosen
  pub told_fit : in_all ≤ told
  pub waited_fit : in_all ≤ waited
  pub few : in_all < 2 ^ 32
  pub last_told : last_chosen ≤ told
  pub last_fit : last_chosen ≤ waited
  pub last_few : last_chosen < 2 ^ 32
