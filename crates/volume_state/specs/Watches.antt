-- Watches as they are kept, with what is known of each.
use Rattle.std.specs.Prelude.{◌≡◌, ℕ, Bool, true, false, ◌==◌, ◌&&◌, ◌||◌, not, min, List, [], ◌∷◌, ◌≤◌, All, Some, if◌then◌else◌}
use Rattle.std.specs.List.{list_any}
use Rattle.fsa_types.specs.Rows.{row_of}
use Rattle.fsa_types.specs.declared.request.What.{What}
use Rattle.fsa_model.specs.Lookups.{file_of_link}
use Rattle.fsa_model.specs.Volume.{Change, Handle, Link, Pending, Volume, Watch}
use Rattle.fsa_model.specs.Waiting.{has_due, is_notify_of, is_notify_on}
use Rattle.notify_queue.specs.Due.{asks_for_last, due_of}
use Rattle.notify_queue.specs.declared.watch.Watch as queue
use Rattle.volume_state.specs.declared.watch_row.WatchRow.{WatchRow}

-- the watch that the row is of
abbrev pub watch_of_row : WatchRow → Watch
watch_of_row row = record { handle = row.handle; filter = row.filter; tree = row.tree; from = row.from }

-- the same of its directory
abbrev pub asking : WatchRow → queue.Watch
asking row = record { dir = row.dir; filter = row.filter; tree = row.tree; from = row.from }

-- the row's handle is there, is of its directory, and was opened by its call
pub record IsOfHandle (handles : List (ℕ × Handle)) (links : List (ℕ × Link)) (row : WatchRow) : Type 0 where
  pub handle : Handle
  pub found : row_of handles row.handle ≡ Some handle
  pub client : handle.client ≡ row.client
  pub number : handle.number ≡ row.number
  pub dir : file_of_link links handle.link ≡ Some row.dir

-- and where it is said so, nothing is due, and no Notify is pending on it
pub record IsWatched (handles : List (ℕ × Handle)) (links : List (ℕ × Link)) (changes : List Change) (pending : List (ℕ × Pending)) (row : WatchRow) : Type 0 where
  pub of_handle : IsOfHandle handles links row
  pub quiet : row.due ≡ false → due_of changes (asking row) ≡ []
  pub unasked : row.asked ≡ false → All (λ entry. is_notify_on row.client row.number entry.1 ≡ false) pending

abbrev pub AreWatched : List (ℕ × Handle) → List (ℕ × Link) → List Change → List (ℕ × Pending) → List WatchRow → Type 0
AreWatched handles links changes pending rows = All (IsWatched handles links changes pending) rows

-- the base is no place behind the end of the changes, so many; each row is due from a place between the two
pub record AreKept (base end : ℕ) (rows : List WatchRow) : Type 0 where
  pub within : base ≤ end
  pub lie : All (λ row. (base ≤ row.from) × (row.from ≤ end)) rows

-- the least place from which one of these watches is due; the end where there is none
abbrev pub least_place : List Watch → ℕ → ℕ
least_place [] end = end
least_place (watch ∷ watches) end = min watch.from (least_place watches end)

-- ---- what becomes of a row

-- where it is of this handle, only what is noted from this place on is due
abbrev pub row_begun : ℕ → ℕ → WatchRow → WatchRow
row_begun handle place row = if row.handle == handle then record row { from = place; due = false } else row

-- once a change was noted, the last of these
abbrev pub row_noted : List Change → List (ℕ × Pending) → WatchRow → WatchRow
row_noted changes pending row =
    if row.due || not (asks_for_last (asking row) changes) then row
    else record row { due = true; asked = list_any (λ entry. is_notify_on row.client row.number entry.1) pending }

-- once this client has asked this
abbrev pub asked_by : ℕ → What → WatchRow → WatchRow
asked_by client what row = if not (row.client == client) || not (is_notify_of row.number what) then row else record row { asked = true }

-- ---- notifications to which something is due

-- the pending call is a Notify on the row's handle, and something is due to that
abbrev pub is_due_on : Volume → WatchRow → Pending → Bool
is_due_on v row pending = (row.due && row.asked) && (has_due v row.client row.number && is_notify_on row.client row.number pending)
