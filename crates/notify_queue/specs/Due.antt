-- What is due to a watch, and how many bytes a report of it takes.
use Rattle.std.specs.Prelude.{ℕ, Bool, false, ◌+◌, ◌-◌, ◌*◌, ◌/◌, ◌==◌, ◌&&◌, ◌||◌, nat_le, List, [], ◌∷◌, filter, find, length, map, Option, Some, None, slice_get, if◌then◌else◌}
use Rattle.std.specs.List.{list_any}
use Rattle.std.specs.Option.{option_map_or}
use Rattle.fsa_types.specs.PackedRows.{PackRow, change_row}
use Rattle.fsa_model.specs.Volume.{Change, Watch as Row}
use Rattle.fsa_model.specs.Watching.{due_to, is_asked_by, packed_changes, told_from}
use Rattle.notify_queue.specs.Log.{change_of}
use Rattle.notify_queue.specs.declared.part.LogEntry.{LogEntry}
use Rattle.notify_queue.specs.declared.watch.Watch.{Watch}

-- the watch as a volume lists it, under no handle
abbrev pub row_of_watch : Watch → Row
row_of_watch watch = record { handle = 0; filter = watch.filter; tree = watch.tree; from = watch.from }

-- what is due to it
abbrev pub due_of : List Change → Watch → List (ℕ × List ℕ)
due_of changes watch = due_to changes watch.dir (row_of_watch watch)

-- the watch asks for the last change
abbrev pub asks_for_last : Watch → List Change → Bool
asks_for_last watch changes = option_map_or (is_asked_by (row_of_watch watch) watch.dir) (slice_get changes (length changes - 1)) false

-- how many bytes these take, packed; None where there is none
abbrev pub size_due : List (ℕ × List ℕ) → Option ℕ
size_due [] = None
size_due (change ∷ changes) = Some (length (packed_changes (change ∷ changes)))

-- these, packed, where the room is enough
abbrev pub packed_within : List (ℕ × List ℕ) → ℕ → Option (List ℕ)
packed_within due room = if nat_le (length (packed_changes due)) room then Some (packed_changes due) else None

-- ---- the parts of a log

-- the watch asks for the change of this entry
abbrev pub asks_for : Watch → List ℕ → List (ℕ × ℕ) → LogEntry → Bool
asks_for watch units dirs entry = is_asked_by (row_of_watch watch) watch.dir (change_of units dirs entry)

-- what it is told of it
abbrev pub told_from_change : Watch → List ℕ → List (ℕ × ℕ) → LogEntry → ℕ × List ℕ
told_from_change watch units dirs entry = told_from watch.dir (change_of units dirs entry)

-- what is due to it of these entries
abbrev pub due_among : Watch → List ℕ → List (ℕ × ℕ) → List LogEntry → List (ℕ × List ℕ)
due_among watch units dirs entries = map (told_from_change watch units dirs) (filter (asks_for watch units dirs) entries)

-- the rows that are packed for these
abbrev pub rows_of : List (ℕ × List ℕ) → List PackRow
rows_of due = map (λ change. change_row change.0 change.1) due

-- of the places where the name relative to each ancestor ends: whether the directory is the first, or,
-- where the whole tree counts, any; and the place
abbrev pub is_seen_among : ℕ → Bool → List (ℕ × ℕ) → Bool
is_seen_among dir whole [] = false
is_seen_among dir whole (parent ∷ above) = parent.0 == dir || (whole && list_any (λ ancestor. ancestor.0 == dir) above)

abbrev pub written_for : ℕ → List (ℕ × ℕ) → ℕ
written_for dir seen = option_map_or (λ ancestor. ancestor.1) (find (λ ancestor. ancestor.0 == dir) seen) 0

-- ---- sizes

-- the next multiple of 4
abbrev pub rounded_to_4 : ℕ → ℕ
rounded_to_4 size = (size + 3) / 4 * 4

-- how many bytes an entry takes without its padding
abbrev pub change_size : ℕ × List ℕ → ℕ
change_size change = 12 + 2 * length change.1

-- so many bytes with these behind them
abbrev pub size_from : ℕ → List (ℕ × List ℕ) → ℕ
size_from size [] = size
size_from size (change ∷ changes) = size_from (rounded_to_4 size + change_size change) changes
