-- The changes that a log keeps: their paths one after the other, each from its last unit to its first.
use Rattle.std.specs.Prelude.{◌≡◌, ℕ, ◌+◌, ◌-◌, ◌*◌, ◌^◌, ◌<◌, ◌≤◌, List, [], ◌∷◌, ◌++◌, map, take, drop, reverse, length, slice_get, All}
use Rattle.std.specs.Option.{option_map_or}
use Rattle.fsa_model.specs.Volume.{Change}
use Rattle.notify_queue.specs.declared.part.LogEntry.{LogEntry}

-- the name relative to an ancestor is what of the path was written when the ancestor was reached
abbrev pub relative : List ℕ → ℕ × ℕ → ℕ × List ℕ
relative path dir = (dir.0, reverse (take dir.1 path))

-- a change, of its entry: where its path and its ancestors begin, and how many they are
abbrev pub change_of : List ℕ → List (ℕ × ℕ) → LogEntry → Change
change_of units dirs entry = record {
  action = entry.action;
  bits = entry.bits;
  seen_from = map (relative (take entry.units (drop entry.first_unit units))) (take entry.dirs (drop entry.first_dir dirs));
}

abbrev pub changes_of : List ℕ → List (ℕ × ℕ) → List LogEntry → List Change
changes_of units dirs entries = map (change_of units dirs) entries

-- what is seen of changes that are kept; the path begun, from its last unit to its first; from where the
-- change begun is seen so far; and the room for more changes, units and ancestors
pub record LogPartView : Type 0 where
  pub changes : List Change
  pub path : List ℕ
  pub seen : List (ℕ × List ℕ)
  pub room : ℕ
  pub units : ℕ
  pub dirs : ℕ

-- what was noted before what is kept: of each of these parts, in order, the first changes, so many
abbrev pub changes_before : List (LogPartView × ℕ) → List Change
changes_before [] = []
changes_before (part ∷ parts) = take part.1 part.0.changes ++ changes_before parts

-- what is seen of a log: all changes that were ever noted, and of these the place of the first that is kept; and the
-- rest as of a part
pub record Log : Type 0 where
  pub changes : List Change
  pub base : ℕ
  pub path : List ℕ
  pub seen : List (ℕ × List ℕ)
  pub room : ℕ
  pub units : ℕ
  pub dirs : ℕ

-- so many changes are gone, and the base is none of these; room is promised for as many as there is room for, and as
-- can be counted
pub record IsTrimmed (past : List (LogPartView × ℕ)) (gone base room : ℕ) (part : LogPartView) : Type 0 where
  pub before : length (changes_before past) ≡ gone
  pub from : gone ≤ base
  pub to : base ≤ gone + length part.changes
  pub there : room ≤ part.room
  pub counted : gone + length part.changes + room < 2 ^ 64

-- a log holds this part behind so many changes, none of which is kept
pub record Holds (log : Log) (gone : ℕ) (part : LogPartView) : Type 0 where
  pub before : List Change
  pub counted : length before ≡ gone
  pub changes : log.changes ≡ before ++ part.changes
  pub from : gone ≤ log.base

-- how many units their paths have in all
abbrev pub units_of_paths : List LogEntry → ℕ
units_of_paths [] = 0
units_of_paths (entry ∷ entries) = entry.units + units_of_paths entries

-- the entries lie one behind the other, from this unit and this ancestor on, up to what is begun
abbrev pub AreLaid : ℕ → ℕ → List LogEntry → ℕ → ℕ → Type 0
AreLaid unit dir [] first_unit first_dir = (unit ≡ first_unit) × (dir ≡ first_dir)
AreLaid unit dir (entry ∷ entries) first_unit first_dir =
    (entry.first_unit ≡ unit) × (entry.first_dir ≡ dir) × AreLaid (unit + entry.units) (dir + entry.dirs) entries first_unit first_dir

-- where the path of the change at this place begins, and where its ancestors; behind the last change these
abbrev pub start_of : List LogEntry → ℕ → ℕ → ℕ → ℕ × ℕ
start_of entries place unit dir = option_map_or (λ entry. (entry.first_unit, entry.first_dir)) (slice_get entries place) (unit, dir)

-- the entry, where so many units and ancestors before it are gone
abbrev pub moved : ℕ → ℕ → LogEntry → LogEntry
moved unit dir entry = record entry { first_unit = entry.first_unit - unit; first_dir = entry.first_dir - dir }

-- each entry lies before what is begun, and they are apart; each ancestor's name within the path begun
pub record IsLog (units : List ℕ) (dirs : List (ℕ × ℕ)) (entries : List LogEntry) (first_unit first_dir : ℕ) : Type 0 where
  pub entries_lie : All (λ entry. (entry.first_unit + entry.units ≤ first_unit) × (entry.first_dir + entry.dirs ≤ first_dir)) entries
  pub apart : units_of_paths entries ≤ first_unit
  pub laid : AreLaid 0 0 entries first_unit first_dir
  pub unit_lies : first_unit ≤ length units
  pub dir_lies : first_dir ≤ length dirs
  pub names_lie : All (λ dir. dir.1 ≤ length (drop first_unit units)) (drop first_dir dirs)

-- what a log is made of: each entry lies within the units and the ancestors, and they are apart
pub record ArePieces (units : List ℕ) (dirs : List (ℕ × ℕ)) (entries : List LogEntry) : Type 0 where
  pub lie : All (λ entry. (entry.first_unit + entry.units ≤ length units) × (entry.first_dir + entry.dirs ≤ length dirs)) entries
  pub apart : units_of_paths entries ≤ length units
  -- with 15 bytes for the numbers and the padding of each, their reports take less than 2^64
  pub few : 15 * length entries + 2 * length units < 2 ^ 64
