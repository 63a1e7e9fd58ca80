-- The reparse point that is lent of a file fits.
use Rattle.std.proofs.Common.{◌≡◌, ℕ, ◌≤◌, List, length, Option, Some, None}
use Rattle.std.specs.Borrow.{Bor}
use Rattle.std.specs.List.{All}
use Rattle.std.specs.Option.{option_copied}
use Rattle.std.specs.Prelude.{IfSome, option_and_then}
use Rattle.fsa_types.specs.Rows.{row_of}
use Rattle.fsa_model.proofs.RowLaws.{found-all, lent-row}
use Rattle.fsa_model.specs.Bounds.{most_point_bytes}
use Rattle.fsa_model.specs.Sound.{PointFits}
use Rattle.fsa_model.specs.Volume.{File}

-- it has few bytes
abbrev pub IsShort : ℕ × List ℕ → Type 0
IsShort point = length point.1 ≤ most_point_bytes

short_of : (row : Option File) → IfSome row PointFits → IfSome (option_and_then (λ r. r.point) row) IsShort
short_of None fits = tt
short_of (Some row) fits = fits

pub few-lent : (files : List (ℕ × File)) (file : ℕ) (lent : Option (Bor (ℕ × List ℕ))) → All (λ entry. PointFits entry.1) files
    → option_copied lent ≡ option_and_then (λ row. row.point) (row_of files file) → IfSome lent (λ point. length point.now.1 ≤ most_point_bytes)
few-lent files file lent fit same =
    lent-row IsShort lent (option_and_then (λ (row : File). row.point) (row_of files file)) same (short_of (row_of files file) (found-all PointFits files file fit))
