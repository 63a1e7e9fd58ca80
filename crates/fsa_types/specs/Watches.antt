-- Watches of directories, and the changes that they tell of, after [MS-FSA] 'Server Requests Change
-- Notifications for a Directory'.
use Rattle.std.specs.Prelude.{ℕ, Bool, List}

-- a watch of a directory ('Per ChangeNotifyEntry'): its handle, what it asks for, whether the whole
-- tree counts, and the place in the list of changes from which on it is due
pub record Watch : Type 0 where
  pub handle : ℕ
  pub filter : ℕ
  pub tree : Bool
  pub from : ℕ

-- a change: its action, its filter bits, and each ancestor directory of what changed, the parent
-- first, with the name relative to it
pub record Change : Type 0 where
  pub action : ℕ
  pub bits : ℕ
  pub seen_from : List (ℕ × List ℕ)
