-- The lines that lock and unlock byte ranges: what their fields say, and how they are written.
use Rattle.std.specs.Prelude.{ℕ, ◌&&◌, Bool, nat_le, List, ◌++◌, Result, codes}
use Rattle.fsa_types.specs.declared.request.What.{What}
use Rattle.fsa_types.specs.declared.request.What.TheVariants.{Ask}
use Rattle.fsa_types.specs.declared.request.Request.TheVariants.{Lock, Unlock}
use Rattle.fsa_model.specs.Fault.{Kind, ◌>>=◌}
use Rattle.fsa_model.specs.Words.{most_id, most_place, number_at, choice_at, ended}
use Rattle.fsa_model.specs.FieldText.{number_text, choice_text}

-- handle, place, length; `ex` for an exclusive lock or `sh` for a shared one; whether to `wait`, or to be
-- refused `now`, where the range conflicts
unfoldable pub lock_fields : List ℕ → Result What Kind
lock_fields bytes = do
  handle ← number_at most_id bytes
  place ← number_at most_place handle.1
  count ← number_at most_place place.1
  exclusive ← choice_at (codes "ex") (codes "sh") count.1
  wait ← choice_at (codes "wait") (codes "now") exclusive.1
  ended wait.1 (Ask (Lock handle.0 place.0 count.0 exclusive.0 wait.0))

abbrev pub lock_text : ℕ → ℕ → ℕ → Bool → Bool → List ℕ
lock_text handle place count exclusive wait =
    number_text handle ++ (number_text place ++ (number_text count ++ (choice_text (codes "ex") (codes "sh") exclusive ++ choice_text (codes "wait") (codes "now") wait)))

-- handle, place, length
unfoldable pub unlock_fields : List ℕ → Result What Kind
unlock_fields bytes = do
  handle ← number_at most_id bytes
  place ← number_at most_place handle.1
  count ← number_at most_place place.1
  ended count.1 (Ask (Unlock handle.0 place.0 count.0))

abbrev pub unlock_text : ℕ → ℕ → ℕ → List ℕ
unlock_text handle place count = number_text handle ++ (number_text place ++ number_text count)

-- a range that a line can say, of a lock or an unlock: it may be empty, and may pass the last place
abbrev pub is_range_line : ℕ → ℕ → ℕ → Bool
is_range_line handle place count = nat_le handle most_id && nat_le place most_place && nat_le count most_place
