-- Pending calls: what each waits for, and which of those that are held may be taken up.
use Rattle.std.specs.Prelude.{ℕ, Bool, ◌==◌, ◌&&◌, not, nat_lt, List, filter, length, Option, slice_get}
use Rattle.std.specs.List.{list_any}
use Rattle.fsa_types.specs.Sorting.{in_order}
use Rattle.fsa_types.specs.declared.request.Call.{Call}
use Rattle.fsa_types.specs.declared.reply.Blocker.{Blocker}

-- a call that hasn't ended, and the breaks and locks that it waits for
pub record Pending : Type 0 where
  pub call : Call
  pub blockers : List Blocker

-- a call is held where it waits for breaks or locks
abbrev pub is_held : Pending → Bool
is_held pending = not (length pending.blockers == 0)

-- some of what a call waits for is still there, by this test of what is
abbrev pub is_blocked : (Blocker → Bool) → Pending → Bool
is_blocked lives pending = list_any lives pending.blockers

-- a call was held, and nothing that it waits for is still there
abbrev pub is_let_go : (Blocker → Bool) → Pending → Bool
is_let_go lives pending = is_held pending && not (is_blocked lives pending)

-- of such calls, which stand under their turns, the one of the least turn
abbrev pub next_let_go : (Blocker → Bool) → List (ℕ × Pending) → Option (ℕ × Pending)
next_let_go lives pending =
    slice_get (in_order (λ a b. nat_lt a.0 b.0) (filter (λ entry. is_let_go lives entry.1) pending)) 0
