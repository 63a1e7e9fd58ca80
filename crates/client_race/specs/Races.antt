-- Which scripts can be run by clients side by side.
use Rattle.std.specs.Prelude.{◌≡◌, ℕ, ◌≤◌, [], length, slice_get, Some}
use Rattle.fsa_types.specs.declared.request.Call.{Call}
use Rattle.fsa_types.specs.declared.request.What.TheVariants.{Leave}
use Rattle.fsa_model.specs.Bounds.{most_client_lines, most_line_feeds}
use Rattle.fsa_model.specs.LineCalls.{AreLineCalls, HaveSids}
use Rattle.fsa_model.specs.Schedule.{AreNumbered}
use Rattle.fsa_model.specs.Setup.{Script}

-- a script within the limits, which was read: its clients have SIDs, and its lines are calls of these, numbered in turn,
-- of which none leaves
pub record CanRace (script : Script) : Type 0 where
  pub lines : length script.lines ≤ most_line_feeds
  pub some : 1 ≤ length script.setup.clients
  pub clients : length script.setup.clients ≤ most_client_lines
  pub sids : HaveSids script.setup.clients
  pub fit : AreLineCalls (length script.setup.clients) script.lines
  pub numbered : AreNumbered [] script.lines
  pub stay : (place : ℕ) (call : Call) → slice_get script.lines place ≡ Some call → call.what ≡ Leave → ⊥
