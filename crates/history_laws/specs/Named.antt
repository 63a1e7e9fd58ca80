-- The names of a script's clients.
use Rattle.std.specs.Prelude.{◌≡◌, ◌<◌, ◌^◌, ℕ, true, List, [], length, slice_get, Some}
use Rattle.fsa_model.specs.Setup.{Client, Script}
use Rattle.fsa_model.specs.LineCalls.{AreLineCalls}
use Rattle.fsa_model.specs.Schedule.{AreNumbered}
use Rattle.fsa_model.specs.Words.{is_name}

-- each is a name, and no two are the same
pub record AreNamed (clients : List Client) : Type 0 where
  pub names : (place : ℕ) (client : Client) → slice_get clients place ≡ Some client → is_name client.name ≡ true
  pub differ : (place other : ℕ) (client another : Client) → slice_get clients place ≡ Some client → slice_get clients other ≡ Some another → client.name ≡ another.name → place ≡ other

-- what the bytes of a script give: its clients have names, its lines are calls of these, numbered in turn, and
-- few enough that their numbers are below 2 ^ 64
pub record IsReadScript (script : Script) : Type 0 where
  pub named : AreNamed script.setup.clients
  pub fit : AreLineCalls (length script.setup.clients) script.lines
  pub numbered : AreNumbered [] script.lines
  pub few : length script.lines < 2 ^ 63
