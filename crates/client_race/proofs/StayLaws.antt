-- Which scripts can be raced: no line of a script leaves.
use Rattle.std.proofs.Common.{◌≡◌, ℕ, zero, suc, true, false, List, [], ◌∷◌, ◌++◌, map, length, slice_get, Some, None, Ok, ap, sym, ◌∙◌, ◌≤◌}
use Rattle.std.specs.Prelude.{◌&&◌, nat_le}
use Rattle.fsa_types.specs.declared.request.Call.{Call}
use Rattle.fsa_types.specs.declared.request.What.{What}
use Rattle.fsa_types.specs.declared.request.What.TheVariants.{Leave}
use Rattle.fsa_model.specs.Bounds.{most_client_lines, most_line_feeds}
use Rattle.fsa_model.specs.Lines.{Line}
use Rattle.fsa_model.specs.Script.{script_of}
use Rattle.fsa_model.specs.ScriptText.{SpellsLines, call_line, client_line}
use Rattle.fsa_model.specs.Setup.{Script}
use Rattle.fsa_model.specs.Spelling.{can_be_spelled, is_line}
use Rattle.fsa_model.specs.Text.{name_of}
use Rattle.fsa_model.specs.Words.{is_name, most_id}
use Rattle.fsa_model.proofs.CountLaws.{and_right}
use Rattle.fsa_model.proofs.ScriptLaws.{script_of-fits, script_of-numbered, script_of-sids}
use Rattle.fsa_model.proofs.ScriptSpelt.{script_of-spelled}
use Rattle.client_race.specs.Races.{CanRace}

second_at : {A : Type 0} (l m : List A) (i : ℕ) (x : A) → slice_get m i ≡ Some x → (k : ℕ) × (slice_get (l ++ m) k ≡ Some x)
second_at [] m i x at = (i, at)
second_at (y ∷ l) m i x at = let rest = second_at l m i x at in (suc rest.0, rest.1)

map_at : {A B : Type 0} (f : A → B) (l : List A) (i : ℕ) (x : A) → slice_get l i ≡ Some x → slice_get (map f l) i ≡ Some (f x)
map_at f [] i x at = (let impossible : None ≡ Some x = at in cc)
map_at f (y ∷ l) zero x at = (let same : y ≡ x = (let e : Some y ≡ Some x = at in cc) in ap (λ z. Some (f z)) same)
map_at f (y ∷ l) (suc i) x at = map_at f l i x at

-- each line that is spelled is one that a line can be
each_is_line : (lines : List Line) (bytes : List ℕ) → SpellsLines lines bytes → (k : ℕ) (line : Line) → slice_get lines k ≡ Some line → is_line line ≡ true
each_is_line [] bytes spelled k line at = (let impossible : None ≡ Some line = at in cc)
each_is_line (one ∷ lines) bytes spelled zero line at = (let same : one ≡ line = (let e : Some one ≡ Some line = at in cc) in ap is_line (sym same) ∙ spelled.4)
each_is_line (one ∷ lines) bytes spelled (suc k) line at = each_is_line lines spelled.1 spelled.6 k line at

leave_isnt_built : (what : What) → what ≡ Leave → can_be_spelled what ≡ true → ⊥
leave_isnt_built what is built = (let impossible : false ≡ true = ap can_be_spelled (sym is) ∙ built in cc)

pub no_line_leaves : (bytes : List ℕ) (script : Script) → script_of bytes ≡ Ok script → (place : ℕ) (call : Call) → slice_get script.lines place ≡ Some call → call.what ≡ Leave → ⊥
no_line_leaves bytes script is place call at leaves =
    let spells = script_of-spelled bytes script is in
    let behind = second_at (map client_line script.setup.clients) (map (call_line script.setup.clients) script.lines) place (call_line script.setup.clients call) (map_at (call_line script.setup.clients) script.lines place call at) in
    let there = second_at spells.says.table _ behind.0 (call_line script.setup.clients call) behind.1 in
    let line : is_line (call_line script.setup.clients call) ≡ true
    = each_is_line spells.lines bytes spells.spelled (suc there.0) (call_line script.setup.clients call) (ap (λ (lines : List Line). slice_get lines (suc there.0)) spells.says.in_order ∙ there.1) in
    leave_isnt_built call.what leaves (and_right (is_name (name_of script.setup.clients call.client) && nat_le call.number most_id) (can_be_spelled call.what) line)

-- so a script that was read can be raced, where it is within the limits
pub script-races : (bytes : List ℕ) (script : Script) → script_of bytes ≡ Ok script → length script.lines ≤ most_line_feeds → length script.setup.clients ≤ most_client_lines → CanRace script
script-races bytes script is lines clients = record {
  lines = lines;
  some = (script_of-spelled bytes script is).says.some_client;
  clients = clients;
  sids = script_of-sids bytes script is;
  fit = script_of-fits bytes script is;
  numbered = script_of-numbered bytes script is;
  stay = no_line_leaves bytes script is;
}
