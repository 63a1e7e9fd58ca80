-- Which bytes write a script: its lines in order, each spelled, with a line feed behind it.
use Rattle.std.specs.Prelude.{◌≡◌, ◌≢◌, ◌⊎◌, ℕ, ◌==◌, ◌<◌, ◌≤◌, true, false, List, [], ◌∷◌, ◌++◌, length, map, All, AllPairs}
use Rattle.std.specs.List.{AllByRecursion}
use Rattle.fsa_types.specs.CaseTable.{ascii_pairs, is_at_fault}
use Rattle.fsa_types.specs.declared.request.Call.{Call}
use Rattle.fsa_model.specs.Setup.{Client, Script}
use Rattle.fsa_model.specs.Schedule.{AreNumbered}
use Rattle.fsa_model.specs.Lines.{Line, Version, DefaultTable, PairTable, Pair, ClientLine, RequestLine}
use Rattle.fsa_model.specs.Spelling.{is_line}
use Rattle.fsa_model.specs.Spelled.{Spells}
use Rattle.fsa_model.specs.Text.{name_of}

-- each pair is of two units, and isn't at fault after the pairs before it
abbrev pub ArePairs : List (ℕ × ℕ) → List (ℕ × ℕ) → Type 0
ArePairs before [] = Unit {0}
ArePairs before (pair ∷ more) = (pair.0 ≤ 65535) × (pair.1 ≤ 65535) × (is_at_fault before pair ≡ false) × ArePairs (before ++ pair ∷ []) more

abbrev pub pair_line : ℕ × ℕ → Line
pair_line pair = Pair pair.0 pair.1

-- the lines of the case table: none, or the line of the default table, and the table is that one; or the
-- line of a table of pairs and a line for each pair, and the table is these pairs in order
abbrev pub SaysTable : List Line → List (ℕ × ℕ) → Type 0
SaysTable lines table =
    (((lines ≡ []) ⊎ (lines ≡ DefaultTable ∷ [])) × (table ≡ ascii_pairs))
    ⊎ ((lines ≡ PairTable ∷ map pair_line table) × ArePairs [] table)

abbrev pub client_line : Client → Line
client_line client = ClientLine client.name client.sids

-- a call's line has the name of its client
abbrev pub call_line : List Client → Call → Line
call_line clients call = RequestLine (name_of clients call.client) call.number call.what

-- these lines say the script: the first line; then the lines of the case table; then a line for each
-- client, of whom there is one at least, and no two have one name; then a line for each call, of one of
-- these clients, and its number is one more than that client's calls before it
pub record SaysScript (lines : List Line) (script : Script) : Type 0 where
  pub table : List Line
  pub says_table : SaysTable table script.setup.table
  pub in_order : lines ≡ Version ∷ (table ++ (map client_line script.setup.clients ++ map (call_line script.setup.clients) script.lines))
  pub some_client : 1 ≤ length script.setup.clients
  pub names_differ : AllPairs (λ earlier later. earlier.name ≢ later.name) script.setup.clients
  pub of_clients : All (λ call. call.client < length script.setup.clients) script.lines
  pub numbered : AreNumbered [] script.lines

-- no byte is a line feed
abbrev pub HasNoFeed : List ℕ → Type 0
HasNoFeed text = AllByRecursion (λ byte. (byte == 10) ≡ false) text

-- these bytes write the lines: each is one that a line can be, is spelled by bytes that have no line feed, and has
-- a line feed behind it
abbrev pub SpellsLines : List Line → List ℕ → Type 0
SpellsLines [] bytes = bytes ≡ []
SpellsLines (line ∷ lines) bytes =
    (text rest : List ℕ) × (bytes ≡ text ++ 10 ∷ rest) × HasNoFeed text × (is_line line ≡ true) × Spells line text × SpellsLines lines rest

-- these bytes write the script
pub record SpellsScript (bytes : List ℕ) (script : Script) : Type 0 where
  pub lines : List Line
  pub spelled : SpellsLines lines bytes
  pub says : SaysScript lines script
