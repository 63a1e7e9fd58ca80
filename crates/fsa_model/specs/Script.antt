-- A script: what its bytes say, or which line is the first at fault, and how.
use Rattle.std.specs.Prelude.{ℕ, ◌+◌, ◌==◌, ◌&&◌, not, true, false, nat_le, Bool, List, [], ◌∷◌, ◌++◌, Option, Some, None, Result, Ok, Err, if◌then◌else◌, length, filter, position, is_some}
use Rattle.std.specs.List.{slice_split}
use Rattle.fsa_types.specs.CaseTable.{ascii_pairs, is_at_fault}
use Rattle.fsa_types.specs.declared.request.Call.{Call}
use Rattle.fsa_types.specs.declared.request.What.{What}
use Rattle.fsa_model.specs.Setup.{Client, Script}
use Rattle.fsa_model.specs.Fault.{Kind, BadCut, BadSyntax, BadClient, BadNumber, Fault, ◌>>=◌, only_if}
use Rattle.fsa_model.specs.Words.{same}
use Rattle.fsa_model.specs.Lines.{Line, Version, DefaultTable, PairTable, Pair, ClientLine, RequestLine, line_of}

-- what was read last, and so what may stand next: nothing yet; the first line; `table pairs` or a
-- pair; `table default`; a client; a request
pub data Stage : Type 0 where
  Nothing : Stage
  Begun : Stage
  Pairs : Stage
  Table : Stage
  Clients : Stage
  Requests : Stage

-- the first line stands at the front
abbrev pub takes_version : Stage → Bool
takes_version Nothing = true
takes_version _ = false

-- the table, where there is one, stands behind it
abbrev pub takes_table : Stage → Bool
takes_table Begun = true
takes_table _ = false

abbrev pub takes_pairs : Stage → Bool
takes_pairs Pairs = true
takes_pairs _ = false

-- clients stand behind the first line or the table
abbrev pub takes_clients : Stage → Bool
takes_clients Nothing = false
takes_clients Requests = false
takes_clients _ = true

-- requests stand behind the clients, of whom there is one at least
abbrev pub takes_requests : Stage → Bool
takes_requests Clients = true
takes_requests Requests = true
takes_requests _ = false

-- what the lines so far say
pub record Reading : Type 0 where
  pub stage : Stage
  pub script : Script

-- before the first line; without a table line the default table holds
abbrev pub nothing_read : Reading
nothing_read = record { stage = Nothing; script = record { setup = record { table = ascii_pairs; clients = [] }; lines = [] } }

-- the place of the client with this name
abbrev pub place_of : List Client → List ℕ → Option ℕ
place_of clients name = position (λ client. same name client.name) clients

-- the number of a client's next call: one more than it has calls. A line can write numbers below 2 ^ 32;
-- how many calls there are has no bound but the number of lines
abbrev pub next_number : List Call → ℕ → ℕ
next_number calls client = length (filter (λ call. call.client == client) calls) + 1

abbrev pub with_stage : Reading → Stage → Reading
with_stage reading stage = record reading { stage = stage }

abbrev pub with_table : Reading → Stage → List (ℕ × ℕ) → Reading
with_table reading stage table =
    record { stage = stage; script = record { setup = record { table = table; clients = reading.script.setup.clients }; lines = reading.script.lines } }

-- one client more
abbrev pub with_client : Reading → List ℕ → List ℕ → Reading
with_client reading name sids =
    record { stage = Clients; script = record { setup = record { table = reading.script.setup.table; clients = reading.script.setup.clients ++ record { name = name; sids = sids } ∷ [] }; lines = reading.script.lines } }

-- one call more
abbrev pub with_call : Reading → ℕ → ℕ → What → Reading
with_call reading client number what =
    record { stage = Requests; script = record { setup = reading.script.setup; lines = reading.script.lines ++ record { client = client; number = number; what = what } ∷ [] } }

-- a client's name is new
unfoldable pub take_client : Reading → List ℕ → List ℕ → Result Reading Kind
take_client reading name sids =
    if not (takes_clients reading.stage) then Err BadSyntax
    else if is_some (place_of reading.script.setup.clients name) then Err BadClient
    else Ok (with_client reading name sids)

-- the number is the next of its client
unfoldable pub take_call : Reading → ℕ → ℕ → What → Result Reading Kind
take_call reading client number what =
    if number == next_number reading.script.lines client then Ok (with_call reading client number what) else Err BadNumber

-- a request's client was named before
abbrev pub take_request_of : Reading → Option ℕ → ℕ → What → Result Reading Kind
take_request_of reading None number what = Err BadClient
take_request_of reading (Some client) number what = take_call reading client number what

unfoldable pub take_request : Reading → List ℕ → ℕ → What → Result Reading Kind
take_request reading name number what =
    if not (takes_requests reading.stage) then Err BadSyntax
    else take_request_of reading (place_of reading.script.setup.clients name) number what

-- a line that says this, after what was read
unfoldable pub take_line : Reading → Line → Result Reading Kind
take_line reading Version = only_if (takes_version reading.stage) (with_stage reading Begun)
take_line reading DefaultTable = only_if (takes_table reading.stage) (with_table reading Table ascii_pairs)
take_line reading PairTable = only_if (takes_table reading.stage) (with_table reading Pairs [])
take_line reading (Pair source target) =
    only_if (takes_pairs reading.stage && nat_le source 65535 && nat_le target 65535 && not (is_at_fault reading.script.setup.table (source, target)))
    (with_table reading Pairs (reading.script.setup.table ++ (source, target) ∷ []))
take_line reading (ClientLine name sids) = take_client reading name sids
take_line reading (RequestLine name number what) = take_request reading name number what

unfoldable pub line_after : Reading → List ℕ → Result Reading Kind
line_after reading bytes = line_of bytes >>= take_line reading

-- what follows the last line feed is no line: nothing stands there. There is one client line at least
unfoldable pub end_after : ℕ → Reading → List ℕ → Result Script Fault
end_after line reading rest =
    if not (length rest == 0) then Err (record { line = line; kind = BadCut })
    else if not (takes_requests reading.stage) then Err (record { line = line; kind = BadSyntax })
    else Ok reading.script

-- what the line says, or else its fault
abbrev pub at_line : ℕ → Result Reading Kind → (Reading → Result Script Fault) → Result Script Fault
at_line line (Ok reading) more = more reading
at_line line (Err kind) more = Err (record { line = line; kind = kind })

-- the lines from this one on, and what follows the last line feed
abbrev pub lines_from : ℕ → Reading → List (List ℕ) → Result Script Fault
lines_from line reading [] = end_after line reading []
lines_from line reading (bytes ∷ more) =
    if length more == 0 then end_after line reading bytes
    else at_line line (line_after reading bytes) (λ next. lines_from (line + 1) next more)

-- each line feed ends a line
abbrev pub pieces : List ℕ → List (List ℕ)
pieces bytes = slice_split (λ byte. byte == 10) bytes

-- the script that these bytes are, or else the first faulty line and its first kind
unfoldable pub script_of : List ℕ → Result Script Fault
script_of bytes =
    if length bytes == 0 then Err (record { line = 1; kind = BadCut })
    else lines_from 1 nothing_read (pieces bytes)
