-- The generated script: 4,096 requests of four clients, each by a number that is drawn from a seed on.
use Rattle.std.specs.Prelude.{ℕ, zero, suc, ◌+◌, ◌-◌, ◌*◌, ◌/◌, ◌%◌, ◌^◌, ◌==◌, false, List, [], ◌∷◌, ◌++◌, Some, if◌then◌else◌, map, replicate, codes}
use Rattle.fsa_types.specs.CaseTable.{ascii_pairs}
use Rattle.fsa_types.specs.Masks.{READ_DATA, WRITE_DATA, bits_of, known_shares}
use Rattle.fsa_types.specs.declared.request.Call.{Call}
use Rattle.fsa_types.specs.declared.request.Disposition.TheVariants.{OpenIf}
use Rattle.fsa_types.specs.declared.request.InfoKind.TheVariants.{Standard}
use Rattle.fsa_types.specs.declared.request.Level.{Level}
use Rattle.fsa_types.specs.declared.request.Level.TheVariants.{R, RH, RW, RWH}
use Rattle.fsa_types.specs.declared.request.Request.TheVariants.{Create, Close, Read, Write, Lock, QueryInfo, Oplock}
use Rattle.fsa_types.specs.declared.request.What.{What}
use Rattle.fsa_types.specs.declared.request.What.TheVariants.{Ask, WaitFor}
use Rattle.fsa_model.specs.Lines.{Line, Version}
use Rattle.fsa_model.specs.Numbers.{spelled}
use Rattle.fsa_model.specs.ScriptText.{client_line, call_line}
use Rattle.fsa_model.specs.Setup.{Client, Script}
use Rattle.fsa_model.specs.Spelling.{line_text}

-- ---- what is drawn

-- the state after this one: a linear congruential generator
abbrev pub next_state : ℕ → ℕ
next_state state = (state * 6364136223846793005 + 1442695040888963407) % 2 ^ 64

-- the number that is drawn of a state: its 31 high bits
abbrev pub drawn : ℕ → ℕ
drawn state = state / 2 ^ 33

-- ---- the requests

-- one of 64 paths
abbrev pub generated_path : ℕ → List ℕ
generated_path number = codes "\\f" ++ spelled 10 (number % 64)

-- one of the four levels
abbrev pub level_by : ℕ → Level
level_by choice =
    if choice == 0 then R
    else if choice == 1 then RH
    else if choice == 2 then RW
    else RWH

-- an open that reads and writes, and shares all
abbrev pub generated_open : ℕ → What
generated_open number = Ask (Create (generated_path number) (bits_of (READ_DATA ∷ WRITE_DATA ∷ [])) known_shares OpenIf 0 0 0)

-- the step of eight: open, wait for the open, ask for an oplock, write, read, lock, query and close, each with the
-- handle of this number, by the number that was drawn
abbrev pub generated_what : ℕ → ℕ → ℕ → What
generated_what step handle number =
    if step == 0 then generated_open number
    else if step == 1 then WaitFor handle
    else if step == 2 then Ask (Oplock handle (level_by (number % 4)))
    else if step == 3 then Ask (Write handle (Some (number % 65536)) (replicate 16 (number % 256)))
    else if step == 4 then Ask (Read handle (number % 65536) 4096)
    else if step == 5 then Ask (Lock handle (number % 65536) 64 (number % 2 == 1) false)
    else if step == 6 then Ask (QueryInfo handle Standard 24)
    else Ask (Close handle)

-- the call of this place, from 0 on: the clients take turns, and each has its own numbers and steps
abbrev pub generated_call : ℕ → ℕ → Call
generated_call place number = record {
  client = place % 4;
  number = place / 4 + 1;
  what = generated_what (place / 4 % 8) (place / 4 + 1 - place / 4 % 8) number;
}

-- so many calls more, from this place on, where the state before them is this
abbrev pub generated_calls : ℕ → ℕ → ℕ → List Call
generated_calls zero place state = []
generated_calls (suc more) place state = generated_call place (drawn (next_state state)) ∷ generated_calls more (place + 1) (next_state state)

-- ---- the script

-- `c0` to `c3`, each with one SID
abbrev pub generated_clients : List Client
generated_clients =
    record { name = codes "c0"; sids = 10 ∷ [] }
    ∷ record { name = codes "c1"; sids = 11 ∷ [] }
    ∷ record { name = codes "c2"; sids = 12 ∷ [] }
    ∷ record { name = codes "c3"; sids = 13 ∷ [] }
    ∷ []

-- the script of so many calls
abbrev pub generated_of : ℕ → ℕ → Script
generated_of count seed = record {
  setup = record { table = ascii_pairs; clients = generated_clients };
  lines = generated_calls count 0 seed;
}

-- the script of a seed
unfoldable pub generated : ℕ → Script
generated seed = generated_of 4096 seed

-- ---- its text

-- lines, each with a line feed behind it
abbrev pub lines_text : List Line → List ℕ
lines_text [] = []
lines_text (line ∷ lines) = line_text line ++ 10 ∷ lines_text lines

-- the lines of a script whose case table is the default one
abbrev pub lines_of : Script → List Line
lines_of script = Version ∷ (map client_line script.setup.clients ++ map (call_line script.setup.clients) script.lines)

-- the bytes of the generated script
abbrev pub generated_text : ℕ → List ℕ
generated_text seed = lines_text (lines_of (generated seed))
