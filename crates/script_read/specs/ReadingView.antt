-- What the reader has read so far, in the words of the definition, and what it keeps beside it.
use Rattle.std.specs.Prelude.{◌≡◌, ℕ, ◌+◌, ◌^◌, ◌<◌, ◌≤◌, true, false, Result, OnOk, if◌then◌else◌, map, length, slice_index}
use Rattle.fsa_types.specs.CaseTable.{ascii_pairs}
use Rattle.fsa_model.specs.Fault.{Kind}
use Rattle.fsa_model.specs.Setup.{client_of}
use Rattle.fsa_model.specs.Script.{Reading, takes_pairs, next_number}
use Rattle.script_read.specs.declared.reading.Reading.{Reading as ReadReading}
use Rattle.script_read.specs.declared.fault.LineFault.{LineFault}
use Rattle.script_read.specs.ReadsAs.{ReadsAs}
use Rattle.script_read.specs.StageView.{stage_of}

abbrev pub reading_of : ReadReading → Reading
reading_of r = record {
  stage = stage_of r.stage;
  script = record {
    setup = record { table = if r.default_table then ascii_pairs else r.pairs; clients = map client_of r.clients.items };
    lines = r.calls.items;
  };
}

-- the names and the last numbers are those of the clients and of their calls
pub record IsKept (r : ReadReading) : Type 0 where
  pub names : r.names ≡ map (λ client. client.name) r.clients.items
  pub counted : length r.last_numbers.items ≡ length r.clients.items
  pub numbers : (client : ℕ) → client < length r.clients.items → slice_index r.last_numbers.items client + 1 ≡ next_number r.calls.items client
  pub callers : (client : ℕ) → length r.clients.items ≤ client → next_number r.calls.items client ≡ 1
  pub paired : takes_pairs (stage_of r.stage) ≡ true → r.default_table ≡ false
  pub few : length r.clients.items < 2 ^ 32

-- a line takes room for at most one client and one call
pub record TakesRoom (old new : ReadReading) : Type 0 where
  pub client_room : new.clients.room ≡ old.clients.room
  pub clients : length new.clients.items ≤ length old.clients.items + 1
  pub call_room : new.calls.room ≡ old.calls.room
  pub calls : length new.calls.items ≤ length old.calls.items + 1

-- there is room for one client and one call
pub record HasLineRoom (r : ReadReading) : Type 0 where
  pub clients : length r.clients.items < r.clients.room
  pub calls : length r.calls.items < r.calls.room
  pub small : r.clients.room < 2 ^ 32

-- a line was taken as the definition takes it
pub record TakesLine (old new : ReadReading) (result : Result (Unit {0}) LineFault) (defined : Result Reading Kind) : Type 0 where
  pub gives : ReadsAs (λ _. reading_of new) result defined
  pub kept : OnOk result (IsKept new)
  pub room : OnOk result (TakesRoom old new)
