-- Walks of buffers.
use Rattle.std.specs.Prelude.{◌≡◌, ◌<◌, ◌≤◌, ℕ, List, [], length, drop, Option, Some, None, Result, Ok, Err}
use Rattle.fsa_types.specs.declared.reply.PackKind.{PackKind}
use Rattle.pack_info.specs.declared.walk.PackedEntry.{PackedEntry}
use Rattle.pack_info.specs.declared.walk.Malformed.{Malformed}
use Rattle.pack_info.specs.declared.reading.Head.{Head}
use Rattle.fsa_types.specs.Packing.{Packed}
use Rattle.pack_info.specs.Entries.{BeginsWithEntry}

-- an entry without where its name lies
abbrev pub seen : PackedEntry → Packed
seen e = record {
  numbers = record { action = e.action; creation = e.creation; access = e.access; write = e.write; change = e.change; length = e.length; room = e.room; attributes = e.attributes; file = e.file };
  name = e.name.now;
}

-- the constants of a head are 0
abbrev pub HasConstants : Head → Type 0
HasConstants h = (h.index ≡ 0) × (h.attributes_size ≡ 0) × (h.reserved ≡ 0)

-- a walk: a buffer, and how far it was walked
pub record WalkState : Type 0 where
  pub kind : PackKind
  pub buffer : List ℕ
  pub place : ℕ

abbrev pub left_of : WalkState → List ℕ
left_of walk = drop walk.place walk.buffer

-- one step: no entry is given only at the end; an entry that is given is the one that the rest
-- began with; `Malformed` names the place where no entry begins. Only an entry moves the walk
abbrev pub StepsToEntry : WalkState → WalkState → Result (Option PackedEntry) Malformed → Type 0
StepsToEntry old new (Ok None) = (left_of old ≡ []) × (new ≡ old)
StepsToEntry old new (Ok (Some entry)) = BeginsWithEntry old.kind (left_of old) (seen entry) (left_of new) × (new.kind ≡ old.kind) × (new.buffer ≡ old.buffer) × (new.place ≤ length new.buffer)
StepsToEntry old new (Err malformed) = (malformed.place ≡ old.place) × (new ≡ old) × (0 < length (left_of old)) × ((e : Packed) (rest : List ℕ) → BeginsWithEntry old.kind (left_of old) e rest → ⊥)

-- this entry was given
abbrev pub GivesEntry : Packed → Result (Option PackedEntry) Malformed → Type 0
GivesEntry e (Ok None) = ⊥
GivesEntry e (Ok (Some entry)) = seen entry ≡ e
GivesEntry e (Err malformed) = ⊥
