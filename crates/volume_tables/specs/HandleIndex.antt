-- The numbers of handles under the calls that opened them, under their streams and under their links.
use Rattle.std.specs.Prelude.{ℕ, ◌<◌, ◌^◌, List, All}
use Rattle.std.specs.Option.{option_map_or}
use Rattle.fsa_model.specs.Volume.{Handle}
use Rattle.key_index.specs.RowsByKey.{IsIndexOf}
use Rattle.volume_tables.specs.CallKey.{call_key_of}

-- the entries by the numbers of calls, by streams and by links; and how many more handles can be added without
-- taking memory
pub record IndexedHandles : Type 0 where
  pub calls : List (ℕ × ℕ)
  pub streams : List (ℕ × ℕ)
  pub links : List (ℕ × ℕ)
  pub room : ℕ

-- the client and the number of the call that opened a handle; its stream, 0 where it has none; and its link
abbrev pub opening_key : Handle → ℕ
opening_key handle = call_key_of handle.client handle.number

abbrev pub stream_key : Handle → ℕ
stream_key handle = option_map_or (λ stream. stream) handle.stream 0

abbrev pub link_key : Handle → ℕ
link_key handle = handle.link

-- the key of its call tells its client and its number
abbrev pub FitsKey : Handle → Type 0
FitsKey handle = (handle.client < 2 ^ 32) × (handle.number < 2 ^ 32)

-- each has all handles, under their keys
pub record AreIndexed (handles : List (ℕ × Handle)) (index : IndexedHandles) : Type 0 where
  pub fit : All (λ entry. FitsKey entry.1) handles
  pub calls : IsIndexOf opening_key handles index.calls
  pub streams : IsIndexOf stream_key handles index.streams
  pub links : IsIndexOf link_key handles index.links
