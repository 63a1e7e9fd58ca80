-- What a sink over bytes in memory has, and what one call makes of it. No public standard speaks of this.
use Rattle.std.specs.Prelude.{ℕ, ◌-◌, ◌==◌, nat_lt, nat_le, Bool, ◌&&◌, ◌||◌, min, List, [], ◌++◌, length, take, if◌then◌else◌}
use Rattle.std.specs.List.{list_any}
use Rattle.wire_io.specs.Faults.{one_more}

pub record SinkState : Type 0 where
  pub written : List ℕ  -- the bytes that were written
  pub room : ℕ  -- how many bytes may be written in all
  pub piece : ℕ  -- how many bytes a call takes at most
  pub failing : List ℕ  -- the numbers of the calls that fail
  pub calls : ℕ  -- how many calls were made
  pub faults : ℕ  -- how many of them failed
  pub empty_puts : ℕ  -- how many calls had an empty piece
  pub since_fault : ℕ  -- how many calls were made since the last that failed

-- a new sink: nothing was written and no call was made
abbrev pub fresh_sink : ℕ → ℕ → List ℕ → SinkState
fresh_sink room piece failing = record { written = []; room = room; piece = piece; failing = failing; calls = 0; faults = 0; empty_puts = 0; since_fault = 0 }

-- the room is full
abbrev pub is_sink_full : SinkState → Bool
is_sink_full sink = nat_le sink.room (length sink.written)

-- the next call, of a piece of this length, is listed, or has bytes for a room that is full
abbrev pub put_fails_next : SinkState → ℕ → Bool
put_fails_next sink count = list_any (λ number. number == one_more sink.calls) sink.failing || (nat_lt 0 count && is_sink_full sink)

-- how many bytes a call that doesn't fail takes of a piece of this length
abbrev pub count_taken : SinkState → ℕ → ℕ
count_taken sink count = min (min count sink.piece) (sink.room - length sink.written)

-- the count of empty pieces after a piece of this length
abbrev pub empty_after : ℕ → ℕ → ℕ
empty_after count length = if length == 0 then one_more count else count

-- the first n bytes of the piece were written
abbrev pub after_put : SinkState → List ℕ → ℕ → SinkState
after_put sink piece n = record sink {
  written = sink.written ++ take n piece;
  calls = one_more sink.calls;
  empty_puts = empty_after sink.empty_puts (length piece);
  since_fault = one_more sink.since_fault;
}

-- the call, of a piece of this length, failed
abbrev pub after_fault : SinkState → ℕ → SinkState
after_fault sink count = record sink {
  calls = one_more sink.calls;
  faults = one_more sink.faults;
  empty_puts = empty_after sink.empty_puts count;
  since_fault = 0;
}
