-- What standard output shows as a sink, and what one call makes of it. No public standard speaks of this.
use Rattle.std.specs.Prelude.{ℕ}
use Rattle.wire_io.specs.Faults.{one_more}
use Rattle.wire_io.specs.MemorySink.{empty_after}

pub record OutputState : Type 0 where
  pub puts : ℕ  -- how many calls were made
  pub faults : ℕ  -- how many of them failed
  pub empty_puts : ℕ  -- how many of them had an empty piece
  pub since_fault : ℕ  -- how many were made since the last that failed

-- a new sink: no call was made
abbrev pub fresh_output : OutputState
fresh_output = record { puts = 0; faults = 0; empty_puts = 0; since_fault = 0 }

-- a call, of a piece of this length, that didn't fail was made
abbrev pub after_put : OutputState → ℕ → OutputState
after_put output count = record output {
  puts = one_more output.puts;
  empty_puts = empty_after output.empty_puts count;
  since_fault = one_more output.since_fault;
}

-- the call failed
abbrev pub after_fault : OutputState → ℕ → OutputState
after_fault output count = record {
  puts = one_more output.puts;
  faults = one_more output.faults;
  empty_puts = empty_after output.empty_puts count;
  since_fault = 0;
}
