-- What standard input shows as a source, and what one call makes of it. No public standard speaks of this.
use Rattle.std.specs.Prelude.{ℕ, if◌then◌else◌}
use Rattle.wire_io.specs.Faults.{more, one_more}
use Rattle.wire_io.specs.MemorySource.{met_end}

pub record InputState : Type 0 where
  pub takes : ℕ  -- how many calls were made
  pub faults : ℕ  -- how many of them failed
  pub given : ℕ  -- how many bytes were given
  pub stops : ℕ  -- how many calls failed or met the end
  pub since : ℕ  -- how many calls were made since the last that failed or met the end

-- a new source: no call was made
abbrev pub fresh_input : InputState
fresh_input = record { takes = 0; faults = 0; given = 0; stops = 0; since = 0 }

-- a call that gave n bytes into a buffer of this length was made
abbrev pub after_take : InputState → ℕ → ℕ → InputState
after_take input n buffer = record input {
  takes = one_more input.takes;
  given = more input.given n;
  stops = if met_end n buffer then one_more input.stops else input.stops;
  since = if met_end n buffer then 0 else one_more input.since;
}

-- the call failed
abbrev pub after_fault : InputState → InputState
after_fault input = record input { takes = one_more input.takes; faults = one_more input.faults; stops = one_more input.stops; since = 0 }
