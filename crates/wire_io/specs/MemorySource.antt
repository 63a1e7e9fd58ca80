-- What a source over bytes in memory has, and what one call makes of it. No public standard speaks of this.
use Rattle.std.specs.Prelude.{ℕ, ◌+◌, ◌==◌, ◌&&◌, nat_lt, Bool, min, List, length, drop, if◌then◌else◌}
use Rattle.std.specs.List.{list_any}
use Rattle.wire_io.specs.Faults.{one_more}

pub record SourceState : Type 0 where
  pub left : List ℕ  -- the bytes that were not given yet
  pub piece : ℕ  -- how many bytes a call gives at most
  pub failing : List ℕ  -- the numbers of the calls that fail
  pub calls : ℕ  -- how many calls were made
  pub faults : ℕ  -- how many of them failed
  pub given : ℕ  -- how many bytes were given
  pub stops : ℕ  -- how many calls failed or met the end
  pub since : ℕ  -- how many calls were made since the last that failed or met the end

-- a new source: no call was made
abbrev pub fresh_source : List ℕ → ℕ → List ℕ → SourceState
fresh_source bytes piece failing = record { left = bytes; piece = piece; failing = failing; calls = 0; faults = 0; given = 0; stops = 0; since = 0 }

-- the next call is listed
abbrev pub take_fails_next : SourceState → Bool
take_fails_next source = list_any (λ number. number == one_more source.calls) source.failing

-- how many bytes a call that doesn't fail gives into a buffer of this length
abbrev pub count_given : SourceState → ℕ → ℕ
count_given source buffer = min (min buffer source.piece) (length source.left)

-- a call that gave n bytes met the end, where its buffer wasn't empty
abbrev pub met_end : ℕ → ℕ → Bool
met_end n buffer = (n == 0) && nat_lt 0 buffer

-- n bytes were given into a buffer of this length
abbrev pub after_take : SourceState → ℕ → ℕ → SourceState
after_take source n buffer = record source {
  left = drop n source.left;
  calls = one_more source.calls;
  given = source.given + n;
  stops = if met_end n buffer then one_more source.stops else source.stops;
  since = if met_end n buffer then 0 else one_more source.since;
}

-- the call failed
abbrev pub after_fault : SourceState → SourceState
after_fault source = record source { calls = one_more source.calls; faults = one_more source.faults; stops = one_more source.stops; since = 0 }
