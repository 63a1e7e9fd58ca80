-- The numbers that bound a history, a script and a reparse point.
use Rattle.std.specs.Prelude.{ℕ, ◌-◌}
use Rattle.fsa_types.specs.Request.{most_bytes}

-- the most entries of a history
abbrev pub most_entries : ℕ
most_entries = 1000000

-- the most line feeds of a script, and so the most lines
abbrev pub most_line_feeds : ℕ
most_line_feeds = 40000

-- the most lines of a script that declare a client
abbrev pub most_client_lines : ℕ
most_client_lines = 64

-- the most bytes of a reparse point: those of its buffer without the eight of the buffer's header
abbrev pub most_point_bytes : ℕ
most_point_bytes = most_bytes - 8
