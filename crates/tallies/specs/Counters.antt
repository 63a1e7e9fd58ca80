-- The seven counters of `ShareCounts`, and their law.
use Rattle.std.specs.Prelude.{◌≡◌}
use Rattle.tallies.specs.Counts.{Counts, counts_of}
use Rattle.tallies.specs.declared.share_counts.ShareCounts.TheInside.{Inside}

-- the counters by their names
abbrev pub counts : Inside → Counts
counts counters = record {
  opens = counters.opens;
  readers = counters.readers;
  writers = counters.writers;
  deleters = counters.deleters;
  read_refusers = counters.read_refusers;
  write_refusers = counters.write_refusers;
  delete_refusers = counters.delete_refusers;
}

-- the counters are the counts of the opens that are held
abbrev pub AreCounts : Inside → Type 0
AreCounts counters = counts counters ≡ counts_of counters.held.pairs
