use Rattle.std.proofs.Common.{◌≡◌, ◌+◌, drop}
use Rattle.fsa_model.specs.Lookups.{is_one_of}
use Rattle.volume_tables.proofs.EntryLemmas.{how_many}
use Rattle.volume_tables.proofs.handle_scans.count_all.Given as goal

-- those that were counted, and those from here on, are all
abbrev pub invariant-loop-place : goal.invariant-loop-place
invariant-loop-place l = l.count + how_many (is_one_of l.links.rows l.on) (drop l.place l.table.rows) ≡ how_many (is_one_of l.links.rows l.on) l.table.rows
