use Rattle.std.proofs.Common.{◌≡◌, drop}
use Rattle.std.specs.Prelude.{◌&&◌}
use Rattle.fsa_model.specs.Lookups.{is_one_of}
use Rattle.fsa_types.specs.Sharing.{clash}
use Rattle.volume_tables.proofs.EntryLemmas.{is_some_of}
use Rattle.volume_tables.proofs.handle_scans.some_clash.Given as goal

-- none before this place does
abbrev pub invariant-loop-place : goal.invariant-loop-place
invariant-loop-place l =
    is_some_of (λ handle. is_one_of l.links.rows l.on handle && clash l.access l.share handle.access handle.share) (drop l.place l.table.rows)
    ≡ is_some_of (λ handle. is_one_of l.links.rows l.on handle && clash l.access l.share handle.access handle.share) l.table.rows
