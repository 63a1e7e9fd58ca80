use Rattle.fsa_types.specs.PackedRows.{pack_kind}
use Rattle.pack_info.proofs.PackLaws.{fitting_is}
use Rattle.pack_info.proofs.pack.pack_entries.Goals as goal

pub returns-clause-count : goal.returns-clause-count
returns-clause-count c = fitting_is (pack_kind c.args.kind) c.args.rows.now c.args.room c.in_ok-made.count (rw (← c.pack_kind.ensures) c.in_ok-made.ensures.count)
