use Rattle.std.proofs.Common.{ℕ, ◌∙◌, sym}
use Rattle.std.specs.Prelude.{◌&&◌, Some, not}
use Rattle.fsa_types.specs.Oplocks.{is_same_key}
use Rattle.fsa_model.specs.Lookups.{is_open_on}
use Rattle.fsa_model.specs.Volume.{Handle}
use Rattle.volume_tables.specs.HandleIndex.{stream_key}
use Rattle.volume_tables.proofs.IndexLaws.{any-by_entry, other-only}
use Rattle.volume_tables.proofs.handle_table.HandleTable.is_open_by_others.Goals as goal

pub returns : goal.returns
returns c =
    let i = c.self.inside in
    rw (← c.self.view_is) ((rw c.on_stream.ensures at c.some_other_among.ensures)
    ∙ sym (any-by_entry stream_key c.args.stream (λ (entry : ℕ × Handle). is_open_on c.args.stream entry.1 && not (is_same_key entry.0 entry.1.key (Some c.args.handle) c.args.key)) (other-only c.args.stream c.args.handle c.args.key)
    i.table.rows i.table.last i.index.streams c.len-numbered.ensures.numbered c.self.invariant.2.streams))
