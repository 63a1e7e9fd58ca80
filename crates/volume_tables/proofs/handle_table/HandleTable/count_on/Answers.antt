use Rattle.std.proofs.Common.{◌∙◌, sym}
use Rattle.fsa_model.specs.Lookups.{is_one_of}
use Rattle.fsa_types.specs.declared.oplock.HandleSet.TheVariants as set
use Rattle.volume_tables.specs.HandleIndex.{stream_key, link_key}
use Rattle.volume_tables.proofs.IndexLaws.{count-by_key, stream-only, link-only}
use Rattle.volume_tables.proofs.handle_table.HandleTable.count_on.Goals as goal

pub returns-in-Stream-clause-count : goal.returns-in-Stream-clause-count
returns-in-Stream-clause-count c =
    let i = c.self.inside in
    rw (← c.self.view_is, c.in-Stream.is)
    ((rw c.on_stream.ensures at c.count_among.ensures) ∙ sym (count-by_key stream_key c.in-Stream.stream (is_one_of c.args.links.now.rows (set.Stream c.in-Stream.stream)) (stream-only c.args.links.now.rows c.in-Stream.stream) i.table.rows i.table.last i.index.streams c.len-numbered.ensures.numbered c.self.invariant.2.streams))

pub returns-in-Link-clause-count : goal.returns-in-Link-clause-count
returns-in-Link-clause-count c =
    let i = c.self.inside in
    rw (← c.self.view_is, c.in-Link.is)
    ((rw c.by_link.ensures at c.count_among-in-Link.ensures) ∙ sym (count-by_key link_key c.in-Link.link (is_one_of c.args.links.now.rows (set.Link c.in-Link.link)) (link-only c.args.links.now.rows c.in-Link.link) i.table.rows i.table.last i.index.links c.len-numbered.ensures.numbered c.self.invariant.2.links))
