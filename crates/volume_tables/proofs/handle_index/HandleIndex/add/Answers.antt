use Rattle.std.proofs.Common.{◌≡◌, ℕ, ap}
use Rattle.std.proofs.lemmas.List.Elements.{All-push}
use Rattle.fsa_model.specs.Volume.{Handle}
use Rattle.key_index.proofs.RowLaws.{index-added}
use Rattle.volume_tables.specs.HandleIndex.{FitsKey, opening_key, stream_key, link_key}
use Rattle.volume_tables.proofs.handle_index.HandleIndex.add.Goals as goal

pub returns-clause-handles : goal.returns-clause-handles
returns-clause-handles c rows is =
    let i = c.self.inside in
    let mine = rw (← c.self.view_is) at is in
    let link : c.row.inside.link ≡ link_key c.args.row.now = ap (λ (row : Handle). row.link) c.row.view_is in
    record {
      fit = All-push (λ (entry : ℕ × Handle). FitsKey entry.1) rows (c.args.id, c.args.row.now) mine.fit c.opening_key.ensures.fits;
      calls = index-added opening_key rows i.calls.entries c.add.new.self.entries c.args.id c.args.row.now mine.calls (rw c.opening_key.ensures.key at c.add.ensures.added);
      streams = index-added stream_key rows i.streams.entries c.add-2.new.self.entries c.args.id c.args.row.now mine.streams (rw c.stream_key.ensures at c.add-2.ensures.added);
      links = index-added link_key rows i.links.entries c.add-3.new.self.entries c.args.id c.args.row.now mine.links (rw link at c.add-3.ensures.added);
    }
