use Rattle.std.proofs.Common.{◌≡◌, ℕ, List, ap, not, sym, subst, ◌==◌}
use Rattle.std.proofs.lemmas.List.Elements.{All-filter}
use Rattle.fsa_model.specs.Volume.{Handle}
use Rattle.fsa_types.specs.Ranges.{without_first}
use Rattle.fsa_types.specs.Rows.{without_row}
use Rattle.key_index.specs.Index.{is_entry}
use Rattle.key_index.specs.RowsByKey.{IsIndexOf}
use Rattle.key_index.proofs.RowLaws.{index-removed}
use Rattle.volume_tables.specs.HandleIndex.{FitsKey, opening_key, stream_key, link_key}
use Rattle.volume_tables.proofs.handle_index.HandleIndex.remove.Goals as goal

pub returns-clause-handles : goal.returns-clause-handles
returns-clause-handles c rows last numbered found is =
    let i = c.self.inside in
    let mine = rw (← c.self.view_is) at is in
    let row : Handle = c.args.row.now in
    let link : c.row.inside.link ≡ link_key row = ap (λ (r : Handle). r.link) c.row.view_is in
    let calls : c.remove.new.self.entries ≡ without_first (is_entry (opening_key row) c.args.id) i.calls.entries = rw c.opening_key.ensures.key at c.remove.ensures.entries in
    let streams : c.remove-2.new.self.entries ≡ without_first (is_entry (stream_key row) c.args.id) i.streams.entries = rw c.stream_key.ensures at c.remove-2.ensures.entries in
    let links : c.remove-3.new.self.entries ≡ without_first (is_entry (link_key row) c.args.id) i.links.entries = rw link at c.remove-3.ensures.entries in
    record {
      fit = All-filter (λ (entry : ℕ × Handle). not (entry.0 == c.args.id)) (λ (entry : ℕ × Handle). FitsKey entry.1) rows mine.fit;
      calls = subst (λ (entries : List (ℕ × ℕ)). IsIndexOf opening_key (without_row rows c.args.id) entries) (sym calls) (index-removed opening_key rows last i.calls.entries c.args.id row numbered mine.calls found);
      streams = subst (λ (entries : List (ℕ × ℕ)). IsIndexOf stream_key (without_row rows c.args.id) entries) (sym streams) (index-removed stream_key rows last i.streams.entries c.args.id row numbered mine.streams found);
      links = subst (λ (entries : List (ℕ × ℕ)). IsIndexOf link_key (without_row rows c.args.id) entries) (sym links) (index-removed link_key rows last i.links.entries c.args.id row numbered mine.links found);
    }
