use Rattle.std.proofs.Common.{◌≡◌, ℕ, List, ◌++◌, map, ap, subst, sym, ◌∙◌}
use Rattle.std.specs.Prelude.{◌&&◌}
use Rattle.std.specs.List.{filter}
use Rattle.fsa_types.specs.Match.{matches}
use Rattle.fsa_types.specs.PackedRows.{pack_kind}
use Rattle.fsa_types.specs.declared.reply.PackKind.{PackKind}
use Rattle.fsa_model.specs.QueryDir.{DirectoryEntry, dots, is_still_to_come, left_to_list, link_entry, listed_links}
use Rattle.fsa_model.specs.Volume.{Cursor, After, Link, Volume}
use Rattle.op_dir.specs.Filling.{Fills}
use Rattle.op_dir.specs.Places.{place_entry, is_listed, is_wanted}
use Rattle.op_dir.specs.declared.places.Place.{Place}
use Rattle.op_dir.proofs.PlaceLaws.{left-from}
use Rattle.volume_rows.specs.Cursors.{cursor_of}
use Rattle.volume_state.specs.Children.{links_under}
use Rattle.op_dir.proofs.places.places_left.Goals as goal

all-left : (v : Volume) (dir : ℕ) (expression : List ℕ) (cursor : Cursor) (links : List (ℕ × Link)) (kind : PackKind) (room : ℕ) (some all : List Place)
    → map (place_entry v dir) some ≡ filter (is_wanted v expression cursor) (dots v dir)
    → filter (is_listed v expression) links ≡ filter (λ entry. is_still_to_come v.table cursor (After entry.1.name) && matches v.table expression entry.1.name) (listed_links v dir)
    → Fills kind room (map (place_entry v dir) all) (map (place_entry v dir) some ++ map link_entry (filter (is_listed v expression) links))
    → Fills kind room (map (place_entry v dir) all) (left_to_list v dir expression cursor)
all-left v dir expression cursor links kind room some all begun left put =
    subst (Fills kind room (map (place_entry v dir) all))
    (ap (λ (entries : List DirectoryEntry). entries ++ map link_entry (filter (is_listed v expression) links)) begun ∙ sym (left-from v dir expression cursor links left))
    put

pub returns-clause-fills : goal.returns-clause-fills
returns-clause-fills c =
    all-left c.args.volume.now.content c.args.dir c.args.expression.now (cursor_of c.args.cursor.now) (links_under c.args.volume.now.content c.links_left-links.result.now) (pack_kind c.args.kind) c.args.room
    c.in_ok-places.places.items c.push_links.new.places.items c.in_ok-places.ensures c.links_left-links.ensures c.in_ok-push_links.ensures.fills
