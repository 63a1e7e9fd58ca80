use Rattle.std.proofs.Common.{◌≡◌, ap}
use Rattle.fsa_model.specs.Lookups.{is_open_by, is_open_on}
use Rattle.fsa_model.specs.Volume.{Handle}
use Rattle.volume_tables.specs.ShareTable.{held_in}
use Rattle.volume_tables.proofs.OpenLemmas.{AreOpensOf-added}
use Rattle.volume_tables.proofs.handle_shares.HandleShares.hold.Goals as goal

pub returns-clause-handles : goal.returns-clause-handles
returns-clause-handles c rows id is =
    let i = c.self.inside in
    let row : Handle = c.args.row.now in
    let mine = rw (← c.self.view_is) at is in
    let link : c.row.inside.link ≡ row.link = ap (λ (r : Handle). r.link) c.row.view_is in
    let stream : c.row.inside.stream ≡ row.stream = ap (λ (r : Handle). r.stream) c.row.view_is in
    let access : c.row.inside.access ≡ row.access = ap (λ (r : Handle). r.access) c.row.view_is in
    let share : c.row.inside.share ≡ row.share = ap (λ (r : Handle). r.share) c.row.view_is in
    let on = rw (stream, access, share) at c.add_on.ensures.added in
    let by_link = rw (link, access, share) at c.add.ensures.added in
    record {
      streams = λ s. AreOpensOf-added (is_open_on s) rows (held_in i.streams.rows s) (mine.streams s) id row (held_in c.add_on.new.shares.rows s) (on.here s) (on.others s);
      links = λ l. AreOpensOf-added (is_open_by l) rows (held_in i.links.rows l) (mine.links l) id row (held_in c.add.new.self.rows l) (by_link.here l) (by_link.others l);
    }

pub add_on-requires-clause-few : goal.add_on-requires-clause-few
add_on-requires-clause-few c =
    let few = rw (← c.self.view_is) at c.requires.few in
    few.streams

pub add-requires-clause-few : goal.add-requires-clause-few
add-requires-clause-few c =
    let few = rw (← c.self.view_is) at c.requires.few in
    few.links c.row.inside.link
