use Rattle.std.proofs.Common.{◌≡◌, ap, eq-eqb, refl}
use Rattle.fsa_model.specs.Lookups.{is_open_by, is_open_on}
use Rattle.fsa_model.specs.Volume.{Handle}
use Rattle.volume_tables.specs.ShareTable.{held_in}
use Rattle.volume_tables.proofs.OpenLemmas.{AreOpensOf-taken}
use Rattle.volume_tables.proofs.handle_shares.HandleShares.release.Goals as goal

pub returns-clause-handles : goal.returns-clause-handles
returns-clause-handles c rows last id numbered found is =
    let i = c.self.inside in
    let row : Handle = c.args.row.now in
    let mine = rw (← c.self.view_is) at is in
    let link : c.row.inside.link ≡ row.link = ap (λ (r : Handle). r.link) c.row.view_is in
    let stream : c.row.inside.stream ≡ row.stream = ap (λ (r : Handle). r.stream) c.row.view_is in
    let access : c.row.inside.access ≡ row.access = ap (λ (r : Handle). r.access) c.row.view_is in
    let share : c.row.inside.share ≡ row.share = ap (λ (r : Handle). r.share) c.row.view_is in
    let on = rw (stream, access, share) at c.remove_on.ensures.taken in
    let by_link = rw (link, access, share) at c.remove.ensures.taken in
    record {
      streams = λ s. AreOpensOf-taken (is_open_on s) rows (held_in i.streams.rows s) (mine.streams s) id row (held_in c.remove_on.new.shares.rows s) numbered.rising found (on.here s) (on.others s);
      links = λ l. AreOpensOf-taken (is_open_by l) rows (held_in i.links.rows l) (mine.links l) id row (held_in c.remove.new.self.rows l) numbered.rising found (by_link.here l) (by_link.others l);
    }

pub remove_on-requires : goal.remove_on-requires
remove_on-requires c key is =
    let row : Handle = c.args.row.now in
    let counted = rw (← c.self.view_is) at c.requires in
    let stream : c.row.inside.stream ≡ row.stream = ap (λ (r : Handle). r.stream) c.row.view_is in
    let access : c.row.inside.access ≡ row.access = ap (λ (r : Handle). r.access) c.row.view_is in
    let share : c.row.inside.share ≡ row.share = ap (λ (r : Handle). r.share) c.row.view_is in
    rw (access, share) (counted.stream key (rw stream at is))

pub remove-requires : goal.remove-requires
remove-requires c =
    let row : Handle = c.args.row.now in
    let counted = rw (← c.self.view_is) at c.requires in
    let link : c.row.inside.link ≡ row.link = ap (λ (r : Handle). r.link) c.row.view_is in
    let access : c.row.inside.access ≡ row.access = ap (λ (r : Handle). r.access) c.row.view_is in
    let share : c.row.inside.share ≡ row.share = ap (λ (r : Handle). r.share) c.row.view_is in
    rw (access, share, link) (counted.link row.link (eq-eqb row.link row.link refl))
