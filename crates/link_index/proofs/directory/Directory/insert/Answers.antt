use Rattle.std.proofs.Common.{ℕ, sym, Err, arith}
use Rattle.fsa_types.specs.CaseTable.{upcased}
use Rattle.fsa_model.specs.Volume.{Link}
use Rattle.link_index.specs.Keyed.{IsKeyPlace}
use Rattle.link_index.specs.Beginnings.{name_key}
use Rattle.link_index.specs.Heads.{link_head}
use Rattle.link_index.specs.Directory.{AreInNameOrder, links_at}
use Rattle.link_index.proofs.NameLemmas.{mapped-put, numbers-at, put-stays}
use Rattle.link_index.proofs.directory.Directory.insert.Goals as goal

pub returns-clause-put : goal.returns-clause-put
returns-clause-put c =
    let numbers = c.self.inside.numbers.items in
    let place : IsKeyPlace (name_key c.args.upcase.now) (links_at c.args.links.now.rows numbers) (upcased c.args.upcase.now c.args.units.now) (Err c.place_for-place.result) = rw c.as_slice-2.ensures at c.place_for-place.ensures in
    let order : AreInNameOrder c.args.upcase.now c.args.links.now.rows _ = rw (← c.self.view_is) at c.requires.ordered in
    let one = c.insert.ensures.left in
    let two = c.insert-2.ensures.left in
    rw (← c.self.view_is) (record {
      numbers = λ parent file deleted. rw c.insert.ensures.items
          (mapped-put c.args.upcase.now (links_at c.args.links.now.rows numbers) (c.args.id, record { parent = parent; name = c.args.units.now; file = file; deleted = deleted }) c.place_for-place.result place
          (λ (e : ℕ × Link). e.0) numbers (sym (numbers-at c.args.links.now.rows numbers)));
      heads = λ parent file deleted. rw (c.insert-2.ensures.items, c.head_of.ensures)
          (mapped-put c.args.upcase.now (links_at c.args.links.now.rows numbers) (c.args.id, record { parent = parent; name = c.args.units.now; file = file; deleted = deleted }) c.place_for-place.result place
          (link_head c.args.upcase.now) c.self.inside.heads.items order.heads);
      left = omega arith;
    })

pub returns-clause-still_ordered : goal.returns-clause-still_ordered
returns-clause-still_ordered c = λ rows same named. put-stays c.args.upcase.now c.args.links.now.rows c.args.units.now _ _ c.requires.ordered rows c.args.id c.requires.is_new (returns-clause-put c) same named
