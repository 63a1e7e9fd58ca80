use Rattle.std.proofs.Common.{◌≡◌, ◌<◌, ◌∙◌, ℕ, length, sym, Err, Ok, arith}
use Rattle.std.proofs.lemmas.List.{length-map}
use Rattle.fsa_types.specs.CaseTable.{upcased}
use Rattle.fsa_model.specs.Volume.{Link}
use Rattle.link_index.specs.Beginnings.{name_key}
use Rattle.link_index.specs.Directory.{AreInNameOrder, link_numbered, links_at}
use Rattle.link_index.specs.Heads.{link_head}
use Rattle.link_index.specs.Keyed.{IsKeyPlace}
use Rattle.link_index.proofs.EntryLaws.{slice_get-here}
use Rattle.link_index.proofs.NameLemmas.{child-here, child-none, mapped-none, mapped-taken, numbers-at, taken-stays}
use Rattle.link_index.proofs.directory.Directory.remove.Goals as goal

pub returns-in-Err-clause-link : goal.returns-in-Err-clause-link
returns-in-Err-clause-link c =
    let numbers = c.self.inside.numbers.items in
    let place : IsKeyPlace (name_key c.args.upcase.now) (links_at c.args.links.now.rows numbers) (upcased c.args.upcase.now c.args.units.now) (Err c.in-Err.field-0) = rw c.as_slice-2.ensures at c.in-Err.ensures in
    rw (← c.self.view_is) (child-none c.args.upcase.now c.args.links.now.rows numbers c.args.units.now c.in-Err.field-0 place)

pub returns-in-Err-clause-taken : goal.returns-in-Err-clause-taken
returns-in-Err-clause-taken c =
    let numbers = c.self.inside.numbers.items in
    let links = links_at c.args.links.now.rows numbers in
    let place : IsKeyPlace (name_key c.args.upcase.now) links (upcased c.args.upcase.now c.args.units.now) (Err c.in-Err.field-0) = rw c.as_slice-2.ensures at c.in-Err.ensures in
    let order : AreInNameOrder c.args.upcase.now c.args.links.now.rows _ = rw (← c.self.view_is) at c.requires in
    rw (← c.self.view_is) (record {
      numbers = mapped-none c.args.upcase.now links c.args.units.now c.in-Err.field-0 (λ (e : ℕ × Link). e.0) numbers (sym (numbers-at c.args.links.now.rows numbers)) place;
      heads = mapped-none c.args.upcase.now links c.args.units.now c.in-Err.field-0 (link_head c.args.upcase.now) c.self.inside.heads.items order.heads place;
      kept = omega arith;
    })

pub returns-in-Ok-clause-link : goal.returns-in-Ok-clause-link
returns-in-Ok-clause-link c =
    let numbers = c.self.inside.numbers.items in
    let place : IsKeyPlace (name_key c.args.upcase.now) (links_at c.args.links.now.rows numbers) (upcased c.args.upcase.now c.args.units.now) (Ok c.in-Ok.place) = rw c.as_slice-2.ensures at c.in-Ok.ensures in
    let many : length (links_at c.args.links.now.rows numbers) ≡ length numbers = length-map numbers (link_numbered c.args.links.now.rows) in
    let within : c.in-Ok.place < length numbers = omega (arith, many, place.0) in
    rw (← c.self.view_is) (sym (slice_get-here numbers c.in-Ok.place c.remove-in-Ok.result within c.remove-in-Ok.ensures.value) ∙ child-here c.args.upcase.now c.args.links.now.rows numbers c.args.units.now c.in-Ok.place place)

pub returns-in-Ok-clause-taken : goal.returns-in-Ok-clause-taken
returns-in-Ok-clause-taken c =
    let numbers = c.self.inside.numbers.items in
    let links = links_at c.args.links.now.rows numbers in
    let place : IsKeyPlace (name_key c.args.upcase.now) links (upcased c.args.upcase.now c.args.units.now) (Ok c.in-Ok.place) = rw c.as_slice-2.ensures at c.in-Ok.ensures in
    let order : AreInNameOrder c.args.upcase.now c.args.links.now.rows _ = rw (← c.self.view_is) at c.requires in
    let one = c.remove.ensures.room in
    let two = c.remove-in-Ok.ensures.room in
    rw (← c.self.view_is) (record {
      numbers = c.remove-in-Ok.ensures.items ∙ mapped-taken c.args.upcase.now links c.args.units.now c.in-Ok.place (λ (e : ℕ × Link). e.0) numbers (sym (numbers-at c.args.links.now.rows numbers)) place;
      heads = c.remove.ensures.items ∙ mapped-taken c.args.upcase.now links c.args.units.now c.in-Ok.place (link_head c.args.upcase.now) c.self.inside.heads.items order.heads place;
      kept = omega arith;
    })

pub returns-in-Err-clause-still_ordered : goal.returns-in-Err-clause-still_ordered
returns-in-Err-clause-still_ordered c = taken-stays c.args.upcase.now c.args.links.now.rows c.args.units.now _ _ c.requires (returns-in-Err-clause-taken c)

pub returns-in-Ok-clause-still_ordered : goal.returns-in-Ok-clause-still_ordered
returns-in-Ok-clause-still_ordered c = taken-stays c.args.upcase.now c.args.links.now.rows c.args.units.now _ _ c.requires (returns-in-Ok-clause-taken c)
