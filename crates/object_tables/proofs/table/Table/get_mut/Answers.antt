use Rattle.std.proofs.Common.{◌≡◌, ◌==◌, Some, sym, refl, ◌∙◌}
use Rattle.std.specs.List.{position}
use Rattle.fsa_types.proofs.RowLemmas.{changes_one}
use Rattle.slab.specs.Slab.{get}
use Rattle.object_tables.specs.Places.{rows_in}
use Rattle.object_tables.proofs.PlaceLemmas.{place-same, row-missing, rows-numbered}
use Rattle.object_tables.proofs.table.Table.get_mut.Goals as goal

pub row_mut-requires : goal.row_mut-requires
row_mut-requires g c =
    let i = c.self.inside in
    let found : position (λ e. e.0 == c.args.id) i.places.items ≡ Some c.in-Some.place = sym (rw c.as_slice.ensures at c.in-Some.ensures) in
    rw (← c.self.view_is) (place-same (get i.rows) i.places.items c.self.invariant.there c.args.id ∙ found)

pub returns-in-None : goal.returns-in-None
returns-in-None g c =
    let i = c.self.inside in (
      refl,
      record {
        writes_back = tt;
        row = rw (← c.self.view_is) (sym (row-missing (get i.rows) i.places.items i.last c.args.id c.self.invariant (sym (rw c.as_slice.ensures at c.in-None.ensures))));
        one = λ change. rw (← c.self.view_is) (changes_one (rows_in i.rows i.places.items) c.args.id change (rows-numbered (get i.rows) i.places.items i.last c.self.invariant).rising);
      },
    )

pub returns-in-Some : goal.returns-in-Some
returns-in-Some g c =
    let i = c.self.inside in (
      refl,
      record {
        writes_back = tt;
        row = sym c.row_mut.ensures.row;
        one = λ change. rw (← c.self.view_is) (changes_one (rows_in i.rows i.places.items) c.args.id change (rows-numbered (get i.rows) i.places.items i.last c.self.invariant).rising);
      },
    )
