use Rattle.std.proofs.Common.{◌∙◌, refl, sym}
use Rattle.std.proofs.lemmas.List.{drop-set-add, get_or-drop}
use Rattle.object_tables.proofs.shift_rows.ShiftRows.at_mut.Goals as goal

pub returns : goal.returns
returns g c =
    let i = c.self.inside in (
      (refl, λ w. rw (← c.self.view_is, drop-set-add i.start i.slots.items c.args.place w) refl),
      record {
        writes_back = tt;
        value = rw (← c.self.view_is) (c.index_mut.ensures.value ∙ sym (get_or-drop i.start i.slots.items c.args.place c.index_mut.result.now));
      },
    )
