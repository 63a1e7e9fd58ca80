use Rattle.std.proofs.Common.{◌≡◌, Option, None, Some, false, not, sym, ap, ◌∙◌, Bor}
use Rattle.std.specs.Option.{is_some, option_copied}
use Rattle.std.proofs.lemmas.Bool.{false≢true}
use Rattle.fsa_types.specs.Rows.{row_of}
use Rattle.fsa_types.proofs.RowLemmas.{with_row_changed-none}
use Rattle.fsa_model.specs.Volume.{Link}
use Rattle.volume_tables.proofs.link_table.LinkTable.move_to.Goals as goal

nothing-copied : {X : Type 0} (o : Option (Bor X)) (row : Option X) → is_some o ≡ false → option_copied o ≡ row → row ≡ None
nothing-copied None row none copied = sym copied
nothing-copied (Some x) row none copied = absurd (false≢true (sym none))

pub returns-then-is_none-clause-rows : goal.returns-then-is_none-clause-rows
returns-then-is_none-clause-rows c =
    let rows = c.self.inside.links.rows in
    rw (← c.self.view_is) (sym (with_row_changed-none rows c.args.id (λ (row : Link). record row { parent = c.args.parent; name = c.args.name })
    (nothing-copied c.get.result (row_of rows c.args.id) (c.is_none.ensures ∙ ap not c.if-is_none.true) c.get.ensures)))
