use Rattle.std.proofs.Common.{◌≡◌, Some, sym}
use Rattle.fsa_types.specs.Rows.{row_of}
use Rattle.fsa_model.proofs.RowLaws.{without_row-none}
use Rattle.fsa_model.specs.Volume.{Link}
use Rattle.key_index.proofs.RowLaws.{index-removed}
use Rattle.volume_rows.specs.Links.{file_key}
use Rattle.volume_rows.proofs.links.remove.Goals as goal

pub returns-in-None-clause-indexed : goal.returns-in-None-clause-indexed
returns-in-None-clause-indexed c is =
    rw (c.in-None.ensures.rows, without_row-none c.args.links.now.rows c.args.id (sym c.in-None.ensures.row)) is

pub returns-in-Some-clause-indexed : goal.returns-in-Some-clause-indexed
returns-in-Some-clause-indexed c is =
    let row : Link = record { parent = c.row.inside.parent; name = c.row.inside.name; file = c.row.inside.file; deleted = c.row.inside.deleted } in
    let found : row_of c.args.links.now.rows c.args.id ≡ Some row = sym (rw (← c.row.view_is) at c.in-Some.ensures.row) in
    rw (c.in-Some.ensures.rows, c.remove-in-Some.ensures.entries) (index-removed file_key c.args.links.now.rows c.args.links.now.last c.args.files.now.entries c.args.id row c.len-numbered.ensures.numbered is found)
