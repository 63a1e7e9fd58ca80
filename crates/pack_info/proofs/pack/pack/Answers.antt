use Rattle.std.proofs.Common.{subst, sym, arith}
use Rattle.std.proofs.lemmas.List.{length-take}
use Rattle.fsa_types.specs.Packing.{Packed}
use Rattle.pack_info.specs.Entries.{AreWritable}
use Rattle.pack_info.proofs.PackLaws.{take-entries, length-entries, small_writable}
use Rattle.std.specs.Prelude.{List}
use Rattle.pack_info.proofs.pack.pack.Goals as goal

pub slice_bounds-write_rows-end : goal.slice_bounds-write_rows-end
slice_bounds-write_rows-end g c = let w = c.count_fitting-count.ensures.within in omega (arith, w, length-entries g.T.Row.row_of c.args.kind c.args.rows.now, length-take c.count_fitting-count.result c.args.rows.now)

pub write_rows-requires : goal.write_rows-requires
write_rows-requires g c = subst (λ (es : List Packed). AreWritable c.args.kind es) (sym (take-entries g.T.Row.row_of c.args.kind c.count_fitting-count.result c.args.rows.now))
    (small_writable c.args.kind _ (omega (arith, c.count_fitting-count.ensures.fits)))
