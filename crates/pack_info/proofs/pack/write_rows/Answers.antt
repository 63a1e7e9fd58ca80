use Rattle.std.proofs.Common.{◌≡◌, ◌++◌, arith}
use Rattle.fsa_types.specs.Packing.{packed, entry_bytes}
use Rattle.pack_info.proofs.PackLaws.{can_write, writes_one, rest_writable, name-bounds, whole-written, nothing_left, entries_on}
use Rattle.pack_info.proofs.pack.write_rows.Goals as goal

pub push_entry-requires-clause-units : goal.push_entry-requires-clause-units
push_entry-requires-clause-units g c =
    let can = can_write g.T.Row.row_of c.args.kind c.in-Some.row.now c.rows.rest.now c.in-Some.more.now c.is_empty.result c.in-Some.ensures.cases.0 c.is_empty.ensures c.rows.invariant.can in
    rw c.units.ensures (omega (arith, can.now, (name-bounds c.args.kind (g.T.Row.row_of c.in-Some.row.now).name).0))

pub push_entry-requires-clause-size : goal.push_entry-requires-clause-size
push_entry-requires-clause-size g c =
    rw c.units.ensures (can_write g.T.Row.row_of c.args.kind c.in-Some.row.now c.rows.rest.now c.in-Some.more.now c.is_empty.result c.in-Some.ensures.cases.0 c.is_empty.ensures c.rows.invariant.can).now

pub push_entry-requires-clause-next : goal.push_entry-requires-clause-next
push_entry-requires-clause-next g c =
    rw c.units.ensures (can_write g.T.Row.row_of c.args.kind c.in-Some.row.now c.rows.rest.now c.in-Some.more.now c.is_empty.result c.in-Some.ensures.cases.0 c.is_empty.ensures c.rows.invariant.can).next

pub rows-preserved : goal.rows-preserved
rows-preserved g c =
    let step : c.push_entry.new.out.items ≡ c.rows.out.items ++ entry_bytes c.args.kind (packed c.args.kind (g.T.Row.row_of c.in-Some.row.now)) c.is_empty.result
    = rw (← c.units.ensures, ← c.numbers-numbers.ensures) c.in_ok-push_entry.ensures in
    record {
      all = writes_one g.T.Row.row_of c.args.kind c.in-Some.row.now c.rows.rest.now c.in-Some.more.now c.is_empty.result c.rows.out.items c.push_entry.new.out.items _ c.in-Some.ensures.cases.0 c.is_empty.ensures step c.rows.invariant.all;
      each = entries_on g.T.Row.row_of c.args.kind c.in-Some.row.now c.rows.rest.now c.in-Some.more.now c.args.rows.now c.is_empty.result c.in-Some.ensures.cases.0 c.is_empty.ensures c.rows.invariant.can (rw (← c.numbers-numbers.ensures) c.numbers_fit.ensures) c.rows.invariant.each;
      can = rest_writable g.T.Row.row_of c.args.kind c.in-Some.row.now c.rows.rest.now c.in-Some.more.now c.in-Some.ensures.cases.0 c.rows.invariant.can;
    }

pub returns-clause-entries : goal.returns-clause-entries
returns-clause-entries g c = c.rows.invariant.each (rw (nothing_left c.rows.rest.now c.in_default.ensures.variant.1) tt)

pub returns-clause-bytes : goal.returns-clause-bytes
returns-clause-bytes g c = whole-written g.T.Row.row_of c.args.kind c.rows.rest.now c.rows.out.items _ (nothing_left c.rows.rest.now c.in_default.ensures.variant.1) c.rows.invariant.all
