use Rattle.std.proofs.Common.{◌≡◌, ◌+◌, ◌<◌, length, [], arith}
use Rattle.fsa_types.specs.Packing.{head_size, name_field}
use Rattle.pack_info.proofs.PackLaws.{stops_at, ends_at, name-bounds, head-small, nothing_left}
use Rattle.pack_info.proofs.pack.count_fitting.Goals as goal

pub returns-then-units-room : goal.returns-then-units-room
returns-then-units-room g c =
    let units = (g.T.Row.row_of c.in-Some.row.now).name in
    let long : c.args.room < length (g.T.Row.row_of c.in-Some.row.now).name = rw (← c.units-units.ensures) c.if-units-room.true in
    let b = name-bounds c.args.kind (g.T.Row.row_of c.in-Some.row.now).name in
    stops_at g.T.Row.row_of c.args.kind c.rows.used c.args.room c.rows.count c.args.rows.now c.rows.rest.now c.in-Some.more.now c.in-Some.row.now c.in-Some.ensures.cases.0 c.rows.invariant.all (omega (arith, long, b.0))

pub overflow_add-size : goal.overflow_add-size
overflow_add-size g c =
    let b = name-bounds c.args.kind c.units-units.result.now in
    omega (arith, b.1, head-small c.args.kind, c.size_of_name.ensures, c.size_of_head.ensures, c.if-units-room.false, c.rows.invariant.small)

pub overflow_add-used : goal.overflow_add-used
overflow_add-used g c =
    let b = name-bounds c.args.kind c.units-units.result.now in
    omega (arith, b.1, head-small c.args.kind, c.size_of_name.ensures, c.size_of_head.ensures, c.if-units-room.false, c.rows.invariant.small, c.rows.invariant.used)

pub returns-then-used-size : goal.returns-then-used-size
returns-then-used-size g c =
    let long : c.args.room < c.rows.used + (head_size c.args.kind + length (name_field c.args.kind (g.T.Row.row_of c.in-Some.row.now).name)) = rw (← c.units-units.ensures, ← c.size_of_name.ensures, ← c.size_of_head.ensures) c.if-used-size.true in
    stops_at g.T.Row.row_of c.args.kind c.rows.used c.args.room c.rows.count c.args.rows.now c.rows.rest.now c.in-Some.more.now c.in-Some.row.now c.in-Some.ensures.cases.0 c.rows.invariant.all long

pub returns : goal.returns
returns g c =
    let none : c.rows.rest.now ≡ [] = nothing_left c.rows.rest.now c.in_default.ensures.variant.1 in
    ends_at g.T.Row.row_of c.args.kind c.rows.used c.args.room c.rows.count c.args.rows.now c.rows.rest.now none c.rows.invariant.all
