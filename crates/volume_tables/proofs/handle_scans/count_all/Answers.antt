use Rattle.std.proofs.Common.{◌<◌, ◌≤◌, arith, length}
use Rattle.fsa_types.proofs.RowLemmas.{length-filter_le}
use Rattle.fsa_model.specs.Lookups.{is_one_of}
use Rattle.volume_tables.proofs.EntryLemmas.{count-end, count-next}
use Rattle.volume_tables.proofs.handle_scans.count_all.Goals as goal

pub overflow_add-count : goal.overflow_add-count
overflow_add-count c =
    let within : c.loop-place.place < length c.args.table.now.rows = omega (arith, c.len-place-end.ensures.count, c.loop-place-test.true) in
    let next = count-next (is_one_of c.args.links.now.rows c.args.on) c.args.table.now.rows c.loop-place.place within in
    let few = length-filter_le (λ entry. is_one_of c.args.links.now.rows c.args.on entry.1) c.args.table.now.rows in
    let so_far = c.loop-place.invariant in
    let one = c.one_in-count.ensures in
    let all = c.len-place-end.ensures.few in
    omega arith

pub loop-place-preserved : goal.loop-place-preserved
loop-place-preserved c =
    let within : c.loop-place.place < length c.args.table.now.rows = omega (arith, c.len-place-end.ensures.count, c.loop-place-test.true) in
    let next = count-next (is_one_of c.args.links.now.rows c.args.on) c.args.table.now.rows c.loop-place.place within in
    let so_far = c.loop-place.invariant in
    let one = c.one_in-count.ensures in
    omega arith

pub returns : goal.returns
returns c =
    let past : length c.args.table.now.rows ≤ c.loop-place.place = omega (arith, c.len-place-end.ensures.count, c.loop-place-test.false) in
    let none = count-end (is_one_of c.args.links.now.rows c.args.on) c.args.table.now.rows c.loop-place.place past in
    let so_far = c.loop-place.invariant in
    omega arith
