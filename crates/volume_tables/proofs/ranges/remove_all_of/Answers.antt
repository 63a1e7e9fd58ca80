use Rattle.std.proofs.Common.{sym, ◌∙◌, ap, refl, arith, not, filter, get_or}
use Rattle.std.proofs.Math.ListN.{set}
use Rattle.fsa_types.proofs.PlaceLemmas.{row_of-missing}
use Rattle.std.specs.List.{list_any}
use Rattle.range_locks.specs.RangeTable.{is_range_of}
use Rattle.volume_tables.proofs.PlaceLemmas.{row-at, put-at}
use Rattle.volume_tables.proofs.RangeLemmas.{ranges_in-some, ranges_in-none, room_at-some, AreSetIn-put, kept-put}
use Rattle.volume_tables.proofs.ranges.remove_all_of.Goals as goal

pub returns-in-Ok-clause-ranges : goal.returns-in-Ok-clause-ranges
returns-in-Ok-clause-ranges c =
    let d = c.index-tables-place.result in
    let row = row-at c.args.tables.now c.args.stream c.in-Ok.place d c.requires.rising c.in-Ok.ensures.there in
    let put = put-at c.args.tables.now c.args.stream c.in-Ok.place d c.remove_from.new.table c.requires.rising c.in-Ok.ensures.there in
    let new = set c.args.tables.now c.in-Ok.place ((get_or c.args.tables.now c.in-Ok.place d).0, c.remove_from.new.table) in
    AreSetIn-put c.args.tables.now new c.args.stream c.remove_from.new.table _ put
    (c.remove_from.ensures.ranges ∙ ap (filter (λ range. not (is_range_of c.args.handle range))) (sym (ranges_in-some c.args.tables.now c.args.stream _ row)))

pub returns-in-Ok-clause-room : goal.returns-in-Ok-clause-room
returns-in-Ok-clause-room c =
    let d = c.index-tables-place.result in
    let row = row-at c.args.tables.now c.args.stream c.in-Ok.place d c.requires.rising c.in-Ok.ensures.there in
    let put = put-at c.args.tables.now c.args.stream c.in-Ok.place d c.remove_from.new.table c.requires.rising c.in-Ok.ensures.there in
    let new = set c.args.tables.now c.in-Ok.place ((get_or c.args.tables.now c.in-Ok.place d).0, c.remove_from.new.table) in
    let old = room_at-some c.args.tables.now c.args.stream _ row in
    let more = c.remove_from.ensures.room in
    kept-put c.args.tables.now new c.args.stream c.remove_from.new.table put (omega arith)

pub returns-in-Ok-clause-some : goal.returns-in-Ok-clause-some
returns-in-Ok-clause-some c =
    let d = c.index-tables-place.result in
    let row = row-at c.args.tables.now c.args.stream c.in-Ok.place d c.requires.rising c.in-Ok.ensures.there in
    c.remove_from.ensures.some ∙ ap (list_any (is_range_of c.args.handle)) (sym (ranges_in-some c.args.tables.now c.args.stream _ row))

pub returns-in-Err-clause-some : goal.returns-in-Err-clause-some
returns-in-Err-clause-some c =
    let none = ranges_in-none c.args.tables.now c.args.stream (row_of-missing c.args.tables.now c.args.stream c.in-Err.field-0 c.in-Err.ensures.missing) in
    ap (list_any (is_range_of c.args.handle)) (sym none)

pub returns-in-Err-clause-ranges : goal.returns-in-Err-clause-ranges
returns-in-Err-clause-ranges c =
    let none = ranges_in-none c.args.tables.now c.args.stream (row_of-missing c.args.tables.now c.args.stream c.in-Err.field-0 c.in-Err.ensures.missing) in
    record { here = none ∙ ap (filter (λ range. not (is_range_of c.args.handle range))) (sym none); others = λ other differ. refl }
