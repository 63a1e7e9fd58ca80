use Rattle.std.proofs.Common.{sym, ◌∙◌, ap, refl, arith, get_or}
use Rattle.std.proofs.Math.ListN.{set}
use Rattle.fsa_types.specs.Ranges.{without_first}
use Rattle.fsa_types.proofs.PlaceLemmas.{row_of-missing}
use Rattle.range_locks.specs.RangeTable.{first_id, is_range}
use Rattle.volume_tables.proofs.PlaceLemmas.{row-at, put-at}
use Rattle.volume_tables.proofs.RangeLemmas.{ranges_in-some, ranges_in-none, room_at-some, AreSetIn-put, kept-put}
use Rattle.volume_tables.proofs.ranges.remove.Goals as goal

pub returns-in-Ok-clause-ranges : goal.returns-in-Ok-clause-ranges
returns-in-Ok-clause-ranges c =
    let d = c.index-tables-place.result in
    let row = row-at c.args.tables.now c.args.stream c.in-Ok.place d c.requires.rising c.in-Ok.ensures.there in
    let put = put-at c.args.tables.now c.args.stream c.in-Ok.place d c.remove.new.self c.requires.rising c.in-Ok.ensures.there in
    let new = set c.args.tables.now c.in-Ok.place ((get_or c.args.tables.now c.in-Ok.place d).0, c.remove.new.self) in
    AreSetIn-put c.args.tables.now new c.args.stream c.remove.new.self _ put
    (c.remove.ensures.ranges ∙ ap (without_first (is_range c.args.handle c.args.at c.args.count)) (sym (ranges_in-some c.args.tables.now c.args.stream _ row)))

pub returns-in-Ok-clause-room : goal.returns-in-Ok-clause-room
returns-in-Ok-clause-room c =
    let d = c.index-tables-place.result in
    let row = row-at c.args.tables.now c.args.stream c.in-Ok.place d c.requires.rising c.in-Ok.ensures.there in
    let put = put-at c.args.tables.now c.args.stream c.in-Ok.place d c.remove.new.self c.requires.rising c.in-Ok.ensures.there in
    let new = set c.args.tables.now c.in-Ok.place ((get_or c.args.tables.now c.in-Ok.place d).0, c.remove.new.self) in
    let old = room_at-some c.args.tables.now c.args.stream _ row in
    let more = c.remove.ensures.room in
    kept-put c.args.tables.now new c.args.stream c.remove.new.self put (omega arith)

pub returns-in-Ok-clause-number : goal.returns-in-Ok-clause-number
returns-in-Ok-clause-number c =
    let d = c.index-tables-place.result in
    let row = row-at c.args.tables.now c.args.stream c.in-Ok.place d c.requires.rising c.in-Ok.ensures.there in
    c.remove.ensures.id ∙ ap (first_id (is_range c.args.handle c.args.at c.args.count)) (sym (ranges_in-some c.args.tables.now c.args.stream _ row))

pub returns-in-Err-clause-number : goal.returns-in-Err-clause-number
returns-in-Err-clause-number c =
    let none = ranges_in-none c.args.tables.now c.args.stream (row_of-missing c.args.tables.now c.args.stream c.in-Err.field-0 c.in-Err.ensures.missing) in
    ap (first_id (is_range c.args.handle c.args.at c.args.count)) (sym none)

pub returns-in-Err-clause-ranges : goal.returns-in-Err-clause-ranges
returns-in-Err-clause-ranges c =
    let none = ranges_in-none c.args.tables.now c.args.stream (row_of-missing c.args.tables.now c.args.stream c.in-Err.field-0 c.in-Err.ensures.missing) in
    record { here = none ∙ ap (without_first (is_range c.args.handle c.args.at c.args.count)) (sym none); others = λ other differ. refl }
