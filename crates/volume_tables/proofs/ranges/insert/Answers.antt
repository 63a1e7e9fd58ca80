use Rattle.std.proofs.Common.{sym, ◌∙◌, ◌≡◌, ap, arith, ◌++◌, ◌∷◌, [], false, true, get_or}
use Rattle.std.proofs.Math.ListN.{set}
use Rattle.fsa_types.proofs.PlaceLemmas.{row_of-missing}
use Rattle.volume_tables.proofs.PlaceLemmas.{row-at, put-at}
use Rattle.volume_tables.proofs.RangeLemmas.{ranges_in-some, room_at-some, room_at-none, AreSetIn-put, room_at-other}
use Rattle.volume_tables.proofs.ranges.insert.Goals as goal

pub unreachable-requires : goal.unreachable-requires
unreachable-requires c =
    let none = room_at-none c.args.tables.now c.args.stream (row_of-missing c.args.tables.now c.args.stream c.in_default.field-0 c.in_default.ensures.missing) in
    let some = c.requires.room in
    omega arith

pub unreachable-requires-in_default-insert : goal.unreachable-requires-in_default-insert
unreachable-requires-in_default-insert c =
    let d = c.index-tables-place.result in
    let old = room_at-some c.args.tables.now c.args.stream _ (row-at c.args.tables.now c.args.stream c.in-Ok.place d c.requires.rising c.in-Ok.ensures.there) in
    let some = c.requires.room in
    let impossible : false ≡ true = c.in_default-insert.ensures.succeeds (omega arith) in
    cc

pub returns-clause-ranges : goal.returns-clause-ranges
returns-clause-ranges c =
    let d = c.index-tables-place.result in
    let row = row-at c.args.tables.now c.args.stream c.in-Ok.place d c.requires.rising c.in-Ok.ensures.there in
    let put = put-at c.args.tables.now c.args.stream c.in-Ok.place d c.insert.new.self c.requires.rising c.in-Ok.ensures.there in
    let new = set c.args.tables.now c.in-Ok.place ((get_or c.args.tables.now c.in-Ok.place d).0, c.insert.new.self) in
    AreSetIn-put c.args.tables.now new c.args.stream c.insert.new.self _ put
    (c.in-Ok-insert.ensures.ok ∙ ap (λ ranges. ranges ++ c.args.range ∷ []) (sym (ranges_in-some c.args.tables.now c.args.stream _ row)))

pub returns-clause-left : goal.returns-clause-left
returns-clause-left c =
    let d = c.index-tables-place.result in
    let row = row-at c.args.tables.now c.args.stream c.in-Ok.place d c.requires.rising c.in-Ok.ensures.there in
    let put = put-at c.args.tables.now c.args.stream c.in-Ok.place d c.insert.new.self c.requires.rising c.in-Ok.ensures.there in
    let new = set c.args.tables.now c.in-Ok.place ((get_or c.args.tables.now c.in-Ok.place d).0, c.insert.new.self) in
    let old = room_at-some c.args.tables.now c.args.stream _ row in
    let now = room_at-some new c.args.stream _ put.here in
    let left = c.insert.ensures.left in
    omega arith

pub returns-clause-others : goal.returns-clause-others
returns-clause-others c =
    let d = c.index-tables-place.result in
    let row = row-at c.args.tables.now c.args.stream c.in-Ok.place d c.requires.rising c.in-Ok.ensures.there in
    let put = put-at c.args.tables.now c.args.stream c.in-Ok.place d c.insert.new.self c.requires.rising c.in-Ok.ensures.there in
    let new = set c.args.tables.now c.in-Ok.place ((get_or c.args.tables.now c.in-Ok.place d).0, c.insert.new.self) in
    room_at-other c.args.tables.now new c.args.stream c.insert.new.self put
