use Rattle.std.proofs.Common.{sym, ◌∙◌, arith, get_or}
use Rattle.std.proofs.Math.ListN.{set}
use Rattle.volume_tables.proofs.PlaceLemmas.{row-at, put-at, rising-at}
use Rattle.volume_tables.proofs.RangeLemmas.{ranges_in-some, room_at-some, KeepsRanges-put}
use Rattle.volume_tables.proofs.ranges.reserve_at.Goals as goal

pub returns-clause-kept : goal.returns-clause-kept
returns-clause-kept c =
    let d = c.index-tables-place.result in
    let row = row-at c.args.tables.now c.args.stream c.args.place d c.requires.rising c.requires.there in
    let put = put-at c.args.tables.now c.args.stream c.args.place d c.reserve.new.self c.requires.rising c.requires.there in
    let new = set c.args.tables.now c.args.place ((get_or c.args.tables.now c.args.place d).0, c.reserve.new.self) in
    let old = room_at-some c.args.tables.now c.args.stream _ row in
    let more = c.reserve.ensures.kept in
    KeepsRanges-put c.args.tables.now new c.args.stream c.reserve.new.self put
    (c.reserve.ensures.ranges ∙ sym (ranges_in-some c.args.tables.now c.args.stream _ row)) (omega arith)

pub returns-in_err-reserve-clause-kept : goal.returns-in_err-reserve-clause-kept
returns-in_err-reserve-clause-kept c =
    let d = c.index-tables-place.result in
    let row = row-at c.args.tables.now c.args.stream c.args.place d c.requires.rising c.requires.there in
    let put = put-at c.args.tables.now c.args.stream c.args.place d c.reserve.new.self c.requires.rising c.requires.there in
    let new = set c.args.tables.now c.args.place ((get_or c.args.tables.now c.args.place d).0, c.reserve.new.self) in
    let old = room_at-some c.args.tables.now c.args.stream _ row in
    let more = c.reserve.ensures.kept in
    KeepsRanges-put c.args.tables.now new c.args.stream c.reserve.new.self put
    (c.reserve.ensures.ranges ∙ sym (ranges_in-some c.args.tables.now c.args.stream _ row)) (omega arith)

pub returns-clause-room : goal.returns-clause-room
returns-clause-room c =
    let d = c.index-tables-place.result in
    let row = row-at c.args.tables.now c.args.stream c.args.place d c.requires.rising c.requires.there in
    let put = put-at c.args.tables.now c.args.stream c.args.place d c.reserve.new.self c.requires.rising c.requires.there in
    let new = set c.args.tables.now c.args.place ((get_or c.args.tables.now c.args.place d).0, c.reserve.new.self) in
    let now = room_at-some new c.args.stream _ put.here in
    let more = c.in_ok-reserve.ensures.room in
    omega arith

pub returns-clause-rising : goal.returns-clause-rising
returns-clause-rising c = rising-at c.args.tables.now c.args.stream c.args.place c.index-tables-place.result c.reserve.new.self c.requires.rising c.requires.there

pub returns-in_err-reserve-clause-rising : goal.returns-in_err-reserve-clause-rising
returns-in_err-reserve-clause-rising c = rising-at c.args.tables.now c.args.stream c.args.place c.index-tables-place.result c.reserve.new.self c.requires.rising c.requires.there
