use Rattle.std.proofs.Common.{sym, ◌∙◌, arith}
use Rattle.std.specs.List.{insert}
use Rattle.fsa_types.proofs.PlaceLemmas.{row_of-missing, AreRising-insert}
use Rattle.volume_tables.proofs.PlaceLemmas.{IsPut, put-insert}
use Rattle.volume_tables.proofs.RangeLemmas.{ranges_in-none, room_at-some, room_at-none, KeepsRanges-put}
use Rattle.volume_tables.proofs.ranges.insert_table.Goals as goal

pub returns-clause-kept : goal.returns-clause-kept
returns-clause-kept c =
    let none = row_of-missing c.args.tables.now.items c.args.stream c.args.place c.requires.missing in
    let put : IsPut c.args.tables.now.items (insert c.args.tables.now.items c.args.place (c.args.stream, c.reserve.new.self)) c.args.stream c.reserve.new.self
    = put-insert c.args.tables.now.items c.args.stream c.args.place c.reserve.new.self c.requires.missing in
    let old = room_at-none c.args.tables.now.items c.args.stream none in
    rw c.in_ok-insert.ensures.items (KeepsRanges-put c.args.tables.now.items (insert c.args.tables.now.items c.args.place (c.args.stream, c.reserve.new.self)) c.args.stream c.reserve.new.self put
    (c.reserve.ensures.ranges ∙ c.new-table.ensures ∙ sym (ranges_in-none c.args.tables.now.items c.args.stream none)) (omega arith))

pub returns-clause-room : goal.returns-clause-room
returns-clause-room c =
    let none = row_of-missing c.args.tables.now.items c.args.stream c.args.place c.requires.missing in
    let put : IsPut c.args.tables.now.items (insert c.args.tables.now.items c.args.place (c.args.stream, c.reserve.new.self)) c.args.stream c.reserve.new.self
    = put-insert c.args.tables.now.items c.args.stream c.args.place c.reserve.new.self c.requires.missing in
    let more = c.in_ok-reserve.ensures.room in
    let now = room_at-some (insert c.args.tables.now.items c.args.place (c.args.stream, c.reserve.new.self)) c.args.stream c.reserve.new.self put.here in
    rw c.in_ok-insert.ensures.items (omega arith)

pub returns-clause-rising : goal.returns-clause-rising
returns-clause-rising c =
    rw c.in_ok-insert.ensures.items (AreRising-insert c.args.tables.now.items c.args.stream c.args.place c.reserve.new.self c.requires.rising c.requires.missing)
