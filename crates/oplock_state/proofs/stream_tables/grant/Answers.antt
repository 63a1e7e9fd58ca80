use Rattle.std.proofs.Common.{sym, ◌∙◌, arith, get_or}
use Rattle.std.proofs.Math.ListN.{set}
use Rattle.fsa_types.proofs.PlaceLemmas.{row_of-missing}
use Rattle.oplock_state.proofs.TableLemmas.{AreTables-put, grants-at, grants-room, rows_at-some, room_at-some, last_at-some, room_at-none, step-put}
use Rattle.volume_tables.proofs.PlaceLemmas.{row-at, put-at}
use Rattle.oplock_state.specs.Tables.{taken_by}
use Rattle.oplock_state.proofs.stream_tables.grant.Goals as goal

pub unreachable-requires : goal.unreachable-requires
unreachable-requires c =
    let none = room_at-none c.args.tables.now c.args.key (row_of-missing c.args.tables.now c.args.key c.in_default.field-0 c.in_default.ensures.missing) in
    let some = c.requires.room in
    omega arith

pub grant-requires : goal.grant-requires
grant-requires c =
    let d = c.index-tables-place.result in
    let row = row-at c.args.tables.now c.args.key c.in-Ok.place d c.requires.tables.rising c.in-Ok.ensures.there in
    let own = room_at-some c.args.tables.now c.args.key _ row in
    let some = c.requires.room in
    omega arith

pub returns-clause-grants : goal.returns-clause-grants
returns-clause-grants c =
    let d = c.index-tables-place.result in
    let row = row-at c.args.tables.now c.args.key c.in-Ok.place d c.requires.tables.rising c.in-Ok.ensures.there in
    let put = put-at c.args.tables.now c.args.key c.in-Ok.place d c.grant.new.self c.requires.tables.rising c.in-Ok.ensures.there in
    let new = set c.args.tables.now c.in-Ok.place ((get_or c.args.tables.now c.in-Ok.place d).0, c.grant.new.self) in
    let room = room_at-some c.args.tables.now c.args.key _ row in
    grants-at _ c.grant.new.self c.args.asked.now _ _ c.grant.result c.grant.ensures.grants (rows_at-some c.args.tables.now c.args.key _ row) (rows_at-some new c.args.key c.grant.new.self put.here)

pub returns-clause-step : goal.returns-clause-step
returns-clause-step c =
    let d = c.index-tables-place.result in
    let row = row-at c.args.tables.now c.args.key c.in-Ok.place d c.requires.tables.rising c.in-Ok.ensures.there in
    let put = put-at c.args.tables.now c.args.key c.in-Ok.place d c.grant.new.self c.requires.tables.rising c.in-Ok.ensures.there in
    let new = set c.args.tables.now c.in-Ok.place ((get_or c.args.tables.now c.in-Ok.place d).0, c.grant.new.self) in
    let room = room_at-some c.args.tables.now c.args.key _ row in
    let more = grants-room (get_or c.args.tables.now c.in-Ok.place d).1 c.grant.new.self c.args.asked.now c.grant.result c.grant.ensures.grants c.grant.ensures.left in
    step-put c.args.tables.now new c.args.key c.grant.new.self _ _ (taken_by c.grant.result) put
    (sym (rows_at-some new c.args.key c.grant.new.self put.here))
    (c.grant.ensures.last ∙ sym (last_at-some c.args.tables.now c.args.key _ row))
    (omega arith)

pub returns-clause-tables : goal.returns-clause-tables
returns-clause-tables c =
    let d = c.index-tables-place.result in
    let row = row-at c.args.tables.now c.args.key c.in-Ok.place d c.requires.tables.rising c.in-Ok.ensures.there in
    AreTables-put c.args.tables.now c.args.key c.in-Ok.place c.index-tables-place.result _ c.requires.tables c.in-Ok.ensures.there (c.grant.ensures.marked (c.requires.tables.quiet c.in-Ok.place d c.in-Ok.ensures.there.within))
