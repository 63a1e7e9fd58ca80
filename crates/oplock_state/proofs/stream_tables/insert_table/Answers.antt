use Rattle.std.proofs.Common.{sym, ◌∙◌, ap, arith}
use Rattle.std.specs.List.{insert}
use Rattle.fsa_types.proofs.PlaceLemmas.{row_of-missing}
use Rattle.oplock_state.specs.State.{State}
use Rattle.oplock_state.proofs.TableLemmas.{AreTables-insert, room_at-some, rows_at-none, room_at-none, last_at-none, step-put}
use Rattle.volume_tables.proofs.PlaceLemmas.{IsPut, put-insert}
use Rattle.oplock_state.proofs.stream_tables.insert_table.Goals as goal

pub returns-clause-step : goal.returns-clause-step
returns-clause-step c =
    let none = row_of-missing c.args.tables.now.items c.args.key c.args.place c.requires.missing in
    let put : IsPut c.args.tables.now.items (insert c.args.tables.now.items c.args.place (c.args.key, c.reserve.new.self)) c.args.key c.reserve.new.self
    = put-insert c.args.tables.now.items c.args.key c.args.place c.reserve.new.self c.requires.missing in
    let old = room_at-none c.args.tables.now.items c.args.key none in
    rw c.in_ok-insert.ensures.items (
    step-put c.args.tables.now.items (insert c.args.tables.now.items c.args.place (c.args.key, c.reserve.new.self)) c.args.key c.reserve.new.self _ _ 0 put
    (ap (λ (s : State). s.rows) c.reserve.ensures.state ∙ c.new-table.ensures.rows ∙ sym (rows_at-none c.args.tables.now.items c.args.key none))
    (ap (λ (s : State). s.last) c.reserve.ensures.state ∙ c.new-table.ensures.last ∙ sym (last_at-none c.args.tables.now.items c.args.key none))
    (omega arith))

pub returns-clause-room : goal.returns-clause-room
returns-clause-room c =
    let none = row_of-missing c.args.tables.now.items c.args.key c.args.place c.requires.missing in
    let put : IsPut c.args.tables.now.items (insert c.args.tables.now.items c.args.place (c.args.key, c.reserve.new.self)) c.args.key c.reserve.new.self
    = put-insert c.args.tables.now.items c.args.key c.args.place c.reserve.new.self c.requires.missing in
    let old = room_at-none c.args.tables.now.items c.args.key none in
    let more = c.in_ok-reserve.ensures.room in
    let now = room_at-some (insert c.args.tables.now.items c.args.place (c.args.key, c.reserve.new.self)) c.args.key c.reserve.new.self put.here in
    rw c.in_ok-insert.ensures.items (omega arith)

pub returns-clause-tables : goal.returns-clause-tables
returns-clause-tables c =
    rw c.in_ok-insert.ensures.items (
    AreTables-insert c.args.tables.now.items c.args.key c.args.place c.reserve.new.self c.requires.tables c.requires.missing
    (ap (λ (s : State). s.marked) c.reserve.ensures.state ∙ c.new-table.ensures.marked))
