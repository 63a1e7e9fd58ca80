use Rattle.std.proofs.Common.{sym, ◌∙◌, ap, arith, get_or}
use Rattle.std.proofs.Math.ListN.{set}
use Rattle.oplock_state.specs.State.{State}
use Rattle.oplock_state.proofs.TableLemmas.{AreTables-put, rows_at-some, room_at-some, last_at-some, step-put}
use Rattle.volume_tables.proofs.PlaceLemmas.{row-at, put-at}
use Rattle.oplock_state.proofs.stream_tables.reserve_at.Goals as goal

pub returns-clause-step : goal.returns-clause-step
returns-clause-step c =
    let d = c.index-tables-place.result in
    let row = row-at c.args.tables.now c.args.key c.args.place d c.requires.tables.rising c.requires.there in
    let put = put-at c.args.tables.now c.args.key c.args.place d c.reserve.new.self c.requires.tables.rising c.requires.there in
    let new = set c.args.tables.now c.args.place ((get_or c.args.tables.now c.args.place d).0, c.reserve.new.self) in
    let room = room_at-some c.args.tables.now c.args.key _ row in
    let more = c.reserve.ensures.kept in
    step-put c.args.tables.now new c.args.key c.reserve.new.self _ _ 0 put
    (ap (λ (s : State). s.rows) c.reserve.ensures.state ∙ sym (rows_at-some c.args.tables.now c.args.key _ row))
    (ap (λ (s : State). s.last) c.reserve.ensures.state ∙ sym (last_at-some c.args.tables.now c.args.key _ row))
    (omega arith)

pub returns-in_err-reserve-clause-step : goal.returns-in_err-reserve-clause-step
returns-in_err-reserve-clause-step c =
    let d = c.index-tables-place.result in
    let row = row-at c.args.tables.now c.args.key c.args.place d c.requires.tables.rising c.requires.there in
    let put = put-at c.args.tables.now c.args.key c.args.place d c.reserve.new.self c.requires.tables.rising c.requires.there in
    let new = set c.args.tables.now c.args.place ((get_or c.args.tables.now c.args.place d).0, c.reserve.new.self) in
    let room = room_at-some c.args.tables.now c.args.key _ row in
    let more = c.reserve.ensures.kept in
    step-put c.args.tables.now new c.args.key c.reserve.new.self _ _ 0 put
    (ap (λ (s : State). s.rows) c.reserve.ensures.state ∙ sym (rows_at-some c.args.tables.now c.args.key _ row))
    (ap (λ (s : State). s.last) c.reserve.ensures.state ∙ sym (last_at-some c.args.tables.now c.args.key _ row))
    (omega arith)

pub returns-clause-tables : goal.returns-clause-tables
returns-clause-tables c =
    let d = c.index-tables-place.result in
    let row = row-at c.args.tables.now c.args.key c.args.place d c.requires.tables.rising c.requires.there in
    AreTables-put c.args.tables.now c.args.key c.args.place c.index-tables-place.result _ c.requires.tables c.requires.there (ap (λ (s : State). s.marked) c.reserve.ensures.state ∙ c.requires.tables.quiet c.args.place d c.requires.there.within)

pub returns-in_err-reserve-clause-tables : goal.returns-in_err-reserve-clause-tables
returns-in_err-reserve-clause-tables c =
    let d = c.index-tables-place.result in
    let row = row-at c.args.tables.now c.args.key c.args.place d c.requires.tables.rising c.requires.there in
    AreTables-put c.args.tables.now c.args.key c.args.place c.index-tables-place.result _ c.requires.tables c.requires.there (ap (λ (s : State). s.marked) c.reserve.ensures.state ∙ c.requires.tables.quiet c.args.place d c.requires.there.within)

pub returns-clause-room : goal.returns-clause-room
returns-clause-room c =
    let d = c.index-tables-place.result in
    let row = row-at c.args.tables.now c.args.key c.args.place d c.requires.tables.rising c.requires.there in
    let put = put-at c.args.tables.now c.args.key c.args.place d c.reserve.new.self c.requires.tables.rising c.requires.there in
    let new = set c.args.tables.now c.args.place ((get_or c.args.tables.now c.args.place d).0, c.reserve.new.self) in
    let room = room_at-some c.args.tables.now c.args.key _ row in
    let now = room_at-some new c.args.key _ put.here in
    let more = c.in_ok-reserve.ensures.room in
    omega arith
