use Rattle.std.proofs.Common.{sym, ◌∙◌, ap, refl, arith, get_or}
use Rattle.std.proofs.Math.ListN.{set}
use Rattle.fsa_types.proofs.PlaceLemmas.{row_of-missing}
use Rattle.oplock_state.specs.State.{State}
use Rattle.oplock_state.proofs.TableLemmas.{AreTables-put, rows_at-some, room_at-some, last_at-some, rows_at-none, step-put, step-same}
use Rattle.volume_tables.proofs.PlaceLemmas.{row-at, put-at}
use Rattle.fsa_types.specs.OplockLists.{without_oplock_of}
use Rattle.oplock_state.proofs.stream_tables.drop_handle.Goals as goal

pub returns-in-Ok-clause-step : goal.returns-in-Ok-clause-step
returns-in-Ok-clause-step c =
    let d = c.index-tables-place.result in
    let row = row-at c.args.tables.now c.args.key c.in-Ok.place d c.requires.tables.rising c.in-Ok.ensures.there in
    let put = put-at c.args.tables.now c.args.key c.in-Ok.place d c.drop_handle.new.self c.requires.tables.rising c.in-Ok.ensures.there in
    let new = set c.args.tables.now c.in-Ok.place ((get_or c.args.tables.now c.in-Ok.place d).0, c.drop_handle.new.self) in
    let room = room_at-some c.args.tables.now c.args.key _ row in
    let more = c.drop_handle.ensures.room in
    step-put c.args.tables.now new c.args.key c.drop_handle.new.self _ _ 0 put
    (ap (λ (s : State). s.rows) c.drop_handle.ensures.state ∙ ap (without_oplock_of c.args.handle) (sym (rows_at-some c.args.tables.now c.args.key _ row)))
    (ap (λ (s : State). s.last) c.drop_handle.ensures.state ∙ sym (last_at-some c.args.tables.now c.args.key _ row))
    (omega arith)

pub returns-in-Ok-clause-tables : goal.returns-in-Ok-clause-tables
returns-in-Ok-clause-tables c =
    AreTables-put c.args.tables.now c.args.key c.in-Ok.place c.index-tables-place.result _ c.requires.tables c.in-Ok.ensures.there (ap (λ (s : State). s.marked) c.drop_handle.ensures.state)

pub returns-in_default-clause-step : goal.returns-in_default-clause-step
returns-in_default-clause-step c =
    let none = rows_at-none c.args.tables.now c.args.key (row_of-missing c.args.tables.now c.args.key c.in_default.field-0 c.in_default.ensures.missing) in
    step-same c.args.tables.now c.args.key _ _ 0 (none ∙ ap (without_oplock_of c.args.handle) (sym none)) refl
