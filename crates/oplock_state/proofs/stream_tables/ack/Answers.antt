use Rattle.std.proofs.Common.{ℕ, List, sym, ◌∙◌, ap, refl, arith, get_or}
use Rattle.std.specs.Prelude.{option_map}
use Rattle.std.proofs.Math.ListN.{set}
use Rattle.fsa_types.proofs.PlaceLemmas.{row_of-missing}
use Rattle.fsa_types.specs.Oplocks.{Oplock}
use Rattle.oplock_state.specs.State.{State}
use Rattle.oplock_state.proofs.TableLemmas.{AreTables-put, first-kept, rows_at-some, room_at-some, last_at-some, rows_at-none, step-put, step-same}
use Rattle.volume_tables.proofs.PlaceLemmas.{row-at, put-at}
use Rattle.std.specs.Option.{option_map_or}
use Rattle.fsa_types.specs.OplockGrants.{after_answer, target_among}
use Rattle.fsa_types.specs.Oplocks.{in_both}
use Rattle.fsa_types.specs.declared.request.Level.{Level}
use Rattle.oplock_state.proofs.stream_tables.ack.Goals as goal

pub returns-in_default-clause-kept : goal.returns-in_default-clause-kept
returns-in_default-clause-kept c =
    let none = rows_at-none c.args.tables.now c.args.key (row_of-missing c.args.tables.now c.args.key c.in_default.field-0 c.in_default.ensures.missing) in
    rw none refl

pub returns-in_default-clause-step : goal.returns-in_default-clause-step
returns-in_default-clause-step c =
    let none = rows_at-none c.args.tables.now c.args.key (row_of-missing c.args.tables.now c.args.key c.in_default.field-0 c.in_default.ensures.missing) in
    step-same c.args.tables.now c.args.key _ _ 0 (rw none refl) refl

pub returns-clause-kept : goal.returns-clause-kept
returns-clause-kept c =
    let d = c.index-tables-place.result in
    let row = row-at c.args.tables.now c.args.key c.in-Ok.place d c.requires.tables.rising c.in-Ok.ensures.there in
    let rows = sym (rows_at-some c.args.tables.now c.args.key _ row) in
    c.level_of.ensures ∙ ap (option_map (λ (answer : Level × ℕ). answer.0)) c.ack.ensures.kept
    ∙ first-kept c.args.level _ _
    ∙ ap (λ (r : List Oplock). option_map (λ (told : Level). in_both c.args.level told) (target_among c.args.handle r)) rows

pub returns-clause-step : goal.returns-clause-step
returns-clause-step c =
    let d = c.index-tables-place.result in
    let row = row-at c.args.tables.now c.args.key c.in-Ok.place d c.requires.tables.rising c.in-Ok.ensures.there in
    let put = put-at c.args.tables.now c.args.key c.in-Ok.place d c.ack.new.self c.requires.tables.rising c.in-Ok.ensures.there in
    let new = set c.args.tables.now c.in-Ok.place ((get_or c.args.tables.now c.in-Ok.place d).0, c.ack.new.self) in
    let room = room_at-some c.args.tables.now c.args.key _ row in
    let more = c.ack.ensures.room in
    step-put c.args.tables.now new c.args.key c.ack.new.self _ _ 0 put
    (c.ack.ensures.rows ∙ ap (λ (r : List Oplock). option_map_or (λ (told : Level). after_answer c.args.handle (in_both c.args.level told) c.args.turn r) (target_among c.args.handle r) r) (sym (rows_at-some c.args.tables.now c.args.key _ row)))
    (ap (λ (s : State). s.last) c.ack.ensures.others ∙ sym (last_at-some c.args.tables.now c.args.key _ row))
    (omega arith)

pub returns-clause-tables : goal.returns-clause-tables
returns-clause-tables c =
    AreTables-put c.args.tables.now c.args.key c.in-Ok.place c.index-tables-place.result _ c.requires.tables c.in-Ok.ensures.there (ap (λ (s : State). s.marked) c.ack.ensures.others)
