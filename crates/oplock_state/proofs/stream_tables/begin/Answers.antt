use Rattle.std.proofs.Common.{◌≡◌, ◌+◌, ◌-◌, ◌∷◌, [], List, sym, ◌∙◌, ap, arith, get_or}
use Rattle.std.specs.Prelude.{filter, ◌==◌}
use Rattle.std.proofs.Math.ListN.{set}
use Rattle.fsa_types.proofs.PlaceLemmas.{row_of-missing}
use Rattle.fsa_types.specs.Oplocks.{Oplock}
use Rattle.oplock_state.proofs.TableLemmas.{AreTables-put, rows_at-some, room_at-some, last_at-some, rows_at-none, step-put}
use Rattle.volume_tables.proofs.PlaceLemmas.{row-at, put-at}
use Rattle.fsa_types.specs.OplockLists.{effect_on, left_by_effect}
use Rattle.oplock_state.proofs.stream_tables.begin.Goals as goal

pub unreachable-requires : goal.unreachable-requires
unreachable-requires c =
    let none = rows_at-none c.args.tables.now c.args.key (row_of-missing c.args.tables.now c.args.key c.in_default.field-0 c.in_default.ensures.missing) in
    let impossible : [] ≡ c.args.oplock ∷ [] = rw none at c.requires.there in
    cc

pub begin_one-requires-clause-rising : goal.begin_one-requires-clause-rising
begin_one-requires-clause-rising c =
    let d = c.index-tables-place.result in
    let row = row-at c.args.tables.now c.args.key c.in-Ok.place d c.requires.tables.rising c.in-Ok.ensures.there in
    let last = last_at-some c.args.tables.now c.args.key _ row in
    let rising = c.requires.rising in
    omega arith

pub begin_one-requires-clause-there : goal.begin_one-requires-clause-there
begin_one-requires-clause-there c =
    let d = c.index-tables-place.result in
    let row = row-at c.args.tables.now c.args.key c.in-Ok.place d c.requires.tables.rising c.in-Ok.ensures.there in
    ap (filter (λ (x : Oplock). x.handle == c.args.oplock.handle)) (sym (rows_at-some c.args.tables.now c.args.key _ row)) ∙ c.requires.there

pub returns-clause-step : goal.returns-clause-step
returns-clause-step c =
    let d = c.index-tables-place.result in
    let row = row-at c.args.tables.now c.args.key c.in-Ok.place d c.requires.tables.rising c.in-Ok.ensures.there in
    let put = put-at c.args.tables.now c.args.key c.in-Ok.place d c.begin_one.new.table c.requires.tables.rising c.in-Ok.ensures.there in
    let new = set c.args.tables.now c.in-Ok.place ((get_or c.args.tables.now c.in-Ok.place d).0, c.begin_one.new.table) in
    let room = room_at-some c.args.tables.now c.args.key _ row in
    let more = c.begin_one.ensures.room in
    step-put c.args.tables.now new c.args.key c.begin_one.new.table _ _ 0 put
    (c.begin_one.ensures.rows ∙ ap (λ (r : List Oplock). left_by_effect (effect_on c.args.class c.args.oplock) c.args.oplock.handle (c.args.first - 1 + 1) r) (sym (rows_at-some c.args.tables.now c.args.key _ row)))
    c.begin_one.ensures.last
    (omega arith)

pub returns-clause-tables : goal.returns-clause-tables
returns-clause-tables c =
    AreTables-put c.args.tables.now c.args.key c.in-Ok.place c.index-tables-place.result _ c.requires.tables c.in-Ok.ensures.there c.begin_one.ensures.quiet
