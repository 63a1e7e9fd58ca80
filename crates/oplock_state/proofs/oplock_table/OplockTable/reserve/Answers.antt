use Rattle.std.proofs.Common.{◌≡◌, ℕ, ◌*◌, ◌≤◌, ◌∙◌, List, ap, arith, subst, sym}
use Rattle.std.specs.Prelude.{OnOk}
use Rattle.oplock_state.specs.Homes.{rooms_of_streams}
use Rattle.oplock_state.proofs.HomeLemmas.{room-of_stream}
use Rattle.volume_tables.specs.Rooms.{room_in}
use Rattle.oplock_state.proofs.oplock_table.OplockTable.reserve.Goals as goal

pub returns-clause-room : goal.returns-clause-room
returns-clause-room c =
    let rooms : List (ℕ × ℕ) = c.reserve-2.new.self.rooms in
    let same : room_in (rooms_of_streams rooms) c.args.stream ≡ room_in rooms c.home_of_stream-home.result = room-of_stream rooms c.args.stream ∙ ap (room_in rooms) (sym c.home_of_stream-home.ensures) in
    subst (λ (room : ℕ). OnOk c.reserve-2.result (c.args.oplocks ≤ room)) (sym same) c.reserve-2.ensures.room

pub returns-clause-kept : goal.returns-clause-kept
returns-clause-kept c = rw (← c.self.view_is) (λ other.
    (let before = room-of_stream c.self.inside.list.rooms other in
    let after = room-of_stream c.reserve-2.new.self.rooms other in
    let kept = c.reserve-2.ensures.kept (2 * other) in
    omega arith))
