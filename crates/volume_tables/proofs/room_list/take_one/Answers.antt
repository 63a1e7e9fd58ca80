use Rattle.std.proofs.Common.{sym, ap, ◌∙◌, subst, ℕ, ◌-◌, arith}
use Rattle.fsa_types.specs.Places.{IsAt, StandsAt}
use Rattle.volume_tables.specs.Rooms.{IsRoomSet}
use Rattle.volume_tables.proofs.RoomLemmas.{room_in-at, room_in-missing, take-room}
use Rattle.volume_tables.proofs.room_list.take_one.Goals as goal

pub unreachable-requires : goal.unreachable-requires
unreachable-requires c =
    let at : StandsAt c.args.rooms.now.items c.args.id c.in_default.field-0 = rw c.deref.ensures.value at (c.in_default.ensures.missing) in
    let none = room_in-missing c.args.rooms.now.items c.args.id c.in_default.field-0 at in
    let some = c.requires.room in
    omega arith

pub returns-clause-taken : goal.returns-clause-taken
returns-clause-taken c =
    let at : IsAt c.args.rooms.now.items c.args.id c.in-Ok.place = rw c.deref.ensures.value at c.in-Ok.ensures.there in
    let room = room_in-at c.args.rooms.now.items c.args.id c.in-Ok.place c.index.result.now c.requires.rooms.rising at in
    take-room c.args.rooms.now.items c.set_at.new.rooms.items c.args.id c.requires.room
    (subst (λ (r : ℕ). IsRoomSet c.args.rooms.now.items c.set_at.new.rooms.items c.args.id (r - 1)) (ap (λ (e : ℕ × ℕ). e.1) c.index.ensures ∙ sym room) c.set_at.ensures.room)
