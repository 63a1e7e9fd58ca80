use Rattle.std.proofs.Common.{sym, arith}
use Rattle.volume_tables.proofs.RoomLemmas.{room_in-all, room_in-at, room_in-missing}
use Rattle.volume_tables.proofs.room_list.room_in.Goals as goal

pub returns-in-Ok-clause-room : goal.returns-in-Ok-clause-room
returns-in-Ok-clause-room c = sym (room_in-at c.args.rooms.now c.args.id c.in-Ok.place (0, 0) c.requires c.in-Ok.ensures.there)

pub returns-in-Ok-clause-few : goal.returns-in-Ok-clause-few
returns-in-Ok-clause-few c =
    let here = room_in-at c.args.rooms.now c.args.id c.in-Ok.place (0, 0) c.requires c.in-Ok.ensures.there in
    let few = room_in-all c.args.rooms.now c.args.id in
    omega arith

pub returns-in-Err-clause-room : goal.returns-in-Err-clause-room
returns-in-Err-clause-room c = sym (room_in-missing c.args.rooms.now c.args.id c.in-Err.field-0 c.in-Err.ensures.missing)
