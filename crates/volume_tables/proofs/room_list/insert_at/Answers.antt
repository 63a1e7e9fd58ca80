use Rattle.std.proofs.Common.{arith}
use Rattle.volume_tables.proofs.RoomLemmas.{IsRoomSet-insert, IsRoomSet-none}
use Rattle.volume_tables.proofs.room_list.insert_at.Goals as goal

pub returns-in_ok-insert-clause-ok : goal.returns-in_ok-insert-clause-ok
returns-in_ok-insert-clause-ok c =
    rw c.in_ok-insert.ensures.items (IsRoomSet-insert c.args.rooms.now.items c.args.id c.args.place c.args.room c.requires.missing)

pub returns-else-room-gt0-clause-ok : goal.returns-else-room-gt0-clause-ok
returns-else-room-gt0-clause-ok c = IsRoomSet-none c.args.rooms.now.items c.args.id c.args.place c.args.room (omega arith) c.requires.missing
