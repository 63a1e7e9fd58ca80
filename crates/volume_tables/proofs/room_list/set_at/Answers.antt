use Rattle.volume_tables.proofs.RoomLemmas.{IsRoomSet-remove, IsRoomSet-set}
use Rattle.volume_tables.proofs.room_list.set_at.Goals as goal

pub returns-then-room-eq0-clause-room : goal.returns-then-room-eq0-clause-room
returns-then-room-eq0-clause-room c =
    rw c.remove.ensures.items (IsRoomSet-remove c.args.rooms.now.items c.args.id c.args.place c.args.room c.if-room-eq0.true c.requires.rooms.rising c.requires.there)

pub returns-else-room-eq0-clause-room : goal.returns-else-room-eq0-clause-room
returns-else-room-eq0-clause-room c = IsRoomSet-set c.args.rooms.now.items c.args.id c.args.place c.args.room c.requires.rooms.rising c.requires.there
