use Rattle.std.proofs.Common.{length}
use Rattle.op_data.proofs.RoomLaws.{HasWriteRoom-broken}
use Rattle.op_data.proofs.write.write_in_room.Goals as goal

pub write_unlocked-requires-clause-put : goal.write_unlocked-requires-clause-put
write_unlocked-requires-clause-put c =
    HasWriteRoom-broken c.args.volume.now.content c.break_for.new.volume.content c.args.volume.now.spare c.break_for.new.volume.spare c.args.fault c.args.writing.link c.args.writing.stream
    c.args.writing.at (length c.args.writing.bytes.now) c.break_for.ensures.rest c.break_for.ensures.spare c.requires.put
