use Rattle.op_data.proofs.WriteLaws.{write_bytes-done}
use Rattle.op_data.proofs.write.write_bytes.Goals as goal

pub returns-clause-gives : goal.returns-clause-gives
returns-clause-gives c =
    write_bytes-done c.args.volume.now.content c.write_in_place.new.volume.content c.args.writing.link c.args.writing.stream c.args.writing.at c.args.writing.bytes.now
    c.write_in_place.ensures.content
