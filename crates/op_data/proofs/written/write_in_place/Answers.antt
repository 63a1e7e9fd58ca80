use Rattle.op_data.proofs.WriteLaws.{with_written-steps}
use Rattle.op_data.proofs.written.write_in_place.Goals as goal

pub returns-clause-content : goal.returns-clause-content
returns-clause-content c =
    with_written-steps c.args.volume.now.content c.note_write.new.volume.content c.put_bytes.new.self.content c.write_file.new.volume.content c.args.writing.link
    c.args.writing.stream c.args.writing.at c.file_of_stream-file.result c.args.writing.bytes.now c.lengthens-longer.result c.file_of_stream-file.ensures
    c.lengthens-longer.ensures c.note_write.ensures.content c.put_bytes.ensures.content c.write_file.ensures.content
