use Rattle.op_data.proofs.SetEndLaws.{with_resized-steps}
use Rattle.op_data.proofs.resized.resize_in_place.Goals as goal

pub returns-clause-content : goal.returns-clause-content
returns-clause-content c =
    with_resized-steps c.args.volume.now.content c.note_write.new.volume.content c.set_length.new.self.content c.resize_file.new.volume.content c.args.resizing.link
    c.args.resizing.stream c.args.resizing.end c.file_of_stream-file.result c.file_of_stream-file.ensures c.note_write.ensures.content c.set_length.ensures.content
    c.resize_file.ensures.content
