use Rattle.fsa_model.specs.QueryDir.{left_to_list, query_dir_in}
use Rattle.volume_rows.specs.Cursors.{cursor_of}
use Rattle.op_dir.proofs.query_dir.query_dir_in.Goals as goal

pub returns-in-Ok : goal.returns-in-Ok
unfolding query_dir_in
returns-in-Ok c = record {
  leaves = record {
    gives = c.list_entries.ensures.gives (left_to_list c.args.volume.now.content c.args.dir c.args.begun.expression (cursor_of c.args.begun.cursor)) c.args.room c.in-Ok.ensures;
    room = c.list_entries.ensures.room;
    ends = c.list_entries.ensures.ends;
  };
}
