use Rattle.std.proofs.Common.{sym, ◌∙◌, rules}
use Rattle.op_open.proofs.OverwriteLemmas.{overwrite_existing-goes}
use Rattle.op_open.proofs.open.overwrite_existing.Goals as goal

pub returns : goal.returns
returns c = record {
  leaves = record {
    gives =
        rw (c.opens.ensures, c.overwrite_action.ensures, ← c.asked.view_is)
        (overwrite_existing-goes c.args.volume.now.content _ c.args.link c.args.file c.args.stream c.break_for.new.volume.content
        c.open_overwritten.new.volume.content (sym c.break_for.ensures.waits ∙ c.if-break_for.false) c.break_for.ensures.content
        (rw (← c.asked.view_is) at c.open_overwritten.ensures.content));
    room = search rules;
    ends = search rules;
  };
}
