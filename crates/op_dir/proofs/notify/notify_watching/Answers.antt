use Rattle.op_dir.proofs.notify.notify_watching.Goals as goal

pub returns-else-has_watch : goal.returns-else-has_watch
returns-else-has_watch c = record { leaves = c.begun.ensures.leaves c.args.room }
