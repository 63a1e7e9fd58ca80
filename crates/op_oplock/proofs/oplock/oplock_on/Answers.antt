use Rattle.std.proofs.Common.{rules}
use Rattle.op_oplock.proofs.OplockLaws.{oplock-granted, oplock-refused}
use Rattle.op_oplock.proofs.oplock.oplock_on.Goals as goal

pub returns-in-Granted : goal.returns-in-Granted
returns-in-Granted c = record {
  leaves = record {
    gives =
        let grants = (rw (c.room_to_grant.ensures.content, c.requires.key) at c.in-Granted.ensures.grants) c.args.stream c.requires.stream in
        oplock-granted c.args.volume.now.content c.grant.new.self.content c.args.id c.args.key c.args.stream c.args.level c.args.turn grants.0 grants.1;
    room = search rules;
    ends = search rules;
  };
}

pub returns-in-Refused : goal.returns-in-Refused
returns-in-Refused c = record {
  leaves = record {
    gives =
        let grants = (rw (c.room_to_grant.ensures.content, c.requires.key) at c.in-Refused.ensures.grants) c.args.stream c.requires.stream in
        rw c.ends.ensures (oplock-refused c.args.volume.now.content c.grant.new.self.content c.args.id c.args.key c.args.stream c.args.level c.args.turn grants.0 grants.1);
    room = search rules;
    ends = search rules;
  };
}
