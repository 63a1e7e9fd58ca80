use Rattle.std.proofs.Common.{◌≡◌, true, length, ap, arith}
use Rattle.fsa_model.specs.Lookups.{is_directory}
use Rattle.fsa_model.specs.Volume.{Volume}
use Rattle.volume_state.specs.Paths.{units_noted_in, dirs_in}
use Rattle.volume_state.specs.VolumeView.{Spare, room_for}
use Rattle.op_link.proofs.replacement.replace_link.Goals as goal

pub returns-clause-room : goal.returns-clause-room
returns-clause-room c =
    let asked = c.requires.room in
    let directory : is_directory c.note.new.self.content.files c.args.dir ≡ true = rw c.note.ensures.rest c.requires.holds.directory in
    record {
      links = (let kept = c.drop_link.ensures.links_kept c.args.dir in
          let noted = ap (λ (s : Spare). room_for s.links c.args.dir) c.note.ensures.others in
          let room = asked.links in omega arith);
      changes = (let kept = ap (λ (s : Spare). s.changes) c.drop_link.ensures.others in
          let left = c.note.ensures.left in let room = asked.changes in omega arith);
      units = (let fewer = c.drop_link.ensures.stays.units c.args.dir (length c.args.name.now) directory in
          let noted = ap (λ (w : Volume). units_noted_in w c.args.dir (length c.args.name.now)) c.note.ensures.rest in
          let kept = ap (λ (s : Spare). s.units) c.drop_link.ensures.others in
          let left = c.note.ensures.units_left in let room = asked.units in omega arith);
      dirs = (let fewer = c.drop_link.ensures.stays.dirs c.args.dir directory in
          let noted = ap (λ (w : Volume). dirs_in w c.args.dir) c.note.ensures.rest in
          let kept = ap (λ (s : Spare). s.dirs) c.drop_link.ensures.others in
          let left = c.note.ensures.dirs_left in let room = asked.dirs in omega arith);
    }

pub returns-clause-units_in : goal.returns-clause-units_in
returns-clause-units_in c =
    let directory : is_directory c.note.new.self.content.files c.args.dir ≡ true = rw c.note.ensures.rest c.requires.holds.directory in
    let fewer = c.drop_link.ensures.stays.units c.args.dir (length c.args.name.now) directory in
    let noted = ap (λ (w : Volume). units_noted_in w c.args.dir (length c.args.name.now)) c.note.ensures.rest in omega arith
