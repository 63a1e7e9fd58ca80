use Rattle.std.proofs.Common.{◌≤◌, ◌+◌, ◌^◌, length, arith, ap}
use Rattle.fsa_types.proofs.RowLemmas.{length-numbered}
use Rattle.volume_state.specs.declared.room.NoteRoom.{NoteRoom}
use Rattle.volume_state.proofs.OpenLaws.{IfSome-map}
use Rattle.volume_state.proofs.volume.Volume.note_room_in.Goals as goal

pub returns-clause-few : goal.returns-clause-few
returns-clause-few c =
    let few : length c.self.inside.links.rows ≤ c.self.inside.links.last + 1
    = length-numbered c.self.inside.links.rows c.self.inside.links.last c.self.invariant.0.links_numbered in
    let bound = c.self.invariant.0.bounded.links in
    let same = ap length c.by_file.ensures.rows in
    IfSome-map (λ (room : NoteRoom). room.dirs ≤ 1 + length c.by_file.result.now.rows) (λ room. room.dirs ≤ 2 ^ 32) c.room_above.result (λ room below. omega arith) c.room_above.ensures.few
