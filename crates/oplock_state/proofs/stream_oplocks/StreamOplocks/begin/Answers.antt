use Rattle.std.proofs.Common.{◌≡◌, length, ap, ◌∙◌, arith}
use Rattle.std.specs.Vec.{vec_capacity}
use Rattle.fsa_types.specs.OplockLists.{OplockState, after_breaks}
use Rattle.volume_breaks.specs.Oplocks.{OplocksView, state_of}
use Rattle.volume_tables.specs.Rooms.{room_in}
use Rattle.oplock_state.proofs.OplockCounts.{breaks-few, marks-none, room-kept}
use Rattle.oplock_state.proofs.stream_oplocks.StreamOplocks.begin.Goals as goal

pub invariant_of-self : goal.invariant_of-self
invariant_of-self c =
    let few = breaks-few c.args.class (state_of c.choose_marked.new.self) c.choose_marked.new.self.chosen in
    let after : length c.break_oplocks.new.oplocks.rows ≡ length (after_breaks c.args.class (state_of c.choose_marked.new.self) c.choose_marked.new.self.chosen).oplocks = ap (λ (s : OplockState). length s.oplocks) c.break_oplocks.ensures.oplocks in
    let before : length c.choose_marked.new.self.rows ≡ length c.self.inside.list.rows
    = ap (λ (held : OplocksView). length held.rows) c.choose_marked.ensures.chosen ∙ ap (λ (held : OplocksView). length held.rows) c.number_from.ensures in
    let places = c.self.invariant.0 in
    let same = c.clear.ensures.capacity in
    rw (c.await_breaks.ensures.waited, c.clear.ensures.items) (omega arith, marks-none _)

pub returns-clause-room : goal.returns-clause-room
returns-clause-room c =
    let few = breaks-few c.args.class (state_of c.choose_marked.new.self) c.choose_marked.new.self.chosen in
    let after : length c.break_oplocks.new.oplocks.rows ≡ length (after_breaks c.args.class (state_of c.choose_marked.new.self) c.choose_marked.new.self.chosen).oplocks = ap (λ (s : OplockState). length s.oplocks) c.break_oplocks.ensures.oplocks in
    let before : length c.choose_marked.new.self.rows ≡ length c.self.inside.list.rows
    = ap (λ (held : OplocksView). length held.rows) c.choose_marked.ensures.chosen ∙ ap (λ (held : OplocksView). length held.rows) c.number_from.ensures in
    let list : room_in c.break_oplocks.new.oplocks.rooms 0 ≡ room_in c.self.inside.list.rooms 0
    = ap (λ (held : OplocksView). room_in held.rooms 0) c.break_oplocks.ensures.others ∙ ap (λ (held : OplocksView). room_in held.rooms 0) c.choose_marked.ensures.chosen ∙ ap (λ (held : OplocksView). room_in held.rooms 0) c.number_from.ensures in
    let same = c.clear.ensures.capacity in
    rw (← c.self.view_is, c.await_breaks.ensures.waited)
    (room-kept (room_in c.self.inside.list.rooms 0) (room_in c.break_oplocks.new.oplocks.rooms 0) (vec_capacity c.self.inside.marked) (vec_capacity c.clear.new.self)
    (length c.self.inside.list.rows) (length c.break_oplocks.new.oplocks.rows) (omega arith) (omega arith) (omega arith))
