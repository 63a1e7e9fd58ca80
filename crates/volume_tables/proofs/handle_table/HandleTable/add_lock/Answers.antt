use Rattle.std.proofs.Common.{sym, ◌∙◌, ◌≡◌, arith, false, true, ◌+◌}
use Rattle.volume_tables.proofs.RoomLemmas.{room_in-all}
use Rattle.volume_tables.proofs.LockLemmas.{AreTabled-lock, HaveRoom-taken}
use Rattle.volume_tables.proofs.handle_table.HandleTable.add_lock.Goals as goal

pub unreachable-requires : goal.unreachable-requires
unreachable-requires c =
    let impossible : false ≡ true = rw (← c.self.view_is, sym c.stream_of.ensures ∙ c.in_default.is) at c.requires.stream in
    cc

pub unreachable-requires-in_default-add : goal.unreachable-requires-in_default-add
unreachable-requires-in_default-add c =
    let room = rw (← c.self.view_is) at c.requires.room in
    let some = room c.in-Some.stream (sym c.stream_of.ensures ∙ c.in-Some.is) in
    let held = c.self.invariant.1.of_all in
    let own = room_in-all c.self.inside.rooms c.in-Some.stream in
    let impossible : false ≡ true = c.in_default-add.ensures.succeeds (omega arith) in
    cc

pub insert-requires : goal.insert-requires
insert-requires c =
    let room = rw (← c.self.view_is) at c.requires.room in
    let some = room c.in-Some.stream (sym c.stream_of.ensures ∙ c.in-Some.is) in
    let held = c.self.invariant.1.of_each c.in-Some.stream in
    omega arith

pub take_one-requires : goal.take_one-requires
take_one-requires c =
    let room = rw (← c.self.view_is) at c.requires.room in
    room c.in-Some.stream (sym c.stream_of.ensures ∙ c.in-Some.is)

pub invariant_of-self : goal.invariant_of-self
invariant_of-self c =
    let i = c.self.inside in
    let new = c.insert.new.self in
    let own = sym c.stream_of.ensures ∙ c.in-Some.is in
    let id : c.in-Ok.id ≡ i.locks.last + 1 = c.in-Ok.ensures.id in (
      rw (c.in-Ok.ensures.rows, ← id) (
          AreTabled-lock i.table.rows i.locks.rows i.ranges new c.in-Some.stream
          (c.in-Ok.id, record { handle = c.args.handle; at = c.args.at; count = c.args.count; exclusive = c.args.exclusive }) c.self.invariant.0 own c.insert.ensures.ranges),
      HaveRoom-taken i.rooms c.take_one.new.self i.ranges new i.locks.room c.add.new.self.room c.in-Some.stream c.self.invariant.1 c.take_one.ensures c.insert.ensures.left
          c.insert.ensures.others c.add.ensures.left,
      c.self.invariant.2,
      c.self.invariant.3,
      c.self.invariant.4,
      c.self.invariant.5,
    )
