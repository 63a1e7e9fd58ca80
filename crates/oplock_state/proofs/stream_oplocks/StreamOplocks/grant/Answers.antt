use Rattle.std.proofs.Common.{◌≡◌, true, ◌++◌, ◌∷◌, [], length, refl, ap, arith}
use Rattle.std.specs.Vec.{vec_capacity}
use Rattle.std.proofs.Common.{length-append}
use Rattle.fsa_types.specs.OplockGrants.{after_switches, switched_among}
use Rattle.fsa_types.specs.Oplocks.{Oplock}
use Rattle.volume_breaks.proofs.GrantLemmas.{none-left}
use Rattle.volume_breaks.specs.Oplocks.{OplocksView}
use Rattle.volume_tables.specs.Rooms.{room_in}
use Rattle.oplock_state.proofs.OplockCounts.{marks-none, room-there, room-used, switches-few}
use Rattle.oplock_state.proofs.stream_oplocks.StreamOplocks.grant.Goals as goal

pub grant-requires-clause-new : goal.grant-requires-clause-new
grant-requires-clause-new c = rw (c.drop_chosen.ensures, c.choose_of_key.ensures) (none-left (λ _. true) c.args.handle c.args.key c.self.inside.list.rows (λ o is. refl))

pub invariant_of-self : goal.invariant_of-self
invariant_of-self c =
    let few = switches-few c.self.inside.list.rows (switched_among (λ _. true) c.args.handle c.args.key c.self.inside.list.rows) in
    let marked = room-there (room_in c.self.inside.list.rooms 0) (vec_capacity c.self.inside.marked) (length c.self.inside.list.rows) (rw (← c.self.view_is) at c.requires.room) in
    let same = c.clear.ensures.capacity in
    rw (c.grant.ensures.rows, c.drop_chosen.ensures, c.choose_of_key.ensures, c.clear.ensures.items) (omega (arith, length-append {A = Oplock}), marks-none _)

pub returns-clause-left : goal.returns-clause-left
returns-clause-left c =
    let few = switches-few c.self.inside.list.rows (switched_among (λ _. true) c.args.handle c.args.key c.self.inside.list.rows) in
    let rows : c.grant.new.self.rows ≡ after_switches c.self.inside.list.rows (switched_among (λ _. true) c.args.handle c.args.key c.self.inside.list.rows) ++ _ ∷ []
    = rw (c.drop_chosen.ensures, c.choose_of_key.ensures) at (ap (λ (held : OplocksView). held.rows) c.grant.ensures.rows) in
    let same = c.clear.ensures.capacity in
    let left = rw (c.drop_chosen.ensures, c.choose_of_key.ensures) at c.grant.ensures.left in
    let long = ap length rows in
    rw (← c.self.view_is)
    (room-used (room_in c.self.inside.list.rooms 0) (room_in c.grant.new.self.rooms 0) (vec_capacity c.self.inside.marked) (vec_capacity c.clear.new.self)
    (length c.self.inside.list.rows) (length c.grant.new.self.rows) left (omega arith) (omega (arith, length-append {A = Oplock})))
