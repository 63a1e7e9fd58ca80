use Rattle.std.proofs.Common.{◌≡◌, ◌≤◌, ◌==◌, ◌∙◌, ℕ, List, ap, arith, false, refl, subst, sym, true}
use Rattle.std.specs.Prelude.{option_map}
use Rattle.fsa_types.specs.OplockGrants.{after_grant, is_refused_among}
use Rattle.fsa_types.specs.Oplocks.{Oplock}
use Rattle.oplock_state.specs.Homes.{home_of_stream, rooms_of_streams}
use Rattle.oplock_state.specs.Tables.{AreSorted, IsStep, is_oplock_of_stream, last_at, rows_at}
use Rattle.oplock_state.proofs.HomeLemmas.{room-of_stream}
use Rattle.oplock_state.proofs.SortLemmas.{fit-step, homes-differ, rows-on, sorted-grant}
use Rattle.volume_breaks.proofs.GrantLemmas.{refused-on}
use Rattle.volume_tables.specs.Rooms.{room_in}
use Rattle.oplock_state.proofs.oplock_table.OplockTable.grant.Goals as goal

pub home_of_stream-home-requires : goal.home_of_stream-home-requires
home_of_stream-home-requires c = record { fits = c.requires.fit c.args.asked.now.handle (home_of_stream c.args.stream) (ap (option_map home_of_stream) c.requires.home) }

pub grant-requires : goal.grant-requires
grant-requires c =
    let i = c.self.inside in
    let some : 1 ≤ room_in (rooms_of_streams i.list.rooms) c.args.stream = rw (← c.self.view_is) at c.requires.room in
    let same : room_in (rooms_of_streams i.list.rooms) c.args.stream ≡ room_in i.list.rooms c.home_of_stream-home.result
    = room-of_stream i.list.rooms c.args.stream ∙ ap (room_in i.list.rooms) (sym c.home_of_stream-home.ensures) in
    let fit = c.self.invariant.room c.home_of_stream-home.result in
    omega arith

pub grant_in_list-requires-clause-room : goal.grant_in_list-requires-clause-room
grant_in_list-requires-clause-room c =
    let i = c.self.inside in
    let some : 1 ≤ room_in (rooms_of_streams i.list.rooms) c.args.stream = rw (← c.self.view_is) at c.requires.room in
    let same : room_in (rooms_of_streams i.list.rooms) c.args.stream ≡ room_in i.list.rooms c.home_of_stream-home.result
    = room-of_stream i.list.rooms c.args.stream ∙ ap (room_in i.list.rooms) (sym c.home_of_stream-home.ensures) in
    omega arith

pub invariant_of-self : goal.invariant_of-self
invariant_of-self c = fit-step c.self.inside.list.rooms c.self.inside.list.last c.self.inside.tables c.grant.new.self c.home_of_stream-home.result _ c.in-Refused.ensures.step c.self.invariant

pub returns-in-Refused-clause-grants : goal.returns-in-Refused-clause-grants
returns-in-Refused-clause-grants c =
    let i = c.self.inside in
    let handles = c.args.tree.now.handles in
    let asked = c.args.asked.now in
    let sorted : AreSorted handles i.list.rows i.tables = rw (← c.self.view_is) at c.requires.sorted in
    let same = ap (is_refused_among (λ _. true) asked.handle asked.key asked.level asked.others asked.locked) (ap (rows_at i.tables) c.home_of_stream-home.ensures ∙ rows-on handles i.list.rows i.tables c.args.stream sorted)
    ∙ refused-on (is_oplock_of_stream handles c.args.stream) asked.handle asked.key asked.level asked.others asked.locked i.list.rows in
    rw (← c.self.view_is) (sym same ∙ c.in-Refused.ensures.grants.0, refl)

pub returns-in-Granted-clause-grants : goal.returns-in-Granted-clause-grants
returns-in-Granted-clause-grants c =
    let i = c.self.inside in
    let handles = c.args.tree.now.handles in
    let asked = c.args.asked.now in
    let sorted : AreSorted handles i.list.rows i.tables = rw (← c.self.view_is) at c.requires.sorted in
    let same = ap (is_refused_among (λ _. true) asked.handle asked.key asked.level asked.others asked.locked) (ap (rows_at i.tables) c.home_of_stream-home.ensures ∙ rows-on handles i.list.rows i.tables c.args.stream sorted)
    ∙ refused-on (is_oplock_of_stream handles c.args.stream) asked.handle asked.key asked.level asked.others asked.locked i.list.rows in
    rw (← c.self.view_is) (sym same ∙ c.in-Granted.ensures.grants.0, c.grant_in_list.ensures.rows, c.grant_in_list.ensures.chosen)

pub returns-in-Granted-clause-left : goal.returns-in-Granted-clause-left
returns-in-Granted-clause-left c = rw (← c.self.view_is)
    (let old : List (ℕ × ℕ) = c.self.inside.list.rooms in
    let new : List (ℕ × ℕ) = c.grant_in_list.new.list.rooms in
    let before : room_in (rooms_of_streams old) c.args.stream ≡ room_in old c.home_of_stream-home.result = room-of_stream old c.args.stream ∙ ap (room_in old) (sym c.home_of_stream-home.ensures) in
    let after : room_in (rooms_of_streams new) c.args.stream ≡ room_in new c.home_of_stream-home.result = room-of_stream new c.args.stream ∙ ap (room_in new) (sym c.home_of_stream-home.ensures) in
    let left = c.grant_in_list.ensures.left in
    omega arith)

pub returns-in-Granted-clause-others : goal.returns-in-Granted-clause-others
returns-in-Granted-clause-others c = rw (← c.self.view_is) (λ other differ.
    (let apart : (home_of_stream other == c.home_of_stream-home.result) ≡ false
    = ap (λ (home : ℕ). home_of_stream other == home) c.home_of_stream-home.ensures ∙ homes-differ other c.args.stream ∙ differ in
    room-of_stream c.grant_in_list.new.list.rooms other ∙ c.grant_in_list.ensures.others (home_of_stream other) apart ∙ sym (room-of_stream c.self.inside.list.rooms other)))

pub returns-in-Granted-clause-sorted : goal.returns-in-Granted-clause-sorted
returns-in-Granted-clause-sorted c =
    let i = c.self.inside in
    let handles = c.args.tree.now.handles in
    let asked = c.args.asked.now in
    let home : ℕ = c.home_of_stream-home.result in
    let new = c.grant.new.self in
    let sorted : AreSorted handles i.list.rows i.tables = rw (← c.self.view_is) at c.requires.sorted in
    let at_home = subst (λ (rows : List Oplock). IsStep i.tables new home rows (last_at i.tables home) 1) c.in-Granted.ensures.grants.1 c.in-Granted.ensures.step in
    let step = subst (λ (h : ℕ). IsStep i.tables new h (after_grant (λ _. true) asked.handle asked.key asked.level asked.turn (rows_at i.tables h)) (last_at i.tables h) 1) c.home_of_stream-home.ensures at_home in
    rw c.grant_in_list.ensures.rows
    (sorted-grant handles i.list.rows i.tables new asked.handle asked.key c.args.stream asked.level asked.turn (last_at i.tables (home_of_stream c.args.stream)) 1 c.requires.home sorted step)
