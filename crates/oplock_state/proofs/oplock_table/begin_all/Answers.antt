use Rattle.std.proofs.Common.{ℕ, ◌+◌, ◌<◌, List, length, sym, subst, arith}
use Rattle.fsa_types.specs.OplockLists.{effect_on, left_by_effect}
use Rattle.fsa_types.specs.Oplocks.{Oplock}
use Rattle.volume_breaks.specs.Oplocks.{state_of}
use Rattle.oplock_state.specs.Homes.{home_of_handle}
use Rattle.oplock_state.specs.Tables.{rows_at}
use Rattle.oplock_state.proofs.BeginLemmas.{AreBegun, begun-all, begun-more, last-few, next-at, next-home, steps-room}
use Rattle.oplock_state.proofs.oplock_table.begin_all.Goals as goal

pub begin_in_table-last-requires-clause-home : goal.begin_in_table-last-requires-clause-home
begin_in_table-last-requires-clause-home c =
    let chosen : List Oplock = c.args.list.now.chosen in
    let count = c.chosen_len-place-end.ensures in
    let within : c.loop-place.place < length chosen = omega arith in
    next-home c.args.handles.now.rows c.args.class (state_of c.args.list.now) chosen c.loop-place.place c.loop-place.tables c.loop-place.last c.chosen_at.result c.loop-place.invariant.begun within c.chosen_at.ensures

pub begin_in_table-last-requires-clause-there : goal.begin_in_table-last-requires-clause-there
begin_in_table-last-requires-clause-there c =
    let chosen : List Oplock = c.args.list.now.chosen in
    let count = c.chosen_len-place-end.ensures in
    let within : c.loop-place.place < length chosen = omega arith in
    next-at c.args.handles.now.rows c.args.class (state_of c.args.list.now) chosen c.loop-place.place c.loop-place.tables c.loop-place.last c.chosen_at.result c.loop-place.invariant.begun within c.chosen_at.ensures

pub loop-place-preserved : goal.loop-place-preserved
loop-place-preserved c =
    let chosen : List Oplock = c.args.list.now.chosen in
    let count = c.chosen_len-place-end.ensures in
    let within : c.loop-place.place < length chosen = omega arith in
    let oplock : Oplock = c.chosen_at.result in
    let new = c.begin_in_table-last.new.tables in
    let number = c.begin_in_table-last.ensures.number in
    let home = next-home c.args.handles.now.rows c.args.class (state_of c.args.list.now) chosen c.loop-place.place c.loop-place.tables c.loop-place.last oplock c.loop-place.invariant.begun within c.chosen_at.ensures in
    record {
      begun = subst (λ (n : ℕ). AreBegun c.args.handles.now.rows c.args.class (state_of c.args.list.now) chosen (c.loop-place.place + 1) new n) (sym number)
          (begun-more c.args.handles.now.rows c.args.class (state_of c.args.list.now) chosen c.loop-place.place c.loop-place.tables new c.loop-place.last oplock c.loop-place.invariant.begun within c.chosen_at.ensures c.requires.there.differ c.begin_in_table-last.ensures.step);
      room = λ key.
          (let before = c.loop-place.invariant.room key in
          let more = steps-room (home_of_handle c.args.handles.now.rows oplock.handle) c.loop-place.tables new
          (λ home. left_by_effect (effect_on c.args.class oplock) oplock.handle (c.loop-place.last + 1) (rows_at c.loop-place.tables home)) _ home c.begin_in_table-last.ensures.step key in
          omega arith);
      numbers = (let few = last-few (effect_on c.args.class oplock) c.loop-place.last in let before = c.loop-place.invariant.numbers in omega arith);
    }

pub returns-clause-sorted : goal.returns-clause-sorted
returns-clause-sorted c =
    let count = c.chosen_len-place-end.ensures in
    (begun-all c.args.handles.now.rows c.args.class (state_of c.args.list.now) c.args.list.now.chosen c.loop-place.place c.loop-place.tables c.loop-place.last c.loop-place.invariant.begun (omega arith)).0

pub returns-clause-lasts : goal.returns-clause-lasts
returns-clause-lasts c =
    let count = c.chosen_len-place-end.ensures in
    (begun-all c.args.handles.now.rows c.args.class (state_of c.args.list.now) c.args.list.now.chosen c.loop-place.place c.loop-place.tables c.loop-place.last c.loop-place.invariant.begun (omega arith)).1
