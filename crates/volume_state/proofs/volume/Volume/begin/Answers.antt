use Rattle.std.proofs.Common.{◌≡◌, ℕ, ◌∙◌, List, length, sym, ap, subst, arith}
use Rattle.fsa_types.proofs.OplockLemmas.{chosen-are}
use Rattle.fsa_types.specs.OplockLists.{awaited_among}
use Rattle.fsa_model.specs.Breaks.{with_breaks, is_broken_before, is_chosen, chosen, awaited}
use Rattle.fsa_model.specs.Sound.{IsSound}
use Rattle.fsa_model.specs.Volume.{Oplock, Volume}
use Rattle.fsa_model.proofs.BreakLaws.{IsSound-with_breaks, chosen-few, with_breaks-few, with_breaks-numbers}
use Rattle.volume_breaks.specs.Breaks.{with_held}
use Rattle.volume_state.specs.Held.{is_there}
use Rattle.volume_state.specs.Content.{content_of}
use Rattle.volume_state.specs.Watches.{AreWatched}
use Rattle.oplock_state.specs.Tables.{Tabled}
use Rattle.oplock_state.proofs.SortLemmas.{chosen-there}
use Rattle.volume_state.specs.VolumeView.{VolumeView}
use Rattle.volume_state.proofs.ThereLaws.{held-with_breaks}
use Rattle.volume_state.proofs.SortedLaws.{homes-fit}
use Rattle.volume_state.proofs.WatchedLaws.{fewer-breaks, watched-fewer}
use Rattle.volume_state.proofs.volume.Volume.begin.Goals as goal

pub break_chosen-requires-clause-room : goal.break_chosen-requires-clause-room
break_chosen-requires-clause-room c = rw (c.choose.ensures, c.table.ensures) (rw (← c.self.view_is) at c.requires.room)

pub break_chosen-requires-clause-numbers : goal.break_chosen-requires-clause-numbers
break_chosen-requires-clause-numbers c =
    let few = chosen-few (content_of c.self.inside) c.args.handles c.args.handle c.args.key in
    let numbers = rw (← c.self.view_is) at c.requires.numbers in
    rw (c.choose.ensures, c.table.ensures) (omega arith)

pub break_chosen-requires-clause-sound : goal.break_chosen-requires-clause-sound
break_chosen-requires-clause-sound c =
    let v : Volume = content_of c.self.inside in
    let are = chosen-are (is_broken_before v) (is_chosen v c.args.handles c.args.handle c.args.key) v.oplocks v.last_break c.self.invariant.0.oplocks in
    rw (c.choose.ensures, c.table.ensures) are.0

pub break_chosen-requires-clause-copies : goal.break_chosen-requires-clause-copies
break_chosen-requires-clause-copies c =
    let v : Volume = content_of c.self.inside in
    let are = chosen-are (is_broken_before v) (is_chosen v c.args.handles c.args.handle c.args.key) v.oplocks v.last_break c.self.invariant.0.oplocks in
    rw (c.choose.ensures, c.table.ensures) are.1

pub break_chosen-requires-clause-there : goal.break_chosen-requires-clause-there
break_chosen-requires-clause-there c =
    let v : Volume = content_of c.self.inside in
    rw (c.choose.ensures, c.table.ensures) (chosen-there (is_broken_before v) (is_chosen v c.args.handles c.args.handle c.args.key) v.oplocks c.self.invariant.0.oplocks.handles_differ)

pub break_chosen-requires-clause-sorted : goal.break_chosen-requires-clause-sorted
break_chosen-requires-clause-sorted c = rw c.choose.ensures c.self.invariant.3

pub invariant_of-self : goal.invariant_of-self
invariant_of-self c =
    let v : Volume = content_of c.self.inside in
    let broken : with_held v c.break_chosen.new.oplocks.rows c.break_chosen.new.oplocks.last c.break_chosen.new.pending.items c.break_chosen.new.ended.items
    ≡ with_breaks v c.args.handles c.args.class c.args.handle c.args.key = rw (c.choose.ensures, c.table.ensures) at (c.break_chosen.ensures.done v) in
    let numbers = rw (← c.self.view_is) at c.requires.numbers in
    let after : c.break_chosen.new.oplocks.rows ≡ (with_breaks v c.args.handles c.args.class c.args.handle c.args.key).oplocks = ap (λ (w : Volume). w.oplocks) broken in (
      rw c.await_breaks.ensures.waited (subst IsSound (sym broken) (IsSound-with_breaks v c.args.handles c.args.class c.args.handle c.args.key (omega arith) c.self.invariant.0)),
      rw (c.await_breaks.ensures.waited, after) (
          c.break_chosen.ensures.held (is_there (with_breaks v c.args.handles c.args.class c.args.handle c.args.key).oplocks v.locks)
          (held-with_breaks v c.args.handles c.args.class c.args.handle c.args.key c.self.inside.pending c.self.invariant.0.oplocks c.self.invariant.0.blockers_given c.self.invariant.1)),
      c.self.invariant.2,
      rw c.await_breaks.ensures.waited c.break_chosen.ensures.sorted,
      subst (λ (w : Volume). AreWatched v.handles v.links v.changes w.pending c.self.inside.watches.items) (sym broken)
          (watched-fewer v.handles v.links v.changes v.pending (with_breaks v c.args.handles c.args.class c.args.handle c.args.key).pending c.self.inside.watches.items (fewer-breaks v c.args.handles c.args.class c.args.handle c.args.key) c.self.invariant.4),
      c.self.invariant.5,
    )

pub returns-clause-content : goal.returns-clause-content
returns-clause-content c =
    rw (← c.self.view_is, c.await_breaks.ensures.waited) (rw (c.choose.ensures, c.table.ensures) at (c.break_chosen.ensures.done (content_of c.self.inside)))

pub returns-clause-few : goal.returns-clause-few
returns-clause-few c =
    let v : Volume = content_of c.self.inside in
    let broken : with_held v c.break_chosen.new.oplocks.rows c.break_chosen.new.oplocks.last c.break_chosen.new.pending.items c.break_chosen.new.ended.items
    ≡ with_breaks v c.args.handles c.args.class c.args.handle c.args.key = rw (c.choose.ensures, c.table.ensures) at (c.break_chosen.ensures.done v) in
    let few = with_breaks-few v c.args.handles c.args.class c.args.handle c.args.key in
    let count = ap (λ (w : Volume). length w.oplocks) broken in
    rw (← c.self.view_is, c.await_breaks.ensures.waited) (omega arith)

pub returns-clause-numbers_left : goal.returns-clause-numbers_left
returns-clause-numbers_left c =
    let v : Volume = content_of c.self.inside in
    let broken : with_held v c.break_chosen.new.oplocks.rows c.break_chosen.new.oplocks.last c.break_chosen.new.pending.items c.break_chosen.new.ended.items
    ≡ with_breaks v c.args.handles c.args.class c.args.handle c.args.key = rw (c.choose.ensures, c.table.ensures) at (c.break_chosen.ensures.done v) in
    let numbers = with_breaks-numbers v c.args.handles c.args.class c.args.handle c.args.key in
    let last = ap (λ (w : Volume). w.last_break) broken in
    rw (← c.self.view_is, c.await_breaks.ensures.waited) (omega arith)

pub returns-clause-waited : goal.returns-clause-waited
returns-clause-waited c =
    let v : Volume = content_of c.self.inside in
    let broken : with_held v c.break_chosen.new.oplocks.rows c.break_chosen.new.oplocks.last c.break_chosen.new.pending.items c.break_chosen.new.ended.items
    ≡ with_breaks v c.args.handles c.args.class c.args.handle c.args.key = rw (c.choose.ensures, c.table.ensures) at (c.break_chosen.ensures.done v) in
    let picked : c.break_chosen.new.oplocks.chosen ≡ chosen v c.args.handles c.args.handle c.args.key
    = ap (λ (held : Tabled). held.chosen) c.break_chosen.ensures.others ∙ ap (λ (held : Tabled). held.chosen) (rw c.table.ensures at c.choose.ensures) in
    let waited : c.await_breaks.new.self.waited ≡ awaited v c.args.handles c.args.class c.args.handle c.args.key
    = ap (λ (held : Tabled). held.waited) c.await_breaks.ensures.waited
    ∙ ap (λ (w : Volume). awaited_among c.args.class c.break_chosen.new.oplocks.chosen w.oplocks) broken
    ∙ ap (λ (oplocks : List Oplock). awaited_among c.args.class oplocks (with_breaks v c.args.handles c.args.class c.args.handle c.args.key).oplocks) picked in
    rw (← c.self.view_is, waited)

pub returns-clause-others : goal.returns-clause-others
returns-clause-others c =
    let rooms : c.await_breaks.new.self.rooms ≡ c.self.inside.oplocks.rooms
    = ap (λ (held : Tabled). held.rooms) c.await_breaks.ensures.waited ∙ ap (λ (held : Tabled). held.rooms) c.break_chosen.ensures.others ∙ ap (λ (held : Tabled). held.rooms) c.choose.ensures in
    rw (← c.self.view_is, rooms, c.break_chosen.ensures.room.0, c.break_chosen.ensures.room.1)

pub returns-clause-left : goal.returns-clause-left
returns-clause-left c = rw (← c.self.view_is) (rw (c.choose.ensures, c.table.ensures) at c.break_chosen.ensures.left)

pub returns-clause-count : goal.returns-clause-count
returns-clause-count c =
    let v : Volume = content_of c.self.inside in
    let broken : with_held v c.break_chosen.new.oplocks.rows c.break_chosen.new.oplocks.last c.break_chosen.new.pending.items c.break_chosen.new.ended.items
    ≡ with_breaks v c.args.handles c.args.class c.args.handle c.args.key = rw (c.choose.ensures, c.table.ensures) at (c.break_chosen.ensures.done v) in
    let picked : c.break_chosen.new.oplocks.chosen ≡ chosen v c.args.handles c.args.handle c.args.key
    = ap (λ (held : Tabled). held.chosen) c.break_chosen.ensures.others ∙ ap (λ (held : Tabled). held.chosen) (rw c.table.ensures at c.choose.ensures) in
    let waited : c.await_breaks.new.self.waited ≡ awaited v c.args.handles c.args.class c.args.handle c.args.key
    = ap (λ (held : Tabled). held.waited) c.await_breaks.ensures.waited
    ∙ ap (λ (w : Volume). awaited_among c.args.class c.break_chosen.new.oplocks.chosen w.oplocks) broken
    ∙ ap (λ (oplocks : List Oplock). awaited_among c.args.class oplocks (with_breaks v c.args.handles c.args.class c.args.handle c.args.key).oplocks) picked in
    c.await_breaks.ensures.count ∙ ap (λ (numbers : List ℕ). length numbers) waited ∙ ap (λ (seen : VolumeView). length (awaited seen.content c.args.handles c.args.class c.args.handle c.args.key)) c.self.view_is

pub break_chosen-requires-clause-fit : goal.break_chosen-requires-clause-fit
break_chosen-requires-clause-fit c = homes-fit (content_of c.self.inside) c.self.invariant.0
