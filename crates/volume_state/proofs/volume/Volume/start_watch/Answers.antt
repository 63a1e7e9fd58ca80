use Rattle.std.proofs.Common.{◌∙◌, List, ap, length, refl}
use Rattle.std.specs.Prelude.{◌==◌}
use Rattle.fsa_model.proofs.SoundWaits.{IsSound-with_watch}
use Rattle.fsa_model.specs.Volume.{Change, Watch}
use Rattle.volume_state.specs.Content.{content_of}
use Rattle.volume_state.proofs.WatchLaws.{none-passes}
use Rattle.volume_state.proofs.WatchedLaws.{linked-found, watched-added, watches-added}
use Rattle.volume_state.proofs.KeptLaws.{kept-added}
use Rattle.volume_state.proofs.volume.Volume.start_watch.Goals as goal

pub new_row-row-requires : goal.new_row-row-requires
new_row-row-requires c = record {
  living = rw (← c.self.view_is) at c.requires.living;
  linked = linked-found c.self.inside.links.rows (content_of c.self.inside).streams c.self.inside.handles.rows c.args.handle c.self.invariant.0.opens.are_of_living;
}

pub invariant_of-self : goal.invariant_of-self
invariant_of-self c =
    let new = rw (← c.self.view_is) at c.requires.new in (
      rw (c.push.ensures.items, watches-added, c.new_row-row.ensures.watch)
          (IsSound-with_watch (content_of c.self.inside) c.args.handle c.args.filter c.args.tree _ c.self.invariant.0
          (rw (← c.self.view_is) at c.requires.living) (none-passes (λ watch. watch.handle == c.args.handle) (content_of c.self.inside).watches new)),
      c.self.invariant.1,
      c.self.invariant.2,
      c.self.invariant.3,
      rw c.push.ensures.items
          (watched-added c.self.inside.handles.rows c.self.inside.links.rows c.self.inside.changes.changes c.self.inside.pending.items c.self.inside.watches.items c.new_row-row.result
          c.new_row-row.ensures.of_handle (ap (λ (watch : Watch). watch.from) c.new_row-row.ensures.watch ∙ c.len-place.ensures ∙ ap (λ (changes : List Change). length changes) c.log.ensures.changes) c.new_row-row.ensures.asked c.self.invariant.4),
      rw c.push.ensures.items (kept-added c.self.inside.changes.base _ c.self.inside.watches.items c.new_row-row.result (ap (λ (watch : Watch). watch.from) c.new_row-row.ensures.watch ∙ c.len-place.ensures ∙ ap (λ (changes : List Change). length changes) c.log.ensures.changes) c.self.invariant.5),
    )

pub returns-clause-content : goal.returns-clause-content
returns-clause-content c = rw (← c.self.view_is, c.push.ensures.items, watches-added, c.new_row-row.ensures.watch, c.len-place.ensures, c.log.ensures.changes) refl
