use Rattle.std.proofs.Common.{◌≡◌, refl, ◌∙◌, List, Some, sym, ap, subst}
use Rattle.std.specs.Prelude.{fold}
use Rattle.fsa_types.specs.OplockGrants.{after_grant}
use Rattle.fsa_model.specs.Grant.{is_oplock_on, with_granted}
use Rattle.fsa_model.specs.Sound.{IsSound}
use Rattle.fsa_model.specs.Volume.{Oplock, Volume}
use Rattle.oplock_state.specs.Tables.{GrantsTabled, is_oplock_of_stream}
use Rattle.oplock_state.specs.declared.stream_oplocks.Grant.TheVariants as grant
use Rattle.oplock_state.specs.declared.stream_tables.AskedOplock.{AskedOplock}
use Rattle.volume_breaks.specs.Breaks.{with_calls, with_switch_told}
use Rattle.volume_state.specs.Held.{is_there}
use Rattle.volume_state.specs.Content.{content_of}
use Rattle.volume_state.specs.Watches.{AreWatched}
use Rattle.volume_state.specs.Room.{stream_of_handle}
use Rattle.volume_state.proofs.GrantLaws.{IsSound-with_granted, granted-content, held-granted, none-breaking}
use Rattle.volume_state.proofs.SortedLaws.{homes-fit}
use Rattle.volume_state.proofs.WatchedLaws.{fewer-granted, watched-fewer}
use Rattle.volume_state.proofs.volume.Volume.grant_to.Goals as goal

pub grant-requires-clause-home : goal.grant-requires-clause-home
grant-requires-clause-home c = rw c.asked-asked.ensures (rw (← c.self.view_is) at c.requires.stream)

pub grant-requires-clause-sorted : goal.grant-requires-clause-sorted
grant-requires-clause-sorted c = c.self.invariant.3

pub end_switched-requires : goal.end_switched-requires
end_switched-requires c =
    let v : Volume = content_of c.self.inside in
    let grants = subst (λ (asked : AskedOplock). GrantsTabled (is_oplock_of_stream v.handles c.args.opened.stream) asked c.self.inside.oplocks c.grant.new.self grant.Granted) (rw (← c.self.view_is) at c.asked-asked.ensures) c.in-Granted.ensures.grants in
    record { room = rw (c.chosen.ensures, grants.2) (rw (← c.self.view_is) at c.requires.ends) }

pub invariant_of-self : goal.invariant_of-self
invariant_of-self c =
    let v : Volume = content_of c.self.inside in
    let grants = subst (λ (asked : AskedOplock). GrantsTabled (is_oplock_of_stream v.handles c.args.opened.stream) asked c.self.inside.oplocks c.grant.new.self grant.Refused) (rw (← c.self.view_is) at c.asked-asked.ensures) c.in-Refused.ensures.grants in (
      rw grants.1 c.self.invariant.0,
      rw grants.1 c.self.invariant.1,
      c.self.invariant.2,
      c.grant.ensures.sorted,
      c.self.invariant.4,
      c.self.invariant.5,
    )

pub returns-in-Refused-clause-grants : goal.returns-in-Refused-clause-grants
returns-in-Refused-clause-grants c =
    let v : Volume = content_of c.self.inside in
    let grants = subst (λ (asked : AskedOplock). GrantsTabled (is_oplock_of_stream v.handles c.args.opened.stream) asked c.self.inside.oplocks c.grant.new.self grant.Refused) (rw (← c.self.view_is) at c.asked-asked.ensures) c.in-Refused.ensures.grants in
    rw (← c.self.view_is) (grants.0, rw grants.1 refl)

pub invariant_of-self-in-Granted : goal.invariant_of-self-in-Granted
invariant_of-self-in-Granted c =
    let v : Volume = content_of c.self.inside in
    let opened = c.args.opened in
    let found : stream_of_handle v opened.handle ≡ Some opened.stream = rw (← c.self.view_is) at c.requires.stream in
    let grants = subst (λ (asked : AskedOplock). GrantsTabled (is_oplock_of_stream v.handles opened.stream) asked c.self.inside.oplocks c.grant.new.self grant.Granted) (rw (← c.self.view_is) at c.asked-asked.ensures) c.in-Granted.ensures.grants in
    let granted = granted-content v opened.handle opened.key opened.stream c.args.level c.args.turn c.end_switched.new.pending.items c.end_switched.new.ended.items
    (λ w. c.end_switched.ensures.done w ∙ ap (λ (all : List Oplock). fold with_switch_told (with_calls w v.pending v.ended) all) (c.chosen.ensures ∙ grants.2)) in
    let after : after_grant (is_oplock_on v opened.stream) opened.handle opened.key c.args.level c.args.turn v.oplocks ≡ (with_granted v opened.handle opened.key opened.stream c.args.level c.args.turn).oplocks
    = ap (λ (w : Volume). w.oplocks) granted in
    let sound = IsSound-with_granted v opened.handle opened.key opened.stream c.args.level c.args.turn c.self.invariant.0 found (rw (← c.self.view_is) at c.requires.key) in (
      rw (c.grant.ensures.rest, grants.1) (subst IsSound (sym granted) sound),
      rw (grants.1, after) (
          c.end_switched.ensures.held (is_there (with_granted v opened.handle opened.key opened.stream c.args.level c.args.turn).oplocks v.locks)
          (held-granted v opened.handle opened.key opened.stream c.args.level c.args.turn c.self.inside.pending
          (none-breaking v opened.handle opened.key opened.stream c.args.level grants.0) c.self.invariant.1)),
      c.self.invariant.2,
      c.grant.ensures.sorted,
      subst (λ (w : Volume). AreWatched v.handles v.links v.changes w.pending c.self.inside.watches.items) (sym granted)
          (watched-fewer v.handles v.links v.changes v.pending (with_granted v opened.handle opened.key opened.stream c.args.level c.args.turn).pending c.self.inside.watches.items (fewer-granted v opened.handle opened.key opened.stream c.args.level c.args.turn) c.self.invariant.4),
      c.self.invariant.5,
    )

pub returns-in-Granted-clause-grants : goal.returns-in-Granted-clause-grants
returns-in-Granted-clause-grants c =
    let v : Volume = content_of c.self.inside in
    let opened = c.args.opened in
    let grants = subst (λ (asked : AskedOplock). GrantsTabled (is_oplock_of_stream v.handles opened.stream) asked c.self.inside.oplocks c.grant.new.self grant.Granted) (rw (← c.self.view_is) at c.asked-asked.ensures) c.in-Granted.ensures.grants in
    let granted = granted-content v opened.handle opened.key opened.stream c.args.level c.args.turn c.end_switched.new.pending.items c.end_switched.new.ended.items
    (λ w. c.end_switched.ensures.done w ∙ ap (λ (all : List Oplock). fold with_switch_told (with_calls w v.pending v.ended) all) (c.chosen.ensures ∙ grants.2)) in
    rw (← c.self.view_is) (grants.0, rw (c.grant.ensures.rest, grants.1) granted)

pub grant-requires-clause-fit : goal.grant-requires-clause-fit
grant-requires-clause-fit c = homes-fit (content_of c.self.inside) c.self.invariant.0
