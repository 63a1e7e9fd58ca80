use Rattle.fsa_types.specs.Places.{StandsAt}
use Rattle.fsa_types.proofs.PlaceLemmas.{AreRising-inserted}
use Rattle.stream_pages.proofs.ByteLaws.{zero-byte, byte_at-inserted, keeps-inserted, there-insert}
use Rattle.stream_pages.proofs.pages.Pages.insert.Goals as goal
use Rattle.stream_pages.proofs.pages.Pages.insert.Goals.{in-Ok, in-Err}

pub invariant_of-self : goal.invariant_of-self
invariant_of-self c =
    let at : StandsAt c.self.inside.pages.items c.args.number c.args.place = rw (← c.self.view_is) at c.requires in
    rw c.insert.ensures.items (AreRising-inserted _ c.self.inside.pages.items c.args.number c.args.place c.in_ok-page.page c.self.invariant at)

pub returns-clause-bytes : goal.returns-clause-bytes
returns-clause-bytes c =
    let at : StandsAt c.self.inside.pages.items c.args.number c.args.place = rw (← c.self.view_is) at c.requires in
    rw (c.insert.ensures.items, ← c.self.view_is) (byte_at-inserted c.in_ok-page.page (λ k. rw c.in_ok-page.ensures (zero-byte 4096 k)) c.self.inside.pages.items c.args.number c.args.place at _)

pub returns-clause-there : goal.returns-clause-there
returns-clause-there c =
    let at : StandsAt c.self.inside.pages.items c.args.number c.args.place = rw (← c.self.view_is) at c.requires in
    elim c.match-insert.branch [
      | in-Ok w ↦ rw (w.result-is, c.insert.ensures.items, w.in-Ok.is) (there-insert c.in_ok-page.page (λ k. rw c.in_ok-page.ensures (zero-byte 4096 k)) c.self.inside.pages.items c.args.number c.args.place at)
      | in-Err w ↦ rw w.result-is tt
    ]

pub returns-clause-kept : goal.returns-clause-kept
returns-clause-kept c =
    let at : StandsAt c.self.inside.pages.items c.args.number c.args.place = rw (← c.self.view_is) at c.requires in
    rw (c.insert.ensures.items, ← c.self.view_is) (keeps-inserted c.in_ok-page.page (λ k. rw c.in_ok-page.ensures (zero-byte 4096 k)) c.self.inside.pages.items c.args.number c.args.place at _)
