use Rattle.std.proofs.Common.{◌≡◌, ◌∙◌, ap}
use Rattle.fsa_types.specs.Places.{IsAt}
use Rattle.stream_pages.proofs.ByteLaws.{row_of-here, byte_at-put, keeps-put}
use Rattle.stream_pages.proofs.pages.Pages.put_at.Goals as goal

pub returns-clause-bytes : goal.returns-clause-bytes
returns-clause-bytes c =
    let at : IsAt c.self.inside.pages.items c.args.number c.args.place = rw (← c.self.view_is) at c.requires.there in
    let number : c.index_mut-entry.result.now.0 ≡ c.args.number = ap (λ e. e.0) c.index_mut-entry.ensures.value ∙ at.here c.index_mut-entry.result.now in
    let row = row_of-here c.self.inside.pages.items c.args.number c.args.place c.self.invariant at c.index_mut-entry.result.now c.index_mut-entry.ensures.value in
    rw (number, c.put.ensures.bytes, ← c.self.view_is)
    (byte_at-put c.self.inside.pages.items c.args.number c.args.place c.self.invariant at c.index_mut-entry.result.now.1 c.args.piece.now c.args.at row c.put.ensures.len c.requires.within)

pub returns-clause-kept : goal.returns-clause-kept
returns-clause-kept c =
    let at : IsAt c.self.inside.pages.items c.args.number c.args.place = rw (← c.self.view_is) at c.requires.there in
    let number : c.index_mut-entry.result.now.0 ≡ c.args.number = ap (λ e. e.0) c.index_mut-entry.ensures.value ∙ at.here c.index_mut-entry.result.now in
    rw (number, ← c.self.view_is) (keeps-put c.self.inside.pages.items c.args.number c.args.place c.self.invariant at c.put.new.self)
