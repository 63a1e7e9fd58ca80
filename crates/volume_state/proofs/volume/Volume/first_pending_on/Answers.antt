use Rattle.std.proofs.Common.{ℕ, ◌≡◌, false}
use Rattle.std.specs.List.{list_any}
use Rattle.std.specs.Prelude.{◌&&◌, nat_lt}
use Rattle.std.proofs.lemmas.Bool.{and_parts, not-true}
use Rattle.fsa_model.specs.Volume.{Pending}
use Rattle.volume_breaks.specs.CallIndex.{is_first_naming, is_naming}
use Rattle.volume_state.proofs.HandleLaws.{no-least}
use Rattle.volume_state.proofs.PendingLaws.{entry-passes, entry-there, entry-unfound}
use Rattle.volume_state.proofs.volume.Volume.first_pending_on.Goals as goal

pub returns-clause-there : goal.returns-clause-there
returns-clause-there c =
    let rows = c.self.inside.pending.items in
    rw (← c.self.view_is, c.first_naming.ensures)
    (entry-there (is_first_naming rows c.args.client c.args.handle) (λ entry. is_naming c.args.client c.args.handle entry.1) rows (λ entry passes. (and_parts _ _ passes).0))

pub returns-clause-least : goal.returns-clause-least
returns-clause-least c =
    let rows = c.self.inside.pending.items in
    rw (← c.self.view_is, c.first_naming.ensures)
    (entry-passes (is_first_naming rows c.args.client c.args.handle) rows (λ turn. list_any (λ entry. is_naming c.args.client c.args.handle entry.1 && nat_lt entry.0 turn) rows ≡ false)
    (λ entry passes. not-true _ (and_parts _ _ passes).1))

pub returns-clause-none : goal.returns-clause-none
returns-clause-none c =
    let rows = c.self.inside.pending.items in
    rw (← c.self.view_is, c.first_naming.ensures)
    (entry-unfound (is_first_naming rows c.args.client c.args.handle) rows _ (λ none. no-least (λ (entry : ℕ × Pending). is_naming c.args.client c.args.handle entry.1) (λ entry. entry.0) rows none))
