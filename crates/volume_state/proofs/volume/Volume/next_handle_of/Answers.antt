use Rattle.std.proofs.Common.{ℕ, Bool}
use Rattle.std.specs.Prelude.{◌&&◌, not, nat_lt}
use Rattle.std.proofs.lemmas.Bool.{and_parts}
use Rattle.fsa_model.specs.Lookups.{is_after, has_row}
use Rattle.fsa_model.specs.Volume.{Handle}
use Rattle.volume_state.proofs.HandleLaws.{number-passes, number-unfound, no-least}
use Rattle.volume_state.proofs.OpenLaws.{number-lives}
use Rattle.volume_state.proofs.volume.Volume.next_handle_of.Goals as goal

pub returns-clause-lives : goal.returns-clause-lives
returns-clause-lives c =
    let rows = c.self.inside.handles.rows in
    let is_next : Handle → Bool = λ handle. is_after c.args.client c.args.after handle && not (has_row (λ other. is_after c.args.client c.args.after other && nat_lt other.number handle.number) rows) in
    rw (← c.self.view_is, c.next_of.ensures) (number-lives is_next rows)

pub returns-clause-after : goal.returns-clause-after
returns-clause-after c =
    let rows = c.self.inside.handles.rows in
    let is_next : Handle → Bool = λ handle. is_after c.args.client c.args.after handle && not (has_row (λ other. is_after c.args.client c.args.after other && nat_lt other.number handle.number) rows) in
    rw (← c.self.view_is, c.next_of.ensures)
    (number-passes is_next (is_after c.args.client c.args.after) rows c.self.inside.handles.last c.self.invariant.0.handles_numbered (λ row passes. (and_parts _ _ passes).0))

pub returns-clause-none : goal.returns-clause-none
returns-clause-none c =
    let rows = c.self.inside.handles.rows in
    let is_next : Handle → Bool = λ handle. is_after c.args.client c.args.after handle && not (has_row (λ other. is_after c.args.client c.args.after other && nat_lt other.number handle.number) rows) in
    rw (← c.self.view_is, c.next_of.ensures) (number-unfound is_next rows _ (λ none. no-least (λ (entry : ℕ × Handle). is_after c.args.client c.args.after entry.1) (λ entry. entry.1.number) rows none))

pub returns-clause-numbers : goal.returns-clause-numbers
returns-clause-numbers c = rw (← c.self.view_is) c.self.invariant.0.handles_numbered

pub returns-clause-differ : goal.returns-clause-differ
returns-clause-differ c = rw (← c.self.view_is) c.self.invariant.0.opens.differ
