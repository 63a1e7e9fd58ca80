use Rattle.std.proofs.Common.{ℕ, Bool, ◌<◌, not}
use Rattle.std.specs.List.{list_any}
use Rattle.std.specs.Prelude.{◌&&◌, nat_lt}
use Rattle.std.proofs.lemmas.Bool.{and_parts, ltb-true}
use Rattle.fsa_model.specs.Volume.{Pending}
use Rattle.volume_state.proofs.HandleLaws.{no-least}
use Rattle.volume_state.proofs.PendingLaws.{entry-lives, entry-passes, entry-unfound}
use Rattle.volume_state.proofs.volume.Volume.next_pending.Goals as goal

pub returns-clause-lives : goal.returns-clause-lives
returns-clause-lives c =
    let rows = c.self.inside.pending.items in
    let is_next : ℕ × Pending → Bool = λ entry. nat_lt c.args.after entry.0 && not (list_any (λ other. nat_lt c.args.after other.0 && nat_lt other.0 entry.0) rows) in
    rw (← c.self.view_is, c.next_turn.ensures) (entry-lives is_next rows)

pub returns-clause-after : goal.returns-clause-after
returns-clause-after c =
    let rows = c.self.inside.pending.items in
    let is_next : ℕ × Pending → Bool = λ entry. nat_lt c.args.after entry.0 && not (list_any (λ other. nat_lt c.args.after other.0 && nat_lt other.0 entry.0) rows) in
    rw (c.next_turn.ensures) (entry-passes is_next rows (λ turn. c.args.after < turn) (λ entry passes. ltb-true _ _ (and_parts _ _ passes).0))

pub returns-clause-none : goal.returns-clause-none
returns-clause-none c =
    let rows = c.self.inside.pending.items in
    let is_next : ℕ × Pending → Bool = λ entry. nat_lt c.args.after entry.0 && not (list_any (λ other. nat_lt c.args.after other.0 && nat_lt other.0 entry.0) rows) in
    rw (← c.self.view_is, c.next_turn.ensures) (entry-unfound is_next rows _ (λ none. no-least (λ (entry : ℕ × Pending). nat_lt c.args.after entry.0) (λ entry. entry.0) rows none))
