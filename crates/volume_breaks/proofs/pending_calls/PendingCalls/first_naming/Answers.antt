use Rattle.std.proofs.Common.{◌∙◌, ℕ, ap, sym}
use Rattle.std.specs.Prelude.{option_map}
use Rattle.fsa_model.specs.Volume.{Pending}
use Rattle.volume_tables.proofs.IndexLaws.{number-by_key}
use Rattle.volume_tables.specs.CallKey.{call_key_of}
use Rattle.volume_breaks.specs.CallIndex.{is_naming, row_handle_key}
use Rattle.volume_breaks.proofs.TurnLemmas.{IsNumbered-rise, first-rising, naming-only, sum_of}
use Rattle.volume_breaks.proofs.pending_calls.PendingCalls.first_naming.Goals as goal

pub returns-then-self : goal.returns-then-self
returns-then-self c =
    let i = c.self.inside in
    let rows = i.rows.items in
    let rise = c.self.invariant.2 c.if-self.true in
    rw (← c.self.view_is) ((rw (c.of_handle.ensures, ← c.self.view_is) at c.find_naming.ensures)
    ∙ sym (number-by_key row_handle_key (call_key_of c.args.client c.args.handle) (is_naming c.args.client c.args.handle) (naming-only c.args.client c.args.handle) rows (sum_of rows) i.turns.handles
    (IsNumbered-rise rows rise) (c.self.invariant.5 c.if-self.true))
    ∙ ap (option_map (λ (entry : ℕ × Pending). entry.0)) (first-rising (λ entry. is_naming c.args.client c.args.handle entry.1) rows rise))
