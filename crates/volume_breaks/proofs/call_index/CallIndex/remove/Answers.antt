use Rattle.std.proofs.Common.{◌≡◌, ℕ, List, ap, sym, subst, ◌∙◌}
use Rattle.fsa_types.specs.Ranges.{without_first}
use Rattle.fsa_types.specs.Rows.{without_row}
use Rattle.key_index.specs.Index.{is_entry}
use Rattle.key_index.specs.RowsByKey.{IsIndexOf}
use Rattle.key_index.proofs.RowLaws.{index-removed}
use Rattle.volume_breaks.specs.CallIndex.{call_key, handle_key, row_call_key, row_handle_key}
use Rattle.volume_breaks.proofs.call_index.CallIndex.remove.Goals as goal

pub returns-clause-calls : goal.returns-clause-calls
returns-clause-calls c rows last row numbered found same is =
    let i = c.self.inside in
    let mine = rw (← c.self.view_is) at is in
    let key : c.call_key.result ≡ row_call_key row = c.call_key.ensures ∙ ap call_key (sym same) in
    let gone : c.remove.new.self.entries ≡ without_first (is_entry (row_call_key row) c.args.turn) i.calls.entries = rw key at c.remove.ensures.entries in
    subst (λ (entries : List (ℕ × ℕ)). IsIndexOf row_call_key (without_row rows c.args.turn) entries) (sym gone)
    (index-removed row_call_key rows last i.calls.entries c.args.turn row numbered mine found)

pub returns-clause-handles : goal.returns-clause-handles
returns-clause-handles c rows last row numbered found same is =
    let i = c.self.inside in
    let mine = rw (← c.self.view_is) at is in
    let key : c.handle_key.result ≡ row_handle_key row = c.handle_key.ensures ∙ ap handle_key (sym same) in
    let gone : c.remove-2.new.self.entries ≡ without_first (is_entry (row_handle_key row) c.args.turn) i.handles.entries = rw key at c.remove-2.ensures.entries in
    subst (λ (entries : List (ℕ × ℕ)). IsIndexOf row_handle_key (without_row rows c.args.turn) entries) (sym gone)
    (index-removed row_handle_key rows last i.handles.entries c.args.turn row numbered mine found)
