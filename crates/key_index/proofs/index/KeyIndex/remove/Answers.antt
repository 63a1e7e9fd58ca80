use Rattle.std.proofs.Common.{◌≡◌, ℕ, ◌∙◌, sym, Some, None}
use Rattle.std.specs.List.{position}
use Rattle.std.proofs.lemmas.List.Quantifiers.{position-Some}
use Rattle.fsa_types.specs.Ranges.{without_first}
use Rattle.key_index.specs.Index.{is_entry}
use Rattle.key_index.proofs.NumberLemmas.{numbers-removed, rising-removed}
use Rattle.key_index.proofs.KeyLemmas.{remove-position, without_first-none}
use Rattle.key_index.proofs.index.KeyIndex.remove.Goals as goal

pub returns-in-None-clause-entries : goal.returns-in-None-clause-entries
returns-in-None-clause-entries c =
    let none : position (is_entry c.args.key c.args.number) c.self.inside.entries.items ≡ None = sym (rw c.as_slice.ensures at c.in-None.ensures) in
    rw (← c.self.view_is) (sym (without_first-none (is_entry c.args.key c.args.number) c.self.inside.entries.items none))

pub returns-in-Some-clause-entries : goal.returns-in-Some-clause-entries
returns-in-Some-clause-entries c =
    let found : position (is_entry c.args.key c.args.number) c.self.inside.entries.items ≡ Some c.in-Some.place = sym (rw c.as_slice.ensures at c.in-Some.ensures) in
    rw (← c.self.view_is) (c.remove.ensures.items ∙ remove-position (is_entry c.args.key c.args.number) c.self.inside.entries.items c.in-Some.place (0, 0) found)

pub invariant_of-self : goal.invariant_of-self
invariant_of-self c =
    let xs = c.self.inside.entries.items in
    let found : position (is_entry c.args.key c.args.number) xs ≡ Some c.in-Some.place = sym (rw c.as_slice.ensures at c.in-Some.ensures) in
    let same : c.remove.new.self.items ≡ without_first (is_entry c.args.key c.args.number) xs = c.remove.ensures.items ∙ remove-position (is_entry c.args.key c.args.number) xs c.in-Some.place (0, 0) found in (
      rw c.remove.ensures.items (rising-removed (λ (e : ℕ × ℕ). e.0) xs c.in-Some.place (position-Some (is_entry c.args.key c.args.number) xs c.in-Some.place (0, 0) found).0 c.self.invariant.0),
      (λ rising. rw same (numbers-removed xs c.args.key c.args.number (c.self.invariant.1 rising))),
    )
