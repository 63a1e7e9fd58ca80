use Rattle.std.proofs.Common.{◌≡◌, ◌<◌, ◌≤◌, ◌∙◌, ℕ, Some, ap, arith, length, sym}
use Rattle.std.specs.Prelude.{option_map, slice_get}
use Rattle.std.proofs.lemmas.Option.{slice_get-get_or}
use Rattle.key_index.proofs.KeyLemmas.{first-here, first-past}
use Rattle.key_index.proofs.search.first_number.Goals as goal

pub returns-in-None : goal.returns-in-None
returns-in-None c =
    let xs = c.args.entries.now in
    let i = c.begin_of.result in
    let past : length xs ≤ i = c.in-None.ensures.lookup.3 in
    ap (option_map (λ (e : ℕ × ℕ). e.1)) (sym (first-past xs i c.args.key c.requires.rising c.begin_of.ensures.point (λ within d same. absurd (omega arith))))

pub returns-then-entry-key : goal.returns-then-entry-key
returns-then-entry-key c =
    let xs = c.args.entries.now in
    let i = c.begin_of.result in
    let e = c.in-Some.entry.now in
    let here : slice_get xs i ≡ Some e = slice_get-get_or xs i e c.in-Some.ensures.lookup.3.0 ∙ ap Some (sym c.in-Some.ensures.lookup.1) in
    ap (option_map (λ (e : ℕ × ℕ). e.1)) (sym (first-here xs i c.args.key e c.begin_of.ensures.point here c.if-entry-key.true))

pub returns-else-entry-key : goal.returns-else-entry-key
returns-else-entry-key c =
    let xs = c.args.entries.now in
    let i = c.begin_of.result in
    ap (option_map (λ (e : ℕ × ℕ). e.1)) (sym (first-past xs i c.args.key c.requires.rising c.begin_of.ensures.point
    (λ within d same. c.if-entry-key.false (ap (λ (e : ℕ × ℕ). e.0) (c.in-Some.ensures.lookup.3.1 d) ∙ same))))
