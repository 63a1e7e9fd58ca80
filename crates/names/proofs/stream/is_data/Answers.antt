use Rattle.std.proofs.Common.{rules, ◌≡◌, ◌∙◌, ap, refl, nat_cmp}
use Rattle.std.specs.Prelude.{codes}
use Rattle.std.specs.Cmp.Lexicographic.{texts_ties}
use Rattle.std.specs.Iterator.Adapters.{copied_source}
use Rattle.std.specs.Slice.Iter.{iter_rest}
use Rattle.std.proofs.lemmas.Iterator.{YieldsList-from_map, YieldsList-from_slice}
use Rattle.std.proofs.lemmas.Iterator.Consumers.{YieldsList-from_copied}
use Rattle.std.proofs.lemmas.Iterator.Search.{cmp_from_yields_List}
use Rattle.fsa_types.specs.CaseTable.{up, upcased, ascii_pairs}
use Rattle.names.proofs.stream.is_data.Goals as goal

pub returns : goal.returns
returns c =
    let order =
    cmp_from_yields_List (λ x y. y ≡ x) _ nat_cmp _ c.cmp.ensures.ran
    (YieldsList-from_map _ (up ascii_pairs) (YieldsList-from_slice c.args.kind.now cc) c.map-upper.ensures.closure (λ x r q k. search rules))
    (λ it e. YieldsList-from_copied (YieldsList-from_slice (codes "$DATA") (ap (λ i. iter_rest (copied_source i)) e ∙ ap iter_rest c.copied.ensures.source ∙ c.iter-2.ensures.rest)))
    (λ x y. refl) in
    rw (texts_ties (upcased ascii_pairs c.args.kind.now) (codes "$DATA"), ← order) c.is_eq.ensures
