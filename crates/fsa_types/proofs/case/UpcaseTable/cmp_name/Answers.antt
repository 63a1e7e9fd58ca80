use Rattle.std.proofs.Common.{rules, ◌≡◌, ◌∙◌, ap, refl, nat_cmp}
use Rattle.std.specs.Iterator.Adapters.{map_callee}
use Rattle.std.proofs.lemmas.Iterator.{YieldsList-from_map, YieldsList-from_slice}
use Rattle.std.proofs.lemmas.Iterator.Search.{cmp_from_yields_List}
use Rattle.fsa_types.specs.CaseTable.{up}
use Rattle.fsa_types.proofs.case.UpcaseTable.cmp_name.Goals as goal

pub returns : goal.returns
returns c =
    cmp_from_yields_List (λ x y. y ≡ x) _ nat_cmp _ c.cmp.ensures.ran
    (YieldsList-from_map _ (up c.args.self.now) (YieldsList-from_slice c.args.a.now cc) c.map-left.ensures.closure (λ x r q k. search rules))
    (λ it e. YieldsList-from_map _ (up c.args.self.now) (YieldsList-from_slice c.args.b.now cc) (ap map_callee e ∙ c.map.ensures.closure) (λ x r q k. search rules))
    (λ x y. refl)
