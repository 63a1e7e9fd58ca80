use Rattle.std.proofs.Common.{◌∙◌, sym, nat_eq}
use Rattle.std.specs.Cmp.Lexicographic.{pointwise}
use Rattle.script_read.proofs.NameLemmas.{position-map}
use Rattle.script_read.proofs.names.NameList.place_of.Goals as goal

pub returns-clause-place : goal.returns-clause-place
returns-clause-place c =
    rw (← c.self.view_is) (c.get_index_of.ensures.index ∙ sym (position-map (λ name. name.items) (λ known. pointwise nat_eq c.args.name.now known) c.self.inside.names.keys))
