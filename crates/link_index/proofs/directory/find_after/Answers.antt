use Rattle.std.proofs.Common.{◌∙◌}
use Rattle.std.specs.Option.{option_copied}
use Rattle.std.proofs.lemmas.List.{take_rest}
use Rattle.link_index.proofs.ChildLemmas.{numbers-behind}
use Rattle.link_index.proofs.directory.find_after.Goals as goal

pub returns : goal.returns
returns c =
    take_rest c.args.numbers.now c.begin_of.result
    ∙ numbers-behind c.args.upcase.now c.args.links.now.rows c.args.numbers.now (option_copied c.args.after) c.begin_of.result c.begin_of.ensures.bound c.begin_of.ensures.begin
