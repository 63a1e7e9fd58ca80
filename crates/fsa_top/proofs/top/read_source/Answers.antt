use Rattle.std.proofs.Common.{rules}
use Rattle.wire_io.specs.Source.{HasMoreThan}
use Rattle.fsa_top.specs.Limits.{most_script_bytes}
use Rattle.fsa_top.specs.declared.limits.Limit.TheVariants.{Bytes}
use Rattle.fsa_top.proofs.LimitLaws.{PassesLimit-more}
use Rattle.fsa_top.proofs.top.read_source.Goals as goal

pub returns-in-Err-TooMany-clause-limit : goal.returns-in-Err-TooMany-clause-limit
returns-in-Err-TooMany-clause-limit g c =
    let more : HasMoreThan most_script_bytes (g.S.Source.left c.args.source.now) = search rules in
    λ _. (Bytes, PassesLimit-more (g.S.Source.left c.args.source.now) more, c.say_limit.ensures.says)
