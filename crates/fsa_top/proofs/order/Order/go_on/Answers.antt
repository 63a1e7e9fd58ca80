use Rattle.std.proofs.Common.{arith}
use Rattle.script_read.specs.ScriptView.{contents}
use Rattle.fsa_top.proofs.OrderLaws.{client_within}
use Rattle.fsa_top.proofs.order.Order.go_on.Goals as goal

pub index_mut-requires : goal.index_mut-requires
index_mut-requires c =
    let within = client_within (contents c.args.script.now) c.args.place c.behind-client.result.0 c.requires.is_read c.requires.there (λ call at. (c.behind-client.ensures call at).0) in
    omega (arith, within, c.requires.long)
