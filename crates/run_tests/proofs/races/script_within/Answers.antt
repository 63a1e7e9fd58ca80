use Rattle.std.proofs.Common.{rules, ◌≤◌, length, arith}
use Rattle.script_read.specs.ScriptView.{contents}
use Rattle.client_race.proofs.SetupLaws.{as_many}
use Rattle.client_race.proofs.StayLaws.{script-races}
use Rattle.run_tests.proofs.races.script_within.Goals as goal

pub returns : goal.returns
returns c =
    let lines : length (contents c.in-Ok.script).lines ≤ 40000 = search rules in
    let many = as_many c.clients.result.now.items _ c.clients.ensures in
    let few = c.if-clients-gt64.false in let count = c.len-clients.ensures in
    record { can = script-races c.args.bytes.now (contents c.in-Ok.script) c.in-Ok.ensures.gives lines (omega arith) }
