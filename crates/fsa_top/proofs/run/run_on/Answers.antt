use Rattle.std.proofs.Common.{ℕ, subst}
use Rattle.fsa_model.specs.Text.{last_line}
use Rattle.script_read.specs.ScriptView.{contents}
use Rattle.text_out.specs.Writes.{Finishes, TellsFaults}
use Rattle.fsa_top.proofs.RunLaws.{WroteTurns-begun, WroteTurns-finished}
use Rattle.fsa_top.proofs.run.run_on.Goals as goal

pub run_calls-requires-clause-shows : goal.run_calls-requires-clause-shows
run_calls-requires-clause-shows g c = WroteTurns-begun (contents c.args.script.now) c.args.machine.now.entries (g.K.Sink.written c.args.sink.now) c.new-buffer.result c.requires.none c.new-buffer.ensures

pub returns : goal.returns
returns g c =
    let old = g.K.Sink.written c.args.sink.now in
    let mid = g.K.Sink.written c.run_calls.new.sink in
    let now = g.K.Sink.written c.finish.new.sink in
    let gathered = c.run_calls.new.buffer in
    let ends = WroteTurns-finished (contents c.args.script.now) c.run_calls.new.machine.entries old mid now gathered c.finish.new.self c.finish.result c.requires.stands.is_read c.in_ok-run_calls.ensures.all c.in_ok-run_calls.ensures.ok
    (subst (λ (n : ℕ). Finishes mid now gathered c.finish.new.self (last_line n) c.finish.result) c.len.ensures c.finish.ensures.finishes) in
    record { ok = ends.0; part = ends.1; faults = subst (λ (f : ℕ). TellsFaults f (g.K.Sink.faults c.finish.new.sink) now.since_fault c.finish.result) c.in_ok-run_calls.ensures.faults.unfailed c.finish.ensures.faults }
