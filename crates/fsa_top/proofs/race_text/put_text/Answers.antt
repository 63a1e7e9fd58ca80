use Rattle.std.proofs.Common.{ℕ, subst}
use Rattle.fsa_model.specs.Text.{last_line}
use Rattle.script_read.specs.ScriptView.{contents}
use Rattle.text_out.specs.Writes.{Finishes, TellsFaults}
use Rattle.fsa_top.proofs.ShownLaws.{first-finished}
use Rattle.fsa_top.proofs.race_text.put_text.Goals as goal

pub returns : goal.returns
returns g c =
    let old = g.K.Sink.written c.args.sink.now in
    let mid = g.K.Sink.written c.add_turns.new.sink in
    let now = g.K.Sink.written c.finish.new.sink in
    let gathered = c.add_turns.new.buffer in
    let ends = first-finished (contents c.args.script.now) c.args.machine.now.entries old mid now gathered c.finish.new.self c.finish.result c.requires.runs c.in_ok-add_turns.ensures.ok
    (subst (λ (n : ℕ). Finishes mid now gathered c.finish.new.self (last_line n) c.finish.result) c.len.ensures c.finish.ensures.finishes) in
    record { ok = ends.0; part = ends.1; faults = subst (λ (f : ℕ). TellsFaults f (g.K.Sink.faults c.finish.new.sink) now.since_fault c.finish.result) c.in_ok-add_turns.ensures.faults.unfailed c.finish.ensures.faults }
