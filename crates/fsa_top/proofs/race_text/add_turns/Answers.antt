use Rattle.std.proofs.Common.{◌≡◌, ◌∙◌, ℕ, length, refl, arith, subst}
use Rattle.script_read.specs.ScriptView.{contents}
use Rattle.fsa_top.specs.ShownTurns.{ShowsFirst}
use Rattle.text_out.specs.declared.write.TextFault.{TextFault}
use Rattle.fsa_top.proofs.RunLaws.{OnErr-any}
use Rattle.fsa_top.proofs.ShownLaws.{first-begun, first-part, first-turn}
use Rattle.fsa_top.proofs.race_text.add_turns.Goals as goal

pub loop-turn-init : goal.loop-turn-init
loop-turn-init g c = record {
  shows = first-begun (contents c.args.script.now) c.args.machine.now.entries (g.K.Sink.written c.args.sink.now) c.args.buffer.now c.requires.none;
  unfailed = refl;
}

pub returns-in_err-add_turn-clause-part : goal.returns-in_err-add_turn-clause-part
returns-in_err-add_turn-clause-part g c =
    OnErr-any {T = Unit {0}} {E = TextFault} c.from_residual.result _
    (first-part (contents c.args.script.now) c.args.machine.now.entries c.loop-turn.turn (g.K.Sink.written c.args.sink.now) (g.K.Sink.written c.loop-turn.sink) (g.K.Sink.written c.add_turn.new.sink) c.loop-turn.buffer c.add_turn.new.buffer
    c.in_err-add_turn.field-0.0 c.requires.runs c.loop-turn.invariant.shows c.in_err-add_turn.ensures.adds)

pub loop-turn-preserved : goal.loop-turn-preserved
loop-turn-preserved g c = record {
  shows = first-turn (contents c.args.script.now) c.args.machine.now.entries c.loop-turn.turn (g.K.Sink.written c.args.sink.now) (g.K.Sink.written c.loop-turn.sink) (g.K.Sink.written c.add_turn.new.sink) c.loop-turn.buffer c.add_turn.new.buffer
      c.loop-turn.invariant.shows c.in_ok-add_turn.ensures.adds;
  unfailed = c.in_ok-add_turn.ensures.faults.unfailed ∙ c.loop-turn.invariant.unfailed;
}

pub returns-clause-ok : goal.returns-clause-ok
returns-clause-ok g c =
    let all : c.loop-turn.turn ≡ length c.args.machine.now.entries = omega (arith, c.loop-turn-test.false, c.loop-turn.auto.turn-end, c.len-turn-end.ensures) in
    subst (λ (turns : ℕ). ShowsFirst (contents c.args.script.now) c.args.machine.now.entries turns (g.K.Sink.written c.args.sink.now) (g.K.Sink.written c.loop-turn.sink) c.loop-turn.buffer) all c.loop-turn.invariant.shows
