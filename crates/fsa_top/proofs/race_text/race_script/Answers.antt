use Rattle.std.proofs.Common.{inr}
use Rattle.std.proofs.lemmas.Result.{on_ok_weaker}
use Rattle.history_laws.proofs.SameRace.{same_race}
use Rattle.script_read.specs.ScriptView.{contents}
use Rattle.fsa_top.proofs.RaceLaws.{throughout, whole-part}
use Rattle.fsa_top.proofs.race_text.race_script.Goals as goal

pub returns-clause-ok : goal.returns-clause-ok
returns-clause-ok g c =
    let script = contents c.args.script.now in
    let history = c.in_ok-machine.machine.entries in
    let whole = c.in_ok-machine.ensures.whole in
    on_ok_weaker c.put_text.result
    (λ wrote. (
      history,
      record {
        whole = whole;
        only = λ other also same. same_race script history other c.requires.is_read whole also same;
        throughout = throughout script history whole.free c.in_ok-machine.ensures.differ;
      },
      wrote,
    ))
    c.put_text.ensures.ok

pub returns-clause-part : goal.returns-clause-part
returns-clause-part g c = λ failed. whole-part _ _ _ _ c.put_text.result _ c.in_ok-machine.ensures.whole c.in_ok-machine.ensures.differ failed c.put_text.ensures.part

pub returns-clause-memory : goal.returns-clause-memory
returns-clause-memory g c = λ wanting. inr (whole-part _ _ _ _ c.put_text.result _ c.in_ok-machine.ensures.whole c.in_ok-machine.ensures.differ wanting c.put_text.ensures.part)
