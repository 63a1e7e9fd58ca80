use Rattle.std.proofs.Common.{◌≡◌, ◌∙◌, ap, ◌<◌, ◌++◌, length, arith}
use Rattle.std.proofs.lemmas.List.{length_push}
use Rattle.std.proofs.lemmas.Grind.{common_steps}
use Rattle.fsa_types.specs.BoundedList.{Bounded}
use Rattle.fsa_types.specs.declared.request.Call.{Call}
use Rattle.fsa_model.specs.Generator.{generated_calls}
use Rattle.script_read.proofs.GeneratorLemmas.{calls-push, calls-end}
use Rattle.script_read.proofs.generator.generated_calls.Goals as goal

pub calls-init : goal.calls-init
calls-init c = record {
  made = ap (λ (list : Bounded Call). list.items ++ generated_calls 4096 0 c.args.seed) c.in_ok-calls.ensures;
  within = omega arith;
  count = ap (λ (list : Bounded Call). length list.items) c.in_ok-calls.ensures;
  room = ap (λ (list : Bounded Call). list.room) c.in_ok-calls.ensures;
}

pub calls-preserved : goal.calls-preserved
calls-preserved c =
    let below : c.calls.place < 4096 = grind (arith, common_steps) in
    record {
      made =
          calls-push 4096 c.calls.place c.calls.state c.drawn.result c.next_state-state.result c.calls.calls.items c.push.new.self.items (generated_calls 4096 0 c.args.seed) c.in_ok-generated_call.field-0
          below c.push.ensures.items c.in_ok-generated_call.ensures c.drawn.ensures c.next_state-state.ensures c.calls.invariant.made;
      within = omega arith;
      count = rw c.push.ensures.items (omega (arith, length_push c.calls.calls.items c.in_ok-generated_call.field-0, c.calls.invariant.count));
      room = c.push.ensures.room ∙ c.calls.invariant.room;
    }

pub returns : goal.returns
returns c =
    let end : c.calls.place ≡ 4096 = grind (arith, common_steps) in
    calls-end 4096 c.calls.place c.calls.state c.calls.calls.items (generated_calls 4096 0 c.args.seed) end c.calls.invariant.made
