use Rattle.std.proofs.Common.{◌-◌, List, length, sym, subst, arith, ◌∙◌}
use Rattle.fsa_types.specs.declared.request.Call.{Call}
use Rattle.script_read.specs.ScriptView.{contents}
use Rattle.fsa_top.proofs.OrderLaws.{ListedFrom, ListedFrom-back, ListedFrom-begun, line_within}
use Rattle.fsa_top.proofs.order.list_back.Goals as goal

pub loop-place-init : goal.loop-place-init
loop-place-init c =
    subst (λ (lines : List Call). ListedFrom (contents c.args.script.now) (length lines) c.args.places.now c.args.following.now) (sym (c.as_slice-lines.ensures ∙ c.lines.ensures))
    (ListedFrom-begun (contents c.args.script.now) c.args.places.now c.args.following.now c.requires.leaves.0 c.requires.room c.requires.leaves.1)

pub bounds-places-client : goal.bounds-places-client
bounds-places-client c =
    let within = line_within (contents c.args.script.now) c.as_slice-lines.result.now (c.loop-place.place - 1) c.index-lines-place.result c.requires.is_read (c.as_slice-lines.ensures ∙ c.lines.ensures) (omega (arith, c.loop-place-test.true, c.loop-place.auto.place)) in
    omega (arith, within, c.loop-place.invariant.long)

pub bounds-places-client-in-loop-place : goal.bounds-places-client-in-loop-place
bounds-places-client-in-loop-place c =
    let within = line_within (contents c.args.script.now) c.as_slice-lines.result.now (c.loop-place.place - 1) c.index-lines-place.result c.requires.is_read (c.as_slice-lines.ensures ∙ c.lines.ensures) (omega (arith, c.loop-place-test.true, c.loop-place.auto.place)) in
    omega (arith, within, c.loop-place.invariant.long)

pub loop-place-preserved : goal.loop-place-preserved
loop-place-preserved c =
    ListedFrom-back (contents c.args.script.now) c.as_slice-lines.result.now c.loop-place.place c.loop-place.places c.loop-place.following _ c.requires.is_read (c.as_slice-lines.ensures ∙ c.lines.ensures)
    (omega (arith, c.loop-place-test.true)) (omega (arith, c.loop-place.auto.place)) c.loop-place.invariant
