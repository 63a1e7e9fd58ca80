use Rattle.std.proofs.Common.{◌≡◌, slice_get, Some, arith}
use Rattle.std.proofs.lemmas.Option.{slice_get_read}
use Rattle.client_race.specs.declared.drive.Task.{Task}
use Rattle.client_race.specs.Tasks.{IsFit, Moves}
use Rattle.client_race.proofs.Facing.{each_set}
use Rattle.client_race.proofs.drive.step_each.Goals as goal

pub step_here-requires-clause-fit : goal.step_here-requires-clause-fit
step_here-requires-clause-fit g c = let a = c.loop-i.tasks.ok.0 in let b = c.loop-i-test.true in let d = c.len-i-end.ensures in let e = c.loop-i.invariant.one_each in
    c.loop-i.invariant.fit c.loop-i.i c.index_mut.result.now (slice_get_read c.loop-i.tasks.items c.loop-i.tasks.len c.loop-i.i c.index_mut.result.now (omega arith) (omega arith) c.index_mut.ensures.value)

pub loop-i-preserved : goal.loop-i-preserved
loop-i-preserved g c = let i = c.loop-i.invariant in let volume = c.args.volume.now in let was = c.loop-i.tasks.items in let all = c.args.tasks.now.items in let u = c.index_mut.result.now in let w = c.step_here.new.task in
    let moved = c.step_here.ensures in let a = c.loop-i.tasks.ok.0 in let b = c.loop-i-test.true in let d = c.len-i-end.ensures in let e = i.one_each in
    let here = slice_get_read was c.loop-i.tasks.len c.loop-i.i u (omega arith) (omega arith) c.index_mut.ensures.value in record {
      one_each = i.one_each;
      fit = each_set (λ k (t : Task). IsFit volume t) was c.loop-i.i w (λ h. moved.0 (i.fit c.loop-i.i u here)) (λ k t ne at. i.fit k t at);
      moves = λ k x y at there. each_set (λ n (t : Task). slice_get all n ≡ Some x → Moves volume x t) was c.loop-i.i w
          (λ h e. let m = i.moves c.loop-i.i x u e here in (λ f. moved.0 (m.0 f), λ v s. moved.1 v (m.1 v s)))
          (λ n t ne e f. i.moves n x t f e) k y there at;
    }
