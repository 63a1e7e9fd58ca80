use Rattle.std.proofs.Common.{◌≡◌, ◌+◌, length, slice_get, ap, sym, ◌∙◌, arith}
use Rattle.client_race.specs.Runners.{todo_of, IsFresh}
use Rattle.client_race.proofs.Facing.{leads_last, leads_less, faces_more}
use Rattle.client_race.proofs.racing.paired.Goals as goal

pub new-requires : goal.new-requires
new-requires c = let i = c.loop-pass.invariant in let m = i.both in let one = c.in-Some.ensures.items in let two = c.in-Some-pop.ensures.items in
    let e = c.in-Some.ensures.len in let h = c.in-Some-pop.ensures.len in
    let a = c.pop.new.self.ok.0 in let b = c.pop-in-Some.new.self.ok.0 in let d = c.loop-pass.passes.ok.0 in let s = c.loop-pass.lines.ok.0 in
    let sizes : length c.pop-in-Some.new.self.items ≡ length c.pop.new.self.items = omega arith in record {
      lined = c.requires.lined (length c.pop.new.self.items) c.in-Some.pass c.in-Some-pop.line
          (leads_last c.loop-pass.passes.items c.pop.new.self.items c.args.passes.items c.in-Some.pass one i.left)
          (ap (slice_get c.args.lines.items) (sym sizes) ∙ leads_last c.loop-pass.lines.items c.pop-in-Some.new.self.items c.args.lines.items c.in-Some-pop.line two i.others);
    }

pub loop-pass-preserved : goal.loop-pass-preserved
loop-pass-preserved c = let i = c.loop-pass.invariant in let n = i.count in let m = i.both in let q = c.requires.one_each in let one = c.in-Some.ensures.items in let two = c.in-Some-pop.ensures.items in
    let a = c.loop-pass.passes.ok.0 in let b = c.loop-pass.runners.ok.0 in let d = c.args.passes.ok.0 in let s = c.loop-pass.lines.ok.0 in let t = c.args.lines.ok.0 in
    let e = c.in-Some.ensures.len in let f = c.push_reserved.ensures.len in let h = c.in-Some-pop.ensures.len in
    let count : length c.loop-pass.passes.items + length c.loop-pass.runners.items ≡ length c.args.passes.items = omega arith in
    let counted : length c.loop-pass.lines.items + length c.loop-pass.runners.items ≡ length c.args.lines.items = omega arith in record {
      left = leads_less c.loop-pass.passes.items c.pop.new.self.items c.args.passes.items c.in-Some.pass one i.left;
      others = leads_less c.loop-pass.lines.items c.pop-in-Some.new.self.items c.args.lines.items c.in-Some-pop.line two i.others;
      both = omega arith;
      count = omega arith;
      room = c.push_reserved.ensures.capacity ∙ i.room;
      passes = faces_more (λ pass runner. (runner.pass ≡ pass) × IsFresh runner) c.args.passes.items c.loop-pass.passes.items c.pop.new.self.items c.in-Some.pass c.loop-pass.runners.items c.push_reserved.new.self.items c.new.result one i.left c.push_reserved.ensures.items count i.passes (c.new.ensures.pass, c.new.ensures.fresh);
      lines = faces_more (λ line runner. todo_of runner ≡ line.items) c.args.lines.items c.loop-pass.lines.items c.pop-in-Some.new.self.items c.in-Some-pop.line c.loop-pass.runners.items c.push_reserved.new.self.items c.new.result two i.others c.push_reserved.ensures.items counted i.lines c.new.ensures.todo;
    }
