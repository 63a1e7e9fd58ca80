use Rattle.std.proofs.Common.{◌≡◌, length, arith, ap, sym, subst}
use Rattle.history_lock.proofs.Places.{given_below}
use Rattle.client_run.specs.Calls.{IsLined}
use Rattle.client_race.proofs.Facing.{some_at}
use Rattle.client_race.proofs.RaceLaws.{all_start, all_end}
use Rattle.client_race.proofs.racing.made.Goals as goal

pub paired-runners-requires-clause-lined : goal.paired-runners-requires-clause-lined
paired-runners-requires-clause-lined g c i p line at there = subst (λ client. IsLined client line.items) (sym (ap (λ own. own.client) (c.requires.passes i p at).1)) (c.requires.lines i line there)

pub drive-done-requires-clause-ready : goal.drive-done-requires-clause-ready
drive-done-requires-clause-ready g c κs within = let a = c.args.lines.ok.0 in let b = c.args.passes.ok.0 in let d = c.paired-runners.result.ok.0 in let e = c.requires.one_each in let f = c.paired-runners.ensures.one_each in
    let one : length c.args.passes.items ≡ length c.args.lines.items = omega arith in let two : length c.paired-runners.result.items ≡ length c.args.lines.items = omega arith in
    all_start (λ line. line.items) c.args.volume.now c.args.passes.items c.args.lines.items c.paired-runners.result.items one two c.requires.passes c.requires.lines c.paired-runners.ensures.passes c.paired-runners.ensures.lines

pub returns-clause-passes : goal.returns-clause-passes
returns-clause-passes g c i p at = let a = c.args.lines.ok.0 in let b = c.args.passes.ok.0 in let d = c.paired-runners.result.ok.0 in let e = c.requires.one_each in let f = c.paired-runners.ensures.one_each in
    let k = c.drive-done.result.ok.0 in let l = c.drive-done.ensures.one_each in let m = c.in_ok-out-2.ensures.one_each in let n = c.in_ok-out-2.out.ok.0 in
    let one : length c.args.passes.items ≡ length c.args.lines.items = omega arith in let two : length c.paired-runners.result.items ≡ length c.args.lines.items = omega arith in let three : length c.drive-done.result.items ≡ length c.args.lines.items = omega arith in
    let h = given_below c.in_ok-out-2.out.items i p at in
    let line = some_at c.args.lines.items i (omega arith) in
    let t = all_end (λ line. line.items) c.args.volume.now c.args.passes.items c.args.lines.items c.paired-runners.result.items c.drive-done.result.items c.in_ok-out-2.out.items one two three
    c.requires.passes c.paired-runners.ensures.passes c.paired-runners.ensures.lines c.drive-done.ensures.follows c.in_ok-out-2.ensures.made i line.0 p line.1 at in (t.0, t.1)

pub returns-clause-made : goal.returns-clause-made
returns-clause-made g c i x y at there = let a = c.args.lines.ok.0 in let b = c.args.passes.ok.0 in let d = c.paired-runners.result.ok.0 in let e = c.requires.one_each in let f = c.paired-runners.ensures.one_each in
    let k = c.drive-done.result.ok.0 in let l = c.drive-done.ensures.one_each in let m = c.in_ok-out-2.ensures.one_each in let n = c.in_ok-out-2.out.ok.0 in
    let one : length c.args.passes.items ≡ length c.args.lines.items = omega arith in let two : length c.paired-runners.result.items ≡ length c.args.lines.items = omega arith in let three : length c.drive-done.result.items ≡ length c.args.lines.items = omega arith in
    (all_end (λ line. line.items) c.args.volume.now c.args.passes.items c.args.lines.items c.paired-runners.result.items c.drive-done.result.items c.in_ok-out-2.out.items one two three
    c.requires.passes c.paired-runners.ensures.passes c.paired-runners.ensures.lines c.drive-done.ensures.follows c.in_ok-out-2.ensures.made i x y at there).2

pub returns-clause-orderly : goal.returns-clause-orderly
returns-clause-orderly g c i p at = let a = c.args.lines.ok.0 in let b = c.args.passes.ok.0 in let d = c.paired-runners.result.ok.0 in let e = c.requires.one_each in let f = c.paired-runners.ensures.one_each in
    let k = c.drive-done.result.ok.0 in let l = c.drive-done.ensures.one_each in let m = c.in_ok-out-2.ensures.one_each in let n = c.in_ok-out-2.out.ok.0 in
    let one : length c.args.passes.items ≡ length c.args.lines.items = omega arith in let two : length c.paired-runners.result.items ≡ length c.args.lines.items = omega arith in let three : length c.drive-done.result.items ≡ length c.args.lines.items = omega arith in
    let h = given_below c.in_ok-out-2.out.items i p at in
    let line = some_at c.args.lines.items i (omega arith) in
    let t = all_end (λ line. line.items) c.args.volume.now c.args.passes.items c.args.lines.items c.paired-runners.result.items c.drive-done.result.items c.in_ok-out-2.out.items one two three
    c.requires.passes c.paired-runners.ensures.passes c.paired-runners.ensures.lines c.drive-done.ensures.follows c.in_ok-out-2.ensures.made i line.0 p line.1 at in t.3
