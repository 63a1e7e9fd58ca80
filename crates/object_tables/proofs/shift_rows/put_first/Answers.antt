use Rattle.std.proofs.Common.{List, rules, ◌+◌, ◌-◌, ◌<◌, ◌≡◌, ◌∙◌, ap, arith, drop, length, suc}
use Rattle.std.specs.List.{remove}
use Rattle.object_tables.proofs.ShiftLemmas.{put-first}
use Rattle.object_tables.proofs.shift_rows.put_first.Goals as goal

pub returns-clause-items : goal.returns-clause-items
returns-clause-items g c =
    let xs = c.deref_mut.result.now in
    let ys = c.rotate_right.new.self in
    let start = c.args.start in
    let place = c.args.place in
    let len : c.args.slots.now.len ≡ length xs = search rules in
    let within : start + place < length xs = search rules in
    let many : start + place + 1 - start ≡ suc place = omega arith in
    put-first xs start place (start + place + 1 - start) c.args.slots.now.len ys _ within many len c.rotate_right.ensures.len c.rotate_right.ensures.after
    ∙ ap (λ (l : List g.row.T.Denot). remove (drop start l) place) c.deref_mut.ensures.value
