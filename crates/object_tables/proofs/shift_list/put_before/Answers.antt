use Rattle.std.proofs.Common.{ℕ, List, rules, ◌+◌, ◌-◌, ◌≡◌, ◌<◌, ◌≤◌, suc, zero, arith, drop, length}
use Rattle.std.specs.List.{copy_within, insert}
use Rattle.std.specs.Prelude.{slice_set}
use Rattle.object_tables.proofs.ShiftLemmas.{put-before}
use Rattle.object_tables.proofs.shift_list.put_before.Goals as goal

module _ {T : Type 0} (xs : List T) where
  from : (start place : ℕ) (item : T) → 0 < start → start + place ≤ length xs
      → drop (start - 1) (slice_set (copy_within xs start (start + place) (start - 1)) (start - 1 + place) item) ≡ insert (drop start xs) place item
  from zero place item free within = absurd (omega arith)
  from (suc start) place item free within =
      let one : suc start - 1 ≡ start = omega arith in
      let many : suc start + place - suc start ≡ place = omega arith in
      rw (one, many) (put-before xs start place item within)

pub returns-clause-items : goal.returns-clause-items
returns-clause-items g c =
    let within : c.args.start + c.args.place ≤ length c.args.slots.now.items = search rules in
    rw c.copy_within.ensures.items (from c.args.slots.now.items c.args.start c.args.place c.args.item c.requires.free within)
