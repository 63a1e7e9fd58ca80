use Rattle.std.proofs.Common.{◌≤◌, Some, ◌^◌, ◌++◌, ◌∷◌, [], ℕ, List, ap, sym, ◌∙◌, arith}
use Rattle.std.specs.List.{insert}
use Rattle.slab.specs.Slab.{get}
use Rattle.fsa_types.specs.Rows.{row_of}
use Rattle.object_tables.specs.Places.{rows_in}
use Rattle.volume_tables.proofs.ShareLemmas.{HaveOpens-put, IsAdded-put, held_in-none, held_in-some, more-opens, placed-inserted, row-beside, row-inserted, row-none}
use Rattle.volume_tables.proofs.share_table.insert_at.Goals as goal

pub returns-clause-placed : goal.returns-clause-placed
returns-clause-placed c =
    let r = c.insert_reserved-slot in
    rw c.insert.ensures.items (placed-inserted (get c.args.counts.now) (get r.new.self) c.args.places.now.items (2 ^ 64) c.args.key r.result c.args.place c.counts_of.result
    c.requires.placed (let fits = c.ranges.key.fits in omega arith) c.requires.missing r.ensures.was_vacant r.ensures.updates.changed r.ensures.updates.others)

pub returns-clause-added : goal.returns-clause-added
returns-clause-added c =
    let r = c.insert_reserved-slot in
    let old = c.args.counts.now in
    let places = c.args.places.now.items in
    let low : c.args.key ≤ 2 ^ 64 = (let fits = c.ranges.key.fits in omega arith) in
    let newer = insert places c.args.place (c.args.key, r.result) in
    let none = held_in-none (rows_in old places) c.args.key (row-none (get old) places (2 ^ 64) c.args.key c.args.place c.requires.placed c.requires.missing) in
    let some = held_in-some (rows_in r.new.self newer) c.args.key c.counts_of.result
    (row-inserted (get old) (get r.new.self) places (2 ^ 64) c.args.key r.result c.args.place c.counts_of.result c.requires.placed low c.requires.missing r.ensures.was_vacant r.ensures.updates.changed r.ensures.updates.others) in
    rw c.insert.ensures.items (IsAdded-put (rows_in old places) (rows_in r.new.self newer) c.args.key (c.args.access, c.args.share)
    (some ∙ c.counts_of.ensures ∙ ap (λ (held : List (ℕ × ℕ)). held ++ (c.args.access, c.args.share) ∷ []) (sym none))
    (row-beside (get old) (get r.new.self) places (2 ^ 64) c.args.key r.result c.args.place c.counts_of.result c.requires.placed low c.requires.missing r.ensures.was_vacant r.ensures.updates.changed r.ensures.updates.others))

pub returns-clause-opens : goal.returns-clause-opens
returns-clause-opens c =
    let r = c.insert_reserved-slot in
    let old = c.args.counts.now in
    let places = c.args.places.now.items in
    let low : c.args.key ≤ 2 ^ 64 = (let fits = c.ranges.key.fits in omega arith) in
    let newer = insert places c.args.place (c.args.key, r.result) in
    let put = row-inserted (get old) (get r.new.self) places (2 ^ 64) c.args.key r.result c.args.place c.counts_of.result c.requires.placed low c.requires.missing r.ensures.was_vacant r.ensures.updates.changed r.ensures.updates.others in
    rw c.insert.ensures.items (HaveOpens-put (rows_in old places) (rows_in r.new.self newer) c.args.key c.requires.opens
    (more-opens (row_of (rows_in r.new.self newer) c.args.key) [] (c.args.access, c.args.share) (put ∙ ap (λ (held : List (ℕ × ℕ)). Some held) c.counts_of.ensures))
    (row-beside (get old) (get r.new.self) places (2 ^ 64) c.args.key r.result c.args.place c.counts_of.result c.requires.placed low c.requires.missing r.ensures.was_vacant r.ensures.updates.changed r.ensures.updates.others))
