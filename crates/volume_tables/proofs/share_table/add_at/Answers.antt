use Rattle.std.proofs.Common.{◌≡◌, get_or, ◌^◌, ◌++◌, ◌∷◌, [], ℕ, List, ap, sym, ◌∙◌}
use Rattle.std.specs.Option.{option_map_or}
use Rattle.slab.specs.Slab.{get}
use Rattle.fsa_types.specs.Rows.{row_of}
use Rattle.object_tables.specs.Places.{rows_in}
use Rattle.volume_tables.specs.ShareTable.{held_at, held_in}
use Rattle.volume_tables.proofs.ShareLemmas.{HaveOpens-put, IsAdded-put, held_in-some, more-opens, placed-put, row-in, row-kept, row-put}
use Rattle.volume_tables.proofs.share_table.add_at.Goals as goal

pub returns-clause-placed : goal.returns-clause-placed
returns-clause-placed c =
    let old = c.args.counts.now in
    let under : (get_or c.args.places.now.items c.args.place c.at-slot.result).1 ≡ c.at-slot.result.1 = ap (λ (e : ℕ × ℕ). e.1) (sym c.at-slot.ensures) in
    let updates = c.add_in.ensures.updates in
    placed-put (get old) (get c.add_in.new.counts) c.args.places.now.items (2 ^ 64) c.args.key c.at-slot.result.1 c.args.place c.at-slot.result (held_at old c.at-slot.result.1 ++ (c.args.access, c.args.share) ∷ [])
    c.requires.placed c.requires.there under updates.changed updates.others

pub returns-clause-added : goal.returns-clause-added
returns-clause-added c =
    let old = c.args.counts.now in
    let new = c.add_in.new.counts in
    let places = c.args.places.now.items in
    let under : (get_or c.args.places.now.items c.args.place c.at-slot.result).1 ≡ c.at-slot.result.1 = ap (λ (e : ℕ × ℕ). e.1) (sym c.at-slot.ensures) in
    let updates = c.add_in.ensures.updates in
    let was : held_in (rows_in old places) c.args.key ≡ held_at old c.at-slot.result.1
    = ap (λ row. option_map_or (λ (held : List (ℕ × ℕ)). held) row []) (row-in (get old) places (2 ^ 64) c.args.key c.at-slot.result.1 c.args.place c.at-slot.result c.requires.placed c.requires.there under) in
    IsAdded-put (rows_in old places) (rows_in new places) c.args.key (c.args.access, c.args.share)
    (held_in-some (rows_in new places) c.args.key _ (row-put (get old) (get new) places (2 ^ 64) c.args.key c.at-slot.result.1 c.args.place c.at-slot.result (held_at old c.at-slot.result.1 ++ (c.args.access, c.args.share) ∷ [])
    c.requires.placed c.requires.there under updates.changed updates.others)
    ∙ ap (λ (held : List (ℕ × ℕ)). held ++ (c.args.access, c.args.share) ∷ []) (sym was))
    (row-kept (get old) (get new) places (2 ^ 64) c.args.key c.at-slot.result.1 c.args.place c.at-slot.result (held_at old c.at-slot.result.1 ++ (c.args.access, c.args.share) ∷ []) c.requires.placed c.requires.there under updates.changed updates.others)

pub returns-clause-opens : goal.returns-clause-opens
returns-clause-opens c =
    let old = c.args.counts.now in
    let new = c.add_in.new.counts in
    let places = c.args.places.now.items in
    let held = held_at old c.at-slot.result.1 in
    let under : (get_or c.args.places.now.items c.args.place c.at-slot.result).1 ≡ c.at-slot.result.1 = ap (λ (e : ℕ × ℕ). e.1) (sym c.at-slot.ensures) in
    let updates = c.add_in.ensures.updates in
    HaveOpens-put (rows_in old places) (rows_in new places) c.args.key c.requires.opens
    (more-opens (row_of (rows_in new places) c.args.key) held (c.args.access, c.args.share)
    (row-put (get old) (get new) places (2 ^ 64) c.args.key c.at-slot.result.1 c.args.place c.at-slot.result (held ++ (c.args.access, c.args.share) ∷ []) c.requires.placed c.requires.there under updates.changed updates.others))
    (row-kept (get old) (get new) places (2 ^ 64) c.args.key c.at-slot.result.1 c.args.place c.at-slot.result (held ++ (c.args.access, c.args.share) ∷ []) c.requires.placed c.requires.there under updates.changed updates.others)

pub add_in-requires-clause-few : goal.add_in-requires-clause-few
add_in-requires-clause-few c =
    let old = c.args.counts.now in
    let places = c.args.places.now.items in
    let under : (get_or c.args.places.now.items c.args.place c.at-slot.result).1 ≡ c.at-slot.result.1 = ap (λ (e : ℕ × ℕ). e.1) (sym c.at-slot.ensures) in
    let was : held_in (rows_in old places) c.args.key ≡ held_at old c.at-slot.result.1
    = ap (λ row. option_map_or (λ (held : List (ℕ × ℕ)). held) row []) (row-in (get old) places (2 ^ 64) c.args.key c.at-slot.result.1 c.args.place c.at-slot.result c.requires.placed c.requires.there under) in
    rw was at c.requires.few
