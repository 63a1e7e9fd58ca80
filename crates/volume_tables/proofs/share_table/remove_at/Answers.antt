use Rattle.std.proofs.Common.{◌≡◌, get_or, ◌^◌, [], ℕ, List, ap, sym, ◌∙◌, length}
use Rattle.std.specs.Prelude.{◌==◌}
use Rattle.std.specs.Option.{option_map_or}
use Rattle.slab.specs.Slab.{get}
use Rattle.fsa_types.specs.Rows.{row_of}
use Rattle.object_tables.specs.Places.{rows_in}
use Rattle.volume_tables.specs.ShareTable.{held_at, held_in}
use Rattle.volume_tables.proofs.ShareLemmas.{HaveOpens-put, IsTaken-put, placed-put, held_in-some, row-in, row-kept, row-put, some-opens}
use Rattle.volume_tables.proofs.share_table.remove_at.Goals as goal

pub returns-clause-placed : goal.returns-clause-placed
returns-clause-placed c =
    let under : (get_or c.args.places.now.items c.args.place c.at-slot.result).1 ≡ c.at-slot.result.1 = ap (λ (e : ℕ × ℕ). e.1) (sym c.at-slot.ensures) in
    let updates = c.remove_in.ensures.updates in
    placed-put (get c.args.counts.now) (get c.remove_in.new.counts) c.args.places.now.items (2 ^ 64) c.args.key c.at-slot.result.1 c.args.place c.at-slot.result (held_at c.remove_in.new.counts c.at-slot.result.1)
    c.requires.placed c.requires.there under updates.changed updates.others

pub returns-clause-taken : goal.returns-clause-taken
returns-clause-taken c =
    let old = c.args.counts.now in
    let new = c.remove_in.new.counts in
    let places = c.args.places.now.items in
    let left = held_at new c.at-slot.result.1 in
    let under : (get_or c.args.places.now.items c.args.place c.at-slot.result).1 ≡ c.at-slot.result.1 = ap (λ (e : ℕ × ℕ). e.1) (sym c.at-slot.ensures) in
    let updates = c.remove_in.ensures.updates in
    let was : held_in (rows_in old places) c.args.key ≡ held_at old c.at-slot.result.1
    = ap (λ row. option_map_or (λ (held : List (ℕ × ℕ)). held) row []) (row-in (get old) places (2 ^ 64) c.args.key c.at-slot.result.1 c.args.place c.at-slot.result c.requires.placed c.requires.there under) in
    let is : held_in (rows_in new places) c.args.key ≡ left
    = held_in-some (rows_in new places) c.args.key left (row-put (get old) (get new) places (2 ^ 64) c.args.key c.at-slot.result.1 c.args.place c.at-slot.result left c.requires.placed c.requires.there under updates.changed updates.others) in
    IsTaken-put (rows_in old places) (rows_in new places) c.args.key (c.args.access, c.args.share)
    (rw (was, is) c.remove_in.ensures.held)
    (row-kept (get old) (get new) places (2 ^ 64) c.args.key c.at-slot.result.1 c.args.place c.at-slot.result left c.requires.placed c.requires.there under updates.changed updates.others)

pub returns-clause-empty : goal.returns-clause-empty
returns-clause-empty c =
    let old = c.args.counts.now in
    let new = c.remove_in.new.counts in
    let places = c.args.places.now.items in
    let left = held_at new c.at-slot.result.1 in
    let under : (get_or c.args.places.now.items c.args.place c.at-slot.result).1 ≡ c.at-slot.result.1 = ap (λ (e : ℕ × ℕ). e.1) (sym c.at-slot.ensures) in
    let updates = c.remove_in.ensures.updates in
    let is : held_in (rows_in new places) c.args.key ≡ left
    = held_in-some (rows_in new places) c.args.key left (row-put (get old) (get new) places (2 ^ 64) c.args.key c.at-slot.result.1 c.args.place c.at-slot.result left c.requires.placed c.requires.there under updates.changed updates.others) in
    c.remove_in.ensures.empty ∙ ap (λ (held : List (ℕ × ℕ)). length held == 0) (sym is)

pub returns-clause-opens : goal.returns-clause-opens
returns-clause-opens c = λ some.
    let old = c.args.counts.now in
    let new = c.remove_in.new.counts in
    let places = c.args.places.now.items in
    let left = held_at new c.at-slot.result.1 in
    let under : (get_or c.args.places.now.items c.args.place c.at-slot.result).1 ≡ c.at-slot.result.1 = ap (λ (e : ℕ × ℕ). e.1) (sym c.at-slot.ensures) in
    let updates = c.remove_in.ensures.updates in
    HaveOpens-put (rows_in old places) (rows_in new places) c.args.key c.requires.opens
    (some-opens (row_of (rows_in new places) c.args.key) left
    (row-put (get old) (get new) places (2 ^ 64) c.args.key c.at-slot.result.1 c.args.place c.at-slot.result left c.requires.placed c.requires.there under updates.changed updates.others)
    (sym c.remove_in.ensures.empty ∙ some))
    (row-kept (get old) (get new) places (2 ^ 64) c.args.key c.at-slot.result.1 c.args.place c.at-slot.result left c.requires.placed c.requires.there under updates.changed updates.others)

pub returns-clause-others : goal.returns-clause-others
returns-clause-others c = λ other differ none.
    let old = c.args.counts.now in
    let new = c.remove_in.new.counts in
    let places = c.args.places.now.items in
    let left = held_at new c.at-slot.result.1 in
    let under : (get_or c.args.places.now.items c.args.place c.at-slot.result).1 ≡ c.at-slot.result.1 = ap (λ (e : ℕ × ℕ). e.1) (sym c.at-slot.ensures) in
    let updates = c.remove_in.ensures.updates in
    c.requires.opens other
    (sym (row-kept (get old) (get new) places (2 ^ 64) c.args.key c.at-slot.result.1 c.args.place c.at-slot.result left c.requires.placed c.requires.there under updates.changed updates.others other differ) ∙ none)

pub remove_in-requires-clause-held : goal.remove_in-requires-clause-held
remove_in-requires-clause-held c =
    let old = c.args.counts.now in
    let places = c.args.places.now.items in
    let under : (get_or c.args.places.now.items c.args.place c.at-slot.result).1 ≡ c.at-slot.result.1 = ap (λ (e : ℕ × ℕ). e.1) (sym c.at-slot.ensures) in
    let was : held_in (rows_in old places) c.args.key ≡ held_at old c.at-slot.result.1
    = ap (λ row. option_map_or (λ (held : List (ℕ × ℕ)). held) row []) (row-in (get old) places (2 ^ 64) c.args.key c.at-slot.result.1 c.args.place c.at-slot.result c.requires.placed c.requires.there under) in
    rw was at c.requires.held
