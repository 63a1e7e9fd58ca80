use Rattle.std.proofs.Common.{◌≡◌, ◌^◌, ℕ, [], List, ap, sym, ◌∙◌, get_or}
use Rattle.std.specs.Option.{option_map_or}
use Rattle.slab.specs.Slab.{get}
use Rattle.fsa_types.specs.Places.{IsAt, StandsAt}
use Rattle.fsa_types.specs.Sharing.{clashes}
use Rattle.object_tables.specs.Places.{rows_in}
use Rattle.volume_tables.specs.ShareTable.{held_at, held_in}
use Rattle.volume_tables.proofs.ShareLemmas.{held_in-none, row-in, row-none}
use Rattle.volume_tables.proofs.share_table.ShareTable.clashes.Goals as goal

pub returns-in-Err : goal.returns-in-Err
returns-in-Err c =
    let i = c.self.inside in
    let at : StandsAt i.places.items c.args.key c.in-Err.field-0 = rw c.as_slice.ensures at c.in-Err.ensures.missing in
    let none = held_in-none (rows_in i.counts i.places.items) c.args.key (row-none (get i.counts) i.places.items (2 ^ 64) c.args.key c.in-Err.field-0 c.self.invariant.0 at) in
    rw (← c.self.view_is) (ap (λ (held : List (ℕ × ℕ)). clashes held c.args.access c.args.share) (sym none))

pub returns-in-Ok : goal.returns-in-Ok
returns-in-Ok c =
    let i = c.self.inside in
    let at : IsAt i.places.items c.args.key c.in-Ok.place = rw c.as_slice.ensures at c.in-Ok.ensures.there in
    let under : (get_or i.places.items c.in-Ok.place c.at.result).1 ≡ c.at.result.1 = ap (λ (e : ℕ × ℕ). e.1) (sym c.at.ensures) in
    let was : held_in (rows_in i.counts i.places.items) c.args.key ≡ held_at i.counts c.at.result.1
    = ap (λ row. option_map_or (λ (held : List (ℕ × ℕ)). held) row []) (row-in (get i.counts) i.places.items (2 ^ 64) c.args.key c.at.result.1 c.in-Ok.place c.at.result c.self.invariant.0 at under) in
    rw (← c.self.view_is) (c.clashes_in.ensures ∙ ap (λ (held : List (ℕ × ℕ)). clashes held c.args.access c.args.share) (sym was))
