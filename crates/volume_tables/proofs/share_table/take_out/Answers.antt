use Rattle.std.proofs.Common.{◌^◌, ℕ, is_some, ap, ◌∙◌}
use Rattle.slab.specs.Slab.{get}
use Rattle.volume_tables.proofs.ShareLemmas.{held-out, opens-out, placed-out}
use Rattle.volume_tables.proofs.share_table.take_out.Goals as goal

pub remove-requires : goal.remove-requires
remove-requires c =
    let read = c.remove-slot.ensures.value in
    ap (λ (e : ℕ × ℕ). is_some (get c.args.counts.now e.1)) read ∙ c.requires.placed.there c.args.place c.remove-slot.result c.requires.there.within

pub returns-clause-placed : goal.returns-clause-placed
returns-clause-placed c =
    let read = c.remove-slot.ensures.value in
    rw c.remove-slot.ensures.items (placed-out (get c.args.counts.now) (get c.remove.new.self) c.args.places.now.items (2 ^ 64) c.args.key c.args.place c.remove-slot.result c.requires.placed c.requires.there
    (λ other differs. c.remove.ensures.updates.others other (λ same. differs (same ∙ ap (λ (e : ℕ × ℕ). e.1) read))))

pub returns-clause-held : goal.returns-clause-held
returns-clause-held c =
    let read = c.remove-slot.ensures.value in
    rw c.remove-slot.ensures.items (held-out (get c.args.counts.now) (get c.remove.new.self) c.args.places.now.items (2 ^ 64) c.args.key c.args.place c.remove-slot.result c.requires.placed c.requires.there
    (λ other differs. c.remove.ensures.updates.others other (λ same. differs (same ∙ ap (λ (e : ℕ × ℕ). e.1) read))) c.requires.empty)

pub returns-clause-opens : goal.returns-clause-opens
returns-clause-opens c =
    let read = c.remove-slot.ensures.value in
    rw c.remove-slot.ensures.items (opens-out (get c.args.counts.now) (get c.remove.new.self) c.args.places.now.items (2 ^ 64) c.args.key c.args.place c.remove-slot.result c.requires.placed c.requires.there
    (λ other differs. c.remove.ensures.updates.others other (λ same. differs (same ∙ ap (λ (e : ℕ × ℕ). e.1) read))) c.requires.others)
