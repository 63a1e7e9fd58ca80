use Rattle.std.proofs.Common.{ℕ, is_some, ap, ◌∙◌}
use Rattle.slab.specs.Slab.{get}
use Rattle.volume_tables.proofs.DirectoryLaws.{index-gone, others-gone, placed-gone}
use Rattle.volume_tables.proofs.names_by_directory.take_out.Goals as goal

pub remove-requires : goal.remove-requires
remove-requires c =
    let read = c.remove-slot.ensures.value in
    ap (λ (e : ℕ × ℕ). is_some (get c.args.indexes.now e.1)) read ∙ c.requires.placed.there c.args.place c.remove-slot.result c.requires.there.within

pub returns-clause-placed : goal.returns-clause-placed
returns-clause-placed c =
    let read = c.remove-slot.ensures.value in
    rw c.remove-slot.ensures.items (placed-gone (get c.args.indexes.now) (get c.remove.new.self) c.args.places.now.items c.args.dir c.args.place c.remove-slot.result c.requires.placed c.requires.there
    (λ other differs. c.remove.ensures.updates.others other (λ same. differs (same ∙ ap (λ (e : ℕ × ℕ). e.1) read))))

pub returns-clause-none : goal.returns-clause-none
returns-clause-none c =
    let read = c.remove-slot.ensures.value in
    rw c.remove-slot.ensures.items (index-gone (get c.args.indexes.now) (get c.remove.new.self) c.args.places.now.items c.args.dir c.args.place c.remove-slot.result c.requires.placed c.requires.there
    (λ other differs. c.remove.ensures.updates.others other (λ same. differs (same ∙ ap (λ (e : ℕ × ℕ). e.1) read))))

pub returns-clause-others : goal.returns-clause-others
returns-clause-others c =
    let read = c.remove-slot.ensures.value in
    rw c.remove-slot.ensures.items (others-gone (get c.args.indexes.now) (get c.remove.new.self) c.args.places.now.items c.args.dir c.args.place c.remove-slot.result c.requires.placed c.requires.there
    (λ other differs. c.remove.ensures.updates.others other (λ same. differs (same ∙ ap (λ (e : ℕ × ℕ). e.1) read))))
