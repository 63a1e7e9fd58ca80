use Rattle.std.proofs.Common.{◌≡◌, ◌∙◌, ℕ, ap, sym}
use Rattle.volume_tables.specs.Directories.{index_of}
use Rattle.object_tables.specs.Places.{rows_in}
use Rattle.link_index.specs.Directory.{DirectoryView}
use Rattle.volume_tables.proofs.DirectoryLaws.{index-there, index_in}
use Rattle.volume_tables.proofs.names_by_directory.is_empty_at.Goals as goal

pub returns-clause-numbers : goal.returns-clause-numbers
returns-clause-numbers c = λ empty.
    let is : index_of (rows_in c.args.indexes.now c.args.places.now.items) c.args.dir ≡ c.index.result.now
    = index-there c.args.indexes.now c.args.places.now.items c.args.dir c.at.result.1 c.args.place c.at.result c.requires.placed c.requires.there (ap (λ (e : ℕ × ℕ). e.1) (sym c.at.ensures)) ∙ ap index_in c.index.ensures in
    ap (λ (index : DirectoryView). index.numbers) is ∙ (c.is_empty.ensures.none empty).0

pub returns-clause-heads : goal.returns-clause-heads
returns-clause-heads c = λ empty.
    let is : index_of (rows_in c.args.indexes.now c.args.places.now.items) c.args.dir ≡ c.index.result.now
    = index-there c.args.indexes.now c.args.places.now.items c.args.dir c.at.result.1 c.args.place c.at.result c.requires.placed c.requires.there (ap (λ (e : ℕ × ℕ). e.1) (sym c.at.ensures)) ∙ ap index_in c.index.ensures in
    ap (λ (index : DirectoryView). index.heads) is ∙ (c.is_empty.ensures.none empty).1
