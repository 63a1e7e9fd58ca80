use Rattle.fsa_model.proofs.SoundLaws.{IsSound-with_file}
use Rattle.volume_state.specs.Content.{content_of}
use Rattle.std.proofs.Common.{◌+◌, ap, subst}
use Rattle.std.proofs.lemmas.Bool.{and_left}
use Rattle.fsa_model.specs.Lookups.{is_stream_named}
use Rattle.fsa_model.specs.Volume.{File}
use Rattle.volume_tables.specs.Space.{Admits}
use Rattle.fsa_model.proofs.RowLaws.{number-none}
use Rattle.fsa_model.proofs.SoundLaws.{next-directory, next-no_stream, next-not_root, next-unlinked, tree_of}
use Rattle.volume_state.proofs.TallyLaws.{tallied-file_added}
use Rattle.volume_state.proofs.volume.Volume.add_file.Goals as goal

pub invariant_of-self : goal.invariant_of-self
invariant_of-self c = (
  (rw (c.in-Ok.ensures.rows, c.in-Ok.ensures.last)
      (IsSound-with_file (content_of c.self.inside) c.args.file c.self.invariant.0 (rw (← c.self.view_is) at c.requires.ids_left) c.requires.point)),
  c.self.invariant.1,
  rw c.in-Ok.ensures.rows
      (tallied-file_added c.self.inside.files.rows (content_of c.self.inside).streams c.self.inside.space c.admit.new.self (c.self.inside.files.last + 1, c.args.file)
      c.self.invariant.0.tree.stream_files_live (subst (λ owner. Admits c.self.inside.space c.admit.new.self owner) (ap (λ (file : File). file.owner) c.file.view_is) c.admit.ensures) c.self.invariant.2),
  c.self.invariant.3,
  c.self.invariant.4,
  c.self.invariant.5,
)

pub returns-clause-not_root : goal.returns-clause-not_root
returns-clause-not_root c = rw c.in-Ok.ensures.id (next-not_root (content_of c.self.inside) (tree_of (content_of c.self.inside) c.self.invariant.0))

pub returns-clause-directory : goal.returns-clause-directory
returns-clause-directory c = rw (c.in-Ok.ensures.id, c.in-Ok.ensures.rows) (next-directory c.self.inside.files.rows c.self.inside.files.last c.args.file c.self.invariant.0.files_numbered.given)

pub returns-clause-unlinked : goal.returns-clause-unlinked
returns-clause-unlinked c = rw c.in-Ok.ensures.id (next-unlinked (content_of c.self.inside) (tree_of (content_of c.self.inside) c.self.invariant.0))

pub returns-clause-no_stream : goal.returns-clause-no_stream
returns-clause-no_stream c =
    rw c.in-Ok.ensures.id (λ name. number-none (is_stream_named c.self.inside.links.table (c.self.inside.files.last + 1) name) (content_of c.self.inside).streams
    (λ k d within. and_left _ _ (next-no_stream (content_of c.self.inside) (tree_of (content_of c.self.inside) c.self.invariant.0) k d within)))
