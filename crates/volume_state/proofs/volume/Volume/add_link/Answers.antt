use Rattle.fsa_model.proofs.SoundLaws.{IsSound-with_link}
use Rattle.volume_state.specs.Content.{content_of}
use Rattle.volume_state.proofs.OpenLaws.{row_of-push, units_noted-new, dirs_noted-new}
use Rattle.std.proofs.Common.{ℕ, ◌+◌, ◌==◌, ◌&&◌, refl}
use Rattle.std.proofs.lemmas.Bool.{and_from, eq-eqb}
use Rattle.fsa_model.specs.Lookups.{is_directory}
use Rattle.fsa_model.specs.Volume.{Link}
use Rattle.fsa_model.proofs.RowLaws.{any-last, or_right}
use Rattle.volume_state.proofs.WatchedLaws.{watched-link_added}
use Rattle.volume_state.proofs.volume.Volume.add_link.Goals as goal

pub invariant_of-self : goal.invariant_of-self
invariant_of-self c = (
  (rw (c.add.ensures.table, c.add.ensures.rows, c.add.ensures.last)
      (IsSound-with_link (content_of c.self.inside) c.args.parent c.args.name c.args.file c.self.invariant.0
      (rw (← c.self.view_is) at c.requires.ids_left) (rw (← c.self.view_is) at c.requires.parent) (rw (← c.self.view_is) at c.requires.leads)
      (rw (← c.self.view_is) at c.requires.unmarked) (rw (← c.self.view_is) at c.requires.file) c.requires.not_root
      (rw (← c.self.view_is) at c.requires.one_link) (rw (← c.self.view_is) at c.requires.new))),
  c.self.invariant.1,
  c.self.invariant.2,
  c.self.invariant.3,
  rw c.add.ensures.rows (watched-link_added c.self.inside.handles.rows c.self.inside.links.rows _ c.self.inside.changes.changes c.self.inside.pending.items c.self.inside.watches.items c.self.invariant.4),
  c.self.invariant.5,
)

pub returns-clause-row : goal.returns-clause-row
returns-clause-row c = rw (c.add.ensures.id, c.add.ensures.rows) (row_of-push c.self.inside.links.rows c.self.inside.links.last _ c.self.invariant.0.links_numbered.given)

pub returns-clause-units : goal.returns-clause-units
returns-clause-units c =
    rw (← c.self.view_is, c.add.ensures.id, c.add.ensures.rows) (λ stream. units_noted-new (content_of c.self.inside) c.args.parent c.args.name c.args.file stream c.self.invariant.0 (rw (← c.self.view_is) at c.requires.leads) c.requires.not_root)

pub returns-clause-dirs : goal.returns-clause-dirs
returns-clause-dirs c =
    rw (← c.self.view_is, c.add.ensures.id, c.add.ensures.rows) (λ stream. dirs_noted-new (content_of c.self.inside) c.args.parent c.args.name c.args.file stream c.self.invariant.0 (rw (← c.self.view_is) at c.requires.leads) c.requires.not_root)

pub returns-clause-directory : goal.returns-clause-directory
returns-clause-directory c =
    let last : ℕ = c.self.inside.links.last + 1 in
    rw (← c.self.view_is, c.add.ensures.id, c.add.ensures.rows) (λ directory. or_right (last == 0) _
    (any-last (λ (l : ℕ × Link). l.0 == last && is_directory c.self.inside.files.rows l.1.file) c.self.inside.links.rows _
    (and_from (last == last) (is_directory c.self.inside.files.rows c.args.file) (eq-eqb last last refl) directory)))

pub add-requires-clause-is_new : goal.add-requires-clause-is_new
add-requires-clause-is_new c = rw (← c.self.view_is) at c.requires.new
