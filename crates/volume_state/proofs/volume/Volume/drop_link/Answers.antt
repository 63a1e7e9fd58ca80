use Rattle.std.proofs.Common.{◌≡◌, false, true, Some, sym, subst, ◌∙◌, not, ◌==◌, arith}
use Rattle.fsa_types.specs.Rows.{lives, row_of, without_row}
use Rattle.fsa_types.proofs.RowLemmas.{map-filter_seen}
use Rattle.fsa_model.specs.Lookups.{has_row}
use Rattle.fsa_model.specs.Sound.{IsSound}
use Rattle.fsa_model.specs.Volume.{Link}
use Rattle.fsa_model.proofs.RowLaws.{found-all, without_row-none}
use Rattle.fsa_model.proofs.SoundLaws.{IsSound-without_link, without_link-last, without_link-other}
use Rattle.volume_state.specs.Content.{content_of}
use Rattle.volume_state.specs.VolumeView.{VolumeView}
use Rattle.volume_state.proofs.DropLaws.{StaysWithout-without_link, units_noted-without_link, dirs_noted-without_link}
use Rattle.std.proofs.Common.{◌≡◌}
use Rattle.fsa_types.proofs.RowLemmas.{lives-map}
use Rattle.volume_state.proofs.StreamLemmas.{row_of-filter, rooms-same, AreRising-seen}
use Rattle.volume_state.proofs.TallyLaws.{clusters-few, may-resize_file, tallied-without_file}
use Rattle.volume_state.proofs.WatchedLaws.{watched-without_link}
use Rattle.volume_state.proofs.volume.Volume.drop_link.Goals as goal

-- nothing is taken out
pub invariant_of-self : goal.invariant_of-self
invariant_of-self c = (
  (let none = sym c.in_default.ensures.row in
      rw (c.in_default.ensures.table, c.in_default.ensures.rows, c.in_default.ensures.last, without_row-none c.self.inside.links.rows c.args.link none) c.self.invariant.0),
  c.self.invariant.1,
  c.self.invariant.2,
  c.self.invariant.3,
  (let none = sym c.in_default.ensures.row in rw (c.in_default.ensures.rows, without_row-none c.self.inside.links.rows c.args.link none) c.self.invariant.4),
  c.self.invariant.5,
)

pub returns-in_default-clause-content : goal.returns-in_default-clause-content
returns-in_default-clause-content c =
    let none = sym c.in_default.ensures.row in
    rw (← c.self.view_is, c.in_default.ensures.table, c.in_default.ensures.rows, c.in_default.ensures.last, without_row-none c.self.inside.links.rows c.args.link none, none)

-- the last link of a file
pub returns-then-not-has_link_of-clause-content : goal.returns-then-not-has_link_of-clause-content
returns-then-not-has_link_of-clause-content c =
    let row : Link = record { parent = c.row.inside.parent; name = c.row.inside.name; file = c.row.inside.file; deleted = c.row.inside.deleted } in
    let found : row_of c.self.inside.links.rows c.args.link ≡ Some row = sym (rw (← c.row.view_is) at c.in-Some.ensures.row) in
    let linked : has_row (λ l. l.file == c.row.inside.file) (without_row c.self.inside.links.rows c.args.link) ≡ false
    = rw (← c.in-Some.ensures.rows, ← c.by_file.ensures.rows) (sym c.has_link_of.ensures ∙ c.if-not-has_link_of.true) in
    rw (
      ← c.self.view_is,
      c.in-Some.ensures.table,
      c.in-Some.ensures.rows,
      c.in-Some.ensures.last,
      c.remove-then-not-has_link_of.ensures.rows,
      c.remove-then-not-has_link_of.ensures.last,
      c.remove_all_of.ensures.rows,
      c.remove_all_of.ensures.last,
      map-filter_seen (λ kept. kept.stream) (λ e. not (e.1.file == c.row.inside.file)) c.self.inside.streams.rows,
    )
    (sym (without_link-last (content_of c.self.inside) c.args.link row found linked))

pub invariant_of-self-then-not-has_link_of : goal.invariant_of-self-then-not-has_link_of
invariant_of-self-then-not-has_link_of c = (
  (let row : Link = record { parent = c.row.inside.parent; name = c.row.inside.name; file = c.row.inside.file; deleted = c.row.inside.deleted } in
      let found : row_of c.self.inside.links.rows c.args.link ≡ Some row = sym (rw (← c.row.view_is) at c.in-Some.ensures.row) in
      let linked : has_row (λ l. l.file == c.row.inside.file) (without_row c.self.inside.links.rows c.args.link) ≡ false
      = rw (← c.in-Some.ensures.rows, ← c.by_file.ensures.rows) (sym c.has_link_of.ensures ∙ c.if-not-has_link_of.true) in
      rw (
        c.in-Some.ensures.table,
        c.in-Some.ensures.rows,
        c.in-Some.ensures.last,
        c.remove-then-not-has_link_of.ensures.rows,
        c.remove-then-not-has_link_of.ensures.last,
        c.remove_all_of.ensures.rows,
        c.remove_all_of.ensures.last,
        map-filter_seen (λ kept. kept.stream) (λ e. not (e.1.file == c.row.inside.file)) c.self.inside.streams.rows,
      )
      (subst IsSound (without_link-last (content_of c.self.inside) c.args.link row found linked)
      (IsSound-without_link (content_of c.self.inside) c.args.link c.self.invariant.0 (rw (← c.self.view_is) at c.requires.empty) (rw (← c.self.view_is) at c.requires.unopened)))),
  c.self.invariant.1,
  (let row : Link = record { parent = c.row.inside.parent; name = c.row.inside.name; file = c.row.inside.file; deleted = c.row.inside.deleted } in
      let found : row_of c.self.inside.links.rows c.args.link ≡ Some row = sym (rw (← c.row.view_is) at c.in-Some.ensures.row) in
      let living : lives c.self.inside.files.rows c.row.inside.file ≡ true
      = rw found at (found-all (λ (link : Link). lives c.self.inside.files.rows link.file ≡ true) c.self.inside.links.rows c.args.link c.self.invariant.0.tree.link_files_live) in
      rw (c.remove-then-not-has_link_of.ensures.rows, c.remove_all_of.ensures.rows, map-filter_seen (λ kept. kept.stream) (λ e. not (e.1.file == c.row.inside.file)) c.self.inside.streams.rows)
      (tallied-without_file c.self.inside.files.rows (content_of c.self.inside).streams c.self.inside.space c.resize.new.space c.row.inside.file 0 c.self.invariant.2
      (rw c.part_of_file-part.ensures at c.resize.ensures.some) living)),
  c.self.invariant.3,
  rw c.in-Some.ensures.rows (watched-without_link c.self.inside.handles.rows c.self.inside.links.rows c.args.link c.self.inside.changes.changes c.self.inside.pending.items c.self.inside.watches.items (rw (← c.self.view_is) at c.requires.unopened) c.self.invariant.4),
  c.self.invariant.5,
)

pub part_of_file-part-requires : goal.part_of_file-part-requires
part_of_file-part-requires c =
    let sound = c.self.invariant.0 in
    let v = content_of c.self.inside in
    let few = clusters-few v.files v.streams v.last_stream sound.streams_numbered sound.bounded.streams sound.streams_fit in
    omega arith

pub resize-requires : goal.resize-requires
resize-requires c =
    let sound = c.self.invariant.0 in
    let v = content_of c.self.inside in
    rw c.part_of_file-part.ensures
    (may-resize_file v.files v.streams v.last_stream c.self.inside.space sound.streams_numbered sound.bounded.streams sound.streams_fit sound.tree.stream_files_live c.self.invariant.2 c.row.inside.file)

-- another link
pub invariant_of-self-else-not-has_link_of : goal.invariant_of-self-else-not-has_link_of
invariant_of-self-else-not-has_link_of c = (
  (let row : Link = record { parent = c.row.inside.parent; name = c.row.inside.name; file = c.row.inside.file; deleted = c.row.inside.deleted } in
      let found : row_of c.self.inside.links.rows c.args.link ≡ Some row = sym (rw (← c.row.view_is) at c.in-Some.ensures.row) in
      let linked : has_row (λ l. l.file == c.row.inside.file) (without_row c.self.inside.links.rows c.args.link) ≡ true
      = rw (← c.in-Some.ensures.rows, ← c.by_file.ensures.rows) (sym c.has_link_of.ensures ∙ c.if-not-has_link_of.false) in
      rw (c.in-Some.ensures.table, c.in-Some.ensures.rows, c.in-Some.ensures.last)
      (subst IsSound (without_link-other (content_of c.self.inside) c.args.link row found linked)
      (IsSound-without_link (content_of c.self.inside) c.args.link c.self.invariant.0 (rw (← c.self.view_is) at c.requires.empty) (rw (← c.self.view_is) at c.requires.unopened)))),
  c.self.invariant.1,
  c.self.invariant.2,
  c.self.invariant.3,
  rw c.in-Some.ensures.rows (watched-without_link c.self.inside.handles.rows c.self.inside.links.rows c.args.link c.self.inside.changes.changes c.self.inside.pending.items c.self.inside.watches.items (rw (← c.self.view_is) at c.requires.unopened) c.self.invariant.4),
  c.self.invariant.5,
)

pub returns-clause-content : goal.returns-clause-content
returns-clause-content c =
    let row : Link = record { parent = c.row.inside.parent; name = c.row.inside.name; file = c.row.inside.file; deleted = c.row.inside.deleted } in
    let found : row_of c.self.inside.links.rows c.args.link ≡ Some row = sym (rw (← c.row.view_is) at c.in-Some.ensures.row) in
    let linked : has_row (λ l. l.file == c.row.inside.file) (without_row c.self.inside.links.rows c.args.link) ≡ true
    = rw (← c.in-Some.ensures.rows, ← c.by_file.ensures.rows) (sym c.has_link_of.ensures ∙ c.if-not-has_link_of.false) in
    rw (← c.self.view_is, c.in-Some.ensures.table, c.in-Some.ensures.rows, c.in-Some.ensures.last)
    (sym (without_link-other (content_of c.self.inside) c.args.link row found linked))

pub returns-then-not-has_link_of-clause-bytes_kept : goal.returns-then-not-has_link_of-clause-bytes_kept
returns-then-not-has_link_of-clause-bytes_kept c =
    rw (← c.self.view_is) (λ stream living. rooms-same c.self.inside.streams.rows c.remove_all_of.new.self.rows stream
    (rw c.remove_all_of.ensures.rows (row_of-filter (λ entry. not (entry.1.stream.file == c.row.inside.file)) c.self.inside.streams.rows stream (AreRising-seen (λ kept. kept.stream) c.self.inside.streams.rows c.self.invariant.0.streams_numbered.rising)
    (rw (← c.remove_all_of.ensures.rows) (sym (lives-map (λ kept. kept.stream) c.remove_all_of.new.self.rows stream) ∙ living)))))

-- what a note takes
pub returns-in_default-clause-units : goal.returns-in_default-clause-units
returns-in_default-clause-units c =
    units_noted-without_link c.args.self.now.content c.args.link (subst (λ (s : VolumeView). IsSound s.content) c.self.view_is c.self.invariant.0) _ (returns-in_default-clause-content c)

pub returns-in_default-clause-dirs : goal.returns-in_default-clause-dirs
returns-in_default-clause-dirs c =
    dirs_noted-without_link c.args.self.now.content c.args.link (subst (λ (s : VolumeView). IsSound s.content) c.self.view_is c.self.invariant.0) _ (returns-in_default-clause-content c)

pub returns-then-not-has_link_of-clause-units : goal.returns-then-not-has_link_of-clause-units
returns-then-not-has_link_of-clause-units c =
    units_noted-without_link c.args.self.now.content c.args.link (subst (λ (s : VolumeView). IsSound s.content) c.self.view_is c.self.invariant.0) _ (returns-then-not-has_link_of-clause-content c)

pub returns-then-not-has_link_of-clause-dirs : goal.returns-then-not-has_link_of-clause-dirs
returns-then-not-has_link_of-clause-dirs c =
    dirs_noted-without_link c.args.self.now.content c.args.link (subst (λ (s : VolumeView). IsSound s.content) c.self.view_is c.self.invariant.0) _ (returns-then-not-has_link_of-clause-content c)

pub returns-clause-units : goal.returns-clause-units
returns-clause-units c =
    units_noted-without_link c.args.self.now.content c.args.link (subst (λ (s : VolumeView). IsSound s.content) c.self.view_is c.self.invariant.0) _ (returns-clause-content c)

pub returns-clause-dirs : goal.returns-clause-dirs
returns-clause-dirs c =
    dirs_noted-without_link c.args.self.now.content c.args.link (subst (λ (s : VolumeView). IsSound s.content) c.self.view_is c.self.invariant.0) _ (returns-clause-content c)

-- what stays
pub returns-in_default-clause-stays : goal.returns-in_default-clause-stays
returns-in_default-clause-stays c =
    StaysWithout-without_link c.args.self.now.content c.args.link (subst (λ (s : VolumeView). IsSound s.content) c.self.view_is c.self.invariant.0) c.requires.empty _ (returns-in_default-clause-content c)

pub returns-then-not-has_link_of-clause-stays : goal.returns-then-not-has_link_of-clause-stays
returns-then-not-has_link_of-clause-stays c =
    StaysWithout-without_link c.args.self.now.content c.args.link (subst (λ (s : VolumeView). IsSound s.content) c.self.view_is c.self.invariant.0) c.requires.empty _ (returns-then-not-has_link_of-clause-content c)

pub returns-clause-stays : goal.returns-clause-stays
returns-clause-stays c =
    StaysWithout-without_link c.args.self.now.content c.args.link (subst (λ (s : VolumeView). IsSound s.content) c.self.view_is c.self.invariant.0) c.requires.empty _ (returns-clause-content c)
