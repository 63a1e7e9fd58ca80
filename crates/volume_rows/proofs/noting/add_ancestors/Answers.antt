use Rattle.std.proofs.Common.{◌≡◌, ℕ, ◌+◌, ◌-◌, List, [], ◌∷◌, ◌++◌, length, Some, refl, ap, sym, ◌∙◌, arith, append_assoc, length-append}
use Rattle.std.specs.Prelude.{option_map, reverse}
use Rattle.std.proofs.lemmas.List.{length-reverse}
use Rattle.fsa_model.specs.Lookups.{link_of_file}
use Rattle.fsa_model.specs.Volume.{Link}
use Rattle.volume_rows.proofs.ChangeLemmas.{walk-up, path_units-up}
use Rattle.volume_rows.proofs.noting.add_ancestors.Goals as goal

pub add_unit-requires : goal.add_unit-requires
add_unit-requires c =
    let row : Link = c.in-Some.link.now in
    let found : option_map (λ (entry : ℕ × Link). entry.1) (link_of_file c.args.links.now.rows c.up.dir) ≡ Some row = sym c.in-Some.ensures in
    let step = walk-up c.up.more c.args.links.now.rows c.up.dir c.up.log.path row c.if-more-eq0.false found in
    let units = rw step at c.up.invariant.units in
    let own = path_units-up (c.up.more - 1) c.args.links.now.rows row.parent c.up.log.path row.name in
    let same = c.add_dir.ensures.others.1 in
    record { room = omega arith }

pub add_name-requires : goal.add_name-requires
add_name-requires c =
    let row : Link = record { parent = c.link.inside.parent; name = c.link.inside.name; file = c.link.inside.file; deleted = c.link.inside.deleted } in
    let found : option_map (λ (entry : ℕ × Link). entry.1) (link_of_file c.args.links.now.rows c.up.dir) ≡ Some row = sym (rw (← c.link.view_is) at c.in-Some.ensures) in
    let step = walk-up c.up.more c.args.links.now.rows c.up.dir c.up.log.path row c.if-more-eq0.false found in
    let units = rw step at c.up.invariant.units in
    let own = path_units-up (c.up.more - 1) c.args.links.now.rows row.parent c.up.log.path row.name in
    let same = c.add_dir.ensures.others.1 in
    let left = c.add_unit.ensures.left in
    let name : length c.units.result.now ≡ length row.name = ap (λ (units : List ℕ). length units) c.units.ensures in
    record { room = omega arith }

pub up-preserved : goal.up-preserved
up-preserved c =
    let row : Link = record { parent = c.link.inside.parent; name = c.link.inside.name; file = c.link.inside.file; deleted = c.link.inside.deleted } in
    let found : option_map (λ (entry : ℕ × Link). entry.1) (link_of_file c.args.links.now.rows c.up.dir) ≡ Some row = sym (rw (← c.link.view_is) at c.in-Some.ensures) in
    let step = walk-up c.up.more c.args.links.now.rows c.up.dir c.up.log.path row c.if-more-eq0.false found in
    let path : c.add_name.new.log.path ≡ (c.up.log.path ++ 92 ∷ []) ++ reverse row.name
    = rw (c.add_name.ensures.path, c.units.ensures, c.add_unit.ensures.path, c.add_dir.ensures.path) refl in
    let seen : c.add_name.new.log.seen ≡ c.up.log.seen ++ (c.up.dir, reverse c.up.log.path) ∷ []
    = c.add_name.ensures.same.0 ∙ c.add_unit.ensures.seen ∙ c.add_dir.ensures.seen in
    let long : length ((c.up.log.path ++ 92 ∷ []) ++ reverse row.name) ≡ length c.up.log.path + 1 + length row.name
    = omega (arith, length-append (c.up.log.path ++ 92 ∷ []) (reverse row.name), length-append c.up.log.path (92 ∷ []), length-reverse row.name) in
    let name : length c.units.result.now ≡ length row.name = ap (λ (units : List ℕ). length units) c.units.ensures in
    let units = rw step at c.up.invariant.units in
    let dirs = rw step at c.up.invariant.dirs in
    let within = rw step at c.up.invariant.within in
    let dirs_left = rw step at c.up.invariant.dirs_left in
    let units_left = c.up.invariant.units_left in
    let same_units = c.add_dir.ensures.others.1 in
    let unit_left = c.add_unit.ensures.left in
    let name_left = c.add_name.ensures.left in
    let dir_left = c.add_dir.ensures.left in
    let unit_dirs = c.add_unit.ensures.others.1 in
    let name_dirs = c.add_name.ensures.same.3 in
    record {
      seen = rw (path, seen, append_assoc) (rw step at c.up.invariant.seen);
      changes = c.add_name.ensures.same.1 ∙ c.add_unit.ensures.changes ∙ c.add_dir.ensures.changes ∙ c.up.invariant.changes;
      room = c.add_name.ensures.same.2 ∙ c.add_unit.ensures.others.0 ∙ c.add_dir.ensures.others.0 ∙ c.up.invariant.room;
      base = c.add_name.ensures.same.4 ∙ c.add_unit.ensures.others.2 ∙ c.add_dir.ensures.others.2 ∙ c.up.invariant.base;
      units = rw path (omega arith);
      dirs = rw path (omega arith);
      units_left = rw path (omega arith);
      within = rw path (omega arith);
      dirs_left = rw path (omega arith);
    }
