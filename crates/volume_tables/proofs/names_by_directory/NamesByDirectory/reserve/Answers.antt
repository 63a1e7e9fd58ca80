use Rattle.std.proofs.Common.{◌≡◌, ◌∙◌, inl, inr, refl, arith}
use Rattle.std.specs.Prelude.{◌==◌}
use Rattle.std.proofs.lemmas.Bool.{cases_Bool, eqb-true}
use Rattle.object_tables.specs.Places.{rows_in}
use Rattle.volume_tables.specs.Directories.{index_of}
use Rattle.volume_tables.proofs.DirectoryLaws.{no_names}
use Rattle.volume_tables.proofs.names_by_directory.NamesByDirectory.reserve.Goals as goal

pub returns-in_ok-reserve-in-Err-3-clause-kept : goal.returns-in_ok-reserve-in-Err-3-clause-kept
returns-in_ok-reserve-in-Err-3-clause-kept c = λ other.
    let i = c.self.inside in
    let room = c.reserve-in-Err.ensures.items in
    let slots = c.reserve-in-Err-2.ensures.rest_kept in
    let none : index_of (rows_in i.indexes i.places.items) c.args.dir ≡ no_names = rw (room, slots) at c.insert_at.ensures.none in
    elim (cases_Bool (other == c.args.dir)) [
      | inl here ↦ (let same = eqb-true other c.args.dir here in
          rw (← c.self.view_is, same, none, c.insert_at.ensures.here)
          (record { numbers = c.reserve.ensures.kept.numbers ∙ c.new-index.ensures.numbers; heads = c.reserve.ensures.kept.heads ∙ c.new-index.ensures.heads; room = omega arith }))
      | inr differ ↦ rw (← c.self.view_is, c.insert_at.ensures.others other differ, room, slots) (record { numbers = refl; heads = refl; room = omega arith })
    ]
