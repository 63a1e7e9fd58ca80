use Rattle.std.proofs.Common.{ℕ, ap, sym, inl, inr, refl, arith}
use Rattle.std.proofs.lemmas.Bool.{cases_Bool, eqb-true}
use Rattle.std.specs.Prelude.{◌==◌}
use Rattle.volume_tables.specs.Directories.{index_at}
use Rattle.volume_tables.proofs.DirectoryLaws.{index-beside, index-changed, index-there, placed-changed, slot-there}
use Rattle.volume_tables.proofs.names_by_directory.reserve_at.Goals as goal

pub reserve_in-requires : goal.reserve_in-requires
reserve_in-requires c = slot-there c.args.indexes.now c.args.places.now.items c.args.dir c.at-slot.result.1 c.args.place c.at-slot.result c.requires.placed c.requires.there (ap (λ (e : ℕ × ℕ). e.1) (sym c.at-slot.ensures))

pub returns-clause-placed : goal.returns-clause-placed
returns-clause-placed c =
    let new = c.reserve_in.new.indexes in
    placed-changed c.args.indexes.now new c.args.places.now.items c.args.dir c.at-slot.result.1 c.args.place c.at-slot.result (index_at new c.at-slot.result.1) c.requires.placed c.requires.there (ap (λ (e : ℕ × ℕ). e.1) (sym c.at-slot.ensures)) c.reserve_in.ensures.updates

pub returns-clause-kept : goal.returns-clause-kept
returns-clause-kept c = λ other.
    let new = c.reserve_in.new.indexes in
    let under = ap (λ (e : ℕ × ℕ). e.1) (sym c.at-slot.ensures) in
    elim (cases_Bool (other == c.args.dir)) [
      | inl here ↦ (let same = eqb-true other c.args.dir here in
          let was = index-there c.args.indexes.now c.args.places.now.items c.args.dir c.at-slot.result.1 c.args.place c.at-slot.result c.requires.placed c.requires.there under in
          let now = index-changed c.args.indexes.now new c.args.places.now.items c.args.dir c.at-slot.result.1 c.args.place c.at-slot.result (index_at new c.at-slot.result.1) c.requires.placed c.requires.there under c.reserve_in.ensures.updates in
          rw (same, was, now) c.reserve_in.ensures.kept)
      | inr differ ↦ rw (index-beside c.args.indexes.now new c.args.places.now.items c.args.dir c.at-slot.result.1 c.args.place c.at-slot.result (index_at new c.at-slot.result.1) c.requires.placed c.requires.there under c.reserve_in.ensures.updates other differ)
          (record { numbers = refl; heads = refl; room = omega arith })
    ]

pub returns-clause-room : goal.returns-clause-room
returns-clause-room c =
    let new = c.reserve_in.new.indexes in
    let under = ap (λ (e : ℕ × ℕ). e.1) (sym c.at-slot.ensures) in
    rw (index-changed c.args.indexes.now new c.args.places.now.items c.args.dir c.at-slot.result.1 c.args.place c.at-slot.result (index_at new c.at-slot.result.1) c.requires.placed c.requires.there under c.reserve_in.ensures.updates)
    c.reserve_in.ensures.room
