-- How much a report holds.
use Rattle.std.proofs.Common.{◌≡◌, ℕ, ◌≤◌, true, false, refl, arith, inl, inr}
use Rattle.std.specs.Prelude.{nat_le}
use Rattle.std.proofs.lemmas.Bool.{cases_Bool, leb-true}
use Rattle.fsa_types.specs.Reply.{bytes_of_body, units_of_body}
use Rattle.fsa_model.specs.Volume.{Volume}
use Rattle.fsa_model.specs.Watching.{due_size, report}

-- it has no more bytes than this, if what is due has no more where it fits its room
pub report-bytes : (v : Volume) (id room size : ℕ) → (due_size v id ≤ room → due_size v id ≤ size) → bytes_of_body (report v id room).body ≤ size
report-bytes v id room size within = elim (cases_Bool (nat_le (due_size v id) room)) [
  | inl fits ↦ rw fits (within (leb-true (due_size v id) room fits))
  | inr more ↦ rw more (omega arith)
]

-- it has no units
pub report-units : (v : Volume) (id room : ℕ) → units_of_body (report v id room).body ≡ 0
report-units v id room = elim (cases_Bool (nat_le (due_size v id) room)) [ inl fits ↦ rw fits refl | inr more ↦ rw more refl ]
