-- The field of a tick that is written is read again.
use Rattle.std.proofs.Common.{◌≡◌, ℕ, ◌≤◌, refl}
use Rattle.std.specs.Prelude.{Ok}
use Rattle.fsa_types.specs.declared.request.What.TheVariants.{Tick}
use Rattle.fsa_model.specs.Words.{most_id}
use Rattle.fsa_model.specs.FieldText.{number_text}
use Rattle.fsa_model.specs.ClockLines.{tick_fields}
use Rattle.script_read.proofs.SpellLemmas.{number_at-last}

pub tick_fields-again : (ticks : ℕ) → ticks ≤ most_id → tick_fields (number_text ticks) ≡ Ok (Tick ticks)
unfolding tick_fields
tick_fields-again ticks small = rw (number_at-last 4294967295 ticks small) refl
