-- The field of a line that waits for a call or cancels one is read again as it is written.
use Rattle.std.proofs.Common.{◌≡◌, ℕ, ◌≤◌, refl}
use Rattle.std.specs.Prelude.{Ok}
use Rattle.fsa_types.specs.declared.request.What.TheVariants.{Ask, WaitFor}
use Rattle.fsa_types.specs.declared.request.Request.TheVariants.{Cancel}
use Rattle.fsa_model.specs.Words.{most_id}
use Rattle.fsa_model.specs.FieldText.{number_text}
use Rattle.fsa_model.specs.WaitLines.{cancel_fields, wait_fields}
use Rattle.script_read.proofs.SpellLemmas.{number_at-last}

pub cancel_fields-again : (number : ℕ) → number ≤ most_id → cancel_fields (number_text number) ≡ Ok (Ask (Cancel number))
unfolding cancel_fields
cancel_fields-again number small = rw (number_at-last 4294967295 number small) refl

pub wait_fields-again : (number : ℕ) → number ≤ most_id → wait_fields (number_text number) ≡ Ok (WaitFor number)
unfolding wait_fields
wait_fields-again number small = rw (number_at-last 4294967295 number small) refl
