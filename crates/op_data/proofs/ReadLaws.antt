-- A read by the bytes that it gives.
use Rattle.std.proofs.Common.{◌≡◌, ℕ, List, length, refl, inl, inr, Option}
use Rattle.std.specs.Prelude.{nat_le}
use Rattle.std.specs.Option.{option_map_or}
use Rattle.std.proofs.lemmas.Bool.{cases_Bool}
use Rattle.fsa_types.specs.declared.reply.Body.TheVariants.{Got}
use Rattle.fsa_types.specs.declared.status.Status.TheVariants.{Success, EndOfFile}
use Rattle.fsa_model.specs.Lookups.{bytes_of}
use Rattle.fsa_model.specs.Outcome.{Done, refused}
use Rattle.fsa_model.specs.Read.{read_bytes}
use Rattle.fsa_model.specs.Volume.{Volume}
use Rattle.op_data.specs.Conditions.{part_at}

-- it succeeds with them, and is refused where there are none
pub reads_part : (v : Volume) (stream at count : ℕ) (part : Option (List ℕ)) → part ≡ part_at v stream at count
    → read_bytes v stream at count ≡ option_map_or (λ bytes. Done v (record { status = Success; body = Got bytes })) part (refused v EndOfFile)
unfolding read_bytes
reads_part v stream at count part is_part = elim (cases_Bool (nat_le (length (bytes_of v stream)) at)) [
  | inl end ↦ rw (is_part, end) refl
  | inr more ↦ rw (is_part, more) refl
]
