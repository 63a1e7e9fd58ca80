-- A write step by step.
use Rattle.std.proofs.Common.{◌≡◌, ℕ, Bool, List, length, refl}
use Rattle.fsa_types.specs.declared.reply.Body.TheVariants.{Count}
use Rattle.fsa_types.specs.declared.status.Status.TheVariants.{Success}
use Rattle.fsa_model.specs.Edits.{with_bytes}
use Rattle.fsa_model.specs.Outcome.{Done}
use Rattle.fsa_model.specs.Volume.{Volume}
use Rattle.fsa_model.specs.Lookups.{file_of_stream}
use Rattle.fsa_model.specs.Write.{lengthens, with_file_written, with_write_noted, with_written, write_bytes}

-- noted, put, and the file written
pub with_written-steps : (v noted put new : Volume) (link stream at file : ℕ) (bytes : List ℕ) (longer : Bool)
    → file ≡ file_of_stream v stream
    → longer ≡ lengthens v stream at bytes
    → noted ≡ with_write_noted v link stream longer
    → put ≡ with_bytes noted stream at bytes
    → new ≡ with_file_written put file
    → new ≡ with_written v link stream at bytes
with_written-steps v noted put new link stream at file bytes longer is_file is_longer is_noted is_put is_new = rw (is_new, is_put, is_noted, is_longer, is_file) refl

-- and it ends with its count
pub write_bytes-done : (v new : Volume) (link stream at : ℕ) (bytes : List ℕ) → new ≡ with_written v link stream at bytes → write_bytes v link stream at bytes ≡ Done new (record { status = Success; body = Count (length bytes) })
unfolding write_bytes
write_bytes-done v new link stream at bytes is_new = rw is_new refl
