-- An overwrite that waits for no break, step by step.
use Rattle.std.proofs.Common.{◌≡◌, ℕ, false, Some, None, refl}
use Rattle.fsa_types.specs.declared.oplock.Class.TheVariants.{Change}
use Rattle.fsa_types.specs.declared.oplock.HandleSet.TheVariants.{Stream}
use Rattle.fsa_types.specs.declared.status.Status.TheVariants.{Success}
use Rattle.fsa_model.specs.Breaks.{with_breaks}
use Rattle.fsa_model.specs.Open.{Asked, opens, overwrite_action, overwrite_existing, open_waits, with_open, with_overwritten}
use Rattle.fsa_model.specs.Volume.{Volume}

-- the breaks, then the open and the overwrite
pub overwrite_existing-goes : (v : Volume) (asked : Asked) (link file stream : ℕ) (broken new : Volume)
    → open_waits v (Stream stream) Change asked.key ≡ false
    → broken ≡ with_breaks v (Stream stream) Change None asked.key
    → new ≡ with_overwritten (with_open broken asked link (Some stream)) asked link file stream
    → overwrite_existing v asked link file stream ≡ opens new Success (overwrite_action asked.disposition)
unfolding overwrite_existing
overwrite_existing-goes v asked link file stream broken new goes is_broken is_new = rw (goes, is_new, is_broken) refl
