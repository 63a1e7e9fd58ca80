-- Laws of a close.
use Rattle.std.proofs.Common.{◌≡◌, ℕ, Some, None, refl}
use Rattle.fsa_types.specs.Rows.{row_of}
use Rattle.fsa_types.specs.declared.status.Status.TheVariants.{Success}
use Rattle.fsa_model.specs.Close.{close_at, with_closed}
use Rattle.fsa_model.specs.Outcome.{ends_with}
use Rattle.fsa_model.specs.Volume.{Handle, Volume}

-- a close doesn't look at the enumeration
pub with_closed-bare : (v : Volume) (id : ℕ) (handle : Handle) → with_closed v id (record handle { enumeration = None }) ≡ with_closed v id handle
unfolding with_closed
with_closed-bare v id handle = refl

-- the handle of a number is closed
pub close_at-row : (v : Volume) (id : ℕ) (handle : Handle) → row_of v.handles id ≡ Some handle → close_at v id ≡ ends_with (with_closed v id (record handle { enumeration = None })) Success
unfolding close_at
close_at-row v id handle found = rw (found, with_closed-bare v id handle) refl
