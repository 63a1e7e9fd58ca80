-- Laws of a SetDisposition.
use Rattle.std.proofs.Common.{◌≡◌, ℕ, Bool, Some, None, refl}
use Rattle.fsa_types.specs.Rows.{row_of}
use Rattle.fsa_model.specs.SetDisposition.{delete_by, delete_marked, set_disposition_at, set_disposition_by}
use Rattle.fsa_model.specs.Volume.{Handle, Volume}

-- it doesn't look at the enumeration
set_disposition_by-bare : (v : Volume) (id : ℕ) (handle : Handle) (delete : Bool) → set_disposition_by v id (record handle { enumeration = None }) delete ≡ set_disposition_by v id handle delete
unfolding set_disposition_by delete_by delete_marked
set_disposition_by-bare v id handle delete = refl

-- what the handle of a number has open is marked
pub set_disposition_at-row : (v : Volume) (id : ℕ) (handle : Handle) (delete : Bool) → row_of v.handles id ≡ Some handle
    → set_disposition_at v id delete ≡ set_disposition_by v id (record handle { enumeration = None }) delete
unfolding set_disposition_at
set_disposition_at-row v id handle delete found = rw (found, set_disposition_by-bare v id handle delete) refl
