-- What a grant of an oplock comes to, and a refusal.
use Rattle.std.proofs.Common.{◌≡◌, ℕ, true, false, refl}
use Rattle.fsa_types.specs.declared.reply.Interim.TheVariants.{Granted}
use Rattle.fsa_types.specs.declared.request.Level.{Level}
use Rattle.fsa_types.specs.declared.status.Status.TheVariants.{OplockNotGranted}
use Rattle.fsa_model.specs.Grant.{is_not_granted, oplock_on, with_granted}
use Rattle.fsa_model.specs.Outcome.{Stay, refused}
use Rattle.fsa_model.specs.Volume.{Volume}

pub oplock-granted : (v new : Volume) (handle key stream : ℕ) (level : Level) (turn : ℕ) → is_not_granted v handle key stream level ≡ false → new ≡ with_granted v handle key stream level turn
    → oplock_on v handle key stream level turn ≡ Stay new (Granted level)
unfolding oplock_on
oplock-granted v new handle key stream level turn free is = rw (free, is) refl

pub oplock-refused : (v new : Volume) (handle key stream : ℕ) (level : Level) (turn : ℕ) → is_not_granted v handle key stream level ≡ true → new ≡ v
    → oplock_on v handle key stream level turn ≡ refused new OplockNotGranted
unfolding oplock_on
oplock-refused v new handle key stream level turn taken is = rw (taken, is) refl
