-- What an answer to a break comes to.
use Rattle.std.proofs.Common.{◌≡◌, ℕ, true, false, refl, inl, inr}
use Rattle.std.proofs.lemmas.Bool.{cases_Bool}
use Rattle.fsa_types.specs.Oplocks.{has_read}
use Rattle.fsa_types.specs.declared.reply.Body.TheVariants.{Left}
use Rattle.fsa_types.specs.declared.reply.Interim.TheVariants.{Granted}
use Rattle.fsa_types.specs.declared.request.Level.{Level}
use Rattle.fsa_types.specs.declared.request.Level.TheVariants.{Nil}
use Rattle.fsa_types.specs.declared.status.Status.TheVariants.{Success}
use Rattle.fsa_model.specs.Grant.{ack_keeping, with_answer}
use Rattle.fsa_model.specs.Volume.{Volume}
use Rattle.volume_state.specs.Tried.{Gives}
use Rattle.volume_state.specs.declared.tried.Tried.{Tried}
use Rattle.volume_state.specs.declared.tried.Tried.TheVariants as tried

-- where this level stays, and is told so, the answer is the definition's
pub gives_answer : (v : Volume) (handle : ℕ) (kept : Level) (turn : ℕ) (given : Tried) → (has_read kept ≡ true → given ≡ tried.Stay (Granted kept))
    → (has_read kept ≡ false → given ≡ tried.Done (record { status = Success; body = Left Nil })) → Gives (ack_keeping v handle kept turn) v (with_answer v handle kept turn) given
unfolding ack_keeping
gives_answer v handle kept turn given some none = elim (cases_Bool (has_read kept)) [
  | inl read ↦ rw (some read, read) refl
  | inr nothing ↦ rw (none nothing, nothing) refl
]
