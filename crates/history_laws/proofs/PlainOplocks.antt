-- No request of an oplock and no acknowledgement ends a call for want of memory, or since all clients wait.
use Rattle.std.proofs.Common.{◌≡◌, ℕ, false, List, [], ◌∷◌, refl, inl, inr, Option, Some, None}
use Rattle.std.specs.Prelude.{fold}
use Rattle.fsa_types.specs.Oplocks.{has_read, in_both}
use Rattle.fsa_types.specs.Rows.{row_of}
use Rattle.fsa_types.specs.declared.request.Level.{Level}
use Rattle.fsa_types.specs.declared.status.Status.{Status}
use Rattle.fsa_types.specs.declared.status.Status.TheVariants.{InvalidHandle, InvalidParameter, OplockNotGranted, InvalidOplockProtocol, OplockSwitchedToNewHandle}
use Rattle.fsa_model.specs.Edits.{without_oplock}
use Rattle.fsa_model.specs.Grant.{target_of, is_not_granted, with_call_ended, with_switched, switched, with_granted, oplock_on, oplock_by, oplock_at, try_oplock, ack_keeping, ack_at, try_ack}
use Rattle.fsa_model.specs.Lookups.{handle_of}
use Rattle.fsa_model.specs.Volume.{Handle, Oplock, Volume}
use Rattle.fsa_model.specs.Starving.{EndsPlain, TriesPlain, only_settlements_give}
use Rattle.fsa_model.proofs.PlainLaws.{EndsPlain-same, EndsPlain-next, EndsPlain-end, TriesPlain-refused, TriesPlain-done, TriesPlain-if, TriesPlain-option}
use Rattle.fsa_model.proofs.RowLaws.{option_cases}

-- ---- a call that ends, and an oplock that goes

EndsPlain-call_ended : (v : Volume) (turn : Option ℕ) (status : Status) → only_settlements_give status ≡ false → EndsPlain v (with_call_ended v turn status)
EndsPlain-call_ended v None status plain = EndsPlain-same refl
EndsPlain-call_ended v (Some turn) status plain = elim (option_cases (row_of v.pending turn)) [
  | inl none ↦ rw none (EndsPlain-same refl)
  | inr some ↦ rw some.1 (EndsPlain-end some.0.call.client some.0.call.number _ (EndsPlain-same refl) plain)
]

EndsPlain-switched : (v : Volume) (oplock : Oplock) → EndsPlain v (with_switched v oplock)
EndsPlain-switched v oplock =
    EndsPlain-next {v = without_oplock v oplock.handle} (EndsPlain-same refl) (EndsPlain-call_ended (without_oplock v oplock.handle) oplock.call OplockSwitchedToNewHandle refl)

EndsPlain-all_switched : (v : Volume) (oplocks : List Oplock) → EndsPlain v (fold with_switched v oplocks)
EndsPlain-all_switched v [] = EndsPlain-same refl
EndsPlain-all_switched v (o ∷ oplocks) = EndsPlain-next (EndsPlain-switched v o) (EndsPlain-all_switched (with_switched v o) oplocks)

-- ---- an oplock that is granted, and one that is kept

EndsPlain-granted : (v : Volume) (handle key stream : ℕ) (level : Level) (turn : ℕ) → EndsPlain v (with_granted v handle key stream level turn)
EndsPlain-granted v handle key stream level turn =
    EndsPlain-next (EndsPlain-all_switched v (switched v handle key stream)) (EndsPlain-same refl)

oplock_on-plain : (v : Volume) (handle key stream : ℕ) (granted : Level) (turn : ℕ) → TriesPlain v (oplock_on v handle key stream granted turn)
unfolding oplock_on
oplock_on-plain v handle key stream granted turn =
    TriesPlain-if (is_not_granted v handle key stream granted) _ _ (λ is. TriesPlain-refused v OplockNotGranted refl)
    (λ no. record { so = EndsPlain-granted v handle key stream granted turn })

oplock_by-plain : (v : Volume) (id : ℕ) (handle : Handle) (granted : Level) (turn : ℕ) → TriesPlain v (oplock_by v id handle granted turn)
unfolding oplock_by
oplock_by-plain v id handle granted turn =
    TriesPlain-option handle.stream (λ stream. oplock_on v id handle.key stream granted turn) _
    (λ stream found. oplock_on-plain v id handle.key stream granted turn) (TriesPlain-refused v InvalidParameter refl)

oplock_at-plain : (v : Volume) (id : ℕ) (granted : Level) (turn : ℕ) → TriesPlain v (oplock_at v id granted turn)
unfolding oplock_at
oplock_at-plain v id granted turn =
    TriesPlain-option (row_of v.handles id) (λ handle. oplock_by v id handle granted turn) _
    (λ handle found. oplock_by-plain v id handle granted turn) (TriesPlain-refused v InvalidHandle refl)

pub try_oplock-plain : (v : Volume) (client handle : ℕ) (level : Level) (turn : ℕ) → TriesPlain v (try_oplock v client handle level turn)
unfolding try_oplock
try_oplock-plain v client handle level turn =
    TriesPlain-option (handle_of v client handle) (λ id. oplock_at v id level turn) _
    (λ id found. oplock_at-plain v id level turn) (TriesPlain-refused v InvalidHandle refl)

ack_keeping-plain : (v : Volume) (handle : ℕ) (kept : Level) (turn : ℕ) → TriesPlain v (ack_keeping v handle kept turn)
unfolding ack_keeping
ack_keeping-plain v handle kept turn =
    TriesPlain-if (has_read kept) _ _
    (λ is. record { so = EndsPlain-same refl })
    (λ no. TriesPlain-done v (without_oplock v handle) _ (EndsPlain-same refl) refl)

ack_at-plain : (v : Volume) (id : ℕ) (level : Level) (turn : ℕ) → TriesPlain v (ack_at v id level turn)
unfolding ack_at
ack_at-plain v id level turn =
    TriesPlain-option (target_of v id) (λ target. ack_keeping v id (in_both level target) turn) _
    (λ target found. ack_keeping-plain v id (in_both level target) turn) (TriesPlain-refused v InvalidOplockProtocol refl)

pub try_ack-plain : (v : Volume) (client handle : ℕ) (level : Level) (turn : ℕ) → TriesPlain v (try_ack v client handle level turn)
unfolding try_ack
try_ack-plain v client handle level turn =
    TriesPlain-option (handle_of v client handle) (λ id. ack_at v id level turn) _
    (λ id found. ack_at-plain v id level turn) (TriesPlain-refused v InvalidHandle refl)
