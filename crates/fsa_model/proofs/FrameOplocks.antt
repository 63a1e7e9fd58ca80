-- The frame of a try of an oplock's request, and of the acknowledgement of a break.
use Rattle.std.proofs.Common.{◌≡◌, ℕ, List, [], ◌∷◌, refl, ap, ◌∙◌, inl, inr, Option, Some, None, arith}
use Rattle.std.specs.Prelude.{fold}
use Rattle.fsa_types.specs.Oplocks.{has_read, in_both}
use Rattle.fsa_types.specs.Rows.{row_of}
use Rattle.fsa_types.specs.declared.request.Level.{Level}
use Rattle.fsa_types.specs.declared.request.Request.TheVariants.{Oplock as OplockOf, Ack}
use Rattle.fsa_types.specs.declared.request.What.TheVariants.{Ask}
use Rattle.fsa_types.specs.declared.status.Status.{Status}
use Rattle.fsa_types.specs.declared.status.Status.TheVariants.{InvalidHandle, InvalidParameter, OplockNotGranted, InvalidOplockProtocol, OplockSwitchedToNewHandle}
use Rattle.fsa_model.specs.Edits.{without_oplock}
use Rattle.fsa_model.specs.Frame.{OnlyOplocks, InFrame, with_oplocks_of}
use Rattle.fsa_model.specs.Grant.{target_of, is_not_granted, with_call_ended, with_switched, switched, with_all_switched, with_granted, oplock_on, oplock_by, oplock_at, try_oplock, ack_keeping, ack_at, try_ack}
use Rattle.fsa_model.specs.Lookups.{handle_of}
use Rattle.fsa_model.specs.Volume.{Handle, Oplock, Volume}
use Rattle.fsa_model.proofs.FrameLaws.{AddsNothing, AddsNothing-next, AddsNothing-alike, AddsNothing-same, AddsNothing-end, is_pending-found, KeepsFrame-adds_nothing, InFrame-done, InFrame-if, InFrame-option, InFrame-refused}
use Rattle.fsa_model.proofs.RowLaws.{option_cases}

-- ---- a call that ends, and an oplock that goes

AddsNothing-call_ended : (v : Volume) (turn : Option ℕ) (status : Status) → AddsNothing v (with_call_ended v turn status)
AddsNothing-call_ended v None status = AddsNothing-same v
AddsNothing-call_ended v (Some turn) status = elim (option_cases (row_of v.pending turn)) [
  | inl none ↦ rw none (AddsNothing-same v)
  | inr some ↦ rw some.1 (AddsNothing-end some.0.call.client some.0.call.number _ (AddsNothing-same v) (is_pending-found v.pending turn some.0 some.1) (record { bytes = refl; units = refl }))
]

only-call_ended : (v : Volume) (turn : Option ℕ) (status : Status) → with_call_ended v turn status ≡ with_oplocks_of v (with_call_ended v turn status)
only-call_ended v None status = refl
only-call_ended v (Some turn) status = elim (option_cases (row_of v.pending turn)) [ inl none ↦ rw none refl | inr some ↦ rw some.1 refl ]

only-next : (u v w : Volume) → v ≡ with_oplocks_of u v → w ≡ with_oplocks_of v w → w ≡ with_oplocks_of u w
only-next u v w first second = second ∙ ap (λ (x : Volume). with_oplocks_of x w) first

AddsNothing-switched : (v : Volume) (oplock : Oplock) → AddsNothing v (with_switched v oplock)
AddsNothing-switched v oplock =
    AddsNothing-next {v = without_oplock v oplock.handle} (AddsNothing-alike v _ refl) (AddsNothing-call_ended (without_oplock v oplock.handle) oplock.call OplockSwitchedToNewHandle)

only-switched : (v : Volume) (oplock : Oplock) → with_switched v oplock ≡ with_oplocks_of v (with_switched v oplock)
only-switched v oplock =
    only-next v (without_oplock v oplock.handle) (with_switched v oplock) refl (only-call_ended (without_oplock v oplock.handle) oplock.call OplockSwitchedToNewHandle)

AddsNothing-all_switched : (v : Volume) (oplocks : List Oplock) → AddsNothing v (fold with_switched v oplocks)
AddsNothing-all_switched v [] = AddsNothing-same v
AddsNothing-all_switched v (o ∷ oplocks) = AddsNothing-next (AddsNothing-switched v o) (AddsNothing-all_switched (with_switched v o) oplocks)

only-all_switched : (v : Volume) (oplocks : List Oplock) → fold with_switched v oplocks ≡ with_oplocks_of v (fold with_switched v oplocks)
only-all_switched v [] = refl
only-all_switched v (o ∷ oplocks) =
    only-next v (with_switched v o) (fold with_switched (with_switched v o) oplocks) (only-switched v o) (only-all_switched (with_switched v o) oplocks)

-- ---- an oplock that is granted, and one that is kept

AddsNothing-granted : (v : Volume) (handle key stream : ℕ) (level : Level) (turn : ℕ) → AddsNothing v (with_granted v handle key stream level turn)
AddsNothing-granted v handle key stream level turn =
    AddsNothing-next (AddsNothing-all_switched v (switched v handle key stream)) (AddsNothing-alike (with_all_switched v handle key stream) _ refl)

only-granted : (v : Volume) (handle key stream : ℕ) (level : Level) (turn : ℕ) → OnlyOplocks v (with_granted v handle key stream level turn)
only-granted v handle key stream level turn = record {
  is = only-next v (with_all_switched v handle key stream) (with_granted v handle key stream level turn) (only-all_switched v (switched v handle key stream)) refl;
}

oplock_on-frame : (v : Volume) (client number asked handle key stream : ℕ) (level granted : Level) (turn : ℕ)
    → InFrame (record { client = client; number = number; what = Ask (OplockOf asked level) }) v (oplock_on v handle key stream granted turn)
unfolding oplock_on
oplock_on-frame v client number asked handle key stream level granted turn =
    InFrame-if (is_not_granted v handle key stream granted) _ _ (λ is. InFrame-refused _ v OplockNotGranted)
    (λ no. record { so = (KeepsFrame-adds_nothing (AddsNothing-granted v handle key stream granted turn), only-granted v handle key stream granted turn) })

oplock_by-frame : (v : Volume) (client number asked id : ℕ) (handle : Handle) (level granted : Level) (turn : ℕ)
    → InFrame (record { client = client; number = number; what = Ask (OplockOf asked level) }) v (oplock_by v id handle granted turn)
unfolding oplock_by
oplock_by-frame v client number asked id handle level granted turn =
    InFrame-option handle.stream (λ stream. oplock_on v id handle.key stream granted turn) _
    (λ stream found. oplock_on-frame v client number asked id handle.key stream level granted turn) (InFrame-refused _ v InvalidParameter)

oplock_at-frame : (v : Volume) (client number asked id : ℕ) (level granted : Level) (turn : ℕ)
    → InFrame (record { client = client; number = number; what = Ask (OplockOf asked level) }) v (oplock_at v id granted turn)
unfolding oplock_at
oplock_at-frame v client number asked id level granted turn =
    InFrame-option (row_of v.handles id) (λ handle. oplock_by v id handle granted turn) _
    (λ handle found. oplock_by-frame v client number asked id handle level granted turn) (InFrame-refused _ v InvalidHandle)

pub try_oplock-frame : (v : Volume) (client number handle : ℕ) (level : Level) (turn : ℕ)
    → InFrame (record { client = client; number = number; what = Ask (OplockOf handle level) }) v (try_oplock v client handle level turn)
unfolding try_oplock
try_oplock-frame v client number handle level turn =
    InFrame-option (handle_of v client handle) (λ id. oplock_at v id level turn) _
    (λ id found. oplock_at-frame v client number handle id level level turn) (InFrame-refused _ v InvalidHandle)

ack_keeping-frame : (v : Volume) (client number asked handle : ℕ) (level kept : Level) (turn : ℕ)
    → InFrame (record { client = client; number = number; what = Ask (Ack asked level) }) v (ack_keeping v handle kept turn)
unfolding ack_keeping
ack_keeping-frame v client number asked handle level kept turn =
    InFrame-if (has_read kept) _ _
    (λ is. record { so = (KeepsFrame-adds_nothing (AddsNothing-alike v _ refl), record { is = refl }) })
    (λ no. InFrame-done _ v (without_oplock v handle) _ (KeepsFrame-adds_nothing (AddsNothing-alike v _ refl)) (record { bytes = omega arith; units = omega arith }) refl)

ack_at-frame : (v : Volume) (client number asked id : ℕ) (level : Level) (turn : ℕ)
    → InFrame (record { client = client; number = number; what = Ask (Ack asked level) }) v (ack_at v id level turn)
unfolding ack_at
ack_at-frame v client number asked id level turn =
    InFrame-option (target_of v id) (λ target. ack_keeping v id (in_both level target) turn) _
    (λ target found. ack_keeping-frame v client number asked id level (in_both level target) turn) (InFrame-refused _ v InvalidOplockProtocol)

pub try_ack-frame : (v : Volume) (client number handle : ℕ) (level : Level) (turn : ℕ)
    → InFrame (record { client = client; number = number; what = Ask (Ack handle level) }) v (try_ack v client handle level turn)
unfolding try_ack
try_ack-frame v client number handle level turn =
    InFrame-option (handle_of v client handle) (λ id. ack_at v id level turn) _
    (λ id found. ack_at-frame v client number handle id level turn) (InFrame-refused _ v InvalidHandle)
