-- A request of an oplock, an acknowledgement and a cancellation are coherent.
use Rattle.std.proofs.Common.{◌≡◌, ℕ, Bool, true, false, refl, ap, sym, ◌∙◌, Option, Some, None}
use Rattle.std.specs.Option.{option_map_or}
use Rattle.std.specs.Prelude.{if◌then◌else◌}
use Rattle.std.proofs.lemmas.Bool.{false≢true}
use Rattle.fsa_types.specs.declared.request.Level.{Level}
use Rattle.fsa_types.specs.declared.request.Request.TheVariants.{Oplock, Ack, Cancel}
use Rattle.fsa_types.specs.declared.request.What.{What}
use Rattle.fsa_types.specs.declared.request.What.TheVariants.{Ask}
use Rattle.fsa_types.specs.declared.status.Status.{Status}
use Rattle.fsa_types.specs.Oplocks.{has_read, in_both}
use Rattle.fsa_types.specs.Rows.{row_of}
use Rattle.fsa_model.specs.Coherence.{CountsUntilCause, Acknowledged, Switched, Cancelled, key_of, key_acting, stream_under, is_own, acting_handle, acting_key, IsTied, CountsFromCause, Granted, Kept, WritersAlone}
use Rattle.fsa_model.specs.Edits.{is_call, without_oplock}
use Rattle.fsa_model.specs.Grant.{is_not_granted, oplock_on, oplock_by, oplock_at, try_oplock, target_of, with_granted, ack_keeping, ack_at, try_ack}
use Rattle.fsa_model.specs.Lookups.{handle_of, number_of}
use Rattle.fsa_model.specs.Outcome.{Outcome, refused}
use Rattle.fsa_model.specs.Turn.{volume_after}
use Rattle.fsa_model.specs.Volume.{Handle, Volume}
use Rattle.fsa_model.specs.Waiting.{with_oplock_given_up, try_cancel}
use Rattle.fsa_model.proofs.CoherenceBegins.{Falls-given_up, Falls-without_oplock, alone-granted, alone-kept, begins-granted, begins-kept, reads-left}
use Rattle.fsa_model.proofs.CoherenceFalls.{alone-falls, counts-falls}
use Rattle.fsa_model.proofs.CoherenceGrant.{KeepsBytes-oplocks, IsTied-granted, KeepsBytes-granted, ends-granted, IsTied-kept, ends-kept, ends-without, IsTied-given_up, ends-given_up}
use Rattle.fsa_model.proofs.CoherenceSteps.{KeepsBytes}
use Rattle.fsa_model.proofs.CoherenceTied.{IsTied-alike, IsUntouched-with_end, IsTied-without_oplock}

-- one try of such a call of this client keeps what coherence rests on; bytes change as they may; and what no longer
-- counts has a cause
pub record Coheres (v : Volume) (client : ℕ) (what : What) (outcome : Outcome) : Type 0 where
  pub tied : IsTied (volume_after outcome)
  pub keeps : KeepsBytes v (acting_handle v client what) (acting_key v client what) (volume_after outcome)
  pub ended : CountsUntilCause v client what outcome
  pub begins : CountsFromCause v client what (volume_after outcome)
  pub alone : WritersAlone v → WritersAlone (volume_after outcome)

pub Coheres-if : {v : Volume} {client : ℕ} {what : What} (test : Bool) (one other : Outcome) → (test ≡ true → Coheres v client what one)
    → (test ≡ false → Coheres v client what other) → Coheres v client what (if test then one else other)
Coheres-if true one other holds fails = holds refl
Coheres-if false one other holds fails = fails refl

Coheres-option : {X : Type 0} {v : Volume} {client : ℕ} {what : What} (found : Option X) (some : X → Outcome) (none : Outcome)
    → ((x : X) → found ≡ Some x → Coheres v client what (some x)) → Coheres v client what none → Coheres v client what (option_map_or some found none)
Coheres-option None some none with_some with_none = with_none
Coheres-option (Some x) some none with_some with_none = with_some x refl

pub Coheres-refused : (v : Volume) (client : ℕ) (what : What) (status : Status) → IsTied v → Coheres v client what (refused v status)
Coheres-refused v client what status tied = record {
  tied = tied;
  keeps = KeepsBytes-oplocks v v _ _ tied refl refl;
  ended = λ handle before after. absurd (false≢true (sym after ∙ before));
  begins = λ handle before after. absurd (false≢true (sym before ∙ after));
  alone = λ alone. alone;
}

-- ---- a request of an oplock

Coheres-oplock_on : (v : Volume) (client number : ℕ) (level : Level) (turn id : ℕ) (row : Handle) (stream : ℕ) → IsTied v → handle_of v client number ≡ Some id
    → row_of v.handles id ≡ Some row → row.stream ≡ Some stream → Coheres v client (Ask (Oplock number level)) (oplock_on v id row.key stream level turn)
unfolding oplock_on
Coheres-oplock_on v client number level turn id row stream tied named living on_it =
    Coheres-if (is_not_granted v id row.key stream level) _ _ (λ is. Coheres-refused v client _ _ tied)
    (λ isnt. record {
      tied = IsTied-granted v id row.key stream row level turn living refl on_it tied;
      keeps = KeepsBytes-granted v id row.key stream level turn _ _ tied;
      ended = λ handle before after. Switched number id stream turn level refl named stream_is granted (by_it handle (ends-granted v id row.key stream level turn handle tied before after));
      begins = λ handle before after. Granted number level refl (named ∙ ap (λ h. Some h) (sym (begins-granted v id row.key stream level turn handle before after)));
      alone = λ alone. alone-granted v id row.key stream row level turn tied living refl on_it isnt alone;
    })
  where
    key_is : key_of v id ≡ row.key
    key_is = rw living refl

    acting_key_is : acting_key v client (Ask (Oplock number level)) ≡ row.key
    acting_key_is = ap (key_acting v) named ∙ key_is

    stream_is : stream_under v (Some id) ≡ Some stream
    stream_is = rw living on_it

    by_it : (handle : ℕ) → is_own v handle (Some id) row.key ≡ true → is_own v handle (Some id) (acting_key v client (Ask (Oplock number level))) ≡ true
    by_it handle own = ap (is_own v handle (Some id)) acting_key_is ∙ own

    granted : (with_granted v id row.key stream level turn).oplocks ≡ (with_granted v id (acting_key v client (Ask (Oplock number level))) stream level turn).oplocks
    granted = ap (λ key. (with_granted v id key stream level turn).oplocks) (sym acting_key_is)

Coheres-oplock_at : (v : Volume) (client number : ℕ) (level : Level) (turn id : ℕ) → IsTied v → handle_of v client number ≡ Some id
    → Coheres v client (Ask (Oplock number level)) (oplock_at v id level turn)
unfolding oplock_at oplock_by
Coheres-oplock_at v client number level turn id tied named =
    Coheres-option (row_of v.handles id) _ _ (λ row living. Coheres-option row.stream _ _ (λ stream on_it. Coheres-oplock_on v client number level turn id row stream tied named living on_it)
    (Coheres-refused v client _ _ tied)) (Coheres-refused v client _ _ tied)

pub Coheres-oplock : (v : Volume) (client number : ℕ) (level : Level) (turn : ℕ) → IsTied v → Coheres v client (Ask (Oplock number level)) (try_oplock v client number level turn)
unfolding try_oplock
Coheres-oplock v client number level turn tied =
    Coheres-option (handle_of v client number) _ _ (λ id named. Coheres-oplock_at v client number level turn id tied named) (Coheres-refused v client _ _ tied)

-- ---- an acknowledgement

Coheres-ack_keeping : (v : Volume) (client number : ℕ) (asked target : Level) (turn id : ℕ) → IsTied v → handle_of v client number ≡ Some id → target_of v id ≡ Some target
    → Coheres v client (Ask (Ack number asked)) (ack_keeping v id (in_both asked target) turn)
unfolding ack_keeping
Coheres-ack_keeping v client number asked target turn id tied named answers =
    Coheres-if (has_read (in_both asked target)) _ _
    (λ stays. record {
      tied = IsTied-kept v id (in_both asked target) turn tied;
      keeps = KeepsBytes-oplocks v _ _ _ tied refl refl;
      ended = λ handle before after. (let same : handle ≡ id = ends-kept v id (in_both asked target) turn handle before after in Acknowledged number asked target refl (named ∙ ap (λ h. Some h) (sym same)) (ap (target_of v) same ∙ answers));
      begins = λ handle before after. (let same : handle ≡ id = begins-kept v id (in_both asked target) turn handle before after in
          Kept number asked target refl (named ∙ ap (λ h. Some h) (sym same)) (ap (target_of v) same ∙ answers) (reads-left asked target stays));
      alone = alone-kept v id asked target turn answers;
    })
    (λ ends. record {
      tied = IsTied-without_oplock v id tied;
      keeps = KeepsBytes-oplocks v _ _ _ tied refl refl;
      ended = λ handle before after. (let same : handle ≡ id = ends-without v id handle before after in Acknowledged number asked target refl (named ∙ ap (λ h. Some h) (sym same)) (ap (target_of v) same ∙ answers));
      begins = λ handle before after. absurd (false≢true (sym before ∙ counts-falls v (without_oplock v id) handle (Falls-without_oplock v id tied) after));
      alone = alone-falls v (without_oplock v id) (Falls-without_oplock v id tied);
    })

Coheres-ack_at : (v : Volume) (client number : ℕ) (level : Level) (turn id : ℕ) → IsTied v → handle_of v client number ≡ Some id
    → Coheres v client (Ask (Ack number level)) (ack_at v id level turn)
unfolding ack_at
Coheres-ack_at v client number level turn id tied named =
    Coheres-option (target_of v id) _ _ (λ target is. Coheres-ack_keeping v client number level target turn id tied named is) (Coheres-refused v client _ _ tied)

pub Coheres-ack : (v : Volume) (client number : ℕ) (level : Level) (turn : ℕ) → IsTied v → Coheres v client (Ask (Ack number level)) (try_ack v client number level turn)
unfolding try_ack
Coheres-ack v client number level turn tied =
    Coheres-option (handle_of v client number) _ _ (λ id named. Coheres-ack_at v client number level turn id tied named) (Coheres-refused v client _ _ tied)

-- ---- a cancellation

pub Coheres-cancel : (v : Volume) (client number : ℕ) → IsTied v → Coheres v client (Ask (Cancel number)) (try_cancel v client number)
unfolding try_cancel
Coheres-cancel v client number tied =
    Coheres-option (number_of (is_call client number) v.pending) _ _
    (λ turn is. record {
      tied = IsTied-alike _ _ (IsUntouched-with_end (with_oplock_given_up v turn) client number _) (IsTied-given_up v turn tied);
      keeps = KeepsBytes-oplocks v _ _ _ tied refl refl;
      ended = λ handle before after. Cancelled number turn refl is (ends-given_up v turn handle before after);
      begins = λ handle before after. absurd (false≢true (sym before ∙ counts-falls v (with_oplock_given_up v turn) handle (Falls-given_up v turn tied) after));
      alone = λ alone. alone-falls v (with_oplock_given_up v turn) (Falls-given_up v turn tied) alone;
    })
    (Coheres-refused v client _ _ tied)
