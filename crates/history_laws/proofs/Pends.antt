-- How a try goes on that may leave its call pending: followed alone, or in step with the same try in the volume without any oplock,
-- in which all checks come to the same.
use Rattle.std.proofs.Common.{◌≡◌, ℕ, Bool, true, false, List, refl, Option, Some, None}
use Rattle.std.specs.Option.{option_map_or}
use Rattle.std.specs.Prelude.{if◌then◌else◌}
use Rattle.fsa_types.specs.declared.reply.Reply.{Reply}
use Rattle.fsa_types.specs.declared.request.Call.{Call}
use Rattle.fsa_model.specs.Open.{stopped}
use Rattle.fsa_model.specs.Outcome.{Outcome, Done}
use Rattle.fsa_model.specs.Try.{try_what}
use Rattle.fsa_model.specs.Volume.{Volume}
use Rattle.history_laws.specs.WhyPending.{PendsForCause}
use Rattle.history_laws.proofs.WithoutOplocks.{without_oplocks}

-- where a try that comes to this leaves the call pending, it is so for a cause
pub record Pends (v : Volume) (call : Call) (turn : ℕ) (outcome : Outcome) : Type 0 where
  pub so : PendsForCause v call turn outcome

-- it is so if the same try without oplocks comes to what is tried
pub record Beside (v : Volume) (call : Call) (turn : ℕ) (tried outcome : Outcome) : Type 0 where
  pub pends : try_what (without_oplocks v) 0 call.client call.number call.what ≡ tried → Pends v call turn outcome

-- the try goes on so in both
abbrev pub Both : Volume → Call → ℕ → (Volume → Outcome) → Type 0
Both v call turn go = Beside v call turn (go (without_oplocks v)) (go v)

module _ {v : Volume} {call : Call} {turn : ℕ} where
  pub pends-done : {w : Volume} {reply : Reply} → Pends v call turn (Done w reply)
  pends-done = record { so = tt }

  pub pends-if : (test : Bool) (one other : Outcome) → (test ≡ true → Pends v call turn one) → (test ≡ false → Pends v call turn other) → Pends v call turn (if test then one else other)
  pends-if true one other holds fails = holds refl
  pends-if false one other holds fails = fails refl

  pub pends-option : {X : Type 0} (found : Option X) (some : X → Outcome) (none : Outcome) → ((x : X) → found ≡ Some x → Pends v call turn (some x)) → (found ≡ None → Pends v call turn none)
      → Pends v call turn (option_map_or some found none)
  pends-option None some none with_some with_none = with_none refl
  pends-option (Some x) some none with_some with_none = with_some x refl

  -- stopped by a reparse point
  pub pends-stopped : (w : Volume) (file : ℕ) (rest : List ℕ) → Pends v call turn (stopped w file rest)
  unfolding stopped
  pends-stopped w file rest = search (pends-option, pends-done)

  pub beside-any : {tried outcome : Outcome} → Pends v call turn outcome → Beside v call turn tried outcome
  beside-any pends = record { pends = λ same. pends }

  pub beside-done : {tried : Outcome} {w : Volume} {reply : Reply} → Beside v call turn tried (Done w reply)
  beside-done = beside-any pends-done

  -- a test, and what is looked up, are the same in both
  pub beside-if : (test : Bool) (first second one other : Outcome) → (test ≡ true → Beside v call turn first one) → (test ≡ false → Beside v call turn second other)
      → Beside v call turn (if test then first else second) (if test then one else other)
  beside-if true first second one other holds fails = holds refl
  beside-if false first second one other holds fails = fails refl

  pub beside-option : {X : Type 0} (found : Option X) (first some : X → Outcome) (second none : Outcome) → ((x : X) → found ≡ Some x → Beside v call turn (first x) (some x))
      → (found ≡ None → Beside v call turn second none) → Beside v call turn (option_map_or first found second) (option_map_or some found none)
  beside-option None first some second none with_some with_none = with_none refl
  beside-option (Some x) first some second none with_some with_none = with_some x refl
