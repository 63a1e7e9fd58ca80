-- What a try in a volume without oplocks comes to. No oplock is chosen there to be broken, so breaks leave the volume as it is,
-- and no call waits for one. That the try comes to an outcome that comes only behind the checks that stand before its breaks is
-- shown branch by branch. A walk along a path comes to the same there.
use Rattle.std.proofs.Common.{◌≡◌, ℕ, ◌+◌, Bool, true, false, List, [], ◌∷◌, length, refl, inl, inr, Option, Some, None}
use Rattle.std.specs.Option.{option_map_or}
use Rattle.std.specs.Prelude.{◌==◌, if◌then◌else◌}
use Rattle.std.proofs.lemmas.Bool.{cases_Bool}
use Rattle.fsa_types.specs.declared.oplock.Class.{Class}
use Rattle.fsa_types.specs.declared.oplock.HandleSet.{HandleSet}
use Rattle.fsa_types.specs.declared.reply.Blocker.{Blocker}
use Rattle.fsa_types.specs.declared.reply.Interim.TheVariants as interim
use Rattle.fsa_types.specs.declared.reply.Reply.{Reply}
use Rattle.fsa_types.specs.declared.request.Call.{Call}
use Rattle.fsa_types.specs.declared.request.What.{What}
use Rattle.fsa_types.specs.declared.status.Status.{Status}
use Rattle.fsa_model.specs.Outcome.{Outcome, Done, Hold}
use Rattle.fsa_model.specs.Try.{try_what}
use Rattle.fsa_model.specs.Volume.{Volume}
use Rattle.fsa_model.specs.Waits.{waits_for, held_by}
use Rattle.fsa_model.specs.Walk.{Walked, Reached, Barred, Diverted, into, then_walk, walk_from}
use Rattle.history_laws.specs.OplockChanges.{acts_on_directory, may_end_behind_breaks}
use Rattle.history_laws.specs.WhyPending.{IsBehindChecks}

-- the volume with no oplock
abbrev pub without_oplocks : Volume → Volume
without_oplocks v = record v { oplocks = [] }

goes_alike : (one other : ℕ → Walked) → ((dir : ℕ) → one dir ≡ other dir) → (walked : Walked) → then_walk one walked ≡ then_walk other walked
goes_alike one other alike (Reached dir) = alike dir
goes_alike one other alike (Barred status) = refl
goes_alike one other alike (Diverted file next) = refl

pub walks_alike : (v : Volume) (names : List (List ℕ)) (dir place : ℕ) → walk_from (without_oplocks v) dir place names ≡ walk_from v dir place names
walks_alike v [] dir place = refl
walks_alike v (name ∷ names) dir place = elim (cases_Bool (length names == 0)) [
  | inl last ↦ rw last refl
  | inr inner ↦ rw inner (goes_alike _ _ (λ next. walks_alike v names next (place + 1)) (into v dir name (place + 1)))
]

-- a call that asks for this comes to such an outcome only behind its checks
pub record Behind (directory : Bool) (what : What) (outcome : Outcome) : Type 0 where
  pub so : IsBehindChecks directory what outcome

-- tried in this volume with no oplock, this call passes them
abbrev pub Passes : Volume → Call → Type 0
Passes v call = Behind (acts_on_directory v call) call.what (try_what (without_oplocks v) 0 call.client call.number call.what)

module _ {directory : Bool} {what : What} where
  pub behind-done : {w : Volume} {reply : Reply} → may_end_behind_breaks directory what reply.status ≡ true → Behind directory what (Done w reply)
  behind-done ends = record { so = ends }

  pub behind-locks : {w : Volume} {blockers : List Blocker} → Behind directory what (Hold w blockers interim.LockWait)
  behind-locks = record { so = tt }

  pub behind-if : (test : Bool) (one other : Outcome) → Behind directory what one → Behind directory what other → Behind directory what (if test then one else other)
  behind-if true one other holds fails = holds
  behind-if false one other holds fails = fails

  pub behind-option : {X : Type 0} (found : Option X) (some : X → Outcome) (none : Outcome) → ((x : X) → Behind directory what (some x)) → Behind directory what none
      → Behind directory what (option_map_or some found none)
  behind-option None some none with_some with_none = with_none
  behind-option (Some x) some none with_some with_none = with_some x

  -- it ends for one fault or the other, or goes on
  pub behind-fault : (test : Bool) (one other : Option Status) (faulted : Status → Outcome) (goes : Outcome) → Behind directory what (option_map_or faulted one goes)
      → Behind directory what (option_map_or faulted other goes) → Behind directory what (option_map_or faulted (if test then one else other) goes)
  behind-fault true one other faulted goes holds fails = holds
  behind-fault false one other faulted goes holds fails = fails

  -- it waits for no break, and goes on
  pub behind-breaks : (v : Volume) (on : HandleSet) (kind : Class) (acting : Option ℕ) (key : ℕ) (outcome : Outcome) → Behind directory what outcome
      → Behind directory what (if waits_for (without_oplocks v) on kind acting key then held_by (without_oplocks v) on kind acting key else outcome)
  behind-breaks v on kind acting key outcome goes = goes

pub ruleset behind = (behind-breaks, behind-if, behind-option, behind-done, behind-locks, behind-fault, refl)
