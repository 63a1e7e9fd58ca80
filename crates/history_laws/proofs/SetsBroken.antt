-- What the parts of the proof give each other on why oplocks change: what a try breaks, and that each change has a cause.
use Rattle.std.proofs.Common.{◌≡◌, ◌==◌, ◌⊎◌, ℕ, true, false, refl, List, [], ◌∷◌, Some, None}
use Rattle.std.specs.Prelude.{AllPairs}
use Rattle.fsa_types.specs.declared.oplock.Class.{Class}
use Rattle.fsa_types.specs.declared.oplock.HandleSet.{HandleSet}
use Rattle.fsa_types.specs.declared.request.Call.{Call}
use Rattle.fsa_types.specs.declared.request.Request.TheVariants as request
use Rattle.fsa_types.specs.declared.request.What.{What}
use Rattle.fsa_types.specs.declared.request.What.TheVariants.{Ask}
use Rattle.fsa_model.specs.Coherence.{acting_handle, acting_key}
use Rattle.fsa_model.specs.Grant.{oplock_of}
use Rattle.fsa_model.specs.Outcome.{Outcome}
use Rattle.fsa_model.specs.Settling.{may_be_held}
use Rattle.fsa_model.specs.Turn.{volume_after}
use Rattle.fsa_model.specs.Volume.{Oplock, Volume}
pub use Rattle.history_laws.specs.OplockChanges.{with_sets_broken}
use Rattle.history_laws.specs.OplockChanges.{LinksOver, Marks, MayBreak, OnStream, Opens, Renames, RenamesAbove, RenamesOver, WhyGone, WhyNow, breaks_on_stream}
use Rattle.history_laws.specs.OplockChanges as changes

-- a try of the call that comes to this changes oplocks by such breaks alone
abbrev pub BreaksSetsBy : Volume → Call → Outcome → Type 0
BreaksSetsBy v call outcome = changes.BreaksSets v call (volume_after outcome)

-- the set is one of these
abbrev pub IsOneOf : HandleSet → List HandleSet → Type 0
IsOneOf on [] = ⊥
IsOneOf on (first ∷ more) = (on ≡ first) ⊎ IsOneOf on more

-- the oplocks of the next volume are those that breaks by this class leave, of sets of which this is one
pub record BreaksSet (v : Volume) (call : Call) (class : Class) (on : HandleSet) (next : Volume) : Type 0 where
  pub sets : List HandleSet
  pub is_one : IsOneOf on sets
  pub oplocks : next.oplocks ≡ (with_sets_broken class (acting_handle v call.client call.what) (acting_key v call.client call.what) sets v).oplocks

-- the requests that may be held break oplocks, and no other may
on_stream-some : (what : What) (number : ℕ) (kind : Class) → breaks_on_stream what ≡ Some (number, kind) → may_be_held what ≡ true
on_stream-some (Ask (request.Read handle at count)) number kind is = refl
on_stream-some (Ask (request.Write handle at bytes)) number kind is = refl
on_stream-some (Ask (request.SetEnd handle end)) number kind is = refl
on_stream-some (Ask (request.Lock handle at count exclusive wait)) number kind is = refl
on_stream-some _ number kind is = cc

pub may-some : (v : Volume) (call : Call) (kind : Class) (on : HandleSet) → MayBreak v call kind on → may_be_held call.what ≡ true
may-some v call kind on (Opens path wanted share disposition options attributes key is named classed breaks) = rw is refl
may-some v call kind on (OnStream number stream is under set_so) = on_stream-some call.what number kind is
may-some v call kind on (Marks number handle is row classed set_so) = rw is refl
may-some v call kind on (Renames number path replace handle is row classed set_so) = rw is refl
may-some v call kind on (RenamesAbove number path replace handle is row classed directory set_so) = rw is refl
may-some v call kind on (RenamesOver number id path replace over handle is named living there apart free classed set_so) = rw is refl
may-some v call kind on (LinksOver number id path replace over handle is named living there apart free classed set_so) = rw is refl

-- at most one oplock is of a handle
abbrev pub OplocksDiffer : List Oplock → Type 0
OplocksDiffer oplocks = AllPairs (λ (a : Oplock) (b : Oplock). (a.handle == b.handle) ≡ false) oplocks

-- each oplock that a handle has in the next volume, and each that it no longer has, has a cause
pub record HasCauses (v : Volume) (call : Call) (turn : ℕ) (next : Volume) : Type 0 where
  pub now : (handle : ℕ) (oplock : Oplock) → oplock_of next handle ≡ Some oplock → WhyNow v call turn next handle oplock
  pub gone : (handle : ℕ) (was : Oplock) → oplock_of v handle ≡ Some was → oplock_of next handle ≡ None → WhyGone v call turn next handle was
