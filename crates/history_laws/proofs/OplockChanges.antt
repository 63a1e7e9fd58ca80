-- In each try of a history oplocks come, change and go for a cause alone.
use Rattle.std.proofs.Common.{◌≡◌, ℕ, false, List, [], refl, inl, inr}
use Rattle.std.specs.Prelude.{All}
use Rattle.std.proofs.lemmas.Bool.{cases_Bool}
use Rattle.std.proofs.lemmas.List.Elements.{All-nil}
use Rattle.fsa_types.specs.declared.oplock.Class.{Class}
use Rattle.fsa_types.specs.declared.oplock.Class.TheVariants.{Change}
use Rattle.fsa_types.specs.declared.oplock.HandleSet.{HandleSet}
use Rattle.fsa_types.specs.declared.request.Call.{Call}
use Rattle.fsa_types.specs.declared.request.Request.TheVariants as request
use Rattle.fsa_types.specs.declared.request.What.{What}
use Rattle.fsa_types.specs.declared.request.What.TheVariants.{Ask}
use Rattle.fsa_types.specs.declared.status.Status.TheVariants.{InvalidHandle}
use Rattle.fsa_model.specs.Coherence.{IsCoherentTry, IsTied, Where, acting_handle, acting_key}
use Rattle.fsa_model.specs.History.{HistoryEntry}
use Rattle.fsa_model.specs.Lookups.{has_left}
use Rattle.fsa_model.specs.Outcome.{Outcome, Done, Stay, Hold, refused}
use Rattle.fsa_model.specs.Setup.{Setup}
use Rattle.fsa_model.specs.Tries.{Tried, tries_of}
use Rattle.fsa_model.specs.Try.{try, try_what}
use Rattle.fsa_model.specs.Volume.{Volume}
use Rattle.fsa_model.specs.Waits.{waits_for}
use Rattle.fsa_model.proofs.CoherenceRuns.{run-coherent}
use Rattle.history_laws.specs.OplockChanges.{BreaksAll, ChangesForCause, MayBreak, OplocksChangeForCause, Same, WherePast, changes_own, ends_only_behind_breaks, ends_unawaited}
use Rattle.history_laws.proofs.AllByCalls.{rest-all}
use Rattle.history_laws.proofs.AllByOpens.{open-all, open-waits}
use Rattle.history_laws.proofs.AllOfSets.{all-within}
use Rattle.history_laws.proofs.CausesOfBreaks.{causes-of_breaks}
use Rattle.history_laws.proofs.CausesOfCalls.{causes-of_call}
use Rattle.history_laws.proofs.NoneBefore.{none-before}
use Rattle.history_laws.proofs.SetsBroken.{BreaksSet, BreaksSetsBy}
use Rattle.history_laws.proofs.SetsByCalls.{rest-breaks}
use Rattle.history_laws.proofs.SetsByOpens.{open-breaks}
use Rattle.history_laws.proofs.WaitsByCalls.{rest-waits}

-- what a call breaks that has to do with oplocks of others alone
what-breaks : (v : Volume) (call : Call) (turn : ℕ) (what : What) → call.what ≡ what → changes_own what ≡ false → BreaksSetsBy v call (try_what v turn call.client call.number what)
what-breaks v call turn (Ask (request.Create path wanted share disposition options attributes key)) is others = open-breaks v call path wanted share disposition options attributes key is
what-breaks v call turn what is others = rest-breaks v call turn what is others refl

what-all : (v : Volume) (call : Call) (turn : ℕ) (what : What) → call.what ≡ what → (class : Class) (on : HandleSet) → MayBreak v call class on
    → WherePast what (BreaksSet v call class on) (try_what v turn call.client call.number what)
what-all v call turn (Ask (request.Create path wanted share disposition options attributes key)) is = open-all v call path wanted share disposition options attributes key is
what-all v call turn what is = rest-all v call turn what is refl

-- what an outcome's volume is comes to what follows from that
past-so : (what : What) (One Other : Volume → Type 0) → ((w : Volume) → One w → Other w) → (outcome : Outcome) → WherePast what One outcome → WherePast what Other outcome
past-so what One Other so (Done w reply) holds = λ past. so w (holds past)
past-so what One Other so (Stay w interim) holds = holds
past-so what One Other so (Hold w blockers interim) holds = λ stays. so w (holds stays)

breaks-all : (v : Volume) (call : Call) (turn : ℕ) → IsTied v → BreaksAll v call (try_what v turn call.client call.number call.what)
breaks-all v call turn tied class on may =
    past-so call.what (BreaksSet v call class on) _
    (λ w broken handle oplock found chosen. all-within class (acting_handle v call.client call.what) (acting_key v call.client call.what) broken.sets on v tied.oplocks_differ broken.is_one
    handle oplock (rw broken.oplocks at found) chosen)
    (try_what v turn call.client call.number call.what) (what-all v call turn call.what refl class on may)

-- what it waits for
what-waits : (v : Volume) (call : Call) (turn : ℕ) (what : What) → call.what ≡ what → (class : Class) (on : HandleSet) → MayBreak v call class on
    → Where (λ reply. ends_unawaited what class reply.status)
    (λ (next : Volume). waits_for v on class (acting_handle v call.client call.what) (acting_key v call.client call.what) ≡ false) (try_what v turn call.client call.number what)
what-waits v call turn (Ask (request.Create path wanted share disposition options attributes key)) is class on may =
    rw is (open-waits v call path wanted share disposition options attributes key is class on may)
what-waits v call turn what is class on may = rest-waits v call turn what is refl class on may

-- ---- one try

what-causes : (v : Volume) (call : Call) (turn : ℕ) → IsTied v → ChangesForCause v call turn (try_what v turn call.client call.number call.what)
what-causes v call turn tied = elim (cases_Bool (changes_own call.what)) [
  | inl own ↦ (let causes = causes-of_call v call turn call.what tied refl own in record {
    now = causes.now;
    gone = causes.gone;
    breaks = λ others. cc;
    before = λ others. cc;
    all = breaks-all v call turn tied;
    unawaited = λ class on may. what-waits v call turn call.what refl class on may;
  })
  | inr others ↦ (let breaks = what-breaks v call turn call.what refl others in
      let causes = causes-of_breaks v call turn (try_what v turn call.client call.number call.what) tied.oplocks_differ breaks in record {
        now = causes.now;
        gone = causes.gone;
        breaks = λ _. breaks;
        before = λ _. none-before v call turn call.what refl others;
        all = breaks-all v call turn tied;
        unawaited = λ class on may. what-waits v call turn call.what refl class on may;
      })
]

-- a client that has left is refused, with a status that comes only before breaks
past-none : (what : What) → ends_only_behind_breaks what InvalidHandle ≡ false
past-none (Ask (request.Create path wanted share disposition options attributes key)) = refl
past-none (Ask (request.Read number at count)) = refl
past-none (Ask (request.Write number at bytes)) = refl
past-none (Ask (request.SetEnd number end)) = refl
past-none (Ask (request.Lock number at count exclusive wait)) = refl
past-none (Ask (request.SetDisposition number delete)) = refl
past-none (Ask (request.Rename number path replace)) = refl
past-none (Ask (request.Link number path replace)) = refl
past-none _ = refl

left-causes : (v : Volume) (call : Call) (turn : ℕ) → ChangesForCause v call turn (refused v InvalidHandle)
left-causes v call turn = record {
  now = λ handle oplock found. Same found;
  gone = λ handle was found none. cc;
  breaks = λ others. record { class = Change; sets = []; may = All-nil _; oplocks = refl };
  before = λ others other_end. refl;
  all = λ class on may past. (let none = past-none call.what in let impossible = rw none at past in cc);
  unawaited = λ class on may past. (let none = past-none call.what in let impossible = rw none at past in cc);
}

try-causes : (v : Volume) (call : Call) (turn : ℕ) → IsTied v → ChangesForCause v call turn (try v call turn)
try-causes v call turn tied = elim (cases_Bool (has_left v call.client)) [
  | inl left ↦ rw left (left-causes v call turn)
  | inr here ↦ rw here (what-causes v call turn tied)
]

-- ---- all tries of a history

each-cause : (tries : List Tried) → All IsCoherentTry tries → All (λ (t : Tried). ChangesForCause t.before t.call t.turn (try t.before t.call t.turn)) tries
each-cause tries coherent k d within = (let it = coherent k d within in try-causes _ _ _ it.tied)

pub oplocks-change_for_cause : (setup : Setup) (history : List HistoryEntry) → OplocksChangeForCause setup history
oplocks-change_for_cause setup history = each-cause (tries_of setup history) (run-coherent setup history).tries
