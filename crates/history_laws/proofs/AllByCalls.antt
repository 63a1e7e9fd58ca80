-- Where a try of a call but an open ends with a status that comes only behind its breaks, or is held and doesn't rename, it has
-- broken the oplocks of each set of which it may break some: the walk through its definitions in SetsByCalls says so of each
-- request that breaks. Another may break none.
use Rattle.std.proofs.Common.{◌≡◌, ℕ, false}
use Rattle.fsa_types.specs.declared.oplock.Class.{Class}
use Rattle.fsa_types.specs.declared.oplock.HandleSet.{HandleSet}
use Rattle.fsa_types.specs.declared.request.Call.{Call}
use Rattle.fsa_types.specs.declared.request.Request.TheVariants as request
use Rattle.fsa_types.specs.declared.request.What.{What}
use Rattle.fsa_types.specs.declared.request.What.TheVariants.{Ask}
use Rattle.fsa_model.specs.Frame.{asks_create}
use Rattle.fsa_model.specs.Outcome.{Outcome, Done, Stay, Hold}
use Rattle.fsa_model.specs.Try.{try_what}
use Rattle.fsa_model.specs.Volume.{Volume}
use Rattle.history_laws.specs.OplockChanges.{MayBreak, WherePast}
use Rattle.history_laws.proofs.SetsBroken.{BreaksSet, may-some}
use Rattle.history_laws.proofs.SetsByCalls.{BreaksJust, link, lock, read, rename, set_disposition, set_end, write}

-- what breaks all of them breaks each one
one-of : {v : Volume} {call : Call} {what : What} {kind : Class} {on : HandleSet} (outcome : Outcome) → BreaksJust v call what outcome → MayBreak v call kind on
    → WherePast what (BreaksSet v call kind on) outcome
one-of {v} {call} {what} {kind} {on} (Done w reply) just may = λ past. (let so = just.all past kind on may in record { sets = just.sets; is_one = so.1; oplocks = rw so.0 just.oplocks })
one-of {v} {call} {what} {kind} {on} (Hold w blockers interim) just may = λ past. (let so = just.all past kind on may in record { sets = just.sets; is_one = so.1; oplocks = rw so.0 just.oplocks })
one-of (Stay w interim) just may = tt

-- each request that may break the set, in turn
pub rest-all : (v : Volume) (call : Call) (turn : ℕ) (what : What) → call.what ≡ what → asks_create what ≡ false
    → (class : Class) (on : HandleSet) → MayBreak v call class on
    → WherePast what (BreaksSet v call class on) (try_what v turn call.client call.number what)
rest-all v call turn (Ask (request.Create path wanted share disposition options attributes key)) is opens kind on may = cc
rest-all v call turn (Ask (request.Read number at count)) is opens kind on may = one-of _ (read v call number at count is) may
rest-all v call turn (Ask (request.Write number at bytes)) is opens kind on may = one-of _ (write v call number at bytes is) may
rest-all v call turn (Ask (request.SetEnd number end)) is opens kind on may = one-of _ (set_end v call number end is) may
rest-all v call turn (Ask (request.Lock number at count exclusive wait)) is opens kind on may = one-of _ (lock v call number at count exclusive wait is) may
rest-all v call turn (Ask (request.SetDisposition number delete)) is opens kind on may = one-of _ (set_disposition v call number delete is) may
rest-all v call turn (Ask (request.Rename number path replace)) is opens kind on may = one-of _ (rename v call number path replace is) may
rest-all v call turn (Ask (request.Link number path replace)) is opens kind on may = one-of _ (link v call number path replace is) may
rest-all v call turn _ is opens kind on may = (let breaks = may-some v call kind on may in let impossible = rw is at breaks in cc)
