-- An open that is held, or ends with a status with which it ends behind its breaks alone, has broken all oplocks that it may
-- break: those of the directory or the stream that its path names, where it clashes with a handle, overwrites, or wants more than
-- the rights to attributes. Where it ends so, but not beside its breaks, it has to wait for none of them.
use Rattle.std.proofs.Common.{◌≡◌, not, ℕ, Bool, true, false, List, [], ◌∷◌, refl, sym, ◌∙◌, Some, None, inl}
use Rattle.fsa_types.specs.Access.{map_generic}
use Rattle.fsa_types.specs.declared.oplock.Class.{Class}
use Rattle.fsa_types.specs.declared.oplock.HandleSet.{HandleSet}
use Rattle.fsa_types.specs.declared.request.Call.{Call}
use Rattle.fsa_types.specs.declared.request.Disposition.{Disposition}
use Rattle.fsa_types.specs.declared.request.Request.TheVariants as request
use Rattle.fsa_types.specs.declared.request.What.TheVariants.{Ask}
use Rattle.fsa_model.specs.Breaks.{with_breaks}
use Rattle.fsa_model.specs.Coherence.{Where, set_of_path}
use Rattle.fsa_model.specs.Lookups.{clashes_on}
use Rattle.fsa_model.specs.Open.{Asked, try_create}
use Rattle.fsa_model.specs.Outcome.{Outcome, Done, Stay, Hold}
use Rattle.fsa_model.specs.Volume.{Volume}
use Rattle.fsa_model.specs.Waits.{waits_for}
use Rattle.fsa_model.proofs.CountLaws.{and_left}
use Rattle.history_laws.specs.OplockChanges.{MayBreak, Opens, OnStream, Marks, Renames, RenamesAbove, RenamesOver, LinksOver, WherePast, breaks_by_open, breaks_on_stream, class_of_open, ends_only_behind_breaks, may_go_beside, ends_unawaited}
use Rattle.history_laws.proofs.SetsBroken.{BreaksSet}
use Rattle.history_laws.proofs.SetsByOpens.{BreaksNamed, Nothing, Named, named-create, opens_so}

-- ---- the open that the call asks for

-- what the open of the path may break by this class: the set that the path names, where the open breaks oplocks
record MayByOpen (v : Volume) (asked : Asked) (class : Class) (on : HandleSet) : Type 0 where
  named : set_of_path v asked.path ≡ Some on
  of_open : class ≡ class_of_open (clashes_on v on (map_generic asked.wanted) asked.share) asked.disposition
  breaks : breaks_by_open (clashes_on v on (map_generic asked.wanted) asked.share) asked.disposition (map_generic asked.wanted) ≡ true

abbrev asked_by : Call → List ℕ → ℕ → ℕ → Disposition → ℕ → ℕ → ℕ → Asked
asked_by call path wanted share disposition options attributes key =
    record { client = call.client; number = call.number; path = path; wanted = wanted; share = share; disposition = disposition; options = options; attributes = attributes; key = key }

-- so it may where the call may: the other causes are of other requests
may-by-open : {v : Volume} {call : Call} {path : List ℕ} {wanted share : ℕ} {disposition : Disposition} {options attributes key : ℕ} {class : Class} {on : HandleSet}
    → call.what ≡ Ask (request.Create path wanted share disposition options attributes key) → MayBreak v call class on
    → MayByOpen v (asked_by call path wanted share disposition options attributes key) class on
may-by-open {path} {wanted} {share} {disposition} is (Opens path2 wanted2 share2 disposition2 options2 attributes2 key2 is2 named of_open breaks) =
    let paths : path2 ≡ path = cc in let rights : wanted2 ≡ wanted = cc in let shares : share2 ≡ share = cc in let dispositions : disposition2 ≡ disposition = cc in
    record { named = rw paths at named; of_open = rw (rights, shares, dispositions) at of_open; breaks = rw (rights, shares, dispositions) at breaks }
may-by-open {call} is (OnStream number stream of_stream _ _) = let none : breaks_on_stream call.what ≡ None = rw is refl in cc
may-by-open is (Marks number handle other _ _ _) = cc
may-by-open is (Renames number path2 replace handle other _ _ _) = cc
may-by-open is (RenamesAbove number path2 replace handle other _ _ _ _) = cc
may-by-open is (RenamesOver number id path2 replace link handle other _ _ _ _ _ _ _) = cc
may-by-open is (LinksOver number id path2 replace link handle other _ _ _ _ _ _ _) = cc

-- ---- what it breaks, and what it waits for

-- no open that may break some oplocks is one that may break none
none-may : {next : Type 0} (test : Bool) → test ≡ true → test ≡ false → next
none-may test holds fails = let no : true ≡ false = sym holds ∙ fails in cc

-- the path names one set, and the open breaks it by one class
one-set : {v : Volume} {asked : Asked} {class class2 : Class} {on on2 : HandleSet} → MayByOpen v asked class on → set_of_path v asked.path ≡ Some on2
    → class2 ≡ class_of_open (clashes_on v on2 (map_generic asked.wanted) asked.share) asked.disposition → (on2 ≡ on) × (class2 ≡ class)
one-set {on} {on2} may named2 of_open2 =
    let both : Some on2 ≡ Some on = sym named2 ∙ MayByOpen.named may in let sets : on2 ≡ on = cc in
    (sets, of_open2 ∙ rw sets refl ∙ sym (MayByOpen.of_open may))

pub open-all : (v : Volume) (call : Call) (path : List ℕ) (wanted share : ℕ) (disposition : Disposition) (options attributes key : ℕ)
    → call.what ≡ Ask (request.Create path wanted share disposition options attributes key)
    → (class : Class) (on : HandleSet) → MayBreak v call class on
    → WherePast (Ask (request.Create path wanted share disposition options attributes key)) (BreaksSet v call class on) (try_create v (record { client = call.client; number = call.number; path = path; wanted = wanted; share = share; disposition = disposition; options = options; attributes = attributes; key = key }))
open-all v call path wanted share disposition options attributes key is class on may = all (try_create v asked) (named-create v asked)
  where
    asked : Asked
    asked = asked_by call path wanted share disposition options attributes key

    by_open : MayByOpen v asked class on
    by_open = may-by-open is may

    set_broken : (next : Volume) → next.oplocks ≡ (with_breaks v on class None key).oplocks → BreaksSet v call class on next
    set_broken next oplocks = record { sets = on ∷ []; is_one = inl refl; oplocks = rw is oplocks }

    all : (outcome : Outcome) → BreaksNamed v asked outcome → WherePast (opens_so asked) (BreaksSet v call class on) outcome
    all (Done next reply) (Nothing _ none) = λ ends. none-may _ (MayByOpen.breaks by_open) (none ends on (MayByOpen.named by_open))
    all (Done next reply) (Named _ _ named2 of_open2 _ oplocks _) = λ ends. (let one = one-set by_open named2 of_open2 in set_broken next (oplocks ∙ rw (one.0, one.1) refl))
    all (Stay _ _) _ = tt
    all (Hold next _ _) (Nothing _ none) = λ opens. none-may _ (MayByOpen.breaks by_open) (none opens on (MayByOpen.named by_open))
    all (Hold next _ _) (Named _ _ named2 of_open2 _ oplocks _) = λ opens. (let one = one-set by_open named2 of_open2 in set_broken next (oplocks ∙ rw (one.0, one.1) refl))

pub open-waits : (v : Volume) (call : Call) (path : List ℕ) (wanted share : ℕ) (disposition : Disposition) (options attributes key : ℕ)
    → call.what ≡ Ask (request.Create path wanted share disposition options attributes key)
    → (class : Class) (on : HandleSet) → MayBreak v call class on
    → Where (λ reply. ends_unawaited (Ask (request.Create path wanted share disposition options attributes key)) class reply.status)
    (λ (next : Volume). waits_for v on class None key ≡ false) (try_create v (record { client = call.client; number = call.number; path = path; wanted = wanted; share = share; disposition = disposition; options = options; attributes = attributes; key = key }))
open-waits v call path wanted share disposition options attributes key is class on may = waits (try_create v asked) (named-create v asked)
  where
    asked : Asked
    asked = asked_by call path wanted share disposition options attributes key

    by_open : MayByOpen v asked class on
    by_open = may-by-open is may

    waits : (outcome : Outcome) → BreaksNamed v asked outcome → Where (λ reply. ends_unawaited (opens_so asked) class reply.status) (λ (next : Volume). waits_for v on class None key ≡ false) outcome
    waits (Done next reply) (Nothing _ none) = λ ends.
        none-may _ (MayByOpen.breaks by_open) (none (and_left (ends_only_behind_breaks (opens_so asked) reply.status) (not (may_go_beside (opens_so asked) class reply.status)) ends) on (MayByOpen.named by_open))
    waits (Done next reply) (Named _ _ named2 of_open2 _ _ waited) = λ ends. (let one = one-set by_open named2 of_open2 in rw (one.0, one.1) at waited ends)
    waits (Stay _ _) _ = tt
    waits (Hold _ _ _) _ = tt
