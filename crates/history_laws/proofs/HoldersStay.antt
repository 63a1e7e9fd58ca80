-- By a call that is no acknowledgement, unlock, close or leaving each handle goes on holding the breaks and locks that it held,
-- and none of which the number was given comes to be held.
use Rattle.std.proofs.Common.{◌≡◌, ℕ, ◌+◌, ◌≤◌, Bool, true, false, not, List, [], ◌∷◌, ◌++◌, refl, ap, sym, ◌∙◌, arith, eq-eqb, inl, inr, Option, Some, None}
use Rattle.std.specs.List.{fold, list_any}
use Rattle.std.specs.Option.{option_map_or}
use Rattle.std.specs.Prelude.{◌==◌, ◌&&◌, ◌||◌, is_some, map, if◌then◌else◌}
use Rattle.std.proofs.lemmas.Bool.{cases_Bool, eqb-true, leb-true}
use Rattle.fsa_types.specs.OplockGrants.{as_granted}
use Rattle.fsa_types.specs.Oplocks.{Effect, Stays, Ends, Begins, Lowers}
use Rattle.fsa_types.specs.declared.oplock.Class.{Class}
use Rattle.fsa_types.specs.declared.reply.Blocker.{Blocker}
use Rattle.fsa_types.specs.declared.reply.Blocker.TheVariants as blocker
use Rattle.fsa_types.specs.declared.reply.Interim.TheVariants.{Granted}
use Rattle.fsa_types.specs.declared.request.Call.{Call}
use Rattle.fsa_types.specs.declared.request.Level.{Level}
use Rattle.fsa_types.specs.declared.request.Level.TheVariants.{Nil}
use Rattle.fsa_types.specs.declared.request.Request.TheVariants.{Ack, Cancel, Close, Oplock as OplockRequest, Unlock}
use Rattle.fsa_types.specs.declared.request.What.{What}
use Rattle.fsa_types.specs.declared.request.What.TheVariants.{Ask, Leave}
use Rattle.fsa_types.specs.declared.status.Status.{Status}
use Rattle.fsa_types.specs.declared.status.Status.TheVariants.{InvalidHandle, OplockSwitchedToNewHandle, Success}
use Rattle.fsa_model.specs.Breaks.{chosen, with_break_begun, with_breaks, with_effect}
use Rattle.fsa_model.specs.Edits.{without_oplock}
use Rattle.fsa_model.specs.Grant.{oplock_at, oplock_by, oplock_on, switched, try_oplock, with_granted, with_switched}
use Rattle.fsa_model.specs.Lookups.{has_left}
use Rattle.fsa_model.specs.Outcome.{Outcome, Stay, ends_with, refused}
use Rattle.fsa_model.specs.Settling.{HasOneBreakEach, HasOneOplockEach, is_given}
use Rattle.fsa_model.specs.Try.{try, try_what}
use Rattle.fsa_model.specs.Turn.{volume_after}
use Rattle.fsa_model.specs.Volume.{Lock, Oplock, Volume}
use Rattle.fsa_model.specs.Waiting.{is_breaking, is_granted_under, try_cancel, with_cancelled}
use Rattle.fsa_model.proofs.BreakLaws.{broken, told-oplocks, with_breaks-rest}
use Rattle.fsa_model.proofs.CountLaws.{and_left, and_right, only-one}
use Rattle.fsa_model.proofs.GrantLaws.{oplocks-call_ended}
use Rattle.fsa_model.proofs.OnceLaws.{SameBlockers}
use Rattle.fsa_model.proofs.RowLaws.{any-map, any-weaker}
use Rattle.fsa_model.proofs.TryLaws.{HasOneOplockEach-kept, Keeps-breaks}
use Rattle.fsa_model.proofs.WaitLaws.{any-of_filter, badly-rest, begun, changed, chosen-well, done_to, goes_on_badly, lacks_break, last-effect, lowered, or_none, some_item, with_breaks-last}
use Rattle.history_laws.specs.Releasing.{holds, may_release}
use Rattle.history_laws.proofs.BrokenGrants.{NoBrokenGrant, blockers-ended}
use Rattle.history_laws.proofs.ByBreaks.{ByBreaks, Still, Locked, Broken, Next, TriesByBreaks}
use Rattle.history_laws.proofs.OthersRelease.{live-try}
use Rattle.history_laws.proofs.TriesByBreaks.{changes_otherwise, what-by_breaks}

-- the break of this number is in progress on the handle's oplock
abbrev is_break_of : ℕ → ℕ → Oplock → Bool
is_break_of n id oplock = is_breaking n oplock && oplock.handle == id

-- ---- one effect

lowered-old : (n id at : ℕ) (level : Level) (oplocks : List Oplock) → list_any (lacks_break at) oplocks ≡ false → list_any (is_break_of n id) (map (changed (lowered level) at) oplocks) ≡ true → list_any (is_break_of n id) oplocks ≡ true
lowered-old n id at level [] lacks is = is
lowered-old n id at level (o ∷ oplocks) lacks is =
    let parts = or_none (lacks_break at o) (list_any (lacks_break at) oplocks) lacks in
    elim (cases_Bool (o.handle == at)) [
      | inr other ↦ (let some : (is_break_of n id o || list_any (is_break_of n id) (map (changed (lowered level) at) oplocks)) ≡ true = rw other at is in
          rest (is_break_of n id o) some (lowered-old n id at level oplocks parts.1))
      | inl here ↦ (let some : (((o.number == n) && (o.handle == id)) || list_any (is_break_of n id) (map (changed (lowered level) at) oplocks)) ≡ true = rw here at is in
          let has : not (is_some o.target) ≡ false = rw here at parts.0 in
          first (is_some o.target) (o.number == n) (o.handle == id) has some (lowered-old n id at level oplocks parts.1))
    ]
  where
    rest : {b c : Bool} (a : Bool) → (a || b) ≡ true → (b ≡ true → c ≡ true) → (a || c) ≡ true
    rest true some so = refl
    rest false some so = so some

    first : {c d : Bool} (target number own : Bool) → not target ≡ false → ((number && own) || c) ≡ true → (c ≡ true → d ≡ true) → (((target && number) && own) || d) ≡ true
    first true true true has some so = refl
    first true true false has some so = so some
    first true false own has some so = so some
    first false number own has some so = cc

effect-old : (n id : ℕ) (w : Volume) (oplock : Oplock) (done : Effect) → goes_on_badly w oplock done ≡ false → n ≤ w.last_break
    → list_any (is_break_of n id) (with_effect w oplock done).oplocks ≡ true → list_any (is_break_of n id) w.oplocks ≡ true
effect-old n id w oplock Stays well had is = is
effect-old n id w oplock Ends well had is =
    any-of_filter (is_break_of n id) (λ (o : Oplock). not (o.handle == oplock.handle)) w.oplocks
    (ap (λ (oplocks : List Oplock). list_any (is_break_of n id) oplocks) (sym (told-oplocks (without_oplock w oplock.handle) oplock.call Nil false)) ∙ is)
effect-old n id w oplock (Begins level) well had is =
    any-weaker (λ o. is_break_of n id (changed (begun (w.last_break + 1) level) oplock.handle o)) (is_break_of n id) w.oplocks
    (λ o passes. elim (cases_Bool (o.handle == oplock.handle)) [
      | inr other ↦ rw other at passes
      | inl here ↦ (let new : ((w.last_break + 1 == n) && (o.handle == id)) ≡ true = rw here at passes in absurd (never (w.last_break + 1 == n) (o.handle == id) new refl))
    ])
    (sym (any-map (is_break_of n id) (changed (begun (w.last_break + 1) level) oplock.handle) w.oplocks)
    ∙ ap (λ (oplocks : List Oplock). list_any (is_break_of n id) oplocks) (sym (told-oplocks (with_break_begun w oplock.handle level) oplock.call level true)) ∙ is)
  where
    never : (new own : Bool) → (new && own) ≡ true → (w.last_break + 1 == n) ≡ new → ⊥
    never true own both is = (let same : w.last_break + 1 ≡ n = eqb-true (w.last_break + 1) n is in absurd (omega arith))
    never false own both is = cc
effect-old n id w oplock (Lowers level) well had is = lowered-old n id oplock.handle level w.oplocks well is

-- ---- all effects of a break

broken-old : (kind : Class) (n id : ℕ) (w : Volume) (oplocks : List Oplock) → list_any (λ x. goes_on_badly w x (done_to kind x)) oplocks ≡ false → n ≤ w.last_break
    → list_any (is_break_of n id) (broken kind w oplocks).oplocks ≡ true → list_any (is_break_of n id) w.oplocks ≡ true
broken-old kind n id w [] well had is = is
broken-old kind n id w (o ∷ oplocks) well had is =
    let parts = or_none (goes_on_badly w o (done_to kind o)) (list_any (λ x. goes_on_badly w x (done_to kind x)) oplocks) well in
    let last = last-effect w o (done_to kind o) in
    effect-old n id w o (done_to kind o) parts.0 had (broken-old kind n id (with_effect w o (done_to kind o)) oplocks (badly-rest kind w o oplocks parts.1) (omega arith) is)

-- ---- what changes oplocks by breaks alone, and ends no lock

-- and at most one oplock is of a handle
record StaysOld (v w : Volume) : Type 0 where
  one : HasOneOplockEach w
  breaks : v.last_break ≤ w.last_break
  locks : v.last_lock ≤ w.last_lock
  old_break : (n id : ℕ) → n ≤ v.last_break → list_any (is_break_of n id) w.oplocks ≡ true → list_any (is_break_of n id) v.oplocks ≡ true
  lock : (n id : ℕ) → n ≤ v.last_lock → holds w id (blocker.Lock n) ≡ holds v id (blocker.Lock n)

StaysOld-by : {kind : Class} {v w : Volume} → ByBreaks kind v w → HasOneOplockEach v → StaysOld v w
StaysOld-by (Still v w oplocks locks pending ended left last_break last_lock) one = record {
  one = λ handle. rw oplocks (let few = one handle in omega arith);
  breaks = omega arith;
  locks = omega arith;
  old_break = λ n id had is. (rw oplocks at is);
  lock = λ n id had. rw locks refl;
}
StaysOld-by (Locked v handle at count exclusive) one = record {
  one = one;
  breaks = omega arith;
  locks = omega arith;
  old_break = λ n id had is. is;
  lock = λ n id had. new-lock (λ (entry : ℕ × Lock). entry.0 == n && entry.1.handle == id) v.locks (v.last_lock + 1, record { handle = handle; at = at; count = count; exclusive = exclusive }) (apart n had (handle == id));
}
  where
    apart : (n : ℕ) → n ≤ v.last_lock → (own : Bool) → ((v.last_lock + 1 == n) && own) ≡ false
    apart n had own = elim (cases_Bool (v.last_lock + 1 == n)) [
      | inl is ↦ (let same : v.last_lock + 1 ≡ n = eqb-true (v.last_lock + 1) n is in absurd (omega arith))
      | inr isnt ↦ rw isnt refl
    ]

    new-lock : {X : Type 0} (p : X → Bool) (xs : List X) (x : X) → p x ≡ false → list_any p (xs ++ x ∷ []) ≡ list_any p xs
    new-lock p [] x fails = rw fails refl
    new-lock p (y ∷ xs) x fails = ap (λ rest. p y || rest) (new-lock p xs x fails)
StaysOld-by {kind} (Broken v on acting key) one = record {
  one = HasOneOplockEach-kept v (with_breaks v on kind acting key) (Keeps-breaks v on kind acting key) one;
  breaks = with_breaks-last v on kind acting key;
  locks = (let same = ap (λ (w : Volume). w.last_lock) (with_breaks-rest v on kind acting key) in omega arith);
  old_break = λ n id had is. broken-old kind n id v (chosen v on acting key) (chosen-well v on kind acting key one) had is;
  lock = λ n id had. rw (ap (λ (w : Volume). w.locks) (with_breaks-rest v on kind acting key)) refl;
}
StaysOld-by (Next u v w first second) one =
    let before : StaysOld u v = StaysOld-by first one in
    let after : StaysOld v w = StaysOld-by second before.one in
    record {
      one = after.one;
      breaks = (let low = before.breaks in let high = after.breaks in omega arith);
      locks = (let low = before.locks in let high = after.locks in omega arith);
      old_break = λ n id had is. before.old_break n id had (after.old_break n id (let low = before.breaks in omega arith) is);
      lock = λ n id had. after.lock n id (let low = before.locks in omega arith) ∙ before.lock n id had;
    }

-- ---- an oplock's request

oplocks-switched : (n id : ℕ) (oplocks : List Oplock) (v : Volume) → list_any (is_break_of n id) (fold with_switched v oplocks).oplocks ≡ true → list_any (is_break_of n id) v.oplocks ≡ true
oplocks-switched n id [] v is = is
oplocks-switched n id (o ∷ oplocks) v is =
    any-of_filter (is_break_of n id) (λ (x : Oplock). not (x.handle == o.handle)) v.oplocks
    (ap (λ (oplocks : List Oplock). list_any (is_break_of n id) oplocks) (sym (oplocks-call_ended (without_oplock v o.handle) o.call OplockSwitchedToNewHandle)) ∙ oplocks-switched n id oplocks (with_switched v o) is)

locks-switched : (oplocks : List Oplock) (v : Volume) → (fold with_switched v oplocks).locks ≡ v.locks
locks-switched [] v = refl
locks-switched (o ∷ oplocks) v = locks-switched oplocks (with_switched v o) ∙ SameBlockers.locks (blockers-ended (without_oplock v o.handle) o.call OplockSwitchedToNewHandle)

-- what a try comes to has no break or lock that comes to be held
record TriesOld (v : Volume) (outcome : Outcome) : Type 0 where
  old_break : (n id : ℕ) → n ≤ v.last_break → list_any (is_break_of n id) (volume_after outcome).oplocks ≡ true → list_any (is_break_of n id) v.oplocks ≡ true
  lock : (n id : ℕ) → n ≤ v.last_lock → holds (volume_after outcome) id (blocker.Lock n) ≡ holds v id (blocker.Lock n)

old-if : {v : Volume} (test : Bool) (one other : Outcome) → TriesOld v one → TriesOld v other → TriesOld v (if test then one else other)
old-if true one other holds fails = holds
old-if false one other holds fails = fails

old-option : {X : Type 0} {v : Volume} (found : Option X) (some : X → Outcome) (none : Outcome) → ((x : X) → TriesOld v (some x)) → TriesOld v none → TriesOld v (option_map_or some found none)
old-option None some none with_some with_none = with_none
old-option (Some x) some none with_some with_none = with_some x

old-refused : (v : Volume) (status : Status) → TriesOld v (refused v status)
old-refused v status = record { old_break = λ n id had is. is; lock = λ n id had. refl }

old-granted : (v : Volume) (id key stream : ℕ) (level : Level) (turn : ℕ) → TriesOld v (Stay (with_granted v id key stream level turn) (Granted level))
old-granted v id key stream level turn = record {
  old_break = λ n other had is. oplocks-switched n other (switched v id key stream) v (pushed n other (fold with_switched v (switched v id key stream)).oplocks is);
  lock = λ n other had. rw (locks-switched (switched v id key stream) v) refl;
}
  where
    pushed : (n other : ℕ) (oplocks : List Oplock) → list_any (is_break_of n other) (oplocks ++ as_granted id key level turn ∷ []) ≡ true → list_any (is_break_of n other) oplocks ≡ true
    pushed n other [] is = is
    pushed n other (o ∷ oplocks) is = rest (is_break_of n other o) is (pushed n other oplocks)
      where
        rest : {b c : Bool} (a : Bool) → (a || b) ≡ true → (b ≡ true → c ≡ true) → (a || c) ≡ true
        rest true some so = refl
        rest false some so = so some

old-oplock : (v : Volume) (client handle : ℕ) (level : Level) (turn : ℕ) → TriesOld v (try_oplock v client handle level turn)
unfolding try_oplock oplock_at oplock_by oplock_on
old-oplock v client handle level turn = search (old-if, old-option, old-refused, old-granted) depth 20

-- ---- a cancellation

old-given_up : (v : Volume) (turn client number : ℕ) → TriesOld v (ends_with (with_cancelled v client number turn) Success)
old-given_up v turn client number = record {
  old_break = λ n id had is. any-of_filter (is_break_of n id) (λ (o : Oplock). not (is_granted_under turn o)) v.oplocks is;
  lock = λ n id had. refl;
}

old-cancel : (v : Volume) (client number : ℕ) → TriesOld v (try_cancel v client number)
unfolding try_cancel
old-cancel v client number = search (old-option, old-refused, old-given_up) depth 20

-- ---- any call of these kinds

old-what : (v : Volume) (turn client number : ℕ) (what : What) → HasOneOplockEach v → may_release what ≡ false → TriesOld v (try_what v turn client number what)
old-what v turn client number what one other = elim (cases_Bool (changes_otherwise what)) [
  | inr breaks ↦ (let stays : StaysOld v (volume_after (try_what v turn client number what)) = StaysOld-by (TriesByBreaks.so (what-by_breaks v turn client number what breaks)) one in
      record { old_break = stays.old_break; lock = stays.lock })
  | inl more ↦ by what more other
]
  where
    by : (what : What) → changes_otherwise what ≡ true → may_release what ≡ false → TriesOld v (try_what v turn client number what)
    by (Ask (OplockRequest handle level)) more other = old-oplock v client handle level turn
    by (Ask (Cancel cancelled)) more other = old-cancel v client cancelled
    by (Ask (Ack handle level)) more other = absurd (let impossible : true ≡ false = other in cc)
    by (Ask (Unlock handle at count)) more other = absurd (let impossible : true ≡ false = other in cc)
    by (Ask (Close handle)) more other = absurd (let impossible : true ≡ false = other in cc)
    by Leave more other = absurd (let impossible : true ≡ false = other in cc)
    by _ more other = absurd (let impossible : false ≡ true = more in cc)

old-try : (v : Volume) (call : Call) (turn : ℕ) → HasOneOplockEach v → may_release call.what ≡ false → TriesOld v (try v call turn)
old-try v call turn one other = old-if (has_left v call.client) _ _ (old-refused v InvalidHandle) (old-what v turn call.client call.number call.what one other)

-- a break that lives is held by a handle, and by no other
pub holder : (v : Volume) (n : ℕ) → list_any (is_breaking n) v.oplocks ≡ true → (id : ℕ) × (holds v id (blocker.Break n) ≡ true)
holder v n lives =
    let some = some_item (is_breaking n) v.oplocks lives in
    (some.item.handle, some.is_there (is_break_of n some.item.handle) (rw (some.passes, eq-eqb some.item.handle some.item.handle refl) refl))

only_holder : (v : Volume) (n a b : ℕ) → HasOneBreakEach v → holds v a (blocker.Break n) ≡ true → holds v b (blocker.Break n) ≡ true → a ≡ b
only_holder v n a b ones first second = elim (cases_Bool (b == a)) [
  | inl same ↦ sym (eqb-true b a same)
  | inr differs ↦ absurd (
      let none : list_any (λ o. is_breaking n o && not (o.handle == a)) v.oplocks ≡ false = only-one (is_breaking n) (λ o. o.handle == a) v.oplocks (ones n) first in
      let there = any-weaker (is_break_of n b) (λ o. is_breaking n o && not (o.handle == a)) v.oplocks
      (λ o both. (let here : o.handle ≡ b = eqb-true o.handle b (and_right (is_breaking n o) (o.handle == b) both) in
      rw (and_left (is_breaking n o) (o.handle == b) both, here, differs) refl)) second in
      let impossible : true ≡ false = sym there ∙ none in cc)
]

-- each handle goes on holding what it held, and holds nothing else that was given a number
pub stays-held : (v : Volume) (call : Call) (turn : ℕ) → HasOneOplockEach v → HasOneBreakEach v → NoBrokenGrant v.oplocks → may_release call.what ≡ false
    → (id : ℕ) (b : Blocker) → is_given v b ≡ true → holds (volume_after (try v call turn)) id b ≡ holds v id b
stays-held v call turn one ones none other id (blocker.Lock n) had = TriesOld.lock (old-try v call turn one other) n id (leb-true n v.last_lock had)
stays-held v call turn one ones none other id (blocker.Break n) had = elim (cases_Bool (holds v id (blocker.Break n))) [
  | inr isnt ↦ elim (cases_Bool (holds (volume_after (try v call turn)) id (blocker.Break n))) [
    | inr neither ↦ neither ∙ sym isnt
    | inl is ↦ (let before = TriesOld.old_break (old-try v call turn one other) n id (leb-true n v.last_break had) is in let impossible : true ≡ false = sym before ∙ isnt in cc)
  ]
  | inl is ↦ (
      let lived : list_any (is_breaking n) v.oplocks ≡ true = any-weaker (is_break_of n id) (is_breaking n) v.oplocks (λ o both. and_left (is_breaking n o) (o.handle == id) both) is in
      let lives : list_any (is_breaking n) (volume_after (try v call turn)).oplocks ≡ true = live-try v call turn one none other (blocker.Break n) lived in
      let now = holder (volume_after (try v call turn)) n lives in
      let before = TriesOld.old_break (old-try v call turn one other) n now.0 (leb-true n v.last_break had) now.1 in
      let same : now.0 ≡ id = only_holder v n now.0 id ones before is in
      rw (← same) now.1 ∙ sym is)
]
