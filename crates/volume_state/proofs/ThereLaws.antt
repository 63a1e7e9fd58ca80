-- Which breaks and locks are still there, as locks and oplocks come and go.
use Rattle.std.proofs.Common.{◌≡◌, ℕ, suc, ◌+◌, ◌<◌, ◌≤◌, Bool, true, false, not, List, [], ◌∷◌, ◌++◌, get_or, refl, ap, sym, ◌∙◌, arith, inl, inr, ◌⊎◌, Option}
use Rattle.std.specs.List.{filter, list_any, All, AllPairs}
use Rattle.std.specs.Option.{ForSome}
use Rattle.std.specs.Prelude.{◌==◌, ◌&&◌, ◌||◌, is_some, nat_lt, option_map, slice_get, Some, None}
use Rattle.std.proofs.lemmas.Bool.{cases_Bool, eqb-true, eq-eqb, ne_eqb, and_parts, and_from, both_ways}
use Rattle.std.proofs.lemmas.List.Elements.{All-filter}
use Rattle.std.proofs.lemmas.List.Folds.{list_any-append, list_any_none}
use Rattle.fsa_types.proofs.OplockLemmas.{AreOplocks-filter}
use Rattle.fsa_types.specs.OplockLists.{AreOplocks, IsSoundOplock}
use Rattle.fsa_types.specs.Pending.{is_held, is_let_go, next_let_go}
use Rattle.fsa_types.specs.Rows.{lives, row_of, without_row, IsNumbered}
use Rattle.fsa_types.specs.Sorting.{in_order}
use Rattle.fsa_types.specs.declared.oplock.Class.{Class}
use Rattle.fsa_types.specs.declared.oplock.HandleSet.{HandleSet}
use Rattle.fsa_types.specs.declared.reply.Blocker.{Blocker}
use Rattle.fsa_types.specs.declared.reply.Blocker.TheVariants.{Break, Lock as LockOf}
use Rattle.fsa_model.specs.Breaks.{with_breaks}
use Rattle.fsa_model.specs.Once.{how_many}
use Rattle.fsa_model.specs.Sound.{IsGiven, IsSound, has_its_key}
use Rattle.fsa_model.specs.Volume.{Lock, Oplock, Pending, Volume}
use Rattle.fsa_model.specs.Waiting.{blocker_lives, is_breaking, is_granted_under, with_oplock_given_up}
use Rattle.fsa_model.proofs.CountLaws.{only-one, how_many-none}
use Rattle.fsa_model.proofs.RowLaws.{any-same, eqb-swap, lives-given, or-false}
use Rattle.fsa_model.proofs.SoundWaits.{IsSound-touched}
use Rattle.fsa_model.proofs.WaitLaws.{HasOneOplockEach, is_of, with_breaks-lives, with_breaks-new}
use Rattle.pending_queue.specs.PendingQueue.{held_among, is_same, next_unblocked, with_blocker_ended}
use Rattle.pending_queue.proofs.HeldLaws.{among-same, next_unblocked-among}
use Rattle.volume_breaks.specs.Calls.{AreHeld, Calls, LoseBlockers, is_break_of, is_held_under, is_lock_of}
use Rattle.volume_breaks.proofs.ReleaseLemmas.{held-equal, lose-one}
use Rattle.volume_state.specs.Held.{is_there}

-- ---- what is there, and what was given

pub there-lives : (v : Volume) (b : Blocker) → is_there v.oplocks v.locks b ≡ blocker_lives v b
there-lives v (Break number) = refl
there-lives v (LockOf number) = refl

break-given : (oplocks : List Oplock) (last number : ℕ) → All (λ oplock. oplock.number ≤ last) oplocks → list_any (is_breaking number) oplocks ≡ true → number ≤ last
break-given [] last number given there = cc
break-given (oplock ∷ oplocks) last number given there = elim (cases_Bool (is_breaking number oplock)) [
  | inl here ↦ (let is : oplock.number ≡ number = eqb-true oplock.number number (and_parts _ _ here).1 in
      let low : oplock.number ≤ last = given 0 oplock (omega arith) in omega arith)
  | inr other ↦ break-given oplocks last number (λ k d within. given (suc k) d (omega arith)) (rw other at there)
]

-- what is there was given
pub there-given : (v : Volume) → IsSound v → (b : Blocker) → is_there v.oplocks v.locks b ≡ true → IsGiven v.last_lock v.last_break b
there-given v sound (Break number) there = break-given v.oplocks v.last_break number sound.oplocks.numbers_given there
there-given v sound (LockOf number) there = lives-given v.locks v.last_lock number sound.locks_numbered.given there

-- what agrees on all that calls wait for
pub held-given : (alive other : Blocker → Bool) (calls : Calls) (last_lock last_break : ℕ) → All (λ e. All (IsGiven last_lock last_break) e.1.blockers) calls.items
    → ((b : Blocker) → IsGiven last_lock last_break b → alive b ≡ other b) → AreHeld alive calls → AreHeld other calls
held-given alive other calls last_lock last_break given same held =
    held ∙ among-same alive other calls.items (λ k d within i e inside. same _ (given k d within i e inside))

-- ---- a lock comes, and goes

lock-more : (locks : List (ℕ × Lock)) (last number : ℕ) (lock : Lock) → number ≤ last → lives locks number ≡ lives (locks ++ (last + 1, lock) ∷ []) number
lock-more locks last number lock low =
    let other : (last + 1 == number) ≡ false = ne_eqb (last + 1) number (λ e. absurd (omega arith)) in
    sym (list_any-append (λ (e : ℕ × Lock). e.0 == number) locks ((last + 1, lock) ∷ []) ∙ rw other (or-false (lives locks number)))

pub held-with_lock : (oplocks : List Oplock) (locks : List (ℕ × Lock)) (calls : Calls) (last_lock last_break : ℕ) (lock : Lock)
    → All (λ e. All (IsGiven last_lock last_break) e.1.blockers) calls.items → AreHeld (is_there oplocks locks) calls → AreHeld (is_there oplocks (locks ++ (last_lock + 1, lock) ∷ [])) calls
held-with_lock oplocks locks calls last_lock last_break lock given held =
    held-given (is_there oplocks locks) (is_there oplocks (locks ++ (last_lock + 1, lock) ∷ [])) calls last_lock last_break given same held
  where
    same : (b : Blocker) → IsGiven last_lock last_break b → is_there oplocks locks b ≡ is_there oplocks (locks ++ (last_lock + 1, lock) ∷ []) b
    same (Break number) low = refl
    same (LockOf number) low = lock-more locks last_lock number lock low

and_all : (a : Bool) → (a && true) ≡ a
and_all true = refl
and_all false = refl

lives-without : (locks : List (ℕ × Lock)) (gone number : ℕ) → (lives locks number && not (gone == number)) ≡ lives (without_row locks gone) number
lives-without [] gone number = refl
lives-without (lock ∷ locks) gone number =
    let rest = lives-without locks gone number in
    elim (cases_Bool (lock.0 == gone)) [
      | inl here ↦ (let is : lock.0 ≡ gone = eqb-true lock.0 gone here in
          elim (cases_Bool (lock.0 == number)) [
            | inl too ↦ (let same : (gone == number) ≡ true = rw is at too in rw (here, too, same) (rw (same, and_none (lives locks number)) at rest))
            | inr other ↦ rw (here, other) rest
          ])
      | inr other ↦ elim (cases_Bool (lock.0 == number)) [
        | inl here ↦ (let is : lock.0 ≡ number = eqb-true lock.0 number here in
            let apart : (gone == number) ≡ false = eqb-swap gone number ∙ rw is at other in
            rw (other, here, apart) refl)
        | inr too ↦ rw (other, too) rest
      ]
    ]
  where
    and_none : (a : Bool) → (a && false) ≡ false
    and_none true = refl
    and_none false = refl

pub held-without_lock : (oplocks : List Oplock) (locks : List (ℕ × Lock)) (calls : Calls) (gone : ℕ) → AreHeld (is_there oplocks locks) calls
    → AreHeld (is_there oplocks (without_row locks gone)) (record calls { held = with_blocker_ended calls.held (LockOf gone) })
held-without_lock oplocks locks calls gone held =
    held-equal (λ b. is_there oplocks locks b && not (is_same (LockOf gone) b)) (is_there oplocks (without_row locks gone)) (record calls { held = with_blocker_ended calls.held (LockOf gone) }) same
    (lose-one calls (LockOf gone) (is_same (LockOf gone)) (λ b. refl) (is_there oplocks locks) held)
  where
    same : (b : Blocker) → (is_there oplocks locks b && not (is_same (LockOf gone) b)) ≡ is_there oplocks (without_row locks gone) b
    same (Break number) = and_all (list_any (is_breaking number) oplocks)
    same (LockOf number) = lives-without locks gone number

-- ---- a handle goes

-- at most one passes, where no two of them do
at-most-one : {X : Type 0} (p : X → Bool) (xs : List X) → AllPairs (λ a b. p a ≡ true → p b ≡ true → ⊥) xs → how_many p xs ≤ 1
at-most-one p [] apart = omega arith
at-most-one p (x ∷ xs) apart =
    let rest = at-most-one p xs (λ i j d below within. apart (suc i) (suc j) d (omega arith) (omega arith)) in
    elim (cases_Bool (p x)) [
      | inl here ↦ (let none = how_many-none p xs (list_any_none p xs (λ k d within. elim (cases_Bool (p (get_or xs k d))) [
        | inl too ↦ absurd (apart 0 (suc k) d (omega arith) (omega arith) here too)
        | inr fails ↦ fails
      ])) in rw here (omega arith))
      | inr fails ↦ rw fails (omega arith)
    ]

split-any : {X : Type 0} (p q : X → Bool) (xs : List X) → list_any p xs ≡ (list_any (λ x. p x && q x) xs || list_any (λ x. p x && not (q x)) xs)
split-any p q [] = refl
split-any p q (x ∷ xs) = rw (split-any p q xs) (four (p x) (q x) (list_any (λ y. p y && q y) xs) (list_any (λ y. p y && not (q y)) xs))
  where
    four : (a b c d : Bool) → (a || (c || d)) ≡ (((a && b) || c) || ((a && not b) || d))
    four true true c d = refl
    four true false true d = refl
    four true false false d = refl
    four false b c d = refl

filter-any : {X : Type 0} (p q : X → Bool) (xs : List X) → list_any p (filter (λ x. not (q x)) xs) ≡ list_any (λ x. p x && not (q x)) xs
filter-any p q [] = refl
filter-any p q (x ∷ xs) = elim (cases_Bool (q x)) [
  | inl gone ↦ rw gone (filter-any p q xs ∙ none (p x) (list_any (λ y. p y && not (q y)) xs))
  | inr stays ↦ rw stays (ap (λ rest. p x || rest) (filter-any p q xs) ∙ ap (λ first. first || list_any (λ y. p y && not (q y)) xs) (sym (and_all (p x))))
]
  where
    none : (a b : Bool) → b ≡ ((a && false) || b)
    none true b = refl
    none false b = refl

-- of those that pass, of which there is one at most, none is left where it goes
pub gone-with : {X : Type 0} (p q : X → Bool) (xs : List X) → how_many p xs ≤ 1 → (list_any p xs && not (list_any (λ x. q x && p x) xs)) ≡ list_any p (filter (λ x. not (q x)) xs)
gone-with p q xs one =
    let turned : list_any (λ x. q x && p x) xs ≡ list_any (λ x. p x && q x) xs = any-same (λ x. q x && p x) (λ x. p x && q x) xs (λ x. swapped (q x) (p x)) in
    rw (turned, filter-any p q xs, split-any p q xs) (elim (cases_Bool (list_any (λ x. p x && q x) xs)) [
      | inl some ↦ (let none = only-one p q xs one some in rw (some, none) refl)
      | inr none ↦ rw none (and_all (list_any (λ x. p x && not (q x)) xs))
    ])
  where
    swapped : (a b : Bool) → (a && b) ≡ (b && a)
    swapped true true = refl
    swapped true false = refl
    swapped false true = refl
    swapped false false = refl

one-lock : (locks : List (ℕ × Lock)) (last number : ℕ) → IsNumbered locks last → how_many (λ (e : ℕ × Lock). e.0 == number) locks ≤ 1
one-lock locks last number numbered = at-most-one (λ e. e.0 == number) locks (λ i j d below within one other.
    let rises = numbered.rising i j d below within in
    let first = eqb-true _ number one in
    let second = eqb-true _ number other in
    omega arith)

pub one-break : (oplocks : List Oplock) (last number : ℕ) → AreOplocks oplocks last → how_many (is_breaking number) oplocks ≤ 1
one-break oplocks last number are = at-most-one (is_breaking number) oplocks (λ i j d below within one other.
    let a : Oplock = get_or oplocks i d in
    let b : Oplock = get_or oplocks j d in
    let first = and_parts (is_some a.target) (a.number == number) one in
    let second = and_parts (is_some b.target) (b.number == number) other in
    let is : a.number ≡ number = eqb-true a.number number first.1 in
    let its : b.number ≡ number = eqb-true b.number number second.1 in
    let same : (a.number == b.number) ≡ true = eq-eqb a.number b.number (omega arith) in
    both_ways (is_some a.target && a.number == b.number) (are.numbers_differ i j d below within) (and_from (is_some a.target) (a.number == b.number) first.0 same))

pub held-without_handle : (oplocks : List Oplock) (locks : List (ℕ × Lock)) (old mid new : Calls) (handle last_lock last_break : ℕ) → IsNumbered locks last_lock → AreOplocks oplocks last_break
    → LoseBlockers (is_lock_of locks handle) old mid → LoseBlockers (is_break_of oplocks handle) mid new → AreHeld (is_there oplocks locks) old
    → AreHeld (is_there (filter (λ oplock. not (oplock.handle == handle)) oplocks) (filter (λ entry. not (entry.1.handle == handle)) locks)) new
held-without_handle oplocks locks old mid new handle last_lock last_break numbered are one two held =
    held-equal (λ b. (is_there oplocks locks b && not (is_lock_of locks handle b)) && not (is_break_of oplocks handle b))
    (is_there (filter (λ oplock. not (oplock.handle == handle)) oplocks) (filter (λ entry. not (entry.1.handle == handle)) locks)) new same
    (two (λ b. is_there oplocks locks b && not (is_lock_of locks handle b)) (one (is_there oplocks locks) held))
  where
    same : (b : Blocker) → ((is_there oplocks locks b && not (is_lock_of locks handle b)) && not (is_break_of oplocks handle b))
        ≡ is_there (filter (λ oplock. not (oplock.handle == handle)) oplocks) (filter (λ entry. not (entry.1.handle == handle)) locks) b
    same (Break number) =
        rw (and_all (list_any (is_breaking number) oplocks)) (gone-with (is_breaking number) (λ oplock. oplock.handle == handle) oplocks (one-break oplocks last_break number are))
    same (LockOf number) =
        and_all (lives locks number && not (list_any (λ e. e.1.handle == handle && e.0 == number) locks))
        ∙ gone-with (λ e. e.0 == number) (λ e. e.1.handle == handle) locks (one-lock locks last_lock number numbered)

-- ---- breaks

pub one-oplock : (v : Volume) → AreOplocks v.oplocks v.last_break → HasOneOplockEach v
one-oplock v are handle = at-most-one (is_of handle) v.oplocks (λ i j d below within one other.
    let first = eqb-true _ handle one in
    let second = eqb-true _ handle other in
    both_ways _ (are.handles_differ i j d below within) (eq-eqb _ _ (omega arith)))

breaks-same : (v : Volume) (on : HandleSet) (kind : Class) (acting : Option ℕ) (key number : ℕ) → AreOplocks v.oplocks v.last_break → number ≤ v.last_break
    → list_any (is_breaking number) v.oplocks ≡ list_any (is_breaking number) (with_breaks v on kind acting key).oplocks
breaks-same v on kind acting key number are low =
    let one = one-oplock v are in
    elim (cases_Bool (list_any (is_breaking number) v.oplocks)) [
      | inl there ↦ there ∙ sym (with_breaks-lives v on kind acting key one number there)
      | inr gone ↦ gone ∙ sym (still gone one (cases_Bool (list_any (is_breaking number) (with_breaks v on kind acting key).oplocks)))
    ]
  where
    old : (list_any (is_breaking number) v.oplocks ≡ true) ⊎ ((v.last_break < number) × (number ≤ (with_breaks v on kind acting key).last_break)) → list_any (is_breaking number) v.oplocks ≡ true
    old (inl is) = is
    old (inr new) = (let above = new.0 in absurd (omega arith))

    still : list_any (is_breaking number) v.oplocks ≡ false → HasOneOplockEach v
        → (list_any (is_breaking number) (with_breaks v on kind acting key).oplocks ≡ true) ⊎ (list_any (is_breaking number) (with_breaks v on kind acting key).oplocks ≡ false)
        → list_any (is_breaking number) (with_breaks v on kind acting key).oplocks ≡ false
    still gone one (inr is) = is
    still gone one (inl there) = absurd (both_ways _ gone (old (with_breaks-new v on kind acting key one number there)))

-- breaks leave what calls wait for
pub held-with_breaks : (v : Volume) (on : HandleSet) (kind : Class) (acting : Option ℕ) (key : ℕ) (calls : Calls) → AreOplocks v.oplocks v.last_break
    → All (λ e. All (IsGiven v.last_lock v.last_break) e.1.blockers) calls.items → AreHeld (is_there v.oplocks v.locks) calls → AreHeld (is_there (with_breaks v on kind acting key).oplocks v.locks) calls
held-with_breaks v on kind acting key calls are given held =
    held-given (is_there v.oplocks v.locks) (is_there (with_breaks v on kind acting key).oplocks v.locks) calls v.last_lock v.last_break given same held
  where
    same : (b : Blocker) → IsGiven v.last_lock v.last_break b → is_there v.oplocks v.locks b ≡ is_there (with_breaks v on kind acting key).oplocks v.locks b
    same (Break number) low = breaks-same v on kind acting key number are low
    same (LockOf number) low = refl

-- an oplock that is granted has no break in progress
given_up-same : (oplocks : List Oplock) (turn number : ℕ) → All IsSoundOplock oplocks
    → list_any (is_breaking number) oplocks ≡ list_any (is_breaking number) (filter (λ oplock. not (is_granted_under turn oplock)) oplocks)
given_up-same [] turn number each = refl
given_up-same (oplock ∷ oplocks) turn number each =
    let rest = given_up-same oplocks turn number (λ k d within. each (suc k) d (omega arith)) in
    elim (cases_Bool (is_granted_under turn oplock)) [
      | inl granted ↦ (let idle : is_breaking number oplock ≡ false = unbroken oplock.call granted (each 0 oplock (omega arith)).has_call in rw (granted, idle) rest)
      | inr stays ↦ rw stays (ap (λ more. is_breaking number oplock || more) rest)
    ]
  where
    unbroken : (call : Option ℕ) → is_granted_under turn (record oplock { call = call }) ≡ true → is_some call ≡ not (is_some oplock.target) → is_breaking number oplock ≡ false
    unbroken (Some other) granted is = none (is_some oplock.target) is
      where
        none : (b : Bool) → true ≡ not b → (b && (oplock.number == number)) ≡ false
        none true is = cc
        none false is = refl
    unbroken None granted is = cc

pub held-given_up : (oplocks : List Oplock) (locks : List (ℕ × Lock)) (calls : Calls) (turn : ℕ) → All IsSoundOplock oplocks → AreHeld (is_there oplocks locks) calls
    → AreHeld (is_there (filter (λ oplock. not (is_granted_under turn oplock)) oplocks) locks) calls
held-given_up oplocks locks calls turn each held =
    held-equal (is_there oplocks locks) (is_there (filter (λ oplock. not (is_granted_under turn oplock)) oplocks) locks) calls same held
  where
    same : (b : Blocker) → is_there oplocks locks b ≡ is_there (filter (λ oplock. not (is_granted_under turn oplock)) oplocks) locks b
    same (Break number) = given_up-same oplocks turn number each
    same (LockOf number) = refl

-- ---- the next one

let_go-same : (alive other : Blocker → Bool) (pending : List (ℕ × Pending)) → ((b : Blocker) → alive b ≡ other b)
    → filter (λ e. is_let_go alive e.1) pending ≡ filter (λ (e : ℕ × Pending). is_let_go other e.1) pending
let_go-same alive other [] same = refl
let_go-same alive other (row ∷ rows) same =
    let here : list_any alive row.1.blockers ≡ list_any other row.1.blockers = any-same alive other row.1.blockers same in
    let is : is_let_go alive row.1 ≡ is_let_go other row.1 = ap (λ blocked. is_held row.1 && not blocked) here in
    elim (cases_Bool (is_let_go other row.1)) [
      | inl goes ↦ rw (is, goes) (ap (λ rest. row ∷ rest) (let_go-same alive other rows same))
      | inr stays ↦ rw (is, stays) (let_go-same alive other rows same)
    ]

-- the least turn of the queue is that of the call that may be taken up next
pub next-lives : (v : Volume) (calls : Calls) → AreHeld (is_there v.oplocks v.locks) calls → next_unblocked calls.held ≡ option_map (λ e. e.0) (next_let_go (blocker_lives v) calls.items)
next-lives v calls held =
    ap (λ its. next_unblocked its) held ∙ next_unblocked-among (is_there v.oplocks v.locks) calls.items
    ∙ ap (λ (rows : List (ℕ × Pending)). option_map (λ e. e.0) (slice_get (in_order (λ a b. nat_lt a.0 b.0) rows) 0)) (let_go-same (is_there v.oplocks v.locks) (blocker_lives v) calls.items (there-lives v))

-- ---- a call comes, or is held anew

-- blockers that live are there, and were given
pub all-there : (v : Volume) (blockers : List Blocker) → All (λ b. blocker_lives v b ≡ true) blockers → All (λ b. is_there v.oplocks v.locks b ≡ true) blockers
all-there v blockers living = λ k d within. there-lives v _ ∙ living k d within

pub all-given : (v : Volume) (blockers : List Blocker) → IsSound v → All (λ b. blocker_lives v b ≡ true) blockers → All (IsGiven v.last_lock v.last_break) blockers
all-given v blockers sound living = λ k d within. there-given v sound _ (all-there v blockers living k d within)

pub IsSound-given_up : (v : Volume) (turn : ℕ) → IsSound v → IsSound (with_oplock_given_up v turn)
IsSound-given_up v turn sound =
    IsSound-touched v (with_oplock_given_up v turn) sound sound.pending sound.blockers_given
    (All-filter (λ (o : Oplock). not (is_granted_under turn o)) (λ o. has_its_key v.handles o ≡ true) v.oplocks sound.of_handles.oplocks_have_keys)
    (AreOplocks-filter (λ (o : Oplock). not (is_granted_under turn o)) v.oplocks v.last_break sound.oplocks) sound.bounded.breaks

held-among : (alive : Blocker → Bool) (pending : List (ℕ × Pending)) (turn : ℕ) → is_held_under pending turn ≡ true → lives (held_among alive pending) turn ≡ true
held-among alive [] turn under = cc
held-among alive (row ∷ rows) turn under = elim (cases_Bool (is_held row.1)) [
  | inl held ↦ elim (cases_Bool (row.0 == turn)) [
    | inl here ↦ rw (held, here) refl
    | inr other ↦ rw (held, other) (held-among alive rows turn (rw other at under))
  ]
  | inr waits ↦ rw waits (held-among alive rows turn (later (row.0 == turn) (is_held row.1) waits under))
]
  where
    later : (a b : Bool) → b ≡ false → ((a && b) || is_held_under rows turn) ≡ true → is_held_under rows turn ≡ true
    later true true no_more more = cc
    later true false no_more more = more
    later false b no_more more = more

-- what is held among the pending calls is held in the queue
pub queue-held : (alive : Blocker → Bool) (calls : Calls) (turn : ℕ) → AreHeld alive calls → is_held_under calls.items turn ≡ true → lives calls.held turn ≡ true
queue-held alive calls turn held under = rw held (held-among alive calls.items turn under)

-- a row that is there, and held, is held under its turn
pub found-held : (pending : List (ℕ × Pending)) (turn : ℕ) → lives pending turn ≡ true → ForSome (row_of pending turn) (λ row. is_held row ≡ true) → is_held_under pending turn ≡ true
found-held [] turn there found = cc
found-held (row ∷ rows) turn there found = elim (cases_Bool (row.0 == turn)) [
  | inl here ↦ (let held : is_held row.1 ≡ true = found row.1 (rw here refl) in rw (here, held) refl)
  | inr other ↦ (let rest : ForSome (row_of rows turn) (λ its. is_held its ≡ true) = rw other at found in rw other (found-held rows turn (rw other at there) rest))
]
