-- How counting on reads ends by breaks: only by a change of another key, which tells the holder that
-- nothing is left or waits for its break.
use Rattle.std.proofs.Common.{◌≡◌, ℕ, Bool, true, false, ◌==◌, ◌&&◌, List, [], refl, ap, sym, ◌∙◌, Option, Some, None, inl, inr, ◌⊎◌, eq-eqb}
use Rattle.std.specs.Option.{option_map_or}
use Rattle.std.specs.Prelude.{filter, find, map, if◌then◌else◌}
use Rattle.std.proofs.lemmas.Bool.{cases_Bool, eqb-true, false≢true, and_from, or_right}
use Rattle.fsa_types.specs.declared.oplock.Class.{Class}
use Rattle.fsa_types.specs.declared.oplock.Class.TheVariants.{Clash, NameChange, ReadOpen, Change}
use Rattle.fsa_types.specs.declared.oplock.HandleSet.{HandleSet}
use Rattle.fsa_types.specs.declared.reply.Blocker.{Blocker}
use Rattle.fsa_types.specs.declared.reply.Blocker.TheVariants.{Break}
use Rattle.fsa_types.specs.declared.request.Level.{Level}
use Rattle.fsa_types.specs.declared.request.Level.TheVariants.{Nil, R, RH, RW, RWH}
use Rattle.fsa_types.specs.Oplocks.{effect, is_awaited, has_read}
use Rattle.fsa_types.specs.Rows.{row_of}
use Rattle.fsa_model.specs.Breaks.{with_breaks, is_broken_before, is_chosen, is_told, chosen, awaited}
use Rattle.fsa_model.specs.Coherence.{IsBrokenByChange, counts_on_reads, IsTied, is_break, awaits_break_of, caches_reads}
use Rattle.fsa_model.specs.Grant.{oplock_of}
use Rattle.fsa_model.specs.Volume.{Oplock, Volume}
use Rattle.fsa_model.specs.Waits.{waits_for}
use Rattle.fsa_model.proofs.BreakLaws.{break_of}
use Rattle.fsa_model.proofs.CoherenceBreaks.{held-breaks, counts_held, counts-held, any-both, find-passes, not_awaited}
use Rattle.fsa_model.proofs.CoherenceLaws.{held_after, any-in_order}
use Rattle.fsa_model.proofs.RowLaws.{find-any, option_cases, any-map}

-- ---- by what breaks and closes end it

-- its holder is told that nothing is left
abbrev pub is_told_by_change : Oplock → Bool
is_told_by_change oplock = is_told (effect Change oplock.level oplock.target)

-- why a handle counts on its reads no longer, after a call of this handle and this key that left such a
-- volume and waits for these blockers
pub data WhyBroken (v : Volume) (acting : Option ℕ) (key : ℕ) (next : Volume) (blockers : List Blocker) (handle : ℕ) : Type 0 where
  -- it is closed
  Gone : row_of next.handles handle ≡ None → WhyBroken v acting key next blockers handle
  -- another key's change told it that nothing is left
  HasTold : (oplock : Oplock) → IsBrokenByChange v acting key next handle oplock → is_told_by_change oplock ≡ true → WhyBroken v acting key next blockers handle
  -- another key's change waits for its break
  Awaits : (oplock : Oplock) → IsBrokenByChange v acting key next handle oplock → awaits_break_of next blockers handle ≡ true
      → WhyBroken v acting key next blockers handle

-- each handle that counted and no longer counts has such a cause
abbrev pub EndsByCause : Volume → Option ℕ → ℕ → Volume → List Blocker → Type 0
EndsByCause v acting key next blockers =
    (handle : ℕ) → counts_on_reads v handle ≡ true → counts_on_reads next handle ≡ false → WhyBroken v acting key next blockers handle

-- ---- the classes

-- the other classes leave reads counted on
counts-clash : (level : Level) (target : Option Level) → counts_held (held_after (effect Clash level target) (Some (level, target))) ≡ counts_held (Some (level, target))
counts-clash level (Some Nil) = refl
counts-clash level (Some R) = refl
counts-clash level (Some RH) = refl
counts-clash level (Some RW) = refl
counts-clash level (Some RWH) = refl
counts-clash Nil None = refl
counts-clash R None = refl
counts-clash RH None = refl
counts-clash RW None = refl
counts-clash RWH None = refl

counts-read : (level : Level) (target : Option Level) → counts_held (held_after (effect ReadOpen level target) (Some (level, target))) ≡ counts_held (Some (level, target))
counts-read level (Some Nil) = refl
counts-read level (Some R) = refl
counts-read level (Some RH) = refl
counts-read level (Some RW) = refl
counts-read level (Some RWH) = refl
counts-read Nil None = refl
counts-read R None = refl
counts-read RH None = refl
counts-read RW None = refl
counts-read RWH None = refl

-- a class with reads kept, or a change
pub class_cases : (kind : Class) → ((level : Level) (target : Option Level) → counts_held (held_after (effect kind level target) (Some (level, target))) ≡ counts_held (Some (level, target))) ⊎ (kind ≡ Change)
class_cases Clash = inl counts-clash
class_cases NameChange = inl counts-clash
class_cases ReadOpen = inl counts-read
class_cases Change = inr refl

-- a change tells who counted, or waits for him
told_or_awaited : (level : Level) (target : Option Level) → counts_held (Some (level, target)) ≡ true
    → (is_told (effect Change level target) ≡ true) ⊎ (is_awaited Change level target ≡ true)
told_or_awaited level (Some Nil) counts = absurd (false≢true (sym (none level) ∙ counts))
  where
    none : (level : Level) → (has_read level && false) ≡ false
    none Nil = refl
    none R = refl
    none RH = refl
    none RW = refl
    none RWH = refl
told_or_awaited level (Some R) counts = inr (or_right _ true refl)
told_or_awaited level (Some RH) counts = inr (or_right _ true refl)
told_or_awaited level (Some RW) counts = inr (or_right _ true refl)
told_or_awaited level (Some RWH) counts = inr (or_right _ true refl)
told_or_awaited Nil None counts = cc
told_or_awaited R None counts = inl refl
told_or_awaited RH None counts = inl refl
told_or_awaited RW None counts = inl refl
told_or_awaited RWH None counts = inl refl

-- the break of an awaited oplock is one of the blockers
is_blocker : (v : Volume) (on : HandleSet) (kind : Class) (acting : Option ℕ) (key handle : ℕ) (oplock : Oplock) → oplock_of v handle ≡ Some oplock
    → is_chosen v on acting key oplock ≡ true → is_awaited kind oplock.level oplock.target ≡ true
    → awaits_break_of (with_breaks v on kind acting key) (map Break (awaited v on kind acting key)) handle ≡ true
is_blocker v on kind acting key handle oplock found is_one it_waits =
    let next : Volume = with_breaks v on kind acting key in
    let waits : Oplock → Bool = λ o. is_awaited kind o.level o.target in
    let is_it : Oplock → Bool = λ o. break_of next o.handle == break_of next handle in
    let of_it : oplock.handle ≡ handle = eqb-true oplock.handle handle (find-passes (λ o. o.handle == handle) v.oplocks oplock found) in
    let same : is_it oplock ≡ true = eq-eqb (break_of next oplock.handle) (break_of next handle) (ap (break_of next) of_it) in
    any-map (is_break (break_of next handle)) Break (awaited v on kind acting key)
    ∙ any-map (λ number. number == break_of next handle) (λ (o : Oplock). break_of next o.handle) (filter waits (chosen v on acting key))
    ∙ any-both waits is_it (chosen v on acting key)
    ∙ any-in_order (λ o. waits o && is_it o) (is_broken_before v) (filter (is_chosen v on acting key) v.oplocks)
    ∙ any-both (is_chosen v on acting key) (λ o. waits o && is_it o) v.oplocks
    ∙ find-any (λ o. o.handle == handle) (λ o. is_chosen v on acting key o && (waits o && is_it o)) v.oplocks oplock found
    (and_from _ _ is_one (and_from _ _ it_waits same))

-- what breaks end, and who is awaited
ends-cases : (v : Volume) (on : HandleSet) (kind : Class) (acting : Option ℕ) (key handle : ℕ) → IsTied v
    → counts_on_reads v handle ≡ true → counts_on_reads (with_breaks v on kind acting key) handle ≡ false
    → (oplock : Oplock) × (oplock_of v handle ≡ Some oplock) × (is_chosen v on acting key oplock ≡ true) × (kind ≡ Change)
    × ((is_told (effect Change oplock.level oplock.target) ≡ true) ⊎ (is_awaited Change oplock.level oplock.target ≡ true))
ends-cases v on kind acting key handle tied before after =
    let next : Volume = with_breaks v on kind acting key in
    elim (option_cases (oplock_of v handle)) [
      | inl none ↦ absurd (false≢true (rw none at before))
      | inr some ↦ (let held = held-breaks v on kind acting key handle some.0 tied.oplocks_differ some.1 in
          let counted : counts_held (Some (some.0.level, some.0.target)) ≡ true = rw some.1 at before in
          let ended : counts_held (if is_chosen v on acting key some.0 then held_after (effect kind some.0.level some.0.target) (Some (some.0.level, some.0.target)) else Some (some.0.level, some.0.target)) ≡ false
          = ap counts_held (sym held) ∙ sym (counts-held next handle) ∙ after in
          elim (cases_Bool (is_chosen v on acting key some.0)) [
            | inl is_one ↦ elim (class_cases kind) [
              | inl keeps ↦ absurd (false≢true (sym (rw is_one at ended) ∙ keeps some.0.level some.0.target ∙ counted))
              | inr changes ↦ (some.0, some.1, is_one, changes, told_or_awaited some.0.level some.0.target counted)
            ]
            | inr isnt ↦ absurd (false≢true (sym (rw isnt at ended) ∙ counted))
          ])
    ]

-- the break that ended it
broken-here : (v : Volume) (on : HandleSet) (kind : Class) (acting : Option ℕ) (key handle : ℕ) (oplock : Oplock) → oplock_of v handle ≡ Some oplock
    → is_chosen v on acting key oplock ≡ true → kind ≡ Change → IsBrokenByChange v acting key (with_breaks v on kind acting key) handle oplock
broken-here v on kind acting key handle oplock found is_one changes =
    record { set = on; held = found; chosen = is_one; begun = ap (λ k. (with_breaks v on k acting key).oplocks) changes }

-- a call that waits
pub ends-held : (v : Volume) (on : HandleSet) (kind : Class) (acting : Option ℕ) (key : ℕ) → IsTied v
    → EndsByCause v acting key (with_breaks v on kind acting key) (map Break (awaited v on kind acting key))
ends-held v on kind acting key tied handle before after =
    let it = ends-cases v on kind acting key handle tied before after in
    let here = broken-here v on kind acting key handle it.0 it.1 it.2 it.3 in
    elim it.4 [
      | inl told ↦ HasTold it.0 here told
      | inr waits ↦ Awaits it.0 here (is_blocker v on kind acting key handle it.0 it.1 it.2 (ap (λ k. is_awaited k it.0.level it.0.target) it.3 ∙ waits))
    ]

-- a call that doesn't
pub ends-gone_on : (v : Volume) (on : HandleSet) (kind : Class) (acting : Option ℕ) (key : ℕ) → IsTied v → waits_for v on kind acting key ≡ false
    → EndsByCause v acting key (with_breaks v on kind acting key) []
ends-gone_on v on kind acting key tied no_wait handle before after =
    let it = ends-cases v on kind acting key handle tied before after in
    elim it.4 [
      | inl told ↦ HasTold it.0 (broken-here v on kind acting key handle it.0 it.1 it.2 it.3) told
      | inr waits ↦ absurd (false≢true (sym (ap (λ k. is_awaited k it.0.level it.0.target) (sym it.3) ∙ not_awaited v on kind acting key handle it.0 no_wait it.1 it.2) ∙ waits))
    ]

-- breaks of the other classes end nothing
pub counts-kept : (v : Volume) (on : HandleSet) (kind : Class) (acting : Option ℕ) (key handle : ℕ) → IsTied v → (kind ≡ Change → ⊥)
    → counts_on_reads v handle ≡ true → counts_on_reads (with_breaks v on kind acting key) handle ≡ true
counts-kept v on kind acting key handle tied no_change before = elim (cases_Bool (counts_on_reads (with_breaks v on kind acting key) handle)) [
  | inl still ↦ still
  | inr ended ↦ absurd (no_change (ends-cases v on kind acting key handle tied before ended).3)
]

-- with the same oplocks nothing ends
pub counts-same : (v w : Volume) (handle : ℕ) → w.oplocks ≡ v.oplocks → counts_on_reads w handle ≡ counts_on_reads v handle
counts-same v w handle same = ap (λ (oplocks : List Oplock). option_map_or caches_reads (find (λ o. o.handle == handle) oplocks) false) same
