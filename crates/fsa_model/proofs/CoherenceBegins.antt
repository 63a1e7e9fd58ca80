-- What a grant, an answer and a cancellation leave: a handle begins to count only by its own grant or answer, and
-- nobody is granted or keeps anything beside a handle of another key that caches writes, or writes beside one that
-- caches anything.
use Rattle.std.proofs.Common.{◌≡◌, ℕ, suc, Bool, true, false, ◌==◌, ◌&&◌, ◌||◌, not, List, [], ◌∷◌, ◌++◌, refl, ap, sym, ◌∙◌, arith, Some, None, inl, inr, eq-eqb}
use Rattle.std.specs.List.{list_any}
use Rattle.std.specs.Prelude.{filter, fold, is_some, map, option_map, AllPairs, if◌then◌else◌}
use Rattle.std.proofs.lemmas.Bool.{cases_Bool, eqb-true, false≢true, ne_eqb}
use Rattle.std.proofs.lemmas.List.Folds.{list_any_none}
use Rattle.fsa_types.specs.declared.request.Level.{Level}
use Rattle.fsa_types.specs.declared.request.Level.TheVariants.{Nil, R, RH, RW, RWH}
use Rattle.fsa_types.specs.OplockGrants.{as_answered, is_of_key, some_breaking, some_writer}
use Rattle.fsa_types.specs.Oplocks.{has_read, has_write, in_both, is_same_key}
use Rattle.fsa_types.specs.Rows.{row_of}
use Rattle.fsa_model.specs.Coherence.{IsTied, WritersAlone, are_apart, counts_on_reads, has_in, is_on_one}
use Rattle.fsa_model.specs.Edits.{without_oplock}
use Rattle.fsa_model.specs.Grant.{is_not_granted, is_open_by_others, is_oplock_on, oplock_of, switched, target_of, with_all_switched, with_granted, with_level_kept, with_switched}
use Rattle.fsa_model.specs.Lookups.{is_open_on}
use Rattle.fsa_model.specs.Volume.{Handle, Oplock, Volume}
use Rattle.fsa_model.specs.Waiting.{with_oplock_given_up, is_granted_under}
use Rattle.fsa_model.proofs.CoherenceBreaks.{counts-held, counts_held, find-passes}
use Rattle.fsa_model.proofs.CoherenceFalls.{Apart, Apart-from, Falls, FallsTo, FallsTo-none, FallsTo-same, alone-falls, alone-from, counts-falls, has_held, has_in-held, writes-both}
use Rattle.fsa_model.proofs.CoherenceGrant.{Keeps, Keeps-all, held-all, held-granted, own-key}
use Rattle.fsa_model.proofs.CoherenceLaws.{held_in}
use Rattle.fsa_model.proofs.RowLaws.{any-filter_none, eqb-swap, find-any, option_cases}

-- ---- an oplock is taken out

held-absent : (oplocks : List Oplock) (handle : ℕ) → list_any (λ o. o.handle == handle) oplocks ≡ false → held_in oplocks handle ≡ None
held-absent [] handle none = refl
held-absent (o ∷ oplocks) handle none = elim (cases_Bool (o.handle == handle)) [
  | inl here ↦ (let impossible : true ≡ false = rw here at none in cc)
  | inr other ↦ rw other (held-absent oplocks handle (rw other at none))
]

none-more : (o : Oplock) (oplocks : List Oplock) (handle : ℕ) → AllPairs (λ a b. (a.handle == b.handle) ≡ false) (o ∷ oplocks) → (o.handle == handle) ≡ true
    → list_any (λ x. x.handle == handle) oplocks ≡ false
none-more o oplocks handle differ here =
    list_any_none (λ (x : Oplock). x.handle == handle) oplocks
    (λ k d within. ne_eqb _ handle (λ e. absurd (false≢true (sym (differ 0 (suc k) d (omega arith) (omega arith)) ∙ eq-eqb o.handle _ (eqb-true o.handle handle here ∙ sym e)))))

FallsTo-filter : (keep : Oplock → Bool) (oplocks : List Oplock) (handle : ℕ) → AllPairs (λ a b. (a.handle == b.handle) ≡ false) oplocks
    → FallsTo (held_in (filter keep oplocks) handle) (held_in oplocks handle)
FallsTo-filter keep [] handle differ = FallsTo-none None
FallsTo-filter keep (o ∷ oplocks) handle differ = elim (cases_Bool (o.handle == handle)) [
  | inl here ↦ elim (cases_Bool (keep o)) [
    | inl stays ↦ rw (stays, here) (FallsTo-same (Some (o.level, o.target)))
    | inr goes ↦ (let gone : held_in (filter keep oplocks) handle ≡ None = held-absent (filter keep oplocks) handle
        (any-filter_none (λ (x : Oplock). x.handle == handle) keep oplocks (none-more o oplocks handle differ here)) in
        rw (goes, here, gone) (FallsTo-none (Some (o.level, o.target))))
  ]
  | inr other ↦ (let rest = FallsTo-filter keep oplocks handle (λ j k d below within. differ (suc j) (suc k) d (omega arith) (omega arith)) in
      elim (cases_Bool (keep o)) [
        | inl stays ↦ rw (stays, other) rest
        | inr goes ↦ rw (goes, other) rest
      ])
]

Falls-filter : (v : Volume) (keep : Oplock → Bool) → IsTied v → Falls v (record v { oplocks = filter keep v.oplocks })
Falls-filter v keep tied = record {
  held = λ handle. FallsTo-filter keep v.oplocks handle tied.oplocks_differ;
  rows = λ handle row living reads. record { before = row; living = living; stream = refl; key = refl };
}

pub Falls-without_oplock : (v : Volume) (handle : ℕ) → IsTied v → Falls v (without_oplock v handle)
Falls-without_oplock v handle tied = Falls-filter v (λ oplock. not (oplock.handle == handle)) tied

pub Falls-given_up : (v : Volume) (turn : ℕ) → IsTied v → Falls v (with_oplock_given_up v turn)
Falls-given_up v turn tied = Falls-filter v (λ oplock. not (is_granted_under turn oplock)) tied

-- ---- an answer

held-kept : (oplocks : List Oplock) (at handle : ℕ) (level : Level) (turn : ℕ)
    → held_in (map (as_answered at level turn) oplocks) handle ≡ (if at == handle then option_map (λ h. (level, None)) (held_in oplocks handle) else held_in oplocks handle)
held-kept [] at handle level turn = elim (cases_Bool (at == handle)) [ inl here ↦ rw here refl | inr other ↦ rw other refl ]
held-kept (o ∷ oplocks) at handle level turn =
    let rest = held-kept oplocks at handle level turn in
    elim (cases_Bool (o.handle == at)) [
      | inl of_it ↦ (let is : o.handle ≡ at = eqb-true o.handle at of_it in
          elim (cases_Bool (o.handle == handle)) [
            | inl found ↦ (let here : (at == handle) ≡ true = rw is at found in rw (of_it, found, here) refl)
            | inr not_found ↦ rw (of_it, not_found) rest
          ])
      | inr of_another ↦ elim (cases_Bool (o.handle == handle)) [
        | inl found ↦ (let is : o.handle ≡ handle = eqb-true o.handle handle found in
            let other : (at == handle) ≡ false = ne_eqb at handle (λ e. false≢true (sym of_another ∙ eq-eqb o.handle at (is ∙ sym e))) in
            rw (of_another, found, other) refl)
        | inr not_found ↦ rw (of_another, not_found) rest
      ]
    ]

-- what stays was left
both-right : (has : Level → Bool) → ((a b : Level) → has (in_both a b) ≡ true → has a ≡ true) → ((a b : Level) → in_both a b ≡ in_both b a) → (a b : Level) → has (in_both a b) ≡ true → has b ≡ true
both-right has left swaps a b is = left b a (ap has (swaps b a) ∙ is)

in_both-swaps : (a b : Level) → in_both a b ≡ in_both b a
in_both-swaps Nil Nil = refl
in_both-swaps Nil R = refl
in_both-swaps Nil RH = refl
in_both-swaps Nil RW = refl
in_both-swaps Nil RWH = refl
in_both-swaps R Nil = refl
in_both-swaps R R = refl
in_both-swaps R RH = refl
in_both-swaps R RW = refl
in_both-swaps R RWH = refl
in_both-swaps RH Nil = refl
in_both-swaps RH R = refl
in_both-swaps RH RH = refl
in_both-swaps RH RW = refl
in_both-swaps RH RWH = refl
in_both-swaps RW Nil = refl
in_both-swaps RW R = refl
in_both-swaps RW RH = refl
in_both-swaps RW RW = refl
in_both-swaps RW RWH = refl
in_both-swaps RWH Nil = refl
in_both-swaps RWH R = refl
in_both-swaps RWH RH = refl
in_both-swaps RWH RW = refl
in_both-swaps RWH RWH = refl

reads-first : (a b : Level) → has_read (in_both a b) ≡ true → has_read a ≡ true
reads-first Nil b is = is
reads-first R b is = refl
reads-first RH b is = refl
reads-first RW b is = refl
reads-first RWH b is = refl

pub reads-left : (asked target : Level) → has_read (in_both asked target) ≡ true → has_read target ≡ true
reads-left asked target is = both-right has_read reads-first in_both-swaps asked target is

writes-left : (asked target : Level) → has_write (in_both asked target) ≡ true → has_write target ≡ true
writes-left asked target is = both-right has_write writes-both in_both-swaps asked target is

or_none : (b : Bool) → (b || false) ≡ true → b ≡ true
or_none true is = is
or_none false is = is

or_second : (a b : Bool) → b ≡ true → (a || b) ≡ true
or_second true b is = refl
or_second false b is = is

-- who reads or writes once it has answered was left that
fewer-kept : (has : Level → Bool) → ((asked target : Level) → has (in_both asked target) ≡ true → has target ≡ true) → (v : Volume) (id : ℕ) (asked target : Level) (turn : ℕ)
    → target_of v id ≡ Some target → (handle : ℕ) → has_held has (held_in (with_level_kept v id (in_both asked target) turn).oplocks handle) ≡ true → has_held has (held_in v.oplocks handle) ≡ true
fewer-kept has left v id asked target turn answers handle is =
    let so : has_held has (if id == handle then option_map (λ h. (in_both asked target, None)) (held_in v.oplocks handle) else held_in v.oplocks handle) ≡ true
    = ap (has_held has) (sym (held-kept v.oplocks id handle (in_both asked target) turn)) ∙ is in
    elim (cases_Bool (id == handle)) [
      | inr other ↦ rw other at so
      | inl here ↦ (let same : id ≡ handle = eqb-true id handle here in
          let of_it : target_of v handle ≡ Some target = rw same at answers in
          let then_kept : has_held has (option_map (λ h. (in_both asked target, None)) (held_in v.oplocks handle)) ≡ true = rw here at so in
          elim (option_cases (oplock_of v handle)) [
            | inl none ↦ (let impossible : None ≡ Some target = rw none at of_it in cc)
            | inr some ↦ (let told : some.0.target ≡ Some target = rw some.1 at of_it in
                let kept : (has (in_both asked target) || false) ≡ true = rw some.1 at then_kept in
                rw (some.1, told) (or_second (has some.0.level) (has target) (left asked target (or_none (has (in_both asked target)) kept))))
          ])
    ]

pub alone-kept : (v : Volume) (id : ℕ) (asked target : Level) (turn : ℕ) → target_of v id ≡ Some target → WritersAlone v → WritersAlone (with_level_kept v id (in_both asked target) turn)
alone-kept v id asked target turn answers =
    alone-from v (with_level_kept v id (in_both asked target) turn) (fewer-kept has_read reads-left v id asked target turn answers) (fewer-kept has_write writes-left v id asked target turn answers)
    (λ handle row living reads. record { before = row; living = living; stream = refl; key = refl })

-- only the handle that answers begins to count
pub begins-kept : (v : Volume) (id : ℕ) (level : Level) (turn handle : ℕ) → counts_on_reads v handle ≡ false → counts_on_reads (with_level_kept v id level turn) handle ≡ true → handle ≡ id
begins-kept v id level turn handle before after = elim (cases_Bool (id == handle)) [
  | inl here ↦ sym (eqb-true id handle here)
  | inr other ↦ (let same : counts_on_reads (with_level_kept v id level turn) handle ≡ counts_on_reads v handle
      = counts-held (with_level_kept v id level turn) handle ∙ ap counts_held (held-kept v.oplocks id handle level turn) ∙ rw other (sym (counts-held v handle)) in
      absurd (false≢true (sym before ∙ sym same ∙ after)))
]

-- ---- a grant

held-pushed : (oplocks : List Oplock) (new : Oplock) (handle : ℕ) → (new.handle == handle) ≡ false → held_in (oplocks ++ new ∷ []) handle ≡ held_in oplocks handle
held-pushed [] new handle other = rw other refl
held-pushed (o ∷ oplocks) new handle other = elim (cases_Bool (o.handle == handle)) [
  | inl here ↦ rw here refl
  | inr elsewhere ↦ rw elsewhere (held-pushed oplocks new handle other)
]

held-new : (oplocks : List Oplock) (new : Oplock) (handle : ℕ) → held_in oplocks handle ≡ None → (new.handle == handle) ≡ true → held_in (oplocks ++ new ∷ []) handle ≡ Some (new.level, new.target)
held-new [] new handle none here = rw here refl
held-new (o ∷ oplocks) new handle none here = elim (cases_Bool (o.handle == handle)) [
  | inl found ↦ (let impossible : Some (o.level, o.target) ≡ None = rw found at none in cc)
  | inr elsewhere ↦ rw elsewhere (held-new oplocks new handle (rw elsewhere at none) here)
]

-- those of the key end
Falls-all_switched : (v : Volume) (oplocks : List Oplock) → Falls v (fold with_switched v oplocks)
Falls-all_switched v oplocks = record {
  held = λ handle. rw (held-all oplocks v handle) (elim (cases_Bool (list_any (λ o. o.handle == handle) oplocks)) [
    | inl gone ↦ rw gone (FallsTo-none (held_in v.oplocks handle))
    | inr stays ↦ rw stays (FallsTo-same (held_in v.oplocks handle))
  ]);
  rows = λ handle row living reads. record { before = row; living = rw (Keeps.handles (Keeps-all oplocks v)) at living; stream = refl; key = refl };
}

held-other : (v : Volume) (id key stream : ℕ) (level : Level) (turn handle : ℕ) → (id == handle) ≡ false
    → held_in (with_granted v id key stream level turn).oplocks handle ≡ held_in (with_all_switched v id key stream).oplocks handle
held-other v id key stream level turn handle other = held-pushed (with_all_switched v id key stream).oplocks _ handle other

-- only the handle to which it is granted begins to count
pub begins-granted : (v : Volume) (id key stream : ℕ) (level : Level) (turn handle : ℕ) → counts_on_reads v handle ≡ false
    → counts_on_reads (with_granted v id key stream level turn) handle ≡ true → handle ≡ id
begins-granted v id key stream level turn handle before after = elim (cases_Bool (id == handle)) [
  | inl here ↦ sym (eqb-true id handle here)
  | inr other ↦ (let w : Volume = with_granted v id key stream level turn in
      let u : Volume = with_all_switched v id key stream in
      let counted : counts_on_reads u handle ≡ true = counts-held u handle ∙ ap counts_held (sym (held-other v id key stream level turn handle other)) ∙ sym (counts-held w handle) ∙ after in
      absurd (false≢true (sym before ∙ counts-falls v u handle (Falls-all_switched v (switched v id key stream)) counted)))
]

not_refused : (a b c d e : Bool) → (a || b || c || d || e) ≡ false → (a ≡ false) × (c ≡ false) × (d ≡ false)
not_refused true b c d e is = cc
not_refused false true c d e is = cc
not_refused false false true d e is = cc
not_refused false false false true e is = cc
not_refused false false false false e is = (refl, refl, refl)

same_key-swaps : (a ka b kb : ℕ) → is_same_key a ka (Some b) kb ≡ is_same_key b kb (Some a) ka
same_key-swaps a ka b kb = ap (λ c. c || (ka == kb && not (ka == 0))) (eqb-swap b a) ∙ ap (λ c. (a == b) || c) keys
  where
    keys : (ka == kb && not (ka == 0)) ≡ (kb == ka && not (kb == 0))
    keys = elim (cases_Bool (ka == kb)) [
      | inl same ↦ (let is : ka ≡ kb = eqb-true ka kb same in rw (is, eq-eqb kb kb refl) refl)
      | inr differ ↦ (let turned : (kb == ka) ≡ false = eqb-swap kb ka ∙ differ in rw (differ, turned) refl)
    ]

pub row-any : {X : Type 0} (p : ℕ × X → Bool) (rows : List (ℕ × X)) (id : ℕ) (row : X) → row_of rows id ≡ Some row → p (id, row) ≡ true → list_any p rows ≡ true
row-any p [] id row found passes = cc
row-any {X} p (x ∷ rows) id row found passes = elim (cases_Bool (x.0 == id)) [
  | inl here ↦ (let is : Some x.1 ≡ Some row = rw here at found in let same : x.1 ≡ row = cc in
      let so : p x ≡ true = ap (λ (n : ℕ). p (n, x.1)) (eqb-true x.0 id here) ∙ ap (λ (r : X). p (id, r)) same ∙ passes in rw so refl)
  | inr other ↦ or_second (p x) (list_any p rows) (row-any p rows id row (rw other at found) passes)
]

on_stream : (row other : Handle) (stream : ℕ) → is_on_one row other ≡ true → row.stream ≡ Some stream → is_open_on stream other ≡ true
on_stream row other stream one on_it = rw on_it at one

on_stream-back : (row other : Handle) (stream : ℕ) → is_on_one row other ≡ true → other.stream ≡ Some stream → is_open_on stream row ≡ true
on_stream-back row other stream one on_it = elim (option_cases row.stream) [
  | inl none ↦ absurd (false≢true (rw none at one))
  | inr some ↦ (let here : (stream == some.0) ≡ true = rw (some.1, on_it) at one in rw some.1 (eqb-swap some.0 stream ∙ here))
]

-- a handle of another key that caches writes keeps a grant from being made
writer-refuses : (v : Volume) (id key stream : ℕ) (level : Level) (handle : ℕ) (row : Handle) → IsTied v → row_of v.handles handle ≡ Some row → is_open_on stream row ≡ true
    → is_same_key handle row.key (Some id) key ≡ false → has_held has_write (held_in v.oplocks handle) ≡ true → is_not_granted v id key stream level ≡ false → ⊥
writer-refuses v id key stream level handle row tied living on_it other_key writes granted = elim (option_cases (oplock_of v handle)) [
  | inl none ↦ absurd (false≢true (rw none at writes))
  | inr some ↦ (let o : Oplock = some.0 in
      let of_it : o.handle ≡ handle = eqb-true o.handle handle (find-passes (λ x. x.handle == handle) v.oplocks o some.1) in
      let on : is_oplock_on v stream o ≡ true = rw (of_it, living) on_it in
      let free = not_refused (some_breaking (is_oplock_on v stream) v.oplocks) _ _ (some_writer (is_oplock_on v stream) id key v.oplocks) _ granted in
      elim (option_cases o.target) [
        | inr target ↦ (let breaking : (is_oplock_on v stream o && is_some o.target) ≡ true = rw (on, target.1) refl in
            absurd (false≢true (sym free.0 ∙ find-any (λ x. x.handle == handle) (λ x. is_oplock_on v stream x && is_some x.target) v.oplocks o some.1 breaking)))
        | inl whole ↦ (let level_writes : (has_write o.level || false) ≡ true = rw (some.1, whole) at writes in
            let not_its : is_of_key id key o ≡ false = sym (own-key v handle o (Some id) key tied some.1) ∙ (rw living other_key) in
            let writer : (is_oplock_on v stream o && not (is_of_key id key o) && has_write o.level) ≡ true = rw (on, not_its) (or_none (has_write o.level) level_writes) in
            absurd (false≢true (sym free.2 ∙ find-any (λ x. x.handle == handle) (λ x. is_oplock_on v stream x && not (is_of_key id key x) && has_write x.level) v.oplocks o some.1 writer)))
      ])
]

-- a handle of another key keeps write caching from being granted
open-refuses : (v : Volume) (id key stream : ℕ) (level : Level) (other : ℕ) (row : Handle) → row_of v.handles other ≡ Some row → is_open_on stream row ≡ true
    → is_same_key id key (Some other) row.key ≡ false → has_write level ≡ true → is_not_granted v id key stream level ≡ false → ⊥
open-refuses v id key stream level other row living on_it other_key writes granted =
    let there : is_open_by_others v id key stream ≡ true = row-any (λ entry. is_open_on stream entry.1 && not (is_same_key entry.0 entry.1.key (Some id) key)) v.handles other row living
    (rw (on_it, same_key-swaps other row.key id key ∙ other_key) refl) in
    let free = not_refused (some_breaking (is_oplock_on v stream) v.oplocks) _ (has_write level && is_open_by_others v id key stream) (some_writer (is_oplock_on v stream) id key v.oplocks) _ granted in
    absurd (false≢true (sym free.1 ∙ rw (writes, there) refl))

pub alone-granted : (v : Volume) (id key stream : ℕ) (row : Handle) (level : Level) (turn : ℕ) → IsTied v → row_of v.handles id ≡ Some row → row.key ≡ key → row.stream ≡ Some stream
    → is_not_granted v id key stream level ≡ false → WritersAlone v → WritersAlone (with_granted v id key stream level turn)
alone-granted v id key stream row level turn tied living of_key on_it granted alone handle other apart writes = elim (cases_Bool (has_in has_read w other)) [
  | inr none ↦ none
  | inl reads ↦ elim (cases_Bool (id == handle)) [
    | inl writer ↦ absurd (new_writer (eqb-true id handle writer))
    | inr elsewhere ↦ elim (cases_Bool (id == other)) [
      | inl reader ↦ absurd (new_reader (eqb-true id other reader) elsewhere)
      | inr neither ↦ (let old_writes : has_in has_write u handle ≡ true = has_in-held has_write u handle ∙ was_writing elsewhere in
          let old_reads : has_in has_read u other ≡ true = has_in-held has_read u other ∙ ap (has_held has_read) (sym (held-other v id key stream level turn other neither)) ∙ sym (has_in-held has_read w other) ∙ reads in
          absurd (false≢true (sym (alone-falls v u switched_falls alone handle other apart old_writes) ∙ old_reads)))
    ]
  ]
]
  where
    u : Volume
    u = with_all_switched v id key stream

    w : Volume
    w = with_granted v id key stream level turn

    switched_falls : Falls v u
    switched_falls = Falls-all_switched v (switched v id key stream)

    it : Apart v handle other
    it = Apart-from v handle other (ap (λ handles. are_apart (record v { handles = handles }) handle other) (sym (Keeps.handles (Keeps-all (switched v id key stream) v))) ∙ apart)

    was_writing : (id == handle) ≡ false → has_held has_write (held_in u.oplocks handle) ≡ true
    was_writing elsewhere = ap (has_held has_write) (sym (held-other v id key stream level turn handle elsewhere)) ∙ sym (has_in-held has_write w handle) ∙ writes

    new_writer : id ≡ handle → ⊥
    new_writer same =
        (let held : held_in w.oplocks handle ≡ Some (level, None) = held-new u.oplocks _ handle (ap (held_in u.oplocks) (sym same) ∙ held-granted v id key stream row tied living of_key on_it) (eq-eqb id handle same) in
        let level_writes : (has_write level || false) ≡ true = ap (has_held has_write) (sym held) ∙ sym (has_in-held has_write w handle) ∙ writes in
        let its_row : row ≡ it.row = (let found : Some row ≡ Some it.row = sym living ∙ ap (row_of v.handles) same ∙ it.living in cc) in
        open-refuses v id key stream level other it.other_row it.other_living
        (on_stream it.row it.other_row stream it.one (ap (λ (r : Handle). r.stream) (sym its_row) ∙ on_it))
        (ap (λ (h : ℕ). is_same_key h key (Some other) it.other_row.key) same ∙ ap (λ (k : ℕ). is_same_key handle k (Some other) it.other_row.key) (sym of_key ∙ ap (λ (r : Handle). r.key) its_row) ∙ it.keys)
        (or_none (has_write level) level_writes) granted)

    new_reader : id ≡ other → (id == handle) ≡ false → ⊥
    new_reader same elsewhere =
        (let its_row : row ≡ it.other_row = (let found : Some row ≡ Some it.other_row = sym living ∙ ap (row_of v.handles) same ∙ it.other_living in cc) in
        writer-refuses v id key stream level handle it.row tied it.living
        (on_stream-back it.row it.other_row stream it.one (ap (λ (r : Handle). r.stream) (sym its_row) ∙ on_it))
        (ap (λ (h : ℕ). is_same_key handle it.row.key (Some h) key) same ∙ ap (λ (k : ℕ). is_same_key handle it.row.key (Some other) k) (sym of_key ∙ ap (λ (r : Handle). r.key) its_row) ∙ it.keys)
        (FallsTo.writes (switched_falls.held handle) (was_writing elsewhere)) granted)
