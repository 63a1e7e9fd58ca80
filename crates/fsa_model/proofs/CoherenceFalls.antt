-- What all tries but those of Oplock and Ack leave of oplocks: no handle caches, counts or writes that didn't before.
use Rattle.std.proofs.Common.{◌≡◌, ℕ, Bool, true, false, ◌==◌, ◌&&◌, ◌||◌, not, List, refl, ap, sym, subst, ◌∙◌, Option, Some, None, inl, inr}
use Rattle.std.specs.Option.{option_map_or}
use Rattle.std.proofs.lemmas.Bool.{cases_Bool, false≢true, and_parts, and_from}
use Rattle.fsa_types.specs.declared.oplock.Class.{Class}
use Rattle.fsa_types.specs.declared.oplock.HandleSet.{HandleSet}
use Rattle.fsa_types.specs.declared.request.Level.{Level}
use Rattle.fsa_types.specs.declared.request.Level.TheVariants.{Nil, R, RH, RW, RWH}
use Rattle.fsa_types.specs.Oplocks.{effect, has_read, has_write, in_both, is_same_key, is_within, keep}
use Rattle.fsa_types.specs.Rows.{row_of}
use Rattle.fsa_model.specs.Breaks.{is_chosen, with_breaks}
use Rattle.fsa_model.specs.Coherence.{IsTied, WritersAlone, are_apart, counts_on_reads, has_in, is_on_one}
use Rattle.fsa_model.specs.Edits.{without_handle}
use Rattle.fsa_model.specs.Grant.{oplock_of}
use Rattle.fsa_model.specs.Lookups.{is_open_on}
use Rattle.fsa_model.specs.Volume.{Handle, Oplock, Volume}
use Rattle.fsa_model.proofs.CoherenceBreaks.{counts-held, counts_held, handles-breaks, held-breaks, held-no_breaks}
use Rattle.fsa_model.proofs.CoherenceLaws.{held_after, held_in, held-without}
use Rattle.fsa_model.proofs.CoherenceSteps.{oplock-lives}
use Rattle.fsa_model.proofs.CoherenceTied.{IsUntouched}
use Rattle.fsa_model.proofs.RowLaws.{option_cases}

-- ---- what a handle holds

abbrev pub has_held : (Level → Bool) → Option (Level × Option Level) → Bool
has_held has held = option_map_or (λ h. has h.0 || option_map_or has h.1 false) held false

pub has_in-held : (has : Level → Bool) (v : Volume) (handle : ℕ) → has_in has v handle ≡ has_held has (held_in v.oplocks handle)
has_in-held has v handle = elim (option_cases (oplock_of v handle)) [ inl none ↦ rw none refl | inr some ↦ rw some.1 refl ]

-- it counts, reads and writes only where it did before
pub record FallsTo (after before : Option (Level × Option Level)) : Type 0 where
  pub counts : counts_held after ≡ true → counts_held before ≡ true
  pub reads : has_held has_read after ≡ true → has_held has_read before ≡ true
  pub writes : has_held has_write after ≡ true → has_held has_write before ≡ true

pub FallsTo-same : (held : Option (Level × Option Level)) → FallsTo held held
FallsTo-same held = record { counts = λ is. is; reads = λ is. is; writes = λ is. is }

pub FallsTo-none : (before : Option (Level × Option Level)) → FallsTo None before
FallsTo-none before = record { counts = λ is. cc; reads = λ is. cc; writes = λ is. cc }

-- ---- one effect

reads-both : (a b : Level) → has_read (in_both a b) ≡ true → has_read a ≡ true
reads-both Nil b is = is
reads-both R b is = refl
reads-both RH b is = refl
reads-both RW b is = refl
reads-both RWH b is = refl

writes-none : (b : Level) → (has_write (in_both R b) ≡ false) × (has_write (in_both RH b) ≡ false)
writes-none Nil = (refl, refl)
writes-none R = (refl, refl)
writes-none RH = (refl, refl)
writes-none RW = (refl, refl)
writes-none RWH = (refl, refl)

pub writes-both : (a b : Level) → has_write (in_both a b) ≡ true → has_write a ≡ true
writes-both Nil b is = is
writes-both R b is = absurd (false≢true (sym (writes-none b).0 ∙ is))
writes-both RH b is = absurd (false≢true (sym (writes-none b).1 ∙ is))
writes-both RW b is = refl
writes-both RWH b is = refl

and_weaker : (a b c : Bool) → (b ≡ true → c ≡ true) → (a && b) ≡ true → (a && c) ≡ true
and_weaker a b c weaker both = (let parts = and_parts a b both in and_from a c parts.0 (weaker parts.1))

or_weaker : (a b c : Bool) → (b ≡ true → c ≡ true) → (a || b) ≡ true → (a || c) ≡ true
or_weaker true b c weaker some = refl
or_weaker false b c weaker some = weaker some

or_left_weaker : (a b : Bool) → (b ≡ true → a ≡ true) → (a || b) ≡ true → (a || false) ≡ true
or_left_weaker true b weaker some = refl
or_left_weaker false b weaker some = weaker some

and_true : (a b : Bool) → (a && b) ≡ true → (a && true) ≡ true
and_true true b both = refl
and_true false b both = both

FallsTo-lowered : (level target kept : Level) → FallsTo (Some (level, Some (in_both target kept))) (Some (level, Some target))
FallsTo-lowered level target kept = record {
  counts = and_weaker (has_read level) (has_read (in_both target kept)) (has_read target) (reads-both target kept);
  reads = or_weaker (has_read level) (has_read (in_both target kept)) (has_read target) (reads-both target kept);
  writes = or_weaker (has_write level) (has_write (in_both target kept)) (has_write target) (writes-both target kept);
}

FallsTo-begun : (level kept : Level) → FallsTo (Some (level, Some (in_both level kept))) (Some (level, None))
FallsTo-begun level kept = record {
  counts = and_true (has_read level) (has_read (in_both level kept));
  reads = or_left_weaker (has_read level) (has_read (in_both level kept)) (reads-both level kept);
  writes = or_left_weaker (has_write level) (has_write (in_both level kept)) (writes-both level kept);
}

FallsTo-effect : (kind : Class) (level : Level) (target : Option Level) → FallsTo (held_after (effect kind level target) (Some (level, target))) (Some (level, target))
FallsTo-effect kind level (Some target) = FallsTo-lowered level target (keep kind)
FallsTo-effect kind level None = elim (cases_Bool (is_within level (keep kind))) [
  | inl inside ↦ rw inside (FallsTo-same (Some (level, None)))
  | inr outside ↦ elim (cases_Bool (is_within level R)) [
    | inl reads ↦ rw (outside, reads) (FallsTo-none (Some (level, None)))
    | inr more ↦ rw (outside, more) (FallsTo-begun level (keep kind))
  ]
]

-- ---- a volume

-- the handle was there, on the same stream and with the same key
pub record WasOpen (v : Volume) (handle : ℕ) (row : Handle) : Type 0 where
  pub before : Handle
  pub living : row_of v.handles handle ≡ Some before
  pub stream : before.stream ≡ row.stream
  pub key : before.key ≡ row.key

pub record Falls (v w : Volume) : Type 0 where
  pub held : (handle : ℕ) → FallsTo (held_in w.oplocks handle) (held_in v.oplocks handle)
  pub rows : (handle : ℕ) (row : Handle) → row_of w.handles handle ≡ Some row → has_held has_read (held_in w.oplocks handle) ≡ true → WasOpen v handle row

pub Falls-next : (u v w : Volume) → Falls u v → Falls v w → Falls u w
Falls-next u v w first second = record {
  held = λ handle. record {
    counts = λ is. FallsTo.counts (first.held handle) (FallsTo.counts (second.held handle) is);
    reads = λ is. FallsTo.reads (first.held handle) (FallsTo.reads (second.held handle) is);
    writes = λ is. FallsTo.writes (first.held handle) (FallsTo.writes (second.held handle) is);
  };
  rows = λ handle row living reads.
      let it : WasOpen v handle row = second.rows handle row living reads in
      let was : WasOpen u handle it.before = first.rows handle it.before it.living (FallsTo.reads (second.held handle) reads) in
      record { before = was.before; living = was.living; stream = was.stream ∙ it.stream; key = was.key ∙ it.key };
}

held-equal : (v w : Volume) (handle : ℕ) → w.oplocks ≡ v.oplocks → FallsTo (held_in w.oplocks handle) (held_in v.oplocks handle)
held-equal v w handle same = subst (λ (oplocks : List Oplock). FallsTo (held_in oplocks handle) (held_in v.oplocks handle)) (sym same) (FallsTo-same (held_in v.oplocks handle))

-- handles and oplocks as they were
pub Falls-opens : (v w : Volume) → w.handles ≡ v.handles → w.oplocks ≡ v.oplocks → Falls v w
Falls-opens v w handles oplocks = record {
  held = λ handle. held-equal v w handle oplocks;
  rows = λ handle row living reads. record { before = row; living = rw handles at living; stream = refl; key = refl };
}

pub Falls-same : (v : Volume) → Falls v v
Falls-same v = Falls-opens v v refl refl

pub Falls-untouched : (v w : Volume) → IsUntouched v w → Falls v w
Falls-untouched v w untouched = Falls-opens v w untouched.handles untouched.oplocks

pub Falls-breaks : (v : Volume) (on : HandleSet) (kind : Class) (acting : Option ℕ) (key : ℕ) → IsTied v → Falls v (with_breaks v on kind acting key)
Falls-breaks v on kind acting key tied = record {
  held = held;
  rows = λ handle row living reads. record { before = row; living = rw (handles-breaks v on kind acting key) at living; stream = refl; key = refl };
}
  where
    held : (handle : ℕ) → FallsTo (held_in (with_breaks v on kind acting key).oplocks handle) (held_in v.oplocks handle)
    held handle = elim (option_cases (oplock_of v handle)) [
      | inl none ↦ rw (held-no_breaks v on kind acting key handle none) (FallsTo-none (held_in v.oplocks handle))
      | inr some ↦ (let before : held_in v.oplocks handle ≡ Some (some.0.level, some.0.target) = rw some.1 refl in
          rw (held-breaks v on kind acting key handle some.0 tied.oplocks_differ some.1, before) (elim (cases_Bool (is_chosen v on acting key some.0)) [
            | inl is_one ↦ rw is_one (FallsTo-effect kind some.0.level some.0.target)
            | inr isnt ↦ rw isnt (FallsTo-same (Some (some.0.level, some.0.target)))
          ]))
    ]

-- handles come, and oplocks are as they were: who has an oplock was there
held-lives : (v : Volume) (handle : ℕ) → IsTied v → has_held has_read (held_in v.oplocks handle) ≡ true → (row : Handle) × (row_of v.handles handle ≡ Some row)
held-lives v handle tied reads = elim (option_cases (oplock_of v handle)) [
  | inl none ↦ absurd (false≢true (rw none at reads))
  | inr some ↦ oplock-lives v handle some.0 tied some.1
]

pub Falls-comes : (v w : Volume) → IsTied v → w.oplocks ≡ v.oplocks → ((handle : ℕ) (row : Handle) → row_of v.handles handle ≡ Some row → row_of w.handles handle ≡ Some row) → Falls v w
Falls-comes v w tied oplocks comes = record {
  held = λ handle. held-equal v w handle oplocks;
  rows = λ handle row living reads.
      let it : (before : Handle) × (row_of v.handles handle ≡ Some before) = held-lives v handle tied (FallsTo.reads (held-equal v w handle oplocks) reads) in
      let same : Some it.0 ≡ Some row = sym (comes handle it.0 it.1) ∙ living in
      let is : it.0 ≡ row = cc in
      record { before = it.0; living = it.1; stream = ap (λ (r : Handle). r.stream) is; key = ap (λ (r : Handle). r.key) is };
}

-- a handle goes with its oplock
pub Falls-without_handle : (v : Volume) (id : ℕ) → ((handle : ℕ) (row : Handle) → row_of (without_handle v id).handles handle ≡ Some row → row_of v.handles handle ≡ Some row) → Falls v (without_handle v id)
Falls-without_handle v id stays = record {
  held = λ handle. rw (held-without v.oplocks id handle) (elim (cases_Bool (id == handle)) [
    | inl here ↦ rw here (FallsTo-none (held_in v.oplocks handle))
    | inr other ↦ rw other (FallsTo-same (held_in v.oplocks handle))
  ]);
  rows = λ handle row living reads. record { before = row; living = stays handle row living; stream = refl; key = refl };
}

-- ---- what follows

-- no handle begins to count
pub counts-falls : (v w : Volume) (handle : ℕ) → Falls v w → counts_on_reads w handle ≡ true → counts_on_reads v handle ≡ true
counts-falls v w handle falls is = counts-held v handle ∙ FallsTo.counts (falls.held handle) (sym (counts-held w handle) ∙ is)

reads-level : (level : Level) → has_write level ≡ true → has_read level ≡ true
reads-level Nil is = is
reads-level R is = refl
reads-level RH is = refl
reads-level RW is = refl
reads-level RWH is = refl

-- who writes reads
pub reads-held : (held : Option (Level × Option Level)) → has_held has_write held ≡ true → has_held has_read held ≡ true
reads-held None is = is
reads-held (Some (level, None)) is = elim (cases_Bool (has_write level)) [
  | inl writes ↦ rw (reads-level level writes) refl
  | inr none ↦ absurd (false≢true (rw none at is))
]
reads-held (Some (level, Some target)) is = elim (cases_Bool (has_write level)) [
  | inl writes ↦ rw (reads-level level writes) refl
  | inr none ↦ (let here : has_write target ≡ true = rw none at is in or_weaker (has_read level) true (has_read target) (λ _. reads-level target here) (or_true (has_read level)))
]
  where
    or_true : (b : Bool) → (b || true) ≡ true
    or_true true = refl
    or_true false = refl

-- two handles that are apart
pub record Apart (v : Volume) (handle other : ℕ) : Type 0 where
  pub row : Handle
  pub other_row : Handle
  pub living : row_of v.handles handle ≡ Some row
  pub other_living : row_of v.handles other ≡ Some other_row
  pub one : is_on_one row other_row ≡ true
  pub keys : is_same_key handle row.key (Some other) other_row.key ≡ false

pub Apart-from : (v : Volume) (handle other : ℕ) → are_apart v handle other ≡ true → Apart v handle other
Apart-from v handle other apart = elim (option_cases (row_of v.handles handle)) [
  | inl none ↦ absurd (false≢true (rw none at apart))
  | inr row ↦ (let first : option_map_or (λ other_row. is_on_one row.0 other_row && not (is_same_key handle row.0.key (Some other) other_row.key)) (row_of v.handles other) false ≡ true = rw row.1 at apart in
      elim (option_cases (row_of v.handles other)) [
        | inl none ↦ absurd (false≢true (rw none at first))
        | inr other_row ↦ (let both : (is_on_one row.0 other_row.0 && not (is_same_key handle row.0.key (Some other) other_row.0.key)) ≡ true = rw other_row.1 at first in
            let parts = and_parts (is_on_one row.0 other_row.0) (not (is_same_key handle row.0.key (Some other) other_row.0.key)) both in
            record { row = row.0; other_row = other_row.0; living = row.1; other_living = other_row.1; one = parts.0; keys = not_true (is_same_key handle row.0.key (Some other) other_row.0.key) parts.1 })
      ])
]
  where
    not_true : (b : Bool) → not b ≡ true → b ≡ false
    not_true true is = sym is
    not_true false is = refl

are_apart-from : (v : Volume) (handle other : ℕ) → Apart v handle other → are_apart v handle other ≡ true
are_apart-from v handle other it = rw (it.living, it.other_living, it.one, it.keys) refl

-- where who reads or writes did before, and was open
pub alone-from : (v w : Volume) → ((handle : ℕ) → has_held has_read (held_in w.oplocks handle) ≡ true → has_held has_read (held_in v.oplocks handle) ≡ true)
    → ((handle : ℕ) → has_held has_write (held_in w.oplocks handle) ≡ true → has_held has_write (held_in v.oplocks handle) ≡ true)
    → ((handle : ℕ) (row : Handle) → row_of w.handles handle ≡ Some row → has_held has_read (held_in w.oplocks handle) ≡ true → WasOpen v handle row)
    → WritersAlone v → WritersAlone w
alone-from v w fewer_read fewer_write was_open alone handle other apart writes = elim (cases_Bool (has_in has_read w other)) [
  | inr none ↦ none
  | inl reads ↦ (let it : Apart w handle other = Apart-from w handle other apart in
      let held_writes : has_held has_write (held_in w.oplocks handle) ≡ true = sym (has_in-held has_write w handle) ∙ writes in
      let held_reads : has_held has_read (held_in w.oplocks other) ≡ true = sym (has_in-held has_read w other) ∙ reads in
      let was : WasOpen v handle it.row = was_open handle it.row it.living (reads-held (held_in w.oplocks handle) held_writes) in
      let other_was : WasOpen v other it.other_row = was_open other it.other_row it.other_living held_reads in
      let apart_before : are_apart v handle other ≡ true = are_apart-from v handle other (record {
        row = was.before;
        other_row = other_was.before;
        living = was.living;
        other_living = other_was.living;
        one = ap (λ stream. option_map_or (λ s. is_open_on s other_was.before) stream false) was.stream ∙ on_same it.row it.other_row other_was.before other_was.stream it.one;
        keys = ap (λ key. is_same_key handle key (Some other) other_was.before.key) was.key ∙ ap (λ key. is_same_key handle it.row.key (Some other) key) other_was.key ∙ it.keys;
      }) in
      let none : has_in has_read v other ≡ false = alone handle other apart_before (has_in-held has_write v handle ∙ fewer_write handle held_writes) in
      let some : has_in has_read v other ≡ true = has_in-held has_read v other ∙ fewer_read other held_reads in
      absurd (false≢true (sym none ∙ some)))
]
  where
    on_same : (row after before : Handle) → before.stream ≡ after.stream → is_on_one row after ≡ true → is_on_one row before ≡ true
    on_same row after before same one = ap (λ (of : Option ℕ). option_map_or (λ stream. option_map_or (λ s. s == stream) of false) row.stream false) same ∙ one

pub alone-falls : (v w : Volume) → Falls v w → WritersAlone v → WritersAlone w
alone-falls v w falls =
    alone-from v w (λ handle reads. FallsTo.reads (falls.held handle) reads) (λ handle writes. FallsTo.writes (falls.held handle) writes) (λ handle row living reads. falls.rows handle row living reads)
