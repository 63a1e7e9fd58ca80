-- What a try leaves of watches, of the list of changes and of pending calls: a watch that stands then stood before,
-- changes are only added, and a call that ends in it ends in no report, unless an oplock was granted to it.
use Rattle.std.proofs.Common.{◌≡◌, ℕ, ◌+◌, ◌≤◌, Bool, true, false, List, [], ◌∷◌, ◌++◌, append-nil, append_assoc, get_or, refl, ap, sym, ◌∙◌, arith, inl, inr, ◌⊎◌, Option, Some, None}
use Rattle.std.specs.List.{All, find}
use Rattle.std.specs.Prelude.{◌==◌, ◌&&◌, filter}
use Rattle.std.proofs.lemmas.Bool.{eq-eqb}
use Rattle.std.proofs.lemmas.List.Elements.{All-append, All-cons, All-nil}
use Rattle.fsa_types.specs.Oplocks.{Effect, Stays, Ends, Begins, Lowers, effect}
use Rattle.fsa_types.specs.Rows.{row_of}
use Rattle.fsa_types.specs.declared.oplock.Class.{Class}
use Rattle.fsa_types.specs.declared.oplock.HandleSet.{HandleSet}
use Rattle.fsa_types.specs.declared.reply.Body.TheVariants.{Broken}
use Rattle.fsa_types.specs.declared.reply.EndOf.{EndOf}
use Rattle.fsa_types.specs.declared.request.Level.{Level}
use Rattle.fsa_types.specs.declared.request.Level.TheVariants.{Nil}
use Rattle.fsa_types.specs.declared.status.Status.TheVariants.{Success}
use Rattle.fsa_model.specs.Breaks.{with_told, with_break_begun, with_effect, with_breaks, is_broken_before, is_chosen, chosen}
use Rattle.fsa_model.specs.Edits.{is_call, without_oplock}
use Rattle.fsa_model.specs.Once.{how_many}
use Rattle.fsa_model.specs.Settling.{is_under}
use Rattle.fsa_model.specs.Volume.{Change, Oplock, Pending, Volume, Watch}
use Rattle.fsa_model.specs.Waiting.{is_granted_under}
use Rattle.fsa_model.specs.Watched.{is_report_status}
use Rattle.fsa_model.specs.Watching.{watch_of}
use Rattle.fsa_model.proofs.BreakLaws.{broken, with_breaks-rest}
use Rattle.fsa_model.proofs.CountLaws.{how_many-filter_le, how_many-in_order, how_many-some}
use Rattle.fsa_model.proofs.OnceLaws.{is_same-refl}
use Rattle.fsa_model.proofs.RowLaws.{find-any, option_cases}
use Rattle.fsa_model.proofs.TryLaws.{Keeps, Keeps-breaks, Keeps-effect, Leaves, Untouched}
use Rattle.fsa_model.proofs.WaitLaws.{find-passes}

-- ---- what a try leaves

-- the call was pending under a turn under which an oplock was granted
pub record WasGranted (v : Volume) (client number : ℕ) : Type 0 where
  pub turn : ℕ
  pub granted : 1 ≤ how_many (is_granted_under turn) v.oplocks
  pub pends : 1 ≤ how_many (λ e. is_under turn e && is_call client number e.1) v.pending

abbrev pub EndsQuietly : Volume → EndOf → Type 0
EndsQuietly v end = (is_report_status end.reply.status ≡ false) ⊎ WasGranted v end.client end.number

-- the ends that are new to w in x are such in v
pub record QuietEnds (v w x : Volume) : Type 0 where
  pub ends : List EndOf
  pub is : x.ended ≡ w.ended ++ ends
  pub all : All (EndsQuietly v) ends

-- each watch that stands then stood before, as it is
abbrev pub WatchesStood : Volume → Volume → Type 0
WatchesStood v w = (id : ℕ) (watch : Watch) → watch_of w id ≡ Some watch → watch_of v id ≡ Some watch

pub record Quiet (v w : Volume) : Type 0 where
  pub stood : WatchesStood v w
  pub more : List Change
  pub changes : w.changes ≡ v.changes ++ more
  pub ended : QuietEnds v v w

-- and no call becomes pending, or is granted an oplock
pub record Onward (v w : Volume) : Type 0 where
  pub quiet : Quiet v w
  pub granted : (turn : ℕ) → how_many (is_granted_under turn) w.oplocks ≤ how_many (is_granted_under turn) v.oplocks
  pub pending : (test : ℕ × Pending → Bool) → how_many test w.pending ≤ how_many test v.pending

-- ---- ends

quiet-before : {u v : Volume} → Onward u v → (end : EndOf) → EndsQuietly v end → EndsQuietly u end
quiet-before first end (inl other) = inl other
quiet-before first end (inr was) = inr (record {
  turn = was.turn;
  granted = let one = was.granted in let few = first.granted was.turn in omega arith;
  pends = let one = was.pends in let few = first.pending (λ e. is_under was.turn e && is_call end.client end.number e.1) in omega arith;
})

all-before : {u v : Volume} → Onward u v → (ends : List EndOf) → All (EndsQuietly v) ends → All (EndsQuietly u) ends
all-before first ends all k d within = quiet-before first (get_or ends k d) (all k d within)

pub QuietEnds-none : {v w x : Volume} → x.ended ≡ w.ended → QuietEnds v w x
QuietEnds-none {v} {w} same = record { ends = []; is = same ∙ sym (append-nil w.ended); all = All-nil (EndsQuietly v) }

pub QuietEnds-next : {u v w x : Volume} → QuietEnds u v w → QuietEnds u w x → QuietEnds u v x
QuietEnds-next {u} {v} first second = record {
  ends = first.ends ++ second.ends;
  is = second.is ∙ ap (λ (ended : List EndOf). ended ++ second.ends) first.is ∙ append_assoc v.ended first.ends second.ends;
  all = All-append (EndsQuietly u) first.ends second.ends first.all second.all;
}

-- ---- one after another

pub Quiet-next : {u v w : Volume} → Onward u v → Quiet v w → Quiet u w
Quiet-next {u} first second = record {
  stood = λ id watch is. first.quiet.stood id watch (second.stood id watch is);
  more = first.quiet.more ++ second.more;
  changes = second.changes ∙ ap (λ (changes : List Change). changes ++ second.more) first.quiet.changes ∙ append_assoc u.changes first.quiet.more second.more;
  ended = QuietEnds-next first.quiet.ended (record { ends = second.ended.ends; is = second.ended.is; all = all-before first second.ended.ends second.ended.all });
}

pub Onward-next : {u v w : Volume} → Onward u v → Onward v w → Onward u w
Onward-next first second = record {
  quiet = Quiet-next first second.quiet;
  granted = λ turn. let one = first.granted turn in let two = second.granted turn in omega arith;
  pending = λ test. let one = first.pending test in let two = second.pending test in omega arith;
}

-- nothing of this changes
pub Quiet-same : {v w : Volume} → w.watches ≡ v.watches → w.changes ≡ v.changes → w.ended ≡ v.ended → Quiet v w
Quiet-same {v} {w} watches changes ended = record {
  stood = λ id watch is. rw watches at is;
  more = [];
  changes = changes ∙ sym (append-nil v.changes);
  ended = QuietEnds-none ended;
}

pub Onward-same : (v : Volume) → Onward v v
Onward-same v = record { quiet = Quiet-same refl refl refl; granted = λ turn. omega arith; pending = λ test. omega arith }

pub Onward-untouched : (v w : Volume) → Untouched v w → w.watches ≡ v.watches → Onward v w
Onward-untouched v w untouched watches = record {
  quiet = record { stood = λ id watch is. rw watches at is; more = untouched.seen.more; changes = untouched.seen.changes; ended = QuietEnds-none untouched.ended };
  granted = λ turn. rw untouched.oplocks (omega arith);
  pending = λ test. rw untouched.pending (omega arith);
}

pub Onward-leaves : (v w : Volume) → Leaves v w → w.ended ≡ v.ended → w.watches ≡ v.watches → Onward v w
Onward-leaves v w leaves ended watches = record {
  quiet = record { stood = λ id watch is. rw watches at is; more = leaves.keeps.seen.more; changes = leaves.keeps.seen.changes; ended = QuietEnds-none ended };
  granted = leaves.keeps.granted;
  pending = leaves.keeps.pending;
}

-- ---- breaks

-- who is told was granted the oplock
told-quiet : (v w : Volume) (turn : Option ℕ) (level : Level) (ack : Bool) → ((test : ℕ × Pending → Bool) → how_many test w.pending ≤ how_many test v.pending)
    → ((t : ℕ) → turn ≡ Some t → 1 ≤ how_many (is_granted_under t) v.oplocks) → QuietEnds v w (with_told w turn level ack)
told-quiet v w None level ack fewer granted = QuietEnds-none refl
told-quiet v w (Some turn) level ack fewer granted = elim (option_cases (row_of w.pending turn)) [
  | inl none ↦ rw none (QuietEnds-none refl)
  | inr some ↦ rw some.1 (record {
    ends = record { client = some.0.call.client; number = some.0.call.number; reply = record { status = Success; body = Broken level ack } } ∷ [];
    is = refl;
    all = All-cons (EndsQuietly v) _ [] (inr (record { turn = turn; granted = granted turn refl; pends = pends some.0 some.1 })) (All-nil (EndsQuietly v));
  })
]
  where
    pends : (row : Pending) → row_of w.pending turn ≡ Some row → 1 ≤ how_many (λ e. is_under turn e && is_call row.call.client row.call.number e.1) v.pending
    pends row found = elim (option_cases (find (λ (entry : ℕ × Pending). entry.0 == turn) w.pending)) [
      | inl missing ↦ (let impossible : None ≡ Some row = rw missing at found in cc)
      | inr some ↦ (let is : Some some.0.1 ≡ Some row = rw some.1 at found in let same : some.0.1 ≡ row = cc in
          let here = how_many-some (λ e. is_under turn e && is_call row.call.client row.call.number e.1) w.pending
          (find-any (λ (entry : ℕ × Pending). entry.0 == turn) (λ e. is_under turn e && is_call row.call.client row.call.number e.1) w.pending some.0 some.1
          (rw (find-passes (λ (entry : ℕ × Pending). entry.0 == turn) w.pending some.0 some.1, same, is_same-refl row.call.client row.call.number) refl)) in
          let few = fewer (λ e. is_under turn e && is_call row.call.client row.call.number e.1) in omega arith)
    ]

effect-quiet : (v w : Volume) (oplock : Oplock) (done : Effect) → ((test : ℕ × Pending → Bool) → how_many test w.pending ≤ how_many test v.pending)
    → ((t : ℕ) → oplock.call ≡ Some t → 1 ≤ how_many (is_granted_under t) v.oplocks) → QuietEnds v w (with_effect w oplock done)
effect-quiet v w oplock Stays fewer granted = QuietEnds-none refl
effect-quiet v w oplock Ends fewer granted =
    (let it = told-quiet v (without_oplock w oplock.handle) oplock.call Nil false fewer granted in record { ends = it.ends; is = it.is; all = it.all })
effect-quiet v w oplock (Begins level) fewer granted =
    (let it = told-quiet v (with_break_begun w oplock.handle level) oplock.call level true fewer granted in record { ends = it.ends; is = it.is; all = it.all })
effect-quiet v w oplock (Lowers level) fewer granted = QuietEnds-none refl

broken-quiet : (kind : Class) (v w : Volume) (oplocks : List Oplock) → ((test : ℕ × Pending → Bool) → how_many test w.pending ≤ how_many test v.pending)
    → ((test : Oplock → Bool) → how_many test oplocks ≤ how_many test v.oplocks) → QuietEnds v w (broken kind w oplocks)
broken-quiet kind v w [] fewer among = QuietEnds-none refl
broken-quiet kind v w (o ∷ oplocks) fewer among =
    let next : Volume = with_effect w o (effect kind o.level o.target) in
    let keeps : Keeps w next = Keeps-effect w o (effect kind o.level o.target) in
    QuietEnds-next (effect-quiet v w o (effect kind o.level o.target) fewer (λ t call. granted t call))
    (broken-quiet kind v next oplocks (λ test. let one = fewer test in let two = keeps.pending test in omega arith) (λ test. rest test))
  where
    granted : (t : ℕ) → o.call ≡ Some t → 1 ≤ how_many (is_granted_under t) v.oplocks
    granted t call = (let few = among (is_granted_under t) in let here : is_granted_under t o ≡ true = rw call (is_same t) in let more : 1 + how_many (is_granted_under t) oplocks ≤ how_many (is_granted_under t) v.oplocks = rw here at few in omega arith)
      where
        is_same : (n : ℕ) → (n == n) ≡ true
        is_same n = eq-eqb n n refl

    rest : (test : Oplock → Bool) → how_many test oplocks ≤ how_many test v.oplocks
    rest test = (let few = among test in omega arith)

pub Onward-breaks : (v : Volume) (on : HandleSet) (kind : Class) (acting : Option ℕ) (key : ℕ) → Onward v (with_breaks v on kind acting key)
Onward-breaks v on kind acting key =
    let keeps : Keeps v (with_breaks v on kind acting key) = Keeps-breaks v on kind acting key in
    record {
      quiet = record {
        stood = λ id watch is. (let same : (with_breaks v on kind acting key).watches ≡ v.watches = ap (λ (w : Volume). w.watches) (with_breaks-rest v on kind acting key) in rw same at is);
        more = keeps.seen.more;
        changes = keeps.seen.changes;
        ended = broken-quiet kind v v (chosen v on acting key) (λ test. omega arith) (λ test.
            let ordered = how_many-in_order test (is_broken_before v) (filter (is_chosen v on acting key) v.oplocks) in
            let kept = how_many-filter_le test (is_chosen v on acting key) v.oplocks in omega arith);
      };
      granted = keeps.granted;
      pending = keeps.pending;
    }
