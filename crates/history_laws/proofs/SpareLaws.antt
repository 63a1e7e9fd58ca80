-- What leaves a call that has no oplock as it is: edits of other things, breaks, and the ends of other calls.
use Rattle.std.proofs.Common.{◌≡◌, ℕ, ◌+◌, ◌≤◌, Bool, true, false, not, List, [], ◌∷◌, ◌++◌, append-nil, refl, ap, ◌∙◌, arith, inl, inr, Option, Some, None}
use Rattle.std.specs.List.{filter, find}
use Rattle.std.specs.Prelude.{◌==◌, ◌&&◌}
use Rattle.std.proofs.lemmas.Bool.{cases_Bool, eq-eqb}
use Rattle.std.proofs.lemmas.List.Elements.{filter-append}
use Rattle.fsa_types.specs.Oplocks.{Effect, Stays, Ends, Begins, Lowers, effect}
use Rattle.fsa_types.specs.Rows.{row_of}
use Rattle.fsa_types.specs.declared.oplock.Class.{Class}
use Rattle.fsa_types.specs.declared.oplock.HandleSet.{HandleSet}
use Rattle.fsa_types.specs.declared.reply.EndOf.{EndOf}
use Rattle.fsa_types.specs.declared.reply.Reply.{Reply}
use Rattle.fsa_types.specs.declared.request.Level.{Level}
use Rattle.fsa_types.specs.declared.request.Level.TheVariants.{Nil}
use Rattle.fsa_model.specs.Breaks.{with_told, with_break_begun, with_effect, with_breaks, is_broken_before, is_chosen, chosen}
use Rattle.fsa_model.specs.Edits.{is_call, with_end, without_oplock}
use Rattle.fsa_model.specs.Lookups.{has_left}
use Rattle.fsa_model.specs.Once.{how_many, is_end}
use Rattle.fsa_model.specs.Settling.{is_under}
use Rattle.fsa_model.specs.Volume.{Oplock, Pending, Volume}
use Rattle.fsa_model.specs.Waiting.{is_granted_under, is_wait}
use Rattle.fsa_model.proofs.BreakLaws.{broken, with_breaks-rest}
use Rattle.fsa_model.proofs.CountLaws.{how_many-filter_le, how_many-in_order, how_many-some}
use Rattle.fsa_model.proofs.RowLaws.{find-any, option_cases}
use Rattle.fsa_model.proofs.TryLaws.{Keeps, Keeps-breaks, Keeps-effect}
use Rattle.fsa_model.proofs.WaitLaws.{find-passes}
use Rattle.history_laws.proofs.ByBreaks.{ByBreaks, Still, Locked, Broken, Next}

module _ (who number : ℕ) where
  -- the client's call of this number is a wait, where it is pending, and no oplock is granted to it
  pub record IsBareWait (v : Volume) : Type 0 where
    pub waits : how_many (λ e. is_call who number e.1 && not (is_wait e.1.call.what)) v.pending ≡ 0
    pub none : (turn : ℕ) → 1 ≤ how_many (is_granted_under turn) v.oplocks → how_many (λ e. is_under turn e && is_call who number e.1) v.pending ≡ 0

  -- such a call has ended in the second volume as it had in the first, and it's still such a one; and its client has
  -- left where it had
  pub record Spares (v w : Volume) : Type 0 where
    pub kept : IsBareWait v → IsBareWait w
    pub ended : IsBareWait v → filter (is_end who number) w.ended ≡ filter (is_end who number) v.ended
    pub left : has_left w who ≡ has_left v who

  pub IsBareWait-fewer : {v w : Volume} → ((turn : ℕ) → how_many (is_granted_under turn) w.oplocks ≤ how_many (is_granted_under turn) v.oplocks)
      → ((test : ℕ × Pending → Bool) → how_many test w.pending ≤ how_many test v.pending) → IsBareWait v → IsBareWait w
  IsBareWait-fewer granted fewer un = record {
    waits = (let few = fewer (λ e. is_call who number e.1 && not (is_wait e.1.call.what)) in let none = un.waits in omega arith);
    none = λ turn some. (let many = granted turn in let few = fewer (λ e. is_under turn e && is_call who number e.1) in let none = un.none turn (omega arith) in omega arith);
  }

  -- ---- volumes

  pub Spares-still : {v w : Volume} → w.oplocks ≡ v.oplocks → w.pending ≡ v.pending → w.ended ≡ v.ended → w.left ≡ v.left → Spares v w
  Spares-still oplocks pending ended left = record {
    kept = λ un. record { waits = rw pending un.waits; none = λ turn some. (rw pending (un.none turn (rw oplocks at some))) };
    ended = λ un. rw ended refl;
    left = rw left refl;
  }

  pub Spares-same : (v : Volume) → Spares v v
  Spares-same v = Spares-still {v = v} {w = v} refl refl refl refl

  pub Spares-next : {u v w : Volume} → Spares u v → Spares v w → Spares u w
  Spares-next first second = record {
    kept = λ un. second.kept (first.kept un);
    ended = λ un. second.ended (first.kept un) ∙ first.ended un;
    left = second.left ∙ first.left;
  }

  -- another call ends
  pub filter-other_end : (ended : List EndOf) (client other : ℕ) (reply : Reply) → (client == who && other == number) ≡ false
      → filter (is_end who number) (ended ++ record { client = client; number = other; reply = reply } ∷ []) ≡ filter (is_end who number) ended
  filter-other_end ended client other reply differs =
      filter-append (is_end who number) ended (record { client = client; number = other; reply = reply } ∷ []) ∙ rw differs (append-nil (filter (is_end who number) ended))

  pub Spares-end : (v : Volume) (client other : ℕ) (reply : Reply) → (client == who && other == number) ≡ false → Spares v (with_end v client other reply)
  Spares-end v client other reply differs = record {
    kept = IsBareWait-fewer {v = v} {w = with_end v client other reply} (λ turn. omega arith) (λ test. how_many-filter_le test (λ entry. not (is_call client other entry.1)) v.pending);
    ended = λ un. filter-other_end v.ended client other reply differs;
    left = refl;
  }

  -- ---- breaks

  -- the call that is pending under this turn is another
  pub other_under : (v w : Volume) (turn : ℕ) (row : Pending) → IsBareWait v → ((test : ℕ × Pending → Bool) → how_many test w.pending ≤ how_many test v.pending)
      → 1 ≤ how_many (is_granted_under turn) v.oplocks → row_of w.pending turn ≡ Some row → is_call who number row ≡ false
  other_under v w turn row un fewer granted found = elim (cases_Bool (is_call who number row)) [
    | inr isnt ↦ isnt
    | inl is ↦ elim (option_cases (find (λ (entry : ℕ × Pending). entry.0 == turn) w.pending)) [
      | inl missing ↦ (let impossible : None ≡ Some row = rw missing at found in cc)
      | inr some ↦ (let at : Some some.0.1 ≡ Some row = rw some.1 at found in let same : some.0.1 ≡ row = cc in
          let here = how_many-some (λ e. is_under turn e && is_call who number e.1) w.pending
          (find-any (λ (entry : ℕ × Pending). entry.0 == turn) (λ e. is_under turn e && is_call who number e.1) w.pending some.0 some.1
          (rw (find-passes (λ (entry : ℕ × Pending). entry.0 == turn) w.pending some.0 some.1, same, is) refl)) in
          let few = fewer (λ e. is_under turn e && is_call who number e.1) in
          let none = un.none turn granted in
          absurd (omega arith))
    ]
  ]

  ended-told : (v w : Volume) (turn : Option ℕ) (level : Level) (ack : Bool) → IsBareWait v → ((test : ℕ × Pending → Bool) → how_many test w.pending ≤ how_many test v.pending)
      → ((t : ℕ) → turn ≡ Some t → 1 ≤ how_many (is_granted_under t) v.oplocks) → filter (is_end who number) (with_told w turn level ack).ended ≡ filter (is_end who number) w.ended
  ended-told v w None level ack un fewer granted = refl
  ended-told v w (Some turn) level ack un fewer granted = elim (option_cases (row_of w.pending turn)) [
    | inl none ↦ rw none refl
    | inr some ↦ rw some.1 (filter-other_end w.ended some.0.call.client some.0.call.number _ (other_under v w turn some.0 un fewer (granted turn refl) some.1))
  ]

  ended-effect : (v w : Volume) (oplock : Oplock) (done : Effect) → IsBareWait v → ((test : ℕ × Pending → Bool) → how_many test w.pending ≤ how_many test v.pending)
      → ((t : ℕ) → oplock.call ≡ Some t → 1 ≤ how_many (is_granted_under t) v.oplocks) → filter (is_end who number) (with_effect w oplock done).ended ≡ filter (is_end who number) w.ended
  ended-effect v w oplock Stays un fewer granted = refl
  ended-effect v w oplock Ends un fewer granted = ended-told v (without_oplock w oplock.handle) oplock.call Nil false un fewer granted
  ended-effect v w oplock (Begins level) un fewer granted = ended-told v (with_break_begun w oplock.handle level) oplock.call level true un fewer granted
  ended-effect v w oplock (Lowers level) un fewer granted = refl

  ended-broken : (kind : Class) (v w : Volume) (oplocks : List Oplock) → IsBareWait v → ((test : ℕ × Pending → Bool) → how_many test w.pending ≤ how_many test v.pending)
      → ((test : Oplock → Bool) → how_many test oplocks ≤ how_many test v.oplocks) → filter (is_end who number) (broken kind w oplocks).ended ≡ filter (is_end who number) w.ended
  ended-broken kind v w [] un fewer among = refl
  ended-broken kind v w (o ∷ oplocks) un fewer among =
      let next : Volume = with_effect w o (effect kind o.level o.target) in
      let keeps : Keeps w next = Keeps-effect w o (effect kind o.level o.target) in
      ended-broken kind v next oplocks un (λ test. let one = fewer test in let two = keeps.pending test in omega arith) (λ test. rest test)
      ∙ ended-effect v w o (effect kind o.level o.target) un fewer (λ t call. granted t call)
    where
      granted : (t : ℕ) → o.call ≡ Some t → 1 ≤ how_many (is_granted_under t) v.oplocks
      granted t call = (let few = among (is_granted_under t) in let here : is_granted_under t o ≡ true = rw call (eq-eqb t t refl) in
          let more : 1 + how_many (is_granted_under t) oplocks ≤ how_many (is_granted_under t) v.oplocks = rw here at few in omega arith)

      rest : (test : Oplock → Bool) → how_many test oplocks ≤ how_many test v.oplocks
      rest test = (let few = among test in omega arith)

  Spares-breaks : (v : Volume) (on : HandleSet) (kind : Class) (acting : Option ℕ) (key : ℕ) → Spares v (with_breaks v on kind acting key)
  Spares-breaks v on kind acting key =
      let keeps : Keeps v (with_breaks v on kind acting key) = Keeps-breaks v on kind acting key in
      record {
        kept = IsBareWait-fewer keeps.granted keeps.pending;
        ended = λ un. ended-broken kind v v (chosen v on acting key) un (λ test. omega arith) (λ test.
            let ordered = how_many-in_order test (is_broken_before v) (filter (is_chosen v on acting key) v.oplocks) in
            let kept = how_many-filter_le test (is_chosen v on acting key) v.oplocks in omega arith);
        left = ap (λ (w : Volume). has_left w who) (with_breaks-rest v on kind acting key);
      }

  -- ---- what changes oplocks, pending calls and ends by breaks alone

  pub Spares-by : {kind : Class} {v w : Volume} → ByBreaks kind v w → Spares v w
  Spares-by (Still v w oplocks locks pending ended left last_break last_lock) = Spares-still oplocks pending ended left
  Spares-by (Locked v handle at count exclusive) = Spares-still refl refl refl refl
  Spares-by {kind} (Broken v on acting key) = Spares-breaks v on kind acting key
  Spares-by (Next u v w first second) = Spares-next (Spares-by first) (Spares-by second)
