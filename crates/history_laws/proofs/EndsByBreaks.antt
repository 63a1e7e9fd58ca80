-- A pending call stays where breaks are all that ends calls, unless it is told of one; and where an oplock is granted, unless it
-- ends as its own is switched.
use Rattle.std.proofs.Common.{◌≡◌, ℕ, ◌+◌, ◌<◌, ◌≤◌, Bool, true, false, List, [], ◌∷◌, refl, sym, ◌∙◌, arith, inl, inr, ◌⊎◌, Option, Some, None}
use Rattle.std.specs.List.{fold, list_any}
use Rattle.std.specs.Option.{option_map_or}
use Rattle.std.specs.Prelude.{◌&&◌, option_and_then, if◌then◌else◌}
use Rattle.std.proofs.lemmas.Bool.{cases_Bool, false_from_ne_true}
use Rattle.fsa_types.specs.OplockLists.{effect_on}
use Rattle.fsa_types.specs.Oplocks.{Effect, Stays, Ends, Begins, Lowers}
use Rattle.fsa_types.specs.Rows.{row_of}
use Rattle.fsa_types.specs.declared.oplock.Class.{Class}
use Rattle.fsa_types.specs.declared.reply.Body.TheVariants.{Broken as IsBroken, Nothing}
use Rattle.fsa_types.specs.declared.reply.EndOf.{EndOf}
use Rattle.fsa_types.specs.declared.reply.Interim.TheVariants.{Granted}
use Rattle.fsa_types.specs.declared.reply.Reply.{Reply}
use Rattle.fsa_types.specs.declared.request.Level.{Level}
use Rattle.fsa_types.specs.declared.request.Level.TheVariants.{Nil}
use Rattle.fsa_types.specs.declared.status.Status.{Status}
use Rattle.fsa_types.specs.declared.status.Status.TheVariants.{OplockSwitchedToNewHandle, Success}
use Rattle.fsa_model.specs.Breaks.{chosen, with_break_begun, with_effect}
use Rattle.fsa_model.specs.Edits.{with_end, without_oplock}
use Rattle.fsa_model.specs.Grant.{oplock_at, oplock_by, oplock_on, switched, try_oplock, with_all_switched, with_granted, with_switched}
use Rattle.fsa_model.specs.Once.{how_many, is_end}
use Rattle.fsa_model.specs.Outcome.{Outcome, Stay, refused}
use Rattle.fsa_model.specs.Turn.{volume_after}
use Rattle.fsa_model.specs.Volume.{Oplock, Pending, Volume}
use Rattle.fsa_model.proofs.CountLaws.{and_left, and_right, how_many-append}
use Rattle.fsa_model.proofs.OnceLaws.{is_call_of, is_same, is_same-equal, is_same-refl}
use Rattle.fsa_model.proofs.RowLaws.{any-weaker, option_cases}
use Rattle.history_laws.proofs.AnyLaws.{any-never}
use Rattle.history_laws.proofs.ByBreaks.{ByBreaks, Still, Locked, Broken, Next}
use Rattle.history_laws.proofs.CallsApart.{ends-stay}

-- what passes is the client's call of this number
module _ (T : ℕ × Pending → Bool) (client number : ℕ) (its : (e : ℕ × Pending) → T e ≡ true → is_call_of client number e ≡ true) where
  -- it stays where another call ends
  pub other-ends : (v : Volume) (c n : ℕ) (reply : Reply) → is_same c n client number ≡ false → list_any T v.pending ≡ true → list_any T (with_end v c n reply).pending ≡ true
  other-ends v c n reply other some = ends-stay T v c n reply (any-never (λ e. T e && is_call_of c n e) v.pending (λ e. false_from_ne_true (T e && is_call_of c n e) (λ both. apart e both))) some
    where
      apart : (e : ℕ × Pending) → (T e && is_call_of c n e) ≡ true → ⊥
      apart e both =
          let here = is_same-equal e.1.call.client e.1.call.number client number (its e (and_left (T e) (is_call_of c n e) both)) in
          let there = is_same-equal e.1.call.client e.1.call.number c n (and_right (T e) (is_call_of c n e) both) in
          let impossible : false ≡ true = sym other ∙ rw (← there.0, ← there.1, ← here.0, ← here.1) (is_same-refl e.1.call.client e.1.call.number) in cc

  -- another call is one that isn't pending besides it
  pub differs : (v : Volume) (c n : ℕ) → list_any (λ e. T e && is_call_of c n e) v.pending ≡ false → list_any T v.pending ≡ true → is_same c n client number ≡ false
  differs v c n apart some = elim (cases_Bool (is_same c n client number)) [
    | inr other ↦ other
    | inl same ↦ (
        let equal = is_same-equal c n client number same in
        let there : list_any (λ e. T e && is_call_of c n e) v.pending ≡ true = any-weaker T (λ e. T e && is_call_of c n e) v.pending (λ e passes. rw (passes, equal.0, equal.1) (its e passes)) some in
        let impossible : true ≡ false = sym there ∙ apart in cc)
  ]

  module _ (P : Reply → Bool) where
    -- how often it has ended in what passes
    abbrev pub times_so : Volume → ℕ
    times_so v = how_many (λ end. is_end client number end && P end.reply) v.ended

    -- it stays, or ends so
    pub record StaysOrEnds (v w : Volume) : Type 0 where
      pub more : times_so v ≤ times_so w
      pub stays : list_any T v.pending ≡ true → (list_any T w.pending ≡ true) ⊎ (times_so v < times_so w)

    -- where as many have ended so, more may have ended besides
    pub ends-more : (v w : Volume) (c n : ℕ) (reply : Reply) → times_so v < times_so w → times_so v < times_so (with_end w c n reply)
    ends-more v w c n reply less = (let all = how_many-append (λ (end : EndOf). is_end client number end && P end.reply) w.ended (record { client = c; number = n; reply = reply } ∷ []) in omega arith)

    stays-same : (v w : Volume) → w.pending ≡ v.pending → w.ended ≡ v.ended → StaysOrEnds v w
    stays-same v w pending ended = record { more = rw ended (omega arith); stays = λ some. inl (rw pending some) }

    stays-next : {u v w : Volume} → StaysOrEnds u v → StaysOrEnds v w → StaysOrEnds u w
    stays-next {u} {v} {w} first second = record {
      more = (let one = first.more in let two = second.more in omega arith);
      stays = λ some. elim (first.stays some) [
        | inr ends ↦ inr (let two = second.more in omega arith)
        | inl still ↦ elim (second.stays still) [
          | inl stays ↦ inl stays
          | inr ends ↦ inr (let one = first.more in omega arith)
        ]
      ];
    }

    -- a call ends in what passes
    stays-end : (v : Volume) (c n : ℕ) (reply : Reply) → P reply ≡ true → StaysOrEnds v (with_end v c n reply)
    stays-end v c n reply passes = record {
      more = (let all = so_many in omega arith);
      stays = λ some. elim (cases_Bool (is_same c n client number)) [
        | inr other ↦ inl (other-ends v c n reply other some)
        | inl same ↦ inr (let all = so_many in let one : how_many (λ (end : EndOf). is_end client number end && P end.reply) (record { client = c; number = n; reply = reply } ∷ []) ≡ 1 = rw (same, passes) refl in omega arith)
      ];
    }
      where
        so_many : times_so (with_end v c n reply) ≡ times_so v + how_many (λ (end : EndOf). is_end client number end && P end.reply) (record { client = c; number = n; reply = reply } ∷ [])
        so_many = how_many-append (λ (end : EndOf). is_end client number end && P end.reply) v.ended (record { client = c; number = n; reply = reply } ∷ [])

    -- the call under a turn, where there is one
    stays-under : (v : Volume) (turn : Option ℕ) (reply : Reply) → P reply ≡ true
        → StaysOrEnds v (option_map_or (λ row. with_end v row.call.client row.call.number reply) (option_and_then (row_of v.pending) turn) v)
    stays-under v turn reply passes = elim (option_cases (option_and_then (row_of v.pending) turn)) [
      | inl none ↦ rw none (stays-same v v refl refl)
      | inr row ↦ rw row.1 (stays-end v row.0.call.client row.0.call.number reply passes)
    ]

    -- ---- breaks, all of which pass

    module _ (broken : (level : Level) (ack : Bool) → P (record { status = Success; body = IsBroken level ack }) ≡ true) where
      stays-effect : (v : Volume) (o : Oplock) (done : Effect) → StaysOrEnds v (with_effect v o done)
      stays-effect v o Stays = stays-same v (with_effect v o Stays) refl refl
      stays-effect v o Ends = stays-next (stays-same v (without_oplock v o.handle) refl refl) (stays-under (without_oplock v o.handle) o.call (record { status = Success; body = IsBroken Nil false }) (broken Nil false))
      stays-effect v o (Begins level) =
          stays-next (stays-same v (with_break_begun v o.handle level) refl refl) (stays-under (with_break_begun v o.handle level) o.call (record { status = Success; body = IsBroken level true }) (broken level true))
      stays-effect v o (Lowers level) = stays-same v (with_effect v o (Lowers level)) refl refl

      stays-effects : (kind : Class) (oplocks : List Oplock) (v : Volume) → StaysOrEnds v (fold (λ w oplock. with_effect w oplock (effect_on kind oplock)) v oplocks)
      stays-effects kind [] v = stays-same v v refl refl
      stays-effects kind (o ∷ oplocks) v = stays-next (stays-effect v o (effect_on kind o)) (stays-effects kind oplocks (with_effect v o (effect_on kind o)))

      pub stays-by : {kind : Class} {v w : Volume} → ByBreaks kind v w → StaysOrEnds v w
      stays-by (Still v w oplocks locks pending ended left last_break last_lock) = stays-same v w pending ended
      stays-by (Locked v handle at count exclusive) = stays-same v _ refl refl
      stays-by {kind} (Broken v on acting key) = stays-effects kind (chosen v on acting key) v
      stays-by (Next u v w first second) = stays-next (stays-by first) (stays-by second)

    -- ---- a request for an oplock, where switches pass

    -- a try that comes to this
    pub record TriesSo (v : Volume) (outcome : Outcome) : Type 0 where
      pub so : StaysOrEnds v (volume_after outcome)

    so-if : {v : Volume} (test : Bool) (one other : Outcome) → TriesSo v one → TriesSo v other → TriesSo v (if test then one else other)
    so-if true one other holds fails = holds
    so-if false one other holds fails = fails

    so-option : {X : Type 0} {v : Volume} (found : Option X) (some : X → Outcome) (none : Outcome) → ((x : X) → TriesSo v (some x)) → TriesSo v none → TriesSo v (option_map_or some found none)
    so-option None some none with_some with_none = with_none
    so-option (Some x) some none with_some with_none = with_some x

    so-refused : (v : Volume) (status : Status) → TriesSo v (refused v status)
    so-refused v status = record { so = stays-same v v refl refl }

    module _ (passes : P (record { status = OplockSwitchedToNewHandle; body = Nothing }) ≡ true) where
      stays-switched : (oplocks : List Oplock) (v : Volume) → StaysOrEnds v (fold with_switched v oplocks)
      stays-switched [] v = stays-same v v refl refl
      stays-switched (o ∷ oplocks) v =
          stays-next (stays-next (stays-same v (without_oplock v o.handle) refl refl) (stays-under (without_oplock v o.handle) o.call (record { status = OplockSwitchedToNewHandle; body = Nothing }) passes))
          (stays-switched oplocks (with_switched v o))

      so-granted : (v : Volume) (id key stream : ℕ) (level : Level) (turn : ℕ) → TriesSo v (Stay (with_granted v id key stream level turn) (Granted level))
      so-granted v id key stream level turn = record {
        so = stays-next (stays-switched (switched v id key stream) v) (stays-same (with_all_switched v id key stream) (with_granted v id key stream level turn) refl refl);
      }

      pub so-oplock : (v : Volume) (by handle : ℕ) (level : Level) (turn : ℕ) → TriesSo v (try_oplock v by handle level turn)
      unfolding try_oplock oplock_at oplock_by oplock_on
      so-oplock v by handle level turn = search (so-if, so-option, so-refused, so-granted) depth 20
