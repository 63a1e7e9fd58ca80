-- Pending calls that end in order of turns.
use Rattle.std.proofs.Common.{◌≡◌, ℕ, ◌<◌, ◌≤◌, Bool, List, [], ◌∷◌, length, get_or, refl, ap, sym, ◌∙◌, arith, inl, inr, Option, Some, None, true, false}
use Rattle.std.specs.List.{All, filter, find, list_any}
use Rattle.std.specs.Prelude.{◌==◌, ◌&&◌, not, nat_lt, option_map, IfSome}
use Rattle.std.proofs.lemmas.Bool.{and_from, and_parts, and_right, both_ways, cases_Bool, eq-eqb, eqb-false, eqb-true, false_from_ne_true, le-ltb, lt-ltb, ltb-false, ltb-true, not-true, not_from_true, or_parts}
use Rattle.std.proofs.lemmas.List.Folds.{list_any_none}
use Rattle.fsa_types.specs.Rows.{lives, row_of}
use Rattle.fsa_types.specs.Sorting.{in_order}
use Rattle.fsa_types.specs.declared.request.Call.{Call}
use Rattle.fsa_model.specs.Close.{with_calls_ended}
use Rattle.fsa_model.specs.Edits.{is_call}
use Rattle.fsa_model.specs.Lookups.{next_pending}
use Rattle.fsa_model.specs.Sound.{ArePending}
use Rattle.fsa_model.specs.Volume.{Pending, Volume}
use Rattle.fsa_model.proofs.RowLaws.{any-weaker, find-any, lives-found, none-all, option_cases}
use Rattle.volume_state.proofs.OpenLaws.{find-passes}
use Rattle.op_delete.specs.Ends.{ends_call, end_status, to_end, with_ending, with_row_ended, with_turn_ended}
use Rattle.op_delete.specs.declared.ends.Ending.{Ending}
use Rattle.op_delete.proofs.ListLaws.{Picks, alone-pairs, by_key, fewer, filter-agree, filter-both, filter-none, find-row, first-picked, only-found}

-- a call that is pending is that of its client and number
is_call-own : (row : Pending) → is_call row.call.client row.call.number row ≡ true
is_call-own row = and_from (row.call.client == row.call.client) (row.call.number == row.call.number) (eq-eqb row.call.client row.call.client refl) (eq-eqb row.call.number row.call.number refl)

-- when it ends fewer are pending
pub pending-fewer : (rows : List (ℕ × Pending)) (turn : ℕ) (call : Call) → option_map (λ row. row.call) (row_of rows turn) ≡ Some call
    → length (filter (λ entry. not (is_call call.client call.number entry.1)) rows) < length rows
pending-fewer rows turn call found = elim (option_cases (row_of rows turn)) [
  | inl none ↦ (let impossible : None ≡ Some call = rw none at found in absurd (cc))
  | inr some ↦ (let is : Some some.0.call ≡ Some call = rw some.1 at found in
      let same : some.0.call ≡ call = cc in
      rw (← same) (fewer (λ (entry : ℕ × Pending). entry.0 == turn) (λ entry. not (is_call some.0.call.client some.0.call.number entry.1)) rows (turn, some.0) (find-row rows turn some.0 some.1) (not_from_true _ (is_call-own some.0))))
]

-- ---- one turn

-- of the later turns, which are those above some turn or all, the least under which a call is pending
pub record IsNext (v : Volume) (later : ℕ → Bool) (turn : ℕ) (row : Pending) : Type 0 where
  pub sound : ArePending v.clients v.pending
  pub found : row_of v.pending turn ≡ Some row
  pub above : later turn ≡ true
  pub up : (other : ℕ) → later other ≡ false → other ≤ turn
  pub none_between : list_any (λ other. later other.0 && nat_lt other.0 turn) v.pending ≡ false

-- what is true of each other pending call
own_turn : (v : Volume) (later : ℕ → Bool) (turn : ℕ) (row : Pending) → IsNext v later turn row → All (λ entry. (entry.0 == turn) ≡ true → entry ≡ (turn, row)) v.pending
own_turn v later turn row next =
    only-found (λ (entry : ℕ × Pending). entry.0 == turn) (λ (entry : ℕ × Pending). entry.0 == turn) v.pending (turn, row)
    (alone-pairs (λ (entry : ℕ × Pending). entry.0 == turn) v.pending (λ i j d below within.
    two (get_or v.pending i d).0 (get_or v.pending j d).0 (next.sound.turns_differ i j d below within)))
    (find-row v.pending turn row next.found) (eq-eqb turn turn refl)
  where
    two : (a b : ℕ) → (a == b) ≡ false → (a == turn && b == turn) ≡ false
    two a b differ = false_from_ne_true _ (λ both.
        let parts = and_parts (a == turn) (b == turn) both in eqb-false a b differ (eqb-true a turn parts.0 ∙ sym (eqb-true b turn parts.1)))

own_call : (v : Volume) (later : ℕ → Bool) (turn : ℕ) (row : Pending) → IsNext v later turn row → All (λ entry. is_call row.call.client row.call.number entry.1 ≡ true → entry ≡ (turn, row)) v.pending
own_call v later turn row next =
    only-found (λ (entry : ℕ × Pending). entry.0 == turn) (λ (entry : ℕ × Pending). is_call row.call.client row.call.number entry.1) v.pending (turn, row)
    (alone-pairs (λ (entry : ℕ × Pending). is_call row.call.client row.call.number entry.1) v.pending (λ i j d below within.
    two (get_or v.pending i d).1 (get_or v.pending j d).1 (next.sound.differ i j d below within)))
    (find-row v.pending turn row next.found) (is_call-own row)
  where
    two : (a b : Pending) → is_call b.call.client b.call.number a ≡ false → (is_call row.call.client row.call.number a && is_call row.call.client row.call.number b) ≡ false
    two a b differ = false_from_ne_true _ (λ both.
        let parts = and_parts (is_call row.call.client row.call.number a) (is_call row.call.client row.call.number b) both in
        let of_a = and_parts (a.call.client == row.call.client) (a.call.number == row.call.number) parts.0 in
        let of_b = and_parts (b.call.client == row.call.client) (b.call.number == row.call.number) parts.1 in
        let client : a.call.client ≡ b.call.client = eqb-true a.call.client row.call.client of_a.0 ∙ sym (eqb-true b.call.client row.call.client of_b.0) in
        let number : a.call.number ≡ b.call.number = eqb-true a.call.number row.call.number of_a.1 ∙ sym (eqb-true b.call.number row.call.number of_b.1) in
        both_ways (is_call b.call.client b.call.number a) differ
        (and_from (a.call.client == b.call.client) (a.call.number == b.call.number) (eq-eqb a.call.client b.call.client client) (eq-eqb a.call.number b.call.number number)))

-- those above a turn take in all above a turn of theirs
pub above-up : (after turn other : ℕ) → after < turn → nat_lt after other ≡ false → other ≤ turn
above-up after turn other above not_above = let most : other ≤ after = ltb-false after other not_above in omega arith

-- of the other later turns all are above this one
pub later-same : (later : ℕ → Bool) (turn other : ℕ) → (later other ≡ false → other ≤ turn) → (later other && nat_lt other turn) ≡ false → (other == turn) ≡ false → nat_lt turn other ≡ later other
later-same later turn other up none_between differs = elim (cases_Bool (later other)) [
  | inl is_later ↦ (let not_below : nat_lt other turn ≡ false = rw is_later at none_between in
      let most : turn ≤ other = ltb-false other turn not_below in
      let not_equal : other ≡ turn → ⊥ = eqb-false other turn differs in
      rw is_later (lt-ltb turn other (omega (arith, not_equal))))
  | inr earlier ↦ rw earlier (le-ltb turn other (up earlier))
]

and_true : (b : Bool) → (b && true) ≡ b
and_true true = refl
and_true false = refl

-- the calls of later turns that end when this one has ended
after_end : (ending : Ending) (later : ℕ → Bool) (turn : ℕ) (row : Pending) (entry : ℕ × Pending) → (later entry.0 ≡ false → entry.0 ≤ turn)
    → ((entry.0 == turn) ≡ true → entry ≡ (turn, row)) → (is_call row.call.client row.call.number entry.1 ≡ true → entry ≡ (turn, row)) → (later entry.0 && nat_lt entry.0 turn) ≡ false
    → (not (is_call row.call.client row.call.number entry.1) && (ends_call ending entry.1.call && nat_lt turn entry.0))
    ≡ ((ends_call ending entry.1.call && later entry.0) && not (entry.0 == turn))
after_end ending later turn row entry up of_turn of_call none_between = elim (cases_Bool (entry.0 == turn)) [
  | inl here ↦ (let same : entry ≡ (turn, row) = of_turn here in
      let own : is_call row.call.client row.call.number entry.1 ≡ true = ap (λ (e : ℕ × Pending). is_call row.call.client row.call.number e.1) same ∙ is_call-own row in
      rw (own, here) (sym (and_right (ends_call ending entry.1.call && later entry.0) false refl)))
  | inr other ↦ (let not_own : is_call row.call.client row.call.number entry.1 ≡ false = false_from_ne_true _ (λ own. eqb-false entry.0 turn other (ap (λ (e : ℕ × Pending). e.0) (of_call own))) in
      let same = later-same later turn entry.0 up none_between other in
      rw (not_own, other, same) (sym (and_true (ends_call ending entry.1.call && later entry.0))))
]

-- those of later turns, where this one doesn't end
after_skip : (ending : Ending) (later : ℕ → Bool) (turn : ℕ) (row : Pending) (entry : ℕ × Pending) → (later entry.0 ≡ false → entry.0 ≤ turn) → ends_call ending row.call ≡ false
    → ((entry.0 == turn) ≡ true → entry ≡ (turn, row)) → (later entry.0 && nat_lt entry.0 turn) ≡ false
    → (ends_call ending entry.1.call && later entry.0) ≡ (ends_call ending entry.1.call && nat_lt turn entry.0)
after_skip ending later turn row entry up stays of_turn none_between = elim (cases_Bool (entry.0 == turn)) [
  | inl here ↦ (let same : entry ≡ (turn, row) = of_turn here in
      let not_ended : ends_call ending entry.1.call ≡ false = ap (λ (e : ℕ × Pending). ends_call ending e.1.call) same ∙ stays in
      rw not_ended refl)
  | inr other ↦ ap (λ b. ends_call ending entry.1.call && b) (sym (later-same later turn entry.0 up none_between other))
]

-- the call of this turn is the first of those that are to end
first_to_end : (ending : Ending) (v : Volume) (later : ℕ → Bool) (turn : ℕ) (row : Pending) → IsNext v later turn row → ends_call ending row.call ≡ true
    → Picks (λ (entry : ℕ × Pending). entry.0) (λ entry. ends_call ending entry.1.call && later entry.0) v.pending (turn, row)
first_to_end ending v later turn row next ends = record {
  some = find-any (λ (entry : ℕ × Pending). entry.0 == turn) (λ entry. (ends_call ending entry.1.call && later entry.0) && entry.0 == turn) v.pending (turn, row) (find-row v.pending turn row next.found)
      (and_from (ends_call ending row.call && later turn) (turn == turn) (and_from (ends_call ending row.call) (later turn) ends next.above) (eq-eqb turn turn refl));
  only = λ k d within both. own_turn v later turn row next k d within
      (and_parts (ends_call ending (get_or v.pending k d).1.call && later (get_or v.pending k d).0) ((get_or v.pending k d).0 == turn) both).1;
  single = alone-pairs (λ (entry : ℕ × Pending). (ends_call ending entry.1.call && later entry.0) && entry.0 == turn) v.pending (λ i j d below within.
      two (get_or v.pending i d) (get_or v.pending j d) (next.sound.turns_differ i j d below within));
  least = list_any_none (λ (entry : ℕ × Pending). (ends_call ending entry.1.call && later entry.0) && nat_lt entry.0 turn) v.pending (λ k d within.
      weaker (ends_call ending (get_or v.pending k d).1.call) (later (get_or v.pending k d).0) (nat_lt (get_or v.pending k d).0 turn)
      (none-all (λ (other : ℕ × Pending). later other.0 && nat_lt other.0 turn) v.pending next.none_between k d within));
}
  where
    weaker : (a b c : Bool) → (b && c) ≡ false → ((a && b) && c) ≡ false
    weaker true b c none = none
    weaker false b c none = refl

    two : (a b : ℕ × Pending) → (a.0 == b.0) ≡ false
        → (((ends_call ending a.1.call && later a.0) && a.0 == turn) && ((ends_call ending b.1.call && later b.0) && b.0 == turn)) ≡ false
    two a b differ = false_from_ne_true _ (λ both.
        let parts = and_parts ((ends_call ending a.1.call && later a.0) && a.0 == turn) ((ends_call ending b.1.call && later b.0) && b.0 == turn) both in
        let of_a : (a.0 == turn) ≡ true = (and_parts (ends_call ending a.1.call && later a.0) (a.0 == turn) parts.0).1 in
        let of_b : (b.0 == turn) ≡ true = (and_parts (ends_call ending b.1.call && later b.0) (b.0 == turn) parts.1).1 in
        eqb-false a.0 b.0 differ (eqb-true a.0 turn of_a ∙ sym (eqb-true b.0 turn of_b)))

-- once this turn is done the calls of later turns are to end
pub to_end-turn : (ending : Ending) (v : Volume) (later : ℕ → Bool) (turn : ℕ) (row : Pending) → IsNext v later turn row
    → with_calls_ended (end_status ending) (to_end ending turn (with_row_ended ending row v)) (with_row_ended ending row v) ≡ with_calls_ended (end_status ending) (in_order (by_key (λ (entry : ℕ × Pending). entry.0)) (filter (λ entry. ends_call ending entry.1.call && later entry.0) v.pending)) v
to_end-turn ending v later turn row next = elim (cases_Bool (ends_call ending row.call)) [
  | inl ends ↦ rw ends (sym (ap (λ (calls : List (ℕ × Pending)). with_calls_ended (end_status ending) calls v)
      (first-picked (λ (entry : ℕ × Pending). entry.0) (λ entry. ends_call ending entry.1.call && later entry.0)
      (λ entry. not (is_call row.call.client row.call.number entry.1) && (ends_call ending entry.1.call && nat_lt turn entry.0)) v.pending (turn, row)
      (first_to_end ending v later turn row next ends)
      (λ k d within. after_end ending later turn row (get_or v.pending k d) (next.up (get_or v.pending k d).0) (own_turn v later turn row next k d within) (own_call v later turn row next k d within) (between k d within))
      ∙ ap (λ (calls : List (ℕ × Pending)). (turn, row) ∷ in_order (by_key (λ (entry : ℕ × Pending). entry.0)) calls)
      (sym (filter-both (λ entry. not (is_call row.call.client row.call.number entry.1)) (λ entry. ends_call ending entry.1.call && nat_lt turn entry.0) v.pending)))))
  | inr stays ↦ rw stays (sym (ap (λ (calls : List (ℕ × Pending)). with_calls_ended (end_status ending) (in_order (by_key (λ (entry : ℕ × Pending). entry.0)) calls) v)
      (filter-agree (λ entry. ends_call ending entry.1.call && later entry.0) (λ entry. ends_call ending entry.1.call && nat_lt turn entry.0) v.pending
      (λ k d within. after_skip ending later turn row (get_or v.pending k d) (next.up (get_or v.pending k d).0) stays (own_turn v later turn row next k d within) (between k d within)))))
]
  where
    between : All (λ entry. (later entry.0 && nat_lt entry.0 turn) ≡ false) v.pending
    between = none-all (λ (other : ℕ × Pending). later other.0 && nat_lt other.0 turn) v.pending next.none_between

-- in the end none is to end
pub to_end-last : (ending : Ending) (v : Volume) (after : ℕ) → list_any (λ entry. nat_lt after entry.0) v.pending ≡ false → with_calls_ended (end_status ending) (to_end ending after v) v ≡ v
to_end-last ending v after none =
    ap (λ (calls : List (ℕ × Pending)). with_calls_ended (end_status ending) (in_order (by_key (λ (entry : ℕ × Pending). entry.0)) calls) v)
    (filter-none (λ entry. ends_call ending entry.1.call && nat_lt after entry.0) v.pending (λ k d within.
    and_right (ends_call ending (get_or v.pending k d).1.call) (nat_lt after (get_or v.pending k d).0) (none-all (λ (entry : ℕ × Pending). nat_lt after entry.0) v.pending none k d within)))

-- ---- the walk

-- the calls of turns up to `after` have ended, and the others are still to end
pub record IsEnding (ending : Ending) (old now : Volume) (after : ℕ) : Type 0 where
  pub goes : with_calls_ended (end_status ending) (to_end ending after now) now ≡ with_ending ending old
  pub rest : now ≡ record old { pending = now.pending; ended = now.ended }

-- the next turn is the least above `after`
none-between : (v : Volume) (after turn : ℕ) → next_pending v after ≡ Some turn → list_any (λ other. nat_lt after other.0 && nat_lt other.0 turn) v.pending ≡ false
none-between v after turn found = elim (option_cases (find is_least v.pending)) [
  | inl none ↦ (let impossible : None ≡ Some turn = rw none at found in absurd (cc))
  | inr some ↦ (let is : Some some.0.0 ≡ Some turn = rw some.1 at found in
      let same : some.0.0 ≡ turn = cc in
      let passes : is_least some.0 ≡ true = find-passes is_least v.pending some.0 some.1 in
      let least = (and_parts (nat_lt after some.0.0) (not (list_any (λ other. nat_lt after other.0 && nat_lt other.0 some.0.0) v.pending)) passes).1 in
      rw (← same) (not-true _ least))
]
  where
    is_least : ℕ × Pending → Bool
    is_least entry = nat_lt after entry.0 && not (list_any (λ other. nat_lt after other.0 && nat_lt other.0 entry.0) v.pending)

-- one of the later turns is done
ended-turn : (ending : Ending) (now new : Volume) (later : ℕ → Bool) (turn : ℕ) → ArePending now.clients now.pending → lives now.pending turn ≡ true → later turn ≡ true
    → ((other : ℕ) → later other ≡ false → other ≤ turn) → list_any (λ other. later other.0 && nat_lt other.0 turn) now.pending ≡ false → new ≡ with_turn_ended ending turn now
    → with_calls_ended (end_status ending) (to_end ending turn new) new
    ≡ with_calls_ended (end_status ending) (in_order (by_key (λ (entry : ℕ × Pending). entry.0)) (filter (λ entry. ends_call ending entry.1.call && later entry.0) now.pending)) now
ended-turn ending now new later turn sound live above up none_between is = elim (option_cases (row_of now.pending turn)) [
  | inl none ↦ absurd (lives-found now.pending turn live none)
  | inr some ↦ one some.0 some.1 (is ∙ rw some.1 refl)
]
  where
    one : (row : Pending) → row_of now.pending turn ≡ Some row → new ≡ with_row_ended ending row now
        → with_calls_ended (end_status ending) (to_end ending turn new) new
        ≡ with_calls_ended (end_status ending) (in_order (by_key (λ (entry : ℕ × Pending). entry.0)) (filter (λ entry. ends_call ending entry.1.call && later entry.0) now.pending)) now
    one row found ends =
        ap (λ (w : Volume). with_calls_ended (end_status ending) (to_end ending turn w) w) ends
        ∙ to_end-turn ending now later turn row (record { sound = sound; found = found; above = above; up = up; none_between = none_between })

-- the first turn is done
pub IsEnding-first : (ending : Ending) (old new : Volume) (turn : ℕ) → ArePending old.clients old.pending → lives old.pending turn ≡ true → list_any (λ entry. nat_lt entry.0 turn) old.pending ≡ false
    → new ≡ with_turn_ended ending turn old → new ≡ record old { pending = new.pending; ended = new.ended } → IsEnding ending old new turn
IsEnding-first ending old new turn sound live least is same = record {
  goes = ended-turn ending old new (λ other. true) turn sound live refl (λ other never. absurd (cc)) least is
      ∙ ap (λ (calls : List (ℕ × Pending)). with_calls_ended (end_status ending) (in_order (by_key (λ (entry : ℕ × Pending). entry.0)) calls) old)
      (filter-agree (λ entry. ends_call ending entry.1.call && true) (λ entry. ends_call ending entry.1.call) old.pending (λ k d within. and_true (ends_call ending (get_or old.pending k d).1.call)));
  rest = same;
}

-- one more turn is done
pub IsEnding-turn : (ending : Ending) (old now new : Volume) (after turn : ℕ) → IsEnding ending old now after → ArePending now.clients now.pending → next_pending now after ≡ Some turn
    → after < turn → lives now.pending turn ≡ true → new ≡ with_turn_ended ending turn now → new ≡ record now { pending = new.pending; ended = new.ended } → IsEnding ending old new turn
IsEnding-turn ending old now new after turn walk sound next above live is same = record {
  goes = ended-turn ending now new (λ other. nat_lt after other) turn sound live (lt-ltb after turn above) (λ other. above-up after turn other above) (none-between now after turn next) is ∙ walk.goes;
  rest = same ∙ ap (λ (w : Volume). record w { pending = new.pending; ended = new.ended }) walk.rest;
}

-- no later turn is left
pub IsEnding-last : (ending : Ending) (old now : Volume) (after : ℕ) → IsEnding ending old now after → list_any (λ entry. nat_lt after entry.0) now.pending ≡ false → now ≡ with_ending ending old
IsEnding-last ending old now after walk none = sym (to_end-last ending now after none) ∙ walk.goes

-- ---- the first of those that end

-- the call that is pending under a turn, where it ends
abbrev pub EndsUnder : Ending → Volume → ℕ → Type 0
EndsUnder ending v turn = (row : Pending) × (row_of v.pending turn ≡ Some row) × (ends_call ending row.call ≡ true)

-- it is next by itself, of the turns that aren't below it
abbrev pub not_below : ℕ → ℕ → Bool
not_below turn other = not (nat_lt other turn)

as-next : (v : Volume) (turn : ℕ) (row : Pending) → ArePending v.clients v.pending → row_of v.pending turn ≡ Some row → IsNext v (not_below turn) turn row
as-next v turn row sound found = record {
  sound = sound;
  found = found;
  above = ap not (le-ltb turn turn (omega arith));
  up = λ other below. let less : other < turn = ltb-true other turn (not-false (nat_lt other turn) below) in omega (arith, less);
  none_between = list_any_none (λ (other : ℕ × Pending). not (nat_lt other.0 turn) && nat_lt other.0 turn) v.pending (λ k d within. never (nat_lt (get_or v.pending k d).0 turn));
}
  where
    not-false : (b : Bool) → not b ≡ false → b ≡ true
    not-false true is = refl
    not-false false is = (let impossible : true ≡ false = is in cc)

    never : (b : Bool) → (not b && b) ≡ false
    never true = refl
    never false = refl

pub ends-under : (ending : Ending) (v : Volume) (turn : ℕ) → ArePending v.clients v.pending → list_any (λ entry. entry.0 == turn && ends_call ending entry.1.call) v.pending ≡ true → EndsUnder ending v turn
ends-under ending v turn sound there = elim (option_cases (row_of v.pending turn)) [
  | inl none ↦ absurd (lives-found v.pending turn
      (any-weaker (λ (entry : ℕ × Pending). entry.0 == turn && ends_call ending entry.1.call) (λ entry. entry.0 == turn) v.pending (λ entry both. (and_parts (entry.0 == turn) (ends_call ending entry.1.call) both).0) there) none)
  | inr some ↦ elim (cases_Bool (ends_call ending some.0.call)) [
    | inl ends ↦ (some.0, some.1, ends)
    | inr stays ↦ absurd (both_ways (list_any (λ (entry : ℕ × Pending). entry.0 == turn && ends_call ending entry.1.call) v.pending)
        (list_any_none (λ (entry : ℕ × Pending). entry.0 == turn && ends_call ending entry.1.call) v.pending
        (λ k d within. fails some.0 stays (get_or v.pending k d) (own_turn v (not_below turn) turn some.0 (as-next v turn some.0 sound some.1) k d within))) there)
  ]
]
  where
    fails : (row : Pending) → ends_call ending row.call ≡ false → (entry : ℕ × Pending) → ((entry.0 == turn) ≡ true → entry ≡ (turn, row)) → (entry.0 == turn && ends_call ending entry.1.call) ≡ false
    fails row stays entry of_turn = elim (cases_Bool (entry.0 == turn)) [
      | inl here ↦ rw here (ap (λ (e : ℕ × Pending). ends_call ending e.1.call) (of_turn here) ∙ stays)
      | inr other ↦ rw other refl
    ]

ended-row : (ending : Ending) (v : Volume) (turn : ℕ) (row : Pending) → ArePending v.clients v.pending → row_of v.pending turn ≡ Some row → ends_call ending row.call ≡ true
    → list_any (λ entry. ends_call ending entry.1.call && nat_lt entry.0 turn) v.pending ≡ false → with_ending ending (with_row_ended ending row v) ≡ with_ending ending v
ended-row ending v turn row sound found ends least =
    rw ends (sym (ap (λ (calls : List (ℕ × Pending)). with_calls_ended (end_status ending) calls v)
    (first-picked (λ (entry : ℕ × Pending). entry.0) (λ entry. ends_call ending entry.1.call)
    (λ entry. not (is_call row.call.client row.call.number entry.1) && ends_call ending entry.1.call) v.pending (turn, row) picks
    (λ k d within. agree (get_or v.pending k d) (own_turn v (not_below turn) turn row next k d within) (own_call v (not_below turn) turn row next k d within))
    ∙ ap (λ (calls : List (ℕ × Pending)). (turn, row) ∷ in_order (by_key (λ (entry : ℕ × Pending). entry.0)) calls)
    (sym (filter-both (λ entry. not (is_call row.call.client row.call.number entry.1)) (λ entry. ends_call ending entry.1.call) v.pending)))))
  where
    next : IsNext v (not_below turn) turn row
    next = as-next v turn row sound found

    agree : (entry : ℕ × Pending) → ((entry.0 == turn) ≡ true → entry ≡ (turn, row)) → (is_call row.call.client row.call.number entry.1 ≡ true → entry ≡ (turn, row))
        → (not (is_call row.call.client row.call.number entry.1) && ends_call ending entry.1.call) ≡ (ends_call ending entry.1.call && not (entry.0 == turn))
    agree entry of_turn of_call = elim (cases_Bool (entry.0 == turn)) [
      | inl here ↦ (let same : entry ≡ (turn, row) = of_turn here in
          let own : is_call row.call.client row.call.number entry.1 ≡ true = ap (λ (e : ℕ × Pending). is_call row.call.client row.call.number e.1) same ∙ is_call-own row in
          rw (own, here) (sym (and_right (ends_call ending entry.1.call) false refl)))
      | inr other ↦ (let not_own : is_call row.call.client row.call.number entry.1 ≡ false = false_from_ne_true _ (λ own. eqb-false entry.0 turn other (ap (λ (e : ℕ × Pending). e.0) (of_call own))) in
          rw (not_own, other) (sym (and_true (ends_call ending entry.1.call))))
    ]

    two : (a b : ℕ × Pending) → (a.0 == b.0) ≡ false → ((ends_call ending a.1.call && a.0 == turn) && (ends_call ending b.1.call && b.0 == turn)) ≡ false
    two a b differ = false_from_ne_true _ (λ both.
        let parts = and_parts (ends_call ending a.1.call && a.0 == turn) (ends_call ending b.1.call && b.0 == turn) both in
        let of_a : (a.0 == turn) ≡ true = (and_parts (ends_call ending a.1.call) (a.0 == turn) parts.0).1 in
        let of_b : (b.0 == turn) ≡ true = (and_parts (ends_call ending b.1.call) (b.0 == turn) parts.1).1 in
        eqb-false a.0 b.0 differ (eqb-true a.0 turn of_a ∙ sym (eqb-true b.0 turn of_b)))

    picks : Picks (λ (entry : ℕ × Pending). entry.0) (λ entry. ends_call ending entry.1.call) v.pending (turn, row)
    picks = record {
      some = find-any (λ (entry : ℕ × Pending). entry.0 == turn) (λ entry. ends_call ending entry.1.call && entry.0 == turn) v.pending (turn, row) (find-row v.pending turn row found)
          (and_from (ends_call ending row.call) (turn == turn) ends (eq-eqb turn turn refl));
      only = λ k d within both. own_turn v (not_below turn) turn row next k d within (and_parts (ends_call ending (get_or v.pending k d).1.call) ((get_or v.pending k d).0 == turn) both).1;
      single = alone-pairs (λ (entry : ℕ × Pending). ends_call ending entry.1.call && entry.0 == turn) v.pending (λ i j d below within.
          two (get_or v.pending i d) (get_or v.pending j d) (sound.turns_differ i j d below within));
      least = least;
    }

-- once the first of those that end has ended, the others are to end, and there are fewer
pub record IsFewer (ending : Ending) (old new : Volume) : Type 0 where
  pub goes : with_ending ending new ≡ with_ending ending old
  pub less : length new.pending < length old.pending

pub ended-first : (ending : Ending) (old new : Volume) (turn : ℕ) → ArePending old.clients old.pending → list_any (λ entry. entry.0 == turn && ends_call ending entry.1.call) old.pending ≡ true
    → list_any (λ entry. ends_call ending entry.1.call && nat_lt entry.0 turn) old.pending ≡ false → new ≡ with_turn_ended ending turn old → IsFewer ending old new
ended-first ending old new turn sound there least is =
    let under = ends-under ending old turn sound there in
    let row : Pending = under.0 in
    let ended : new ≡ with_row_ended ending row old = is ∙ rw under.1 refl in
    record {
      goes = ap (with_ending ending) ended ∙ ended-row ending old turn row sound under.1 under.2 least;
      less = rw (ended, under.2) (fewer (λ (entry : ℕ × Pending). entry.0 == turn) (λ entry. not (is_call row.call.client row.call.number entry.1)) old.pending (turn, row) (find-row old.pending turn row under.1)
          (not_from_true _ (is_call-own row)));
    }

-- and where none is left that ends, all have ended
pub ended-none : (ending : Ending) (v : Volume) → list_any (λ entry. ends_call ending entry.1.call) v.pending ≡ false → with_ending ending v ≡ v
ended-none ending v none =
    ap (λ (calls : List (ℕ × Pending)). with_calls_ended (end_status ending) (in_order (by_key (λ (entry : ℕ × Pending). entry.0)) calls) v)
    (filter-none (λ entry. ends_call ending entry.1.call) v.pending (none-all (λ (entry : ℕ × Pending). ends_call ending entry.1.call) v.pending none))

-- where one is pending there is one at least
pub some-pending : (rows : List (ℕ × Pending)) (test : ℕ × Pending → Bool) → list_any test rows ≡ true → 1 ≤ length rows
some-pending [] test there = cc
some-pending (row ∷ rows) test there = omega arith

-- a call that is pending can end
pub one-pending : (rows : List (ℕ × Pending)) (turn : ℕ) → lives rows turn ≡ true → 1 ≤ length rows
one-pending [] turn live = cc
one-pending (row ∷ rows) turn live = omega arith

-- ---- the first turn

-- a call that is found is pending
pub found-pending : (rows : List (ℕ × Pending)) (turn : ℕ) (call : Call) → Some call ≡ option_map (λ row. row.call) (row_of rows turn) → lives rows turn ≡ true
found-pending rows turn call found = elim (option_cases (find (λ (entry : ℕ × Pending). entry.0 == turn) rows)) [
  | inl none ↦ (let impossible : Some call ≡ None = rw none at found in absurd (cc))
  | inr some ↦ find-any (λ (entry : ℕ × Pending). entry.0 == turn) (λ (entry : ℕ × Pending). entry.0 == turn) rows some.0 some.1 (find-passes (λ (entry : ℕ × Pending). entry.0 == turn) rows some.0 some.1)
]

-- and where there is nothing to find none is
pub not-pending : (rows : List (ℕ × Pending)) (turn : ℕ) → (lives rows turn ≡ true → false ≡ true) → lives rows turn ≡ false
not-pending rows turn live = false_from_ne_true (lives rows turn) (λ is. (let impossible : false ≡ true = live is in cc))

-- no turn is below 0
pub none-below_0 : (rows : List (ℕ × Pending)) → list_any (λ entry. nat_lt entry.0 0) rows ≡ false
none-below_0 rows = list_any_none (λ (entry : ℕ × Pending). nat_lt entry.0 0) rows (λ k d within. le-ltb (get_or rows k d).0 0 (omega arith))

-- where none is pending under 0 the next above 0 is the least
least-above_0 : (v : Volume) (turn : ℕ) → lives v.pending 0 ≡ false → next_pending v 0 ≡ Some turn → list_any (λ entry. nat_lt entry.0 turn) v.pending ≡ false
least-above_0 v turn no_0 found = list_any_none (λ (entry : ℕ × Pending). nat_lt entry.0 turn) v.pending (λ k d within. one (get_or v.pending k d).0
    (none-all (λ (entry : ℕ × Pending). entry.0 == 0) v.pending no_0 k d within)
    (none-all (λ (other : ℕ × Pending). nat_lt 0 other.0 && nat_lt other.0 turn) v.pending (none-between v 0 turn found) k d within))
  where
    one : (other : ℕ) → (other == 0) ≡ false → (nat_lt 0 other && nat_lt other turn) ≡ false → nat_lt other turn ≡ false
    one other differs none =
        let not_equal : other ≡ 0 → ⊥ = eqb-false other 0 differs in
        let above : nat_lt 0 other ≡ true = lt-ltb 0 other (omega (arith, not_equal)) in
        rw above at none

pub least-next : (v : Volume) (later : Option ℕ) → later ≡ next_pending v 0 → lives v.pending 0 ≡ false → IfSome later (λ turn. list_any (λ entry. nat_lt entry.0 turn) v.pending ≡ false)
least-next v later found no_0 = elim (option_cases later) [
  | inl none ↦ rw none tt
  | inr some ↦ rw some.1 (least-above_0 v some.0 no_0 (sym found ∙ some.1))
]

-- and where there is no next, none is pending
pub none-pending : (rows : List (ℕ × Pending)) → lives rows 0 ≡ false → list_any (λ entry. nat_lt 0 entry.0) rows ≡ false → rows ≡ []
none-pending [] no_0 none_above = refl
none-pending (first ∷ rows) no_0 none_above =
    let differs : (first.0 == 0) ≡ false = (or_parts (first.0 == 0) (lives rows 0) no_0).0 in
    let not_above : nat_lt 0 first.0 ≡ false = (or_parts (nat_lt 0 first.0) (list_any (λ (entry : ℕ × Pending). nat_lt 0 entry.0) rows) none_above).0 in
    let most : first.0 ≤ 0 = ltb-false 0 first.0 not_above in
    let is_0 : first.0 ≡ 0 = omega (arith, most) in
    absurd (eqb-false first.0 0 differs is_0)
