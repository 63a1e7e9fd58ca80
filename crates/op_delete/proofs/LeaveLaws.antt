-- A client's handles, by rising number.
use Rattle.std.proofs.Common.{◌≡◌, ℕ, ◌+◌, ◌*◌, ◌<◌, ◌≤◌, Bool, List, [], ◌∷◌, length, get_or, refl, ap, sym, ◌∙◌, arith, inl, inr, Option, Some, None, true, false}
use Rattle.std.specs.List.{All, AllPairs, filter, find, list_any}
use Rattle.std.specs.Option.{option_map_or}
use Rattle.std.specs.Prelude.{◌==◌, ◌&&◌, not, nat_lt, IfSome}
use Rattle.std.proofs.lemmas.Bool.{and_from, and_parts, and_right, cases_Bool, eq-eqb, eqb-false, eqb-true, false_from_ne_true, le-ltb, lt-ltb, ltb-false, ltb-true, not-true}
use Rattle.std.proofs.lemmas.List.Folds.{list_any_none}
use Rattle.fsa_types.specs.Rows.{IsNumbered, lives, row_of, without_row}
use Rattle.fsa_types.specs.Sorting.{in_order}
use Rattle.fsa_model.specs.Close.{handles_of_client, with_all_closed, with_client_gone, with_closed}
use Rattle.fsa_model.specs.Edits.{with_left}
use Rattle.fsa_model.specs.Lookups.{handle_of, has_row, is_after, is_opened_by, next_handle_of}
use Rattle.fsa_model.specs.Volume.{Handle, Volume}
use Rattle.fsa_model.proofs.RowLaws.{find-all, find-any, lives-found, none-all, number_of-none, option_cases, row_of-here}
use Rattle.volume_state.proofs.OpenLaws.{IfSome-map, find-passes}
use Rattle.volume_state.specs.VolumeView.{Spare}
use Rattle.op_delete.specs.Ends.{with_ending}
use Rattle.op_delete.specs.declared.ends.Ending.TheVariants.{OfClient}
use Rattle.op_delete.specs.declared.leave.Sum.{Sum}
use Rattle.op_delete.specs.Room.{CountsOne, HasRoomForAll, HasSweepRoom, IsFirst, KeepsRoom, NotesTakeNoMore, all_dirs, all_units, close_dirs, close_units, later_handles}
use Rattle.op_delete.proofs.EndLaws.{above-up, later-same}
use Rattle.op_delete.proofs.ListLaws.{Picks, alone, alone-pairs, by_key, fewer, filter-both, filter-none, find-row, first-picked, only-found}

-- the number by which handles are in order
abbrev pub number : ℕ × Handle → ℕ
number entry = entry.1.number

-- the next handle of the client, with what is true of the handles of the volume
pub record IsNextHandle (v : Volume) (client after id : ℕ) (row : Handle) : Type 0 where
  pub numbered : IsNumbered v.handles v.last_handle
  pub differ : AllPairs (λ a b. is_opened_by b.1.client b.1.number a.1 ≡ false) v.handles
  pub found : row_of v.handles id ≡ Some row
  pub next : next_handle_of v client after ≡ Some id

is_least : Volume → ℕ → ℕ → ℕ × Handle → Bool
is_least v client after entry =
    is_after client after entry.1 && not (has_row (λ other. is_after client after other && nat_lt other.number entry.1.number) v.handles)

-- it is the one that the search finds
searched : (v : Volume) (client after id : ℕ) (row : Handle) → IsNextHandle v client after id row → find (is_least v client after) v.handles ≡ Some (id, row)
unfolding is_least
searched v client after id row next = elim (option_cases (find (is_least v client after) v.handles)) [
  | inl none ↦ (let impossible : None ≡ Some id = rw none at next.next in absurd (cc))
  | inr some ↦ (let is : Some some.0.0 ≡ Some id = rw some.1 at next.next in
      let same : some.0.0 ≡ id = cc in
      let here : row_of v.handles some.0.0 ≡ Some some.0.1
      = find-all (λ (entry : ℕ × Handle). row_of v.handles entry.0 ≡ Some entry.1) (is_least v client after) v.handles some.0 some.1
      (λ k d within. row_of-here v.handles v.last_handle k d next.numbered within) in
      let there : row_of v.handles id ≡ Some some.0.1 = rw same at here in
      let row_same : Some some.0.1 ≡ Some row = sym there ∙ next.found in
      let row_is : some.0.1 ≡ row = cc in
      some.1 ∙ rw (← same, ← row_is) refl)
]

passes : (v : Volume) (client after id : ℕ) (row : Handle) → IsNextHandle v client after id row → is_least v client after (id, row) ≡ true
passes v client after id row next = find-passes (is_least v client after) v.handles (id, row) (searched v client after id row next)

pub next-after : (v : Volume) (client after id : ℕ) (row : Handle) → IsNextHandle v client after id row → is_after client after row ≡ true
unfolding is_least
next-after v client after id row next =
    (and_parts (is_after client after row) (not (has_row (λ other. is_after client after other && nat_lt other.number row.number) v.handles)) (passes v client after id row next)).0

none_smaller : (v : Volume) (client after id : ℕ) (row : Handle) → IsNextHandle v client after id row
    → list_any (λ entry. is_after client after entry.1 && nat_lt entry.1.number row.number) v.handles ≡ false
unfolding is_least
none_smaller v client after id row next =
    not-true (has_row (λ other. is_after client after other && nat_lt other.number row.number) v.handles)
    (and_parts (is_after client after row) (not (has_row (λ other. is_after client after other && nat_lt other.number row.number) v.handles)) (passes v client after id row next)).1

-- of the client's handles above a number it comes first
next_picked : (v : Volume) (client after id : ℕ) (row : Handle) → IsNextHandle v client after id row → Picks number (λ entry. is_after client after entry.1) v.handles (id, row)
next_picked v client after id row next = record {
  some = find-any (is_least v client after) (λ entry. is_after client after entry.1 && entry.1.number == row.number) v.handles (id, row) (searched v client after id row next) own;
  only = only-found (is_least v client after) (λ entry. is_after client after entry.1 && entry.1.number == row.number) v.handles (id, row) single (searched v client after id row next) own;
  single = single;
  least = none_smaller v client after id row next;
}
  where
    own : (is_after client after row && row.number == row.number) ≡ true
    own = and_from (is_after client after row) (row.number == row.number) (next-after v client after id row next) (eq-eqb row.number row.number refl)

    client_of : (handle : Handle) → is_after client after handle ≡ true → handle.client ≡ client
    client_of handle above = eqb-true handle.client client (and_parts (handle.client == client) (nat_lt after handle.number) above).0

    two : (a b : Handle) → is_opened_by b.client b.number a ≡ false
        → ((is_after client after a && a.number == row.number) && (is_after client after b && b.number == row.number)) ≡ false
    two a b differ = false_from_ne_true _ (λ both.
        let parts = and_parts (is_after client after a && a.number == row.number) (is_after client after b && b.number == row.number) both in
        let of_a = and_parts (is_after client after a) (a.number == row.number) parts.0 in
        let of_b = and_parts (is_after client after b) (b.number == row.number) parts.1 in
        let one_client : a.client ≡ b.client = client_of a of_a.0 ∙ sym (client_of b of_b.0) in
        let one_number : a.number ≡ b.number = eqb-true a.number row.number of_a.1 ∙ sym (eqb-true b.number row.number of_b.1) in
        let opened : is_opened_by b.client b.number a ≡ true = and_from (a.client == b.client) (a.number == b.number) (eq-eqb a.client b.client one_client) (eq-eqb a.number b.number one_number) in
        cc)

    single : alone (λ entry. is_after client after entry.1 && entry.1.number == row.number) v.handles ≡ true
    single = alone-pairs (λ (entry : ℕ × Handle). is_after client after entry.1 && entry.1.number == row.number) v.handles
        (λ i j d below within. two (get_or v.handles i d).1 (get_or v.handles j d).1 (next.differ i j d below within))

and_true : (b : Bool) → (b && true) ≡ b
and_true true = refl
and_true false = refl

-- the others of the client's above a number are those above its number
above-next : (client after : ℕ) (row other : Handle) → is_after client after row ≡ true → (is_after client after other && nat_lt other.number row.number) ≡ false
    → is_after client row.number other ≡ (is_after client after other && not (other.number == row.number))
above-next client after row other next smaller = elim (cases_Bool (other.client == client)) [
  | inl own ↦ (let less : (nat_lt after other.number && nat_lt other.number row.number) ≡ false = rw own at smaller in rw own (numbers less))
  | inr foreign ↦ rw foreign refl
]
  where
    above : after < row.number
    above = ltb-true after row.number (and_parts (row.client == client) (nat_lt after row.number) next).1

    numbers : (nat_lt after other.number && nat_lt other.number row.number) ≡ false → nat_lt row.number other.number ≡ (nat_lt after other.number && not (other.number == row.number))
    numbers less = elim (cases_Bool (other.number == row.number)) [
      | inl same ↦ (let equal : other.number ≡ row.number = eqb-true other.number row.number same in
          rw (same, le-ltb row.number other.number (omega arith)) (sym (and_right (nat_lt after other.number) false refl)))
      | inr differs ↦ rw (differs, later-same (λ n. nat_lt after n) row.number other.number (above-up after row.number other.number above) less differs) (sym (and_true (nat_lt after other.number)))
    ]

pub later_handles-next : (v : Volume) (client after id : ℕ) (row : Handle) → IsNextHandle v client after id row → later_handles v client after ≡ (id, row) ∷ later_handles v client row.number
later_handles-next v client after id row next =
    first-picked number (λ entry. is_after client after entry.1) (λ entry. is_after client row.number entry.1) v.handles (id, row) (next_picked v client after id row next)
    (λ k d within. above-next client after row (get_or v.handles k d).1 (next-after v client after id row next)
    (none-all (λ (entry : ℕ × Handle). is_after client after entry.1 && nat_lt entry.1.number row.number) v.handles (none_smaller v client after id row next) k d within))

-- in the end they are none
pub later_handles-last : (v : Volume) (client after : ℕ) → has_row (is_after client after) v.handles ≡ false → later_handles v client after ≡ []
later_handles-last v client after none =
    ap (λ (handles : List (ℕ × Handle)). in_order (by_key number) handles)
    (filter-none (λ (entry : ℕ × Handle). is_after client after entry.1) v.handles (none-all (λ (entry : ℕ × Handle). is_after client after entry.1) v.handles none))

-- ---- one more is closed

-- the row under a number is the only one
only_row : (v : Volume) (id : ℕ) (row : Handle) → IsNumbered v.handles v.last_handle → row_of v.handles id ≡ Some row → All (λ entry. (entry.0 == id) ≡ true → entry ≡ (id, row)) v.handles
only_row v id row numbered found =
    only-found (λ (entry : ℕ × Handle). entry.0 == id) (λ (entry : ℕ × Handle). entry.0 == id) v.handles (id, row)
    (alone-pairs (λ (entry : ℕ × Handle). entry.0 == id) v.handles (λ i j d below within. two (get_or v.handles i d).0 (get_or v.handles j d).0 (numbered.rising i j d below within)))
    (find-row v.handles id row found) (eq-eqb id id refl)
  where
    two : (a b : ℕ) → a < b → (a == id && b == id) ≡ false
    two a b less = false_from_ne_true _ (λ both.
        let parts = and_parts (a == id) (b == id) both in
        let of_a : a ≡ id = eqb-true a id parts.0 in
        let of_b : b ≡ id = eqb-true b id parts.1 in
        omega arith)

-- ---- the first handle of a client

-- it has no lesser number than another, with what is true of the handles of the volume
pub record IsFirstHandle (v : Volume) (client id : ℕ) (row : Handle) : Type 0 where
  pub numbered : IsNumbered v.handles v.last_handle
  pub differ : AllPairs (λ a b. is_opened_by b.1.client b.1.number a.1 ≡ false) v.handles
  pub found : row_of v.handles id ≡ Some row
  pub first : IsFirst v client row

-- of the client's handles it comes first
first_handle_picked : (v : Volume) (client id : ℕ) (row : Handle) → IsFirstHandle v client id row → Picks number (λ entry. entry.1.client == client) v.handles (id, row)
first_handle_picked v client id row is = record {
  some = find-any (λ (entry : ℕ × Handle). entry.0 == id) (λ entry. entry.1.client == client && entry.1.number == row.number) v.handles (id, row) (find-row v.handles id row is.found) own;
  only = only-found (λ (entry : ℕ × Handle). entry.0 == id) (λ entry. entry.1.client == client && entry.1.number == row.number) v.handles (id, row) single (find-row v.handles id row is.found) own;
  single = single;
  least = is.first.least;
}
  where
    own : (row.client == client && row.number == row.number) ≡ true
    own = and_from (row.client == client) (row.number == row.number) is.first.of_client (eq-eqb row.number row.number refl)

    two : (a b : Handle) → is_opened_by b.client b.number a ≡ false
        → ((a.client == client && a.number == row.number) && (b.client == client && b.number == row.number)) ≡ false
    two a b differ = false_from_ne_true _ (λ both.
        let parts = and_parts (a.client == client && a.number == row.number) (b.client == client && b.number == row.number) both in
        let of_a = and_parts (a.client == client) (a.number == row.number) parts.0 in
        let of_b = and_parts (b.client == client) (b.number == row.number) parts.1 in
        let one_client : a.client ≡ b.client = eqb-true a.client client of_a.0 ∙ sym (eqb-true b.client client of_b.0) in
        let one_number : a.number ≡ b.number = eqb-true a.number row.number of_a.1 ∙ sym (eqb-true b.number row.number of_b.1) in
        let opened : is_opened_by b.client b.number a ≡ true = and_from (a.client == b.client) (a.number == b.number) (eq-eqb a.client b.client one_client) (eq-eqb a.number b.number one_number) in
        cc)

    single : alone (λ entry. entry.1.client == client && entry.1.number == row.number) v.handles ≡ true
    single = alone-pairs (λ (entry : ℕ × Handle). entry.1.client == client && entry.1.number == row.number) v.handles
        (λ i j d below within. two (get_or v.handles i d).1 (get_or v.handles j d).1 (is.differ i j d below within))

-- those above its number are the client's others
above-first : (client : ℕ) (row other : Handle) → (other.client == client && nat_lt other.number row.number) ≡ false → is_after client row.number other ≡ (other.client == client && not (other.number == row.number))
above-first client row other smaller = elim (cases_Bool (other.client == client)) [
  | inl own ↦ (let not_below : nat_lt other.number row.number ≡ false = rw own at smaller in
      let most : row.number ≤ other.number = ltb-false other.number row.number not_below in
      rw own (numbers most))
  | inr foreign ↦ rw foreign refl
]
  where
    numbers : row.number ≤ other.number → nat_lt row.number other.number ≡ not (other.number == row.number)
    numbers most = elim (cases_Bool (other.number == row.number)) [
      | inl same ↦ (let equal : other.number ≡ row.number = eqb-true other.number row.number same in
          rw (same, le-ltb row.number other.number (omega arith)) refl)
      | inr differs ↦ (let not_equal : other.number ≡ row.number → ⊥ = eqb-false other.number row.number differs in
          rw (differs, lt-ltb row.number other.number (omega (arith, most, not_equal))) refl)
    ]

-- the client's handles are it and those above its number
pub handles_of_client-first : (v : Volume) (client id : ℕ) (row : Handle) → IsFirstHandle v client id row → handles_of_client v client ≡ (id, row) ∷ later_handles v client row.number
handles_of_client-first v client id row is =
    first-picked number (λ entry. entry.1.client == client) (λ entry. is_after client row.number entry.1) v.handles (id, row) (first_handle_picked v client id row is)
    (λ k d within. above-first client row (get_or v.handles k d).1
    (none-all (λ (entry : ℕ × Handle). entry.1.client == client && nat_lt entry.1.number row.number) v.handles is.first.least k d within))

-- the others of the client are its others
others-first : (client id : ℕ) (row : Handle) (entry : ℕ × Handle) → ((entry.0 == id) ≡ true → entry ≡ (id, row))
    → ((entry.1.client == client && entry.1.number == row.number) ≡ true → entry ≡ (id, row))
    → (not (entry.0 == id) && entry.1.client == client) ≡ (entry.1.client == client && not (entry.1.number == row.number))
others-first client id row entry of_id of_number = elim (cases_Bool (entry.0 == id)) [
  | inl here ↦ (let same : entry ≡ (id, row) = of_id here in
      let number_same : (entry.1.number == row.number) ≡ true = eq-eqb entry.1.number row.number (ap (λ (e : ℕ × Handle). e.1.number) same) in
      rw (here, number_same) (sym (and_right (entry.1.client == client) false refl)))
  | inr other ↦ rw other (elim (cases_Bool (entry.1.client == client)) [
    | inl own ↦ (let differs : (entry.1.number == row.number) ≡ false = false_from_ne_true _ (λ same. eqb-false entry.0 id other (ap (λ (e : ℕ × Handle). e.0)
        (of_number (and_from (entry.1.client == client) (entry.1.number == row.number) own same)))) in
        rw (own, differs) refl)
    | inr foreign ↦ rw foreign refl
  ])
]

-- the client's handle of the least number is closed first, and then those that are left
pub handles_of_client-next : (v : Volume) (client id : ℕ) (row : Handle) → IsFirstHandle v client id row
    → handles_of_client v client ≡ (id, row) ∷ in_order (by_key number) (filter (λ entry. entry.1.client == client) (without_row v.handles id))
handles_of_client-next v client id row is =
    let picks = first_handle_picked v client id row is in
    first-picked number (λ entry. entry.1.client == client) (λ entry. not (entry.0 == id) && entry.1.client == client) v.handles (id, row) picks
    (λ k d within. others-first client id row (get_or v.handles k d) (only_row v id row is.numbered is.found k d within) (picks.only k d within))
    ∙ ap (λ (handles : List (ℕ × Handle)). (id, row) ∷ in_order (by_key number) handles) (sym (filter-both (λ entry. not (entry.0 == id)) (λ entry. entry.1.client == client) v.handles))

-- where the client has no handle there is none
pub handles_of_client-none : (v : Volume) (client : ℕ) → has_row (λ row. row.client == client) v.handles ≡ false → handles_of_client v client ≡ []
handles_of_client-none v client none =
    ap (λ (handles : List (ℕ × Handle)). in_order (by_key number) handles)
    (filter-none (λ (entry : ℕ × Handle). entry.1.client == client) v.handles (none-all (λ (entry : ℕ × Handle). entry.1.client == client) v.handles none))

-- the handle of number 0 is the first
pub IsFirst-0 : (v : Volume) (client id : ℕ) → IfSome (row_of v.handles id) (λ row. is_opened_by client 0 row ≡ true) → IfSome (row_of v.handles id) (λ row. IsFirst v client row)
IsFirst-0 v client id opened = IfSome-map (λ row. is_opened_by client 0 row ≡ true) (λ row. IsFirst v client row) (row_of v.handles id) one opened
  where
    one : (row : Handle) → is_opened_by client 0 row ≡ true → IsFirst v client row
    one row opens =
        let parts = and_parts (row.client == client) (row.number == 0) opens in
        let is_0 : row.number ≡ 0 = eqb-true row.number 0 parts.1 in
        record {
          of_client = parts.0;
          least = list_any_none (λ (entry : ℕ × Handle). entry.1.client == client && nat_lt entry.1.number row.number) v.handles (λ k d within.
              and_right ((get_or v.handles k d).1.client == client) (nat_lt (get_or v.handles k d).1.number row.number) (le-ltb (get_or v.handles k d).1.number row.number (omega (arith, is_0))));
        }

-- the client has no handle of a number up to this one
abbrev pub AreLater : Volume → ℕ → ℕ → Type 0
AreLater v client after = has_row (λ row. row.client == client && not (nat_lt after row.number)) v.handles ≡ false

-- then it is the next above
pub IsFirst-above : (v : Volume) (client after id : ℕ) → IsNumbered v.handles v.last_handle → AllPairs (λ a b. is_opened_by b.1.client b.1.number a.1 ≡ false) v.handles
    → AreLater v client after → next_handle_of v client after ≡ Some id → IfSome (row_of v.handles id) (λ row. IsFirst v client row)
IsFirst-above v client after id numbered differ later next = elim (option_cases (row_of v.handles id)) [
  | inl none ↦ rw none tt
  | inr some ↦ rw some.1 (one some.0 some.1)
]
  where
    lesser : (row other : Handle) → (is_after client after other && nat_lt other.number row.number) ≡ false → (other.client == client && not (nat_lt after other.number)) ≡ false
        → (other.client == client && nat_lt other.number row.number) ≡ false
    lesser row other smaller above = elim (cases_Bool (other.client == client)) [
      | inl own ↦ (elim (cases_Bool (nat_lt after other.number)) [
        | inl is_above ↦ (let not_below : nat_lt other.number row.number ≡ false = rw (own, is_above) at smaller in rw own not_below)
        | inr is_not ↦ (let impossible : true ≡ false = rw (own, is_not) at above in absurd (cc))
      ])
      | inr foreign ↦ rw foreign refl
    ]

    one : (row : Handle) → row_of v.handles id ≡ Some row → IsFirst v client row
    one row found =
        let is : IsNextHandle v client after id row = record { numbered = numbered; differ = differ; found = found; next = next } in
        record {
          of_client = (and_parts (row.client == client) (nat_lt after row.number) (next-after v client after id row is)).0;
          least = list_any_none (λ (entry : ℕ × Handle). entry.1.client == client && nat_lt entry.1.number row.number) v.handles (λ k d within.
              lesser row (get_or v.handles k d).1 (none-all (λ (entry : ℕ × Handle). is_after client after entry.1 && nat_lt entry.1.number row.number) v.handles (none_smaller v client after id row is) k d within)
              (none-all (λ (entry : ℕ × Handle). entry.1.client == client && not (nat_lt after entry.1.number)) v.handles later k d within));
        }

-- and where there is no next, it has none
pub none-above : (v : Volume) (client after : ℕ) → AreLater v client after → has_row (is_after client after) v.handles ≡ false → has_row (λ row. row.client == client) v.handles ≡ false
none-above v client after later none = list_any_none (λ (entry : ℕ × Handle). entry.1.client == client) v.handles (λ k d within.
    one (get_or v.handles k d).1 (none-all (λ (entry : ℕ × Handle). entry.1.client == client && not (nat_lt after entry.1.number)) v.handles later k d within)
    (none-all (λ (entry : ℕ × Handle). is_after client after entry.1) v.handles none k d within))
  where
    one : (other : Handle) → (other.client == client && not (nat_lt after other.number)) ≡ false → is_after client after other ≡ false → (other.client == client) ≡ false
    one other above not_after = false_from_ne_true _ (λ own.
        elim (cases_Bool (nat_lt after other.number)) [
          | inl is_above ↦ (let impossible : true ≡ false = rw (own, is_above) at not_after in absurd (cc))
          | inr is_not ↦ (let impossible : true ≡ false = rw (own, is_not) at above in absurd (cc))
        ])

-- where no item passes that is kept, none passes of those that are kept
any-of_kept : (test kept : ℕ × Handle → Bool) (xs : List (ℕ × Handle)) → list_any (λ x. kept x && test x) xs ≡ false → list_any test (filter kept xs) ≡ false
any-of_kept test kept [] none = refl
any-of_kept test kept (x ∷ xs) none = elim (cases_Bool (kept x)) [
  | inl is_kept ↦ (elim (cases_Bool (test x)) [
    | inl passes_it ↦ (let impossible : true ≡ false = rw (is_kept, passes_it) at none in absurd (cc))
    | inr fails ↦ (let rest : list_any (λ x. kept x && test x) xs ≡ false = rw (is_kept, fails) at none in
        rw (is_kept, fails) (any-of_kept test kept xs rest))
  ])
  | inr is_gone ↦ (let rest : list_any (λ x. kept x && test x) xs ≡ false = rw is_gone at none in
      rw is_gone (any-of_kept test kept xs rest))
]

-- once the first is closed, the client's others are later
pub AreLater-one : (v new : Volume) (client id number : ℕ) → IsNumbered v.handles v.last_handle → AllPairs (λ a b. is_opened_by b.1.client b.1.number a.1 ≡ false) v.handles
    → IfSome (row_of v.handles id) (λ row. IsFirst v client row) → lives v.handles id ≡ true → IfSome (row_of v.handles id) (λ row. number ≡ row.number) → new.handles ≡ without_row v.handles id
    → AreLater new client number
AreLater-one v new client id number numbered differ first live counts handles = elim (option_cases (row_of v.handles id)) [
  | inl none ↦ absurd (lives-found v.handles id live none)
  | inr some ↦ one some.0 some.1 (rw some.1 at first) (rw some.1 at counts)
]
  where
    apart : (row : Handle) (entry : ℕ × Handle) → (not (entry.0 == id) && entry.1.client == client) ≡ (entry.1.client == client && not (entry.1.number == row.number))
        → is_after client row.number entry.1 ≡ (entry.1.client == client && not (entry.1.number == row.number)) → (not (entry.0 == id) && (entry.1.client == client && not (nat_lt row.number entry.1.number))) ≡ false
    apart row entry others above = false_from_ne_true _ (λ both.
        let parts = and_parts (not (entry.0 == id)) (entry.1.client == client && not (nat_lt row.number entry.1.number)) both in
        let own = and_parts (entry.1.client == client) (not (nat_lt row.number entry.1.number)) parts.1 in
        let after : is_after client row.number entry.1 ≡ true = above ∙ sym others ∙ and_from (not (entry.0 == id)) (entry.1.client == client) parts.0 own.0 in
        let less = (and_parts (entry.1.client == client) (nat_lt row.number entry.1.number) after).1 in
        let not_less : nat_lt row.number entry.1.number ≡ false = not-true (nat_lt row.number entry.1.number) own.1 in
        cc)

    one : (row : Handle) → row_of v.handles id ≡ Some row → IsFirst v client row → number ≡ row.number → AreLater new client number
    one row found is_first is =
        let whole : IsFirstHandle v client id row = record { numbered = numbered; differ = differ; found = found; first = is_first } in
        let picks = first_handle_picked v client id row whole in
        rw (handles, is) (any-of_kept (λ (entry : ℕ × Handle). entry.1.client == client && not (nat_lt row.number entry.1.number)) (λ (entry : ℕ × Handle). not (entry.0 == id)) v.handles
        (list_any_none (λ (entry : ℕ × Handle). not (entry.0 == id) && (entry.1.client == client && not (nat_lt row.number entry.1.number))) v.handles (λ k d within.
        apart row (get_or v.handles k d)
        (others-first client id row (get_or v.handles k d) (only_row v id row numbered found k d within) (picks.only k d within))
        (above-first client row (get_or v.handles k d).1
        (none-all (λ (entry : ℕ × Handle). entry.1.client == client && nat_lt entry.1.number row.number) v.handles is_first.least k d within)))))

-- where it has none of number 0, it has none up to 0
AreLater-0 : (v : Volume) (client : ℕ) → handle_of v client 0 ≡ None → AreLater v client 0
AreLater-0 v client none_0 = list_any_none (λ (entry : ℕ × Handle). entry.1.client == client && not (nat_lt 0 entry.1.number)) v.handles (λ k d within.
    one (get_or v.handles k d).1 (number_of-none (is_opened_by client 0) v.handles none_0 k d within))
  where
    one : (other : Handle) → is_opened_by client 0 other ≡ false → (other.client == client && not (nat_lt 0 other.number)) ≡ false
    one other not_0 = elim (cases_Bool (other.client == client)) [
      | inl own ↦ (let differs : (other.number == 0) ≡ false = rw own at not_0 in
          let not_equal : other.number ≡ 0 → ⊥ = eqb-false other.number 0 differs in
          let above : nat_lt 0 other.number ≡ true = lt-ltb 0 other.number (omega (arith, not_equal)) in
          rw (own, above) refl)
      | inr foreign ↦ rw foreign refl
    ]

pub IsFirst-later : (v : Volume) (client : ℕ) (later : Option ℕ) → IsNumbered v.handles v.last_handle → AllPairs (λ a b. is_opened_by b.1.client b.1.number a.1 ≡ false) v.handles
    → handle_of v client 0 ≡ None → later ≡ next_handle_of v client 0 → IfSome later (λ id. IfSome (row_of v.handles id) (λ row. IsFirst v client row))
IsFirst-later v client later numbered differ none_0 found = elim (option_cases later) [
  | inl none ↦ rw none tt
  | inr some ↦ rw some.1 (IsFirst-above v client 0 some.0 numbered differ (AreLater-0 v client none_0) (sym found ∙ some.1))
]

-- and where there is no next, it has none
pub none_of_client : (v : Volume) (client : ℕ) → handle_of v client 0 ≡ None → has_row (is_after client 0) v.handles ≡ false → has_row (λ row. row.client == client) v.handles ≡ false
none_of_client v client none_0 none = none-above v client 0 (AreLater-0 v client none_0) none

-- ---- the room that is left

-- where notes take no more room, closes don't
close_units-less : (old new : Volume) (handle : Handle) → NotesTakeNoMore old new → close_units new handle ≤ close_units old handle
close_units-less old new handle notes = elim (option_cases handle.stream) [
  | inl none ↦ rw none (omega (arith, notes.units handle.link None))
  | inr some ↦ rw some.1 (omega (arith, notes.units handle.link None, notes.units handle.link (Some some.0)))
]

close_dirs-less : (old new : Volume) (handle : Handle) → NotesTakeNoMore old new → close_dirs new handle ≤ close_dirs old handle
close_dirs-less old new handle notes = elim (option_cases handle.stream) [
  | inl none ↦ rw none (omega (arith, notes.dirs handle.link None))
  | inr some ↦ rw some.1 (omega (arith, notes.dirs handle.link None, notes.dirs handle.link (Some some.0)))
]

all_units-less : (old new : Volume) (entries : List (ℕ × Handle)) → NotesTakeNoMore old new → all_units new entries ≤ all_units old entries
all_units-less old new [] notes = omega arith
all_units-less old new (entry ∷ entries) notes = omega (arith, close_units-less old new entry.1 notes, all_units-less old new entries notes)

all_dirs-less : (old new : Volume) (entries : List (ℕ × Handle)) → NotesTakeNoMore old new → all_dirs new entries ≤ all_dirs old entries
all_dirs-less old new [] notes = omega arith
all_dirs-less old new (entry ∷ entries) notes = omega (arith, close_dirs-less old new entry.1 notes, all_dirs-less old new entries notes)

-- one close fewer is to be made
HasRoomForAll-one : (old new : Volume) (spare left : Spare) (entry : ℕ × Handle) (entries : List (ℕ × Handle)) → HasRoomForAll old spare (entry ∷ entries) → KeepsRoom old entry.1 spare left
    → NotesTakeNoMore old new → HasRoomForAll new left entries
HasRoomForAll-one old new spare left entry entries room kept notes =
    let units = all_units-less old new entries notes in
    let dirs = all_dirs-less old new entries notes in
    record {
      changes = omega (arith, room.changes, kept.changes);
      units = omega (arith, room.units, kept.units);
      dirs = omega (arith, room.dirs, kept.dirs);
    }

-- ---- the closing

-- of the handles of the client that there were some are closed, and the others are still to be
pub record IsClosing (client : ℕ) (old now : Volume) (before spare : Spare) : Type 0 where
  pub goes : with_all_closed (handles_of_client now client) now ≡ with_all_closed (handles_of_client old client) old
  pub clients : now.clients ≡ old.clients
  pub room : HasRoomForAll now spare (handles_of_client now client)
  pub ends : length now.pending ≤ spare.ends
  pub count : before.ends + length now.pending ≤ spare.ends + length old.pending

-- at first none is closed
pub IsClosing-begun : (client : ℕ) (v : Volume) (spare : Spare) → HasRoomForAll v spare (handles_of_client v client) → length v.pending ≤ spare.ends → IsClosing client v v spare spare
IsClosing-begun client v spare room ends = record { goes = refl; clients = refl; room = room; ends = ends; count = omega arith }

-- there is room for the next close
pub IsClosing-room : (client : ℕ) (old now : Volume) (before spare : Spare) (id : ℕ) → IsClosing client old now before spare → IsNumbered now.handles now.last_handle
    → AllPairs (λ a b. is_opened_by b.1.client b.1.number a.1 ≡ false) now.handles → IfSome (row_of now.handles id) (λ row. IsFirst now client row)
    → IfSome (row_of now.handles id) (λ row. HasSweepRoom now spare row)
IsClosing-room client old now before spare id closing numbered differ first = elim (option_cases (row_of now.handles id)) [
  | inl none ↦ rw none tt
  | inr some ↦ rw some.1 (room some.0 some.1 (rw some.1 at first))
]
  where
    room : (row : Handle) → row_of now.handles id ≡ Some row → IsFirst now client row → HasSweepRoom now spare row
    room row found is_first =
        let list = handles_of_client-next now client id row (record { numbered = numbered; differ = differ; found = found; first = is_first }) in
        let all = rw list at closing.room in
        record {
          changes = omega (arith, all.changes);
          units = omega (arith, all.units);
          dirs = omega (arith, all.dirs);
        }

-- one more is closed
pub IsClosing-one : (client : ℕ) (old now new : Volume) (before spare left : Spare) (id : ℕ) → IsClosing client old now before spare → IsNumbered now.handles now.last_handle
    → AllPairs (λ a b. is_opened_by b.1.client b.1.number a.1 ≡ false) now.handles → IfSome (row_of now.handles id) (λ row. IsFirst now client row) → lives now.handles id ≡ true
    → new ≡ option_map_or (λ row. with_closed now id row) (row_of now.handles id) now → new.handles ≡ without_row now.handles id → new.clients ≡ now.clients
    → IfSome (row_of now.handles id) (λ row. KeepsRoom now row spare left) → NotesTakeNoMore now new → spare.ends + length new.pending ≤ left.ends + length now.pending → IsClosing client old new before left
IsClosing-one client old now new before spare left id closing numbered differ first live closed handles clients kept notes count = elim (option_cases (row_of now.handles id)) [
  | inl none ↦ absurd (lives-found now.handles id live none)
  | inr some ↦ one some.0 some.1 (rw some.1 at first) (closed ∙ rw some.1 refl) (rw some.1 at kept)
]
  where
    one : (row : Handle) → row_of now.handles id ≡ Some row → IsFirst now client row → new ≡ with_closed now id row → KeepsRoom now row spare left → IsClosing client old new before left
    one row found is_first is keeps =
        let list = handles_of_client-next now client id row (record { numbered = numbered; differ = differ; found = found; first = is_first }) in
        let rest : handles_of_client new client ≡ in_order (by_key number) (filter (λ entry. entry.1.client == client) (without_row now.handles id))
        = ap (λ (rows : List (ℕ × Handle)). in_order (by_key number) (filter (λ entry. entry.1.client == client) rows)) handles in
        let goes : with_all_closed (in_order (by_key number) (filter (λ entry. entry.1.client == client) (without_row now.handles id))) (with_closed now id row) ≡ with_all_closed (handles_of_client old client) old
        = rw list at closing.goes in
        record {
          goes = rw rest (ap (λ (w : Volume). with_all_closed (in_order (by_key number) (filter (λ entry. entry.1.client == client) (without_row now.handles id))) w) is ∙ goes);
          clients = clients ∙ closing.clients;
          room = rw rest (HasRoomForAll-one now new spare left (id, row) (in_order (by_key number) (filter (λ entry. entry.1.client == client) (without_row now.handles id))) (rw list at closing.room) keeps notes);
          ends = omega (arith, count, closing.ends);
          count = omega (arith, count, closing.count);
        }

-- none is left
pub IsClosing-last : (client : ℕ) (old now : Volume) (before spare : Spare) → IsClosing client old now before spare → has_row (λ row. row.client == client) now.handles ≡ false
    → now ≡ with_all_closed (handles_of_client old client) old
IsClosing-last client old now before spare closing none =
    sym (ap (λ (handles : List (ℕ × Handle)). with_all_closed handles now) (handles_of_client-none now client none)) ∙ closing.goes

-- without a row that lives there are fewer
pub fewer-rows : (rows : List (ℕ × Handle)) (id : ℕ) → lives rows id ≡ true → length (without_row rows id) < length rows
fewer-rows rows id live = elim (option_cases (row_of rows id)) [
  | inl none ↦ absurd (lives-found rows id live none)
  | inr some ↦ fewer (λ (entry : ℕ × Handle). entry.0 == id) (λ entry. not (entry.0 == id)) rows (id, some.0) (find-row rows id some.0 some.1) (ap not (eq-eqb id id refl))
]

-- ---- the sums

-- what is summed makes with the closes that are left the room for all
pub record IsSummed (v : Volume) (client : ℕ) (sum : Sum) : Type 0 where
  pub changes : sum.changes + 2 * length (later_handles v client sum.after) ≡ 2 * length (handles_of_client v client)
  pub units : sum.units + all_units v (later_handles v client sum.after) ≡ all_units v (handles_of_client v client)
  pub dirs : sum.dirs + all_dirs v (later_handles v client sum.after) ≡ all_dirs v (handles_of_client v client)

-- the close of the first handle is counted
pub IsSummed-first : (v : Volume) (client id : ℕ) (sum : Sum) → IsNumbered v.handles v.last_handle → AllPairs (λ a b. is_opened_by b.1.client b.1.number a.1 ≡ false) v.handles
    → IfSome (row_of v.handles id) (λ row. IsFirst v client row) → lives v.handles id ≡ true
    → IfSome (row_of v.handles id) (λ row. CountsOne v (record { after = 0; changes = 0; units = 0; dirs = 0 }) sum row) → IsSummed v client sum
IsSummed-first v client id sum numbered differ first live counts = elim (option_cases (row_of v.handles id)) [
  | inl none ↦ absurd (lives-found v.handles id live none)
  | inr some ↦ one some.0 some.1 (rw some.1 at first) (rw some.1 at counts)
]
  where
    one : (row : Handle) → row_of v.handles id ≡ Some row → IsFirst v client row → CountsOne v (record { after = 0; changes = 0; units = 0; dirs = 0 }) sum row → IsSummed v client sum
    one row found is_first count =
        let all : handles_of_client v client ≡ (id, row) ∷ later_handles v client sum.after
        = handles_of_client-first v client id row (record { numbered = numbered; differ = differ; found = found; first = is_first })
        ∙ ap (λ (after : ℕ). (id, row) ∷ later_handles v client after) (sym count.after) in
        record {
          changes = rw all (omega (arith, count.changes));
          units = rw all (omega (arith, count.units));
          dirs = rw all (omega (arith, count.dirs));
        }

-- where the client has no handle there is nothing to sum
pub none-summed : (v : Volume) (client : ℕ) → has_row (λ row. row.client == client) v.handles ≡ false
    → (0 ≡ 2 * length (handles_of_client v client)) × (0 ≡ all_units v (handles_of_client v client)) × (0 ≡ all_dirs v (handles_of_client v client))
none-summed v client none = let all = handles_of_client-none v client none in (rw all refl, rw all refl, rw all refl)

-- the close of the next handle is counted
pub counted : (v : Volume) (client id : ℕ) (sum more : Sum) → IsNumbered v.handles v.last_handle → AllPairs (λ a b. is_opened_by b.1.client b.1.number a.1 ≡ false) v.handles
    → next_handle_of v client sum.after ≡ Some id → lives v.handles id ≡ true → IfSome (row_of v.handles id) (λ row. CountsOne v sum more row)
    → (row : Handle) × (later_handles v client sum.after ≡ (id, row) ∷ later_handles v client more.after) × CountsOne v sum more row
counted v client id sum more numbered differ next live counts = elim (option_cases (row_of v.handles id)) [
  | inl none ↦ absurd (lives-found v.handles id live none)
  | inr some ↦ one some.0 some.1 (rw some.1 at counts)
]
  where
    one : (row : Handle) → row_of v.handles id ≡ Some row → CountsOne v sum more row → (row : Handle) × (later_handles v client sum.after ≡ (id, row) ∷ later_handles v client more.after) × CountsOne v sum more row
    one row found count = (
      row,
      later_handles-next v client sum.after id row (record { numbered = numbered; differ = differ; found = found; next = next })
          ∙ ap (λ (after : ℕ). (id, row) ∷ later_handles v client after) (sym count.after),
      count,
    )

pub IsSummed-more : (v : Volume) (client id : ℕ) (sum more : Sum) → IsSummed v client sum → IsNumbered v.handles v.last_handle
    → AllPairs (λ a b. is_opened_by b.1.client b.1.number a.1 ≡ false) v.handles → next_handle_of v client sum.after ≡ Some id → lives v.handles id ≡ true
    → IfSome (row_of v.handles id) (λ row. CountsOne v sum more row) → IsSummed v client more
IsSummed-more v client id sum more summed numbered differ next live counts =
    let one = counted v client id sum more numbered differ next live counts in
    let changes : sum.changes + 2 * length ((id, one.0) ∷ later_handles v client more.after) ≡ 2 * length (handles_of_client v client) = rw one.1 at summed.changes in
    let units : sum.units + all_units v ((id, one.0) ∷ later_handles v client more.after) ≡ all_units v (handles_of_client v client) = rw one.1 at summed.units in
    let dirs : sum.dirs + all_dirs v ((id, one.0) ∷ later_handles v client more.after) ≡ all_dirs v (handles_of_client v client) = rw one.1 at summed.dirs in
    record {
      changes = omega (arith, changes, one.2.changes);
      units = omega (arith, units, one.2.units);
      dirs = omega (arith, dirs, one.2.dirs);
    }

-- fewer are left
pub fewer-later : (v : Volume) (client id : ℕ) (sum more : Sum) → IsNumbered v.handles v.last_handle → AllPairs (λ a b. is_opened_by b.1.client b.1.number a.1 ≡ false) v.handles
    → next_handle_of v client sum.after ≡ Some id → lives v.handles id ≡ true → IfSome (row_of v.handles id) (λ row. CountsOne v sum more row)
    → length (later_handles v client more.after) < length (later_handles v client sum.after)
fewer-later v client id sum more numbered differ next live counts =
    let one = counted v client id sum more numbered differ next live counts in
    rw one.1 (omega arith)

-- none is left
pub IsSummed-last : (v : Volume) (client : ℕ) (sum : Sum) → IsSummed v client sum → has_row (is_after client sum.after) v.handles ≡ false
    → (sum.changes ≡ 2 * length (handles_of_client v client)) × (sum.units ≡ all_units v (handles_of_client v client)) × (sum.dirs ≡ all_dirs v (handles_of_client v client))
IsSummed-last v client sum summed none =
    let last = later_handles-last v client sum.after none in
    let changes : sum.changes + 2 * length {A = ℕ × Handle} [] ≡ 2 * length (handles_of_client v client) = rw last at summed.changes in
    let units : sum.units + 0 ≡ all_units v (handles_of_client v client) = rw last at summed.units in
    let dirs : sum.dirs + 0 ≡ all_dirs v (handles_of_client v client) = rw last at summed.dirs in
    (omega arith, omega arith, omega arith)

-- ---- a client that is gone

pub with_client_gone-steps : (v ended closed gone : Volume) (client : ℕ) → ended ≡ with_ending (OfClient client) v → ended.handles ≡ v.handles
    → closed ≡ with_all_closed (handles_of_client ended client) ended → gone ≡ with_left closed client → gone ≡ with_client_gone v client
unfolding with_client_gone
with_client_gone-steps v ended closed gone client ends handles closes leaves =
    leaves
    ∙ ap (λ (w : Volume). with_left w client)
    (closes ∙ ap (λ (rows : List (ℕ × Handle)). with_all_closed (in_order (by_key number) (filter (λ entry. entry.1.client == client) rows)) ended) handles
    ∙ ap (λ (w : Volume). with_all_closed (handles_of_client v client) w) ends)
