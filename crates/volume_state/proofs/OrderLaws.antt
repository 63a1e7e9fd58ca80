-- Streams in the order of their names: what comes after a name, and that a walk from name to name meets each stream once.
use Rattle.std.proofs.Common.{◌≡◌, ◌∙◌, ℕ, suc, Bool, true, false, List, [], ◌∷◌, Option, Some, None, get_or, refl, sym, ap, subst, inl, inr, ◌⊎◌, arith}
use Rattle.std.specs.Prelude.{◌==◌, ◌&&◌, not, filter, find, option_map, slice_get, All, AllPairs, IfSome, IfNone}
use Rattle.std.specs.Option.{option_map_or}
use Rattle.std.specs.Ordering.{is_lt, is_eq, ordering_reverse}
use Rattle.std.specs.declared.cmp.Ordering.{Ordering}
use Rattle.std.specs.declared.cmp.Ordering.TheVariants.{Less, Equal, Greater}
use Rattle.std.specs.Cmp.Lexicographic.{texts_ties}
use Rattle.std.proofs.lemmas.Bool.{cases_Bool, and_parts, eqb-true, eq-eqb}
use Rattle.std.proofs.lemmas.Cmp.{nat_list_cmp_total, tied_itself}
use Rattle.std.proofs.lemmas.List.Elements.{All-cons, All-filter, filter_passes}
use Rattle.std.proofs.lemmas.List.Kept.{AllPairs-filter}
use Rattle.fsa_types.specs.CaseTable.{cmp_name, same_name, upcased}
use Rattle.fsa_types.specs.Rows.{row_of, lives}
use Rattle.fsa_types.specs.Sorting.{in_order, put_in_order}
use Rattle.fsa_types.proofs.OplockLemmas.{All-in_order}
use Rattle.fsa_model.specs.Lookups.{is_stream_named}
use Rattle.fsa_model.specs.QueryInfo.{is_stream_before, streams_of}
use Rattle.fsa_model.specs.ShownNumbers.{default_stream}
use Rattle.fsa_model.specs.Sound.{IsSound}
use Rattle.fsa_model.specs.Volume.{Stream, Volume}
use Rattle.fsa_model.proofs.RowLaws.{find-all, row_of-here}
use Rattle.volume_tables.specs.StreamOrder.{is_stream_after}
use Rattle.volume_state.specs.InOrder.{stream_after, streams_after}

-- ---- filters

filter-same : {T : Type 0} (one other : T → Bool) (items : List T) → ((item : T) → one item ≡ other item) → filter one items ≡ filter other items
filter-same one other [] same = refl
filter-same one other (item ∷ items) same = elim (cases_Bool (other item)) [
  | inl passes ↦ rw (same item, passes) (ap (λ rest. item ∷ rest) (filter-same one other items same))
  | inr fails ↦ rw (same item, fails) (filter-same one other items same)
]

filter-both : {T : Type 0} (first second : T → Bool) (items : List T) → filter second (filter first items) ≡ filter (λ item. first item && second item) items
filter-both first second [] = refl
filter-both first second (item ∷ items) = elim (cases_Bool (first item)) [
  | inl passes ↦ rw passes (elim (cases_Bool (second item)) [
    | inl also ↦ rw also (ap (λ rest. item ∷ rest) (filter-both first second items))
    | inr only ↦ rw only (filter-both first second items)
  ])
  | inr fails ↦ rw fails (filter-both first second items)
]

find-both : {T : Type 0} (first second : T → Bool) (items : List T) → find second (filter first items) ≡ find (λ item. first item && second item) items
find-both first second [] = refl
find-both first second (item ∷ items) = elim (cases_Bool (first item)) [
  | inl passes ↦ rw passes (elim (cases_Bool (second item)) [
    | inl also ↦ rw also refl
    | inr only ↦ rw only (find-both first second items)
  ])
  | inr fails ↦ rw fails (find-both first second items)
]

filter-all : {T : Type 0} (test : T → Bool) (items : List T) → All (λ item. test item ≡ true) items → filter test items ≡ items
filter-all test [] all = refl
filter-all test (item ∷ items) all = rw (all 0 item (omega arith)) (ap (λ rest. item ∷ rest) (filter-all test items (λ k d within. all (suc k) d (omega arith))))

-- ---- items in order

-- what comes after an item that passes, passes
abbrev IsClosed : {T : Type 0} → (T → T → Bool) → (T → Bool) → Type 0
IsClosed {T} before test = (one other : T) → test one ≡ true → before one other ≡ true → test other ≡ true

put-passes : {T : Type 0} (before : T → T → Bool) (test : T → Bool) (item : T) (items : List T) → IsClosed before test → test item ≡ true
    → filter test (put_in_order before item items) ≡ put_in_order before item (filter test items)
put-passes before test item [] closed passes = rw passes refl
put-passes before test item (first ∷ items) closed passes = elim (cases_Bool (before item first)) [
  | inl earlier ↦ (let also = closed item first passes earlier in rw (earlier, passes, also, earlier) refl)
  | inr later ↦ (let rest = put-passes before test item items closed passes in
      elim (cases_Bool (test first)) [
        | inl also ↦ rw (later, also, later) (ap (λ more. first ∷ more) rest)
        | inr fails ↦ rw (later, fails) rest
      ])
]

put-fails : {T : Type 0} (before : T → T → Bool) (test : T → Bool) (item : T) (items : List T) → test item ≡ false → filter test (put_in_order before item items) ≡ filter test items
put-fails before test item [] fails = rw fails refl
put-fails before test item (first ∷ items) fails = elim (cases_Bool (before item first)) [
  | inl earlier ↦ rw (earlier, fails) refl
  | inr later ↦ rw later (elim (cases_Bool (test first)) [
    | inl passes ↦ rw passes (ap (λ more. first ∷ more) (put-fails before test item items fails))
    | inr also ↦ rw also (put-fails before test item items fails)
  ])
]

in_order-filter : {T : Type 0} (before : T → T → Bool) (test : T → Bool) (items : List T) → IsClosed before test → filter test (in_order before items) ≡ in_order before (filter test items)
in_order-filter before test [] closed = refl
in_order-filter before test (item ∷ items) closed = elim (cases_Bool (test item)) [
  | inl passes ↦ rw passes (put-passes before test item (in_order before items) closed passes ∙ ap (put_in_order before item) (in_order-filter before test items closed))
  | inr fails ↦ rw fails (put-fails before test item (in_order before items) fails ∙ in_order-filter before test items closed)
]

-- each item comes before all that stand after it
abbrev IsRising : {T : Type 0} → (T → T → Bool) → List T → Type 0
IsRising before [] = Unit {0}
IsRising before (item ∷ items) = All (λ other. before item other ≡ true) items × IsRising before items

abbrev IsTransitive : {T : Type 0} → (T → T → Bool) → Type 0
IsTransitive {T} before = (one other third : T) → before one other ≡ true → before other third ≡ true → before one third ≡ true

abbrev IsEither : {T : Type 0} → (T → T → Bool) → T → T → Type 0
IsEither before one other = (before one other ≡ true) ⊎ (before other one ≡ true)

put-all : {T : Type 0} (P : T → Type 0) (before : T → T → Bool) (item : T) (items : List T) → P item → All P items → All P (put_in_order before item items)
put-all P before item [] here all = All-cons P item [] here all
put-all P before item (first ∷ items) here all = elim (cases_Bool (before item first)) [
  | inl earlier ↦ rw earlier (All-cons P item (first ∷ items) here all)
  | inr later ↦ rw later (All-cons P first (put_in_order before item items) (all 0 first (omega arith)) (put-all P before item items here (λ k d within. all (suc k) d (omega arith))))
]

put-rising : {T : Type 0} (before : T → T → Bool) (item : T) (items : List T) → IsTransitive before → All (IsEither before item) items → IsRising before items → IsRising before (put_in_order before item items)
put-rising before item [] trans either rising = (either_none, tt)
  where
    either_none : All (λ other. before item other ≡ true) []
    either_none k d within = absurd (omega (arith, within))
put-rising {T} before item (first ∷ items) trans either rising = elim (cases_Bool (before item first)) [
  | inl earlier ↦ rw earlier (All-cons (λ (other : T). before item other ≡ true) first items earlier (λ k d within. trans item first (get_or items k d) earlier (rising.0 k d within)), rising)
  | inr later ↦ rw later (
    put-all (λ (other : T). before first other ≡ true) before item items (elim (either 0 first (omega arith)) [ inl is ↦ (let impossible : true ≡ false = sym is ∙ later in cc) | inr is ↦ is ]) rising.0,
    put-rising before item items trans (λ k d within. either (suc k) d (omega arith)) rising.1,
  )
]

rising-in_order : {T : Type 0} (before : T → T → Bool) (items : List T) → IsTransitive before → AllPairs (IsEither before) items → IsRising before (in_order before items)
rising-in_order before [] trans pairs = tt
rising-in_order before (item ∷ items) trans pairs =
    put-rising before item (in_order before items) trans (All-in_order (IsEither before item) before items (λ k d within. pairs 0 (suc k) d (omega arith) (omega arith)))
    (rising-in_order before items trans (λ j k d below within. pairs (suc j) (suc k) d (omega arith) (omega arith)))

-- behind the first item stands what comes after it
behind-first : {T : Type 0} (before : T → T → Bool) (first : T) (items : List T) → before first first ≡ false → IsRising before (first ∷ items) → filter (before first) (first ∷ items) ≡ items
behind-first before first items itself rising = rw itself (filter-all (before first) items rising.0)

-- one item that stands before all others is the first
in_order-first : {T : Type 0} (before : T → T → Bool) (test : T → Bool) (items : List T)
    → AllPairs (λ one other. (test one && test other) ≡ false) items
    → ((one other : T) → test one ≡ true → test other ≡ false → before one other ≡ true)
    → ((one other : T) → test one ≡ false → test other ≡ true → before one other ≡ false)
    → in_order before items
    ≡ option_map_or (λ first. first ∷ in_order before (filter (λ item. not (test item)) items)) (find test items) (in_order before (filter (λ item. not (test item)) items))
in_order-first before test [] only first last = refl
in_order-first {T} before test (item ∷ items) only first last = elim (cases_Bool (test item)) [
  | inl passes ↦ (
      let others : All (λ other. test other ≡ false) items = λ k d within. (let pair : (test item && test (get_or items k d)) ≡ false = only 0 (suc k) d (omega arith) (omega arith) in rw passes at pair) in
      let all : filter (λ other. not (test other)) items ≡ items = filter-all (λ other. not (test other)) items (λ k d within. rw (others k d within) refl) in
      rw (passes, all) (put-before (in_order before items) (All-in_order (λ other. test other ≡ false) before items others) passes))
  | inr fails ↦ (
      let rest = in_order-first before test items (λ j k d below within. only (suc j) (suc k) d (omega arith) (omega arith)) first last in
      rw fails (ap (put_in_order before item) rest ∙ later (find test items) fails (find-passes items)))
]
  where
    find-passes : (items : List T) → IfSome (find test items) (λ found. test found ≡ true)
    find-passes [] = tt
    find-passes (other ∷ more) = elim (cases_Bool (test other)) [
      | inl passes ↦ rw passes passes
      | inr fails ↦ rw fails (find-passes more)
    ]

    put-before : (ordered : List T) → All (λ other. test other ≡ false) ordered → test item ≡ true → put_in_order before item ordered ≡ item ∷ ordered
    put-before [] all passes = refl
    put-before (other ∷ more) all passes = rw (first item other passes (all 0 other (omega arith))) refl

    later : (found : Option T) → test item ≡ false → IfSome found (λ f. test f ≡ true)
        → put_in_order before item (option_map_or (λ f. f ∷ in_order before (filter (λ other. not (test other)) items)) found (in_order before (filter (λ other. not (test other)) items)))
        ≡ option_map_or (λ f. f ∷ in_order before (item ∷ filter (λ other. not (test other)) items)) found (in_order before (item ∷ filter (λ other. not (test other)) items))
    later None fails passes = refl
    later (Some f) fails passes = rw (last item f fails passes) refl

-- ---- the order of names

less-lt : (o : Ordering) → is_lt o ≡ true → o ≡ Less
less-lt Less is = refl
less-lt Equal is = cc
less-lt Greater is = cc

comes-trans : (table : List (ℕ × ℕ)) (one other third : List ℕ) → is_lt (cmp_name table one other) ≡ true → is_lt (cmp_name table other third) ≡ true → is_lt (cmp_name table one third) ≡ true
comes-trans table one other third first second =
    ap is_lt (nat_list_cmp_total.trans (upcased table one) (upcased table other) (upcased table third) (less-lt (cmp_name table one other) first) (less-lt (cmp_name table other third) second))

comes-itself : (table : List (ℕ × ℕ)) (name : List ℕ) → is_lt (cmp_name table name name) ≡ false
comes-itself table name = ap is_lt (tied_itself nat_list_cmp_total (upcased table name))

either-lt : (one other : Ordering) → other ≡ ordering_reverse one → is_eq one ≡ false → (is_lt one ≡ true) ⊎ (is_lt other ≡ true)
either-lt Less other is differs = inl refl
either-lt Equal other is differs = cc
either-lt Greater other is differs = inr (ap is_lt is)

comes-either : (table : List (ℕ × ℕ)) (one other : List ℕ) → same_name table one other ≡ false → (is_lt (cmp_name table one other) ≡ true) ⊎ (is_lt (cmp_name table other one) ≡ true)
comes-either table one other differs =
    either-lt (cmp_name table one other) (cmp_name table other one) (nat_list_cmp_total.antisymm (upcased table other) (upcased table one))
    (sym (texts_ties (upcased table one) (upcased table other)) ∙ differs)

-- ---- streams

abbrev of_file : ℕ → ℕ × Stream → Bool
of_file file entry = entry.1.file == file

-- the names of the streams of one file differ
names-differ : (v : Volume) (file : ℕ) (test : ℕ × Stream → Bool) → IsSound v → ((entry : ℕ × Stream) → test entry ≡ true → of_file file entry ≡ true)
    → AllPairs (λ (one other : ℕ × Stream). same_name v.table one.1.name other.1.name ≡ false) (filter test v.streams)
names-differ v file test sound of j k d below within =
    let kept = filter_passes test v.streams in
    let one = get_or (filter test v.streams) j d in
    let other = get_or (filter test v.streams) k d in
    let first : one.1.file ≡ file = eqb-true one.1.file file (of one (kept j d (omega arith))) in
    let second : other.1.file ≡ file = eqb-true other.1.file file (of other (kept k d within)) in
    let differ : is_stream_named v.table other.1.file other.1.name one.1 ≡ false = AllPairs-filter (λ (a b : ℕ × Stream). is_stream_named v.table b.1.file b.1.name a.1 ≡ false) test v.streams sound.tree.stream_names_differ j k d below within in
    let same : (one.1.file == other.1.file) ≡ true = eq-eqb one.1.file other.1.file (first ∙ sym second) in
    rw same at differ

rising-streams : (v : Volume) (file : ℕ) (test : ℕ × Stream → Bool) → IsSound v → ((entry : ℕ × Stream) → test entry ≡ true → of_file file entry ≡ true)
    → IsRising (is_stream_before v.table) (in_order (is_stream_before v.table) (filter test v.streams))
rising-streams v file test sound of =
    rising-in_order (is_stream_before v.table) (filter test v.streams) (λ one other third. comes-trans v.table one.1.name other.1.name third.1.name)
    (λ j k d below within. comes-either v.table (get_or (filter test v.streams) j d).1.name (get_or (filter test v.streams) k d).1.name (names-differ v file test sound of j k d below within))

-- what comes after the first stream of those after a name is the rest of them
pub streams_after-more : (v : Volume) (file : ℕ) (units : List ℕ) (entry : ℕ × Stream) (rest : List (ℕ × Stream)) → IsSound v → streams_after v file units ≡ entry ∷ rest
    → rest ≡ streams_after v file entry.1.name
streams_after-more v file units entry rest sound is =
    let before : ℕ × Stream → ℕ × Stream → Bool = is_stream_before v.table in
    let test : ℕ × Stream → Bool = λ e. is_stream_after v.table file units e.1 in
    let all : All (λ e. test e ≡ true) (entry ∷ rest) = subst (λ (l : List (ℕ × Stream)). All (λ e. test e ≡ true) l) is (All-in_order (λ (e : ℕ × Stream). test e ≡ true) before (filter test v.streams) (filter_passes test v.streams)) in
    let passes : is_lt (cmp_name v.table units entry.1.name) ≡ true = (and_parts (entry.1.file == file) (is_lt (cmp_name v.table units entry.1.name)) (all 0 entry (omega arith))).1 in
    let rising : IsRising before (entry ∷ rest) = subst (IsRising before) is (rising-streams v file test sound (λ e after. (and_parts (e.1.file == file) (is_lt (cmp_name v.table units e.1.name)) after).0)) in
    sym (behind-first before entry rest (comes-itself v.table entry.1.name) rising)
    ∙ ap (filter (before entry)) (sym is)
    ∙ in_order-filter before (before entry) (filter test v.streams) (λ one other. comes-trans v.table entry.1.name one.1.name other.1.name)
    ∙ ap (in_order before) (filter-both test (before entry) v.streams ∙ filter-same (λ e. test e && before entry e) (λ e. is_stream_after v.table file entry.1.name e.1) v.streams (λ e. one e passes))
  where
    and_none : (b : Bool) → (b && false) ≡ false
    and_none true = refl
    and_none false = refl

    one : (e : ℕ × Stream) → is_lt (cmp_name v.table units entry.1.name) ≡ true
        → (is_stream_after v.table file units e.1 && is_stream_before v.table entry e) ≡ is_stream_after v.table file entry.1.name e.1
    one e passes = elim (cases_Bool (e.1.file == file)) [
      | inl own ↦ rw own (elim (cases_Bool (is_lt (cmp_name v.table entry.1.name e.1.name))) [
        | inl after ↦ rw (after, comes-trans v.table units entry.1.name e.1.name passes after) refl
        | inr not_after ↦ rw not_after (and_none (is_lt (cmp_name v.table units e.1.name)))
      ])
      | inr foreign ↦ rw foreign refl
    ]

-- the default stream comes first
empty-first : (table : List (ℕ × ℕ)) (one other : List ℕ) → same_name table one [] ≡ true → same_name table other [] ≡ false → is_lt (cmp_name table one other) ≡ true
empty-first table [] [] empty other = cc
empty-first table [] (unit ∷ units) empty other = refl
empty-first table (unit ∷ units) other empty not_empty = cc

empty-last : (table : List (ℕ × ℕ)) (one other : List ℕ) → same_name table other [] ≡ true → is_lt (cmp_name table one other) ≡ false
empty-last table [] [] empty = refl
empty-last table (unit ∷ units) [] empty = refl
empty-last table one (unit ∷ units) empty = cc

named-after : (table : List (ℕ × ℕ)) (name : List ℕ) → not (same_name table name []) ≡ is_lt (cmp_name table [] name)
named-after table [] = refl
named-after table (unit ∷ units) = refl

both-empty : (table : List (ℕ × ℕ)) (one other : List ℕ) → same_name table one other ≡ false → (same_name table one [] && same_name table other []) ≡ false
both-empty table [] [] differ = cc
both-empty table [] (unit ∷ units) differ = refl
both-empty table (unit ∷ units) other differ = refl

pub streams_of-first : (v : Volume) (file : ℕ) → IsSound v
    → streams_of v file ≡ option_map_or (λ entry. entry ∷ streams_after v file []) (find (λ entry. is_stream_named v.table file [] entry.1) v.streams) (streams_after v file [])
streams_of-first v file sound =
    let before : ℕ × Stream → ℕ × Stream → Bool = is_stream_before v.table in
    let empty : ℕ × Stream → Bool = λ e. same_name v.table e.1.name [] in
    let own : List (ℕ × Stream) = filter (of_file file) v.streams in
    let rest : filter (λ e. not (empty e)) own ≡ filter (λ e. is_stream_after v.table file [] e.1) v.streams
    = filter-both (of_file file) (λ e. not (empty e)) v.streams
    ∙ filter-same (λ e. of_file file e && not (empty e)) (λ e. is_stream_after v.table file [] e.1) v.streams (λ e. ap (λ (b : Bool). of_file file e && b) (named-after v.table e.1.name)) in
    in_order-first before empty own (λ j k d below within. both-empty v.table (get_or own j d).1.name (get_or own k d).1.name (names-differ v file (of_file file) sound (λ e is. is) j k d below within))
    (λ one other. empty-first v.table one.1.name other.1.name) (λ one other not_empty. empty-last v.table one.1.name other.1.name)
    ∙ ap (λ (l : List (ℕ × Stream)). option_map_or (λ entry. entry ∷ in_order before l) (find empty own) (in_order before l)) rest
    ∙ ap (λ (o : Option (ℕ × Stream)). option_map_or (λ entry. entry ∷ streams_after v file []) o (streams_after v file [])) (find-both (of_file file) empty v.streams)

-- ---- what is looked up

rows-found : (v : Volume) → IsSound v → All (λ (entry : ℕ × Stream). row_of v.streams entry.0 ≡ Some entry.1) v.streams
rows-found v sound k d within = row_of-here v.streams v.last_stream k d sound.streams_numbered within

after-found : (v : Volume) (file : ℕ) (units : List ℕ) → IsSound v → All (λ (entry : ℕ × Stream). row_of v.streams entry.0 ≡ Some entry.1) (streams_after v file units)
after-found v file units sound =
    All-in_order (λ (entry : ℕ × Stream). row_of v.streams entry.0 ≡ Some entry.1) (is_stream_before v.table) (filter (λ entry. is_stream_after v.table file units entry.1) v.streams)
    (All-filter (λ entry. is_stream_after v.table file units entry.1) (λ (entry : ℕ × Stream). row_of v.streams entry.0 ≡ Some entry.1) v.streams (rows-found v sound))

found-lives : (rows : List (ℕ × Stream)) (id : ℕ) (row : Stream) → row_of rows id ≡ Some row → lives rows id ≡ true
found-lives [] id row found = cc
found-lives (x ∷ xs) id row found = elim (cases_Bool (x.0 == id)) [
  | inl here ↦ rw here refl
  | inr other ↦ rw other (found-lives xs id row (rw other at found))
]

-- the stream after a name lives
pub stream_after-lives : (v : Volume) (file : ℕ) (units : List ℕ) → IsSound v → IfSome (stream_after v file units) (λ id. lives v.streams id ≡ true)
stream_after-lives v file units sound = go (streams_after v file units) (after-found v file units sound)
  where
    go : (ordered : List (ℕ × Stream)) → All (λ (entry : ℕ × Stream). row_of v.streams entry.0 ≡ Some entry.1) ordered
        → IfSome (option_map (λ (entry : ℕ × Stream). entry.0) (slice_get ordered 0)) (λ id. lives v.streams id ≡ true)
    go [] found = tt
    go (entry ∷ rest) found = found-lives v.streams entry.0 entry.1 (found 0 entry (omega arith))

-- behind it come those after its own name
pub stream_after-rest : (v : Volume) (file : ℕ) (units : List ℕ) → IsSound v
    → IfSome (stream_after v file units) (λ id. IfSome (row_of v.streams id) (λ row. streams_after v file units ≡ (id, row) ∷ streams_after v file row.name))
stream_after-rest v file units sound = go (streams_after v file units) (after-found v file units sound) (λ entry rest. streams_after-more v file units entry rest sound)
  where
    go : (ordered : List (ℕ × Stream)) → All (λ (entry : ℕ × Stream). row_of v.streams entry.0 ≡ Some entry.1) ordered
        → ((entry : ℕ × Stream) (rest : List (ℕ × Stream)) → ordered ≡ entry ∷ rest → rest ≡ streams_after v file entry.1.name)
        → IfSome (option_map (λ (entry : ℕ × Stream). entry.0) (slice_get ordered 0)) (λ id. IfSome (row_of v.streams id) (λ row. ordered ≡ (id, row) ∷ streams_after v file row.name))
    go [] found more = tt
    go (entry ∷ rest) found more = rw (found 0 entry (omega arith)) (ap (λ (l : List (ℕ × Stream)). entry ∷ l) (more entry rest refl))

-- where there is none, none comes after the name
pub stream_after-none : (v : Volume) (file : ℕ) (units : List ℕ) → IfNone (stream_after v file units) (streams_after v file units ≡ [])
stream_after-none v file units = go (streams_after v file units)
  where
    go : (ordered : List (ℕ × Stream)) → IfNone (option_map (λ (entry : ℕ × Stream). entry.0) (slice_get ordered 0)) (ordered ≡ [])
    go [] = refl
    go (entry ∷ rest) = tt

-- the default stream is the first in order, where there is one
pub default-first : (v : Volume) (file : ℕ) → IsSound v
    → IfSome (default_stream v file) (λ id. IfSome (row_of v.streams id) (λ row. streams_of v file ≡ (id, row) ∷ streams_after v file []))
default-first v file sound =
    go (find (λ entry. is_stream_named v.table file [] entry.1) v.streams) (streams_of-first v file sound)
    (λ entry found. find-all (λ (e : ℕ × Stream). row_of v.streams e.0 ≡ Some e.1) (λ e. is_stream_named v.table file [] e.1) v.streams entry found (rows-found v sound))
  where
    go : (o : Option (ℕ × Stream)) → streams_of v file ≡ option_map_or (λ entry. entry ∷ streams_after v file []) o (streams_after v file [])
        → ((entry : ℕ × Stream) → o ≡ Some entry → row_of v.streams entry.0 ≡ Some entry.1)
        → IfSome (option_map (λ (entry : ℕ × Stream). entry.0) o) (λ id. IfSome (row_of v.streams id) (λ row. streams_of v file ≡ (id, row) ∷ streams_after v file []))
    go None is found = tt
    go (Some entry) is found = rw (found entry refl) is

pub default-none : (v : Volume) (file : ℕ) → IsSound v → IfNone (default_stream v file) (streams_of v file ≡ streams_after v file [])
default-none v file sound = go (find (λ entry. is_stream_named v.table file [] entry.1) v.streams) (streams_of-first v file sound)
  where
    go : (o : Option (ℕ × Stream)) → streams_of v file ≡ option_map_or (λ entry. entry ∷ streams_after v file []) o (streams_after v file [])
        → IfNone (option_map (λ (entry : ℕ × Stream). entry.0) o) (streams_of v file ≡ streams_after v file [])
    go None is = is
    go (Some entry) is = tt
