-- What a path without a fault names is as a name may be: its last component, and its stream; and a walk reaches only directories
-- without a reparse point.
use Rattle.std.proofs.Common.{◌≡◌, ℕ, suc, ◌+◌, Bool, true, false, List, [], ◌∷◌, length, get_or, refl, sym, ap, subst, ◌∙◌, arith, inl, inr, Option, Some, None}
use Rattle.std.specs.Prelude.{◌==◌, ◌-◌, ◌≤◌, ◌||◌, drop, is_some, map, nat_lt, not, position, slice_get, slice_index, unwrap_or}
use Rattle.std.specs.List.{join_with_byte, list_any, onto_first, before_first, position_or_len, slice_split}
use Rattle.std.specs.Option.{option_map, option_or}
use Rattle.std.proofs.lemmas.Bool.{both_ways, cases_Bool, eqb-true, ltb-false, ne_eqb, or_parts}
use Rattle.std.proofs.lemmas.Option.{unwrap_or-slice_get}
use Rattle.std.proofs.lemmas.List.Elements.{All-take}
use Rattle.std.proofs.lemmas.List.Folds.{list_any_none}
use Rattle.std.proofs.lemmas.List.Sums.{fails_before_first}
use Rattle.std.proofs.lemmas.List.Splits.{join_with_byte-slice_split, length-slice_split, slice_split-cons_no, slice_split-cons_yes}
use Rattle.fsa_types.specs.Paths.{PathFault, BadStream, BadUnit, Empty, TooLong, component_fault, components, is_bad_stream, is_bad_unit, is_colon, is_data, is_dots, is_separator, most_name_units, most_path_units, path_fault, path_pieces, pieces_fault, stream_fault}
use Rattle.fsa_types.specs.Rows.{row_of}
use Rattle.fsa_model.specs.Lookups.{child_of, is_directory}
use Rattle.fsa_model.specs.Open.{stream_name}
use Rattle.fsa_model.specs.Sound.{IsSoundTree}
use Rattle.fsa_model.specs.Volume.{Volume}
use Rattle.fsa_model.specs.Walk.{Walked, Reached, Barred, Diverted, by_link, into, last_name, point_of, then_walk, through, walk, walk_from}
use Rattle.fsa_model.proofs.RowLaws.{any-weaker, none-all, option_cases, option_map-none, row_of-here}
use Rattle.history_laws.specs.WellFormed.{IsLinkName, IsStreamName}
use Rattle.history_laws.proofs.FormedKinds.{Formed, NoPoint}

-- ---- a component

-- where it's counted from doesn't matter
fault-anywhere : (place : ℕ) (name : List ℕ) → component_fault place name ≡ None → (component_fault 0 name ≡ None) × (position is_bad_unit name ≡ None)
fault-anywhere place name none = elim (cases_Bool (length name == 0)) [
  | inl empty ↦ (let impossible : Some Empty ≡ None = rw empty at none in cc)
  | inr some ↦ elim (cases_Bool (nat_lt most_name_units (length name))) [
    | inl long ↦ (let impossible : Some TooLong ≡ None = rw (some, long) at none in cc)
    | inr short ↦ elim (cases_Bool (is_dots name)) [
      | inl dots ↦ (let impossible : Some (BadUnit place) ≡ None = rw (some, short, dots) at none in cc)
      | inr plain ↦ (let units : option_map (λ i. BadUnit (place + i)) (position is_bad_unit name) ≡ None = rw (some, short, plain) at none in
          let good : position is_bad_unit name ≡ None = option_map-none (λ i. BadUnit (place + i)) (position is_bad_unit name) units in
          (rw (some, short, plain, good) refl, good))
    ]
  ]
]

-- both parts are without a fault
or-none : (one other : Option PathFault) → option_or one other ≡ None → (one ≡ None) × (other ≡ None)
or-none None other none = (refl, none)
or-none (Some fault) other none = cc

-- where none is found, none passes
none-passes : (p : ℕ → Bool) (xs : List ℕ) → position p xs ≡ None → list_any p xs ≡ false
none-passes p xs none = elim (cases_Bool (nat_lt (position_or_len p xs) (length xs))) [
  | inl within ↦ (let impossible : Some (position_or_len p xs) ≡ None = rw within at none in cc)
  | inr past ↦ list_any_none p xs (λ k d within. fails_before_first p xs k d (let least : length xs ≤ position_or_len p xs = ltb-false (position_or_len p xs) (length xs) past in omega (arith, within, least)))
]

colon-bad : (unit : ℕ) → is_colon unit ≡ true → is_bad_unit unit ≡ true
colon-bad unit is = rw (eqb-true unit 58 is) refl

-- so it has no colon
colonless : (place : ℕ) (name : List ℕ) → component_fault place name ≡ None → list_any is_colon name ≡ false
colonless place name none = elim (cases_Bool (list_any is_colon name)) [
  | inr not_there ↦ not_there
  | inl there ↦ absurd (both_ways (list_any is_bad_unit name) (none-passes is_bad_unit name (fault-anywhere place name none).1) (any-weaker is_colon is_bad_unit name colon-bad there))
]

-- ---- what paths are cut at

-- no piece has a unit that passes
abbrev NoneHas : (ℕ → Bool) → List (List ℕ) → Type 0
NoneHas p [] = Unit {0}
NoneHas p (piece ∷ more) = (list_any p piece ≡ false) × NoneHas p more

onto-without : (p : ℕ → Bool) (x : ℕ) (pieces : List (List ℕ)) → p x ≡ false → NoneHas p pieces → NoneHas p (onto_first x pieces)
onto-without p x [] other without = (rw other refl, tt)
onto-without p x (piece ∷ more) other without = (rw other without.0, without.1)

-- the pieces of a cut have no unit that is cut at
cut-without : (p : ℕ → Bool) (xs : List ℕ) → NoneHas p (slice_split p xs)
cut-without p [] = (refl, tt)
cut-without p (x ∷ xs) = elim (cases_Bool (p x)) [
  | inl passes ↦ rw (slice_split-cons_yes p x xs passes) (refl, cut-without p xs)
  | inr other ↦ rw (slice_split-cons_no p x xs other) (onto-without p x (slice_split p xs) other (cut-without p xs))
]

-- and none that the whole hasn't
still-without : (p q : ℕ → Bool) (xs : List ℕ) → list_any q xs ≡ false → NoneHas q (slice_split p xs)
still-without p q [] without = (refl, tt)
still-without p q (x ∷ xs) without =
    let parts = or_parts (q x) (list_any q xs) without in
    elim (cases_Bool (p x)) [
      | inl passes ↦ rw (slice_split-cons_yes p x xs passes) (refl, still-without p q xs parts.1)
      | inr other ↦ rw (slice_split-cons_no p x xs other) (onto-without q x (slice_split p xs) parts.0 (still-without p q xs parts.1))
    ]

-- nor has what stands before the first cut, nor what stands behind it
first-without : (p q : ℕ → Bool) (xs : List ℕ) → list_any q xs ≡ false → list_any q (before_first p xs) ≡ false
first-without p q xs without = list_any_none q (before_first p xs) (All-take (λ x. q x ≡ false) (position_or_len p xs) xs (none-all q xs without))

second-without : (p : ℕ → Bool) (pieces : List (List ℕ)) → NoneHas p pieces → list_any p (unwrap_or (slice_get pieces 1) []) ≡ false
second-without p [] without = refl
second-without p (piece ∷ []) without = refl
second-without p (piece ∷ next ∷ more) without = without.1.0

-- ---- the last name

abbrev names_of : List (List ℕ) → List (List ℕ)
names_of pieces = map (before_first is_colon) pieces

last-next : (one two : List ℕ) (more : List (List ℕ)) → last_name (one ∷ two ∷ more) ≡ last_name (two ∷ more)
last-next one two more =
    let later : length (one ∷ two ∷ more) - 1 ≡ suc (length (two ∷ more) - 1) = omega arith in
    unwrap_or-slice_get (one ∷ two ∷ more) (length (one ∷ two ∷ more) - 1) [] ∙ ap (λ (n : ℕ). get_or (one ∷ two ∷ more) n []) later
    ∙ sym (unwrap_or-slice_get (two ∷ more) (length (two ∷ more) - 1) [])

some-length : {X : Type 0} (x : X) (xs : List X) → (length (x ∷ xs) == 0) ≡ false
some-length x xs = ne_eqb (length (x ∷ xs)) 0 (λ e. absurd (omega arith))

-- the faults of the first piece, and of those after it
both-none : (place : ℕ) (piece next : List ℕ) (more : List (List ℕ)) → pieces_fault place (piece ∷ next ∷ more) ≡ None
    → (component_fault place piece ≡ None) × (pieces_fault (place + length piece + 1) (next ∷ more) ≡ None)
both-none place piece next more none =
    or-none (component_fault place piece) (pieces_fault (place + length piece + 1) (next ∷ more)) (rw (some-length next more) at none)

pieces-last : (place : ℕ) (pieces : List (List ℕ)) → (length (names_of pieces) == 0) ≡ false → pieces_fault place pieces ≡ None → component_fault 0 (last_name (names_of pieces)) ≡ None
pieces-last place [] some none = cc
pieces-last place (piece ∷ []) some none =
    (fault-anywhere place (before_first is_colon piece) (or-none (component_fault place (before_first is_colon piece)) (stream_fault (slice_split is_colon piece)) none).0).0
pieces-last place (piece ∷ next ∷ more) some none =
    rw (last-next (before_first is_colon piece) (before_first is_colon next) (names_of more))
    (pieces-last (place + length piece + 1) (next ∷ more) (some-length (before_first is_colon next) (names_of more)) (both-none place piece next more none).1)

-- the pieces of a path without a fault that isn't the root have none
pieces-good : (path : List ℕ) → (length path == 1) ≡ false → path_fault path ≡ None → pieces_fault 1 (path_pieces path) ≡ None
pieces-good path below none = elim (cases_Bool (nat_lt most_path_units (length path))) [
  | inl long ↦ (let impossible : Some TooLong ≡ None = rw long at none in cc)
  | inr short ↦ elim (cases_Bool (slice_index path 0 == 92)) [
    | inr other ↦ (let impossible : Some Empty ≡ None = rw (short, other) at none in cc)
    | inl begins ↦ (rw (short, begins, below) at none)
  ]
]

names-without : (p : ℕ → Bool) (pieces : List (List ℕ)) → NoneHas p pieces → NoneHas p (names_of pieces)
names-without p [] without = tt
names-without p (piece ∷ more) without = (first-without is_colon p piece without.0, names-without p more without.1)

last-without : (p : ℕ → Bool) (names : List (List ℕ)) → NoneHas p names → list_any p (last_name names) ≡ false
last-without p [] without = refl
last-without p (name ∷ []) without = without.0
last-without p (name ∷ next ∷ more) without = rw (last-next name next more) (last-without p (next ∷ more) without.1)

-- the last name of a path without a fault is one that a link may have
pub name-good : (path : List ℕ) → path_fault path ≡ None → (length (components path) == 0) ≡ false → IsLinkName (last_name (components path))
name-good path none some = elim (cases_Bool (length path == 1)) [
  | inl root ↦ (let impossible : true ≡ false = rw root at some in cc)
  | inr below ↦ rw below (
    pieces-last 1 (path_pieces path) (rw below at some) (pieces-good path below none),
    last-without is_separator (names_of (path_pieces path)) (names-without is_separator (path_pieces path) (cut-without is_separator (drop 1 path))),
  )
]

-- ---- the stream

abbrev last_of : List (List ℕ) → List ℕ
last_of [] = []
last_of (piece ∷ []) = piece
last_of (piece ∷ next ∷ more) = last_of (next ∷ more)

last_of-without : (p : ℕ → Bool) (pieces : List (List ℕ)) → NoneHas p pieces → list_any p (last_of pieces) ≡ false
last_of-without p [] without = refl
last_of-without p (piece ∷ []) without = without.0
last_of-without p (piece ∷ next ∷ more) without = last_of-without p (next ∷ more) without.1

-- no piece but the last has a colon
abbrev NoColons : List (List ℕ) → Type 0
NoColons [] = Unit {0}
NoColons (piece ∷ []) = Unit {0}
NoColons (piece ∷ next ∷ more) = (list_any is_colon piece ≡ false) × NoColons (next ∷ more)

pieces-colons : (place : ℕ) (pieces : List (List ℕ)) → pieces_fault place pieces ≡ None → NoColons pieces × (stream_fault (slice_split is_colon (last_of pieces)) ≡ None)
pieces-colons place [] none = (tt, refl)
pieces-colons place (piece ∷ []) none = (tt, (or-none (component_fault place (before_first is_colon piece)) (stream_fault (slice_split is_colon piece)) none).1)
pieces-colons place (piece ∷ next ∷ more) none =
    let parts = both-none place piece next more none in
    let rest = pieces-colons (place + length piece + 1) (next ∷ more) parts.1 in
    ((colonless place piece parts.0, rest.0), rest.1)

part-onto : (x : ℕ) (parts : List (List ℕ)) → slice_get (onto_first x parts) 1 ≡ slice_get parts 1
part-onto x [] = refl
part-onto x (part ∷ parts) = refl

-- there is a piece
none-left : (ys : List ℕ) → slice_split is_separator ys ≡ [] → ⊥
none-left ys none = (let many = length-slice_split is_separator ys in let nothing : length (slice_split is_separator ys) ≡ 0 = ap length none in omega (arith, many, nothing))

-- what stands behind the first colon stands behind that of the last piece
abbrev Again : List ℕ → Type 0
Again xs = (rest : List (List ℕ)) → slice_split is_separator xs ≡ rest → NoColons rest → slice_get (slice_split is_colon xs) 1 ≡ slice_get (slice_split is_colon (last_of rest)) 1

part-last : (xs : List ℕ) (pieces : List (List ℕ)) → slice_split is_separator xs ≡ pieces → NoColons pieces → slice_get (slice_split is_colon xs) 1 ≡ slice_get (slice_split is_colon (last_of pieces)) 1
part-last [] pieces is colons = subst (λ (p : List (List ℕ)). slice_get (slice_split is_colon []) 1 ≡ slice_get (slice_split is_colon (last_of p)) 1) is refl
part-last (x ∷ xs) pieces is colons = elim (cases_Bool (is_separator x)) [
  | inl separator ↦ at_separator (λ rest its colons_now. part-last xs rest its colons_now) (slice_split is_separator xs) refl separator (sym is ∙ slice_split-cons_yes is_separator x xs separator)
  | inr other ↦ inside (λ rest its colons_now. part-last xs rest its colons_now) (slice_split is_separator xs) refl (sym is ∙ slice_split-cons_no is_separator x xs other)
]
  where
    past : is_colon x ≡ false → slice_get (slice_split is_colon (x ∷ xs)) 1 ≡ slice_get (slice_split is_colon xs) 1
    past other = ap (λ parts. slice_get parts 1) (slice_split-cons_no is_colon x xs other) ∙ part-onto x (slice_split is_colon xs)

    no_colon : is_separator x ≡ true → is_colon x ≡ false
    no_colon separator = rw (eqb-true x 92 separator) refl

    at_separator : Again xs → (rest : List (List ℕ)) → slice_split is_separator xs ≡ rest → is_separator x ≡ true → pieces ≡ [] ∷ rest
        → slice_get (slice_split is_colon (x ∷ xs)) 1 ≡ slice_get (slice_split is_colon (last_of pieces)) 1
    at_separator again [] its separator are = absurd (none-left xs its)
    at_separator again (next ∷ more) its separator are =
        (let colons_now : NoColons ([] ∷ next ∷ more) = subst NoColons are colons in
        past (no_colon separator) ∙ again (next ∷ more) its colons_now.1 ∙ ap (λ p. slice_get (slice_split is_colon (last_of p)) 1) (sym are))

    inside : Again xs → (rest : List (List ℕ)) → slice_split is_separator xs ≡ rest → pieces ≡ onto_first x (slice_split is_separator xs)
        → slice_get (slice_split is_colon (x ∷ xs)) 1 ≡ slice_get (slice_split is_colon (last_of pieces)) 1
    inside again [] its are = absurd (none-left xs its)
    inside again (piece ∷ []) its are =
        (let whole : piece ≡ xs = sym (ap (join_with_byte 92) its) ∙ join_with_byte-slice_split 92 xs in
        ap (λ (ys : List ℕ). slice_get (slice_split is_colon (x ∷ ys)) 1) (sym whole) ∙ ap (λ p. slice_get (slice_split is_colon (last_of p)) 1) (sym (are ∙ ap (onto_first x) its)))
    inside again (piece ∷ next ∷ more) its are =
        (let now : pieces ≡ (x ∷ piece) ∷ next ∷ more = are ∙ ap (onto_first x) its in
        let colons_now : NoColons ((x ∷ piece) ∷ next ∷ more) = subst NoColons now colons in
        let apart = or_parts (is_colon x) (list_any is_colon piece) colons_now.0 in
        past apart.0 ∙ again (piece ∷ next ∷ more) its (apart.1, colons_now.1) ∙ ap (λ p. slice_get (slice_split is_colon (last_of p)) 1) (sym now))

-- the stream of parts without a fault
parts-good : (parts : List (List ℕ)) → stream_fault parts ≡ None → is_bad_stream (unwrap_or (slice_get parts 1) []) ≡ false
parts-good [] none = refl
parts-good (name ∷ []) none = refl
parts-good (name ∷ stream ∷ []) none = elim (cases_Bool (length stream == 0 || is_bad_stream stream)) [
  | inl bad ↦ (let impossible : Some BadStream ≡ None = rw bad at none in cc)
  | inr good ↦ (or_parts (length stream == 0) (is_bad_stream stream) good).1
]
parts-good (name ∷ stream ∷ kind ∷ []) none = elim (cases_Bool (is_bad_stream stream || not (is_data kind))) [
  | inl bad ↦ (let impossible : Some BadStream ≡ None = rw bad at none in cc)
  | inr good ↦ (or_parts (is_bad_stream stream) (not (is_data kind)) good).0
]
parts-good (name ∷ stream ∷ kind ∷ part ∷ parts) none = cc

-- the stream of a path without a fault has a name that a stream may have, or none
pub stream-good : (path : List ℕ) → path_fault path ≡ None → IsStreamName (stream_name path)
stream-good [] none = (refl, refl, refl)
stream-good (unit ∷ []) none = elim (cases_Bool (is_colon unit)) [
  | inl colon ↦ (let same : unit ≡ 58 = eqb-true unit 58 colon in let impossible : Some Empty ≡ None = rw same at none in cc)
  | inr other ↦ rw (slice_split-cons_no is_colon unit [] other) (refl, refl, refl)
]
stream-good (unit ∷ next ∷ units) none =
    let pieces : List (List ℕ) = path_pieces (unit ∷ next ∷ units) in
    let good = pieces-colons 1 pieces (pieces-good (unit ∷ next ∷ units) (ne_eqb (length (unit ∷ next ∷ units)) 1 (λ e. absurd (omega arith))) none) in
    rw (ap (λ (parts : List (List ℕ)). slice_get parts 1) (slice_split-cons_no is_colon unit (next ∷ units) first) ∙ part-onto unit (slice_split is_colon (next ∷ units)) ∙ part-last (next ∷ units) pieces refl good.0) (
      parts-good (slice_split is_colon (last_of pieces)) good.1,
      second-without is_colon (slice_split is_colon (last_of pieces)) (cut-without is_colon (last_of pieces)),
      second-without is_separator (slice_split is_colon (last_of pieces))
          (still-without is_colon is_separator (last_of pieces) (last_of-without is_separator pieces (cut-without is_separator (next ∷ units)))),
    )
  where
    first : is_colon unit ≡ false
    first = elim (cases_Bool (is_colon unit)) [
      | inr other ↦ other
      | inl colon ↦ (let same : unit ≡ 58 = eqb-true unit 58 colon in
          elim (cases_Bool (nat_lt most_path_units (length (unit ∷ next ∷ units)))) [
            | inl long ↦ (let impossible : Some TooLong ≡ None = rw long at none in cc)
            | inr short ↦ (let impossible : Some Empty ≡ None = rw (short, same) at none in cc)
          ])
    ]

-- ---- a walk

-- a file without a reparse point
pointless : (v : Volume) (file : ℕ) → IsSoundTree v → is_some (point_of v file) ≡ false → NoPoint v file
pointless v file sound none k d within is = elim (cases_Bool ((get_or v.files k d).0 == file)) [
  | inr other ↦ other
  | inl here ↦ (let row : row_of v.files file ≡ Some (get_or v.files k d).1
      = subst (λ (n : ℕ). row_of v.files n ≡ Some (get_or v.files k d).1) (eqb-true (get_or v.files k d).0 file here) (row_of-here v.files v.last_file k d sound.files_numbered within) in
      let not_some : is_some (get_or v.files k d).1.point ≡ false = rw row at none in
      absurd (both_ways (is_some (get_or v.files k d).1.point) not_some is))
]

through-pointless : (v : Volume) (file next dir : ℕ) → IsSoundTree v → through v file next ≡ Reached dir → NoPoint v dir
through-pointless v file next dir sound reached = elim (cases_Bool (is_some (point_of v file))) [
  | inl point ↦ (let impossible : Diverted file next ≡ Reached dir = rw point at reached in cc)
  | inr plain ↦ elim (cases_Bool (is_directory v.files file)) [
    | inl is ↦ (let there : Reached file ≡ Reached dir = rw (plain, is) at reached in let same : file ≡ dir = cc in subst (NoPoint v) same (pointless v file sound plain))
    | inr isnt ↦ (let impossible = rw (plain, isnt) at reached in cc)
  ]
]

into-pointless : (v : Volume) (dir : ℕ) (name : List ℕ) (next found : ℕ) → IsSoundTree v → into v dir name next ≡ Reached found → NoPoint v found
into-pointless v dir name next found sound reached = elim (option_cases (child_of v dir name)) [
  | inl none ↦ (let impossible = rw none at reached in cc)
  | inr link ↦ (let by : by_link v link.0 next ≡ Reached found = rw link.1 at reached in elim (option_cases (row_of v.links link.0)) [
    | inl gone ↦ (let impossible = rw gone at by in cc)
    | inr row ↦ elim (cases_Bool row.0.deleted) [
      | inl marked ↦ (let impossible = rw (row.1, marked) at by in cc)
      | inr living ↦ (let on : through v row.0.file next ≡ Reached found = rw (row.1, living) at by in through-pointless v row.0.file next found sound on)
    ]
  ])
]

reached-between : (go_on : ℕ → Walked) (walked : Walked) (dir : ℕ) → then_walk go_on walked ≡ Reached dir → (between : ℕ) × ((walked ≡ Reached between) × (go_on between ≡ Reached dir))
reached-between go_on (Reached between) dir reached = (between, (refl, reached))
reached-between go_on (Barred status) dir reached = cc
reached-between go_on (Diverted file next) dir reached = cc

from-pointless : (v : Volume) (names : List (List ℕ)) (start place dir : ℕ) → IsSoundTree v → NoPoint v start → walk_from v start place names ≡ Reached dir → NoPoint v dir
from-pointless v [] start place dir sound free reached = let same : start ≡ dir = cc in subst (NoPoint v) same free
from-pointless v (name ∷ names) start place dir sound free reached = elim (cases_Bool (length names == 0)) [
  | inl last ↦ (let there : Reached start ≡ Reached dir = rw last at reached in let same : start ≡ dir = cc in subst (NoPoint v) same free)
  | inr inner ↦ (let on = reached-between (λ next. walk_from v next (place + 1) names) (into v start name (place + 1)) dir (rw inner at reached) in
      from-pointless v names on.0 (place + 1) dir sound (into-pointless v start name (place + 1) on.0 sound on.1.0) on.1.1)
]

-- a walk reaches a directory without a reparse point
pub walk-pointless : (v : Volume) (names : List (List ℕ)) (dir : ℕ) → IsSoundTree v → Formed v → walk v names ≡ Reached dir → NoPoint v dir
walk-pointless v names dir sound formed reached = from-pointless v names 1 0 dir sound (λ k d within is. (formed.well.points k d within is).0) reached
