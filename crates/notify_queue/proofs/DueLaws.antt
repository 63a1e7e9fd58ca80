-- What is due, from the parts of a log, and how many bytes it takes.
use Rattle.std.proofs.Common.{◌≡◌, ℕ, zero, suc, ◌+◌, ◌*◌, ◌/◌, ◌<◌, ◌≤◌, Bool, true, false, cond, List, [], ◌∷◌, ◌++◌, length, take, drop, refl, ap, sym, ◌∙◌, arith, inl, inr, Some, None}
use Rattle.std.specs.Prelude.{◌==◌, ◌||◌, ◌&&◌, find, is_some, map, nat_le, reverse, IfSome, Option}
use Rattle.std.specs.List.{list_any}
use Rattle.std.specs.Option.{option_map_or}
use Rattle.std.proofs.lemmas.Bool.{cases_Bool, lt-leb}
use Rattle.std.proofs.lemmas.List.{drop-map, length-reverse}
use Rattle.fsa_types.specs.Access.{has_any}
use Rattle.fsa_types.specs.declared.reply.PackKind.TheVariants.{Changes}
use Rattle.fsa_types.specs.Packing.{packed, size_of as size_of_entry}
use Rattle.fsa_types.specs.PackedRows.{change_row}
use Rattle.fsa_model.specs.Volume.{Change}
use Rattle.fsa_model.specs.Watching.{is_seen_from, packed_changes}
use Rattle.fsa_model.proofs.RowLaws.{any-map}
use Rattle.pack_info.proofs.NumberLaws.{length-name_of}
use Rattle.pack_info.proofs.PackLaws.{size-one, size-more}
use Rattle.notify_queue.specs.Due.{asks_for, told_from_change, due_of, due_among, is_seen_among, written_for, rounded_to_4, rows_of, size_due, change_size, size_from}
use Rattle.notify_queue.specs.Log.{relative, change_of, changes_of, units_of_paths}
use Rattle.notify_queue.specs.declared.part.LogEntry.{LogEntry}
use Rattle.notify_queue.specs.declared.watch.Watch.{Watch}

-- ---- ancestors

pub seen-among : (path : List ℕ) (dir : ℕ) (whole : Bool) (seen : List (ℕ × ℕ)) → is_seen_from dir whole (map (relative path) seen) ≡ is_seen_among dir whole seen
seen-among path dir whole [] = refl
seen-among path dir whole (parent ∷ above) =
    ap (λ (any : Bool). parent.0 == dir || (whole && any)) (any-map (λ (ancestor : ℕ × List ℕ). ancestor.0 == dir) (relative path) above)

-- the name from the directory is what of the path was written when it was reached
pub name-written : (path : List ℕ) (dir : ℕ) (seen : List (ℕ × ℕ))
    → option_map_or (λ (ancestor : ℕ × List ℕ). ancestor.1) (find (λ (ancestor : ℕ × List ℕ). ancestor.0 == dir) (map (relative path) seen)) [] ≡ reverse (take (written_for dir seen) path)
name-written path dir [] = refl
name-written path dir (ancestor ∷ seen) = elim (cases_Bool (ancestor.0 == dir)) [
  | inl is ↦ rw is refl
  | inr isnt ↦ rw isnt (name-written path dir seen)
]

pub asks-parts : (watch : Watch) (units : List ℕ) (dirs : List (ℕ × ℕ)) (entry : LogEntry)
    → asks_for watch units dirs entry ≡ (is_seen_among watch.dir watch.tree (take entry.dirs (drop entry.first_dir dirs)) && has_any entry.bits watch.filter)
asks-parts watch units dirs entry =
    ap (λ (seen : Bool). seen && has_any entry.bits watch.filter)
    (seen-among (take entry.units (drop entry.first_unit units)) watch.dir watch.tree (take entry.dirs (drop entry.first_dir dirs)))

-- a watch whose filter has no bit of the change doesn't ask for it; else what counts is where it was made
pub asks-never : (watch : Watch) (units : List ℕ) (dirs : List (ℕ × ℕ)) (entry : LogEntry) → has_any entry.bits watch.filter ≡ false → false ≡ asks_for watch units dirs entry
asks-never watch units dirs entry no_bit =
    rw (asks-parts watch units dirs entry, no_bit) (elim (cases_Bool (is_seen_among watch.dir watch.tree (take entry.dirs (drop entry.first_dir dirs)))) [ inl seen ↦ rw seen refl | inr other ↦ rw other refl ])

pub asks-seen : (watch : Watch) (units : List ℕ) (dirs : List (ℕ × ℕ)) (entry : LogEntry) → has_any entry.bits watch.filter ≡ true
    → is_seen_among watch.dir watch.tree (take entry.dirs (drop entry.first_dir dirs)) ≡ asks_for watch units dirs entry
asks-seen watch units dirs entry some_bit =
    rw (asks-parts watch units dirs entry, some_bit) (elim (cases_Bool (is_seen_among watch.dir watch.tree (take entry.dirs (drop entry.first_dir dirs)))) [ inl seen ↦ rw seen refl | inr other ↦ rw other refl ])

-- the path of an entry relative to the directory, from its last unit to its first
abbrev pub path_of : Watch → List ℕ → List (ℕ × ℕ) → LogEntry → List ℕ
path_of watch units dirs entry = take (written_for watch.dir (take entry.dirs (drop entry.first_dir dirs))) (take entry.units (drop entry.first_unit units))

pub path-written : (watch : Watch) (units : List ℕ) (dirs : List (ℕ × ℕ)) (entry : LogEntry) (path : List ℕ) (written : ℕ) → written ≡ written_for watch.dir (take entry.dirs (drop entry.first_dir dirs))
    → path ≡ take written (take entry.units (drop entry.first_unit units)) → path ≡ path_of watch units dirs entry
path-written watch units dirs entry path written reached is = is ∙ ap (λ (n : ℕ). take n (take entry.units (drop entry.first_unit units))) reached

told-name : (watch : Watch) (units : List ℕ) (dirs : List (ℕ × ℕ)) (entry : LogEntry) (path : List ℕ) → path ≡ path_of watch units dirs entry → (told_from_change watch units dirs entry).1 ≡ reverse path
told-name watch units dirs entry path is =
    name-written (take entry.units (drop entry.first_unit units)) watch.dir (take entry.dirs (drop entry.first_dir dirs)) ∙ ap (λ (name : List ℕ). reverse name) (sym is)

pub size-told : (size : ℕ) (watch : Watch) (units : List ℕ) (dirs : List (ℕ × ℕ)) (entry : LogEntry) (path : List ℕ) → asks_for watch units dirs entry ≡ true → path ≡ path_of watch units dirs entry
    → (size + 3) / 4 * 4 + 12 + 2 * length path ≡ cond (asks_for watch units dirs entry) (rounded_to_4 size + change_size (told_from_change watch units dirs entry)) size
size-told size watch units dirs entry path asked is =
    let long : length (told_from_change watch units dirs entry).1 ≡ length path = ap (λ (name : List ℕ). length name) (told-name watch units dirs entry path is) ∙ length-reverse path in
    rw asked (omega (arith, long))

pub row-told : (watch : Watch) (units : List ℕ) (dirs : List (ℕ × ℕ)) (entry : LogEntry) (path : List ℕ) → asks_for watch units dirs entry ≡ true → path ≡ path_of watch units dirs entry
    → rows_of (cond (asks_for watch units dirs entry) (told_from_change watch units dirs entry ∷ []) []) ≡ change_row entry.action (reverse path) ∷ []
row-told watch units dirs entry path asked is = rw asked (ap (λ (name : List ℕ). change_row entry.action name ∷ []) (told-name watch units dirs entry path is))

-- ---- ancestors that are looked for

-- what a look for the directory gives tells both whether it is one of these, and the place
pub among-written : (dir : ℕ) (seen : List (ℕ × ℕ)) (found : Option (ℕ × ℕ)) → found ≡ find (λ (ancestor : ℕ × ℕ). ancestor.0 == dir) seen
    → (is_some found ≡ list_any (λ (ancestor : ℕ × ℕ). ancestor.0 == dir) seen) × IfSome found (λ ancestor. ancestor.1 ≡ written_for dir seen)
among-written dir [] found is = rw is (refl, tt)
among-written dir (ancestor ∷ seen) found is = elim (cases_Bool (ancestor.0 == dir)) [
  | inl here ↦ (let first : found ≡ Some ancestor = rw here at is in rw (first, here) (refl, refl))
  | inr other ↦ (let rest = among-written dir seen found (rw other at is) in rw other rest)
]

-- ---- whether something is due

pub some-due : (watch : Watch) (units : List ℕ) (dirs : List (ℕ × ℕ)) (entries : List LogEntry)
    → list_any (asks_for watch units dirs) entries ≡ is_some (size_due (due_among watch units dirs entries))
some-due watch units dirs [] = refl
some-due watch units dirs (entry ∷ entries) = elim (cases_Bool (asks_for watch units dirs entry)) [
  | inl is ↦ rw is refl
  | inr isnt ↦ rw isnt (some-due watch units dirs entries)
]

pub asks-more : (watch : Watch) (units : List ℕ) (dirs : List (ℕ × ℕ)) (entry : LogEntry) (more : List LogEntry) → asks_for watch units dirs entry ≡ false
    → list_any (asks_for watch units dirs) more ≡ list_any (asks_for watch units dirs) (entry ∷ more)
asks-more watch units dirs entry more isnt = rw isnt refl

-- ---- sizes

-- what comes behind them makes them no less
pub size_from-least : (size : ℕ) (due : List (ℕ × List ℕ)) → size ≤ size_from size due
size_from-least size [] = omega arith
size_from-least size (change ∷ changes) =
    let rest = size_from-least (rounded_to_4 size + change_size change) changes in
    omega (arith, rest)

pub fits-not : (room size : ℕ) (due : List (ℕ × List ℕ)) → room < size → nat_le (size_from size due) room ≡ false
fits-not room size due above = let least = size_from-least size due in lt-leb (size_from size due) room (omega arith)

entry-size : (change : ℕ × List ℕ) → size_of_entry Changes (packed Changes (change_row change.0 change.1)) ≡ change_size change
entry-size change = omega (arith, length-name_of Changes change.1)

size_from-more : (size : ℕ) (change : ℕ × List ℕ) (changes : List (ℕ × List ℕ)) → size_from size (change ∷ changes) ≡ rounded_to_4 size + length (packed_changes (change ∷ changes))
size_from-more size change [] = omega (arith, entry-size change, size-one Changes (packed Changes (change_row change.0 change.1)))
size_from-more size change (next ∷ changes) =
    let behind = size_from-more (rounded_to_4 size + change_size change) next changes in
    let both = size-more Changes (packed Changes (change_row change.0 change.1)) (packed Changes (change_row next.0 next.1)) (map (packed Changes) (rows_of changes)) in
    omega (arith, behind, both, entry-size change)

pub size_from-is : (due : List (ℕ × List ℕ)) → size_from 0 due ≡ length (packed_changes due)
size_from-is [] = refl
size_from-is (change ∷ changes) = omega (arith, size_from-more 0 change changes)

positive : (size : ℕ) (change : ℕ × List ℕ) (changes : List (ℕ × List ℕ)) → 0 < size_from size (change ∷ changes)
positive size change [] = omega arith
positive size change (next ∷ changes) = positive (rounded_to_4 size + change_size change) next changes

pub size_due-is : (due : List (ℕ × List ℕ)) → size_due due ≡ cond (length (packed_changes due) == 0) None (Some (length (packed_changes due)))
size_due-is [] = refl
size_due-is (change ∷ changes) =
    let more = positive 0 change changes in
    let is = size_from-is (change ∷ changes) in
    let some : (length (packed_changes (change ∷ changes)) == 0) ≡ false = grind arith in
    rw some refl

-- ---- entry by entry

pub size-step : (watch : Watch) (units : List ℕ) (dirs : List (ℕ × ℕ)) (entry : LogEntry) (more : List LogEntry) (size : ℕ)
    → size_from (cond (asks_for watch units dirs entry) (rounded_to_4 size + change_size (told_from_change watch units dirs entry)) size) (due_among watch units dirs more) ≡ size_from size (due_among watch units dirs (entry ∷ more))
size-step watch units dirs entry more size = elim (cases_Bool (asks_for watch units dirs entry)) [
  | inl is ↦ rw is refl
  | inr isnt ↦ rw isnt refl
]

pub rows-step : (watch : Watch) (units : List ℕ) (dirs : List (ℕ × ℕ)) (entry : LogEntry) (more : List LogEntry)
    → rows_of (cond (asks_for watch units dirs entry) (told_from_change watch units dirs entry ∷ []) []) ++ rows_of (due_among watch units dirs more) ≡ rows_of (due_among watch units dirs (entry ∷ more))
rows-step watch units dirs entry more = elim (cases_Bool (asks_for watch units dirs entry)) [
  | inl is ↦ rw is refl
  | inr isnt ↦ rw isnt refl
]

-- ---- the whole

filter-changes : (watch : Watch) (units : List ℕ) (dirs : List (ℕ × ℕ)) (entries : List LogEntry) → due_among watch units dirs entries ≡ due_of (changes_of units dirs entries) (record watch { from = 0 })
filter-changes watch units dirs [] = refl
filter-changes watch units dirs (entry ∷ entries) = elim (cases_Bool (asks_for watch units dirs entry)) [
  | inl is ↦ rw is (ap (λ (due : List (ℕ × List ℕ)). told_from_change watch units dirs entry ∷ due) (filter-changes watch units dirs entries))
  | inr isnt ↦ rw isnt (filter-changes watch units dirs entries)
]

due_among-is : (watch : Watch) (units : List ℕ) (dirs : List (ℕ × ℕ)) (entries : List LogEntry) → due_among watch units dirs (drop watch.from entries) ≡ due_of (changes_of units dirs entries) watch
due_among-is watch units dirs entries = filter-changes watch units dirs (drop watch.from entries) ∙ ap (λ (changes : List Change). due_of changes (record watch { from = 0 })) (sym (drop-map (change_of units dirs) watch.from entries))

pub due-is : (changes : List Change) (watch : Watch) (units : List ℕ) (dirs : List (ℕ × ℕ)) (entries due : List LogEntry) → changes ≡ changes_of units dirs entries → due ≡ drop watch.from entries
    → due_among watch units dirs due ≡ due_of changes watch
due-is changes watch units dirs entries due noted from = rw (noted, from) (due_among-is watch units dirs entries)

pub units_in-drop : (n : ℕ) (entries : List LogEntry) → units_of_paths (drop n entries) ≤ units_of_paths entries
units_in-drop zero entries = omega arith
units_in-drop (suc n) [] = omega arith
units_in-drop (suc n) (entry ∷ entries) = omega (arith, units_in-drop n entries)
