-- What is gone from the front of a log: what is left is as it was.
use Rattle.std.proofs.Common.{◌≡◌, ℕ, zero, suc, ◌+◌, ◌-◌, ◌≤◌, ◌<◌, List, [], ◌∷◌, ◌++◌, length, take, drop, get_or, refl, ap, sym, ◌∙◌, arith, length-drop}
use Rattle.std.specs.Prelude.{map, filter, slice_get, All, OnErr, Some, None}
use Rattle.std.proofs.Common.{Result, Ok, Err}
use Rattle.std.proofs.lemmas.Bool.{ne_eqb}
use Rattle.std.proofs.lemmas.List.{drop-map, length-append}
use Rattle.std.proofs.lemmas.List.Elements.{All-cons, All-nil}
use Rattle.fsa_model.specs.Volume.{Change}
use Rattle.fsa_model.specs.Watching.{is_asked_by, packed_changes, told_from}
use Rattle.notify_queue.specs.Due.{asks_for_last, due_of, row_of_watch, size_due}
use Rattle.notify_queue.specs.Log.{AreLaid, Holds, IsLog, IsTrimmed, Log, LogPartView, change_of, changes_before, changes_of, moved, start_of, units_of_paths}
use Rattle.notify_queue.specs.declared.part.LogEntry.{LogEntry}
use Rattle.notify_queue.specs.declared.watch.Watch.{Watch}
use Rattle.notify_queue.proofs.DueLaws.{size_due-is}
use Rattle.notify_queue.proofs.LogLemmas.{map-same}

-- ---- lists

drop-beyond : {X : Type 0} (before xs : List X) (place : ℕ) → length before ≤ place → drop place (before ++ xs) ≡ drop (place - length before) xs
drop-beyond {X} [] xs place below = let same : place ≡ place - 0 = omega arith in ap (λ (n : ℕ). drop {A = X} n xs) same
drop-beyond (b ∷ before) xs zero below = absurd (omega arith)
drop-beyond {X} (b ∷ before) xs (suc place) below =
    let same : place - length before ≡ suc place - length (b ∷ before) = omega arith in
    drop-beyond before xs place (omega arith) ∙ ap (λ (n : ℕ). drop {A = X} n xs) same

drop-nothing : {X : Type 0} (n : ℕ) → drop {A = X} n [] ≡ []
drop-nothing zero = refl
drop-nothing (suc n) = refl

drop-twice : {X : Type 0} (first more : ℕ) (xs : List X) → drop more (drop first xs) ≡ drop (first + more) xs
drop-twice {X} zero more xs = let same : more ≡ 0 + more = omega arith in ap (λ (n : ℕ). drop {A = X} n xs) same
drop-twice {X} (suc first) more [] = drop-nothing more ∙ sym (drop-nothing (suc first + more))
drop-twice {X} (suc first) more (x ∷ xs) =
    let same : suc (first + more) ≡ suc first + more = omega arith in drop-twice first more xs ∙ ap (λ (n : ℕ). drop {A = X} n (x ∷ xs)) same

get-beyond : {X : Type 0} (before xs : List X) (place : ℕ) → slice_get (before ++ xs) (length before + place) ≡ slice_get xs place
get-beyond {X} [] xs place = let same : 0 + place ≡ place = omega arith in ap (λ (n : ℕ). slice_get xs n) same
get-beyond {X} (b ∷ before) xs place =
    let same : suc (length before) + place ≡ suc (length before + place) = omega arith in
    ap (λ (n : ℕ). slice_get (b ∷ (before ++ xs)) n) same ∙ get-beyond before xs place

take-drop : {X : Type 0} (count : ℕ) (xs : List X) → take count xs ++ drop count xs ≡ xs
take-drop zero xs = refl
take-drop (suc count) [] = refl
take-drop (suc count) (x ∷ xs) = ap (λ (rest : List _). x ∷ rest) (take-drop count xs)

take-length : {X : Type 0} (count : ℕ) (xs : List X) → count ≤ length xs → length (take count xs) ≡ count
take-length zero xs within = refl
take-length (suc count) [] within = absurd (omega arith)
take-length (suc count) (x ∷ xs) within = ap suc (take-length count xs (omega arith))

-- ---- what is due, and the last change, by what is held

pub due-held : (log : Log) (gone : ℕ) (part : LogPartView) (watch : Watch) → Holds log gone part → log.base ≤ watch.from → due_of part.changes (record watch { from = watch.from - gone }) ≡ due_of log.changes watch
due-held log gone part watch holds kept =
    let from = holds.from in
    let counted = holds.counted in
    let same : drop watch.from log.changes ≡ drop (watch.from - gone) part.changes
    = ap (drop watch.from) holds.changes ∙ drop-beyond holds.before part.changes watch.from (omega arith) ∙ ap (λ (n : ℕ). drop (watch.from - n) part.changes) counted in
    ap (λ (changes : List Change). map (told_from watch.dir) (filter (is_asked_by (row_of_watch watch) watch.dir) changes)) (sym same)

pub last-held : (log : Log) (gone : ℕ) (part : LogPartView) (watch : Watch) → Holds log gone part → log.base < length log.changes → asks_for_last watch part.changes ≡ asks_for_last watch log.changes
last-held log gone part watch holds kept =
    let from = holds.from in
    let counted = holds.counted in
    let long : length log.changes ≡ length holds.before + length part.changes = ap (λ (changes : List Change). length changes) holds.changes ∙ length-append holds.before part.changes in
    let place : length log.changes - 1 ≡ length holds.before + (length part.changes - 1) = omega arith in
    let same : slice_get log.changes (length log.changes - 1) ≡ slice_get part.changes (length part.changes - 1)
    = rw (place, holds.changes) (get-beyond holds.before part.changes (length part.changes - 1)) in
    rw same refl

-- ---- what was noted before

pub before-more : (past : List (LogPartView × ℕ)) (part : LogPartView) (count : ℕ) → changes_before (past ++ (part, count) ∷ []) ≡ changes_before past ++ take count part.changes
before-more [] part count = append-none (take count part.changes)
  where
    append-none : {X : Type 0} (xs : List X) → xs ++ [] ≡ xs
    append-none [] = refl
    append-none (x ∷ xs) = ap (λ (rest : List _). x ∷ rest) (append-none xs)
before-more (first ∷ past) part count =
    ap (λ (rest : List Change). take first.1 first.0.changes ++ rest) (before-more past part count)
    ∙ sym (append-apart (take first.1 first.0.changes) (changes_before past) (take count part.changes))
  where
    append-apart : {X : Type 0} (xs ys zs : List X) → (xs ++ ys) ++ zs ≡ xs ++ (ys ++ zs)
    append-apart [] ys zs = refl
    append-apart (x ∷ xs) ys zs = ap (λ (rest : List _). x ∷ rest) (append-apart xs ys zs)

pub all-same : (past : List (LogPartView × ℕ)) (part : LogPartView) (count : ℕ) → changes_before (past ++ (part, count) ∷ []) ++ drop count part.changes ≡ changes_before past ++ part.changes
all-same past part count =
    ap (λ (before : List Change). before ++ drop count part.changes) (before-more past part count)
    ∙ append-apart (changes_before past) (take count part.changes) (drop count part.changes)
    ∙ ap (λ (rest : List Change). changes_before past ++ rest) (take-drop count part.changes)
  where
    append-apart : {X : Type 0} (xs ys zs : List X) → (xs ++ ys) ++ zs ≡ xs ++ (ys ++ zs)
    append-apart [] ys zs = refl
    append-apart (x ∷ xs) ys zs = ap (λ (rest : List _). x ∷ rest) (append-apart xs ys zs)

-- ---- the entries that are left

laid-end : (unit dir : ℕ) (entries : List LogEntry) (first_unit first_dir : ℕ) → AreLaid unit dir entries first_unit first_dir → (unit ≤ first_unit) × (dir ≤ first_dir)
laid-end unit dir [] first_unit first_dir laid = (omega (arith, laid.0), omega (arith, laid.1))
laid-end unit dir (entry ∷ entries) first_unit first_dir laid =
    let rest = laid-end (unit + entry.units) (dir + entry.dirs) entries first_unit first_dir laid.2 in
    (omega (arith, rest.0), omega (arith, rest.1))

pub laid-start : (unit dir : ℕ) (entries : List LogEntry) (first_unit first_dir place : ℕ) → AreLaid unit dir entries first_unit first_dir
    → AreLaid (start_of entries place first_unit first_dir).0 (start_of entries place first_unit first_dir).1 (drop place entries) first_unit first_dir
laid-start unit dir [] first_unit first_dir zero laid = (refl, refl)
laid-start unit dir [] first_unit first_dir (suc place) laid = (refl, refl)
laid-start unit dir (entry ∷ entries) first_unit first_dir zero laid =
    (refl, refl, rw (laid.0, laid.1) laid.2)
laid-start unit dir (entry ∷ entries) first_unit first_dir (suc place) laid = laid-start (unit + entry.units) (dir + entry.dirs) entries first_unit first_dir place laid.2

-- each lies behind where the first begins, and they come to what is between
laid-lie : (unit dir : ℕ) (entries : List LogEntry) (first_unit first_dir : ℕ) → AreLaid unit dir entries first_unit first_dir
    → All (λ entry. (unit ≤ entry.first_unit) × (dir ≤ entry.first_dir) × (entry.first_unit + entry.units ≤ first_unit) × (entry.first_dir + entry.dirs ≤ first_dir)) entries
laid-lie unit dir [] first_unit first_dir laid = All-nil _
laid-lie unit dir (entry ∷ entries) first_unit first_dir laid =
    let ends = laid-end (unit + entry.units) (dir + entry.dirs) entries first_unit first_dir laid.2 in
    let rest = laid-lie (unit + entry.units) (dir + entry.dirs) entries first_unit first_dir laid.2 in
    All-cons (λ e. (unit ≤ e.first_unit) × (dir ≤ e.first_dir) × (e.first_unit + e.units ≤ first_unit) × (e.first_dir + e.dirs ≤ first_dir)) entry entries
    (omega (arith, laid.0), omega (arith, laid.1), omega (arith, laid.0, ends.0), omega (arith, laid.1, ends.1))
    (λ k d within. let lies = rest k d within in (omega (arith, lies.0), omega (arith, lies.1), lies.2, lies.3))

laid-units : (unit dir : ℕ) (entries : List LogEntry) (first_unit first_dir : ℕ) → AreLaid unit dir entries first_unit first_dir → unit + units_of_paths entries ≡ first_unit
laid-units unit dir [] first_unit first_dir laid = omega (arith, laid.0)
laid-units unit dir (entry ∷ entries) first_unit first_dir laid = omega (arith, laid-units (unit + entry.units) (dir + entry.dirs) entries first_unit first_dir laid.2)

laid-moved : (unit dir from_unit from_dir : ℕ) (entries : List LogEntry) (first_unit first_dir : ℕ) → unit ≤ from_unit → dir ≤ from_dir → AreLaid from_unit from_dir entries first_unit first_dir
    → AreLaid (from_unit - unit) (from_dir - dir) (map (moved unit dir) entries) (first_unit - unit) (first_dir - dir)
laid-moved unit dir from_unit from_dir [] first_unit first_dir units dirs laid = (ap (λ (n : ℕ). n - unit) laid.0, ap (λ (n : ℕ). n - dir) laid.1)
laid-moved unit dir from_unit from_dir (entry ∷ entries) first_unit first_dir units dirs laid =
    let rest = laid-moved unit dir (from_unit + entry.units) (from_dir + entry.dirs) entries first_unit first_dir (omega arith) (omega arith) laid.2 in
    let next_unit : from_unit + entry.units - unit ≡ from_unit - unit + entry.units = omega arith in
    let next_dir : from_dir + entry.dirs - dir ≡ from_dir - dir + entry.dirs = omega arith in
    (ap (λ (n : ℕ). n - unit) laid.0, ap (λ (n : ℕ). n - dir) laid.1, rw (next_unit, next_dir) at rest)

-- a part behind what is gone
part-moved : {X : Type 0} (gone first n : ℕ) (xs : List X) → gone ≤ first → take n (drop (first - gone) (drop gone xs)) ≡ take n (drop first xs)
part-moved {X} gone first n xs below =
    let place : gone + (first - gone) ≡ first = omega arith in
    ap (λ (rest : List X). take n rest) (rw place at (drop-twice gone (first - gone) xs))

change-moved : (units : List ℕ) (dirs : List (ℕ × ℕ)) (unit dir : ℕ) (entry : LogEntry) → unit ≤ entry.first_unit → dir ≤ entry.first_dir
    → change_of (drop unit units) (drop dir dirs) (moved unit dir entry) ≡ change_of units dirs entry
change-moved units dirs unit dir entry below above =
    rw (part-moved unit entry.first_unit entry.units units below, part-moved dir entry.first_dir entry.dirs dirs above) refl

map-twice : {X Y Z : Type 0} (f : Y → Z) (g : X → Y) (xs : List X) → map f (map g xs) ≡ map (λ x. f (g x)) xs
map-twice f g [] = refl
map-twice f g (x ∷ xs) = ap (λ (rest : List _). f (g x) ∷ rest) (map-twice f g xs)

pub changes-left : (units : List ℕ) (dirs : List (ℕ × ℕ)) (entries : List LogEntry) (first_unit first_dir count : ℕ) → IsLog units dirs entries first_unit first_dir
    → changes_of (drop (start_of entries count first_unit first_dir).0 units) (drop (start_of entries count first_unit first_dir).1 dirs)
    (map (moved (start_of entries count first_unit first_dir).0 (start_of entries count first_unit first_dir).1) (drop count entries))
    ≡ drop count (changes_of units dirs entries)
changes-left units dirs entries first_unit first_dir count log =
    let unit : ℕ = (start_of entries count first_unit first_dir).0 in
    let dir : ℕ = (start_of entries count first_unit first_dir).1 in
    let lie = laid-lie unit dir (drop count entries) first_unit first_dir (laid-start 0 0 entries first_unit first_dir count log.laid) in
    map-twice (change_of (drop unit units) (drop dir dirs)) (moved unit dir) (drop count entries)
    ∙ map-same (λ entry. change_of (drop unit units) (drop dir dirs) (moved unit dir entry)) (change_of units dirs) (drop count entries)
    (λ k d within. let lies = lie k d within in change-moved units dirs unit dir (get_or (drop count entries) k d) lies.0 lies.1)
    ∙ sym (drop-map (change_of units dirs) count entries)

pub begun-left : {X : Type 0} (gone first : ℕ) (xs : List X) → gone ≤ first → drop (first - gone) (drop gone xs) ≡ drop first xs
begun-left {X} gone first xs below = let place : gone + (first - gone) ≡ first = omega arith in rw place at (drop-twice gone (first - gone) xs)

pub start-within : (units : List ℕ) (dirs : List (ℕ × ℕ)) (entries : List LogEntry) (first_unit first_dir count : ℕ) → IsLog units dirs entries first_unit first_dir
    → ((start_of entries count first_unit first_dir).0 ≤ first_unit) × ((start_of entries count first_unit first_dir).1 ≤ first_dir)
start-within units dirs entries first_unit first_dir count log =
    laid-end (start_of entries count first_unit first_dir).0 (start_of entries count first_unit first_dir).1 (drop count entries) first_unit first_dir (laid-start 0 0 entries first_unit first_dir count log.laid)

pub IsLog-left : (units : List ℕ) (dirs : List (ℕ × ℕ)) (entries : List LogEntry) (first_unit first_dir count : ℕ) → IsLog units dirs entries first_unit first_dir
    → IsLog (drop (start_of entries count first_unit first_dir).0 units) (drop (start_of entries count first_unit first_dir).1 dirs)
    (map (moved (start_of entries count first_unit first_dir).0 (start_of entries count first_unit first_dir).1) (drop count entries))
    (first_unit - (start_of entries count first_unit first_dir).0) (first_dir - (start_of entries count first_unit first_dir).1)
IsLog-left units dirs entries first_unit first_dir count log =
    let unit : ℕ = (start_of entries count first_unit first_dir).0 in
    let dir : ℕ = (start_of entries count first_unit first_dir).1 in
    let within = start-within units dirs entries first_unit first_dir count log in
    let left : AreLaid unit dir (drop count entries) first_unit first_dir = laid-start 0 0 entries first_unit first_dir count log.laid in
    let here : AreLaid (unit - unit) (dir - dir) (map (moved unit dir) (drop count entries)) (first_unit - unit) (first_dir - dir)
    = laid-moved unit dir unit dir (drop count entries) first_unit first_dir (omega arith) (omega arith) left in
    let no_unit : unit - unit ≡ 0 = omega arith in
    let no_dir : dir - dir ≡ 0 = omega arith in
    let laid : AreLaid 0 0 (map (moved unit dir) (drop count entries)) (first_unit - unit) (first_dir - dir) = rw (no_unit, no_dir) at here in
    let lie = laid-lie 0 0 (map (moved unit dir) (drop count entries)) (first_unit - unit) (first_dir - dir) laid in
    let all = laid-units 0 0 (map (moved unit dir) (drop count entries)) (first_unit - unit) (first_dir - dir) laid in
    let unit_lies = log.unit_lies in
    let dir_lies = log.dir_lies in
    record {
      entries_lie = λ k d w. let lies = lie k d w in (lies.2, lies.3);
      apart = omega arith;
      laid = laid;
      unit_lies = omega (arith, length-drop {A = ℕ});
      dir_lies = omega (arith, length-drop {A = ℕ × ℕ});
      names_lie = rw (begun-left dir first_dir dirs within.1, begun-left unit first_unit units within.0) log.names_lie;
    }

-- ---- what is answered

pub due-same : (log : Log) (gone : ℕ) (part : LogPartView) (watch own : Watch) → Holds log gone part → log.base ≤ watch.from → own ≡ record watch { from = watch.from - gone } → due_of part.changes own ≡ due_of log.changes watch
due-same log gone part watch own holds kept is = ap (due_of part.changes) is ∙ due-held log gone part watch holds kept

pub size-none : (due : List (ℕ × List ℕ)) (size : ℕ) → size ≡ length (packed_changes due) → size ≡ 0 → None ≡ size_due due
size-none due size is none = rw (size_due-is due, ← is, none) refl

pub size-some : (due : List (ℕ × List ℕ)) (size : ℕ) → size ≡ length (packed_changes due) → (size ≡ 0 → ⊥) → Some size ≡ size_due due
size-some due size is some = rw (size_due-is due, ← is, ne_eqb size 0 some) refl

pub IsTrimmed-less : (past : List (LogPartView × ℕ)) (gone base next room : ℕ) (part left : LogPartView) (count : ℕ) → IsTrimmed past gone base room part → left.changes ≡ drop count part.changes → part.room ≤ left.room
    → count ≤ length part.changes → next ≡ gone + count → IsTrimmed (past ++ (part, count) ∷ []) next next room left
IsTrimmed-less past gone base next room part left count was is more within here =
    let there = was.there in
    let counted = was.counted in
    let before = was.before in
    let long : length left.changes ≡ length part.changes - count = ap (λ (changes : List Change). length changes) is ∙ length-drop {A = Change} count part.changes in
    let taken : length (take count part.changes) ≡ count = take-length count part.changes within in
    record {
      before = ap (λ (changes : List Change). length changes) (before-more past part count) ∙ length-append (changes_before past) (take count part.changes) ∙ omega (arith, taken, before, here);
      from = omega arith;
      to = omega arith;
      there = omega arith;
      counted = omega arith;
    }

pub OnErr-any : {T E : Type 0} (r : Result T E) (P : Type 0) → P → OnErr r P
OnErr-any (Ok x) P p = tt
OnErr-any (Err e) P p = p
