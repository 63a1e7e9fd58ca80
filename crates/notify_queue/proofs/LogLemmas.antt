-- The log of changes: what is written later leaves what was noted before.
use Rattle.std.proofs.Common.{◌≡◌, ℕ, suc, ◌+◌, ◌-◌, ◌≤◌, List, [], ◌∷◌, ◌++◌, length, take, drop, get_or, refl, ap, sym, ◌∙◌, arith, length-drop}
use Rattle.std.specs.Prelude.{map, reverse, All}
use Rattle.std.proofs.lemmas.List.{take-append-le, drop-append-le, drop_all}
use Rattle.std.proofs.lemmas.List.Elements.{All-nil, All-push}
use Rattle.notify_queue.specs.Log.{relative, change_of, changes_of, units_of_paths, AreLaid, IsLog}
use Rattle.notify_queue.specs.declared.part.LogEntry.{LogEntry}

pub map-same : {X Y : Type 0} (f g : X → Y) (xs : List X) → All (λ x. f x ≡ g x) xs → map f xs ≡ map g xs
map-same f g [] same = refl
map-same f g (x ∷ xs) same = rw (same 0 x (omega arith)) (ap (λ rest. g x ∷ rest) (map-same f g xs (λ k d within. same (suc k) d (omega arith))))

-- a part stays where more is written behind
pub part-append : {X : Type 0} (xs more : List X) (first n : ℕ) → first + n ≤ length xs → take n (drop first (xs ++ more)) ≡ take n (drop first xs)
part-append {X} xs more first n within =
    rw (drop-append-le first xs more (omega arith)) (take-append-le n (drop first xs) more (omega (arith, length-drop {A = X})))

pub changes_of-units : (units more : List ℕ) (dirs : List (ℕ × ℕ)) (entries : List LogEntry) (first_unit first_dir : ℕ) → IsLog units dirs entries first_unit first_dir
    → changes_of (units ++ more) dirs entries ≡ changes_of units dirs entries
changes_of-units units more dirs entries first_unit first_dir log =
    map-same (change_of (units ++ more) dirs) (change_of units dirs) entries (λ k d within.
    let lies = log.entries_lie k d within in
    let start = log.unit_lies in
    ap (λ (path : List ℕ). record {
      action = (get_or entries k d).action;
      bits = (get_or entries k d).bits;
      seen_from = map (relative path) (take (get_or entries k d).dirs (drop (get_or entries k d).first_dir dirs));
    })
    (part-append units more (get_or entries k d).first_unit (get_or entries k d).units (omega arith)))

pub changes_of-dirs : (units : List ℕ) (dirs more : List (ℕ × ℕ)) (entries : List LogEntry) (first_unit first_dir : ℕ) → IsLog units dirs entries first_unit first_dir
    → changes_of units (dirs ++ more) entries ≡ changes_of units dirs entries
changes_of-dirs units dirs more entries first_unit first_dir log =
    map-same (change_of units (dirs ++ more)) (change_of units dirs) entries (λ k d within.
    let lies = log.entries_lie k d within in
    let start = log.dir_lies in
    ap (λ (seen : List (ℕ × ℕ)). record {
      action = (get_or entries k d).action;
      bits = (get_or entries k d).bits;
      seen_from = map (relative (take (get_or entries k d).units (drop (get_or entries k d).first_unit units))) seen;
    })
    (part-append dirs more (get_or entries k d).first_dir (get_or entries k d).dirs (omega arith)))

pub seen-units : (units more : List ℕ) (dirs : List (ℕ × ℕ)) (entries : List LogEntry) (first_unit first_dir : ℕ) → IsLog units dirs entries first_unit first_dir
    → map (relative (drop first_unit (units ++ more))) (drop first_dir dirs) ≡ map (relative (drop first_unit units)) (drop first_dir dirs)
seen-units units more dirs entries first_unit first_dir log =
    map-same (relative (drop first_unit (units ++ more))) (relative (drop first_unit units)) (drop first_dir dirs) (λ k d within.
    let lies = log.names_lie k d within in
    let start = log.unit_lies in
    rw (drop-append-le first_unit units more start)
    (ap (λ (name : List ℕ). ((get_or (drop first_dir dirs) k d).0, reverse name)) (take-append-le (get_or (drop first_dir dirs) k d).1 (drop first_unit units) more lies)))

pub units_in-push : (entries : List LogEntry) (entry : LogEntry) → units_of_paths (entries ++ entry ∷ []) ≡ units_of_paths entries + entry.units
units_in-push [] entry = omega arith
units_in-push (first ∷ entries) entry = omega (arith, units_in-push entries entry)

-- the change begun as an entry
abbrev pub ended : (units : List ℕ) (dirs : List (ℕ × ℕ)) (first_unit first_dir action bits : ℕ) → LogEntry
ended units dirs first_unit first_dir action bits = record {
  action = action;
  bits = bits;
  first_unit = first_unit;
  units = length units - first_unit;
  first_dir = first_dir;
  dirs = length dirs - first_dir;
}

-- one more is laid behind the others
laid-push : (unit dir : ℕ) (entries : List LogEntry) (first_unit first_dir next_unit next_dir : ℕ) (entry : LogEntry) → AreLaid unit dir entries first_unit first_dir
    → entry.first_unit ≡ first_unit → entry.first_dir ≡ first_dir → first_unit + entry.units ≡ next_unit → first_dir + entry.dirs ≡ next_dir
    → AreLaid unit dir (entries ++ entry ∷ []) next_unit next_dir
laid-push unit dir [] first_unit first_dir next_unit next_dir entry laid units dirs next_units next_dirs =
    (units ∙ sym laid.0, dirs ∙ sym laid.1, rw (laid.0, laid.1) (next_units, next_dirs))
laid-push unit dir (e ∷ entries) first_unit first_dir next_unit next_dir entry laid units dirs next_units next_dirs =
    (laid.0, laid.1, laid-push (unit + e.units) (dir + e.dirs) entries first_unit first_dir next_unit next_dir entry laid.2 units dirs next_units next_dirs)

-- it is noted, and another begins
pub IsLog-finish : (units : List ℕ) (dirs : List (ℕ × ℕ)) (entries : List LogEntry) (first_unit first_dir action bits : ℕ) → IsLog units dirs entries first_unit first_dir
    → IsLog units dirs (entries ++ ended units dirs first_unit first_dir action bits ∷ []) (length units) (length dirs)
IsLog-finish units dirs entries first_unit first_dir action bits log =
    let start = log.unit_lies in
    let begin = log.dir_lies in
    let apart = log.apart in
    record {
      entries_lie = All-push (λ entry. (entry.first_unit + entry.units ≤ length units) × (entry.first_dir + entry.dirs ≤ length dirs)) entries (ended units dirs first_unit first_dir action bits)
          (λ k d within. let lies = log.entries_lie k d within in (omega arith, omega arith)) (omega arith, omega arith);
      apart = omega (arith, units_in-push entries (ended units dirs first_unit first_dir action bits));
      laid = laid-push 0 0 entries first_unit first_dir (length units) (length dirs) (ended units dirs first_unit first_dir action bits) log.laid refl refl (omega arith) (omega arith);
      unit_lies = omega arith;
      dir_lies = omega arith;
      names_lie = rw (drop_all (length dirs) dirs (omega arith)) (All-nil _);
    }
