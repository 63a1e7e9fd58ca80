-- Sizes of buffers, and the prefixes that fit.
use Rattle.std.proofs.Common.{◌≡◌, ℕ, zero, suc, ◌+◌, ◌-◌, ◌*◌, ◌<◌, ◌≤◌, ◌^◌, Bool, true, false, cond, ltb, eqb, map, List, [], ◌∷◌, ◌++◌, length, take, refl, sym, ap, subst, ◌∙◌, append_assoc, arith, length-append, inl, inr}
use Rattle.std.specs.Prelude.{◌⊎◌, All}
use Rattle.std.proofs.lemmas.Bool.{le-ltb, ltb-true, ltb-false, cases_lt}
use Rattle.std.proofs.lemmas.Bool.Decides.{nat_tests}
use Rattle.std.proofs.lemmas.List.{append-nil}
use Rattle.fsa_types.specs.declared.reply.PackKind.{PackKind}
use Rattle.fsa_types.specs.declared.reply.PackKind.TheVariants.{Names, Dir, Full, IdFull, Streams, Changes}
use Rattle.fsa_types.specs.PackedRows.{Numbers, NumbersFit, PackRow}
use Rattle.fsa_types.specs.LittleEndian.{zeros}
use Rattle.fsa_types.specs.Packing.{Packed, packed, before_name, after_name, name_field, head, head_size, rounded, size_of, entry_bytes, is_nothing, entries_bytes, shown, size, fitting, longest_fitting}
use Rattle.pack_info.specs.Entries.{entries_size, rows_as_entries, IsFitting, next_distance, IsEntry, AreEntries, FitsWidths, AreWritable}
use Rattle.pack_info.proofs.NumberLaws.{length-zeros, length-name_of}

pub length-head : (kind : PackKind) (n : Numbers) (next len : ℕ) → length (head kind n next len) ≡ head_size kind
unfolding head
length-head Changes n next len = refl
length-head Names n next len = refl
length-head Dir n next len = refl
length-head Full n next len = refl
length-head IdFull n next len = refl
length-head Streams n next len = refl

pub rounds : (kind : PackKind) (n : ℕ) → (n ≤ rounded kind n) × (rounded kind n ≤ n + 7)
rounds Changes n = (omega arith, omega arith)
rounds Names n = (omega arith, omega arith)
rounds Dir n = (omega arith, omega arith)
rounds Full n = (omega arith, omega arith)
rounds IdFull n = (omega arith, omega arith)
rounds Streams n = (omega arith, omega arith)

pub length-last : (kind : PackKind) (e : Packed) → length (entry_bytes kind e true) ≡ size_of kind e
unfolding entry_bytes
length-last kind e =
    let a = length-head kind e.numbers 0 (length e.name) in
    omega (arith, a, length-append (head kind e.numbers 0 (length e.name)) e.name)

pub length-other : (kind : PackKind) (e : Packed) → length (entry_bytes kind e false) ≡ rounded kind (size_of kind e)
unfolding entry_bytes
length-other kind e =
    let size = size_of kind e in
    let next = rounded kind (size_of kind e) in
    let h = head kind e.numbers (rounded kind (size_of kind e)) (length e.name) in
    let pad = zeros (rounded kind (size_of kind e) - size_of kind e) in
    let a = length-head kind e.numbers (rounded kind (size_of kind e)) (length e.name) in
    let b = length-append h e.name in
    let c = length-append (h ++ e.name) pad in
    let d = length-zeros (rounded kind (size_of kind e) - size_of kind e) in
    let r = (rounds kind (size_of kind e)).0 in
    omega (arith, a, b, c, d, r)

pub size-one : (kind : PackKind) (e : Packed) → entries_size kind (e ∷ []) ≡ size_of kind e
size-one kind e = omega (arith, length-last kind e, length-append (entry_bytes kind e true) [])

pub size-more : (kind : PackKind) (e f : Packed) (fs : List Packed) → entries_size kind (e ∷ f ∷ fs) ≡ rounded kind (size_of kind e) + entries_size kind (f ∷ fs)
size-more kind e f fs = omega (arith, length-other kind e, length-append (entry_bytes kind e false) (entries_bytes kind (f ∷ fs)))

-- at most, with the padding of each
pub size-at_most : (kind : PackKind) (e : Packed) (es : List Packed) → entries_size kind (e ∷ es) ≤ rounded kind (size_of kind e) + entries_size kind es
size-at_most kind e [] = omega (arith, size-one kind e, (rounds kind (size_of kind e)).0)
size-at_most kind e (f ∷ fs) = omega (arith, size-more kind e f fs)

pub size-at_least : (kind : PackKind) (e : Packed) (es : List Packed) → size_of kind e ≤ entries_size kind (e ∷ es)
size-at_least kind e [] = omega (arith, size-one kind e)
size-at_least kind e (f ∷ fs) = omega (arith, size-more kind e f fs, (rounds kind (size_of kind e)).0)

-- how many fit behind what is used
abbrev pub fit : PackKind → ℕ → ℕ → List Packed → ℕ
fit kind used room [] = 0
fit kind used room (e ∷ es) = cond (ltb room (used + size_of kind e)) 0 (suc (fit kind (used + rounded kind (size_of kind e)) room es))

pub fit-none : (kind : PackKind) (used room : ℕ) (e : Packed) (es : List Packed) → room < used + size_of kind e → fit kind used room (e ∷ es) ≡ 0
fit-none kind used room e es h = grind (arith, nat_tests)

pub fit-more : (kind : PackKind) (used room : ℕ) (e : Packed) (es : List Packed) → used + size_of kind e ≤ room → fit kind used room (e ∷ es) ≡ suc (fit kind (used + rounded kind (size_of kind e)) room es)
fit-more kind used room e es h = ap (λ (b : Bool). cond b 0 (suc (fit kind (used + rounded kind (size_of kind e)) room es))) (le-ltb _ _ h)

fit_step : (kind : PackKind) (e : Packed) (es : List Packed) (used room k : ℕ) → used + size_of kind e ≤ room
    → (k ≡ 0) ⊎ (used + rounded kind (size_of kind e) + entries_size kind (take k es) ≤ room) → used + entries_size kind (take (suc k) (e ∷ es)) ≤ room
fit_step kind e es used room k le (inl none) = rw none (omega (arith, size-one kind e))
fit_step kind e es used room k le (inr some) = omega (arith, some, size-at_most kind e (take k es))

pub fit-fits : (kind : PackKind) (used room : ℕ) (es : List Packed) → (fit kind used room es ≡ 0) ⊎ (used + entries_size kind (take (fit kind used room es) es) ≤ room)
fit-fits kind used room [] = inl refl
fit-fits kind used room (e ∷ es) =
    elim (cases_lt room (used + size_of kind e)) [
      | inl lt ↦ inl (fit-none kind used room e es lt)
      | inr le ↦ inr (rw (fit-more kind used room e es le) (fit_step kind e es used room (fit kind (used + rounded kind (size_of kind e)) room es) le (fit-fits kind (used + rounded kind (size_of kind e)) room es)))
    ]

pub fit-within : (kind : PackKind) (used room : ℕ) (es : List Packed) → fit kind used room es ≤ length es
fit-within kind used room [] = omega arith
fit-within kind used room (e ∷ es) =
    elim (cases_lt room (used + size_of kind e)) [
      | inl lt ↦ omega (arith, fit-none kind used room e es lt)
      | inr le ↦ omega (arith, fit-more kind used room e es le, fit-within kind (used + rounded kind (size_of kind e)) room es)
    ]

pub fit-longest : (kind : PackKind) (used room : ℕ) (es : List Packed) (more : ℕ) → more ≤ length es → used + entries_size kind (take more es) ≤ room → more ≤ fit kind used room es
fit-longest kind used room [] more le fits = omega arith
fit-longest kind used room (e ∷ es) zero le fits = omega arith
fit-longest kind used room (e ∷ es) (suc zero) le fits =
    let least = size-at_least kind e (take 0 es) in
    let small : used + size_of kind e ≤ room = omega arith in
    omega (arith, fit-more kind used room e es small)
fit-longest kind used room (e ∷ []) (suc (suc m)) le fits = absurd (omega arith)
fit-longest kind used room (e ∷ f ∷ fs) (suc (suc m)) le fits =
    let least = size-at_least kind e (take (suc m) (f ∷ fs)) in
    let whole = size-more kind e f (take m fs) in
    let small : used + size_of kind e ≤ room = omega arith in
    let behind : used + rounded kind (size_of kind e) + entries_size kind (take (suc m) (f ∷ fs)) ≤ room = omega arith in
    let ih = fit-longest kind (used + rounded kind (size_of kind e)) room (f ∷ fs) (suc m) (omega arith) behind in
    omega (arith, fit-more kind used room e (f ∷ fs) small, ih)

fits_of : (kind : PackKind) (room k : ℕ) (es : List Packed) → (k ≡ 0) ⊎ (0 + entries_size kind (take k es) ≤ room) → entries_size kind (take k es) ≤ room
fits_of kind room k es (inl none) = rw none (omega arith)
fits_of kind room k es (inr some) = omega (arith, some)

pub fit-is : (kind : PackKind) (room count : ℕ) (es : List Packed) → count ≡ fit kind 0 room es → IsFitting kind es room count
fit-is kind room count es e = record {
  within = omega (arith, fit-within kind 0 room es, e);
  fits = rw e (fits_of kind room (fit kind 0 room es) es (fit-fits kind 0 room es));
  longest = λ more le fits. rw e (fit-longest kind 0 room es more le (omega arith));
}

pub take-entries : {T : Type 0} (row_of : T → PackRow) (kind : PackKind) (n : ℕ) (rows : List T)
    → rows_as_entries row_of kind (take n rows) ≡ take n (rows_as_entries row_of kind rows)
take-entries row_of kind zero rows = refl
take-entries row_of kind (suc n) [] = refl
take-entries row_of kind (suc n) (row ∷ rows) = ap (λ (es : List Packed). packed kind (row_of row) ∷ es) (take-entries row_of kind n rows)

pub head-small : (kind : PackKind) → head_size kind ≤ 80
head-small Changes = omega arith
head-small Names = omega arith
head-small Dir = omega arith
head-small Full = omega arith
head-small IdFull = omega arith
head-small Streams = omega arith

parts-small : (kind : PackKind) → length (before_name kind) + length (after_name kind) ≤ 7
parts-small Changes = omega arith
parts-small Names = omega arith
parts-small Dir = omega arith
parts-small Full = omega arith
parts-small IdFull = omega arith
parts-small Streams = omega arith

pub name-bounds : (kind : PackKind) (units : List ℕ) → (length units ≤ length (name_field kind units)) × (length (name_field kind units) ≤ 2 * length units + 14)
name-bounds kind units = (omega (arith, length-name_of kind units), omega (arith, length-name_of kind units, parts-small kind))

-- ---- over rows

pub ends_at : {T : Type 0} (row_of : T → PackRow) (kind : PackKind) (used room count : ℕ) (rows rest : List T) → rest ≡ []
    → count + fit kind used room (rows_as_entries row_of kind rest) ≡ fit kind 0 room (rows_as_entries row_of kind rows) → IsFitting kind (rows_as_entries row_of kind rows) room count
ends_at row_of kind used room count rows rest none all =
    let e : fit kind used room (rows_as_entries row_of kind rest) ≡ 0 = rw none refl in
    fit-is kind room count (rows_as_entries row_of kind rows) (omega (arith, e, all))

pub stops_at : {T : Type 0} (row_of : T → PackRow) (kind : PackKind) (used room count : ℕ) (rows rest more : List T) (row : T) → rest ≡ row ∷ more
    → count + fit kind used room (rows_as_entries row_of kind rest) ≡ fit kind 0 room (rows_as_entries row_of kind rows)
    → room < used + (head_size kind + length (name_field kind (row_of row).name)) → IsFitting kind (rows_as_entries row_of kind rows) room count
stops_at row_of kind used room count rows rest more row cut all lt =
    let e : fit kind used room (rows_as_entries row_of kind rest) ≡ 0 = rw cut (fit-none kind used room (packed kind (row_of row)) (rows_as_entries row_of kind more) lt) in
    fit-is kind room count (rows_as_entries row_of kind rows) (omega (arith, e, all))

pub goes_on : {T : Type 0} (row_of : T → PackRow) (kind : PackKind) (used room count total : ℕ) (rest more : List T) (row : T) → rest ≡ row ∷ more
    → count + fit kind used room (rows_as_entries row_of kind rest) ≡ total
    → used + (head_size kind + length (name_field kind (row_of row).name)) ≤ room
    → count + 1 + fit kind (used + rounded kind (head_size kind + length (name_field kind (row_of row).name))) room (rows_as_entries row_of kind more) ≡ total
goes_on row_of kind used room count total rest more row cut all le =
    let e : fit kind used room (rows_as_entries row_of kind rest) ≡ suc (fit kind (used + rounded kind (head_size kind + length (name_field kind (row_of row).name))) room (rows_as_entries row_of kind more))
    = rw cut (fit-more kind used room (packed kind (row_of row)) (rows_as_entries row_of kind more) le) in
    omega (arith, e, all)

nothing-entries : {T : Type 0} (row_of : T → PackRow) (kind : PackKind) (rows : List T) → is_nothing (rows_as_entries row_of kind rows) ≡ eqb (length rows) 0
nothing-entries row_of kind [] = refl
nothing-entries row_of kind (row ∷ rows) = grind (arith, nat_tests)

pub can_write : {T : Type 0} (row_of : T → PackRow) (kind : PackKind) (row : T) (rest more : List T) (last : Bool) → rest ≡ row ∷ more → last ≡ eqb (length more) 0
    → AreWritable kind (rows_as_entries row_of kind rest) → FitsWidths kind (packed kind (row_of row)) last
can_write {T = T} row_of kind row rest more last cut e all =
    let s : AreWritable kind (rows_as_entries row_of kind (row ∷ more)) = subst (λ (rs : List T). AreWritable kind (rows_as_entries row_of kind rs)) cut all in
    let l : last ≡ is_nothing (rows_as_entries row_of kind more) = e ∙ sym (nothing-entries row_of kind more) in
    rw l s.0

pub rest_writable : {T : Type 0} (row_of : T → PackRow) (kind : PackKind) (row : T) (rest more : List T) → rest ≡ row ∷ more
    → AreWritable kind (rows_as_entries row_of kind rest) → AreWritable kind (rows_as_entries row_of kind more)
rest_writable {T = T} row_of kind row rest more cut all =
    let s : AreWritable kind (rows_as_entries row_of kind (row ∷ more)) = subst (λ (rs : List T). AreWritable kind (rows_as_entries row_of kind rs)) cut all in
    s.1

-- entries of less than 2 ^ 32 bytes in all can be written
pub small_writable : (kind : PackKind) (es : List Packed) → entries_size kind es < 2 ^ 32 → AreWritable kind es
small_writable kind [] small = tt
small_writable kind (e ∷ []) small = (record { now = omega (arith, small, size-one kind e); next = λ f. absurd (cc) }, tt)
small_writable kind (e ∷ f ∷ fs) small =
    let sum = size-more kind e f fs in
    let r = (rounds kind (size_of kind e)).0 in
    (record { now = omega (arith, small, sum, r); next = λ g. omega (arith, small, sum) }, small_writable kind (f ∷ fs) (omega (arith, small, sum)))

-- a change whose name has fewer than 2 ^ 31 - 8 units can be written
short_writable : (row : PackRow) (last : Bool) → length row.name + 8 < 2 ^ 31 → FitsWidths Changes (packed Changes row) last
short_writable row last short =
    let n = length-name_of Changes row.name in
    record { now = omega (arith, short, n); next = λ f. omega (arith, short, n) }

pub changes_writable : (rows : List PackRow) → All (λ row. length row.name + 8 < 2 ^ 31) rows → AreWritable Changes (map (packed Changes) rows)
changes_writable [] all = tt
changes_writable (row ∷ rows) all = (short_writable row (is_nothing (map (packed Changes) rows)) (all 0 row (omega arith)), changes_writable rows (λ k d lt. all (suc k) d (omega arith)))

pub writes_one : {T : Type 0} (row_of : T → PackRow) (kind : PackKind) (row : T) (rest more : List T) (last : Bool) (old new whole : List ℕ) → rest ≡ row ∷ more → last ≡ eqb (length more) 0
    → new ≡ old ++ entry_bytes kind (packed kind (row_of row)) last → old ++ entries_bytes kind (rows_as_entries row_of kind rest) ≡ whole
    → new ++ entries_bytes kind (rows_as_entries row_of kind more) ≡ whole
writes_one {T = T} row_of kind row rest more last old new whole cut e step all =
    let l : last ≡ is_nothing (rows_as_entries row_of kind more) = e ∙ sym (nothing-entries row_of kind more) in
    let a : new ++ entries_bytes kind (rows_as_entries row_of kind more) ≡ old ++ entries_bytes kind (rows_as_entries row_of kind (row ∷ more))
    = rw (step, l) (append_assoc old (entry_bytes kind (packed kind (row_of row)) (is_nothing (rows_as_entries row_of kind more))) (entries_bytes kind (rows_as_entries row_of kind more))) in
    a ∙ ap (λ (rs : List T). old ++ entries_bytes kind (rows_as_entries row_of kind rs)) (sym cut) ∙ all

pub length-entries : {T : Type 0} (row_of : T → PackRow) (kind : PackKind) (rows : List T) → length (rows_as_entries row_of kind rows) ≡ length rows
length-entries row_of kind [] = refl
length-entries row_of kind (row ∷ rows) = ap suc (length-entries row_of kind rows)

pub whole-written : {T : Type 0} (row_of : T → PackRow) (kind : PackKind) (rest : List T) (out whole : List ℕ) → rest ≡ [] → out ++ entries_bytes kind (rows_as_entries row_of kind rest) ≡ whole → out ≡ whole
whole-written {T = T} row_of kind rest out whole none all =
    sym (append-nil out) ∙ ap (λ (rs : List T). out ++ entries_bytes kind (rows_as_entries row_of kind rs)) (sym none) ∙ all

pub nothing_left : {A : Type 0} (xs : List A) → (0 < length xs → false ≡ true) → xs ≡ []
nothing_left [] h = refl
nothing_left (x ∷ xs) h = let f : false ≡ true = h (omega arith) in absurd cc

shown_again : (kind : PackKind) (n : Numbers) → shown kind (shown kind n) ≡ shown kind n
shown_again Changes n = refl
shown_again Names n = refl
shown_again Dir n = refl
shown_again Full n = refl
shown_again IdFull n = refl
shown_again Streams n = refl

shown_fit : (kind : PackKind) (n : Numbers) → NumbersFit n → NumbersFit (shown kind n)
shown_fit Changes n f = record { action = f.action; creation = omega arith; access = omega arith; write = omega arith; change = omega arith; length = omega arith; room = omega arith; attributes = omega arith; file = omega arith }
shown_fit Names n f = record { action = omega arith; creation = omega arith; access = omega arith; write = omega arith; change = omega arith; length = omega arith; room = omega arith; attributes = omega arith; file = omega arith }
shown_fit Dir n f = record { action = omega arith; creation = f.creation; access = f.access; write = f.write; change = f.change; length = f.length; room = f.room; attributes = f.attributes; file = omega arith }
shown_fit Full n f = record { action = omega arith; creation = f.creation; access = f.access; write = f.write; change = f.change; length = f.length; room = f.room; attributes = f.attributes; file = omega arith }
shown_fit IdFull n f = record { action = omega arith; creation = f.creation; access = f.access; write = f.write; change = f.change; length = f.length; room = f.room; attributes = f.attributes; file = f.file }
shown_fit Streams n f = record { action = omega arith; creation = omega arith; access = omega arith; write = omega arith; change = omega arith; length = f.length; room = f.room; attributes = omega arith; file = omega arith }

next_small : (kind : PackKind) (e : Packed) (last : Bool) → FitsWidths kind e last → next_distance kind (size_of kind e) last < 2 ^ 32
next_small kind e true can = omega arith
next_small kind e false can = can.next refl

pub entries_on : {T : Type 0} (row_of : T → PackRow) (kind : PackKind) (row : T) (rest more rows : List T) (last : Bool) → rest ≡ row ∷ more → last ≡ eqb (length more) 0
    → AreWritable kind (rows_as_entries row_of kind rest) → NumbersFit (row_of row).numbers
    → (AreEntries kind (rows_as_entries row_of kind rest) → AreEntries kind (rows_as_entries row_of kind rows))
    → AreEntries kind (rows_as_entries row_of kind more) → AreEntries kind (rows_as_entries row_of kind rows)
entries_on {T = T} row_of kind row rest more rows last cut e all fit before now =
    let can = can_write row_of kind row rest more last cut e all in
    let l : last ≡ is_nothing (rows_as_entries row_of kind more) = e ∙ sym (nothing-entries row_of kind more) in
    let first : IsEntry kind (packed kind (row_of row)) last = record {
      numbers = shown_fit kind (row_of row).numbers fit;
      only = shown_again kind (row_of row).numbers;
      name = ((row_of row).name, refl);
      len = omega (arith, can.now);
      next = next_small kind (packed kind (row_of row)) last can;
    } in
    before (subst (λ (rs : List T). AreEntries kind (rows_as_entries row_of kind rs)) (sym cut) (rw l at first, now))

-- ---- the number of rows that fit

-- a prefix that is too long isn't the longest that fits
below : (kind : PackKind) (rows : List PackRow) (room count most : ℕ) → IsFitting kind (map (packed kind) rows) room count → count ≤ suc most
    → room < size kind (take (suc most) rows) → entries_size kind (take (suc most) (map (packed kind) rows)) ≡ size kind (take (suc most) rows) → count ≤ most
below kind rows room count most is le over same =
    elim (cases_lt most count) [
      | inl lt ↦ absurd (let e : count ≡ suc most = omega arith in let f : entries_size kind (take (suc most) (map (packed kind) rows)) ≤ room = subst (λ (n : ℕ). entries_size kind (take n (map (packed kind) rows)) ≤ room) e is.fits in omega (arith, f, same, over))
      | inr few ↦ few
    ]

fitting_step : (kind : PackKind) (rows : List PackRow) (room count most : ℕ) (over : Bool) → IsFitting kind (map (packed kind) rows) room count → count ≤ suc most → suc most ≤ length rows
    → over ≡ ltb room (size kind (take (suc most) rows)) → (count ≤ most → count ≡ longest_fitting kind rows room most) → count ≡ cond over (longest_fitting kind rows room most) (suc most)
fitting_step kind rows room count most true is le within e ih =
    let t : entries_size kind (take (suc most) (map (packed kind) rows)) ≡ size kind (take (suc most) rows) = ap (entries_size kind) (sym (take-entries (λ row. row) kind (suc most) rows)) in
    ih (below kind rows room count most is le (ltb-true room (size kind (take (suc most) rows)) (sym e)) t)
fitting_step kind rows room count most false is le within e ih =
    let t : entries_size kind (take (suc most) (map (packed kind) rows)) ≡ size kind (take (suc most) rows) = ap (entries_size kind) (sym (take-entries (λ row. row) kind (suc most) rows)) in
    let fits : size kind (take (suc most) rows) ≤ room = ltb-false room (size kind (take (suc most) rows)) (sym e) in
    omega (arith, le, is.longest (suc most) (omega (arith, within, length-entries (λ row. row) kind rows)) (omega (arith, t, fits)))

longest_is : (kind : PackKind) (rows : List PackRow) (room count most : ℕ) → IsFitting kind (map (packed kind) rows) room count → count ≤ most → most ≤ length rows → count ≡ longest_fitting kind rows room most
longest_is kind rows room count zero is le within = omega (arith, le)
longest_is kind rows room count (suc most) is le within =
    fitting_step kind rows room count most (ltb room (size kind (take (suc most) rows))) is le within refl (λ small. longest_is kind rows room count most is small (omega (arith, within)))

-- the longest prefix is that of the definition
pub fitting_is : (kind : PackKind) (rows : List PackRow) (room count : ℕ) → IsFitting kind (map (packed kind) rows) room count → count ≡ fitting kind rows room
fitting_is kind rows room count is = longest_is kind rows room count (length rows) is (omega (arith, is.within, length-entries (λ row. row) kind rows)) (omega arith)
