-- Laws of packed text: a buffer begins with one entry, the entries of what is written are those that were written, and
-- what is printed of rows that are packed is the text of each.
use Rattle.std.proofs.Common.{◌≡◌, ℕ, zero, suc, ◌+◌, ◌-◌, ◌*◌, ◌/◌, ◌%◌, ◌<◌, ◌≤◌, ◌^◌, Bool, true, false, List, [], ◌∷◌, ◌++◌, length, take, drop, map, Some, None, refl, sym, ap, subst, ◌∙◌, append_assoc, arith, length-append, inl, inr}
use Rattle.std.specs.Prelude.{◌==◌}
use Rattle.std.specs.Cmp.Lexicographic.{bytes_decides}
use Rattle.std.specs.List.{flat_map}
use Rattle.std.proofs.lemmas.Bool.{cases_Bool, ne_eqb}
use Rattle.std.proofs.lemmas.List.{take_at, drop_at, length-take, length-drop}
use Rattle.std.proofs.lemmas.List.Concat.{flat_map-cons}
use Rattle.std.proofs.lemmas.Nat.{from_le_bytes-to_le_bytes_4, from_le_bytes-to_le_bytes_8}
use Rattle.fsa_types.specs.LittleEndian.{little_endian, unit_bytes, utf16, zeros}
use Rattle.fsa_types.specs.PackedRows.{Numbers, NumbersFit, PackRow}
use Rattle.fsa_types.specs.Packing.{Packed, packed, head, head_size, before_name, after_name, name_field, rounded, shown, size_of, entry_bytes, entries_bytes, is_nothing, bytes}
use Rattle.fsa_types.specs.declared.reply.PackKind.{PackKind}
use Rattle.fsa_types.specs.declared.reply.PackKind.TheVariants.{Names, Dir, Full, IdFull, Streams, Changes}
use Rattle.fsa_model.specs.PackedText.{number_in, units_in, numbers_at, next_at, len_at, field_of, inner, entry_at, rest_at, if_spelled, read_entry, first_entries, entries_in, shown_text, entry_text, packed_text, row_text, IsPacked, StartsWith, AreUnits, RowFits, RowsFit}
use Rattle.fsa_model.specs.Words.{same}
use Rattle.fsa_model.proofs.RowLaws.{option_cases}
use Rattle.fsa_model.proofs.SettleLaws.{some_equal}

-- ---- numbers

four-back : (n : ℕ) → n < 2 ^ 32 → number_in (little_endian 4 n) ≡ n
four-back n fits = omega (arith, from_le_bytes-to_le_bytes_4 n fits)

eight-back : (n : ℕ) → n < 2 ^ 64 → number_in (little_endian 8 n) ≡ n
eight-back n fits = omega (arith, from_le_bytes-to_le_bytes_8 n fits)

four-small : (n : ℕ) → number_in (little_endian 4 n) < 2 ^ 32
four-small n = omega arith

eight-small : (n : ℕ) → number_in (little_endian 8 n) < 2 ^ 64
eight-small n = omega arith

-- ---- what stands before a name

numbers-head : (kind : PackKind) (n : Numbers) (next len : ℕ) (tail : List ℕ) → NumbersFit n → numbers_at kind (head kind n next len ++ tail) ≡ shown kind n
unfolding head
numbers-head Changes n next len tail f = λ i. record { action = four-back n.action f.action i; creation = 0; access = 0; write = 0; change = 0; length = 0; room = 0; attributes = 0; file = 0 }
numbers-head Names n next len tail f = refl
numbers-head Dir n next len tail f = λ i. record { action = 0; creation = eight-back n.creation f.creation i; access = eight-back n.access f.access i; write = eight-back n.write f.write i; change = eight-back n.change f.change i; length = eight-back n.length f.length i; room = eight-back n.room f.room i; attributes = four-back n.attributes f.attributes i; file = 0 }
numbers-head Full n next len tail f = λ i. record { action = 0; creation = eight-back n.creation f.creation i; access = eight-back n.access f.access i; write = eight-back n.write f.write i; change = eight-back n.change f.change i; length = eight-back n.length f.length i; room = eight-back n.room f.room i; attributes = four-back n.attributes f.attributes i; file = 0 }
numbers-head IdFull n next len tail f = λ i. record { action = 0; creation = eight-back n.creation f.creation i; access = eight-back n.access f.access i; write = eight-back n.write f.write i; change = eight-back n.change f.change i; length = eight-back n.length f.length i; room = eight-back n.room f.room i; attributes = four-back n.attributes f.attributes i; file = eight-back n.file f.file i }
numbers-head Streams n next len tail f = λ i. record { action = 0; creation = 0; access = 0; write = 0; change = 0; length = eight-back n.length f.length i; room = eight-back n.room f.room i; attributes = 0; file = 0 }

-- whatever numbers are written, those that are read fit
numbers-fit : (kind : PackKind) (n : Numbers) (next len : ℕ) (tail : List ℕ) → NumbersFit (numbers_at kind (head kind n next len ++ tail))
unfolding head
numbers-fit Changes n next len tail = record { action = four-small n.action; creation = omega arith; access = omega arith; write = omega arith; change = omega arith; length = omega arith; room = omega arith; attributes = omega arith; file = omega arith }
numbers-fit Names n next len tail = record { action = omega arith; creation = omega arith; access = omega arith; write = omega arith; change = omega arith; length = omega arith; room = omega arith; attributes = omega arith; file = omega arith }
numbers-fit Dir n next len tail = record { action = omega arith; creation = eight-small n.creation; access = eight-small n.access; write = eight-small n.write; change = eight-small n.change; length = eight-small n.length; room = eight-small n.room; attributes = four-small n.attributes; file = omega arith }
numbers-fit Full n next len tail = record { action = omega arith; creation = eight-small n.creation; access = eight-small n.access; write = eight-small n.write; change = eight-small n.change; length = eight-small n.length; room = eight-small n.room; attributes = four-small n.attributes; file = omega arith }
numbers-fit IdFull n next len tail = record { action = omega arith; creation = eight-small n.creation; access = eight-small n.access; write = eight-small n.write; change = eight-small n.change; length = eight-small n.length; room = eight-small n.room; attributes = four-small n.attributes; file = eight-small n.file }
numbers-fit Streams n next len tail = record { action = omega arith; creation = omega arith; access = omega arith; write = omega arith; change = omega arith; length = eight-small n.length; room = eight-small n.room; attributes = omega arith; file = omega arith }

numbers-shown : (kind : PackKind) (bytes : List ℕ) → shown kind (numbers_at kind bytes) ≡ numbers_at kind bytes
numbers-shown Changes bytes = refl
numbers-shown Names bytes = refl
numbers-shown Dir bytes = refl
numbers-shown Full bytes = refl
numbers-shown IdFull bytes = refl
numbers-shown Streams bytes = refl

next-head : (kind : PackKind) (n : Numbers) (next len : ℕ) (tail : List ℕ) → next_at (head kind n next len ++ tail) ≡ number_in (little_endian 4 next)
unfolding head
next-head Changes n next len tail = refl
next-head Names n next len tail = refl
next-head Dir n next len tail = refl
next-head Full n next len tail = refl
next-head IdFull n next len tail = refl
next-head Streams n next len tail = refl

len-head : (kind : PackKind) (n : Numbers) (next len : ℕ) (tail : List ℕ) → len_at kind (head kind n next len ++ tail) ≡ number_in (little_endian 4 len)
unfolding head
len-head Changes n next len tail = refl
len-head Names n next len tail = refl
len-head Dir n next len tail = refl
len-head Full n next len tail = refl
len-head IdFull n next len tail = refl
len-head Streams n next len tail = refl

drop-head : (kind : PackKind) (n : Numbers) (next len : ℕ) (tail : List ℕ) → drop (head_size kind) (head kind n next len ++ tail) ≡ tail
unfolding head
drop-head Changes n next len tail = refl
drop-head Names n next len tail = refl
drop-head Dir n next len tail = refl
drop-head Full n next len tail = refl
drop-head IdFull n next len tail = refl
drop-head Streams n next len tail = refl

length-head : (kind : PackKind) (n : Numbers) (next len : ℕ) → length (head kind n next len) ≡ head_size kind
unfolding head
length-head Changes n next len = refl
length-head Names n next len = refl
length-head Dir n next len = refl
length-head Full n next len = refl
length-head IdFull n next len = refl
length-head Streams n next len = refl

head-shown : (kind : PackKind) (n : Numbers) (next len : ℕ) → head kind (shown kind n) next len ≡ head kind n next len
unfolding head
head-shown Changes n next len = refl
head-shown Names n next len = refl
head-shown Dir n next len = refl
head-shown Full n next len = refl
head-shown IdFull n next len = refl
head-shown Streams n next len = refl

-- ---- sizes

record Bounds (kind : PackKind) : Type 0 where
  some : 0 < head_size kind
  small : head_size kind ≤ 80
  parts : length (before_name kind) + length (after_name kind) ≤ 7

bounds : (kind : PackKind) → Bounds kind
bounds Changes = record { some = omega arith; small = omega arith; parts = omega arith }
bounds Names = record { some = omega arith; small = omega arith; parts = omega arith }
bounds Dir = record { some = omega arith; small = omega arith; parts = omega arith }
bounds Full = record { some = omega arith; small = omega arith; parts = omega arith }
bounds IdFull = record { some = omega arith; small = omega arith; parts = omega arith }
bounds Streams = record { some = omega arith; small = omega arith; parts = omega arith }

rounds : (kind : PackKind) (n : ℕ) → (n ≤ rounded kind n) × (rounded kind n ≤ n + 7)
rounds Changes n = (omega arith, omega arith)
rounds Names n = (omega arith, omega arith)
rounds Dir n = (omega arith, omega arith)
rounds Full n = (omega arith, omega arith)
rounds IdFull n = (omega arith, omega arith)
rounds Streams n = (omega arith, omega arith)

length-zeros : (n : ℕ) → length (zeros n) ≡ n
unfolding zeros
length-zeros zero = refl
length-zeros (suc n) = let e = length-zeros n in omega (arith, e)

length-utf16 : (units : List ℕ) → length (utf16 units) ≡ 2 * length units
length-utf16 [] = refl
length-utf16 (unit ∷ units) = let more = length-utf16 units in ap length (flat_map-cons unit_bytes unit units) ∙ omega (arith, length-append (unit_bytes unit) (utf16 units), more)

length-name_of : (kind : PackKind) (units : List ℕ) → length (name_field kind units) ≡ 2 * (length (before_name kind) + length units + length (after_name kind))
unfolding name_field
length-name_of kind units =
    let a = length-utf16 (before_name kind) in
    let b = length-utf16 units in
    let c = length-utf16 (after_name kind) in
    let d = length-append (utf16 (before_name kind) ++ utf16 units) (utf16 (after_name kind)) in
    let e = length-append (utf16 (before_name kind)) (utf16 units) in
    omega (arith, a, b, c, d, e)

-- ---- an entry in parts

abbrev next_of : PackKind → ℕ → Bool → ℕ
next_of kind size true = 0
next_of kind size false = rounded kind size

abbrev padding_of : PackKind → ℕ → Bool → List ℕ
padding_of kind size true = []
padding_of kind size false = zeros (rounded kind size - size)

-- what stands behind the head
abbrev behind : PackKind → Packed → Bool → List ℕ → List ℕ
behind kind e last rest = e.name ++ (padding_of kind (size_of kind e) last ++ rest)

entry-parts : (kind : PackKind) (e : Packed) (last : Bool) (rest : List ℕ)
    → entry_bytes kind e last ++ rest ≡ head kind e.numbers (next_of kind (size_of kind e) last) (length e.name) ++ behind kind e last rest
unfolding entry_bytes
entry-parts kind e true rest = append_assoc (head kind e.numbers 0 (length e.name)) e.name rest
entry-parts kind e false rest =
    let before : List ℕ = head kind e.numbers (rounded kind (size_of kind e)) (length e.name) in
    let pad : List ℕ = zeros (rounded kind (size_of kind e) - size_of kind e) in
    append_assoc (before ++ e.name) pad rest ∙ append_assoc before e.name (pad ++ rest)

length-parts : (kind : PackKind) (e : Packed) (last : Bool) (rest : List ℕ)
    → length (entry_bytes kind e last ++ rest) ≡ head_size kind + length e.name + length (padding_of kind (size_of kind e) last) + length rest
length-parts kind e last rest =
    let whole = ap length (entry-parts kind e last rest) in
    let a = length-head kind e.numbers (next_of kind (size_of kind e) last) (length e.name) in
    let b = length-append (head kind e.numbers (next_of kind (size_of kind e) last) (length e.name)) (behind kind e last rest) in
    let c = length-append e.name (padding_of kind (size_of kind e) last ++ rest) in
    let d = length-append (padding_of kind (size_of kind e) last) rest in
    omega (arith, whole, a, b, c, d)

-- an entry takes at least a byte
pub StartsWith-longer : (kind : PackKind) (bytes : List ℕ) (e : Packed) (rest : List ℕ) → StartsWith kind bytes e rest → length rest < length bytes
StartsWith-longer kind bytes e rest starts = omega (arith, ap length starts.spelled, length-parts kind e (is_nothing rest) rest, (bounds kind).some)

-- ---- names

-- a unit, as it is read back
abbrev low : ℕ → ℕ
low unit = unit % 256 + unit / 256 % 256 * 256

units-utf16 : (units after : List ℕ) → units_in (utf16 units ++ after) ≡ map low units ++ units_in after
units-utf16 [] after = refl
units-utf16 (unit ∷ units) after = ap (λ (more : List ℕ). low unit ∷ more) (units-utf16 units after)

utf16-low : (units : List ℕ) → utf16 (map low units) ≡ utf16 units
utf16-low [] = refl
utf16-low (unit ∷ units) =
    let first : low unit % 256 ≡ unit % 256 = omega arith in
    let second : low unit / 256 % 256 ≡ unit / 256 % 256 = omega arith in
    λ i. first i ∷ second i ∷ utf16-low units i

low-same : (units : List ℕ) → AreUnits units → map low units ≡ units
low-same [] fit = refl
low-same (unit ∷ units) fit = let first : low unit ≡ unit = (let fits = fit.0 in omega arith) in λ i. first i ∷ low-same units fit.1 i

units-name : (kind : PackKind) (units : List ℕ) → units_in (name_field kind units) ≡ before_name kind ++ map low units ++ after_name kind
unfolding name_field
units-name Changes units = units-utf16 units []
units-name Names units = units-utf16 units []
units-name Dir units = units-utf16 units []
units-name Full units = units-utf16 units []
units-name IdFull units = units-utf16 units []
units-name Streams units = ap (λ (more : List ℕ). 0x3A ∷ more) (units-utf16 units (utf16 (after_name Streams)))

inner-name : (kind : PackKind) (units : List ℕ) → inner kind (before_name kind ++ units ++ after_name kind) ≡ units
inner-name Changes units = take_at units [] (length (units ++ []) - 0) (omega (arith, length-append units []))
inner-name Names units = take_at units [] (length (units ++ []) - 0) (omega (arith, length-append units []))
inner-name Dir units = take_at units [] (length (units ++ []) - 0) (omega (arith, length-append units []))
inner-name Full units = take_at units [] (length (units ++ []) - 0) (omega (arith, length-append units []))
inner-name IdFull units = take_at units [] (length (units ++ []) - 0) (omega (arith, length-append units []))
inner-name Streams units = take_at units (after_name Streams) (length (0x3A ∷ (units ++ after_name Streams)) - 7) (omega (arith, length-append units (after_name Streams)))

-- a name is read back as bytes, whatever its units
name-again : (kind : PackKind) (units : List ℕ) → name_field kind (inner kind (units_in (name_field kind units))) ≡ name_field kind units
unfolding name_field
name-again kind units =
    ap (λ (us : List ℕ). name_field kind us) (ap (inner kind) (units-name kind units) ∙ inner-name kind (map low units))
    ∙ ap (λ (bs : List ℕ). utf16 (before_name kind) ++ bs ++ utf16 (after_name kind)) (utf16-low units)

length-units_in : (xs : List ℕ) → 2 * length (units_in xs) ≤ length xs
length-units_in [] = omega arith
length-units_in (a ∷ []) = omega arith
length-units_in (a ∷ b ∷ xs) = let more = length-units_in xs in omega arith

-- ---- an entry that was written is read

nothing : (rest : List ℕ) → is_nothing rest ≡ true → rest ≡ []
nothing [] is = refl
nothing (x ∷ rest) is = absurd (let impossible : false ≡ true = is in cc)

next-fits : (kind : PackKind) (e : Packed) (last : Bool) → IsPacked kind e last → next_of kind (size_of kind e) last < 2 ^ 32
next-fits kind e true is = omega arith
next-fits kind e false is = is.next refl

field-back : (kind : PackKind) (e : Packed) (last : Bool) (rest : List ℕ) → IsPacked kind e last
    → field_of kind (head kind e.numbers (next_of kind (size_of kind e) last) (length e.name) ++ behind kind e last rest) ≡ e.name
field-back kind e last rest is =
    let next = next_of kind (size_of kind e) last in
    ap (take (len_at kind (head kind e.numbers (next_of kind (size_of kind e) last) (length e.name) ++ behind kind e last rest))) (drop-head kind e.numbers (next_of kind (size_of kind e) last) (length e.name) (behind kind e last rest))
    ∙ take_at e.name (padding_of kind (size_of kind e) last ++ rest) (len_at kind (head kind e.numbers (next_of kind (size_of kind e) last) (length e.name) ++ behind kind e last rest))
    (sym (len-head kind e.numbers (next_of kind (size_of kind e) last) (length e.name) (behind kind e last rest) ∙ four-back (length e.name) is.len))

entry-back : (kind : PackKind) (e : Packed) (last : Bool) (rest : List ℕ) → IsPacked kind e last
    → entry_at kind (head kind e.numbers (next_of kind (size_of kind e) last) (length e.name) ++ behind kind e last rest) ≡ e
entry-back kind e last rest is =
    let numbers : numbers_at kind (head kind e.numbers (next_of kind (size_of kind e) last) (length e.name) ++ behind kind e last rest) ≡ e.numbers
    = numbers-head kind e.numbers (next_of kind (size_of kind e) last) (length e.name) (behind kind e last rest) is.numbers ∙ is.only in
    let name : name_field kind (inner kind (units_in (field_of kind (head kind e.numbers (next_of kind (size_of kind e) last) (length e.name) ++ behind kind e last rest)))) ≡ e.name
    = ap (λ (bs : List ℕ). name_field kind (inner kind (units_in bs))) (field-back kind e last rest is ∙ is.name.1) ∙ name-again kind is.name.0 ∙ sym is.name.1 in
    λ i. record { numbers = numbers i; name = name i }

rest-next : (bytes : List ℕ) (next : ℕ) → next_at bytes ≡ next → 0 < next → rest_at bytes ≡ drop next bytes
rest-next bytes next is some = rw is (let test : (next == 0) ≡ false = ne_eqb next 0 (λ none. omega arith) in rw test refl)

rest-last : (bytes : List ℕ) → next_at bytes ≡ 0 → rest_at bytes ≡ []
rest-last bytes is = rw is refl

length-whole : (kind : PackKind) (e : Packed) → length (entry_bytes kind e false) ≡ rounded kind (size_of kind e)
length-whole kind e =
    let a = length-parts kind e false [] in
    let b = length-append (entry_bytes kind e false) [] in
    let c = length-zeros (rounded kind (size_of kind e) - size_of kind e) in
    let d = (rounds kind (size_of kind e)).0 in
    omega (arith, a, b, c, d)

rest-back : (kind : PackKind) (e : Packed) (last : Bool) (rest : List ℕ) → last ≡ is_nothing rest → IsPacked kind e last → rest_at (entry_bytes kind e last ++ rest) ≡ rest
rest-back kind e true rest same is =
    rest-last (entry_bytes kind e true ++ rest) (ap next_at (entry-parts kind e true rest) ∙ next-head kind e.numbers 0 (length e.name) (behind kind e true rest)) ∙ sym (nothing rest (sym same))
rest-back kind e false rest same is =
    let next : next_at (entry_bytes kind e false ++ rest) ≡ rounded kind (size_of kind e)
    = ap next_at (entry-parts kind e false rest) ∙ next-head kind e.numbers (rounded kind (size_of kind e)) (length e.name) (behind kind e false rest) ∙ four-back (rounded kind (size_of kind e)) (is.next refl) in
    rest-next (entry_bytes kind e false ++ rest) (rounded kind (size_of kind e)) next (omega (arith, (rounds kind (size_of kind e)).0, (bounds kind).some))
    ∙ drop_at (entry_bytes kind e false) rest (rounded kind (size_of kind e)) (length-whole kind e)

-- what begins with an entry is read so
pub StartsWith-read : (kind : PackKind) (bytes : List ℕ) (e : Packed) (rest : List ℕ) → StartsWith kind bytes e rest → read_entry kind bytes ≡ Some (e, rest)
unfolding read_entry
StartsWith-read kind bytes e rest starts =
    let entry : entry_at kind bytes ≡ e = ap (entry_at kind) (starts.spelled ∙ entry-parts kind e (is_nothing rest) rest) ∙ entry-back kind e (is_nothing rest) rest starts.is_packed in
    let left : rest_at bytes ≡ rest = ap rest_at starts.spelled ∙ rest-back kind e (is_nothing rest) rest refl starts.is_packed in
    let test : same (entry_bytes kind e (is_nothing rest) ++ rest) bytes ≡ true = (bytes_decides (entry_bytes kind e (is_nothing rest) ++ rest) bytes).1 (sym starts.spelled) in
    let step : if_spelled kind bytes (entry_at kind bytes) (rest_at bytes) ≡ if_spelled kind bytes e rest = λ i. if_spelled kind bytes (entry i) (left i) in
    step ∙ rw test refl

-- ---- what is read is an entry

spelled-len : (kind : PackKind) (bytes : List ℕ) → len_at kind bytes < 2 ^ 32 → length (entry_at kind bytes).name < 2 ^ 32
spelled-len kind bytes small =
    let units : List ℕ = units_in (field_of kind bytes) in
    let a = length-name_of kind (inner kind (units_in (field_of kind bytes))) in
    let b = length-take (length (units_in (field_of kind bytes)) - (length (before_name kind) + length (after_name kind))) (drop (length (before_name kind)) (units_in (field_of kind bytes))) in
    let c = length-units_in (field_of kind bytes) in
    let d = length-take (len_at kind bytes) (drop (head_size kind) bytes) in
    let p = (bounds kind).parts in
    omega (arith, a, b, c, d, p, small)

spelled-next : (kind : PackKind) (bytes : List ℕ) (e : Packed) → next_at bytes < 2 ^ 32 → bytes ≡ entry_bytes kind e (is_nothing (rest_at bytes)) ++ rest_at bytes → is_nothing (rest_at bytes) ≡ false
    → rounded kind (size_of kind e) < 2 ^ 32
spelled-next kind bytes e small spelled more = elim (cases_Bool (next_at bytes == 0)) [
  | inl none ↦ absurd (let empty : rest_at bytes ≡ [] = rw none refl in let isnt : is_nothing (rest_at bytes) ≡ true = ap is_nothing empty in cc)
  | inr some ↦ (
      let left : rest_at bytes ≡ drop (next_at bytes) bytes = rw some refl in
      let long : 0 < length (rest_at bytes) = some_long (rest_at bytes) more in
      let whole : bytes ≡ entry_bytes kind e false ++ rest_at bytes = spelled ∙ ap (λ (last : Bool). entry_bytes kind e last ++ rest_at bytes) more in
      let a = ap length whole in
      let b = length-append (entry_bytes kind e false) (rest_at bytes) in
      let c = length-whole kind e in
      let d = ap length left in
      let f = length-drop (next_at bytes) bytes in
      omega (arith, long, a, b, c, d, f, small))
]
  where
    some_long : (rest : List ℕ) → is_nothing rest ≡ false → 0 < length rest
    some_long [] is = absurd (let impossible : true ≡ false = is in cc)
    some_long (x ∷ rest) is = omega arith

-- where the bytes of the entry and what follows are the buffer
spelled-starts : (kind : PackKind) (bytes : List ℕ) → bytes ≡ entry_bytes kind (entry_at kind bytes) (is_nothing (rest_at bytes)) ++ rest_at bytes → StartsWith kind bytes (entry_at kind bytes) (rest_at bytes)
spelled-starts kind bytes spelled =
    let e : Packed = entry_at kind bytes in
    let last : Bool = is_nothing (rest_at bytes) in
    let next : ℕ = next_of kind (size_of kind (entry_at kind bytes)) (is_nothing (rest_at bytes)) in
    let tail : List ℕ = behind kind (entry_at kind bytes) (is_nothing (rest_at bytes)) (rest_at bytes) in
    let parts : head kind (entry_at kind bytes).numbers next (length (entry_at kind bytes).name) ++ tail ≡ bytes
    = sym (spelled ∙ entry-parts kind (entry_at kind bytes) (is_nothing (rest_at bytes)) (rest_at bytes)) in
    record {
      is_packed = record {
        numbers = subst (λ (bs : List ℕ). NumbersFit (numbers_at kind bs)) parts (numbers-fit kind (entry_at kind bytes).numbers next (length (entry_at kind bytes).name) tail);
        only = numbers-shown kind bytes;
        name = (inner kind (units_in (field_of kind bytes)), refl);
        len = spelled-len kind bytes (subst (λ (bs : List ℕ). len_at kind bs < 2 ^ 32) parts
            (rw (len-head kind (entry_at kind bytes).numbers next (length (entry_at kind bytes).name) tail) (four-small (length (entry_at kind bytes).name))));
        next = spelled-next kind bytes (entry_at kind bytes) (subst (λ (bs : List ℕ). next_at bs < 2 ^ 32) parts
            (rw (next-head kind (entry_at kind bytes).numbers next (length (entry_at kind bytes).name) tail) (four-small next))) spelled;
      };
      spelled = spelled;
    }

-- what was tested, where an entry is given
record IsSpelled (kind : PackKind) (buffer : List ℕ) (made : Packed) (left : List ℕ) (e : Packed) (rest : List ℕ) : Type 0 where
  spelled : entry_bytes kind made (is_nothing left) ++ left ≡ buffer
  entry : made ≡ e
  left_is : left ≡ rest

if_spelled-some : (kind : PackKind) (buffer : List ℕ) (made : Packed) (left : List ℕ) (e : Packed) (rest : List ℕ) → if_spelled kind buffer made left ≡ Some (e, rest) → IsSpelled kind buffer made left e rest
if_spelled-some kind buffer made left e rest is = elim (cases_Bool (same (entry_bytes kind made (is_nothing left) ++ left) buffer)) [
  | inr other ↦ absurd (let impossible : None ≡ Some (e, rest) = rw other at is in cc)
  | inl spelled ↦ (
      let both : Some (made, left) ≡ Some (e, rest) = rw spelled at is in
      record {
        spelled = (bytes_decides (entry_bytes kind made (is_nothing left) ++ left) buffer).0 spelled;
        entry = ap (λ (p : Packed × List ℕ). p.0) (some_equal (made, left) (e, rest) both);
        left_is = ap (λ (p : Packed × List ℕ). p.1) (some_equal (made, left) (e, rest) both);
      })
]

-- what is read begins so
pub read-StartsWith : (kind : PackKind) (buffer : List ℕ) (e : Packed) (rest : List ℕ) → read_entry kind buffer ≡ Some (e, rest) → StartsWith kind buffer e rest
unfolding read_entry
read-StartsWith kind buffer e rest is =
    let found : IsSpelled kind buffer (entry_at kind buffer) (rest_at buffer) e rest = if_spelled-some kind buffer (entry_at kind buffer) (rest_at buffer) e rest is in
    let here : StartsWith kind buffer (entry_at kind buffer) (rest_at buffer) = spelled-starts kind buffer (sym found.spelled) in
    subst (λ (p : Packed). StartsWith kind buffer p rest) found.entry (subst (λ (r : List ℕ). StartsWith kind buffer (entry_at kind buffer) r) found.left_is here)

-- ---- the entries of a buffer

-- so many entries as there are bytes are enough
first-enough : (most more : ℕ) (kind : PackKind) (bytes : List ℕ) → length bytes ≤ most → length bytes ≤ more → first_entries most kind bytes ≡ first_entries more kind bytes
first-enough zero zero kind bytes few also = refl
first-enough zero (suc more) kind bytes few also = elim (option_cases (read_entry kind bytes)) [
  | inl none ↦ rw none refl
  | inr some ↦ absurd (let longer = StartsWith-longer kind bytes some.0.0 some.0.1 (read-StartsWith kind bytes some.0.0 some.0.1 some.1) in omega (arith, longer, few))
]
first-enough (suc most) zero kind bytes few also = elim (option_cases (read_entry kind bytes)) [
  | inl none ↦ rw none refl
  | inr some ↦ absurd (let longer = StartsWith-longer kind bytes some.0.0 some.0.1 (read-StartsWith kind bytes some.0.0 some.0.1 some.1) in omega (arith, longer, also))
]
first-enough (suc most) (suc more) kind bytes few also = elim (option_cases (read_entry kind bytes)) [
  | inl none ↦ rw none refl
  | inr some ↦ (
      let longer = StartsWith-longer kind bytes some.0.0 some.0.1 (read-StartsWith kind bytes some.0.0 some.0.1 some.1) in
      rw some.1 (ap (λ (es : List Packed). some.0.0 ∷ es) (first-enough most more kind some.0.1 (omega (arith, longer, few)) (omega (arith, longer, also)))))
]

-- no entry begins there
pub entries-none : (kind : PackKind) (bytes : List ℕ) → read_entry kind bytes ≡ None → entries_in kind bytes ≡ []
entries-none kind [] is = refl
entries-none kind (byte ∷ bytes) is = rw is refl

-- one does
pub entries-step : (kind : PackKind) (bytes : List ℕ) (e : Packed) (rest : List ℕ) → read_entry kind bytes ≡ Some (e, rest) → entries_in kind bytes ≡ e ∷ entries_in kind rest
entries-step kind [] e rest is = absurd (let longer = StartsWith-longer kind [] e rest (read-StartsWith kind [] e rest is) in omega (arith, longer))
entries-step kind (byte ∷ bytes) e rest is =
    let longer = StartsWith-longer kind (byte ∷ bytes) e rest (read-StartsWith kind (byte ∷ bytes) e rest is) in
    rw is (ap (λ (es : List Packed). e ∷ es) (first-enough (length bytes) (length rest) kind rest (omega (arith, longer)) (omega arith)))

pub packed_text-none : (kind : PackKind) (bytes : List ℕ) → read_entry kind bytes ≡ None → packed_text kind bytes ≡ []
packed_text-none kind bytes is = ap (flat_map (entry_text kind)) (entries-none kind bytes is)

pub packed_text-step : (kind : PackKind) (bytes : List ℕ) (e : Packed) (rest : List ℕ) → read_entry kind bytes ≡ Some (e, rest) → packed_text kind bytes ≡ entry_text kind e ++ packed_text kind rest
packed_text-step kind bytes e rest is = ap (flat_map (entry_text kind)) (entries-step kind bytes e rest is)

-- ---- rows that are packed

some-bytes : (kind : PackKind) (e : Packed) (es : List Packed) → is_nothing (entries_bytes kind (e ∷ es)) ≡ false
some-bytes kind e es =
    let a = length-parts kind e (is_nothing es) (entries_bytes kind es) in
    of (entry_bytes kind e (is_nothing es) ++ entries_bytes kind es) (omega (arith, a, (bounds kind).some))
  where
    of : (xs : List ℕ) → 0 < length xs → is_nothing xs ≡ false
    of [] some = absurd (omega arith)
    of (x ∷ xs) some = refl

nothing-written : (kind : PackKind) (es : List Packed) → is_nothing (entries_bytes kind es) ≡ is_nothing es
nothing-written kind [] = refl
nothing-written kind (e ∷ es) = some-bytes kind e es

shown-fit : (kind : PackKind) (n : Numbers) → NumbersFit n → NumbersFit (shown kind n)
shown-fit Changes n f = record { action = f.action; creation = omega arith; access = omega arith; write = omega arith; change = omega arith; length = omega arith; room = omega arith; attributes = omega arith; file = omega arith }
shown-fit Names n f = record { action = omega arith; creation = omega arith; access = omega arith; write = omega arith; change = omega arith; length = omega arith; room = omega arith; attributes = omega arith; file = omega arith }
shown-fit Dir n f = record { action = omega arith; creation = f.creation; access = f.access; write = f.write; change = f.change; length = f.length; room = f.room; attributes = f.attributes; file = omega arith }
shown-fit Full n f = record { action = omega arith; creation = f.creation; access = f.access; write = f.write; change = f.change; length = f.length; room = f.room; attributes = f.attributes; file = omega arith }
shown-fit IdFull n f = record { action = omega arith; creation = f.creation; access = f.access; write = f.write; change = f.change; length = f.length; room = f.room; attributes = f.attributes; file = f.file }
shown-fit Streams n f = record { action = omega arith; creation = omega arith; access = omega arith; write = omega arith; change = omega arith; length = f.length; room = f.room; attributes = omega arith; file = omega arith }

shown-twice : (kind : PackKind) (n : Numbers) → shown kind (shown kind n) ≡ shown kind n
shown-twice Changes n = refl
shown-twice Names n = refl
shown-twice Dir n = refl
shown-twice Full n = refl
shown-twice IdFull n = refl
shown-twice Streams n = refl

packed-fits : (kind : PackKind) (row : PackRow) (last : Bool) → RowFits row → IsPacked kind (packed kind row) last
packed-fits kind row last fits =
    let a = length-name_of kind row.name in
    let b = bounds kind in
    let c = (rounds kind (size_of kind (packed kind row))).1 in
    record {
      numbers = shown-fit kind row.numbers fits.numbers;
      only = shown-twice kind row.numbers;
      name = (row.name, refl);
      len = omega (arith, a, b.parts, fits.short);
      next = λ more. omega (arith, a, b.parts, b.small, c, fits.short);
    }

shown_text-shown : (kind : PackKind) (n : Numbers) (units : List ℕ) → shown_text kind (shown kind n) units ≡ shown_text kind n units
shown_text-shown Changes n units = refl
shown_text-shown Names n units = refl
shown_text-shown Dir n units = refl
shown_text-shown Full n units = refl
shown_text-shown IdFull n units = refl
shown_text-shown Streams n units = refl

entry_text-row : (kind : PackKind) (row : PackRow) → AreUnits row.name → entry_text kind (packed kind row) ≡ row_text kind row
entry_text-row kind row units =
    shown_text-shown kind row.numbers (units_in (name_field kind row.name))
    ∙ ap (shown_text kind row.numbers) (units-name kind row.name ∙ ap (λ (us : List ℕ). before_name kind ++ us ++ after_name kind) (low-same row.name units))

row-starts : (kind : PackKind) (row : PackRow) (rows : List PackRow) → RowFits row → StartsWith kind (bytes kind (row ∷ rows)) (packed kind row) (bytes kind rows)
row-starts kind row rows fits =
    let last : is_nothing (bytes kind rows) ≡ is_nothing (map (packed kind) rows) = nothing-written kind (map (packed kind) rows) in
    record {
      is_packed = packed-fits kind row (is_nothing (bytes kind rows)) fits;
      spelled = ap (λ (l : Bool). entry_bytes kind (packed kind row) l ++ bytes kind rows) (sym last);
    }

-- what is printed of rows that are packed is the text of each
pub packed_text-rows : (kind : PackKind) (rows : List PackRow) → RowsFit rows → packed_text kind (bytes kind rows) ≡ flat_map (row_text kind) rows
packed_text-rows kind [] fit = refl
packed_text-rows kind (row ∷ rows) fit =
    packed_text-step kind (bytes kind (row ∷ rows)) (packed kind row) (bytes kind rows) (StartsWith-read kind (bytes kind (row ∷ rows)) (packed kind row) (bytes kind rows) (row-starts kind row rows fit.0))
    ∙ (λ i. entry_text-row kind row fit.0.units i ++ packed_text-rows kind rows fit.1 i)
