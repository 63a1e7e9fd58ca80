-- Numbers that are read, and that no other numbers are spelled so.
use Rattle.std.proofs.Common.{◌≡◌, ℕ, ◌<◌, ◌≤◌, ◌^◌, List, [], ◌∷◌, ◌++◌, length, get_or, suc, zero, take, drop, refl, sym, ap, ◌∙◌, arith, inl, inr, ◌-◌, true, false, nat_eq, Some, None}
use Rattle.std.specs.Int.{w16, w32, w64, from_le_bytes, to_le_bytes}
use Rattle.std.specs.List.{flat_map}
use Rattle.std.proofs.lemmas.Bool.{cases_lt, lt-ltb, le-ltb, eq-eqb, ne_eqb}
use Rattle.std.proofs.lemmas.List.{take-append-drop, length-take, get_or-take, get_or_past}
use Rattle.std.proofs.lemmas.Nat.{le_bytes_2, from_le_bytes-to_le_bytes_2, le_bytes_4, le_bytes_8, from_le_bytes-to_le_bytes_4, from_le_bytes-to_le_bytes_8}
use Rattle.byteorder.specs.Endian.{little_number}
use Rattle.fsa_types.specs.LittleEndian.{little_endian}
use Rattle.fsa_types.specs.declared.reply.PackKind.{PackKind}
use Rattle.fsa_types.specs.declared.reply.PackKind.TheVariants.{Names, Dir, Full, IdFull, Streams, Changes}
use Rattle.fsa_types.specs.LittleEndian.{Field, Four, Eight}
use Rattle.fsa_types.specs.PackedRows.{Numbers, NumbersFit}
use Rattle.pack_info.specs.declared.reading.Head.{Head}
use Rattle.fsa_types.specs.LittleEndian.{field_bytes}
use Rattle.fsa_types.specs.Packing.{fields, head, shown}
use Rattle.fsa_types.specs.FixedBuffers.{reparse_bytes, read_reparse}
use Rattle.pack_info.specs.Reading.{raw_fields, raw_head, IsPlain, HeadFits}

abbrev pub IsBytes : List ℕ → Type 0
IsBytes bytes = (i : ℕ) → get_or bytes i 0 < 256

pub IsBytes-take : (n : ℕ) (bytes : List ℕ) → IsBytes bytes → IsBytes (take n bytes)
IsBytes-take n bytes h i =
    elim (cases_lt i n) [
      | inl lt ↦ rw (get_or-take n bytes i 0 lt) (h i)
      | inr le ↦ rw (get_or_past (take n bytes) i 0 (omega (arith, length-take n bytes))) (omega arith)
    ]

-- a number that is read is that of its bytes
number_2 : (bytes : List ℕ) → 2 ≤ length bytes → little_number 2 bytes ≡ from_le_bytes w16 (take 2 bytes)
number_2 [] long = absurd (omega arith)
number_2 (a ∷ []) long = absurd (omega arith)
number_2 (a ∷ b ∷ rest) long = omega arith

number_4 : (bytes : List ℕ) → 4 ≤ length bytes → little_number 4 bytes ≡ from_le_bytes w32 (take 4 bytes)
number_4 [] long = absurd (omega arith)
number_4 (a ∷ []) long = absurd (omega arith)
number_4 (a ∷ b ∷ []) long = absurd (omega arith)
number_4 (a ∷ b ∷ c ∷ []) long = absurd (omega arith)
number_4 (a ∷ b ∷ c ∷ d ∷ rest) long = omega arith

number_8 : (bytes : List ℕ) → 8 ≤ length bytes → little_number 8 bytes ≡ from_le_bytes w64 (take 8 bytes)
number_8 [] long = absurd (omega arith)
number_8 (a ∷ []) long = absurd (omega arith)
number_8 (a ∷ b ∷ []) long = absurd (omega arith)
number_8 (a ∷ b ∷ c ∷ []) long = absurd (omega arith)
number_8 (a ∷ b ∷ c ∷ d ∷ []) long = absurd (omega arith)
number_8 (a ∷ b ∷ c ∷ d ∷ e ∷ []) long = absurd (omega arith)
number_8 (a ∷ b ∷ c ∷ d ∷ e ∷ f ∷ []) long = absurd (omega arith)
number_8 (a ∷ b ∷ c ∷ d ∷ e ∷ f ∷ g ∷ []) long = absurd (omega arith)
number_8 (a ∷ b ∷ c ∷ d ∷ e ∷ f ∷ g ∷ h ∷ rest) long = omega arith

pub read_4 : (bytes : List ℕ) (n : ℕ) → 4 ≤ length bytes → IsBytes bytes → n ≡ little_number 4 bytes → bytes ≡ little_endian 4 n ++ drop 4 bytes
read_4 bytes n long fits e =
    let back : to_le_bytes w32 n ≡ take 4 bytes = le_bytes_4 (take 4 bytes) n (omega (arith, length-take 4 bytes)) (IsBytes-take 4 bytes fits) (e ∙ number_4 bytes long) in
    sym (take-append-drop 4 bytes) ∙ ap (λ (xs : List ℕ). xs ++ drop 4 bytes) (sym back)

pub read_8 : (bytes : List ℕ) (n : ℕ) → 8 ≤ length bytes → IsBytes bytes → n ≡ little_number 8 bytes → bytes ≡ little_endian 8 n ++ drop 8 bytes
read_8 bytes n long fits e =
    let back : to_le_bytes w64 n ≡ take 8 bytes = le_bytes_8 (take 8 bytes) n (omega (arith, length-take 8 bytes)) (IsBytes-take 8 bytes fits) (e ∙ number_8 bytes long) in
    sym (take-append-drop 8 bytes) ∙ ap (λ (xs : List ℕ). xs ++ drop 8 bytes) (sym back)

abbrev pub Fit : Field → Type 0
Fit (Four n) = n < 2 ^ 32
Fit (Eight n) = n < 2 ^ 64

abbrev pub AllFit : List Field → Type 0
AllFit [] = Unit {0}
AllFit (x ∷ xs) = Fit x × AllFit xs

abbrev pub IsShaped : List Field → List Field → Type 0
IsShaped [] [] = Unit {0}
IsShaped (Four a ∷ xs) (Four b ∷ ys) = IsShaped xs ys
IsShaped (Eight a ∷ xs) (Eight b ∷ ys) = IsShaped xs ys
IsShaped _ _ = ⊥

-- numbers of the same widths that are spelled alike are the same, and so is what follows
pub one_spelling : (xs ys : List Field) (r s : List ℕ) → IsShaped xs ys → AllFit xs → AllFit ys → flat_map field_bytes xs ++ r ≡ flat_map field_bytes ys ++ s → (xs ≡ ys) × (r ≡ s)
one_spelling [] [] r s shape fx fy e = (refl, e)
one_spelling [] (y ∷ ys) r s shape fx fy e = absurd shape
one_spelling (Four a ∷ xs) [] r s shape fx fy e = absurd shape
one_spelling (Eight a ∷ xs) [] r s shape fx fy e = absurd shape
one_spelling (Four a ∷ xs) (Eight b ∷ ys) r s shape fx fy e = absurd shape
one_spelling (Eight a ∷ xs) (Four b ∷ ys) r s shape fx fy e = absurd shape
one_spelling (Four a ∷ xs) (Four b ∷ ys) r s shape fx fy e =
    let front : to_le_bytes w32 a ≡ to_le_bytes w32 b = cc in
    let rest : flat_map field_bytes xs ++ r ≡ flat_map field_bytes ys ++ s = cc in
    let same : a ≡ b = sym (from_le_bytes-to_le_bytes_4 a fx.0) ∙ ap (from_le_bytes w32) front ∙ from_le_bytes-to_le_bytes_4 b fy.0 in
    let ih = one_spelling xs ys r s shape fx.1 fy.1 rest in
    (cc, ih.1)
one_spelling (Eight a ∷ xs) (Eight b ∷ ys) r s shape fx fy e =
    let front : to_le_bytes w64 a ≡ to_le_bytes w64 b = cc in
    let rest : flat_map field_bytes xs ++ r ≡ flat_map field_bytes ys ++ s = cc in
    let same : a ≡ b = sym (from_le_bytes-to_le_bytes_8 a fx.0) ∙ ap (from_le_bytes w64) front ∙ from_le_bytes-to_le_bytes_8 b fy.0 in
    let ih = one_spelling xs ys r s shape fx.1 fy.1 rest in
    (cc, ih.1)

-- what a head that was read is, where an entry begins so
pub record IsHeadOf (kind : PackKind) (h : Head) (n : Numbers) (next len : ℕ) (r s : List ℕ) : Type 0 where
  pub constants : (h.index ≡ 0) × (h.attributes_size ≡ 0) × (h.reserved ≡ 0)
  pub next_is : h.next ≡ next
  pub len_is : h.len ≡ len
  pub numbers_are : h.numbers ≡ shown kind n
  pub rest_is : r ≡ s

-- the number of the field at a place, and 0 behind the last
abbrev number_at : ℕ → List Field → ℕ
number_at n [] = 0
number_at zero (Four x ∷ rest) = x
number_at zero (Eight x ∷ rest) = x
number_at (suc n) (x ∷ rest) = number_at n rest

same_fields : (kind : PackKind) (h : Head) (n : Numbers) (next len : ℕ) (r s : List ℕ) → IsPlain kind h → raw_fields kind h ≡ fields kind n next len → r ≡ s → IsHeadOf kind h n next len r s
same_fields Changes h n next len r s plain e rest = record { constants = plain.blank; next_is = ap (number_at 0) e; len_is = ap (number_at 2) e; numbers_are = let a : h.numbers.action ≡ n.action = ap (number_at 1) e in sym plain.numbers ∙ rw a refl; rest_is = rest }
same_fields Names h n next len r s plain e rest = record { constants = (ap (number_at 1) e, plain.blank.0, plain.blank.1); next_is = ap (number_at 0) e; len_is = ap (number_at 2) e; numbers_are = sym plain.numbers; rest_is = rest }
same_fields Streams h n next len r s plain e rest = record { constants = plain.blank; next_is = ap (number_at 0) e; len_is = ap (number_at 1) e; numbers_are = let a : h.numbers.length ≡ n.length = ap (number_at 2) e in let b : h.numbers.room ≡ n.room = ap (number_at 3) e in sym plain.numbers ∙ rw (a, b) refl; rest_is = rest }
same_fields Dir h n next len r s plain e rest = record {
  constants = (ap (number_at 1) e, plain.blank.0, plain.blank.1);
  next_is = ap (number_at 0) e;
  len_is = ap (number_at 9) e;
  numbers_are =
      let a : h.numbers.creation ≡ n.creation = ap (number_at 2) e in let b : h.numbers.access ≡ n.access = ap (number_at 3) e in let c : h.numbers.write ≡ n.write = ap (number_at 4) e in let d : h.numbers.change ≡ n.change = ap (number_at 5) e in
      let f : h.numbers.length ≡ n.length = ap (number_at 6) e in let g : h.numbers.room ≡ n.room = ap (number_at 7) e in let i : h.numbers.attributes ≡ n.attributes = ap (number_at 8) e in
      sym plain.numbers ∙ rw (a, b, c, d, f, g, i) refl;
  rest_is = rest;
}
same_fields Full h n next len r s plain e rest = record {
  constants = (ap (number_at 1) e, ap (number_at 10) e, plain.blank);
  next_is = ap (number_at 0) e;
  len_is = ap (number_at 9) e;
  numbers_are =
      let a : h.numbers.creation ≡ n.creation = ap (number_at 2) e in let b : h.numbers.access ≡ n.access = ap (number_at 3) e in let c : h.numbers.write ≡ n.write = ap (number_at 4) e in let d : h.numbers.change ≡ n.change = ap (number_at 5) e in
      let f : h.numbers.length ≡ n.length = ap (number_at 6) e in let g : h.numbers.room ≡ n.room = ap (number_at 7) e in let i : h.numbers.attributes ≡ n.attributes = ap (number_at 8) e in
      sym plain.numbers ∙ rw (a, b, c, d, f, g, i) refl;
  rest_is = rest;
}
same_fields IdFull h n next len r s plain e rest = record {
  constants = (ap (number_at 1) e, ap (number_at 10) e, ap (number_at 11) e);
  next_is = ap (number_at 0) e;
  len_is = ap (number_at 9) e;
  numbers_are =
      let a : h.numbers.creation ≡ n.creation = ap (number_at 2) e in let b : h.numbers.access ≡ n.access = ap (number_at 3) e in let c : h.numbers.write ≡ n.write = ap (number_at 4) e in let d : h.numbers.change ≡ n.change = ap (number_at 5) e in
      let f : h.numbers.length ≡ n.length = ap (number_at 6) e in let g : h.numbers.room ≡ n.room = ap (number_at 7) e in let i : h.numbers.attributes ≡ n.attributes = ap (number_at 8) e in let j : h.numbers.file ≡ n.file = ap (number_at 12) e in
      sym plain.numbers ∙ rw (a, b, c, d, f, g, i, j) refl;
  rest_is = rest;
}

shaped : (kind : PackKind) (h : Head) (n : Numbers) (next len : ℕ) → IsShaped (raw_fields kind h) (fields kind n next len)
shaped Changes h n next len = tt
shaped Names h n next len = tt
shaped Dir h n next len = tt
shaped Full h n next len = tt
shaped IdFull h n next len = tt
shaped Streams h n next len = tt

raw_fit : (kind : PackKind) (h : Head) → HeadFits h → AllFit (raw_fields kind h)
raw_fit Changes h f = (f.next, (f.numbers.action, (f.len, tt)))
raw_fit Names h f = (f.next, (f.index, (f.len, tt)))
raw_fit Dir h f = (f.next, (f.index, (f.numbers.creation, (f.numbers.access, (f.numbers.write, (f.numbers.change, (f.numbers.length, (f.numbers.room, (f.numbers.attributes, (f.len, tt))))))))))
raw_fit Full h f = (f.next, (f.index, (f.numbers.creation, (f.numbers.access, (f.numbers.write, (f.numbers.change, (f.numbers.length, (f.numbers.room, (f.numbers.attributes, (f.len, (f.attributes_size, tt)))))))))))
raw_fit IdFull h f = (f.next, (f.index, (f.numbers.creation, (f.numbers.access, (f.numbers.write, (f.numbers.change, (f.numbers.length, (f.numbers.room, (f.numbers.attributes, (f.len, (f.attributes_size, (f.reserved, (f.numbers.file, tt)))))))))))))
raw_fit Streams h f = (f.next, (f.len, (f.numbers.length, (f.numbers.room, tt))))

fields_fit : (kind : PackKind) (n : Numbers) (next len : ℕ) → NumbersFit n → next < 2 ^ 32 → len < 2 ^ 32 → AllFit (fields kind n next len)
fields_fit Changes n next len f a b = (a, (f.action, (b, tt)))
fields_fit Names n next len f a b = (a, (omega arith, (b, tt)))
fields_fit Dir n next len f a b = (a, (omega arith, (f.creation, (f.access, (f.write, (f.change, (f.length, (f.room, (f.attributes, (b, tt))))))))))
fields_fit Full n next len f a b = (a, (omega arith, (f.creation, (f.access, (f.write, (f.change, (f.length, (f.room, (f.attributes, (b, (omega arith, tt)))))))))))
fields_fit IdFull n next len f a b = (a, (omega arith, (f.creation, (f.access, (f.write, (f.change, (f.length, (f.room, (f.attributes, (b, (omega arith, (omega arith, (f.file, tt)))))))))))))
fields_fit Streams n next len f a b = (a, (b, (f.length, (f.room, tt))))

-- what begins as an entry was read as its head
pub one_head : (kind : PackKind) (h : Head) (n : Numbers) (next len : ℕ) (r s : List ℕ) → IsPlain kind h → HeadFits h → NumbersFit n → next < 2 ^ 32 → len < 2 ^ 32
    → raw_head kind h ++ r ≡ head kind n next len ++ s → IsHeadOf kind h n next len r s
unfolding raw_head head
one_head kind h n next len r s plain hf nf a b e =
    let same = one_spelling (raw_fields kind h) (fields kind n next len) r s (shaped kind h n next len) (raw_fit kind h hf) (fields_fit kind n next len nf a b) e in
    same_fields kind h n next len r s plain same.0 same.1

-- a head whose constants are 0 is that of its numbers
pub sound_head : (kind : PackKind) (h : Head) → h.index ≡ 0 → h.attributes_size ≡ 0 → h.reserved ≡ 0 → raw_head kind h ≡ head kind h.numbers h.next h.len
unfolding raw_head head
sound_head Changes h a b c = refl
sound_head Names h a b c = rw a refl
sound_head Dir h a b c = rw a refl
sound_head Full h a b c = rw (a, b) refl
sound_head IdFull h a b c = rw (a, b, c) refl
sound_head Streams h a b c = refl

pub read_2 : (bytes : List ℕ) (n : ℕ) → 2 ≤ length bytes → IsBytes bytes → n ≡ little_number 2 bytes → bytes ≡ little_endian 2 n ++ drop 2 bytes
read_2 bytes n long fits e =
    let back : to_le_bytes w16 n ≡ take 2 bytes = le_bytes_2 (take 2 bytes) n (omega (arith, length-take 2 bytes)) (IsBytes-take 2 bytes fits) (e ∙ number_2 bytes long) in
    sym (take-append-drop 2 bytes) ∙ ap (λ (xs : List ℕ). xs ++ drop 2 bytes) (sym back)

pub one_length : (bytes : List ℕ) (tag len reserved t s : ℕ) (content c : List ℕ) → len < 2 ^ 16 → bytes ≡ little_endian 4 tag ++ (little_endian 2 len ++ (little_endian 2 reserved ++ content)) → length c ≤ 65535 → bytes ≡ reparse_bytes t s c → len ≡ length content
one_length bytes tag len reserved t s content c fits read le is =
    let e : little_endian 4 tag ++ (little_endian 2 len ++ (little_endian 2 reserved ++ content)) ≡ reparse_bytes t s c = sym read ∙ is in
    let front : to_le_bytes w16 len ≡ to_le_bytes w16 (length c) = cc in
    let rest : content ≡ c = cc in
    sym (from_le_bytes-to_le_bytes_2 len fits) ∙ ap (from_le_bytes w16) front ∙ from_le_bytes-to_le_bytes_2 (length c) (omega arith) ∙ ap length (sym rest)

pub too_few_bytes : (bytes : List ℕ) (t s : ℕ) (c : List ℕ) → length bytes < 8 → bytes ≡ reparse_bytes t s c → ⊥
too_few_bytes bytes t s c lt is = omega (arith, lt, ap length is)

pub is_reparse : (bytes : List ℕ) (tag len reserved : ℕ) (content : List ℕ) → bytes ≡ little_endian 4 tag ++ (little_endian 2 len ++ (little_endian 2 reserved ++ content)) → len ≡ length content → bytes ≡ reparse_bytes tag reserved content
is_reparse bytes tag len reserved content read e = read ∙ rw e refl

-- what is read of a reparse point
pub reparse_short : (bytes : List ℕ) → length bytes < 8 → read_reparse bytes ≡ None
reparse_short bytes short = let t = lt-ltb (length bytes) 8 short in rw t refl

-- the numbers that were read one after the other
pub record Reads (bytes : List ℕ) (tag len reserved : ℕ) (content : List ℕ) : Type 0 where
  pub tag_fits : tag < 2 ^ 32
  pub len_fits : len < 2 ^ 16
  pub long : 8 ≤ length bytes
  pub spelled : bytes ≡ little_endian 4 tag ++ (little_endian 2 len ++ (little_endian 2 reserved ++ content))

length_read : (bytes : List ℕ) (tag len reserved : ℕ) (content : List ℕ) → Reads bytes tag len reserved content → from_le_bytes w16 (take 2 (drop 4 bytes)) ≡ len
length_read bytes tag len reserved content r = rw r.spelled (from_le_bytes-to_le_bytes_2 len r.len_fits)

tag_read : (bytes : List ℕ) (tag len reserved : ℕ) (content : List ℕ) → Reads bytes tag len reserved content → from_le_bytes w32 (take 4 bytes) ≡ tag
tag_read bytes tag len reserved content r = rw r.spelled (from_le_bytes-to_le_bytes_4 tag r.tag_fits)

content_read : (bytes : List ℕ) (tag len reserved : ℕ) (content : List ℕ) → Reads bytes tag len reserved content → drop 8 bytes ≡ content
content_read bytes tag len reserved content r = rw r.spelled refl

content_length : (bytes : List ℕ) (tag len reserved : ℕ) (content : List ℕ) → Reads bytes tag len reserved content → length bytes - 8 ≡ length content
content_length bytes tag len reserved content r = omega (arith, ap length r.spelled)

pub reparse_other : (bytes : List ℕ) (tag len reserved : ℕ) (content : List ℕ) → Reads bytes tag len reserved content → (len ≡ length content → ⊥) → read_reparse bytes ≡ None
reparse_other bytes tag len reserved content r other =
    let a = le-ltb (length bytes) 8 r.long in
    let n = length_read bytes tag len reserved content r in
    let m = content_length bytes tag len reserved content r in
    let b : nat_eq (from_le_bytes w16 (take 2 (drop 4 bytes))) (length bytes - 8) ≡ false = ne_eqb _ _ (λ e. other (sym n ∙ e ∙ m)) in
    rw (a, b) refl

pub reparse_read : (bytes : List ℕ) (tag len reserved : ℕ) (content : List ℕ) → Reads bytes tag len reserved content → len ≡ length content → read_reparse bytes ≡ Some (tag, content)
reparse_read bytes tag len reserved content r same =
    let a = le-ltb (length bytes) 8 r.long in
    let n = length_read bytes tag len reserved content r in
    let m = content_length bytes tag len reserved content r in
    let b : nat_eq (from_le_bytes w16 (take 2 (drop 4 bytes))) (length bytes - 8) ≡ true = eq-eqb _ _ (n ∙ same ∙ sym m) in
    rw (a, b, tag_read bytes tag len reserved content r, content_read bytes tag len reserved content r) refl
