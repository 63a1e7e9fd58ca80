-- Numbers, units and zeros, one more at a time.
use Rattle.std.proofs.Common.{◌≡◌, ℕ, zero, suc, ◌+◌, ◌-◌, ◌*◌, true, false, List, [], ◌∷◌, ◌++◌, length, refl, sym, ap, ◌∙◌, append_assoc, add-one, arith, length-append}
use Rattle.std.proofs.lemmas.List.Concat.{flat_map-cons}
use Rattle.fsa_types.specs.declared.reply.PackKind.{PackKind}
use Rattle.fsa_types.specs.declared.reply.PackKind.TheVariants.{Names, Dir, Full, IdFull, Streams, Changes}
use Rattle.fsa_types.specs.PackedRows.{Numbers}
use Rattle.fsa_types.specs.Packing.{shown, head, before_name, after_name, name_field, size_of, rounded, entry_bytes}
use Rattle.pack_info.specs.Entries.{entry_with}
use Rattle.fsa_types.specs.LittleEndian.{unit_bytes, utf16, zeros}

pub zeros_more : (n : ℕ) → zeros n ++ 0 ∷ [] ≡ zeros (suc n)
unfolding zeros
zeros_more zero = refl
zeros_more (suc n) = ap (λ (xs : List ℕ). 0 ∷ xs) (zeros_more n)

pub zeros_next : (old now new : List ℕ) (n : ℕ) → now ≡ old ++ zeros n → new ≡ now ++ 0 ∷ [] → new ≡ old ++ zeros (n + 1)
zeros_next old now new n before step =
    step ∙ ap (λ (xs : List ℕ). xs ++ 0 ∷ []) before ∙ append_assoc old (zeros n) (0 ∷ []) ∙ ap (λ (xs : List ℕ). old ++ xs) (zeros_more n ∙ ap zeros (sym (add-one n)))

pub length-zeros : (n : ℕ) → length (zeros n) ≡ n
unfolding zeros
length-zeros zero = refl
length-zeros (suc n) = let e = length-zeros n in omega (arith, e)

pub length-utf16 : (units : List ℕ) → length (utf16 units) ≡ 2 * length units
length-utf16 [] = refl
length-utf16 (unit ∷ units) =
    let ih = length-utf16 units in
    ap length (flat_map-cons unit_bytes unit units) ∙ omega (arith, length-append (unit_bytes unit) (utf16 units), ih)

-- the field of a name has two bytes for each unit
pub length-name_of : (kind : PackKind) (units : List ℕ) → length (name_field kind units) ≡ 2 * (length (before_name kind) + length units + length (after_name kind))
unfolding name_field
length-name_of kind units =
    let a = length-utf16 (before_name kind) in
    let b = length-utf16 units in
    let c = length-utf16 (after_name kind) in
    let d = length-append (utf16 (before_name kind) ++ utf16 units) (utf16 (after_name kind)) in
    let e = length-append (utf16 (before_name kind)) (utf16 units) in
    omega (arith, a, b, c, d, e)

-- a head has the numbers that are shown, and no others
pub head-shown : (kind : PackKind) (n : Numbers) (next len : ℕ) → head kind (shown kind n) next len ≡ head kind n next len
unfolding head
head-shown Changes n next len = refl
head-shown Names n next len = refl
head-shown Dir n next len = refl
head-shown Full n next len = refl
head-shown IdFull n next len = refl
head-shown Streams n next len = refl

-- an entry that is written in parts
pub entry_last : (kind : PackKind) (n : Numbers) (units old a b : List ℕ) → a ≡ old ++ head kind n 0 (length (name_field kind units)) → b ≡ a ++ name_field kind units → b ≡ old ++ entry_bytes kind (entry_with kind n units) true
unfolding entry_bytes
entry_last kind n units old a b p q = rw (q, p, head-shown kind n 0 (length (name_field kind units))) (append_assoc old (head kind n 0 (length (name_field kind units))) (name_field kind units))

pub entry_other : (kind : PackKind) (n : Numbers) (units old a b c : List ℕ) (next size : ℕ) → size ≡ size_of kind (entry_with kind n units) → next ≡ rounded kind size
    → a ≡ old ++ head kind n next (length (name_field kind units)) → b ≡ a ++ name_field kind units → c ≡ b ++ zeros (next - size) → c ≡ old ++ entry_bytes kind (entry_with kind n units) false
unfolding entry_bytes
entry_other kind n units old a b c next size s r p q t = rw (t, q, p, r, s, head-shown kind n (rounded kind (size_of kind (entry_with kind n units))) (length (name_field kind units))) (simp append_assoc)
