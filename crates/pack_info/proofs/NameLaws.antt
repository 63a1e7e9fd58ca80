-- What can be the field of a name.
use Rattle.std.proofs.Common.{◌≡◌, ℕ, zero, suc, ◌%◌, ◌<◌, Bool, true, false, nat_eq, eq-eqb, List, [], ◌∷◌, ◌++◌, length, refl, sym, ap, subst, ◌∙◌, arith, length-append}
use Rattle.std.specs.Int.{w16, from_le_bytes, to_le_bytes}
use Rattle.std.proofs.lemmas.List.{append-nil, take_at}
use Rattle.std.proofs.lemmas.Bool.{eqb-true}
use Rattle.std.specs.Prelude.{IsTrue}
use Rattle.std.proofs.lemmas.Nat.{le_bytes_2}
use Rattle.fsa_types.specs.declared.reply.PackKind.{PackKind}
use Rattle.fsa_types.specs.declared.reply.PackKind.TheVariants.{Names, Dir, Full, IdFull, Streams, Changes}
use Rattle.fsa_types.specs.LittleEndian.{utf16}
use Rattle.fsa_types.specs.Packing.{before_name, after_name, name_field}
use Rattle.pack_info.specs.Entries.{IsName}
use Rattle.pack_info.proofs.NumberLaws.{length-name_of}
use Rattle.pack_info.proofs.ReadLaws.{IsBytes, IsBytes-take}

two_fit : (a b : ℕ) → a < 256 → b < 256 → IsBytes (a ∷ b ∷ [])
two_fit a b x y zero = x
two_fit a b x y (suc zero) = y
two_fit a b x y (suc (suc i)) = omega arith

-- two bytes for each unit
pub units_exist : (xs : List ℕ) → IsBytes xs → length xs % 2 ≡ 0 → (units : List ℕ) × (xs ≡ utf16 units)
units_exist [] fits even = ([], refl)
units_exist (a ∷ []) fits even = absurd (omega arith)
units_exist (a ∷ b ∷ xs) fits even =
    let ih = units_exist xs (λ i. fits (suc (suc i))) (omega arith) in
    let unit = from_le_bytes w16 (a ∷ b ∷ []) in
    let two : IsBytes (a ∷ b ∷ []) = two_fit a b (fits 0) (fits 1) in
    let back : to_le_bytes w16 (from_le_bytes w16 (a ∷ b ∷ [])) ≡ a ∷ b ∷ [] = le_bytes_2 (a ∷ b ∷ []) (from_le_bytes w16 (a ∷ b ∷ [])) refl two refl in
    (from_le_bytes w16 (a ∷ b ∷ []) ∷ ih.0, ap (λ (ys : List ℕ). ys ++ xs) (sym back) ∙ ap (λ (ys : List ℕ). to_le_bytes w16 (from_le_bytes w16 (a ∷ b ∷ [])) ++ ys) ih.1)

plain_parts : (kind : PackKind) → (kind ≡ Streams → ⊥) → (before_name kind ≡ []) × (after_name kind ≡ [])
plain_parts Names h = (refl, refl)
plain_parts Dir h = (refl, refl)
plain_parts Full h = (refl, refl)
plain_parts IdFull h = (refl, refl)
plain_parts Changes h = (refl, refl)
plain_parts Streams h = absurd (h refl)

pub plain_name : (kind : PackKind) (name : List ℕ) → (kind ≡ Streams → ⊥) → IsBytes name → length name % 2 ≡ 0 → IsName kind name
unfolding name_field
plain_name kind name h fits even =
    let u = units_exist name fits even in
    let p = plain_parts kind h in
    (u.0, u.1 ∙ sym (append-nil (utf16 u.0)) ∙ rw (p.0, p.1) refl)

pub name_even : (kind : PackKind) (name : List ℕ) → IsName kind name → length name % 2 ≡ 0
name_even kind name is = omega (arith, ap length is.1, length-name_of kind is.0)

pub stream_name : (name xs : List ℕ) → name ≡ utf16 (before_name Streams) ++ xs ++ utf16 (after_name Streams) → IsBytes xs → length xs % 2 ≡ 0 → IsName Streams name
unfolding name_field
stream_name name xs e fits even =
    let u = units_exist xs fits even in
    (u.0, e ∙ ap (λ (ys : List ℕ). utf16 (before_name Streams) ++ ys ++ utf16 (after_name Streams)) u.1)

pub stream_even : (name xs : List ℕ) → name ≡ utf16 (before_name Streams) ++ xs ++ utf16 (after_name Streams) → IsName Streams name → length xs % 2 ≡ 0
stream_even name xs e is =
    let a = name_even Streams name is in
    let b = length-append (utf16 (before_name Streams) ++ xs) (utf16 (after_name Streams)) in
    let c = length-append (utf16 (before_name Streams)) xs in
    omega (arith, a, b, c, ap length e)

pub stream_between : (name : List ℕ) → IsName Streams name → (xs : List ℕ) × (name ≡ utf16 (before_name Streams) ++ xs ++ utf16 (after_name Streams))
unfolding name_field
stream_between name is = (utf16 is.0, is.1)

inner_bytes : (name xs : List ℕ) → name ≡ utf16 (before_name Streams) ++ xs ++ utf16 (after_name Streams) → IsBytes name → IsBytes xs
inner_bytes name xs e fits =
    let whole : IsBytes (utf16 (before_name Streams) ++ xs ++ utf16 (after_name Streams)) = subst IsBytes e fits in
    let behind : IsBytes (xs ++ utf16 (after_name Streams)) = λ i. whole (suc (suc i)) in
    subst IsBytes (take_at xs (utf16 (after_name Streams)) (length xs) refl) (IsBytes-take (length xs) (xs ++ utf16 (after_name Streams)) behind)

true_not_false : false ≡ true → ⊥
true_not_false e = cc

-- that a test says whether a field can be that of a name
abbrev pub Tells : Bool → PackKind → List ℕ → Type 0
Tells test kind name = (IsTrue test → IsName kind name) × (IsName kind name → IsTrue test)

pub tells_between : (kind : PackKind) (name xs : List ℕ) → kind ≡ Streams → name ≡ utf16 (before_name Streams) ++ xs ++ utf16 (after_name Streams) → IsBytes name → Tells (nat_eq (length xs % 2) 0) kind name
tells_between kind name xs k e fits = subst (λ (j : PackKind). Tells (nat_eq (length xs % 2) 0) j name) (sym k)
    ((λ t. stream_name name xs e (inner_bytes name xs e fits) (eqb-true (length xs % 2) 0 t)), (λ is. eq-eqb (length xs % 2) 0 (stream_even name xs e is)))

pub tells_none : (kind : PackKind) (name : List ℕ) → kind ≡ Streams → ((xs : List ℕ) → name ≡ utf16 (before_name Streams) ++ xs ++ utf16 (after_name Streams) → ⊥) → Tells false kind name
tells_none kind name k none = subst (λ (j : PackKind). Tells false j name) (sym k)
    ((λ t. absurd (true_not_false t)), (λ is. absurd (let b = stream_between name is in none b.0 b.1)))

pub tells_plain : (kind : PackKind) (name : List ℕ) → (kind ≡ Streams → ⊥) → IsBytes name → Tells (nat_eq (length name % 2) 0) kind name
tells_plain kind name h fits =
    ((λ t. plain_name kind name h fits (eqb-true (length name % 2) 0 t)), (λ is. eq-eqb (length name % 2) 0 (name_even kind name is)))
