-- What stands behind the head of an entry.
use Rattle.std.proofs.Common.{◌≡◌, ℕ, zero, suc, ◌+◌, ◌-◌, ◌<◌, ◌≤◌, List, [], ◌∷◌, ◌++◌, length, get_or, take, drop, refl, sym, ap, subst, ◌∙◌, arith, length-append}
use Rattle.std.proofs.lemmas.List.{take_at, drop_at, take-append-drop, append-nil, nil_from_length, length-take, length-drop}
use Rattle.fsa_types.specs.declared.reply.PackKind.{PackKind}
use Rattle.fsa_types.specs.declared.reply.PackKind.TheVariants.{Names, Dir, Full, IdFull, Streams, Changes}
use Rattle.fsa_types.specs.LittleEndian.{zeros}
use Rattle.fsa_types.specs.Packing.{head_size, rounded, is_nothing}
use Rattle.pack_info.specs.Entries.{padding_of, IsName, IsTail}
use Rattle.pack_info.proofs.NumberLaws.{length-zeros}
use Rattle.pack_info.proofs.PackLaws.{rounds}

pub zeros_are : (xs : List ℕ) → ((k : ℕ) → k < length xs → get_or xs k 0 ≡ 0) → xs ≡ zeros (length xs)
unfolding zeros
zeros_are [] h = refl
zeros_are (x ∷ xs) h =
    let first : x ≡ 0 = h 0 (omega arith) in
    let ih = zeros_are xs (λ k lt. h (suc k) (omega arith)) in
    cc

pub zeros-at : (n k : ℕ) → get_or (zeros n) k 0 ≡ 0
unfolding zeros
zeros-at zero k = refl
zeros-at (suc n) zero = refl
zeros-at (suc n) (suc k) = zeros-at n k

pub head-some : (kind : PackKind) → 0 < head_size kind
head-some Changes = omega arith
head-some Names = omega arith
head-some Dir = omega arith
head-some Full = omega arith
head-some IdFull = omega arith
head-some Streams = omega arith

pub record Parts (kind : PackKind) (len : ℕ) (after name rest : List ℕ) : Type 0 where
  pub front : take len after ≡ name
  pub back : drop len after ≡ padding_of kind (head_size kind + len) (is_nothing rest) ++ rest

pub parts_of : (kind : PackKind) (next len : ℕ) (after name rest : List ℕ) → IsTail kind next len after name rest → Parts kind len after name rest
parts_of kind next len after name rest t = record {
  front = ap (take len) t.spelled ∙ take_at name (padding_of kind (head_size kind + len) (is_nothing rest) ++ rest) len t.len_is;
  back = ap (drop len) t.spelled ∙ drop_at name (padding_of kind (head_size kind + len) (is_nothing rest) ++ rest) len t.len_is;
}

pub too_short : (kind : PackKind) (next len : ℕ) (after name rest : List ℕ) → length after < len → IsTail kind next len after name rest → ⊥
too_short kind next len after name rest lt t =
    omega (arith, t.len_is, ap length t.spelled, length-append name (padding_of kind (head_size kind + len) (is_nothing rest) ++ rest), lt)

pub no_name : (kind : PackKind) (next len : ℕ) (after name rest : List ℕ) → (IsName kind (take len after) → ⊥) → IsTail kind next len after name rest → ⊥
no_name kind next len after name rest bad t = bad (subst (IsName kind) (sym (parts_of kind next len after name rest t).front) t.name_is)

pub not_the_end : (kind : PackKind) (len : ℕ) (after name rest : List ℕ) → 0 < length (drop len after) → IsTail kind 0 len after name rest → ⊥
not_the_end kind len after name [] lt t =
    let e = (parts_of kind 0 len after name [] t).back in
    omega (arith, ap length e, lt)
not_the_end kind len after name (x ∷ rest) lt t =
    omega (arith, t.next_is, (rounds kind (head_size kind + len)).0, head-some kind)

pub wrong_next : (kind : PackKind) (next len : ℕ) (after name rest : List ℕ) → (next ≡ 0 → ⊥) → (next ≡ rounded kind (head_size kind + len) → ⊥) → IsTail kind next len after name rest → ⊥
wrong_next kind next len after name [] zero-no next-no t = zero-no t.next_is
wrong_next kind next len after name (x ∷ rest) zero-no next-no t = next-no t.next_is

pub nothing_behind : (kind : PackKind) (next len : ℕ) (after name rest : List ℕ) → (next ≡ 0 → ⊥) → length (drop len after) ≤ rounded kind (head_size kind + len) - (head_size kind + len) → IsTail kind next len after name rest → ⊥
nothing_behind kind next len after name [] zero-no le t = zero-no t.next_is
nothing_behind kind next len after name (x ∷ rest) zero-no le t =
    let e = (parts_of kind next len after name (x ∷ rest) t).back in
    omega (arith, ap length e, le, length-zeros (rounded kind (head_size kind + len) - (head_size kind + len)), length-append (zeros (rounded kind (head_size kind + len) - (head_size kind + len))) (x ∷ rest))

pub no_padding : (kind : PackKind) (next len : ℕ) (after name rest : List ℕ) → (next ≡ 0 → ⊥)
    → (((k : ℕ) → k < length (take (rounded kind (head_size kind + len) - (head_size kind + len)) (drop len after)) → get_or (take (rounded kind (head_size kind + len) - (head_size kind + len)) (drop len after)) k 0 ≡ 0) → ⊥)
    → IsTail kind next len after name rest → ⊥
no_padding kind next len after name [] zero-no bad t = zero-no t.next_is
no_padding kind next len after name (x ∷ rest) zero-no bad t =
    let pad = rounded kind (head_size kind + len) - (head_size kind + len) in
    let e = (parts_of kind next len after name (x ∷ rest) t).back in
    let z : take (rounded kind (head_size kind + len) - (head_size kind + len)) (drop len after) ≡ zeros (rounded kind (head_size kind + len) - (head_size kind + len))
    = ap (take (rounded kind (head_size kind + len) - (head_size kind + len))) e ∙ take_at (zeros (rounded kind (head_size kind + len) - (head_size kind + len))) (x ∷ rest) (rounded kind (head_size kind + len) - (head_size kind + len)) (length-zeros (rounded kind (head_size kind + len) - (head_size kind + len))) in
    bad (λ k lt. ap (λ (xs : List ℕ). get_or xs k 0) z ∙ zeros-at (rounded kind (head_size kind + len) - (head_size kind + len)) k)

pub last_tail : (kind : PackKind) (next len : ℕ) (after : List ℕ) → len ≤ length after → IsName kind (take len after) → next ≡ 0 → length (drop len after) ≡ 0 → IsTail kind next len after (take len after) (drop len after)
last_tail kind next len after le name next-is none =
    let nothing : drop len after ≡ [] = nil_from_length (drop len after) none in
    let e : after ≡ take len after = sym (take-append-drop len after) ∙ ap (λ (xs : List ℕ). take len after ++ xs) nothing ∙ append-nil (take len after) in
    subst (λ (xs : List ℕ). IsTail kind next len after (take len after) xs) (sym nothing) (record {
      spelled = e ∙ sym (append-nil (take len after));
      len_is = omega (arith, length-take len after);
      next_is = next-is;
      name_is = name;
    })

pub other_tail : (kind : PackKind) (next len pad : ℕ) (after rest : List ℕ) → len ≤ length after → IsName kind (take len after) → next ≡ rounded kind (head_size kind + len) → pad ≡ rounded kind (head_size kind + len) - (head_size kind + len)
    → pad < length (drop len after) → take pad (drop len after) ≡ zeros (length (take pad (drop len after))) → drop pad (drop len after) ≡ rest → IsTail kind next len after (take len after) rest
other_tail kind next len pad after [] le name next-is pad-is more padding rest-is = absurd (omega (arith, ap length rest-is, length-drop pad (drop len after), more))
other_tail kind next len pad after (x ∷ rest) le name next-is pad-is more padding rest-is =
    let n : length (take pad (drop len after)) ≡ pad = omega (arith, length-take pad (drop len after), more) in
    let p : take pad (drop len after) ≡ zeros (rounded kind (head_size kind + len) - (head_size kind + len)) = padding ∙ ap zeros (n ∙ pad-is) in
    let b : drop len after ≡ zeros (rounded kind (head_size kind + len) - (head_size kind + len)) ++ (x ∷ rest) = sym (take-append-drop pad (drop len after)) ∙ rw (p, rest-is) refl in
    record {
      spelled = sym (take-append-drop len after) ∙ ap (λ (xs : List ℕ). take len after ++ xs) b;
      len_is = omega (arith, length-take len after);
      next_is = next-is;
      name_is = name;
    }
