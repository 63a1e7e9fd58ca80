use Rattle.std.proofs.Common.{◌≡◌, ◌∙◌, ℕ, List, ◌+◌, ◌-◌, length, take, drop, arith, rules, refl, sym, ap, subst, false}
use Rattle.std.specs.Prelude.{IsTrue, EachIndex, slice_index}
use Rattle.fsa_types.specs.LittleEndian.{zeros}
use Rattle.pack_info.specs.Entries.{IsName}
use Rattle.fsa_types.specs.Packing.{head_size, rounded}
use Rattle.pack_info.proofs.TailLaws.{no_name, nothing_behind, no_padding, other_tail, zeros_are}
use Rattle.pack_info.proofs.tail.tail_at.Goals as goal

pub returns-then-behind-pad-clause-only : goal.returns-then-behind-pad-clause-only
returns-then-behind-pad-clause-only c =
    let p : c.round_up-rounded.result - (c.size_of_head.result + c.args.len) ≡ rounded c.args.kind (head_size c.args.kind + c.args.len) - (head_size c.args.kind + c.args.len) = rw (c.round_up-rounded.ensures, c.size_of_head.ensures) refl in
    let b = ap length c.split_at.ensures.back in
    λ name rest. nothing_behind c.args.kind c.args.next c.args.len c.args.after.now name rest c.if-next-eq0.false (omega (arith, b, c.if-behind-pad.true, p))

pub returns-then-not-are_zeros-clause-only : goal.returns-then-not-are_zeros-clause-only
returns-then-not-are_zeros-clause-only c =
    let q : c.split_at-2.result.0.now ≡ take (rounded c.args.kind (head_size c.args.kind + c.args.len) - (head_size c.args.kind + c.args.len)) (drop c.args.len c.args.after.now)
    = c.split_at-2.ensures.front ∙ rw (c.round_up-rounded.ensures, c.size_of_head.ensures, c.split_at.ensures.back) refl in
    λ name rest. no_padding c.args.kind c.args.next c.args.len c.args.after.now name rest c.if-next-eq0.false (λ all.
    let h : IsTrue false = c.if-not-are_zeros.ensures.1 (subst (λ (xs : List ℕ). EachIndex xs (λ k. slice_index xs k ≡ 0)) (sym q) all) in
    absurd (search rules))

pub returns-clause-found : goal.returns-clause-found
returns-clause-found c =
    let p : c.round_up-rounded.result - (c.size_of_head.result + c.args.len) ≡ rounded c.args.kind (head_size c.args.kind + c.args.len) - (head_size c.args.kind + c.args.len) = rw (c.round_up-rounded.ensures, c.size_of_head.ensures) refl in
    let n : c.args.next ≡ rounded c.args.kind (head_size c.args.kind + c.args.len) = c.if-next-rounded.false ∙ rw (c.round_up-rounded.ensures, c.size_of_head.ensures) refl in
    let name : IsName c.args.kind (take c.args.len c.args.after.now) = subst (IsName c.args.kind) c.split_at.ensures.front (c.if-not-can_be_name.ensures.0 refl) in
    let b = ap length c.split_at.ensures.back in
    let z : c.split_at-2.result.0.now ≡ zeros (length c.split_at-2.result.0.now) = zeros_are c.split_at-2.result.0.now (c.if-not-are_zeros.ensures.0 (search rules)) in
    let pad = c.round_up-rounded.result - (c.size_of_head.result + c.args.len) in
    let q : c.split_at-2.result.0.now ≡ take (c.round_up-rounded.result - (c.size_of_head.result + c.args.len)) (drop c.args.len c.args.after.now)
    = c.split_at-2.ensures.front ∙ ap (take (c.round_up-rounded.result - (c.size_of_head.result + c.args.len))) c.split_at.ensures.back in
    rw c.split_at.ensures.front (other_tail c.args.kind c.args.next c.args.len (c.round_up-rounded.result - (c.size_of_head.result + c.args.len)) c.args.after.now c.split_at-2.result.1.now c.if-after-len.false name n p
    (omega (arith, b, c.if-behind-pad.false)) (subst (λ (xs : List ℕ). xs ≡ zeros (length xs)) q z)
    (ap (drop (c.round_up-rounded.result - (c.size_of_head.result + c.args.len))) (sym c.split_at.ensures.back) ∙ sym c.split_at-2.ensures.back))

pub returns-then-not-can_be_name-clause-only : goal.returns-then-not-can_be_name-clause-only
returns-then-not-can_be_name-clause-only c = λ name rest t. no_name c.args.kind c.args.next c.args.len c.args.after.now name rest
    (λ is. let h : IsTrue false = c.if-not-can_be_name.ensures.1 (subst (IsName c.args.kind) (sym c.split_at.ensures.front) is) in absurd (search rules)) t
