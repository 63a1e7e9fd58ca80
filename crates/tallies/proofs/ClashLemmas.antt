-- The seven counts tell of every clash.
use Rattle.std.proofs.Common.{◌≡◌, ℕ, ◌∙◌, sym, refl, ap, Bool, true, false, not, nat_eq, ◌||◌, ◌&&◌, List, [], ◌∷◌, count_by}
use Rattle.std.proofs.lemmas.Bool.{or_parts}
use Rattle.std.specs.List.{list_any}
use Rattle.fsa_types.specs.Sharing.{reads, writes, deletes, shares_read, shares_write, shares_delete, takes_part, oversteps, clash, clashes}
use Rattle.tallies.specs.Counts.{counts_of, refuses_read, refuses_write, refuses_delete, meets_refusers, meets_users}
use Rattle.tallies.proofs.CountLemmas.{list_any-count_by}

-- tests that agree at each open agree on a list
list_any-same : (p q : (ℕ × ℕ) → Bool) → ((x : ℕ × ℕ) → p x ≡ q x) → (opens : List (ℕ × ℕ)) → list_any p opens ≡ list_any q opens
list_any-same p q same opens = λ i. list_any (λ x. same x i) opens

or_shuffle : (a b c d : Bool) → (a || b || (c || d)) ≡ (a || c || (b || d))
or_shuffle true b c d = refl
or_shuffle false true true d = refl
or_shuffle false true false d = refl
or_shuffle false false c d = refl

list_any-or : (p q : (ℕ × ℕ) → Bool) (opens : List (ℕ × ℕ)) → list_any (λ x. p x || q x) opens ≡ (list_any p opens || list_any q opens)
list_any-or p q [] = refl
list_any-or p q (x ∷ opens) =
    ap (λ rest. (p x || q x) || rest) (list_any-or p q opens) ∙ or_shuffle (p x) (q x) (list_any p opens) (list_any q opens)

list_any-never : (opens : List (ℕ × ℕ)) → list_any (λ x. false) opens ≡ false
list_any-never [] = refl
list_any-never (x ∷ opens) = list_any-never opens

list_any-and : (b : Bool) (p : (ℕ × ℕ) → Bool) (opens : List (ℕ × ℕ)) → list_any (λ x. b && p x) opens ≡ (b && list_any p opens)
list_any-and true p opens = refl
list_any-and false p opens = list_any-never opens

and_swap : (a b : Bool) → (a && b) ≡ (b && a)
and_swap true true = refl
and_swap true false = refl
and_swap false true = refl
and_swap false false = refl

list_any-and_right : (p : (ℕ × ℕ) → Bool) (b : Bool) (opens : List (ℕ × ℕ)) → list_any (λ x. p x && b) opens ≡ (list_any p opens && b)
list_any-and_right p b opens =
    list_any-same (λ x. p x && b) (λ x. b && p x) (λ x. and_swap (p x) b) opens ∙ list_any-and b p opens ∙ and_swap b (list_any p opens)

and_never : (b : Bool) → (b && false) ≡ false
and_never true = refl
and_never false = refl

-- a clash by what each of the two refuses
clash_parts : (part other_part r w d r' w' d' sr sw sd sr' sw' sd' : Bool) → part ≡ (r || w || d) → other_part ≡ (r' || w' || d')
    → (part && other_part && (((r && not sr') || (w && not sw') || (d && not sd')) || ((r' && not sr) || (w' && not sw) || (d' && not sd))))
    ≡ (((r && (other_part && not sr')) || (w && (other_part && not sw')) || (d && (other_part && not sd')))
    || (part && ((r' && not sr) || (w' && not sw) || (d' && not sd))))
clash_parts true true r w d r' w' d' sr sw sd sr' sw' sd' is is' = refl
clash_parts false other_part r w d r' w' d' sr sw sd sr' sw' sd' is is' =
    let outer : ((r || w) ≡ false) × (d ≡ false) = or_parts (r || w) d (sym is) in
    let inner : (r ≡ false) × (w ≡ false) = or_parts r w outer.0 in
    rw (inner.0, inner.1, outer.1) refl
clash_parts true false r w d r' w' d' sr sw sd sr' sw' sd' is is' =
    let outer : ((r' || w') ≡ false) × (d' ≡ false) = or_parts (r' || w') d' (sym is') in
    let inner : (r' ≡ false) × (w' ≡ false) = or_parts r' w' outer.0 in
    rw (inner.0, inner.1, outer.1, and_never r, and_never w, and_never d) refl

-- some open refuses an access that this one has
any_refuses : (access : ℕ) (held : List (ℕ × ℕ))
    → list_any (λ o. (reads access && refuses_read o.0 o.1) || (writes access && refuses_write o.0 o.1) || (deletes access && refuses_delete o.0 o.1)) held
    ≡ meets_refusers (counts_of held) access
any_refuses access held =
    list_any-or (λ o. (reads access && refuses_read o.0 o.1) || (writes access && refuses_write o.0 o.1)) (λ o. deletes access && refuses_delete o.0 o.1) held
    ∙ (λ i.
    list_any-or (λ o. reads access && refuses_read o.0 o.1) (λ o. writes access && refuses_write o.0 o.1) held i
    || list_any-and (deletes access) (λ o. refuses_delete o.0 o.1) held i)
    ∙ (λ i.
    list_any-and (reads access) (λ o. refuses_read o.0 o.1) held i
    || list_any-and (writes access) (λ o. refuses_write o.0 o.1) held i
    || (deletes access && list_any-count_by (λ o. refuses_delete o.0 o.1) held i))
    ∙ (λ i.
    (reads access && list_any-count_by (λ o. refuses_read o.0 o.1) held i)
    || (writes access && list_any-count_by (λ o. refuses_write o.0 o.1) held i)
    || (deletes access && not (nat_eq (count_by (λ o. refuses_delete o.0 o.1) held) 0)))

-- some open has an access that this one doesn't share
any_has : (share : ℕ) (held : List (ℕ × ℕ))
    → list_any (λ o. (reads o.0 && not (shares_read share)) || (writes o.0 && not (shares_write share)) || (deletes o.0 && not (shares_delete share))) held
    ≡ meets_users (counts_of held) share
any_has share held =
    list_any-or (λ o. (reads o.0 && not (shares_read share)) || (writes o.0 && not (shares_write share))) (λ o. deletes o.0 && not (shares_delete share)) held
    ∙ (λ i.
    list_any-or (λ o. reads o.0 && not (shares_read share)) (λ o. writes o.0 && not (shares_write share)) held i
    || list_any-and_right (λ o. deletes o.0) (not (shares_delete share)) held i)
    ∙ (λ i.
    list_any-and_right (λ o. reads o.0) (not (shares_read share)) held i
    || list_any-and_right (λ o. writes o.0) (not (shares_write share)) held i
    || (list_any-count_by (λ o. deletes o.0) held i && not (shares_delete share)))
    ∙ (λ i.
    (list_any-count_by (λ o. reads o.0) held i && not (shares_read share))
    || (list_any-count_by (λ o. writes o.0) held i && not (shares_write share))
    || (not (nat_eq (count_by (λ o. deletes o.0) held) 0) && not (shares_delete share)))

-- the counts tell whether some open clashes
pub clashes-counts_of : (held : List (ℕ × ℕ)) (access share : ℕ)
    → clashes held access share ≡ (meets_refusers (counts_of held) access || takes_part access && meets_users (counts_of held) share)
clashes-counts_of held access share =
    list_any-same (λ o. clash access share o.0 o.1)
    (λ o. ((reads access && refuses_read o.0 o.1) || (writes access && refuses_write o.0 o.1) || (deletes access && refuses_delete o.0 o.1))
    || (takes_part access && ((reads o.0 && not (shares_read share)) || (writes o.0 && not (shares_write share)) || (deletes o.0 && not (shares_delete share)))))
    (λ o. clash_parts (takes_part access) (takes_part o.0) (reads access) (writes access) (deletes access) (reads o.0) (writes o.0) (deletes o.0)
    (shares_read share) (shares_write share) (shares_delete share) (shares_read o.1) (shares_write o.1) (shares_delete o.1) refl refl)
    held
    ∙ list_any-or (λ o. (reads access && refuses_read o.0 o.1) || (writes access && refuses_write o.0 o.1) || (deletes access && refuses_delete o.0 o.1))
    (λ o. takes_part access && ((reads o.0 && not (shares_read share)) || (writes o.0 && not (shares_write share)) || (deletes o.0 && not (shares_delete share)))) held
    ∙ (λ i. any_refuses access held i
    || list_any-and (takes_part access) (λ o. (reads o.0 && not (shares_read share)) || (writes o.0 && not (shares_write share)) || (deletes o.0 && not (shares_delete share))) held i)
    ∙ (λ i. meets_refusers (counts_of held) access || (takes_part access && any_has share held i))

both_swap : (a b c d : Bool) → (a && b && (c || d)) ≡ (b && a && (d || c))
both_swap true true true true = refl
both_swap true true true false = refl
both_swap true true false true = refl
both_swap true true false false = refl
both_swap true false c d = refl
both_swap false true c d = refl
both_swap false false c d = refl

-- whichever of two opens is there first, they clash or not
pub clash-swap : (access share other_access other_share : ℕ) → clash access share other_access other_share ≡ clash other_access other_share access share
clash-swap access share other_access other_share =
    both_swap (takes_part access) (takes_part other_access) (oversteps access other_share) (oversteps other_access share)

pub clashes-swap : (held : List (ℕ × ℕ)) (access share : ℕ) → clashes held access share ≡ list_any (λ o. clash o.0 o.1 access share) held
clashes-swap held access share =
    list_any-same (λ o. clash access share o.0 o.1) (λ o. clash o.0 o.1 access share) (λ o. clash-swap access share o.0 o.1) held
