-- How counts of opens change, and what a count that isn't zero tells.
use Rattle.std.proofs.Common.{◌≡◌, ℕ, ◌+◌, ◌-◌, ◌∙◌, sym, refl, ap, Bool, true, false, not, cond, nat_eq, ◌||◌, List, [], ◌∷◌, count_by, arith, IsPermutation}
use Rattle.std.proofs.lemmas.Bool.{ne_eqb}
use Rattle.std.proofs.lemmas.List.Sorted.{sum_by_popped}
use Rattle.std.proofs.lemmas.List.Sums.{sum_by-cons}
use Rattle.std.specs.List.{list_any}
use mir.Val.{bool_byte}
use Rattle.tallies.specs.Counts.{Counts}

-- one more open, first in the list
any_more : (passes rest : Bool) (n m : ℕ) → n ≡ cond passes 1 0 + m → rest ≡ not (nat_eq m 0) → (passes || rest) ≡ not (nat_eq n 0)
any_more true rest n m is known = sym (ap not (ne_eqb n 0 (λ zero. omega arith)))
any_more false rest n m is known = let same : m ≡ n = omega arith in known ∙ ap (λ k. not (nat_eq k 0)) same

-- one of the opens passes a test exactly where their count isn't zero
pub list_any-count_by : (p : (ℕ × ℕ) → Bool) (opens : List (ℕ × ℕ)) → list_any p opens ≡ not (nat_eq (count_by p opens) 0)
list_any-count_by p [] = refl
list_any-count_by p (x ∷ opens) =
    any_more (p x) (list_any p opens) _ (count_by p opens) (sum_by-cons (λ y. cond (p y) 1 0) x opens) (list_any-count_by p opens)

bool_byte-cond : (b : Bool) → bool_byte b ≡ cond b 1 0
bool_byte-cond true = refl
bool_byte-cond false = refl

-- a count without one of the opens
pub count_by-others : (p : (ℕ × ℕ) → Bool) (held : List (ℕ × ℕ)) (one : ℕ × ℕ) (others : List (ℕ × ℕ))
    → IsPermutation held (one ∷ others) → count_by p held - bool_byte (p one) ≡ count_by p others
count_by-others p held one others moved =
    omega (arith, bool_byte-cond (p one), sum_by_popped (λ y. cond (p y) 1 0) one held others moved)

-- counts are the same where each of the seven is
pub same_counts : (a b : Counts) → a.opens ≡ b.opens → a.readers ≡ b.readers → a.writers ≡ b.writers → a.deleters ≡ b.deleters
    → a.read_refusers ≡ b.read_refusers → a.write_refusers ≡ b.write_refusers → a.delete_refusers ≡ b.delete_refusers → a ≡ b
same_counts a b opens readers writers deleters no_read no_write no_delete =
    (λ i. record {
      opens = opens i;
      readers = readers i;
      writers = writers i;
      deleters = deleters i;
      read_refusers = no_read i;
      write_refusers = no_write i;
      delete_refusers = no_delete i;
    })
