-- Lists read by place, beginnings of a history, and the calls of one client in it.
use Rattle.std.proofs.Common.{◌≡◌, ◌≢◌, ℕ, zero, suc, ◌+◌, ◌<◌, ◌≤◌, ◌==◌, Bool, cond, List, [], ◌∷◌, ◌++◌, map, filter, length, get_or, set, sym, refl, ap, ◌∙◌, subst, ⊎_elim, inl, inr, arith, eq-eqb, ne_eqb, append-nil, length-append, append_assoc, zero-add, suc-add, All, slice_get, None, Some}
use mathlib.Core.Option.{some, some-injective, some-ne-none}
use mathlib.Core.Logic.{dite, ◌⊎◌}
use native.Mathlib.Decide.{ℕ_discrete}
use lib.ListN.{get_elem?}
use Rattle.std.proofs.lemmas.List.Elements.{filter-append}
use Rattle.std.proofs.lemmas.List.{map-append}
use Rattle.atomic_table.proofs.Lists.{at_set, at_longer}
use Rattle.history_lock.specs.History.{Begins, calls_by}

module _ {A : Type 0} where
  -- what holds of the new element, and stays of the others, holds of all
  pub each_after : (P : ℕ → A → Type 0) (l : List A) (i : ℕ) (w : A) → P i w → ((j : ℕ) (u : A) → j ≢ i → get_elem? l j ≡ some u → P j u)
      → (j : ℕ) (u : A) → get_elem? (set l i w) j ≡ some u → P j u
  each_after P l i w mine others j u e = ⊎_elim (λ (t : (j ≡ i) × (w ≡ u)). subst (λ (x : ℕ × A). P x.0 x.1) (λ k. (sym t.0 k, t.1 k)) mine)
      (λ (t : (j ≢ i) × (get_elem? l j ≡ some u)). others j u t.0 t.1) (at_set l i j w u e)

  pub set_at : (l : List A) (i : ℕ) (a w : A) → get_elem? l i ≡ some a → get_elem? (set l i w) i ≡ some w
  set_at [] i a w e = absurd (some-ne-none a (sym e))
  set_at (x ∷ xs) zero a w e = refl
  set_at (x ∷ xs) (suc i) a w e = set_at xs i a w e

  pub at_below : (l : List A) (i : ℕ) (a : A) → get_elem? l i ≡ some a → i < length l
  at_below [] i a e = absurd (some-ne-none a (sym e))
  at_below (x ∷ xs) zero a e = omega arith
  at_below (x ∷ xs) (suc i) a e = let h = at_below xs i a e in omega arith

  -- two elements at one place are one
  pub at_same : (l : List A) (i : ℕ) (a b : A) → get_elem? l i ≡ some a → get_elem? l i ≡ some b → a ≡ b
  at_same l i a b e f = some-injective a b (sym e ∙ f)

  -- what holds of all, and of one more at the end
  pub each_pushed : (P : ℕ → A → Type 0) (l : List A) (a : A) → ((j : ℕ) (b : A) → get_elem? l j ≡ some b → P j b) → P (length l) a → (j : ℕ) (b : A) → get_elem? (l ++ a ∷ []) j ≡ some b → P j b
  each_pushed P [] a all last zero b e = subst (P 0) (some-injective a b e) last
  each_pushed P [] a all last (suc j) b e = absurd (some-ne-none b (sym e))
  each_pushed P (x ∷ xs) a all last zero b e = all zero b e
  each_pushed P (x ∷ xs) a all last (suc j) b e = each_pushed (λ k. P (suc k)) xs a (λ k. all (suc k)) last j b e

  -- a place of two lists, one after the other, is a place of the first or of the second
  pub each_append : (P : ℕ → A → Type 0) (l m : List A) → ((j : ℕ) (b : A) → get_elem? l j ≡ some b → P j b) → ((i : ℕ) (b : A) → get_elem? m i ≡ some b → P (length l + i) b)
      → (j : ℕ) (b : A) → get_elem? (l ++ m) j ≡ some b → P j b
  each_append P [] m first second j b e = subst (λ (k : ℕ). P k b) (zero-add j) (second j b e)
  each_append P (x ∷ xs) m first second zero b e = first zero b e
  each_append P (x ∷ xs) m first second (suc j) b e = each_append (λ k. P (suc k)) xs m (λ k. first (suc k)) (λ i c h. subst (λ (k : ℕ). P k c) (suc-add (length xs) i) (second i c h)) j b e

  pub at_second : (l m : List A) (i : ℕ) → get_elem? (l ++ m) (length l + i) ≡ get_elem? m i
  at_second [] m i = ap (get_elem? m) (zero-add i)
  at_second (x ∷ xs) m i = ap (get_elem? (x ∷ (xs ++ m))) (suc-add (length xs) i) ∙ at_second xs m i

  -- the same by std's word
  each_last : (P : ℕ → A → Type 0) (l : List A) (a : A) → ((j : ℕ) (b : A) → slice_get l j ≡ Some b → P j b) → P (length l) a → (j : ℕ) (b : A) → slice_get (l ++ a ∷ []) j ≡ Some b → P j b
  each_last P [] a all last zero b e = let same : a ≡ b = cc in subst (P 0) same last
  each_last P [] a all last (suc j) b e = (let f : None ≡ Some b = e in cc)
  each_last P (x ∷ xs) a all last zero b e = all zero b e
  each_last P (x ∷ xs) a all last (suc j) b e = each_last (λ k. P (suc k)) xs a (λ k. all (suc k)) last j b e

  pub each_given : (P : ℕ → A → Type 0) (l m : List A) (a : A) → m ≡ l ++ a ∷ [] → ((j : ℕ) (b : A) → slice_get l j ≡ Some b → P j b) → P (length l) a → (j : ℕ) (b : A) → slice_get m j ≡ Some b → P j b
  each_given P l m a is all last j b e = each_last P l a all last j b (ap (λ (z : List A). slice_get z j) (sym is) ∙ e)

  pub given_longer : (l m : List A) (j : ℕ) (b : A) → slice_get l j ≡ Some b → slice_get (l ++ m) j ≡ Some b
  given_longer [] m j b e = (let f : None ≡ Some b = e in cc)
  given_longer (x ∷ xs) m zero b e = e
  given_longer (x ∷ xs) m (suc j) b e = given_longer xs m j b e

  pub given_last : (l : List A) (a : A) (j : ℕ) (b : A) → slice_get (l ++ a ∷ []) j ≡ Some b → (slice_get l j ≡ Some b) ⊎ (a ≡ b)
  given_last [] a zero b e = inr (let f : Some a ≡ Some b = e in cc)
  given_last [] a (suc j) b e = (let f : None ≡ Some b = e in cc)
  given_last (x ∷ xs) a zero b e = inl e
  given_last (x ∷ xs) a (suc j) b e = given_last xs a j b e

  end_here : (l : List A) (a : A) → slice_get (l ++ a ∷ []) (length l) ≡ Some a
  end_here [] a = refl
  end_here (x ∷ xs) a = end_here xs a

  pub given_end : (l m : List A) (a : A) (i : ℕ) → m ≡ l ++ a ∷ [] → length l ≡ i → slice_get m i ≡ Some a
  given_end l m a i is size = ap (slice_get m) (sym size) ∙ (ap (λ (z : List A). slice_get z (length l)) is ∙ end_here l a)

  pub given_none : (l : List A) (j : ℕ) (b : A) → length l ≡ 0 → slice_get l j ≡ Some b → ⊥
  given_none [] j b e f = (let g : None ≡ Some b = f in cc)
  given_none (x ∷ xs) j b e f = omega arith

  pub given_below : (l : List A) (j : ℕ) (b : A) → slice_get l j ≡ Some b → j < length l
  given_below [] j b e = (let f : None ≡ Some b = e in cc)
  given_below (x ∷ xs) zero b e = omega arith
  given_below (x ∷ xs) (suc j) b e = let h = given_below xs j b e in omega arith

  pub given_read : (l : List A) (j : ℕ) (b d : A) → slice_get l j ≡ Some b → get_or l j d ≡ b
  given_read [] j b d e = (let f : None ≡ Some b = e in cc)
  given_read (x ∷ xs) zero b d e = (let f : Some x ≡ Some b = e in cc)
  given_read (x ∷ xs) (suc j) b d e = given_read xs j b d e

  pub read_given : (l : List A) (j : ℕ) (d : A) → j < length l → slice_get l j ≡ Some (get_or l j d)
  read_given [] j d h = absurd (omega arith)
  read_given (x ∷ xs) zero d h = refl
  read_given (x ∷ xs) (suc j) d h = read_given xs j d (omega arith)

  pub all_middle : (P : A → Type 0) (l : List A) (a : A) (m : List A) → All P (l ++ a ∷ m) → P a
  all_middle P [] a m all = all 0 a (omega arith)
  all_middle P (x ∷ xs) a m all = all_middle P xs a m (λ k d h. all (suc k) d (omega arith))

-- what was in the first list is in its front or, of the last one, in the other list
pub kept_more : {A X : Type 0} (own : A → X) (l m : List A) (a : A) (kept more longer : List X) → l ≡ m ++ a ∷ [] → longer ≡ kept ++ own a ∷ more
    → (i : ℕ) (p : A) → (slice_get l i ≡ Some p) ⊎ ((k : ℕ) × (get_elem? kept k ≡ some (own p)))
    → (slice_get m i ≡ Some p) ⊎ ((k : ℕ) × (get_elem? longer k ≡ some (own p)))
kept_more {A} own l m a kept more longer is grown i p old = ⊎_elim
    (λ here. ⊎_elim inl
    (λ (same : a ≡ p). inr (length kept + 0, ap (λ (z : List _). get_elem? z (length kept + 0)) grown ∙ (at_second kept (own a ∷ more) 0 ∙ ap (λ (z : A). some (own z)) same)))
    (given_last m a i p (ap (λ (z : List A). slice_get z i) (sym is) ∙ here)))
    (λ (t : (k : ℕ) × (get_elem? kept k ≡ some (own p))). inr (t.0, ap (λ (z : List _). get_elem? z t.0) grown ∙ at_longer kept (own a ∷ more) t.0 (own p) t.1))
    old

module _ {E : Type 0} where
  pub begins_more : (seen log more : List E) → Begins seen log → Begins seen (log ++ more)
  begins_more seen log more b = record { later = b.later ++ more; whole = ap (λ (l : List E). l ++ more) b.whole ∙ append_assoc seen b.later more }

  pub begins_further : (seen more log : List E) → Begins seen more → Begins more log → Begins seen log
  begins_further seen more log a b = record { later = a.later ++ b.later; whole = b.whole ∙ (ap (λ (l : List E). l ++ b.later) a.whole ∙ append_assoc seen a.later b.later) }

  pub begins_all : (log : List E) → Begins log log
  begins_all log = record { later = []; whole = sym (append-nil log) }

module _ {E C : Type 0} (call_of : E → C) (client_of : C → ℕ) where
  pub calls_by-append : (client : ℕ) (log more : List E) → calls_by call_of client_of client (log ++ more) ≡ calls_by call_of client_of client log ++ calls_by call_of client_of client more
  calls_by-append client log more =
      ap (filter (λ call. client_of call == client)) (map-append call_of log more) ∙ filter-append (λ call. client_of call == client) (map call_of log) (map call_of more)

  -- an entry of this client adds its call, and another's adds none
  pub calls_by-own : (client : ℕ) (log : List E) (e : E) → client_of (call_of e) ≡ client → calls_by call_of client_of client (log ++ e ∷ []) ≡ calls_by call_of client_of client log ++ call_of e ∷ []
  calls_by-own client log e same = calls_by-append client log (e ∷ [])
      ∙ ap (λ (b : Bool). calls_by call_of client_of client log ++ cond b (call_of e ∷ []) []) (eq-eqb (client_of (call_of e)) client same)

  pub calls_by-other : (client : ℕ) (log : List E) (e : E) → client_of (call_of e) ≢ client → calls_by call_of client_of client (log ++ e ∷ []) ≡ calls_by call_of client_of client log
  calls_by-other client log e other = calls_by-append client log (e ∷ [])
      ∙ (ap (λ (b : Bool). calls_by call_of client_of client log ++ cond b (call_of e ∷ []) []) (ne_eqb (client_of (call_of e)) client other) ∙ append-nil (calls_by call_of client_of client log))

  -- a client that no entry has made no call
  pub calls_by-none : (client : ℕ) (log : List E) → All (λ e. client_of (call_of e) < client) log → calls_by call_of client_of client log ≡ []
  calls_by-none client [] below = refl
  calls_by-none client (e ∷ es) below =
      let first : client_of (call_of e) < client = below 0 e (omega arith) in
      let later : All (λ (x : E). client_of (call_of x) < client) es = λ k d l. below (suc k) d (omega arith) in
      ap (λ (b : Bool). cond b (call_of e ∷ calls_by call_of client_of client es) (calls_by call_of client_of client es)) (ne_eqb (client_of (call_of e)) client (λ z. omega arith))
      ∙ calls_by-none client es later

  pub length-calls_by : (client : ℕ) (log : List E) → length (calls_by call_of client_of client log) ≤ length log
  length-calls_by client [] = omega arith
  length-calls_by client (e ∷ es) = let h = length-calls_by client es in
      dite (ℕ_discrete (client_of (call_of e)) client)
      (λ same. let q : length (calls_by call_of client_of client (e ∷ es)) ≡ suc (length (calls_by call_of client_of client es)) = ap (λ (b : Bool). length (cond b (call_of e ∷ calls_by call_of client_of client es) (calls_by call_of client_of client es))) (eq-eqb (client_of (call_of e)) client same) in omega arith)
      (λ other. let q : length (calls_by call_of client_of client (e ∷ es)) ≡ length (calls_by call_of client_of client es) = ap (λ (b : Bool). length (cond b (call_of e ∷ calls_by call_of client_of client es) (calls_by call_of client_of client es))) (ne_eqb (client_of (call_of e)) client other) in omega arith)

  -- where no client below n made a call in the rest, the rest is empty
  pub none_later : (n : ℕ) (seen later : List E) → All (λ e. client_of (call_of e) < n) (seen ++ later)
      → ((client : ℕ) → client < n → calls_by call_of client_of client (seen ++ later) ≡ calls_by call_of client_of client seen) → later ≡ []
  none_later n seen [] below same = refl
  none_later n seen (e ∷ es) below same =
      let client : ℕ = client_of (call_of e) in
      let front : List C = calls_by call_of client_of client seen in
      let rest : List C = calls_by call_of client_of client es in
      let is : front ++ cond (client == client) (call_of e ∷ rest) rest ≡ front = sym (calls_by-append client seen (e ∷ es)) ∙ same client (all_middle (λ (x : E). client_of (call_of x) < n) seen e es below) in
      let more : front ++ call_of e ∷ rest ≡ front = ap (λ (b : Bool). front ++ cond b (call_of e ∷ rest) rest) (sym (eq-eqb client client refl)) ∙ is in
      let size : length front + suc (length rest) ≡ length front = sym (length-append front (call_of e ∷ rest)) ∙ ap length more in
      absurd (omega arith)
