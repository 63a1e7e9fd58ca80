-- The table when it is made, the steps that make a pass and join one, and the table when it is closed.
use Rattle.std.proofs.Common.{◌≡◌, ◌≢◌, ℕ, zero, suc, ◌+◌, ◌<◌, ◌≤◌, ◌==◌, Bool, true, false, if◌then◌else◌, List, [], ◌∷◌, ◌++◌, length, set, sym, refl, ap, ◌∙◌, subst, arith, eq-eqb, ne_eqb, append-nil, All, Option, None, Some}
use mathlib.Core.Option.{some, some-injective, some-ne-none}
use mathlib.Core.Logic.{dite}
use native.Mathlib.Decide.{ℕ_discrete}
use lib.ListN.{get_elem?}
use Rattle.atomic_table.specs.Table.{State, opening, Splits, Joins, Final, Seen}
use Rattle.atomic_table.proofs.Lists.{set_else, set_again, at_longer, at_last}
use Rattle.history_lock.specs.declared.view.Part.{Part}
use Rattle.history_lock.specs.declared.view.View.{View}
use Rattle.history_lock.specs.History.{calls_by}
use Rattle.history_lock.specs.Turns.{parts_of, newcomer, left_part, right_part, both_parts, spent_view, shadow_part, Sees, Fits, Kept}
use Rattle.history_lock.proofs.Places.{each_after, each_pushed, each_append, at_second, set_at, at_same, calls_by-none, none_later}
use Rattle.history_lock.proofs.Turning.{own_part, served_after, one_seat}

module _ {A : Type 0} where
  only_place : (P : ℕ → A → Type 0) (a : A) → P 0 a → (k : ℕ) (b : A) → get_elem? (a ∷ []) k ≡ some b → P k b
  only_place P a one zero b e = subst (P 0) (some-injective a b e) one
  only_place P a one (suc k) b e = absurd (some-ne-none b (sym e))

module _ {E C : Type 0} where
  -- the parts of two passes that are joined
  parts_joined : (a c : Bool) (o m : Part E C) (kept more : List (Part E C)) → a ≡ true → c ≡ true
      → (if a then o ∷ (kept ++ m ∷ more) else []) ≡ (if a then o ∷ kept else []) ++ (if c then m ∷ more else [])
  parts_joined true true o m kept more p q = refl
  parts_joined true false o m kept more p q = cc
  parts_joined false c o m kept more p q = cc

module _ {M B E C : Type 0} (base : M → B) (list : M → List E) (call_of : E → C) (client_of : C → ℕ) (stands : B → List E → Type 0) (b : B) (n : ℕ) where
  abbrev V : Type 0
  V = View B E C

  abbrev Rule : State (Option M) V → Type 0
  Rule = Kept base list call_of client_of stands b n

  abbrev Right : ℕ → ℕ → List E → (ℕ → ℕ × ℕ) → ℕ → V → Type 0
  Right turn served log owner = Fits call_of client_of b n turn served log owner

  -- the table when it is made
  opens : (x : M) → list x ≡ [] → base x ≡ b → 1 ≤ n → stands b [] → Rule (opening (0 ∷ 0 ∷ []) (Some x ∷ []) (newcomer (b ∷ []) n 0 1))
  opens x empty same some_client none_yet = record {
    turn = 0;
    served = 1;
    log = [];
    owner = λ _. (0, 0);
    words = refl;
    home = λ _. (x, refl, same, empty);
    away = λ ne. absurd (ne refl);
    held = λ ne. absurd (ne refl);
    each = only_place (Right 0 1 [] (λ _. (0, 0))) (newcomer (b ∷ []) n 0 1) record {
      holder = λ z. cc (z);
      part = only_place (λ k p. ((0, 0) ≡ (0, k)) × Sees call_of client_of [] p × (p.client < 1)) (newcomer {E = E} {C = C} (b ∷ []) n 0 1).own
          (refl, record { seen = record { later = []; whole = refl }; mine = refl }, omega arith);
      own = λ _. (refl, refl, λ _. refl);
    };
    all_served = λ c below. (newcomer (b ∷ []) n 0 1, (newcomer {E = E} {C = C} (b ∷ []) n 0 1).own, refl, refl, omega arith);
    clients = λ k d below. absurd (omega arith);
    few = some_client;
    short = omega arith;
    history = none_yet;
  }

  pub opens_filled : (xs : List (Option M)) (x : M) → xs ≡ Some x ∷ [] → list x ≡ [] → base x ≡ b → 1 ≤ n → stands b [] → Rule (opening (0 ∷ 0 ∷ []) xs (newcomer (b ∷ []) n 0 1))
  opens_filled xs x is empty same some_client none_yet = subst (λ (l : List (Option M)). Rule (opening (0 ∷ 0 ∷ []) l (newcomer (b ∷ []) n 0 1))) (sym is) (opens x empty same some_client none_yet)

  -- the pass of client 0 makes the pass of the next client
  pub cuts : (id : ℕ) (v : V) → v.live ≡ true → v.own.client ≡ 0 → v.served < v.clients → Splits Rule id v (left_part v) (right_part v)
  cuts id v live first room s r at =
      let mine = r.each id v at in let own = mine.own live in let served_is : v.served ≡ r.served = own.2 first in
      let w : V = left_part v in let u : V = right_part v in let views : List V = set s.views id w in let size : ℕ = length views in
      let some_served = (mine.part 0 v.own (own_part v live)).2 in
      let owner : ℕ → ℕ × ℕ = λ c. if c == v.served then (size, 0) else r.owner c in
      let owner_new : (c : ℕ) → c ≡ v.served → owner c ≡ (size, 0) = λ c e. ap (λ (z : Bool). if z then (size, 0) else r.owner c) (eq-eqb c v.served e) in
      let owner_old : (c : ℕ) → c < r.served → owner c ≡ r.owner c = λ c below. ap (λ (z : Bool). if z then (size, 0) else r.owner c) (ne_eqb c v.served (λ e. omega arith)) in
      let stays : (j : ℕ) (x : V) → ((k : ℕ) (p : Part E C) → get_elem? (parts_of x) k ≡ some p → (r.owner p.client ≡ (j, k)) × Sees call_of client_of r.log p × (p.client < r.served))
      → (k : ℕ) (p : Part E C) → get_elem? (parts_of x) k ≡ some p → (owner p.client ≡ (j, k)) × Sees call_of client_of r.log p × (p.client < r.served + 1) =
      λ j x old k p place. let o = old k p place in (owner_old p.client o.2 ∙ o.0, o.1, (let a = o.2 in omega arith)) in
      record {
        turn = r.turn;
        served = r.served + 1;
        log = r.log;
        owner = owner;
        words = r.words;
        home = r.home;
        away = r.away;
        held = λ ne. let h = r.held ne in dite (ℕ_discrete h.0 id)
            (λ e. let same : h.1 ≡ v = at_same s.views id h.1 v (ap (get_elem? s.views) (sym e) ∙ h.2) at in
            (id, w, at_longer views (u ∷ []) id w (set_at s.views id v w at), ap (λ (z : V). z.holds) (sym same) ∙ h.3))
            (λ apart. (h.0, h.1, at_longer views (u ∷ []) h.0 h.1 (set_else s.views id h.0 w apart ∙ h.2), h.3));
        each = each_pushed (Right r.turn (r.served + 1) r.log owner) views u
            (each_after (Right r.turn (r.served + 1) r.log owner) s.views id w
            (record { holder = mine.holder; part = stays id v mine.part; own = λ l. let o = mine.own l in (o.0, o.1, λ z. let a = o.2 z in omega arith) })
            (λ j x ne there. let old = r.each j x there in record {
              holder = old.holder;
              part = stays j x old.part;
              own = λ l. let o = old.own l in (o.0, o.1, λ z. absurd (ne (one_seat base list call_of client_of stands b n r.turn r.served r.log r.owner j id x v old mine l live (z ∙ sym first))));
            }))
            record {
              holder = λ z. cc (z);
              part = only_place (λ k p. (owner p.client ≡ (size, k)) × Sees call_of client_of r.log p × (p.client < r.served + 1)) u.own
                  (owner_new v.served refl, record { seen = record { later = r.log; whole = refl }; mine = sym (ap (λ (z : ℕ). calls_by call_of client_of z r.log) served_is ∙ calls_by-none call_of client_of r.served r.log r.clients) }, omega arith);
              own = λ _. (own.0, own.1, λ z. absurd (omega arith));
            };
        all_served = λ c below. dite (ℕ_discrete c v.served)
            (λ e. let o = owner_new c e in (u, u.own, ap (λ (z : ℕ × ℕ). get_elem? (views ++ u ∷ []) z.0) o ∙ at_last views u size refl, ap (λ (z : ℕ × ℕ). get_elem? (parts_of u) z.1) o, sym e))
            (λ ne. let old : c < r.served = omega arith in let o = owner_old c old in let t = served_after r.served r.owner s.views id v w at (λ k p e. (p, e, refl)) r.all_served c old in
            (t.0, t.1, ap (λ (z : ℕ × ℕ). get_elem? (views ++ u ∷ []) z.0) o ∙ at_longer views (u ∷ []) (r.owner c).0 t.0 t.2, ap (λ (z : ℕ × ℕ). get_elem? (parts_of t.0) z.1) o ∙ t.3, t.4));
        clients = λ k d below. let h = r.clients k d below in omega arith;
        few = (let a = own.1 in omega arith);
        short = r.short;
        history = r.history;
      }

  -- a spent copy changes nothing
  pub shadows : (id : ℕ) (v : V) → Splits Rule id v v (shadow_part v)
  shadows id v s r at = let u : V = shadow_part v in subst (λ (vs : List V). Rule record { words = s.words; homes = s.homes; views = vs ++ u ∷ [] }) (sym (set_again s.views id v at)) record {
    turn = r.turn;
    served = r.served;
    log = r.log;
    owner = r.owner;
    words = r.words;
    home = r.home;
    away = r.away;
    held = λ ne. let h = r.held ne in (h.0, h.1, at_longer s.views (u ∷ []) h.0 h.1 h.2, h.3);
    each = each_pushed (Right r.turn r.served r.log r.owner) s.views u r.each record { holder = λ z. cc (z); part = λ k p place. absurd (some-ne-none p (sym place)); own = λ z. cc (z) };
    all_served = λ c below. let t = r.all_served c below in (t.0, t.1, at_longer s.views (u ∷ []) (r.owner c).0 t.0 t.2, t.3, t.4);
    clients = r.clients;
    few = r.few;
    short = r.short;
    history = r.history;
  }

  -- a pass takes in another
  pub glues : (id : ℕ) (v : V) (other : ℕ) (u : V) → v.live ≡ true → v.holds ≡ false → u.live ≡ true → u.holds ≡ false → Joins Rule id v other u (both_parts v u) spent_view
  glues id v other u live rests live_u rests_u s r at apart there =
      let w : V = both_parts v u in let views : List V = set s.views id w in
      let at_u : get_elem? s.views other ≡ some u = sym (set_else s.views id other w apart) ∙ there in
      let mine = r.each id v at in let theirs = r.each other u at_u in let size : ℕ = length (parts_of v) in
      let parts : parts_of w ≡ parts_of v ++ parts_of u = parts_joined v.live u.live v.own u.own v.kept u.kept live live_u in
      let owner : ℕ → ℕ × ℕ = λ c. if (r.owner c).0 == other then (id, size + (r.owner c).1) else r.owner c in
      let owner_same : (c : ℕ) → (r.owner c).0 ≢ other → owner c ≡ r.owner c = λ c d. ap (λ (z : Bool). if z then (id, size + (r.owner c).1) else r.owner c) (ne_eqb (r.owner c).0 other d) in
      let owner_moved : (c : ℕ) → (r.owner c).0 ≡ other → owner c ≡ (id, size + (r.owner c).1) = λ c e. ap (λ (z : Bool). if z then (id, size + (r.owner c).1) else r.owner c) (eq-eqb (r.owner c).0 other e) in
      let P : ℕ → Part E C → Type 0 = λ k p. (owner p.client ≡ (id, k)) × Sees call_of client_of r.log p × (p.client < r.served) in
      let stays : (j : ℕ) (p : Part E C) (k : ℕ) → j ≢ other → r.owner p.client ≡ (j, k) → owner p.client ≡ (j, k) =
      λ j p k ne o. owner_same p.client (λ e. ne (ap (λ (z : ℕ × ℕ). z.0) (sym o) ∙ e)) ∙ o in
      let joined : (k : ℕ) (p : Part E C) → get_elem? (parts_of w) k ≡ some p → P k p =
      subst (λ (l : List (Part E C)). (k : ℕ) (p : Part E C) → get_elem? l k ≡ some p → P k p) (sym parts)
      (each_append P (parts_of v) (parts_of u)
      (λ k p place. let o = mine.part k p place in (stays id p k (λ e. apart (sym e)) o.0, o.1, o.2))
      (λ i p place. let o = theirs.part i p place in (owner_moved p.client (ap (λ (z : ℕ × ℕ). z.0) o.0) ∙ ap (λ (z : ℕ × ℕ). (id, size + z.1)) o.0, o.1, o.2))) in
      record {
        turn = r.turn;
        served = r.served;
        log = r.log;
        owner = owner;
        words = r.words;
        home = r.home;
        away = r.away;
        held = λ ne. let h = r.held ne in
            let not_v : h.0 ≢ id = λ e. let same : h.1 ≡ v = at_same s.views id h.1 v (ap (get_elem? s.views) (sym e) ∙ h.2) at in let a : true ≡ false = sym h.3 ∙ (ap (λ (z : V). z.holds) same ∙ rests) in cc in
            let not_u : h.0 ≢ other = λ e. let same : h.1 ≡ u = at_same s.views other h.1 u (ap (get_elem? s.views) (sym e) ∙ h.2) at_u in let a : true ≡ false = sym h.3 ∙ (ap (λ (z : V). z.holds) same ∙ rests_u) in cc in
            (h.0, h.1, set_else views other h.0 spent_view not_u ∙ (set_else s.views id h.0 w not_v ∙ h.2), h.3);
        each = each_after (Right r.turn r.served r.log owner) views other spent_view
            (record { holder = λ z. cc (z); part = λ k p place. absurd (some-ne-none p (sym place)); own = λ z. cc (z) })
            (λ j x ne place. each_after (λ i y. i ≢ other → Right r.turn r.served r.log owner i y) s.views id w
            (λ _. record { holder = mine.holder; part = joined; own = mine.own })
            (λ i y not_id here not_other. let old = r.each i y here in record { holder = old.holder; part = λ k p spot. let o = old.part k p spot in (stays i p k not_other o.0, o.1, o.2); own = old.own })
            j x place ne);
        all_served = λ c below. let t = r.all_served c below in dite (ℕ_discrete (r.owner c).0 other)
            (λ e. let o = owner_moved c e in let is : t.0 ≡ u = at_same s.views other t.0 u (ap (get_elem? s.views) (sym e) ∙ t.2) at_u in
            let spot : get_elem? (parts_of u) (r.owner c).1 ≡ some t.1 = subst (λ (z : V). get_elem? (parts_of z) (r.owner c).1 ≡ some t.1) is t.3 in (
              w,
              t.1,
              ap (λ (z : ℕ × ℕ). get_elem? (set views other spent_view) z.0) o ∙ (set_else views other id spent_view (λ z. apart (sym z)) ∙ set_at s.views id v w at),
              ap (λ (z : ℕ × ℕ). get_elem? (parts_of w) z.1) o ∙ (ap (λ (l : List (Part E C)). get_elem? l (size + (r.owner c).1)) parts ∙ (at_second (parts_of v) (parts_of u) (r.owner c).1 ∙ spot)),
              t.4,
            ))
            (λ ne. let o = owner_same c ne in dite (ℕ_discrete (r.owner c).0 id)
            (λ e. let is : t.0 ≡ v = at_same s.views id t.0 v (ap (get_elem? s.views) (sym e) ∙ t.2) at in
            let spot : get_elem? (parts_of v) (r.owner c).1 ≡ some t.1 = subst (λ (z : V). get_elem? (parts_of z) (r.owner c).1 ≡ some t.1) is t.3 in (
              w,
              t.1,
              ap (λ (z : ℕ × ℕ). get_elem? (set views other spent_view) z.0) o ∙ (set_else views other (r.owner c).0 spent_view ne ∙ (ap (get_elem? views) e ∙ set_at s.views id v w at)),
              ap (λ (z : ℕ × ℕ). get_elem? (parts_of w) z.1) o ∙ (ap (λ (l : List (Part E C)). get_elem? l (r.owner c).1) parts ∙ at_longer (parts_of v) (parts_of u) (r.owner c).1 t.1 spot),
              t.4,
            ))
            (λ not_id. (
              t.0,
              t.1,
              ap (λ (z : ℕ × ℕ). get_elem? (set views other spent_view) z.0) o ∙ (set_else views other (r.owner c).0 spent_view ne ∙ (set_else s.views id (r.owner c).0 w not_id ∙ t.2)),
              ap (λ (z : ℕ × ℕ). get_elem? (parts_of t.0) z.1) o ∙ t.3,
              t.4,
            )));
        clients = r.clients;
        few = r.few;
        short = r.short;
        history = r.history;
      }

  -- The table when it is closed with a pass at rest that has the parts of all clients, whose calls are all that
  -- it has seen of them
  ends : (id : ℕ) (v : V) (ws : List ℕ) (xs : List (Option M)) → Final (Seen Rule id v) ws xs → v.live ≡ true → v.holds ≡ false
      → ((c : ℕ) → c < n → (k : ℕ) × (p : Part E C) × (get_elem? (parts_of v) k ≡ some p) × (p.client ≡ c))
      → ((k : ℕ) (p : Part E C) → get_elem? (parts_of v) k ≡ some p → p.mine ≡ calls_by call_of client_of p.client v.own.seen)
      → (x : M) × (get_elem? xs 0 ≡ some (Some x)) × (base x ≡ b) × (list x ≡ v.own.seen) × All (λ e. client_of (call_of e) < n) (list x)
  ends id v ws xs final live rests all made =
      let s = final.0 in let r = final.1.0 in let at = final.1.1 in let mine = r.each id v at in
      let free : r.turn ≡ 0 = dite (ℕ_discrete r.turn 0) (λ z. z) (λ ne.
      let h = r.held ne in let u : V = h.1 in let theirs = r.each h.0 u h.2 in let t = theirs.holder h.3 in
      let first = theirs.part 0 u.own (own_part u t.2) in let here = all u.own.client (let a = first.2 in let c = r.few in omega arith) in
      let owned = mine.part here.0 here.1 here.2 in
      let is : h.0 ≡ id = ap (λ (z : ℕ × ℕ). z.0) (sym first.0 ∙ (ap r.owner (sym here.3) ∙ owned.0)) in
      let same : u ≡ v = at_same s.views id u v (ap (get_elem? s.views) (sym is) ∙ h.2) at in
      let a : true ≡ false = sym h.3 ∙ (ap (λ (z : V). z.holds) same ∙ rests) in cc) in
      let home = r.home free in
      let front = (mine.part 0 v.own (own_part v live)).1.seen in
      let whole : r.log ≡ v.own.seen ++ front.later = front.whole in
      let none_left : front.later ≡ [] = none_later call_of client_of r.served v.own.seen front.later (subst (All (λ e. client_of (call_of e) < r.served)) whole r.clients)
      (λ c below. let here = all c (let a = r.few in omega arith) in let owned = mine.part here.0 here.1 here.2 in
      let now : calls_by call_of client_of here.1.client (v.own.seen ++ front.later) ≡ calls_by call_of client_of here.1.client v.own.seen =
      ap (calls_by call_of client_of here.1.client) (sym whole) ∙ (sym owned.1.mine ∙ made here.0 here.1 here.2) in
      subst (λ (z : ℕ). calls_by call_of client_of z (v.own.seen ++ front.later) ≡ calls_by call_of client_of z v.own.seen) here.3 now) in
      let log_is : r.log ≡ v.own.seen = whole ∙ (ap (λ (l : List E). v.own.seen ++ l) none_left ∙ append-nil v.own.seen) in (
        home.0,
        final.4 0 (Some home.0) (ap (λ (hs : _). get_elem? hs 0) home.1),
        home.2,
        home.3 ∙ log_is,
        subst (All (λ e. client_of (call_of e) < n)) (sym home.3) (λ k d below. let a = r.clients k d below in let c = r.few in omega arith),
      )

  -- so the slot holds the machine, which stands for what that pass has seen
  pub ends_some : (id : ℕ) (v : V) (ws : List ℕ) (xs : List (Option M)) → Final (Seen Rule id v) ws xs → v.live ≡ true → v.holds ≡ false
      → ((c : ℕ) → c < n → (k : ℕ) × (p : Part E C) × (get_elem? (parts_of v) k ≡ some p) × (p.client ≡ c))
      → ((k : ℕ) (p : Part E C) → get_elem? (parts_of v) k ≡ some p → p.mine ≡ calls_by call_of client_of p.client v.own.seen)
      → (o : Option M) (y : M) → get_elem? xs 0 ≡ some o → o ≡ Some y
      → (base y ≡ b) × (list y ≡ v.own.seen) × All (λ e. client_of (call_of e) < n) (list y)
  ends_some id v ws xs final live rests all made o y there is = let t = ends id v ws xs final live rests all made in
      let found : Some t.0 ≡ Some y = some-injective (Some t.0) o (sym t.1 ∙ there) ∙ is in
      let same : t.0 ≡ y = cc in
      subst (λ (z : M). (base z ≡ b) × (list z ≡ v.own.seen) × All (λ e. client_of (call_of e) < n) (list z)) same (t.2, t.3, t.4)

  pub ends_none : (id : ℕ) (v : V) (ws : List ℕ) (xs : List (Option M)) → Final (Seen Rule id v) ws xs → v.live ≡ true → v.holds ≡ false
      → ((c : ℕ) → c < n → (k : ℕ) × (p : Part E C) × (get_elem? (parts_of v) k ≡ some p) × (p.client ≡ c))
      → ((k : ℕ) (p : Part E C) → get_elem? (parts_of v) k ≡ some p → p.mine ≡ calls_by call_of client_of p.client v.own.seen)
      → (o : Option M) → get_elem? xs 0 ≡ some o → o ≡ None → ⊥
  ends_none id v ws xs final live rests all made o there is = let t = ends id v ws xs final live rests all made in
      let found : Some t.0 ≡ None = some-injective (Some t.0) o (sym t.1 ∙ there) ∙ is in cc
