-- The steps of a turn keep the rule of the lock: the turn is taken, an entry is added, the count is read, the turn is freed.
use Rattle.std.proofs.Common.{◌≡◌, ◌≢◌, ℕ, zero, suc, ◌+◌, ◌%◌, ◌^◌, ◌<◌, eqb, Bool, true, false, if◌then◌else◌, List, [], ◌∷◌, ◌++◌, length, get_or, set, sym, refl, ap, ◌∙◌, subst, arith, ne_eqb, length-append, All, Option, Some}
use Rattle.std.proofs.lemmas.List.Elements.{All-append}
use mathlib.Core.Option.{some, none, some-injective, some-ne-none}
use mathlib.Core.Logic.{dite}
use native.Mathlib.Decide.{ℕ_discrete}
use lib.ListN.{get_elem?}
use prog.Atomic.{either}
use Rattle.atomic_table.specs.Table.{State, Me, step, keeps, takes, gives, put_back, rest, Allows}
use Rattle.atomic_table.proofs.Lists.{set_else}
use Rattle.history_lock.specs.declared.view.Part.{Part}
use Rattle.history_lock.specs.declared.view.View.{View}
use Rattle.history_lock.specs.History.{calls_by}
use Rattle.history_lock.specs.Turns.{parts_of, holding, beaten, with_seen, with_made, at_rest, Sees, Fits, AllServed, Kept, taken, committed, loaded, freed}
use Rattle.history_lock.proofs.Places.{each_after, set_at, at_same, begins_all, begins_more, calls_by-other}

module _ {E C : Type 0} where
  -- what holds of all parts of a pass still does where only its own part changes
  pub parts_swap : (b : Bool) (o o' : Part E C) (kept : List (Part E C)) (P : ℕ → Part E C → Type 0) → ((k : ℕ) (p : Part E C) → get_elem? (if b then o ∷ kept else []) k ≡ some p → P k p) → (P 0 o → P 0 o')
      → (k : ℕ) (p : Part E C) → get_elem? (if b then o' ∷ kept else []) k ≡ some p → P k p
  parts_swap false o o' kept P old new k p e = absurd (some-ne-none p (sym e))
  parts_swap true o o' kept P old new zero p e = subst (P 0) (some-injective o' p e) (new (old 0 o refl))
  parts_swap true o o' kept P old new (suc k) p e = old (suc k) p e

  pub parts_stay : (b : Bool) (o o' : Part E C) (kept : List (Part E C)) → o'.client ≡ o.client → (k : ℕ) (p : Part E C) → get_elem? (if b then o ∷ kept else []) k ≡ some p
      → (q : Part E C) × (get_elem? (if b then o' ∷ kept else []) k ≡ some q) × (q.client ≡ p.client)
  parts_stay false o o' kept same k p e = absurd (some-ne-none p (sym e))
  parts_stay true o o' kept same zero p e = (o', refl, same ∙ ap (λ (z : Part E C). z.client) (some-injective o p e))
  parts_stay true o o' kept same (suc k) p e = (p, e, refl)

suc_not : {k : ℕ} → suc k ≡ 0 → ⊥
suc_not e = omega arith

-- the machine that lies in the slot, or d where there is none
abbrev machine_in : {M : Type 0} → M → List (ℕ × Option M) → M
machine_in d ((k, Some x) ∷ more) = x
machine_in d more = d

module _ {E C : Type 0} where
  -- what holds of all parts of a pass: of its own, and of the kept ones
  pub parts_made : (o o' : Part E C) (kept : List (Part E C)) (b : Bool) → b ≡ true → (P : ℕ → Part E C → Type 0) → P 0 o' → ((k : ℕ) (p : Part E C) → get_elem? (if b then o ∷ kept else []) (suc k) ≡ some p → P (suc k) p)
      → (k : ℕ) (p : Part E C) → get_elem? (if b then o' ∷ kept else []) k ≡ some p → P k p
  parts_made o o' kept false live P new old k p e = absurd (some-ne-none p (sym e))
  parts_made o o' kept true live P new old zero p e = subst (P 0) (some-injective o' p e) new
  parts_made o o' kept true live P new old (suc k) p e = old k p e

module _ {B E C : Type 0} where
  -- the first part of a pass is its own
  pub own_part : (v : View B E C) → v.live ≡ true → get_elem? (parts_of v) 0 ≡ some v.own
  own_part v live = ap (λ (b : Bool). get_elem? (if b then v.own ∷ v.kept else []) 0) live

  -- where each part of v has a part of w at its place, with its client, all clients stay served
  pub served_after : (served : ℕ) (owner : ℕ → ℕ × ℕ) (views : List (View B E C)) (id : ℕ) (v w : View B E C) → get_elem? views id ≡ some v
      → ((k : ℕ) (p : Part E C) → get_elem? (parts_of v) k ≡ some p → (q : Part E C) × (get_elem? (parts_of w) k ≡ some q) × (q.client ≡ p.client))
      → AllServed served owner views → AllServed served owner (set views id w)
  served_after served owner views id v w at same whole c below = let t = whole c below in dite (ℕ_discrete (owner c).0 id)
      (λ e. let is : t.0 ≡ v = at_same views id t.0 v (ap (get_elem? views) (sym e) ∙ t.2) at in
      let there : get_elem? (parts_of v) (owner c).1 ≡ some t.1 = subst (λ (z : View B E C). get_elem? (parts_of z) (owner c).1 ≡ some t.1) is t.3 in
      let q = same (owner c).1 t.1 there in
      (w, q.0, ap (get_elem? (set views id w)) e ∙ set_at views id v w at, q.1, q.2 ∙ t.4))
      (λ ne. (t.0, t.1, set_else views id (owner c).0 w ne ∙ t.2, t.3, t.4))

module _ {M B E C : Type 0} (base : M → B) (list : M → List E) (call_of : E → C) (client_of : C → ℕ) (stands : B → List E → Type 0) (b : B) (n : ℕ) where
  abbrev V : Type 0
  V = View B E C

  abbrev Rule : State (Option M) V → Type 0
  Rule = Kept base list call_of client_of stands b n

  abbrev Right : ℕ → ℕ → List E → (ℕ → ℕ × ℕ) → ℕ → V → Type 0
  Right turn served log owner = Fits call_of client_of b n turn served log owner

  -- two passes that serve one client are one pass
  pub one_seat : (turn served : ℕ) (log : List E) (owner : ℕ → ℕ × ℕ) (j id : ℕ) (u v : V) → Right turn served log owner j u → Right turn served log owner id v
      → u.live ≡ true → v.live ≡ true → u.own.client ≡ v.own.client → j ≡ id
  one_seat turn served log owner j id u v old mine live_u live_v same =
      ap (λ (z : ℕ × ℕ). z.0) (sym (old.part 0 u.own (own_part u live_u)).0 ∙ (ap owner same ∙ (mine.part 0 v.own (own_part v live_v)).0))

  pub takes_turn : (slots id : ℕ) (me : Me (Option M) V) (new : ℕ) → me.1 ≡ [] → me.0.live ≡ true → me.0.holds ≡ false → new ≡ me.0.own.client + 1
      → Allows Rule slots id me 0 (λ k. either (eqb k 0) new k) (taken base list call_of client_of stands (step slots 0 0 new none) me)
  takes_turn slots id me new none_out live resting is s r _ at _ = let v : V = me.0 in let mine = r.each id v at in
      let own = mine.part 0 v.own (own_part v live) in
      let found : get_or s.words 0 0 ≡ r.turn = ap (λ (ws : List ℕ). get_or ws 0 0) r.words in
      dite (ℕ_discrete r.turn 0)
      (λ free. let h = r.home free in let x : M = h.0 in let w : V = holding v (list x) in (
        w,
        takes 0 (Some x),
        ap (λ (hs : _). get_elem? hs 0) h.1,
        record {
          turn = new;
          served = r.served;
          log = r.log;
          owner = r.owner;
          words = ap (λ (ws : List ℕ). set ws 0 (either (eqb (get_or ws 0 0) 0) new (get_or ws 0 0))) (r.words ∙ ap (λ (z : ℕ). z ∷ length r.log ∷ []) free);
          home = λ e. absurd (omega arith);
          away = λ _. ap (λ (hs : _). set hs 0 none) h.1;
          held = λ _. (id, w, set_at s.views id v w at, refl);
          each = each_after (Right new r.served r.log r.owner) s.views id w
              (record { holder = λ _. (is, h.3, live); part = mine.part; own = mine.own })
              (λ j u ne there. let old = r.each j u there in record {
                holder = λ z. let t = (old.holder z).0 in absurd (omega arith);
                part = old.part;
                own = old.own;
              });
          all_served = served_after r.served r.owner s.views id v w at (λ k p e. (p, e, refl)) r.all_served;
          clients = r.clients;
          few = r.few;
          short = r.short;
          history = r.history;
        },
        (
          λ _. (x, ap (λ (l : List (ℕ × Option M)). (0, Some x) ∷ l) none_out, refl, (mine.own live).0 ∙ ap (λ (z : B). z ∷ []) (sym h.2), subst (λ (l : List E). Sees call_of client_of l v.own) (sym h.3) own.1),
          λ ne. absurd (ne (found ∙ free)),
          refl,
          refl,
          is,
        ),
      ))
      (λ away. let h = r.held away in let j : ℕ = h.0 in let u : V = h.1 in let theirs = r.each j u h.2 in let t = theirs.holder h.3 in
      let w : V = beaten v in
      let apart : j ≢ id = λ e. let same : u ≡ v = at_same s.views id u v (ap (get_elem? s.views) (sym e) ∙ h.2) at in absurd (let a : true ≡ false = sym h.3 ∙ (ap (λ (z : V). z.holds) same ∙ resting) in cc) in
      let other : u.own.client ≢ v.own.client = λ e. apart (one_seat r.turn r.served r.log r.owner j id u v theirs mine t.2 live e) in (
        w,
        keeps,
        tt,
        record {
          turn = r.turn;
          served = r.served;
          log = r.log;
          owner = r.owner;
          words = ap (λ (ws : List ℕ). set ws 0 (either (eqb (get_or ws 0 0) 0) new (get_or ws 0 0))) r.words ∙ ap (λ (z : Bool). either z new r.turn ∷ length r.log ∷ []) (ne_eqb r.turn 0 away);
          home = λ e. absurd (away e);
          away = r.away;
          held = λ _. (j, u, set_else s.views id j w apart ∙ h.2, h.3);
          each = each_after (Right r.turn r.served r.log r.owner) s.views id w
              (record { holder = mine.holder; part = mine.part; own = mine.own })
              (λ j u ne there. r.each j u there);
          all_served = served_after r.served r.owner s.views id v w at (λ k p e. (p, e, refl)) r.all_served;
          clients = r.clients;
          few = r.few;
          short = r.short;
          history = r.history;
        },
        (
          λ e. absurd (away (sym found ∙ e)),
          λ _. (
            refl,
            refl,
            λ e. other (let a = t.0 in omega arith),
            (let a = own.2 in let c = (theirs.part 0 u.own (own_part u t.2)).2 in let d = r.few in let f = (mine.own live).1 in omega arith),
          ),
          refl,
          refl,
          is,
        ),
      ))

  pub frees : (slots id : ℕ) (me : Me (Option M) V) (x : M) → me.1 ≡ (0, Some x) ∷ [] → me.0.holds ≡ true → list x ≡ me.0.hand → me.0.base ≡ base x ∷ []
      → Allows Rule slots id me 0 (λ _. 0) (λ _. freed base list call_of client_of stands (step slots 0 0 0 none) me 0)
  frees slots id me x has hold same_list same_base s r _ at _ = let v : V = me.0 in let mine = r.each id v at in let h = mine.holder hold in let w : V = at_rest v in
      let out : r.turn ≢ 0 = (let a = h.0 in omega arith) in (
        w,
        gives,
        tt,
        record {
          turn = 0;
          served = r.served;
          log = r.log;
          owner = r.owner;
          words = ap (λ (ws : List ℕ). set ws 0 0) r.words;
          home = λ _. (x, ap (λ (cs : List (ℕ × Option M)). put_back s.homes cs) has ∙ ap (λ (hs : _). set hs 0 (some (Some x))) (r.away out), (let a = (mine.own h.2).0 in cc (a, same_base)), same_list ∙ h.1);
          away = λ ne. absurd (ne refl);
          held = λ ne. absurd (ne refl);
          each = each_after (Right 0 r.served r.log r.owner) s.views id w
              (record { holder = λ z. cc (z); part = mine.part; own = mine.own })
              (λ j u ne there. let old = r.each j u there in record {
                holder = λ z. let t = old.holder z in let same : u.own.client ≡ v.own.client = (let a = t.0 in let c = h.0 in omega arith) in
                    absurd (ne (one_seat r.turn r.served r.log r.owner j id u v old mine t.2 h.2 same));
                part = old.part;
                own = old.own;
              });
          all_served = served_after r.served r.owner s.views id v w at (λ k p e. (p, e, refl)) r.all_served;
          clients = r.clients;
          few = r.few;
          short = r.short;
          history = r.history;
        },
        (ap (λ (cs : List (ℕ × Option M)). rest cs) has, refl, refl),
      )

  pub loads_count : (slots id : ℕ) (me : Me (Option M) V) → Allows Rule slots id me 1 (λ k. k) (loaded base list call_of client_of stands (step slots 1 0 0 none) me)
  loads_count slots id me s r _ at _ = let v : V = me.0 in let mine = r.each id v at in let w : V = with_seen v r.log in
      let shown : (k : ℕ) (p : Part E C) → get_elem? (parts_of w) k ≡ some p → (r.owner p.client ≡ (id, k)) × Sees call_of client_of r.log p × (p.client < r.served) =
      parts_swap v.live v.own w.own v.kept (λ k p. (r.owner p.client ≡ (id, k)) × Sees call_of client_of r.log p × (p.client < r.served)) mine.part
      (λ h. (h.0, record { seen = begins_all r.log; mine = h.1.mine }, h.2)) in (
        w,
        keeps,
        tt,
        record {
          turn = r.turn;
          served = r.served;
          log = r.log;
          owner = r.owner;
          words = ap (λ (ws : List ℕ). set ws 1 (get_or ws 1 0)) r.words;
          home = r.home;
          away = r.away;
          held = λ ne. let h = r.held ne in dite (ℕ_discrete h.0 id)
              (λ e. let same : h.1 ≡ v = at_same s.views id h.1 v (ap (get_elem? s.views) (sym e) ∙ h.2) at in (id, w, set_at s.views id v w at, ap (λ (z : V). z.holds) (sym same) ∙ h.3))
              (λ apart. (h.0, h.1, set_else s.views id h.0 w apart ∙ h.2, h.3));
          each = each_after (Right r.turn r.served r.log r.owner) s.views id w
              (record { holder = mine.holder; part = shown; own = mine.own })
              (λ j u ne there. r.each j u there);
          all_served = served_after r.served r.owner s.views id v w at (parts_stay v.live v.own w.own v.kept refl) r.all_served;
          clients = r.clients;
          few = r.few;
          short = r.short;
          history = r.history;
        },
        (refl, refl, (r.log, refl, sym (ap (λ (ws : List ℕ). get_or ws 1 0) r.words), (λ hold. (mine.holder hold).1), λ k p e. (mine.part k p e).1, λ live c is. subst (λ (z : B). stands z r.log) (let a = (mine.own live).0 in cc (a, is)) r.history)),
      )

  pub commits : (slots id : ℕ) (me : Me (Option M) V) (x : M) (e : E) → me.1 ≡ (0, Some x) ∷ [] → me.0.holds ≡ true → list x ≡ me.0.hand ++ e ∷ [] → client_of (call_of e) ≡ me.0.own.client → length (list x) < 2 ^ 31 → me.0.base ≡ base x ∷ [] → stands (base x) (list x)
      → Allows Rule slots id me 1 (λ k. (k + 1) % 2 ^ 64) (committed base list call_of client_of stands (step slots 1 1 0 none) me)
  commits slots id me x e has hold longer by few same_base is_history s r _ at _ = let v : V = me.0 in let mine = r.each id v at in let h = mine.holder hold in let log : List E = list x in
      let calls : List C = calls_by call_of client_of v.own.client log in let w : V = with_made v log calls in
      let first = mine.part 0 v.own (own_part v h.2) in
      let log_is : log ≡ r.log ++ e ∷ [] = longer ∙ ap (λ (l : List E). l ++ e ∷ []) h.1 in
      let size : length log ≡ length r.log + 1 = ap length log_is ∙ length-append r.log (e ∷ []) in
      let count : (length r.log + 1) % 2 ^ 64 ≡ length log = omega arith in
      let out : r.turn ≢ 0 = (let a = h.0 in omega arith) in
      let more : (p : Part E C) → p.client ≢ v.own.client → Sees call_of client_of r.log p → Sees call_of client_of log p =
      λ p ne sees. subst (λ (l : List E). Sees call_of client_of l p) (sym log_is) record { seen = begins_more p.seen r.log (e ∷ []) sees.seen; mine = sees.mine ∙ sym (calls_by-other call_of client_of p.client r.log e (λ z. ne (sym z ∙ by))) } in
      let parts : (k : ℕ) (p : Part E C) → get_elem? (parts_of w) k ≡ some p → (r.owner p.client ≡ (id, k)) × Sees call_of client_of log p × (p.client < r.served) =
      parts_made v.own w.own v.kept v.live h.2 (λ k p. (r.owner p.client ≡ (id, k)) × Sees call_of client_of log p × (p.client < r.served))
      (first.0, record { seen = begins_all log; mine = refl }, first.2)
      (λ k p there. let o = mine.part (suc k) p there in (o.0, more p (λ same. suc_not (ap (λ (z : ℕ × ℕ). z.1) (sym o.0 ∙ (ap r.owner same ∙ first.0)))) o.1, o.2)) in (
        w,
        keeps,
        tt,
        record {
          turn = r.turn;
          served = r.served;
          log = log;
          owner = r.owner;
          words = ap (λ (ws : List ℕ). set ws 1 ((get_or ws 1 0 + 1) % 2 ^ 64)) r.words ∙ ap (λ (z : ℕ). r.turn ∷ z ∷ []) count;
          home = λ free. absurd (out free);
          away = r.away;
          held = λ _. (id, w, set_at s.views id v w at, hold);
          each = each_after (Right r.turn r.served log r.owner) s.views id w
              (record { holder = λ _. (h.0, refl, h.2); part = parts; own = mine.own })
              (λ j u ne there. let old = r.each j u there in record {
                holder = λ z. let t = old.holder z in let same : u.own.client ≡ v.own.client = (let a = t.0 in let c = h.0 in omega arith) in
                    absurd (ne (one_seat r.turn r.served r.log r.owner j id u v old mine t.2 h.2 same));
                part = λ k p place. let o = old.part k p place in (o.0, more p (λ same. ne (ap (λ (z : ℕ × ℕ). z.0) (sym o.0 ∙ (ap r.owner same ∙ first.0)))) o.1, o.2);
                own = old.own;
              });
          all_served = served_after r.served r.owner s.views id v w at (parts_stay v.live v.own w.own v.kept refl) r.all_served;
          clients = subst (All (λ e. client_of (call_of e) < r.served)) (sym log_is)
              (All-append (λ e. client_of (call_of e) < r.served) r.log (e ∷ []) r.clients (λ k d l. let z : k ≡ 0 = omega arith in subst (λ (i : ℕ). client_of (call_of (get_or (e ∷ []) i d)) < r.served) (sym z) (let f = first.2 in omega arith)));
          few = r.few;
          short = few;
          history = subst (λ (z : B). stands z log) (let a = (mine.own h.2).0 in cc (a, same_base)) is_history;
        },
        (refl, λ y is. ap (λ (z : M). with_made v (list z) (calls_by call_of client_of v.own.client (list z))) (ap (machine_in x) (sym has ∙ is)), refl, refl),
      )
