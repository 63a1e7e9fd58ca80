-- The rule of the turn lock, which every step of every pass keeps, and what each step tells the pass that makes it.
-- Word 0 is the turn: 0, or one more than the client that holds it. Word 1 is the number of entries. The slot
-- holds the machine while the turn is free.
use Rattle.std.specs.Prelude.{◌≡◌, ◌≢◌, ℕ, ◌+◌, ◌<◌, ◌≤◌, ◌^◌, true, false, if◌then◌else◌, List, [], ◌∷◌, ◌++◌, length, Option, Some, All}
use mathlib.Core.Option.{some, none}
use lib.ListN.{get_elem?}
use Rattle.atomic_table.specs.Table.{State, Me, Step}
use Rattle.history_lock.specs.declared.view.Part.{Part}
use Rattle.history_lock.specs.declared.view.View.{View}
use Rattle.history_lock.specs.History.{Begins, calls_by}

module _ {B E C : Type 0} where
  -- a part for the pass itself and for each pass that was joined into it
  abbrev pub parts_of : View B E C → List (Part E C)
  parts_of v = if v.live then v.own ∷ v.kept else []

  -- the view of a new pass
  abbrev pub newcomer : List B → ℕ → ℕ → ℕ → View B E C
  newcomer base clients client served = record {
    own = record { client = client; seen = []; mine = [] };
    kept = [];
    live = true;
    base = base;
    clients = clients;
    served = served;
    loads = 0;
    lost = 0;
    holds = false;
    hand = [];
  }

  -- the turn is won, and the history is this
  abbrev pub holding : View B E C → List E → View B E C
  holding v log = record v { holds = true; hand = log }

  -- an exchange found the turn held by another pass
  abbrev pub beaten : View B E C → View B E C
  beaten v = record v { lost = v.lost + 1 }

  -- a load showed this history
  abbrev pub with_seen : View B E C → List E → View B E C
  with_seen v log = record v { own = record v.own { seen = log }; loads = v.loads + 1 }

  -- an entry was added: the history is this, and these are the own calls in it
  abbrev pub with_made : View B E C → List E → List C → View B E C
  with_made v log mine = record v { own = record v.own { seen = log; mine = mine }; hand = log }

  -- the turn is given up
  abbrev pub at_rest : View B E C → View B E C
  at_rest v = record v { holds = false; hand = [] }

  -- one more client has got its pass, and that pass
  abbrev pub left_part : View B E C → View B E C
  left_part v = record v { served = v.served + 1 }

  abbrev pub right_part : View B E C → View B E C
  right_part v = newcomer v.base v.clients v.served 0

  -- what another pass had seen and made is kept, and the other pass is spent
  abbrev pub both_parts : View B E C → View B E C → View B E C
  both_parts v u = record v { kept = v.kept ++ u.own ∷ u.kept }

  abbrev pub spent_view : View B E C
  spent_view = record (newcomer [] 0 0 0) { live = false }

  -- a spent copy of a pass
  abbrev pub shadow_part : View B E C → View B E C
  shadow_part v = record v { kept = []; live = false; holds = false; hand = [] }

-- What the part knows is true: it has seen a beginning of the history, and its calls are just those of its client in it
pub record Sees {E C : Type 0} (call_of : E → C) (client_of : C → ℕ) (log : List E) (p : Part E C) : Type 0 where
  pub seen : Begins p.seen log
  pub mine : p.mine ≡ calls_by call_of client_of p.client log

-- What one pass knows is true. The owner of a client is the pass that serves it, and the place in that pass's
-- parts: so no client has two
pub record Fits {B E C : Type 0} (call_of : E → C) (client_of : C → ℕ) (b : B) (n turn served : ℕ) (log : List E) (owner : ℕ → ℕ × ℕ) (j : ℕ) (v : View B E C) : Type 0 where
  pub holder : v.holds ≡ true → (turn ≡ v.own.client + 1) × (v.hand ≡ log) × (v.live ≡ true)
  pub part : (k : ℕ) (p : Part E C) → get_elem? (parts_of v) k ≡ some p → (owner p.client ≡ (j, k)) × Sees call_of client_of log p × (p.client < served)
  pub own : v.live ≡ true → (v.base ≡ b ∷ []) × (v.clients ≡ n) × (v.own.client ≡ 0 → v.served ≡ served)

-- each client below this number has a pass, or is kept with one
abbrev pub AllServed : {B E C : Type 0} → ℕ → (ℕ → ℕ × ℕ) → List (View B E C) → Type 0
AllServed {B} {E} {C} served owner views = (c : ℕ) → c < served
    → (v : View B E C) × (p : Part E C) × (get_elem? views (owner c).0 ≡ some v) × (get_elem? (parts_of v) (owner c).1 ≡ some p) × (p.client ≡ c)

-- The rule of the table, for a machine with the base b and for n clients
pub record Kept {M B E C : Type 0} (base : M → B) (list : M → List E) (call_of : E → C) (client_of : C → ℕ) (stands : B → List E → Type 0) (b : B) (n : ℕ) (s : State (Option M) (View B E C)) : Type 0 where
  pub turn : ℕ
  pub served : ℕ
  pub log : List E
  pub owner : ℕ → ℕ × ℕ
  -- the turn word, and the count of entries
  pub words : s.words ≡ turn ∷ length log ∷ []
  -- while the turn is free the machine is at home, and stands for the history
  pub home : turn ≡ 0 → (m : M) × (s.homes ≡ some (Some m) ∷ []) × (base m ≡ b) × (list m ≡ log)
  -- while it is held, the machine is out with the pass that holds it
  pub away : turn ≢ 0 → s.homes ≡ none ∷ []
  pub held : turn ≢ 0 → (j : ℕ) × (v : View B E C) × (get_elem? s.views j ≡ some v) × (v.holds ≡ true)
  -- what each pass knows is true
  pub each : (j : ℕ) (v : View B E C) → get_elem? s.views j ≡ some v → Fits call_of client_of b n turn served log owner j v
  -- the clients that are served are just those below this number, and the history has entries of no others
  pub all_served : AllServed served owner s.views
  pub clients : All (λ e. client_of (call_of e) < served) log
  pub few : served ≤ n
  pub short : length log < 2 ^ 31
  -- the entries are a history of this machine
  pub history : stands b log

-- What the steps tell: st is the step, found what its word was, m what the pass knows and holds before, and m'
-- after. The two counts of a pass rise at these steps alone, so each step names its word: loads counts loads of
-- the count word, and lost the exchanges that found the turn word held
module _ {M B E C : Type 0} (base : M → B) (list : M → List E) (call_of : E → C) (client_of : C → ℕ) (stands : B → List E → Type 0) where
  abbrev Seat : Type 0
  Seat = Me (Option M) (View B E C)

  -- The exchange of the turn word, from 0 to the number that names this pass: it was free, and the pass has it
  -- with the machine; or another pass holds it, and there are two clients at least
  abbrev pub taken : Step (Option M) → Seat → ℕ → Seat → Type 0
  taken st m found m' =
      (found ≡ 0 → (x : M) × (m'.1 ≡ (0, Some x) ∷ []) × (m'.0 ≡ holding m.0 (list x)) × (m.0.base ≡ base x ∷ []) × Sees call_of client_of (list x) m.0.own)
      × (found ≢ 0 → (m'.1 ≡ m.1) × (m'.0 ≡ beaten m.0) × (found ≢ m.0.own.client + 1) × (1 < m.0.clients))
      × (st.word ≡ 0) × (st.first ≡ 0) × (st.second ≡ m.0.own.client + 1)

  -- The addition of one to the count: the history is that of the machine that lies in the slot
  abbrev pub committed : Step (Option M) → Seat → ℕ → Seat → Type 0
  committed st m found m' = (m'.1 ≡ m.1) × ((x : M) → m.1 ≡ (0, Some x) ∷ [] → m'.0 ≡ with_made m.0 (list x) (calls_by call_of client_of m.0.own.client (list x))) × (st.word ≡ 1) × (st.first ≡ 1)

  -- The load of the count: the history has as many entries, and what this pass and those that it keeps know is
  -- true of it, and it is one of this machine
  abbrev pub loaded : Step (Option M) → Seat → ℕ → Seat → Type 0
  loaded st m found m' =
      (m'.1 ≡ m.1)
      × (st.word ≡ 1)
      × ((log : List E) × (m'.0 ≡ with_seen m.0 log) × (length log ≡ found) × (m.0.holds ≡ true → m.0.hand ≡ log)
      × ((k : ℕ) (p : Part E C) → get_elem? (parts_of m.0) k ≡ some p → Sees call_of client_of log p)
      × (m.0.live ≡ true → (b : B) → m.0.base ≡ b ∷ [] → stands b log))

  -- The store to the turn word that frees the turn
  abbrev pub freed : Step (Option M) → Seat → ℕ → Seat → Type 0
  freed st m found m' = (m'.1 ≡ []) × (m'.0 ≡ at_rest m.0) × (st.word ≡ 0)
