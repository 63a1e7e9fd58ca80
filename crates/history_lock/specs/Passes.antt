-- What each call makes of what a pass knows.
use Rattle.std.specs.Prelude.{◌≡◌, ◌≤◌, false, List, [], ◌∷◌, ◌++◌, Option}
use Rattle.atomic_table.specs.Table.{Me}
use Rattle.history_lock.specs.declared.view.View.{View}
use Rattle.history_lock.specs.History.{Begins}
use Rattle.history_lock.specs.Turns.{with_seen}

-- between two calls a pass holds neither the turn nor the machine
abbrev pub IsResting : {M B E C : Type 0} → Me (Option M) (View B E C) → Type 0
IsResting me = (me.1 ≡ []) × (me.0.holds ≡ false) × (me.0.hand ≡ []) × (me.0.kept ≡ [])

-- One entry was added after all that had been seen, and ends what is seen now. Its call is this one, and it is
-- the one call more that the pass has made; nothing else changed
pub record Makes {B E C : Type 0} (call_of : E → C) (call : C) (v w : View B E C) : Type 0 where
  pub front : List E
  pub entry : E
  pub seen : w.own.seen ≡ front ++ entry ∷ []
  pub after : Begins v.own.seen front
  pub called : call_of entry ≡ call
  pub view : w ≡ record v { own = record v.own { seen = w.own.seen; mine = v.own.mine ++ call ∷ [] } }

-- The count was loaded once, and what is seen begins with what had been seen; nothing else changed
pub record Refreshed {B E C : Type 0} (v w : View B E C) : Type 0 where
  pub seen : Begins v.own.seen w.own.seen
  pub view : w ≡ with_seen v w.own.seen

-- The count was loaded any number of times, and what is seen begins with what had been seen; nothing else changed
pub record OnlyLoaded {B E C : Type 0} (v w : View B E C) : Type 0 where
  pub seen : Begins v.own.seen w.own.seen
  pub loads : v.loads ≤ w.loads
  pub view : w ≡ record v { own = record v.own { seen = w.own.seen }; loads = w.loads }

-- The turn was found held any number of times, which changed nothing else, and then the last try made this of the pass
pub record Waited {B E C : Type 0} (v w : View B E C) (P : View B E C → View B E C → Type 0) : Type 0 where
  pub before : View B E C
  pub lost : v.lost ≤ before.lost
  pub view : before ≡ record v { lost = before.lost }
  pub last : P before w
