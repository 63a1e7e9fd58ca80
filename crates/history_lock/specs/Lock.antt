-- What clauses read of a lock and of a pass.
use Rattle.std.specs.Prelude.{◌≡◌, ℕ, ◌<◌, true, List, [], ◌∷◌}
use Rattle.history_lock.specs.declared.lock.TurnLock.{TurnLock}
use Rattle.history_lock.specs.declared.machine.Machine.{Ghosts}
use Rattle.history_lock.specs.declared.pass.Pass.{Pass}
use Rattle.history_lock.specs.declared.view.View.{View}

module _ {M B E C O W A S : Type 0} where
  -- the machine's base, and the number of clients
  abbrev pub base_of : (M → B) → TurnLock M B E C O W A S → B
  base_of base lock = base lock.table.shared.key.first.value

  abbrev pub clients_of : TurnLock M B E C O W A S → ℕ
  clients_of lock = lock.table.shared.key.clients

module _ {M B E C O W A S : Type 0} {machine : Ghosts M B E C O W A S} where
  -- what a pass knows
  abbrev pub known : Pass M B E C O W A S machine → View B E C
  known pass = pass.seat.me.0

  -- it is a pass of this lock, for one of its clients, and has seen a history
  abbrev pub IsPassOf : (M → B) → (B → List E → Type 0) → TurnLock M B E C O W A S → Pass M B E C O W A S machine → Type 0
  IsPassOf base stands lock pass =
      (pass.seat.table_id ≡ lock.table.shared.table_id)
      × ((known pass).live ≡ true)
      × ((known pass).base ≡ base_of base lock ∷ [])
      × ((known pass).clients ≡ clients_of lock)
      × ((known pass).own.client < clients_of lock)
      × stands (base_of base lock) (known pass).own.seen
