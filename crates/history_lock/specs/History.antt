-- A history as plain data: what begins it, and the calls of one client in it.
use Rattle.std.specs.Prelude.{◌≡◌, ℕ, ◌==◌, List, ◌++◌, filter, map}

-- the history begins with what was seen
pub record Begins {E : Type 0} (seen log : List E) : Type 0 where
  pub later : List E
  pub whole : log ≡ seen ++ later

-- the calls of one client in a history, in order
abbrev pub calls_by : {E C : Type 0} → (E → C) → (C → ℕ) → ℕ → List E → List C
calls_by call_of client_of client log = filter (λ call. client_of call == client) (map call_of log)
