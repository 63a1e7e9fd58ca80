-- Items in order beside the room for more of them.
use Rattle.std.specs.Prelude.{ℕ, ◌+◌, ◌≤◌, List, length, refl}
use Rattle.std.specs.Coded.{Coded, code_by, coded×, coded_ℕ, coded_list}

-- the items in order, and how many more can be put in without taking memory
pub record Items (T : Type 0) : Type 0 where
  pub items : List T
  pub room : ℕ

abbrev pub items_code : {T : Type 0} → Coded T → Coded (Items T)
items_code {T} code =
    code_by (List T × ℕ) (coded× (coded_list code) coded_ℕ) (λ s. (s.items, s.room)) (λ p. record { items = p.0; room = p.1 }) (λ _. refl)

-- there is a place for as many, those that have one already among them: each item that is put in takes one
abbrev pub HoldsAsMany : {T : Type 0} → Items T → Items T → Type 0
HoldsAsMany old new = old.room + length old.items ≤ new.room + length new.items
