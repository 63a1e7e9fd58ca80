-- A list in order beside the number of items that it has room for.
use Rattle.std.specs.Prelude.{ℕ, List, length, refl}
use Rattle.std.specs.Coded.{Coded, code_by, coded×, coded_ℕ, coded_list}

-- the items in order, and how many there is room for in all
pub record Bounded (T : Type 0) : Type 0 where
  pub items : List T
  pub room : ℕ

abbrev pub bounded_code : {T : Type 0} → Coded T → Coded (Bounded T)
bounded_code {T} code =
    code_by (List T × ℕ) (coded× (coded_list code) coded_ℕ) (λ b. (b.items, b.room)) (λ p. record { items = p.0; room = p.1 }) (λ _. refl)

-- these items, with room for no more
abbrev pub full : {T : Type 0} → List T → Bounded T
full items = record { items = items; room = length items }
