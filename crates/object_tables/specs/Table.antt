-- A table: rows under numbers that rise and are never given twice, beside the room for more rows.
use Rattle.std.specs.Prelude.{ℕ, List, refl}
use Rattle.std.specs.Coded.{Coded, code_by, coded×, coded_ℕ, coded_list}

-- the rows with their numbers, in order; the last number that was given; and how many more rows
-- can be added without taking memory
pub record Rows (T : Type 0) : Type 0 where
  pub rows : List (ℕ × T)
  pub last : ℕ
  pub room : ℕ

abbrev pub rows_code : {T : Type 0} → Coded T → Coded (Rows T)
rows_code {T} code =
    code_by (List (ℕ × T) × (ℕ × ℕ)) (coded× (coded_list (coded× coded_ℕ code)) (coded× coded_ℕ coded_ℕ))
    (λ s. (s.rows, (s.last, s.room))) (λ p. record { rows = p.0; last = p.1.0; room = p.1.1 }) (λ _. refl)
