-- The room for the copy of a reply.
use Rattle.std.specs.Prelude.{ℕ, refl}
use Rattle.std.specs.Coded.{Coded, code_by, coded×, coded_ℕ}

-- how many bytes and how many units fit
pub record Room : Type 0 where
  pub bytes : ℕ
  pub units : ℕ

abbrev pub room_code : Coded Room
room_code =
    code_by (ℕ × ℕ) (coded× coded_ℕ coded_ℕ) (λ r. (r.bytes, r.units)) (λ p. record { bytes = p.0; units = p.1 }) (λ _. refl)
