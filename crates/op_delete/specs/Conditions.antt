-- What the calls ask of the volume.
use Rattle.std.specs.Prelude.{ℕ, ◌<◌, ◌^◌, length}
use Rattle.fsa_model.specs.Volume.{Volume}

-- the client is one of the volume's
pub record MayEnd (v : Volume) (client : ℕ) : Type 0 where
  pub is_client : client < length v.clients

-- numbers are left for breaks
pub record MayMark (v : Volume) : Type 0 where
  pub breaks : v.last_break < 2 ^ 63
