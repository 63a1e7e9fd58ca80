-- What a grant of an oplock comes to.
use Rattle.std.specs.Prelude.{◌≡◌, ℕ, true, false}
use Rattle.std.specs.Option.{option_map_or}
use Rattle.fsa_types.specs.Rows.{row_of}
use Rattle.fsa_types.specs.declared.request.Level.{Level}
use Rattle.fsa_model.specs.Grant.{is_not_granted, with_granted}
use Rattle.fsa_model.specs.Volume.{Volume}
use Rattle.oplock_state.specs.declared.stream_oplocks.Grant.{Grant}
use Rattle.oplock_state.specs.declared.stream_oplocks.Grant.TheVariants as grant

-- the key of a handle, 0 where there is none
abbrev pub key_of_handle : Volume → ℕ → ℕ
key_of_handle v handle = option_map_or (λ row. row.key) (row_of v.handles handle) 0

-- an oplock was granted exactly where it isn't refused, and else nothing has changed
abbrev pub GrantsOn : Volume → ℕ → ℕ → ℕ → Level → ℕ → Volume → Grant → Type 0
GrantsOn v handle key stream level turn new grant.Granted =
    (is_not_granted v handle key stream level ≡ false) × (new ≡ with_granted v handle key stream level turn)
GrantsOn v handle key stream level turn new grant.Refused = (is_not_granted v handle key stream level ≡ true) × (new ≡ v)
