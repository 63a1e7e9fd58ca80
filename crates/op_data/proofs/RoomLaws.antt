-- What a break leaves of the room for a write.
use Rattle.std.proofs.Common.{◌≡◌, ℕ, Some, None}
use Rattle.std.specs.Prelude.{IfNone, Option}
use Rattle.fsa_types.specs.declared.status.Status.{Status}
use Rattle.fsa_model.specs.Volume.{Volume}
use Rattle.op_data.specs.Conditions.{HasWriteRoom}
use Rattle.volume_state.specs.VolumeView.{Spare}

-- a break lowers the room for ends alone
pub HasWriteRoom-broken : (v new : Volume) (had left : Spare) (fault : Option Status) (link stream at count : ℕ)
    → new ≡ record v { oplocks = new.oplocks; pending = new.pending; ended = new.ended; last_break = new.last_break }
    → left ≡ record had { ends = left.ends }
    → IfNone fault (HasWriteRoom v had link stream at count)
    → IfNone fault (HasWriteRoom new left link stream at count)
HasWriteRoom-broken v new had left (Some status) link stream at count is_new is_left put = tt
HasWriteRoom-broken v new had left None link stream at count is_new is_left put =
    rw (is_new, is_left) (put.0, put.1, record { changes = put.2.changes; units = put.2.units; dirs = put.2.dirs })
