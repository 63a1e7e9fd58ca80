use Rattle.std.proofs.Common.{arith}
use Rattle.volume_state.proofs.room.room_above.Goals as goal

-- there are fewer directories above than links, and one
pub overflow_add-dirs : goal.overflow_add-dirs
overflow_add-dirs c =
    let few = c.len-more.ensures.few in
    let within = c.up.invariant.few in
    omega arith
