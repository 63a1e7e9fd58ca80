-- The calls of the requests on bytes and ranges of a stream.
use Rattle.std.specs.Prelude.{ℕ}
use Rattle.fsa_types.specs.declared.request.Request.TheVariants.{Read, Write, Flush, SetEnd, Lock, Unlock}
use Rattle.fsa_types.specs.declared.request.What.{What}
use Rattle.fsa_types.specs.declared.request.What.TheVariants.{Ask}
use Rattle.fsa_types.specs.declared.status.Status.TheVariants.{InvalidDeviceRequest}
use Rattle.fsa_model.specs.Outcome.{Outcome, refused}
use Rattle.fsa_model.specs.Read.{try_read}
use Rattle.fsa_model.specs.Volume.{Volume}
use Rattle.fsa_model.specs.Write.{try_write}
use Rattle.fsa_model.specs.Flush.{try_flush}
use Rattle.fsa_model.specs.Locking.{try_lock, try_unlock}
use Rattle.fsa_model.specs.SetEnd.{try_set_end}
pub use Rattle.volume_state.specs.Tried.{HasAnswer}
use Rattle.volume_state.specs.declared.tried.Tried.{Tried}
use Rattle.volume_state.specs.declared.tried.Tried.TheVariants as tried

-- it is a Read
abbrev pub IsRead : What → Type 0
IsRead (Ask (Read handle at count)) = Unit {0}
IsRead _ = ⊥

-- it is a Write
abbrev pub IsWrite : What → Type 0
IsWrite (Ask (Write handle at bytes)) = Unit {0}
IsWrite _ = ⊥

-- one try of a read by this client; of no other call anything is said
abbrev pub asked_read : Volume → ℕ → What → Outcome
asked_read v client (Ask (Read handle at count)) = try_read v client handle at count
asked_read v client _ = refused v InvalidDeviceRequest

-- one try of a write by this client
abbrev pub asked_write : Volume → ℕ → What → Outcome
asked_write v client (Ask (Write handle at bytes)) = try_write v client handle at bytes
asked_write v client _ = refused v InvalidDeviceRequest

-- it is a Flush
abbrev pub IsFlush : What → Type 0
IsFlush (Ask (Flush handle)) = Unit {0}
IsFlush _ = ⊥

-- it sets the length of a stream
abbrev pub IsSetEnd : What → Type 0
IsSetEnd (Ask (SetEnd handle length)) = Unit {0}
IsSetEnd _ = ⊥

-- it is a Lock
abbrev pub IsLock : What → Type 0
IsLock (Ask (Lock handle at count exclusive wait)) = Unit {0}
IsLock _ = ⊥

-- it is an Unlock
abbrev pub IsUnlock : What → Type 0
IsUnlock (Ask (Unlock handle at count)) = Unit {0}
IsUnlock _ = ⊥

-- one try of a flush by this client
abbrev pub asked_flush : Volume → ℕ → What → Outcome
asked_flush v client (Ask (Flush handle)) = try_flush v client handle
asked_flush v client _ = refused v InvalidDeviceRequest

-- one try of setting the length of a stream by this client
abbrev pub asked_set_end : Volume → ℕ → What → Outcome
asked_set_end v client (Ask (SetEnd handle length)) = try_set_end v client handle length
asked_set_end v client _ = refused v InvalidDeviceRequest

-- one try of a lock by this client
abbrev pub asked_lock : Volume → ℕ → What → Outcome
asked_lock v client (Ask (Lock handle at count exclusive wait)) = try_lock v client handle at count exclusive wait
asked_lock v client _ = refused v InvalidDeviceRequest

-- one try of an unlock by this client
abbrev pub asked_unlock : Volume → ℕ → What → Outcome
asked_unlock v client (Ask (Unlock handle at count)) = try_unlock v client handle at count
asked_unlock v client _ = refused v InvalidDeviceRequest

-- the call has ended: it isn't pending, and didn't find that there was no memory
abbrev pub IsDone : Tried → Type 0
IsDone (tried.Done reply) = Unit {0}
IsDone _ = ⊥
