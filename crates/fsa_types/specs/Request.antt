-- Which requests the store takes: the bounds on their counts, rooms, bytes and lists.
use Rattle.std.specs.Prelude.{ℕ, Bool, true, false, nat_le, length}
use Rattle.fsa_types.specs.declared.request.Request.{Request}
use Rattle.fsa_types.specs.declared.request.Request.TheVariants.{Read, Write, QueryDir, Notify, QueryInfo, SetSecurity, SetReparse, GetReparse, Oplock}
use Rattle.fsa_types.specs.declared.request.DaclChange.{DaclChange}
use Rattle.fsa_types.specs.declared.request.DaclChange.TheVariants.{Put}
use Rattle.fsa_types.specs.declared.request.Level.{Level}
use Rattle.fsa_types.specs.declared.request.Level.TheVariants.{Nil}
use Rattle.fsa_types.specs.declared.request.What.{What}
use Rattle.fsa_types.specs.declared.request.What.TheVariants.{Ask}

-- the most bytes of a read, a write or a buffer
abbrev pub most_bytes : ℕ
most_bytes = 16384

-- the most entries of an access list
abbrev pub most_aces : ℕ
most_aces = 32

-- an access list that is put has at most most_aces entries
abbrev pub dacl_fits : DaclChange → Bool
dacl_fits (Put dacl) = nat_le (length dacl.items) most_aces
dacl_fits _ = true

-- an oplock asks for some level
abbrev pub level_fits : Level → Bool
level_fits Nil = false
level_fits _ = true

-- counts, rooms and bytes are at most most_bytes
abbrev pub request_fits : Request → Bool
request_fits (Read handle at count) = nat_le count most_bytes
request_fits (Write handle at bytes) = nat_le (length bytes) most_bytes
request_fits (QueryDir handle kind expression restart room) = nat_le room most_bytes
request_fits (Notify handle filter tree room) = nat_le room most_bytes
request_fits (QueryInfo handle kind room) = nat_le room most_bytes
request_fits (SetSecurity handle owner dacl) = dacl_fits dacl
request_fits (SetReparse handle bytes) = nat_le (length bytes) most_bytes
request_fits (GetReparse handle room) = nat_le room most_bytes
request_fits (Oplock handle level) = level_fits level
request_fits _ = true

abbrev pub what_fits : What → Bool
what_fits (Ask request) = request_fits request
what_fits _ = true
