-- Which requests keep what every try keeps by one law, and that they do.
use Rattle.std.proofs.Common.{◌≡◌, ℕ, Bool, true, false, refl, arith}
use Rattle.fsa_types.specs.declared.request.Call.{Call}
use Rattle.fsa_types.specs.declared.request.Request.{Request}
use Rattle.fsa_types.specs.declared.request.Request.TheVariants.{Create, Close, Read, Write, Flush, SetEnd, Lock, Unlock, QueryDir, QueryInfo, SetBasic, SetDisposition, Rename, Link, Oplock, Ack, SetSecurity, SetReparse, GetReparse, DeleteReparse, SetQuota, QueryQuota, Notify, Cancel}
use Rattle.fsa_types.specs.declared.request.What.{What}
use Rattle.fsa_types.specs.declared.request.What.TheVariants.{Ask}
use Rattle.fsa_model.specs.Try.{try_request}
use Rattle.fsa_model.specs.Volume.{Volume}
use Rattle.fsa_model.proofs.ObeyData.{try_flush-obeys, try_lock-obeys, try_read-obeys, try_set_end-obeys, try_write-obeys}
use Rattle.fsa_model.proofs.ObeyControl.{try_delete_reparse-obeys, try_get_reparse-obeys, try_query_quota-obeys, try_set_quota-obeys, try_set_reparse-obeys}
use Rattle.fsa_model.proofs.ObeyInformation.{try_query_info-obeys, try_set_basic-obeys, try_set_security-obeys}
use Rattle.fsa_model.proofs.ObeyLaws.{Obeys, may_be_held}
use Rattle.fsa_model.proofs.ObeyListing.{try_query_dir-obeys}
use Rattle.fsa_model.proofs.ObeyNames.{try_link-obeys, try_rename-obeys, try_set_disposition-obeys}
use Rattle.fsa_model.proofs.ObeyOpens.{try_create-obeys}

-- a request that ends what others wait for, or that may stay pending without a blocker: each such has laws of its own
abbrev pub has_own_laws : Request → Bool
has_own_laws (Close handle) = true
has_own_laws (Unlock handle at count) = true
has_own_laws (Oplock handle level) = true
has_own_laws (Ack handle level) = true
has_own_laws (Notify handle filter tree room) = true
has_own_laws (Cancel number) = true
has_own_laws _ = false

-- what can be held is none of these
pub held-obeys : (request : Request) → may_be_held (Ask request) ≡ true → has_own_laws request ≡ false
held-obeys (Close handle) held = cc
held-obeys (Unlock handle at count) held = cc
held-obeys (Oplock handle level) held = cc
held-obeys (Ack handle level) held = cc
held-obeys (Notify handle filter tree room) held = cc
held-obeys (Cancel number) held = cc
held-obeys _ held = refl

-- the call that asks this
abbrev pub asks : ℕ → ℕ → What → Call
asks client number what = record { client = client; number = number; what = what }

-- every other keeps what every try keeps
pub try_request-obeys : (v : Volume) (turn client number : ℕ) (request : Request) → has_own_laws request ≡ false → Obeys (asks client number (Ask request)) v (try_request v turn client number request)
try_request-obeys v turn client number (Create path wanted share disposition options attributes key) own = try_create-obeys v _
try_request-obeys v turn client number (Read handle at count) own = try_read-obeys v client number handle at count
try_request-obeys v turn client number (Write handle at bytes) own = try_write-obeys _ v client handle at bytes (record { never = λ u w so. so; held = refl })
try_request-obeys v turn client number (Flush handle) own = try_flush-obeys _ v client handle
try_request-obeys v turn client number (SetEnd handle length) own = try_set_end-obeys _ v client handle length (record { never = λ u w so. so; held = refl })
try_request-obeys v turn client number (Lock handle at count exclusive wait) own = try_lock-obeys _ v client handle at count exclusive wait (record { never = λ u w so. so; held = refl }) refl
try_request-obeys v turn client number (SetSecurity handle owner dacl) own = try_set_security-obeys _ v client handle owner dacl
try_request-obeys v turn client number (QueryDir handle kind expression restart room) own = try_query_dir-obeys v client number handle kind expression restart room
try_request-obeys v turn client number (SetDisposition handle delete) own = try_set_disposition-obeys _ v client handle delete (record { never = λ u w so. so; held = refl })
try_request-obeys v turn client number (Rename handle path replace) own = try_rename-obeys _ v client handle path replace (record { never = λ u w so. so; held = refl }) (record { bytes = omega arith; units = omega arith })
try_request-obeys v turn client number (Link handle path replace) own = try_link-obeys _ v client handle path replace (record { never = λ u w so. so; held = refl }) (record { bytes = omega arith; units = omega arith })
try_request-obeys v turn client number (Close handle) own = cc
try_request-obeys v turn client number (Unlock handle at count) own = cc
try_request-obeys v turn client number (Oplock handle level) own = cc
try_request-obeys v turn client number (Ack handle level) own = cc
try_request-obeys v turn client number (Notify handle filter tree room) own = cc
try_request-obeys v turn client number (Cancel cancelled) own = cc
try_request-obeys v turn client number (QueryInfo handle kind room) own = try_query_info-obeys v client number handle kind room
try_request-obeys v turn client number (SetBasic handle creation access write change attributes) own = try_set_basic-obeys _ v client handle _
try_request-obeys v turn client number (SetReparse handle bytes) own = try_set_reparse-obeys v client number handle bytes
try_request-obeys v turn client number (GetReparse handle room) own = try_get_reparse-obeys v client number handle room
try_request-obeys v turn client number (DeleteReparse handle tag) own = try_delete_reparse-obeys _ v client handle tag
try_request-obeys v turn client number (SetQuota sid bytes) own = try_set_quota-obeys _ v client sid bytes
try_request-obeys v turn client number (QueryQuota sid) own = try_query_quota-obeys _ v sid
