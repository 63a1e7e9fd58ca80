-- Asking for information, and setting times, attributes, owners and access lists, keeps what every try keeps.
use Rattle.std.proofs.Common.{◌≤◌, List, length, not, arith}
use Rattle.std.specs.Prelude.{◌==◌, ◌&&◌, is_some, nat_lt, take}
use Rattle.std.proofs.lemmas.Bool.{ltb-false}
use Rattle.fsa_types.specs.Access.{has_any}
use Rattle.fsa_types.specs.FixedBuffers.{internal_bytes}
use Rattle.fsa_types.specs.Masks.{READ_ATTRIBUTES, WRITE_ATTRIBUTES}
use Rattle.fsa_types.specs.Packing.{bytes}
use Rattle.fsa_types.specs.declared.reply.PackKind.TheVariants as pack
use Rattle.fsa_types.specs.declared.request.InfoKind.{InfoKind}
use Rattle.fsa_types.specs.declared.request.InfoKind.TheVariants.{Basic, Standard, Internal, Tag, Streams}
use Rattle.fsa_types.specs.declared.request.Request.TheVariants as request
use Rattle.fsa_types.specs.declared.request.What.TheVariants.{Ask}
use Rattle.fsa_types.specs.declared.status.Status.TheVariants.{InfoLengthMismatch, InvalidParameter}
use Rattle.fsa_model.specs.Outcome.{Done}
use Rattle.fsa_model.specs.QueryInfo.{basic_of, fixed_size, got, needs_attributes, query_file, query_info_at, query_info_by, query_streams, query_streams_by, standard_of, stream_rows, how_many_streams_fit, tag_of, try_query_info}
use Rattle.fsa_model.specs.SetBasic.{Basics, basic_bits, has_no_time, has_wrong_attributes, set_basic_at, set_basic_by, set_basic_of, try_set_basic, with_basics, with_basics_noted}
use Rattle.fsa_model.proofs.ObeyLaws.{Obeys-replies}
use Rattle.fsa_model.proofs.ObeyListing.{fits-any}
use Rattle.std.proofs.Common.{ℕ, refl, Option, Some, None}
use Rattle.fsa_types.specs.Rows.{row_of}
use Rattle.fsa_types.specs.declared.request.Call.{Call}
use Rattle.fsa_types.specs.declared.request.DaclChange.{DaclChange}
use Rattle.fsa_types.specs.declared.request.DaclChange.TheVariants.{Keep, Remove, Put}
use Rattle.fsa_types.specs.declared.status.Status.TheVariants.{Success, InvalidHandle, AccessDenied, QuotaExceeded}
use Rattle.fsa_model.specs.Lookups.{file_of_link, handle_of}
use Rattle.fsa_model.specs.Security.{asks_something, is_foreign, lacks_right, passes_limit, set_security_at, set_security_by, set_security_of, try_set_security, with_change_time, with_dacl_asked, with_owner_asked, with_security, mapped}
use Rattle.fsa_model.specs.Volume.{Handle, Volume}
use Rattle.fsa_model.proofs.ObeyLaws.{Calm, Calm-basic, Calm-file, Calm-if, Calm-next, Calm-noted, Calm-same, Obeys, Obeys-ends, Obeys-if, Obeys-option, Obeys-refused}

-- ---- owners and access lists

Calm-owner_asked : (v : Volume) (file : ℕ) (owner : Option ℕ) → Calm v (with_owner_asked v file owner)
Calm-owner_asked v file None = Calm-same v
Calm-owner_asked v file (Some sid) = Calm-file v (λ row. record row { owner = sid }) file (λ row. refl)

Calm-dacl_asked : (v : Volume) (file : ℕ) (dacl : DaclChange) → Calm v (with_dacl_asked v file dacl)
Calm-dacl_asked v file Keep = Calm-same v
Calm-dacl_asked v file Remove = Calm-file v (λ row. record row { dacl = None }) file (λ row. refl)
Calm-dacl_asked v file (Put dacl) = Calm-file v (λ row. record row { dacl = Some (mapped dacl.items) }) file (λ row. refl)

Calm-security : (v : Volume) (link file : ℕ) (owner : Option ℕ) (dacl : DaclChange) → Calm v (with_security v link file owner dacl)
Calm-security v link file owner dacl =
    let own : Volume = with_owner_asked v file owner in
    let listed : Volume = with_dacl_asked own file dacl in
    let timed : Volume = with_change_time listed file in
    Calm-next (Calm-owner_asked v file owner) (Calm-next (Calm-dacl_asked own file dacl)
    (Calm-next (Calm-basic listed file _ _ _ _ _)
    (Calm-if (asks_something owner dacl) _ timed (Calm-noted timed link 3 0x100 None) (Calm-same timed))))

set_security_of-obeys : (call : Call) (v : Volume) (client link file : ℕ) (owner : Option ℕ) (dacl : DaclChange) → Obeys call v (set_security_of v client link file owner dacl)
unfolding set_security_of
set_security_of-obeys call v client link file owner dacl =
    Obeys-if (is_foreign v client owner) _ _ (λ is. Obeys-refused call v AccessDenied refl)
    (λ no. Obeys-if (passes_limit v file owner) _ _ (λ is. Obeys-refused call v QuotaExceeded refl)
    (λ no. Obeys-ends call v _ Success (Calm-security v link file owner dacl) refl))

set_security_by-obeys : (call : Call) (v : Volume) (client : ℕ) (handle : Handle) (owner : Option ℕ) (dacl : DaclChange) → Obeys call v (set_security_by v client handle owner dacl)
unfolding set_security_by
set_security_by-obeys call v client handle owner dacl =
    Obeys-if (lacks_right handle.access owner dacl) _ _ (λ is. Obeys-refused call v AccessDenied refl)
    (λ no. Obeys-option (file_of_link v.links handle.link) (λ file. set_security_of v client handle.link file owner dacl) _
    (λ file found. set_security_of-obeys call v client handle.link file owner dacl) (Obeys-refused call v InvalidHandle refl))

set_security_at-obeys : (call : Call) (v : Volume) (client id : ℕ) (owner : Option ℕ) (dacl : DaclChange) → Obeys call v (set_security_at v client id owner dacl)
unfolding set_security_at
set_security_at-obeys call v client id owner dacl =
    Obeys-option (row_of v.handles id) (λ handle. set_security_by v client handle owner dacl) _ (λ handle found. set_security_by-obeys call v client handle owner dacl) (Obeys-refused call v InvalidHandle refl)

pub try_set_security-obeys : (call : Call) (v : Volume) (client handle : ℕ) (owner : Option ℕ) (dacl : DaclChange) → Obeys call v (try_set_security v client handle owner dacl)
unfolding try_set_security
try_set_security-obeys call v client handle owner dacl =
    Obeys-option (handle_of v client handle) (λ id. set_security_at v client id owner dacl) _ (λ id found. set_security_at-obeys call v client id owner dacl) (Obeys-refused call v InvalidHandle refl)

-- ---- times and attributes

Calm-basics_noted : (v : Volume) (link file : ℕ) (asked : Basics) → Calm v (with_basics_noted v link file asked)
Calm-basics_noted v link file asked =
    Calm-if (basic_bits asked == 0) _ _ (Calm-basic v file _ _ _ _ _) (Calm-next (Calm-basic v file _ _ _ _ _) (Calm-noted (with_basics v file asked) link _ (basic_bits asked) None))

set_basic_of-obeys : (call : Call) (v : Volume) (link file : ℕ) (asked : Basics) → Obeys call v (set_basic_of v link file asked)
unfolding set_basic_of
set_basic_of-obeys call v link file asked =
    Obeys-if (has_no_time asked) _ _ (λ is. Obeys-refused call v InvalidParameter refl)
    (λ no. Obeys-if (has_wrong_attributes v file asked.attributes) _ _ (λ is. Obeys-refused call v InvalidParameter refl)
    (λ no. Obeys-ends call v (with_basics_noted v link file asked) Success (Calm-basics_noted v link file asked) refl))

set_basic_by-obeys : (call : Call) (v : Volume) (handle : Handle) (asked : Basics) → Obeys call v (set_basic_by v handle asked)
unfolding set_basic_by
set_basic_by-obeys call v handle asked =
    Obeys-if (not (has_any handle.access WRITE_ATTRIBUTES)) _ _ (λ is. Obeys-refused call v AccessDenied refl)
    (λ no. Obeys-option (file_of_link v.links handle.link) (λ file. set_basic_of v handle.link file asked) _ (λ file found. set_basic_of-obeys call v handle.link file asked) (Obeys-refused call v InvalidHandle refl))

pub try_set_basic-obeys : (call : Call) (v : Volume) (client handle : ℕ) (asked : Basics) → Obeys call v (try_set_basic v client handle asked)
unfolding try_set_basic set_basic_at
try_set_basic-obeys call v client handle asked =
    Obeys-option (handle_of v client handle) (λ id. set_basic_at v id asked) _
    (λ id found. Obeys-option (row_of v.handles id) (λ row. set_basic_by v row asked) _ (λ row is. set_basic_by-obeys call v row asked) (Obeys-refused call v InvalidHandle refl))
    (Obeys-refused call v InvalidHandle refl)

-- ---- information

-- a query of information
abbrev pub asks_info : ℕ → ℕ → ℕ → InfoKind → ℕ → Call
asks_info client number handle kind room = record { client = client; number = number; what = Ask (request.QueryInfo handle kind room) }

-- with these bytes, for which there is room
got-obeys : (v : Volume) (client number handle : ℕ) (kind : InfoKind) (room : ℕ) (bytes : List ℕ) → length bytes ≤ room → Obeys (asks_info client number handle kind room) v (Done v (got bytes))
got-obeys v client number handle kind room bytes fits = Obeys-replies (asks_info client number handle kind room) v (got bytes) (record { bytes = fits; units = omega arith }) refl

query_streams-obeys : (v : Volume) (client number handle : ℕ) (kind : InfoKind) (file room : ℕ) → Obeys (asks_info client number handle kind room) v (query_streams v file room)
unfolding query_streams
query_streams-obeys v client number handle kind file room =
    let call : Call = asks_info client number handle kind room in
    let fits : length (bytes pack.Streams (take (how_many_streams_fit v file room) (stream_rows v file))) ≤ room = fits-any pack.Streams (stream_rows v file) room refl in
    Obeys-if (how_many_streams_fit v file room == length (stream_rows v file)) _ _ (λ is. Obeys-replies call v _ (record { bytes = fits; units = omega arith }) refl)
    (λ no. Obeys-replies call v _ (record { bytes = fits; units = omega arith }) refl)

query_streams_by-obeys : (v : Volume) (client number handle : ℕ) (kind : InfoKind) (row : Handle) (file room : ℕ) → Obeys (asks_info client number handle kind room) v (query_streams_by v row file room)
unfolding query_streams_by
query_streams_by-obeys v client number handle kind row file room =
    Obeys-if (is_some row.stream) _ _ (λ is. query_streams-obeys v client number handle kind file room)
    (λ no. Obeys-replies (asks_info client number handle kind room) v _ (record { bytes = omega arith; units = omega arith }) refl)

query_file-obeys : (v : Volume) (client number handle : ℕ) (kind : InfoKind) (row : Handle) (file room : ℕ) → fixed_size kind ≤ room → Obeys (asks_info client number handle kind room) v (query_file v row file kind room)
unfolding query_file
query_file-obeys v client number handle Basic row file room fixed = got-obeys v client number handle Basic room (basic_of v file) fixed
query_file-obeys v client number handle Standard row file room fixed = got-obeys v client number handle Standard room (standard_of v row file) fixed
query_file-obeys v client number handle Internal row file room fixed = got-obeys v client number handle Internal room (internal_bytes file) fixed
query_file-obeys v client number handle Tag row file room fixed = got-obeys v client number handle Tag room (tag_of v file) fixed
query_file-obeys v client number handle Streams row file room fixed = query_streams_by-obeys v client number handle Streams row file room

query_info_by-obeys : (v : Volume) (client number handle : ℕ) (kind : InfoKind) (row : Handle) (room : ℕ) → Obeys (asks_info client number handle kind room) v (query_info_by v row kind room)
unfolding query_info_by
query_info_by-obeys v client number handle kind row room =
    let call : Call = asks_info client number handle kind room in
    Obeys-if (nat_lt room (fixed_size kind)) _ _ (λ is. Obeys-refused call v InfoLengthMismatch refl)
    (λ enough. Obeys-if (needs_attributes kind && not (has_any row.access READ_ATTRIBUTES)) _ _ (λ is. Obeys-refused call v AccessDenied refl)
    (λ no. Obeys-option (file_of_link v.links row.link) (λ file. query_file v row file kind room) _
    (λ file found. query_file-obeys v client number handle kind row file room (ltb-false room (fixed_size kind) enough)) (Obeys-refused call v InvalidHandle refl)))

pub try_query_info-obeys : (v : Volume) (client number handle : ℕ) (kind : InfoKind) (room : ℕ) → Obeys (asks_info client number handle kind room) v (try_query_info v client handle kind room)
unfolding try_query_info query_info_at
try_query_info-obeys v client number handle kind room =
    let call : Call = asks_info client number handle kind room in
    Obeys-option (handle_of v client handle) (λ id. query_info_at v id kind room) _
    (λ id found. Obeys-option (row_of v.handles id) (λ row. query_info_by v row kind room) _ (λ row is. query_info_by-obeys v client number handle kind row room) (Obeys-refused call v InvalidHandle refl))
    (Obeys-refused call v InvalidHandle refl)
