-- Small scripts, worked.
use Rattle.std.specs.Prelude.{◌≡◌, [], ◌∷◌, ◌++◌, Ok, Err, Some, refl, codes}
use Rattle.fsa_types.specs.CaseTable.{ascii_pairs}
use Rattle.fsa_types.specs.declared.request.What.TheVariants.{Ask, Tick}
use Rattle.fsa_types.specs.declared.request.Request.TheVariants.{Create, Write}
use Rattle.fsa_types.specs.declared.request.Disposition.TheVariants.{Supersede, CreateNew, OverwriteIf}
use Rattle.fsa_model.specs.Fault.{BadCut, BadSyntax, BadClient, BadNumber}
use Rattle.fsa_model.specs.Words.{field_at, number_at, mask_of, mask_at, text_of, text_at, string_of, string_at}
use Rattle.fsa_model.specs.OpenLines.{disposition_at, create_fields}
use Rattle.fsa_model.specs.ByteLines.{start_at, write_fields}
use Rattle.fsa_model.specs.ClockLines.{tick_fields}
use Rattle.fsa_model.specs.Requests.{what_of}
use Rattle.fsa_model.specs.Lines.{Pair, ClientLine, RequestLine, pair_at, sids_at, client_at, request_of, line_of}
use Rattle.fsa_model.specs.Script.{take_line, take_client, take_request, take_call, line_after, end_after, script_of}

-- a line of each kind
pub pair : line_of (codes "up 0x61 0x41") ≡ Ok (Pair 97 65)
unfolding line_of pair_at mask_at mask_of field_at
pair = refl

pub client : line_of (codes "client b_9 0 4294967295") ≡ Ok (ClientLine (codes "b_9") (0 ∷ 4294967295 ∷ []))
unfolding line_of client_at sids_at number_at field_at
client = refl

pub create : line_of (codes "a 1 create =\\A%0042 0x3 0x7 create 0x0 0x0 0")
    ≡ Ok (RequestLine (codes "a") 1 (Ask (Create (92 ∷ 65 ∷ 66 ∷ []) 3 7 CreateNew 0 0 0)))
unfolding line_of request_of what_of create_fields text_at text_of mask_at mask_of disposition_at number_at field_at
create = refl

-- a create of a stream, with the greatest mask as wanted access and the greatest key
pub create_stream : line_of (codes "a 1 create =\\d\\f:s 0xffffffff 0x8 overwrite_if 0x41 0x31b7 18446744073709551615")
    ≡ Ok (RequestLine (codes "a") 1 (Ask (Create (codes "\\d\\f:s") 4294967295 8 OverwriteIf 0x41 0x31B7 18446744073709551615)))
unfolding line_of request_of what_of create_fields text_at text_of mask_at mask_of disposition_at number_at field_at
create_stream = refl

-- a create with an empty path
pub create_empty_path : line_of (codes "a 1 create = 0x0 0x0 supersede 0x0 0x0 0")
    ≡ Ok (RequestLine (codes "a") 1 (Ask (Create [] 0 0 Supersede 0 0 0)))
unfolding line_of request_of what_of create_fields text_at text_of mask_at mask_of disposition_at number_at field_at
create_empty_path = refl

-- a create with DELETE_ON_CLOSE, by itself and beside another option
pub delete_on_close : line_of (codes "a 1 create =\\A 0x10001 0x7 create 0x1000 0x0 0")
    ≡ Ok (RequestLine (codes "a") 1 (Ask (Create (codes "\\A") 0x10001 7 CreateNew 0x1000 0 0)))
unfolding line_of request_of what_of create_fields text_at text_of mask_at mask_of disposition_at number_at field_at
delete_on_close = refl

pub delete_on_close_too : line_of (codes "a 1 create =\\A 0x10001 0x7 create 0x1001 0x0 0")
    ≡ Ok (RequestLine (codes "a") 1 (Ask (Create (codes "\\A") 0x10001 7 CreateNew 0x1001 0 0)))
unfolding line_of request_of what_of create_fields text_at text_of mask_at mask_of disposition_at number_at field_at
delete_on_close_too = refl

-- a mask of 2 ^ 32, and a key of 2 ^ 64
pub mask_too_great : line_of (codes "a 1 create =\\A 0x100000000 0x7 create 0x0 0x0 0") ≡ Err BadSyntax
unfolding line_of request_of what_of create_fields text_at text_of mask_at mask_of disposition_at number_at field_at
mask_too_great = refl

pub key_too_great : line_of (codes "a 1 create =\\A 0x3 0x7 create 0x0 0x0 18446744073709551616") ≡ Err BadSyntax
unfolding line_of request_of what_of create_fields text_at text_of mask_at mask_of disposition_at number_at field_at
key_too_great = refl

pub write : line_of (codes "a 2 write 1 3 x0aff") ≡ Ok (RequestLine (codes "a") 2 (Ask (Write 1 (Some 3) (10 ∷ 255 ∷ []))))
unfolding line_of request_of what_of write_fields start_at string_at string_of number_at field_at
write = refl

pub leading_zero : line_of (codes "client a 07") ≡ Err BadSyntax
unfolding line_of client_at sids_at number_at field_at
leading_zero = refl

pub two_spaces : line_of (codes "a  1 tick 0") ≡ Err BadSyntax
unfolding line_of request_of number_at field_at
two_spaces = refl

pub no_verb : line_of (codes "a 1 watch 1 0x1 flat 100") ≡ Err BadSyntax
unfolding line_of request_of what_of number_at field_at
no_verb = refl

-- whole scripts
pub no_bytes : script_of [] ≡ Err (record { line = 1; kind = BadCut })
unfolding script_of
no_bytes = refl

pub no_client : script_of (codes "fsa 1" ++ 10 ∷ []) ≡ Err (record { line = 2; kind = BadSyntax })
unfolding script_of line_after line_of take_line end_after
no_client = refl

pub one_call : script_of (codes "fsa 1" ++ 10 ∷ codes "client a 7" ++ 10 ∷ codes "a 1 tick 5" ++ 10 ∷ [])
    ≡ Ok (record {
      setup = record { table = ascii_pairs; clients = record { name = codes "a"; sids = 7 ∷ [] } ∷ [] };
      lines = record { client = 0; number = 1; what = Tick 5 } ∷ [];
    })
unfolding script_of line_after line_of client_at sids_at request_of what_of tick_fields number_at field_at take_line take_client take_request take_call end_after
one_call = refl

pub out_of_turn : script_of (codes "fsa 1" ++ 10 ∷ codes "client a 7" ++ 10 ∷ codes "a 2 tick 5" ++ 10 ∷ [])
    ≡ Err (record { line = 3; kind = BadNumber })
unfolding script_of line_after line_of client_at sids_at request_of what_of tick_fields number_at field_at take_line take_client take_request take_call end_after
out_of_turn = refl

pub unknown_client : script_of (codes "fsa 1" ++ 10 ∷ codes "client a 7" ++ 10 ∷ codes "b 2 tick 5" ++ 10 ∷ [])
    ≡ Err (record { line = 3; kind = BadClient })
unfolding script_of line_after line_of client_at sids_at request_of what_of tick_fields number_at field_at take_line take_client take_request take_call end_after
unknown_client = refl
