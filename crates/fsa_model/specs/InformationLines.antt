-- The lines that ask for information and set it: what their fields say, and how they are written. They set times and
-- attributes, and the owner and the access list.
use Rattle.std.specs.Prelude.{ℕ, zero, suc, ◌+◌, ◌==◌, ◌||◌, ◌&&◌, Bool, true, nat_le, List, [], ◌∷◌, ◌++◌, Option, Some, None, Result, Ok, Err, if◌then◌else◌, length, drop, codes, nat_eq}
use Rattle.std.specs.Option.{option_map_or}
use Rattle.std.specs.List.{before_first, flat_map, list_all, position_or_len, starts_with}
pub use Rattle.fsa_types.specs.Request.{most_aces}
use Rattle.fsa_types.specs.BoundedList.{full}
use Rattle.fsa_types.specs.declared.request.Ace.{Ace}
use Rattle.fsa_types.specs.declared.request.DaclChange.{DaclChange}
use Rattle.fsa_types.specs.declared.request.DaclChange.TheVariants.{Keep, Remove, Put}
use Rattle.fsa_types.specs.declared.request.InfoKind.{InfoKind}
use Rattle.fsa_types.specs.declared.request.InfoKind.TheVariants.{Basic, Standard, Internal, Tag, Streams}
use Rattle.fsa_types.specs.declared.request.What.{What}
use Rattle.fsa_types.specs.declared.request.What.TheVariants.{Ask}
use Rattle.fsa_types.specs.declared.request.Request.TheVariants.{QueryInfo, SetBasic, SetSecurity}
use Rattle.fsa_model.specs.Fault.{Kind, BadSyntax, ◌>>=◌, read_as, only_if}
use Rattle.fsa_model.specs.Numbers.{written_number, spelled}
use Rattle.fsa_model.specs.Words.{most_id, most_mask, most_bytes, same, field_at, number_at, mask_of, mask_at, ended}
use Rattle.fsa_model.specs.FieldText.{number_text, mask_text}

-- ---- information

-- what is asked for
abbrev pub info_kind_of : List ℕ → Result InfoKind Kind
info_kind_of word =
    if same word (codes "basic") then Ok Basic
    else if same word (codes "standard") then Ok Standard
    else if same word (codes "internal") then Ok Internal
    else if same word (codes "tag") then Ok Tag
    else if same word (codes "stream") then Ok Streams
    else Err BadSyntax

unfoldable pub info_kind_at : List ℕ → Result (InfoKind × List ℕ) Kind
info_kind_at bytes = do
  word ← field_at bytes
  kind ← info_kind_of word.0
  Ok (kind, word.1)

-- handle, what is asked for, room
unfoldable pub query_info_fields : List ℕ → Result What Kind
query_info_fields bytes = do
  handle ← number_at most_id bytes
  kind ← info_kind_at handle.1
  room ← number_at most_bytes kind.1
  ended room.1 (Ask (QueryInfo handle.0 kind.0 room.0))

-- `basic`, `standard`, `internal`, `tag` or `stream`
abbrev pub info_kind_word : InfoKind → List ℕ
info_kind_word Basic = codes "basic"
info_kind_word Standard = codes "standard"
info_kind_word Internal = codes "internal"
info_kind_word Tag = codes "tag"
info_kind_word Streams = codes "stream"

-- it, as a field
abbrev pub info_kind_text : InfoKind → List ℕ
info_kind_text kind = 32 ∷ info_kind_word kind

abbrev pub query_info_text : ℕ → InfoKind → ℕ → List ℕ
query_info_text handle kind room = number_text handle ++ (info_kind_text kind ++ number_text room)

abbrev pub is_query_info : ℕ → ℕ → Bool
is_query_info handle room = nat_le handle most_id && nat_le room most_bytes

-- ---- times and attributes

-- times are below 2 ^ 64
abbrev pub most_time : ℕ
most_time = 18446744073709551615

-- handle; the times of creation, access, write and change; attributes
unfoldable pub set_basic_fields : List ℕ → Result What Kind
set_basic_fields bytes = do
  handle ← number_at most_id bytes
  creation ← number_at most_time handle.1
  access ← number_at most_time creation.1
  write ← number_at most_time access.1
  change ← number_at most_time write.1
  attributes ← mask_at change.1
  ended attributes.1 (Ask (SetBasic handle.0 creation.0 access.0 write.0 change.0 attributes.0))

abbrev pub set_basic_text : ℕ → ℕ → ℕ → ℕ → ℕ → ℕ → List ℕ
set_basic_text handle creation access write change attributes =
    number_text handle ++ (number_text creation ++ (number_text access ++ (number_text write ++ (number_text change ++ mask_text attributes))))

abbrev pub is_set_basic : ℕ → ℕ → ℕ → ℕ → ℕ → ℕ → Bool
is_set_basic handle creation access write change attributes =
    nat_le handle most_id
    && nat_le creation most_time
    && nat_le access most_time
    && nat_le write most_time
    && nat_le change most_time
    && nat_le attributes most_mask

-- ---- owners and access lists

-- a SID
abbrev pub sid_of : List ℕ → Result ℕ Kind
sid_of word = read_as (written_number 10 most_id word)

-- `keep`, or the SID of an owner
unfoldable pub owner_at : List ℕ → Result (Option ℕ × List ℕ) Kind
owner_at bytes = do
  word ← field_at bytes
  owner ← (if same word.0 (codes "keep") then Ok None else sid_of word.0 >>= (λ sid. Ok (Some sid)))
  Ok (owner, word.1)

-- an entry of an access list behind its sign: a SID, `:` and the mask
unfoldable pub ace_with : Bool → List ℕ → Result Ace Kind
ace_with allow bytes = do
  sid ← sid_of (before_first (λ byte. byte == 58) bytes)
  mask ← mask_of (drop (position_or_len (λ byte. byte == 58) bytes + 1) bytes)
  Ok (record { allow = allow; sid = sid; mask = mask })

-- an entry: `+` allows, and `-` denies
unfoldable pub ace_of : List ℕ → Result Ace Kind
ace_of [] = Err BadSyntax
ace_of (sign ∷ bytes) = if sign == 43 || sign == 45 then ace_with (sign == 43) bytes else Err BadSyntax

-- the entry up to the next comma, and what follows it, from that comma on
abbrev pub before_comma : List ℕ → List ℕ
before_comma bytes = before_first (λ byte. byte == 44) bytes

abbrev pub after_entry : List ℕ → List ℕ
after_entry bytes = drop (position_or_len (λ byte. byte == 44) bytes) bytes

-- this entry before those that are read
abbrev pub ace_onto : Ace → Result (List Ace) Kind → Result (List Ace) Kind
ace_onto ace (Ok aces) = Ok (ace ∷ aces)
ace_onto ace (Err kind) = Err kind

-- entries up to the end of the word, each behind a comma, `most` at most
unfoldable pub aces_of : ℕ → List ℕ → Result (List Ace) Kind
aces_of zero bytes = only_if (length bytes == 0) []
aces_of (suc most) [] = Ok []
aces_of (suc most) (comma ∷ bytes) = if comma == 44 then ace_of (before_comma bytes) >>= (λ ace. ace_onto ace (aces_of most (after_entry bytes))) else Err BadSyntax

-- `keep`, `null`, or `acl` and entries
unfoldable pub dacl_of : List ℕ → Result DaclChange Kind
dacl_of word =
    if same word (codes "keep") then Ok Keep
    else if same word (codes "null") then Ok Remove
    else if starts_with nat_eq word (codes "acl") then aces_of most_aces (drop 3 word) >>= (λ aces. Ok (Put (full aces)))
    else Err BadSyntax

unfoldable pub dacl_at : List ℕ → Result (DaclChange × List ℕ) Kind
dacl_at bytes = do
  word ← field_at bytes
  dacl ← dacl_of word.0
  Ok (dacl, word.1)

-- handle, owner, access list
unfoldable pub set_security_fields : List ℕ → Result What Kind
set_security_fields bytes = do
  handle ← number_at most_id bytes
  owner ← owner_at handle.1
  dacl ← dacl_at owner.1
  ended dacl.1 (Ask (SetSecurity handle.0 owner.0 dacl.0))

-- an owner, where one is asked for
abbrev pub owner_text : Option ℕ → List ℕ
owner_text owner = option_map_or number_text owner (32 ∷ codes "keep")

-- an entry of an access list behind its comma, and an access list
abbrev pub ace_text : Ace → List ℕ
ace_text ace = 44 ∷ (if ace.allow then 43 else 45) ∷ (spelled 10 ace.sid ++ 58 ∷ 48 ∷ 120 ∷ spelled 16 ace.mask)

abbrev pub dacl_text : DaclChange → List ℕ
dacl_text Keep = 32 ∷ codes "keep"
dacl_text Remove = 32 ∷ codes "null"
dacl_text (Put dacl) = 32 ∷ (codes "acl" ++ flat_map ace_text dacl.items)

abbrev pub set_security_text : ℕ → Option ℕ → DaclChange → List ℕ
set_security_text handle owner dacl = number_text handle ++ (owner_text owner ++ dacl_text dacl)

-- an entry that a line can say
abbrev pub is_ace : Ace → Bool
is_ace ace = nat_le ace.sid most_id && nat_le ace.mask most_mask

-- what a line can say of an access list: at most so many entries, in a list with no more room
abbrev pub is_dacl : DaclChange → Bool
is_dacl (Put dacl) = list_all is_ace dacl.items && nat_le (length dacl.items) most_aces && dacl.room == length dacl.items
is_dacl _ = true

abbrev pub is_set_security : ℕ → Option ℕ → DaclChange → Bool
is_set_security handle owner dacl = nat_le handle most_id && option_map_or (λ sid. nat_le sid most_id) owner true && is_dacl dacl
