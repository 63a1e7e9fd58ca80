-- Buffers without entries, after [MS-FSCC] 'FileBasicInformation', 'FileStandardInformation',
-- 'FileInternalInformation', 'FileAttributeTagInformation' and 'REPARSE_DATA_BUFFER'.
use Rattle.std.specs.Prelude.{ℕ, ◌-◌, ◌==◌, nat_lt, Bool, true, false, not, ◌||◌, List, [], ◌∷◌, ◌++◌, length, take, drop, Option, Some, None, if◌then◌else◌}
use Rattle.std.specs.Int.{w16, w32, from_le_bytes}
use Rattle.fsa_types.specs.LittleEndian.{Four, Eight, fields_bytes, little_endian}

-- four times, the attributes, and a reserved number
abbrev pub basic_bytes : ℕ → ℕ → ℕ → ℕ → ℕ → List ℕ
basic_bytes creation access write change attributes =
    fields_bytes (Eight creation ∷ Eight access ∷ Eight write ∷ Eight change ∷ Four attributes ∷ Four 0 ∷ [])

abbrev pub flag : Bool → ℕ
flag true = 1
flag false = 0

-- the allocation, the length, the links, two flags, and two reserved bytes
abbrev pub standard_bytes : ℕ → ℕ → ℕ → Bool → Bool → List ℕ
standard_bytes allocation len links delete_pending directory =
    fields_bytes (Eight allocation ∷ Eight len ∷ Four links ∷ []) ++ flag delete_pending ∷ flag directory ∷ 0 ∷ 0 ∷ []

-- the number of the file
abbrev pub internal_bytes : ℕ → List ℕ
internal_bytes file = fields_bytes (Eight file ∷ [])

-- the attributes, and the reparse tag or 0
abbrev pub tag_bytes : ℕ → ℕ → List ℕ
tag_bytes attributes tag = fields_bytes (Four attributes ∷ Four tag ∷ [])

-- a reparse point: its tag, the number of its data's bytes, a reserved number, and the data
abbrev pub reparse_bytes : ℕ → ℕ → List ℕ → List ℕ
reparse_bytes tag reserved content =
    (little_endian 4 tag ++ (little_endian 2 (length content) ++ little_endian 2 reserved)) ++ content

-- the tag and the data of a reparse point that is to be set; none where there are under 8 bytes, or
-- the length isn't that of the data
abbrev pub read_reparse : List ℕ → Option (ℕ × List ℕ)
read_reparse bytes =
    if nat_lt (length bytes) 8 || not (from_le_bytes w16 (take 2 (drop 4 bytes)) == length bytes - 8) then None
    else Some (from_le_bytes w32 (take 4 bytes), drop 8 bytes)
