-- Packed bodies as they are printed, worked by hand from the layouts and shown by computation: two entries of each
-- layout, what is printed of buffers that no layout has, and names and actions that aren't common.
use Rattle.std.specs.Prelude.{◌≡◌, ℕ, List, [], ◌∷◌, ◌++◌, map, Result, Ok, Err, codes, refl}
use Rattle.std.specs.Fmt.{digits}
use Rattle.fsa_types.specs.LittleEndian.{zeros}
use Rattle.fsa_types.specs.Packing.{head, name_field, entry_bytes}
use Rattle.fsa_types.specs.declared.reply.Body.TheVariants.{Packed}
use Rattle.fsa_types.specs.declared.reply.PackKind.{PackKind}
use Rattle.fsa_types.specs.declared.reply.PackKind.TheVariants.{Names, Dir, Full, IdFull, Streams, Changes}
use Rattle.fsa_model.specs.Fault.{Kind}
use Rattle.fsa_model.specs.PackedText.{packed_text, read_entry}
use Rattle.fsa_model.specs.Text.{body_text}
use Rattle.fsa_model.specs.Words.{written_bytes}

-- the bytes that these digits write
abbrev pub written : Result (List ℕ) Kind → List ℕ
written (Ok bytes) = bytes
written (Err kind) = []

abbrev pub bytes_of : List ℕ → List ℕ
bytes_of digits = written (written_bytes digits)

-- what is printed of the entries in these bytes
abbrev pub prints : PackKind → List ℕ → List ℕ
prints kind digits = packed_text kind (bytes_of digits)

-- ---- two entries of each layout

pub names : prints Names (codes "10000000000000000200000063000000" ++ codes "0000000000000000020000006400") ≡ codes " =c =d"
unfolding read_entry head name_field entry_bytes zeros
names = refl

pub changes : prints Changes (codes "10000000030000000200000066000000" ++ codes "0000000002000000020000006600") ≡ codes " MODIFIED=f REMOVED=f"
unfolding read_entry head name_field entry_bytes zeros
changes = refl

pub streams :
    prints Streams
    (codes "280000000e000000000000000000000000000000000000003a003a0024004400410054004100" ++ codes "0000"
    ++ codes "0000000010000000020000000000000000100000000000003a0073003a0024004400410054004100")
    ≡ codes " =::$DATA,0 =:s:$DATA,2"
unfolding read_entry head name_field entry_bytes zeros digits
streams = refl

pub dir :
    prints Dir
    (codes "4800000000000000110000000000000012000000000000001300000000000000" ++ codes "14000000000000000500000000000000001000000000000020000000020000006100000000000000"
    ++ codes "0000000000000000210000000000000022000000000000002300000000000000" ++ codes "2400000000000000000000000000000000000000000000001000000002000000" ++ codes "6200")
    ≡ codes " =a,0x20,5 =b,0x10,0"
unfolding read_entry head name_field entry_bytes zeros digits
dir = refl

pub full :
    prints Full
    (codes "4800000000000000110000000000000012000000000000001300000000000000" ++ codes "140000000000000005000000000000000010000000000000200000000200000000000000" ++ codes "61000000"
    ++ codes "0000000000000000210000000000000022000000000000002300000000000000" ++ codes "240000000000000000000000000000000000000000000000100000000200000000000000" ++ codes "6200")
    ≡ codes " =a,0x20,5 =b,0x10,0"
unfolding read_entry head name_field entry_bytes zeros digits
full = refl

pub id_full :
    prints IdFull
    (codes "5800000000000000110000000000000012000000000000001300000000000000" ++ codes "14000000000000000500000000000000001000000000000020000000020000000000000000000000" ++ codes "07000000000000006100000000000000"
    ++ codes "0000000000000000210000000000000022000000000000002300000000000000" ++ codes "24000000000000000000000000000000000000000000000010000000020000000000000000000000" ++ codes "09000000000000006200")
    ≡ codes " =a,0x20,5 =b,0x10,0"
unfolding read_entry head name_field entry_bytes zeros digits
id_full = refl

-- the bytes stand before the entries
pub body : body_text (Packed Names (bytes_of (codes "0000000000000000020000006200"))) ≡ codes " x0000000000000000020000006200 =b"
unfolding read_entry head name_field entry_bytes zeros
body = refl

pub empty_body : body_text (Packed Names []) ≡ codes " x"
unfolding read_entry
empty_body = refl

-- ---- bytes that no layout has

-- a byte alone; an index that isn't 0; a name of an odd number of bytes; a name longer than the buffer; bytes behind the
-- last entry; a next entry that isn't there; one that is too near; padding that isn't 0
pub no_entry :
    map {B = List ℕ} (prints Names)
    (codes "01"
    ∷ codes "0000000001000000020000006200"
    ∷ codes "0000000000000000010000006200"
    ∷ codes "0000000000000000040000006200"
    ∷ codes "000000000000000002000000620000"
    ∷ codes "10000000000000000200000062000000"
    ∷ (codes "0e000000000000000200000062000000" ++ codes "0000000000000000020000006400")
    ∷ (codes "10000000000000000200000062000100" ++ codes "0000000000000000020000006400")
    ∷ [])
    ≡ [] ∷ [] ∷ [] ∷ [] ∷ [] ∷ [] ∷ [] ∷ [] ∷ []
unfolding read_entry head name_field entry_bytes zeros
no_entry = refl

-- the entries before it are printed
pub up_to_it : prints Names (codes "10000000000000000200000062000000" ++ codes "0000000001000000020000006400") ≡ codes " =b"
unfolding read_entry head name_field entry_bytes zeros
up_to_it = refl

-- a stream's name without `:` before it, or without `:$DATA` behind it
pub no_stream :
    map {B = List ℕ} (prints Streams)
    ((codes "000000000e0000000000000000000000" ++ codes "000000000000000073003a0024004400410054004100")
    ∷ (codes "00000000040000000000000000000000" ++ codes "00000000000000003a007300")
    ∷ [])
    ≡ [] ∷ [] ∷ []
unfolding read_entry head name_field entry_bytes zeros
no_stream = refl

-- ---- names and actions

-- an empty name; a space, `%`, `=` and `,`; a unit of two bytes
pub units :
    map {B = List ℕ} (prints Names) (codes "000000000000000000000000" ∷ (codes "00000000000000000800000020002500" ++ codes "3d002c00") ∷ codes "000000000000000002000000e9ff" ∷ [])
    ≡ codes " =" ∷ codes " =%0020%0025=," ∷ codes " =%FFE9" ∷ []
unfolding read_entry head name_field entry_bytes zeros
units = refl

-- each action that is known, and two that aren't
pub actions :
    map {B = List ℕ} (λ (action : ℕ). packed_text Changes (0 ∷ 0 ∷ 0 ∷ 0 ∷ action ∷ 0 ∷ 0 ∷ 0 ∷ 2 ∷ 0 ∷ 0 ∷ 0 ∷ 97 ∷ 0 ∷ [])) (1 ∷ 2 ∷ 3 ∷ 4 ∷ 5 ∷ 6 ∷ 7 ∷ 8 ∷ 0 ∷ 9 ∷ [])
    ≡ codes " ADDED=a"
    ∷ codes " REMOVED=a"
    ∷ codes " MODIFIED=a"
    ∷ codes " RENAMED_OLD_NAME=a"
    ∷ codes " RENAMED_NEW_NAME=a"
    ∷ codes " ADDED_STREAM=a"
    ∷ codes " REMOVED_STREAM=a"
    ∷ codes " MODIFIED_STREAM=a"
    ∷ codes " 0=a"
    ∷ codes " 9=a"
    ∷ []
unfolding read_entry head name_field entry_bytes zeros digits
actions = refl
