-- What stands before a name, with its constants as they are.
use Rattle.std.specs.Prelude.{◌≡◌, ◌<◌, ◌^◌, ℕ, List, [], ◌∷◌}
use Rattle.std.specs.List.{flat_map}
use Rattle.fsa_types.specs.declared.reply.PackKind.{PackKind}
use Rattle.fsa_types.specs.declared.reply.PackKind.TheVariants.{Names, Dir, Full, IdFull, Streams, Changes}
use Rattle.fsa_types.specs.LittleEndian.{Field, Four, Eight}
use Rattle.pack_info.specs.declared.reading.Head.{Head}
use Rattle.fsa_types.specs.LittleEndian.{field_bytes}
use Rattle.fsa_types.specs.Packing.{shown}
use Rattle.fsa_types.specs.PackedRows.{NumbersFit}

abbrev pub raw_fields : PackKind → Head → List Field
raw_fields Changes h = Four h.next ∷ Four h.numbers.action ∷ Four h.len ∷ []
raw_fields Names h = Four h.next ∷ Four h.index ∷ Four h.len ∷ []
raw_fields Dir h = Four h.next ∷ Four h.index ∷ Eight h.numbers.creation ∷ Eight h.numbers.access ∷ Eight h.numbers.write ∷ Eight h.numbers.change ∷ Eight h.numbers.length ∷ Eight h.numbers.room ∷ Four h.numbers.attributes ∷ Four h.len ∷ []
raw_fields Full h = Four h.next ∷ Four h.index ∷ Eight h.numbers.creation ∷ Eight h.numbers.access ∷ Eight h.numbers.write ∷ Eight h.numbers.change ∷ Eight h.numbers.length ∷ Eight h.numbers.room ∷ Four h.numbers.attributes ∷ Four h.len ∷ Four h.attributes_size ∷ []
raw_fields IdFull h = Four h.next ∷ Four h.index ∷ Eight h.numbers.creation ∷ Eight h.numbers.access ∷ Eight h.numbers.write ∷ Eight h.numbers.change ∷ Eight h.numbers.length ∷ Eight h.numbers.room ∷ Four h.numbers.attributes ∷ Four h.len ∷ Four h.attributes_size ∷ Four h.reserved ∷ Eight h.numbers.file ∷ []
raw_fields Streams h = Four h.next ∷ Four h.len ∷ Eight h.numbers.length ∷ Eight h.numbers.room ∷ []

unfoldable pub raw_head : PackKind → Head → List ℕ
raw_head kind h = flat_map field_bytes (raw_fields kind h)

-- the constants that the layout has, as numbers; one that it doesn't have is 0
abbrev pub IsBlank : PackKind → Head → Type 0
IsBlank Names h = (h.attributes_size ≡ 0) × (h.reserved ≡ 0)
IsBlank Dir h = (h.attributes_size ≡ 0) × (h.reserved ≡ 0)
IsBlank Full h = h.reserved ≡ 0
IsBlank IdFull h = Unit {0}
IsBlank _ h = (h.index ≡ 0) × (h.attributes_size ≡ 0) × (h.reserved ≡ 0)

pub record IsPlain (kind : PackKind) (h : Head) : Type 0 where
  pub numbers : shown kind h.numbers ≡ h.numbers
  pub blank : IsBlank kind h

-- that its numbers fit their widths
pub record HeadFits (h : Head) : Type 0 where
  pub next : h.next < 2 ^ 32
  pub index : h.index < 2 ^ 32
  pub attributes_size : h.attributes_size < 2 ^ 32
  pub reserved : h.reserved < 2 ^ 32
  pub len : h.len < 2 ^ 32
  pub numbers : NumbersFit h.numbers
