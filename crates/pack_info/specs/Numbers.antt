-- Numbers that are written, as bytes.
use Rattle.std.specs.Prelude.{ℕ, List}
use Rattle.fsa_types.specs.LittleEndian.{little_endian}
use Rattle.pack_info.specs.declared.number.Number.{Number}
use Rattle.pack_info.specs.declared.number.Number.TheVariants.{Four, Eight}

abbrev pub number_bytes : Number → List ℕ
number_bytes (Four n) = little_endian 4 n
number_bytes (Eight n) = little_endian 8 n
