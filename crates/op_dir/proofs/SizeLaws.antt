-- How many bytes stand before the name of a directory's entry.
use Rattle.std.proofs.Common.{ℕ, ◌≤◌, arith}
use Rattle.fsa_types.specs.PackedRows.{pack_kind}
use Rattle.fsa_types.specs.Packing.{head_size}
use Rattle.fsa_types.specs.declared.request.DirKind.{DirKind}
use Rattle.fsa_types.specs.declared.request.DirKind.TheVariants.{Names, Dir, Full, IdFull}

pub head_few : (kind : DirKind) → (12 ≤ head_size (pack_kind kind)) × (head_size (pack_kind kind) ≤ 80)
head_few Names = (omega arith, omega arith)
head_few Dir = (omega arith, omega arith)
head_few Full = (omega arith, omega arith)
head_few IdFull = (omega arith, omega arith)
