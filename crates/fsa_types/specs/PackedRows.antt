-- The rows that are packed into buffers: what is told of a change, of an entry of a directory or of a
-- stream, after [MS-FSCC] 'FILE_NOTIFY_INFORMATION' and 'File Information Classes'.
use Rattle.std.specs.Prelude.{ℕ, ◌<◌, ◌^◌, List}
use Rattle.fsa_types.specs.declared.request.DirKind.{DirKind}
use Rattle.fsa_types.specs.declared.request.DirKind.TheVariants as dir
use Rattle.fsa_types.specs.declared.reply.PackKind.{PackKind}
use Rattle.fsa_types.specs.declared.reply.PackKind.TheVariants.{Names, Dir, Full, IdFull}

-- the numbers of a row; one that a row of its kind doesn't have is 0, and `room` is the allocation
pub record Numbers : Type 0 where
  pub action : ℕ
  pub creation : ℕ
  pub access : ℕ
  pub write : ℕ
  pub change : ℕ
  pub length : ℕ
  pub room : ℕ
  pub attributes : ℕ
  pub file : ℕ

-- the numbers fit their widths
pub record NumbersFit (n : Numbers) : Type 0 where
  pub action : n.action < 2 ^ 32
  pub creation : n.creation < 2 ^ 64
  pub access : n.access < 2 ^ 64
  pub write : n.write < 2 ^ 64
  pub change : n.change < 2 ^ 64
  pub length : n.length < 2 ^ 64
  pub room : n.room < 2 ^ 64
  pub attributes : n.attributes < 2 ^ 32
  pub file : n.file < 2 ^ 64

-- a row: its numbers, and the units of its name
pub record PackRow : Type 0 where
  pub numbers : Numbers
  pub name : List ℕ

-- a change: what happened, and the relative name
abbrev pub change_row : ℕ → List ℕ → PackRow
change_row action name = record {
  numbers = record { action = action; creation = 0; access = 0; write = 0; change = 0; length = 0; room = 0; attributes = 0; file = 0 };
  name = name;
}

-- a stream: its length, its allocation, and its name without colons
abbrev pub stream_row : ℕ → ℕ → List ℕ → PackRow
stream_row length room name = record {
  numbers = record { action = 0; creation = 0; access = 0; write = 0; change = 0; length = length; room = room; attributes = 0; file = 0 };
  name = name;
}

-- the layout of the entries of a directory
abbrev pub pack_kind : DirKind → PackKind
pack_kind dir.Names = Names
pack_kind dir.Dir = Dir
pack_kind dir.Full = Full
pack_kind dir.IdFull = IdFull
