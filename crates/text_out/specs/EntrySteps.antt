-- The steps of a walk, by the text of what is left.
use Rattle.std.specs.Prelude.{◌≡◌, ◌<◌, [], ◌++◌, length}
use Rattle.fsa_types.specs.Packing.{Packed}
use Rattle.fsa_model.specs.PackedText.{entry_text, packed_text}
use Rattle.pack_info.specs.Walks.{WalkState, left_of}

-- the next entry is this one
pub record Finds (old new : WalkState) (entry : Packed) : Type 0 where
  pub kind : new.kind ≡ old.kind
  pub text : packed_text old.kind (left_of old) ≡ entry_text old.kind entry ++ packed_text old.kind (left_of new)
  pub shorter : length (left_of new) < length (left_of old)

-- there is none
abbrev pub FindsNone : WalkState → Type 0
FindsNone old = packed_text old.kind (left_of old) ≡ []
