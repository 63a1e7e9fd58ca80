-- The lines of opens and closes: what their fields say, and how they are written.
use Rattle.std.specs.Prelude.{ℕ, ◌&&◌, Bool, nat_le, List, ◌∷◌, ◌++◌, Result, Ok, Err, if◌then◌else◌, codes}
use Rattle.std.specs.List.{list_all}
use Rattle.fsa_types.specs.declared.request.What.{What}
use Rattle.fsa_types.specs.declared.request.What.TheVariants.{Ask}
use Rattle.fsa_types.specs.declared.request.Request.TheVariants.{Create, Close}
use Rattle.fsa_types.specs.declared.request.Disposition.{Disposition}
use Rattle.fsa_types.specs.declared.request.Disposition.TheVariants.{Supersede, OpenExisting, CreateNew, OpenIf, Overwrite, OverwriteIf}
use Rattle.fsa_model.specs.Fault.{Kind, BadSyntax, ◌>>=◌}
use Rattle.fsa_model.specs.Words.{most_id, most_mask, same, field_at, number_at, mask_at, text_at, ended}
use Rattle.fsa_model.specs.FieldText.{number_text, mask_text, text_text}

-- keys are below 2 ^ 64
abbrev pub most_key : ℕ
most_key = 18446744073709551615

abbrev pub disposition_of : List ℕ → Result Disposition Kind
disposition_of word =
    if same word (codes "supersede") then Ok Supersede
    else if same word (codes "open") then Ok OpenExisting
    else if same word (codes "create") then Ok CreateNew
    else if same word (codes "open_if") then Ok OpenIf
    else if same word (codes "overwrite") then Ok Overwrite
    else if same word (codes "overwrite_if") then Ok OverwriteIf
    else Err BadSyntax

unfoldable pub disposition_at : List ℕ → Result (Disposition × List ℕ) Kind
disposition_at bytes = do
  word ← field_at bytes
  disposition ← disposition_of word.0
  Ok (disposition, word.1)

abbrev pub disposition_text : Disposition → List ℕ
disposition_text Supersede = 32 ∷ codes "supersede"
disposition_text OpenExisting = 32 ∷ codes "open"
disposition_text CreateNew = 32 ∷ codes "create"
disposition_text OpenIf = 32 ∷ codes "open_if"
disposition_text Overwrite = 32 ∷ codes "overwrite"
disposition_text OverwriteIf = 32 ∷ codes "overwrite_if"

-- path, wanted access, share access, disposition, options, attributes, key
unfoldable pub create_fields : List ℕ → Result What Kind
create_fields bytes = do
  path ← text_at bytes
  wanted ← mask_at path.1
  share ← mask_at wanted.1
  disposition ← disposition_at share.1
  options ← mask_at disposition.1
  attributes ← mask_at options.1
  key ← number_at most_key attributes.1
  ended key.1 (Ask (Create path.0 wanted.0 share.0 disposition.0 options.0 attributes.0 key.0))

abbrev pub create_text : List ℕ → ℕ → ℕ → Disposition → ℕ → ℕ → ℕ → List ℕ
create_text path wanted share disposition options attributes key =
    text_text path ++ (mask_text wanted ++ (mask_text share ++ (disposition_text disposition ++ (mask_text options ++ (mask_text attributes ++ number_text key)))))

-- which creates a line can say
abbrev pub is_create : List ℕ → ℕ → ℕ → ℕ → ℕ → ℕ → Bool
is_create path wanted share options attributes key =
    list_all (λ unit. nat_le unit 65535) path
    && nat_le wanted most_mask
    && nat_le share most_mask
    && nat_le options most_mask
    && nat_le attributes most_mask
    && nat_le key most_key

-- handle
unfoldable pub close_fields : List ℕ → Result What Kind
close_fields bytes = do
  handle ← number_at most_id bytes
  ended handle.1 (Ask (Close handle.0))
