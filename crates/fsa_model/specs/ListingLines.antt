-- The lines that list and watch a directory: what their fields say, and how they are written.
use Rattle.std.specs.Prelude.{ℕ, ◌&&◌, Bool, nat_le, List, ◌∷◌, ◌++◌, Result, Ok, Err, if◌then◌else◌, codes}
use Rattle.std.specs.List.{list_all}
use Rattle.fsa_types.specs.declared.request.DirKind.{DirKind}
use Rattle.fsa_types.specs.declared.request.DirKind.TheVariants.{Names, Dir, Full, IdFull}
use Rattle.fsa_types.specs.declared.request.What.{What}
use Rattle.fsa_types.specs.declared.request.What.TheVariants.{Ask}
use Rattle.fsa_types.specs.declared.request.Request.TheVariants.{QueryDir, Notify}
use Rattle.fsa_model.specs.Fault.{Kind, BadSyntax, ◌>>=◌}
use Rattle.fsa_model.specs.Words.{most_id, most_mask, most_bytes, same, field_at, number_at, mask_at, text_at, choice_at, ended}
use Rattle.fsa_model.specs.FieldText.{number_text, mask_text, text_text, choice_text}

-- the layout of the entries
abbrev pub dir_kind_of : List ℕ → Result DirKind Kind
dir_kind_of word =
    if same word (codes "names") then Ok Names
    else if same word (codes "dir") then Ok Dir
    else if same word (codes "full") then Ok Full
    else if same word (codes "idfull") then Ok IdFull
    else Err BadSyntax

unfoldable pub dir_kind_at : List ℕ → Result (DirKind × List ℕ) Kind
dir_kind_at bytes = do
  word ← field_at bytes
  kind ← dir_kind_of word.0
  Ok (kind, word.1)

-- handle, layout, expression; `restart` to begin anew, `go` to go on; room
unfoldable pub query_dir_fields : List ℕ → Result What Kind
query_dir_fields bytes = do
  handle ← number_at most_id bytes
  kind ← dir_kind_at handle.1
  expression ← text_at kind.1
  restart ← choice_at (codes "restart") (codes "go") expression.1
  room ← number_at most_bytes restart.1
  ended room.1 (Ask (QueryDir handle.0 kind.0 expression.0 restart.0 room.0))

-- `names`, `dir`, `full` or `idfull`
abbrev pub dir_kind_word : DirKind → List ℕ
dir_kind_word Names = codes "names"
dir_kind_word Dir = codes "dir"
dir_kind_word Full = codes "full"
dir_kind_word IdFull = codes "idfull"

-- it, as a field
abbrev pub dir_kind_text : DirKind → List ℕ
dir_kind_text kind = 32 ∷ dir_kind_word kind

-- the fields behind the expression
abbrev pub listing_end_text : Bool → ℕ → List ℕ
listing_end_text restart room = choice_text (codes "restart") (codes "go") restart ++ number_text room

abbrev pub query_dir_text : ℕ → DirKind → List ℕ → Bool → ℕ → List ℕ
query_dir_text handle kind expression restart room = number_text handle ++ (dir_kind_text kind ++ (text_text expression ++ listing_end_text restart room))

-- which listings a line can say
abbrev pub is_query_dir_line : ℕ → List ℕ → ℕ → Bool
is_query_dir_line handle expression room = nat_le handle most_id && list_all (λ unit. nat_le unit 65535) expression && nat_le room most_bytes

-- handle, the changes to watch; `tree` to watch all that is below the directory, `flat` for what is in it; room
unfoldable pub notify_fields : List ℕ → Result What Kind
notify_fields bytes = do
  handle ← number_at most_id bytes
  filter ← mask_at handle.1
  tree ← choice_at (codes "tree") (codes "flat") filter.1
  room ← number_at most_bytes tree.1
  ended room.1 (Ask (Notify handle.0 filter.0 tree.0 room.0))

abbrev pub notify_text : ℕ → ℕ → Bool → ℕ → List ℕ
notify_text handle filter tree room = number_text handle ++ (mask_text filter ++ (choice_text (codes "tree") (codes "flat") tree ++ number_text room))

-- which watches a line can say
abbrev pub is_notify : ℕ → ℕ → ℕ → Bool
is_notify handle filter room = nat_le handle most_id && nat_le filter most_mask && nat_le room most_bytes
