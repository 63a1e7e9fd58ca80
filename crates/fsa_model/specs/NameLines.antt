-- The lines that name and delete: renames, links and marks for deletion; what their fields say, and how they are
-- written.
use Rattle.std.specs.Prelude.{ℕ, ◌&&◌, Bool, nat_le, List, ◌++◌, Result, codes}
use Rattle.std.specs.List.{list_all}
use Rattle.fsa_types.specs.declared.request.What.{What}
use Rattle.fsa_types.specs.declared.request.What.TheVariants.{Ask}
use Rattle.fsa_types.specs.declared.request.Request.TheVariants.{Rename, Link, SetDisposition}
use Rattle.fsa_model.specs.Fault.{Kind, ◌>>=◌}
use Rattle.fsa_model.specs.Words.{most_id, number_at, text_at, choice_at, ended}
use Rattle.fsa_model.specs.FieldText.{number_text, text_text, choice_text}

-- handle, path; whether to `replace` what has the name, or to `keep` it
unfoldable pub rename_fields : List ℕ → Result What Kind
rename_fields bytes = do
  handle ← number_at most_id bytes
  path ← text_at handle.1
  replace ← choice_at (codes "replace") (codes "keep") path.1
  ended replace.1 (Ask (Rename handle.0 path.0 replace.0))

-- handle, path; whether to `replace` what has the name, or to `keep` it
unfoldable pub link_fields : List ℕ → Result What Kind
link_fields bytes = do
  handle ← number_at most_id bytes
  path ← text_at handle.1
  replace ← choice_at (codes "replace") (codes "keep") path.1
  ended replace.1 (Ask (Link handle.0 path.0 replace.0))

-- handle; `yes` to mark for deletion, `no` to clear the mark
unfoldable pub set_disposition_fields : List ℕ → Result What Kind
set_disposition_fields bytes = do
  handle ← number_at most_id bytes
  delete ← choice_at (codes "yes") (codes "no") handle.1
  ended delete.1 (Ask (SetDisposition handle.0 delete.0))

-- of a rename and of a link
abbrev pub naming_text : ℕ → List ℕ → Bool → List ℕ
naming_text handle path replace = number_text handle ++ (text_text path ++ choice_text (codes "replace") (codes "keep") replace)

abbrev pub set_disposition_text : ℕ → Bool → List ℕ
set_disposition_text handle delete = number_text handle ++ choice_text (codes "yes") (codes "no") delete

-- which renames and links a line can say
abbrev pub is_naming_line : ℕ → List ℕ → Bool
is_naming_line handle path = nat_le handle most_id && list_all (λ unit. nat_le unit 65535) path
