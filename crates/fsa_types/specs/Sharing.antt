-- Which opens of one stream or directory clash, after [MS-FSA] 'Algorithm to Check Sharing Access to an
-- Existing Stream or Directory'. An open is its access mask and its share mask.
use Rattle.std.specs.Prelude.{ℕ, Bool, not, List, ◌&&◌, ◌||◌}
use Rattle.std.specs.List.{list_any}
use Rattle.fsa_types.specs.Access.{has_any}
use Rattle.fsa_types.specs.Masks.{APPEND_DATA, DELETE, EXECUTE, READ_DATA, SHARE_DELETE, SHARE_READ, SHARE_WRITE, WRITE_DATA}

-- read access
abbrev pub reads : ℕ → Bool
reads access = has_any access READ_DATA || has_any access EXECUTE

-- write access
abbrev pub writes : ℕ → Bool
writes access = has_any access WRITE_DATA || has_any access APPEND_DATA

-- delete access
abbrev pub deletes : ℕ → Bool
deletes access = has_any access DELETE

-- others may have read access
abbrev pub shares_read : ℕ → Bool
shares_read share = has_any share SHARE_READ

-- others may have write access
abbrev pub shares_write : ℕ → Bool
shares_write share = has_any share SHARE_WRITE

-- others may have delete access
abbrev pub shares_delete : ℕ → Bool
shares_delete share = has_any share SHARE_DELETE

-- an open has some of the three accesses; any other has no part in sharing
abbrev pub takes_part : ℕ → Bool
takes_part access = reads access || writes access || deletes access

-- an open has an access that the other doesn't share
abbrev pub oversteps : ℕ → ℕ → Bool
oversteps access other_share =
    (reads access && not (shares_read other_share))
    || (writes access && not (shares_write other_share))
    || (deletes access && not (shares_delete other_share))

-- two opens clash where both take part and one has an access that the other doesn't share
abbrev pub clash : ℕ → ℕ → ℕ → ℕ → Bool
clash access share other_access other_share =
    takes_part access && takes_part other_access
    && (oversteps access other_share || oversteps other_access share)

-- an open clashes with some of the opens held, which are pairs of access and share
abbrev pub clashes : List (ℕ × ℕ) → ℕ → ℕ → Bool
clashes held access share = list_any (λ other. clash access share other.0 other.1) held
