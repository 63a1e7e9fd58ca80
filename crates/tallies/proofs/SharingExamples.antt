-- Worked examples of which opens clash, each shown by computation.
use Rattle.std.proofs.Common.{◌≡◌, ℕ, List, [], ◌∷◌, true, false, refl}
use Rattle.std.specs.Prelude.{map, codes, if◌then◌else◌}
use Rattle.fsa_types.specs.Sharing.{clash, clashes, oversteps, takes_part}

-- a row for each of these access masks, and in it a place for each share mask of another open: `x` where the
-- access isn't shared
abbrev table : List ℕ → List (List ℕ)
table accesses =
    map (λ access. map (λ share. if oversteps access share then 120 else 46) (0 ∷ 1 ∷ 2 ∷ 3 ∷ 4 ∷ 5 ∷ 6 ∷ 7 ∷ [])) accesses

-- nothing; read; write; read and write; delete; read and delete; write and delete; all three
abbrev rows : List (List ℕ)
rows =
    codes "........"
    ∷ codes "x.x.x.x."
    ∷ codes "xx..xx.."
    ∷ codes "xxx.xxx."
    ∷ codes "xxxx...."
    ∷ codes "xxxxx.x."
    ∷ codes "xxxxxx.."
    ∷ codes "xxxxxxx."
    ∷ []

what_is_not_shared : table (0x80 ∷ 0x1 ∷ 0x2 ∷ 0x3 ∷ 0x10000 ∷ 0x10001 ∷ 0x10002 ∷ 0x10003 ∷ []) ≡ rows
what_is_not_shared = refl

-- EXECUTE reads and APPEND_DATA writes
what_else_is_not_shared : table (0x100000 ∷ 0x20 ∷ 0x4 ∷ 0x24 ∷ 0x10080 ∷ 0x10020 ∷ 0x10004 ∷ 0x10024 ∷ []) ≡ rows
what_else_is_not_shared = refl

-- attributes, the access list and the owner have no part in sharing
who_takes_part : map takes_part (0x0 ∷ 0x80 ∷ 0x1E0180 ∷ 0x1 ∷ 0x2 ∷ 0x4 ∷ 0x20 ∷ 0x10000 ∷ []) ≡ false ∷ false ∷ false ∷ true ∷ true ∷ true ∷ true ∷ true ∷ []
who_takes_part = refl

-- a reader that shares reading alone, and a writer that shares all; which of them is held makes no difference
reader_is_held : clash 0x1 0x1 0x2 0x7 ≡ true
reader_is_held = refl

writer_is_held : clash 0x2 0x7 0x1 0x1 ≡ true
writer_is_held = refl

-- one that shares nothing clashes with all but those that take no part
shares_nothing : map (λ access. clash 0x1 0x0 access 0x7) (0x80 ∷ 0x1 ∷ 0x2 ∷ 0x10000 ∷ []) ≡ false ∷ true ∷ true ∷ true ∷ []
shares_nothing = refl

-- a reader and a writer that share all, and a reader that doesn't share writing
abbrev held : List (ℕ × ℕ)
held = (0x1, 0x7) ∷ (0x2, 0x7) ∷ (0x1, 0x1) ∷ []

some_clash : map {A = ℕ × ℕ} (λ other. clashes held other.0 other.1) ((0x2, 0x7) ∷ (0x1, 0x7) ∷ (0x1, 0x1) ∷ (0x80, 0x0) ∷ []) ≡ true ∷ false ∷ true ∷ false ∷ []
some_clash = refl

nothing_is_held : clashes [] 0x10027 0x0 ≡ false
nothing_is_held = refl
