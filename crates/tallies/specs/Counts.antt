-- What seven counts tell of the opens that are held on one stream or directory. An open is a pair of
-- its access mask and its share mask.
use Rattle.std.specs.Prelude.{ℕ, Bool, not, List, ◌&&◌, ◌||◌, ◌==◌, length, count_by}
use Rattle.fsa_types.specs.Sharing.{reads, writes, deletes, shares_read, shares_write, shares_delete, takes_part}

-- how many opens are held; how many of them have each access; how many keep each from others
pub record Counts : Type 0 where
  pub opens : ℕ
  pub readers : ℕ
  pub writers : ℕ
  pub deleters : ℕ
  pub read_refusers : ℕ
  pub write_refusers : ℕ
  pub delete_refusers : ℕ

-- an open takes part in sharing, and doesn't share read access
abbrev pub refuses_read : ℕ → ℕ → Bool
refuses_read access share = takes_part access && not (shares_read share)

-- .. doesn't share write access
abbrev pub refuses_write : ℕ → ℕ → Bool
refuses_write access share = takes_part access && not (shares_write share)

-- .. doesn't share delete access
abbrev pub refuses_delete : ℕ → ℕ → Bool
refuses_delete access share = takes_part access && not (shares_delete share)

-- the counts of these opens
abbrev pub counts_of : List (ℕ × ℕ) → Counts
counts_of held = record {
  opens = length held;
  readers = count_by (λ held_open. reads held_open.0) held;
  writers = count_by (λ held_open. writes held_open.0) held;
  deleters = count_by (λ held_open. deletes held_open.0) held;
  read_refusers = count_by (λ held_open. refuses_read held_open.0 held_open.1) held;
  write_refusers = count_by (λ held_open. refuses_write held_open.0 held_open.1) held;
  delete_refusers = count_by (λ held_open. refuses_delete held_open.0 held_open.1) held;
}

-- one of the opens keeps from others an access that this mask has
abbrev pub meets_refusers : Counts → ℕ → Bool
meets_refusers counts access =
    (reads access && not (counts.read_refusers == 0))
    || (writes access && not (counts.write_refusers == 0))
    || (deletes access && not (counts.delete_refusers == 0))

-- one of the opens has an access that this share mask leaves out
abbrev pub meets_users : Counts → ℕ → Bool
meets_users counts share =
    (not (counts.readers == 0) && not (shares_read share))
    || (not (counts.writers == 0) && not (shares_write share))
    || (not (counts.deleters == 0) && not (shares_delete share))
