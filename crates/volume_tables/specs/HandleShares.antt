-- The accesses and shares of the handles on each stream and by each link.
use Rattle.std.specs.Prelude.{◌≡◌, ℕ, ◌<◌, ◌-◌, ◌^◌, Bool, true, List, Contains, ◌&&◌, count_by, length}
use Rattle.fsa_model.specs.Lookups.{is_open_by, is_open_on}
use Rattle.fsa_model.specs.Volume.{Handle}
use Rattle.volume_tables.specs.ShareTable.{held_in}

-- the opens of streams and those of links, and how many more handles can be added without taking memory
pub record SharedHandles : Type 0 where
  pub streams : List (ℕ × List (ℕ × ℕ))
  pub links : List (ℕ × List (ℕ × ℕ))
  pub room : ℕ

-- a handle passes, and so do its access and its share
abbrev pub passes : (Handle → Bool) → (ℕ × ℕ → Bool) → ℕ × Handle → Bool
passes on test entry = on entry.1 && test (entry.1.access, entry.1.share)

-- these are the opens of the handles that pass, in some order: each test passes as many
abbrev pub AreOpensOf : (Handle → Bool) → List (ℕ × Handle) → List (ℕ × ℕ) → Type 0
AreOpensOf on handles held = (test : ℕ × ℕ → Bool) → count_by test held ≡ count_by (passes on test) handles

-- each stream has the opens of the handles on it, and each link those of the handles that were opened by it
pub record AreShared (handles : List (ℕ × Handle)) (shares : SharedHandles) : Type 0 where
  pub streams : (stream : ℕ) → AreOpensOf (is_open_on stream) handles (held_in shares.streams stream)
  pub links : (link : ℕ) → AreOpensOf (is_open_by link) handles (held_in shares.links link)

-- so few that one more can be counted
pub record AreFew (shares : SharedHandles) : Type 0 where
  pub streams : (stream : ℕ) → length (held_in shares.streams stream) < 2 ^ 64 - 1
  pub links : (link : ℕ) → length (held_in shares.links link) < 2 ^ 64 - 1

-- a handle is counted on its stream and by its link
pub record IsCounted (shares : SharedHandles) (handle : Handle) : Type 0 where
  pub stream : (stream : ℕ) → is_open_on stream handle ≡ true → Contains (held_in shares.streams stream) (handle.access, handle.share)
  pub link : (link : ℕ) → is_open_by link handle ≡ true → Contains (held_in shares.links link) (handle.access, handle.share)
