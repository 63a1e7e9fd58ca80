-- The tables of streams, where one of them changes.
use Rattle.std.proofs.Common.{◌≡◌, ℕ, zero, suc, length, get_or, ◌+◌, ◌≤◌, true, List, [], ◌∷◌, ◌++◌, refl, ap, ◌∙◌, take, drop, arith, Option, Some, None}
use Rattle.std.specs.Prelude.{option_map}
use Rattle.std.specs.List.{All, insert}
use Rattle.std.proofs.Math.ListN.{set}
use Rattle.std.proofs.Math.Seq.{take-append_seam}
use Rattle.std.proofs.lemmas.List.Elements.{All-cons, All-set}
use Rattle.fsa_types.specs.Places.{IsAt, StandsAt}
use Rattle.fsa_types.proofs.PlaceLemmas.{AreRising-insert}
use Rattle.fsa_types.specs.Oplocks.{Oplock, in_both}
use Rattle.fsa_types.specs.Rows.{row_of}
use Rattle.fsa_types.specs.declared.request.Level.{Level}
use Rattle.oplock_state.specs.State.{Grants, State}
use Rattle.oplock_state.specs.Tables.{AreTables, GrantsAmong, rows_at, room_at, last_at, taken_by, IsStep}
use Rattle.oplock_state.specs.declared.stream_oplocks.Grant.{Grant}
use Rattle.oplock_state.specs.declared.stream_oplocks.Grant.TheVariants as grant
use Rattle.oplock_state.specs.declared.stream_tables.AskedOplock.{AskedOplock}
use Rattle.volume_tables.proofs.PlaceLemmas.{IsPut, rising-at}

-- ---- what a key has where its table is known, and where it has none

pub rows_at-some : (tables : List (ℕ × State)) (key : ℕ) (table : State) → row_of tables key ≡ Some table → rows_at tables key ≡ table.rows
rows_at-some tables key table some = rw some refl

pub room_at-some : (tables : List (ℕ × State)) (key : ℕ) (table : State) → row_of tables key ≡ Some table → room_at tables key ≡ table.room
room_at-some tables key table some = rw some refl

pub last_at-some : (tables : List (ℕ × State)) (key : ℕ) (table : State) → row_of tables key ≡ Some table → last_at tables key ≡ table.last
last_at-some tables key table some = rw some refl

pub rows_at-none : (tables : List (ℕ × State)) (key : ℕ) → row_of tables key ≡ None → rows_at tables key ≡ []
rows_at-none tables key none = rw none refl

pub room_at-none : (tables : List (ℕ × State)) (key : ℕ) → row_of tables key ≡ None → room_at tables key ≡ 0
room_at-none tables key none = rw none refl

pub last_at-none : (tables : List (ℕ × State)) (key : ℕ) → row_of tables key ≡ None → last_at tables key ≡ 0
last_at-none tables key none = rw none refl

-- ---- one table changes

-- with another table put
pub step-put : (old new : List (ℕ × State)) (key : ℕ) (table : State) (rows : List Oplock) (last taken : ℕ) → IsPut old new key table → table.rows ≡ rows → table.last ≡ last
    → room_at old key ≤ table.room + taken → IsStep old new key rows last taken
step-put old new key table rows last taken put same_rows same_last more = record {
  here = rows_at-some new key table put.here ∙ same_rows;
  number = last_at-some new key table put.here ∙ same_last;
  room = (let now = room_at-some new key table put.here in omega arith);
  other_rows = λ other differ. rw (put.others other differ) refl;
  other_lasts = λ other differ. rw (put.others other differ) refl;
  other_rooms = λ other differ. rw (put.others other differ) refl;
}

-- with none
pub step-same : (tables : List (ℕ × State)) (key : ℕ) (rows : List Oplock) (last taken : ℕ) → rows_at tables key ≡ rows → last_at tables key ≡ last → IsStep tables tables key rows last taken
step-same tables key rows last taken same_rows same_last = record {
  here = same_rows;
  number = same_last;
  room = omega arith;
  other_rows = λ other differ. refl;
  other_lasts = λ other differ. refl;
  other_rooms = λ other differ. refl;
}

-- ---- what a table gives

-- a table grants of its own rows
pub grants-at : (old new : State) (asked : AskedOplock) (was now : List Oplock) (result : Grant) → Grants old asked.handle asked.key asked.level asked.turn asked.others asked.locked new result → was ≡ old.rows → now ≡ new.rows
    → GrantsAmong (λ _. true) asked was now result
grants-at old new asked was now grant.Granted grants is_was is_now = rw (is_was, is_now) (grants.0, grants.1)
grants-at old new asked was now grant.Refused grants is_was is_now = rw (is_was, is_now) (grants.0, ap (λ (s : State). s.rows) grants.1)

-- and takes room only where it does
pub grants-room : (old new : State) (asked : AskedOplock) (result : Grant) → Grants old asked.handle asked.key asked.level asked.turn asked.others asked.locked new result → old.room ≤ new.room + 1
    → old.room ≤ new.room + taken_by result
grants-room old new asked grant.Granted grants more = more
grants-room old new asked grant.Refused grants more = (let same = ap (λ (s : State). s.room) grants.1 in omega arith)

pub first-kept : (level : Level) (number : ℕ) (target : Option Level) → option_map (λ (answer : Level × ℕ). answer.0) (option_map (λ told. (in_both level told, number)) target) ≡ option_map (λ told. in_both level told) target
first-kept level number None = refl
first-kept level number (Some told) = refl

-- ---- the keys rise, and no handle is chosen

-- another table at the place of a key
pub AreTables-put : (tables : List (ℕ × State)) (key i : ℕ) (d : ℕ × State) (table : State) → AreTables tables → IsAt tables key i → table.marked ≡ [] → AreTables (set tables i ((get_or tables i d).0, table))
AreTables-put tables key i d table are at quiet = record {
  rising = rising-at tables key i d table are.rising at;
  quiet = All-set (λ entry. entry.1.marked ≡ []) tables i _ quiet are.quiet;
}

-- a table put in where its key stands
quiet-insert : (tables : List (ℕ × State)) (key i : ℕ) (table : State) → i ≤ length tables → table.marked ≡ [] → All (λ entry. entry.1.marked ≡ []) tables → All (λ entry. entry.1.marked ≡ []) (insert tables i (key, table))
quiet-insert tables key zero table within here quiet = All-cons (λ entry. entry.1.marked ≡ []) (key, table) tables here quiet
quiet-insert [] key (suc i) table within here quiet = absurd (omega arith)
quiet-insert (entry ∷ tables) key (suc i) table within here quiet =
    All-cons (λ entry. entry.1.marked ≡ []) entry (insert tables i (key, table)) (quiet 0 entry (omega arith))
    (quiet-insert tables key i table (omega arith) here (λ k d w. quiet (suc k) d (omega arith)))

pub AreTables-insert : (tables : List (ℕ × State)) (key i : ℕ) (table : State) → AreTables tables → StandsAt tables key i → table.marked ≡ [] → AreTables (insert tables i (key, table))
AreTables-insert tables key i table are at quiet = record {
  rising = AreRising-insert tables key i table are.rising at;
  quiet = quiet-insert tables key i table at.within quiet are.quiet;
}

-- what stands in the place of tables of which there are as many
pub AreTables-seam : (n : ℕ) (new old : List (ℕ × State)) → n ≡ length new → AreTables new → AreTables (take n (new ++ drop (length new) old))
AreTables-seam n new old as_many are = rw (as_many, take-append_seam new (drop (length new) old)) are
