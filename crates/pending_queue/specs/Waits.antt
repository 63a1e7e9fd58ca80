-- Blockers with the turns that wait for them, in the order in which they were put in, each linked to the one of its slot
-- before it.
use Rattle.std.specs.Prelude.{ℕ, zero, suc, Bool, false, ◌≡◌, ◌<◌, List, ◌==◌, ◌&&◌, ◌%◌, not, map, filter, length, get_or, set, slice_get, if◌then◌else◌}
use Rattle.std.specs.Option.{option_map_or}
use Rattle.fsa_types.specs.declared.reply.Blocker.{Blocker}
use Rattle.fsa_types.specs.declared.reply.Blocker.TheVariants.{Break, Lock}
use Rattle.pending_queue.specs.declared.waits.Wait.{Wait}
use Rattle.pending_queue.specs.PendingQueue.{is_same}

-- the blockers that live, each with the turn that waits for it, in order; how many more can be put in without taking
-- memory
pub record Waiting : Type 0 where
  pub entries : List (ℕ × Blocker)
  pub room : ℕ

-- those that live
abbrev pub living_entries : List Wait → List (ℕ × Blocker)
living_entries waits = map (λ wait. (wait.turn, wait.blocker)) (filter (λ wait. wait.lives) waits)

abbrev pub blocker_number : Blocker → ℕ
blocker_number (Break number) = number
blocker_number (Lock number) = number

-- the slot of a number among so many
abbrev pub slot : ℕ → ℕ → ℕ
slot many number = if many == 0 then 0 else number % many

-- what a wait is found by, its blocker's number or its turn, and what it is linked to by each
abbrev pub by_blocker : Wait → ℕ
by_blocker wait = blocker_number wait.blocker

abbrev pub by_turn : Wait → ℕ
by_turn wait = wait.turn

abbrev pub link_of : Wait → ℕ
link_of wait = wait.link

abbrev pub turn_link_of : Wait → ℕ
turn_link_of wait = wait.turn_link

-- their slots, and what each is linked to
abbrev pub slots_of : (Wait → ℕ) → ℕ → List Wait → List ℕ
slots_of key many waits = map (λ wait. slot many (key wait)) waits

abbrev pub wait_links : (Wait → ℕ) → List Wait → List ℕ
wait_links link waits = map (λ wait. link wait) waits

-- a blocker under a turn is this one, or is this turn's
abbrev pub is_blocker : Blocker → ℕ × Blocker → Bool
is_blocker blocker entry = is_same blocker entry.1

abbrev pub is_turn : ℕ → ℕ × Blocker → Bool
is_turn turn entry = entry.0 == turn

-- it lives and passes the test
abbrev pub is_out : (ℕ × Blocker → Bool) → Wait → Bool
is_out out wait = wait.lives && out (wait.turn, wait.blocker)

-- it lives no more where it passes the test
abbrev pub ended_where : (ℕ × Blocker → Bool) → Wait → Wait
ended_where out wait = record wait { lives = wait.lives && not (out (wait.turn, wait.blocker)) }

abbrev pub nothing : Wait
nothing = record { turn = 0; blocker = Break 0; lives = false; link = 0; turn_link = 0 }

-- the wait at this place lives no more where it passes the test
abbrev pub over_at : (ℕ × Blocker → Bool) → List Wait → ℕ → List Wait
over_at out waits place = set waits place (ended_where out (get_or waits place nothing))

-- all of a wait but whether it lives
abbrev pub bare : Wait → Wait
bare wait = record wait { lives = false }

-- one more than the last place before this end that passes the test; 0 where none does
abbrev pub seek : (ℕ → Bool) → ℕ → ℕ
seek is zero = zero
seek is (suc place) = if is place then suc place else seek is place

-- the slot at a place is this one
abbrev pub is_in : List ℕ → ℕ → ℕ → Bool
is_in slots own place = get_or slots place 0 == own

-- where those of a slot end, or all where it has no head
abbrev pub end_of : List ℕ → ℕ → ℕ → ℕ
end_of heads own many = option_map_or (λ head. head) (slice_get heads own) many

-- each head says where those of its slot end, and each link where those of its slot before it do
pub record AreLinked (heads slots links : List ℕ) : Type 0 where
  pub ends : (own : ℕ) → own < length heads → get_or heads own 0 ≡ seek (is_in slots own) (length slots)
  pub nexts : (place : ℕ) → place < length slots → get_or links place 0 ≡ seek (is_in slots (get_or slots place 0)) place

-- waits are found by their blockers, and by their turns
pub record AreFound (heads turn_heads : List ℕ) (waits : List Wait) : Type 0 where
  pub blockers : AreLinked heads (slots_of by_blocker (length heads) waits) (wait_links link_of waits)
  pub turns : AreLinked turn_heads (slots_of by_turn (length turn_heads) waits) (wait_links turn_link_of waits)
