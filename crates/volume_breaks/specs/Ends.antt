-- The ends of calls, each linked to the one before it that has the slot of its call's number.
use Rattle.std.specs.Prelude.{ℕ, ◌≡◌, List, length, map}
use Rattle.fsa_types.specs.declared.reply.EndOf.{EndOf}
use Rattle.pending_queue.specs.Waits.{AreLinked, slot}

-- the slots of ends among so many, by the numbers of their calls
abbrev pub end_slots : ℕ → List EndOf → List ℕ
end_slots many ends = map (λ end. slot many end.number) ends

-- the heads say where the ends of each slot end, and the links where those of its slot before it do
pub record AreEndsFound (heads links : List ℕ) (ends : List EndOf) : Type 0 where
  pub linked : AreLinked heads (end_slots (length heads) ends) links
  pub many : length links ≡ length ends
