-- Room for turns that come.
use Rattle.std.specs.Prelude.{◌≡◌, ℕ, ◌+◌, ◌<◌, ◌≤◌, Bool, true, false, List, [], length}
use Rattle.fsa_types.specs.declared.reply.EndOf.{EndOf}
use Rattle.fsa_types.specs.declared.request.CallId.{CallId}
use Rattle.fsa_types.specs.declared.request.Request.TheVariants.{Ack, Cancel}
use Rattle.fsa_types.specs.declared.request.What.{What}
use Rattle.fsa_types.specs.declared.request.What.TheVariants.{Ask}
use Rattle.fsa_model.specs.Volume.{Volume}
use Rattle.fsa_machine.specs.declared.lists.GivenLists.{GivenLists}
use Rattle.fsa_machine.specs.declared.lists.TurnLists.{TurnLists}
use Rattle.fsa_machine.specs.declared.turns.TurnRoom.{TurnRoom}

-- an Ack or a Cancel
abbrev pub is_ack_or_cancel : What → Bool
is_ack_or_cancel (Ask (Ack handle level)) = true
is_ack_or_cancel (Ask (Cancel number)) = true
is_ack_or_cancel _ = false

-- these lists are empty, and each has room for so many ends or calls; what is given out twice has the same room
pub record AreLists (calls : ℕ) (lists : TurnLists) : Type 0 where
  pub no_given : lists.given.items ≡ []
  pub given : calls ≤ lists.given.room
  pub no_kept : lists.kept.items ≡ []
  pub kept : lists.kept.room ≡ lists.given.room
  pub no_starved : lists.starved.items ≡ []
  pub starved : calls ≤ lists.starved.room
  pub no_kept_starved : lists.kept_starved.items ≡ []
  pub kept_starved : lists.kept_starved.room ≡ lists.starved.room
  pub no_waits : lists.waits.items ≡ []
  pub waits : calls ≤ lists.waits.room

-- there are no blockers in a turn's room, and its lists are so
pub record HasLists (calls : ℕ) (room : TurnRoom) : Type 0 where
  pub none : room.none.items ≡ []
  pub lists : AreLists calls room.lists

-- these lists have room for so many ends, and but for the calls that starved, which can be copied, and for waits they
-- are empty
pub record StandBy (ends : ℕ) (lists : TurnLists) : Type 0 where
  pub no_given : lists.given.items ≡ []
  pub given : ends ≤ lists.given.room
  pub no_kept : lists.kept.items ≡ []
  pub kept : lists.kept.room ≡ lists.given.room
  pub starved : length lists.starved.items ≤ lists.starved.room
  pub no_kept_starved : lists.kept_starved.items ≡ []
  pub kept_starved : lists.kept_starved.room ≡ lists.starved.room

-- these ends and calls are given out, and the same is kept
pub record AreGiven (ends : List EndOf) (named : List CallId) (lists : GivenLists) : Type 0 where
  pub given : lists.given.items ≡ ends
  pub kept : lists.kept ≡ lists.given
  pub starved : lists.starved.items ≡ named
  pub kept_starved : lists.kept_starved ≡ lists.starved

-- rooms for so many turns, each with lists for so many calls
pub record SpareTurns : Type 0 where
  pub turns : ℕ
  pub calls : ℕ

-- over this volume, with so many ends and pending calls to spare, and so many entries of as many as there is room for,
-- these are rooms for as many turns: each of them makes one call more, ends no more than are pending then, makes one
-- call pending at most, and is kept
pub record AreSpare (v : Volume) (ends pending kept kept_room : ℕ) (spare : SpareTurns) : Type 0 where
  pub can_end : 0 < spare.turns → length v.pending + spare.turns ≤ ends
  pub can_pend : spare.turns ≤ pending
  pub can_keep : 0 < spare.turns → kept + spare.turns ≤ kept_room
  pub can_list : 0 < spare.turns → length v.pending + spare.turns ≤ spare.calls
