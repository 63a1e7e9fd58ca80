use Rattle.std.proofs.Common.{◌+◌, ◌≤◌, ◌≡◌, arith, sym, ◌∙◌}
use Rattle.fsa_types.specs.Rows.{row_of}
use Rattle.volume_rows.specs.Streams.{StreamRowView}
use Rattle.fsa_types.proofs.RowLemmas.{lives-map}
use Rattle.volume_state.proofs.StreamLemmas.{room-up, IfSome-weaker, OnOk-weaker}
use Rattle.volume_state.proofs.StreamLemmas.{rooms-same}
use Rattle.volume_state.proofs.volume.Volume.reserve_bytes.Goals as goal

pub reserve_bytes-requires-clause-lives : goal.reserve_bytes-requires-clause-lives
reserve_bytes-requires-clause-lives c = sym (lives-map (λ kept. kept.stream) c.self.inside.streams.rows c.args.stream) ∙ (rw (← c.self.view_is) at c.requires.lives)

pub invariant_of-self : goal.invariant_of-self
invariant_of-self c = (
  rw (c.reserve_bytes.ensures.rows, c.reserve_bytes.ensures.last) c.self.invariant.0,
  c.self.invariant.1,
  rw c.reserve_bytes.ensures.rows c.self.invariant.2,
  c.self.invariant.3,
  c.self.invariant.4,
  c.self.invariant.5,
)

pub returns-clause-room : goal.returns-clause-room
returns-clause-room c =
    OnOk-weaker _ _ c.reserve_bytes.result
    (λ reserved. room-up (λ room. (room.from ≤ c.args.at) × (c.args.at + c.args.count ≤ room.to)) c.reserve_bytes.new.self.rows c.args.stream
    (IfSome-weaker (λ (row : StreamRowView). row.room ≡ record { from = c.args.at; to = c.args.at + c.args.count }) (λ (row : StreamRowView). (row.room.from ≤ c.args.at) × (c.args.at + c.args.count ≤ row.room.to))
    (row_of c.reserve_bytes.new.self.rows c.args.stream) (λ row is. rw is (omega arith, omega arith)) reserved))
    c.reserve_bytes.ensures.reserved

pub returns-clause-reach : goal.returns-clause-reach
returns-clause-reach c =
    OnOk-weaker _ _ c.reserve_bytes.result
    (λ reserved. room-up (λ room. c.args.at + c.args.count ≤ room.to) c.reserve_bytes.new.self.rows c.args.stream
    (IfSome-weaker (λ (row : StreamRowView). row.room ≡ record { from = c.args.at; to = c.args.at + c.args.count }) (λ (row : StreamRowView). c.args.at + c.args.count ≤ row.room.to)
    (row_of c.reserve_bytes.new.self.rows c.args.stream) (λ row is. rw is (omega arith)) reserved))
    c.reserve_bytes.ensures.reserved

pub returns-clause-bytes : goal.returns-clause-bytes
returns-clause-bytes c =
    rw (← c.self.view_is) (λ other differ. rooms-same c.self.inside.streams.rows c.reserve_bytes.new.self.rows other (c.reserve_bytes.ensures.others other differ))
