use Rattle.std.proofs.Common.{arith, ℕ, ◌<◌, [], false, length, refl}
use Rattle.std.specs.Prelude.{IsSome}
use Rattle.std.proofs.lemmas.List.Elements.{All-cons, All-map, All-nil}
use Rattle.fsa_types.specs.Rows.{row_of}
use Rattle.fsa_model.specs.Volume.{File, root}
use Rattle.std.proofs.lemmas.Simd.{map-map}
use Rattle.fsa_model.specs.Setup.{Client, client_of, setup_of}
use Rattle.fsa_model.proofs.SoundLaws.{IsSound-fresh}
use Rattle.volume_state.proofs.SortedLaws.{sorted-none}
use Rattle.volume_state.proofs.volume.Volume.new.Goals as goal

pub invariant_of-result : goal.invariant_of-result
invariant_of-result c = (
  (rw (
    c.in-Ok.ensures.rows,
    c.in-Ok.ensures.last,
    c.in_ok-reserve.ensures.rows,
    c.in_ok-reserve.ensures.last,
    c.new-files.ensures.rows,
    c.new-files.ensures.last,
    c.root.ensures,
    c.new.ensures.table,
    c.new.ensures.rows,
    c.new.ensures.last,
    c.new-2.ensures.rows,
    c.new-2.ensures.last,
    c.new-3.ensures.rows,
    c.new-3.ensures.last,
    c.new-3.ensures.locks,
    c.new-3.ensures.last_lock,
    c.new-4.ensures.changes,
    c.new-5.ensures,
    c.new-6.ensures.rows,
    c.new-6.ensures.last,
    c.new-7.ensures.items,
    c.new-8.ensures,
    c.new-9.ensures,
    c.in_ok-left.ensures,
    c.as_slice.ensures,
    ← map-map (λ (client : Client). false) client_of c.args.setup.clients.items,
  )
      (IsSound-fresh (setup_of c.args.setup) (All-map (λ client. 0 < length client.sids) client_of c.args.setup.clients.items c.requires.sids))),
  rw (c.new-7.ensures.items, c.new-7.ensures.held) refl,
  rw (
    c.in-Ok.ensures.rows,
    c.in_ok-reserve.ensures.rows,
    c.in_ok-reserve.ensures.last,
    c.new-files.ensures.rows,
    c.new-files.ensures.last,
    c.root.ensures,
    c.new-2.ensures.rows,
  )
      (record {
        charges = λ owner. c.in_ok-space.ensures.charges owner;
        clusters = c.in_ok-space.ensures.clusters;
        owners = All-cons (λ (entry : ℕ × File). IsSome (row_of c.in_ok-space.space.sums entry.1.owner)) (1, root) [] c.in_ok-space.ensures.owner (All-nil _);
      }),
  rw (c.new-3.ensures.rows, c.new-6.ensures.rows, c.new-6.ensures.tables) (sorted-none []),
  rw c.new-8.ensures (All-nil _),
  rw (c.new-8.ensures, c.new-4.ensures.changes, c.new-4.ensures.base) (record { within = omega arith; lie = All-nil _ }),
)

pub returns-clause-content : goal.returns-clause-content
returns-clause-content c =
    rw (
      c.in-Ok.ensures.rows,
      c.in-Ok.ensures.last,
      c.in_ok-reserve.ensures.rows,
      c.in_ok-reserve.ensures.last,
      c.new-files.ensures.rows,
      c.new-files.ensures.last,
      c.root.ensures,
      c.new.ensures.table,
      c.new.ensures.rows,
      c.new.ensures.last,
      c.new-2.ensures.rows,
      c.new-2.ensures.last,
      c.new-3.ensures.rows,
      c.new-3.ensures.last,
      c.new-3.ensures.locks,
      c.new-3.ensures.last_lock,
      c.new-4.ensures.changes,
      c.new-5.ensures,
      c.new-6.ensures.rows,
      c.new-6.ensures.last,
      c.new-7.ensures.items,
      c.new-8.ensures,
      c.new-9.ensures,
      c.in_ok-left.ensures,
      c.as_slice.ensures,
      map-map (λ (client : Client). false) client_of c.args.setup.clients.items,
    )
