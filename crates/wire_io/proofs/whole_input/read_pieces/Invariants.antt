use Rattle.std.proofs.Common.{◌≡◌, ◌+◌, ◌≤◌, vec_len}
use Rattle.wire_io.specs.Source.{HasRead}
use Rattle.wire_io.proofs.whole_input.read_pieces.Given as goal

-- the bytes so far were read, within the limit and one at least by each take, and no take failed or met the end
abbrev pub invariant-takes : goal.invariant-takes
invariant-takes g l = record {
  read : HasRead (g.S.Source.left l.fn.source) (g.S.Source.left l.source) l.bytes.items;
  within : vec_len l.bytes ≤ l.limit;
  moves : l._take ≤ vec_len l.bytes;
  counted : g.S.Source.takes l.source ≤ g.S.Source.takes l.fn.source + l._take;
  given : (g.S.Source.taken l.source).given ≤ (g.S.Source.taken l.fn.source).given + vec_len l.bytes;
  stops : (g.S.Source.taken l.source).stops ≤ (g.S.Source.taken l.fn.source).stops;
  unfailed : g.S.Source.faults l.source ≡ g.S.Source.faults l.fn.source;
}
