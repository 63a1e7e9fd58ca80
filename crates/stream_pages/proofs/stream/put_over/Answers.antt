use Rattle.std.proofs.Common.{◌+◌, ◌-◌, ◌*◌, ◌/◌, ◌%◌, ◌≤◌, arith, length}
use Rattle.std.proofs.lemmas.Nat.{div-add-mod'}
use Rattle.stream_pages.specs.Pages.{byte_at}
use Rattle.stream_pages.proofs.StreamLaws.{over-step}
use Rattle.stream_pages.proofs.stream.put_over.Goals as goal

pub parts-preserved : goal.parts-preserved
parts-preserved c =
    let within : c.parts.done + c.min-count.result ≤ length c.args.piece.now = omega (arith, c.min-count.ensures) in
    record {
      within = within;
      bytes = over-step (byte_at c.args.pages.now) (byte_at c.parts.pages) (byte_at c.put.new.self) c.args.at c.args.piece.now c.parts.done c.min-count.result
          ((c.args.at + c.parts.done) / 4096 * 4096 + (c.args.at + c.parts.done) % 4096) (c.parts.done + c.min-count.result - c.parts.done) within (div-add-mod' (c.args.at + c.parts.done) 4096) (omega arith) c.parts.invariant.bytes c.put.ensures.bytes;
      kept = λ number there. c.put.ensures.kept number (c.parts.invariant.kept number there);
    }
