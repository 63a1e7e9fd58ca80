use Rattle.std.proofs.Common.{◌+◌, ◌≤◌, ap, arith, length, ◌∙◌}
use Rattle.std.specs.List.{concat}
use Rattle.fsa_types.specs.StreamBytes.{slice}
use Rattle.stream_pages.specs.Pages.{byte_at, bytes_from}
use Rattle.stream_pages.specs.Streams.{StreamView}
use Rattle.stream_pages.proofs.StreamLaws.{length-from, parts-joined}
use Rattle.stream_pages.proofs.stream.Stream.parts.Goals as goal

pub returns : goal.returns
returns c =
    let asked : c.args.at + c.args.count ≤ length (bytes_from (byte_at c.self.inside.pages) 0 c.self.inside.len) = rw (← c.self.view_is) at c.requires in
    let within : c.args.at + c.args.count ≤ c.self.inside.len = omega (arith, asked, length-from (byte_at c.self.inside.pages) 0 c.self.inside.len) in
    ap concat c.of.ensures ∙ parts-joined (byte_at c.self.inside.pages) c.self.inside.len c.args.at c.args.count within ∙ ap (λ (k : StreamView). slice k.bytes c.args.at c.args.count) c.self.view_is

pub overflow_add-at : goal.overflow_add-at
overflow_add-at c =
    let asked : c.args.at + c.args.count ≤ length (bytes_from (byte_at c.self.inside.pages) 0 c.self.inside.len) = rw (← c.self.view_is) at c.requires in
    omega (arith, asked, length-from (byte_at c.self.inside.pages) 0 c.self.inside.len, c.self.invariant.fits)

pub of-requires : goal.of-requires
of-requires c =
    let asked : c.args.at + c.args.count ≤ length (bytes_from (byte_at c.self.inside.pages) 0 c.self.inside.len) = rw (← c.self.view_is) at c.requires in
    omega (arith, asked, length-from (byte_at c.self.inside.pages) 0 c.self.inside.len, c.self.invariant.fits)
