use Rattle.std.proofs.Common.{◌<◌, ◌≤◌, arith, length}
use Rattle.stream_pages.specs.Pages.{byte_at, bytes_from}
use Rattle.stream_pages.proofs.StreamLaws.{length-from, cut-shown, cut-blank}
use Rattle.stream_pages.proofs.stream.Stream.shorten.Goals as goal

pub cut-requires : goal.cut-requires
cut-requires c =
    let asked : c.args.new_len < length (bytes_from (byte_at c.self.inside.pages) 0 c.self.inside.len) = rw (← c.self.view_is) at c.requires in
    omega (arith, asked, length-from (byte_at c.self.inside.pages) 0 c.self.inside.len, c.self.invariant.fits)

pub invariant_of-self : goal.invariant_of-self
invariant_of-self c =
    let asked : c.args.new_len < length (bytes_from (byte_at c.self.inside.pages) 0 c.self.inside.len) = rw (← c.self.view_is) at c.requires in
    record {
      blank = cut-blank (byte_at c.self.inside.pages) _ c.args.new_len c.cut.ensures.bytes;
      fits = omega (arith, asked, length-from (byte_at c.self.inside.pages) 0 c.self.inside.len, c.self.invariant.fits);
      there = λ number some low high. c.cut.ensures.kept number (omega (arith, c.min-self-inside.ensures)) (c.self.invariant.there number (omega (arith, c.min-self-inside.ensures)) (omega (arith, c.min-self-inside.ensures)) high);
    }

pub returns-clause-bytes : goal.returns-clause-bytes
returns-clause-bytes c =
    let asked : c.args.new_len < length (bytes_from (byte_at c.self.inside.pages) 0 c.self.inside.len) = rw (← c.self.view_is) at c.requires in
    let short : c.args.new_len ≤ c.self.inside.len = omega (arith, asked, length-from (byte_at c.self.inside.pages) 0 c.self.inside.len) in
    rw (← c.self.view_is) (cut-shown (byte_at c.self.inside.pages) _ c.self.inside.len c.args.new_len short c.cut.ensures.bytes)
