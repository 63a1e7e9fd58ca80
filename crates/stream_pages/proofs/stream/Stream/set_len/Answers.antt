use Rattle.std.proofs.Common.{◌≡◌, ◌∙◌, sym, ap, arith, length}
use Rattle.stream_pages.specs.Pages.{byte_at}
use Rattle.stream_pages.specs.Streams.{StreamView}
use Rattle.stream_pages.proofs.StreamLaws.{length-from, cut-grown}
use Rattle.stream_pages.proofs.stream.Stream.set_len.Goals as goal

pub invariant_of-self : goal.invariant_of-self
invariant_of-self c =
    let size : c.len.result ≡ c.self.inside.len = c.len.ensures.len ∙ ap (λ (k : StreamView). length k.bytes) (sym c.self.view_is) ∙ length-from (byte_at c.self.inside.pages) 0 c.self.inside.len in
    record {
      blank = λ at beyond. c.self.invariant.blank at (omega (arith, size, c.if-new_len-len.false, beyond));
      fits = c.requires;
      there = c.self.invariant.there;
    }

pub returns-else-new_len-len-clause-bytes : goal.returns-else-new_len-len-clause-bytes
returns-else-new_len-len-clause-bytes c = rw (← c.self.view_is) (cut-grown (byte_at c.self.inside.pages) c.self.inside.len c.args.new_len c.self.invariant.blank)
