use Rattle.stream_pages.specs.Pages.{byte_at}
use Rattle.stream_pages.proofs.StreamLaws.{put-shown}
use Rattle.stream_pages.proofs.stream.Stream.put.Goals as goal

pub returns-clause-bytes : goal.returns-clause-bytes
returns-clause-bytes c = rw (← c.self.view_is) (put-shown (byte_at c.self.inside.pages) _ c.self.inside.len c.args.at c.args.piece.now _ c.max-self-inside.ensures c.self.invariant.blank c.put_over.ensures.bytes)
