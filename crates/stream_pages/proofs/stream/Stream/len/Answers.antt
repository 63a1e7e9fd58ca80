use Rattle.std.proofs.Common.{sym}
use Rattle.stream_pages.specs.Pages.{byte_at}
use Rattle.stream_pages.proofs.StreamLaws.{length-from}
use Rattle.stream_pages.proofs.stream.Stream.len.Goals as goal

pub returns-clause-len : goal.returns-clause-len
returns-clause-len c = rw (← c.self.view_is) (sym (length-from (byte_at c.self.inside.pages) 0 c.self.inside.len))
