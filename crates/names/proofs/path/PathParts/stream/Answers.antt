use Rattle.std.proofs.Common.{sym}
use Rattle.fsa_types.specs.Paths.{is_colon}
use Rattle.names.proofs.CutLemmas.{slice_split-head}
use Rattle.names.proofs.path.PathParts.stream.Goals as goal

pub returns-in-Some : goal.returns-in-Some
returns-in-Some c = rw (c.before-in-Some.ensures, ← c.self.view_is, c.in-Some.ensures.parts) (sym (slice_split-head is_colon c.in-Some.part.now))
