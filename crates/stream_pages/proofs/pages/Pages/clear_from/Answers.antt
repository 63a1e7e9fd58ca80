use Rattle.std.proofs.Common.{arith}
use Rattle.fsa_types.specs.Places.{StandsAt}
use Rattle.fsa_types.proofs.PlaceLemmas.{row_of-missing}
use Rattle.stream_pages.proofs.ByteLaws.{byte_at-cleared}
use Rattle.stream_pages.proofs.pages.Pages.clear_from.Goals as goal

pub returns-in-Err-clause-bytes : goal.returns-in-Err-clause-bytes
returns-in-Err-clause-bytes c =
    let at : StandsAt c.self.inside.pages.items c.args.number c.in-Err.field-0 = rw c.deref.ensures.value at c.in-Err.ensures.missing in
    rw (← c.self.view_is) (byte_at-cleared c.self.inside.pages.items c.args.number c.args.at _ (row_of-missing c.self.inside.pages.items c.args.number c.in-Err.field-0 at) (omega arith))
