use Rattle.std.proofs.Common.{refl}
use Rattle.op_link.proofs.link.link_in_place.Goals as goal

pub returns-clause-content : goal.returns-clause-content
returns-clause-content c = rw (c.set_change_time.ensures.content, c.file.ensures, c.add_link.ensures.content, c.replace_link.ensures.content) refl
