use Rattle.text_out.proofs.EntryLaws.{fault_of}
use Rattle.text_out.proofs.entries.next_listed.Goals as goal

pub returns-in-Err-clause-only : goal.returns-in-Err-clause-only
returns-in-Err-clause-only c = fault_of c.args.walk.now c.next.new.self c.in-Err.field-0 c.in-Err.ensures.step
