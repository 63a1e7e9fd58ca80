use Rattle.op_link.proofs.moved.replace_and_rename.Goals as goal

pub returns-in-Some-clause-content : goal.returns-in-Some-clause-content
returns-in-Some-clause-content c = rw c.in-Some.is c.rename_in_place.ensures.content
