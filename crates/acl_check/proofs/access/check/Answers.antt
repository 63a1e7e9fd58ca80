use Rattle.std.proofs.Common.{rules, ◌∙◌, ap}
use Rattle.fsa_types.specs.Access.{check}
use Rattle.acl_check.proofs.FirstEntryLemmas.{check-grants}
use Rattle.acl_check.proofs.LaterEntryLemmas.{check-named}
use Rattle.acl_check.proofs.access.check.Goals as goal

pub returns-then-walk_denies-clause-checked : goal.returns-then-walk_denies-clause-checked
returns-then-walk_denies-clause-checked c = search rules

pub returns-then-walk_denies-clause-first_entry : goal.returns-then-walk_denies-clause-first_entry
returns-then-walk_denies-clause-first_entry c = check-grants _ _ _ _ _ (returns-then-walk_denies-clause-checked c)

pub returns-else-walk_denies-clause-checked : goal.returns-else-walk_denies-clause-checked
returns-else-walk_denies-clause-checked c = search rules

pub returns-else-walk_denies-clause-first_entry : goal.returns-else-walk_denies-clause-first_entry
returns-else-walk_denies-clause-first_entry c = check-grants _ _ _ _ _ (returns-else-walk_denies-clause-checked c)

pub returns-then-walk_denies-clause-later_entry : goal.returns-then-walk_denies-clause-later_entry
returns-then-walk_denies-clause-later_entry c front back entry is named =
    returns-then-walk_denies-clause-checked c ∙ ap (λ dacl. check dacl c.args.owner c.args.sids.now c.args.wanted) is
    ∙ check-named front back entry c.args.owner c.args.sids.now c.args.wanted named

pub returns-else-walk_denies-clause-later_entry : goal.returns-else-walk_denies-clause-later_entry
returns-else-walk_denies-clause-later_entry c front back entry is named =
    returns-else-walk_denies-clause-checked c ∙ ap (λ dacl. check dacl c.args.owner c.args.sids.now c.args.wanted) is
    ∙ check-named front back entry c.args.owner c.args.sids.now c.args.wanted named
