use Rattle.std.proofs.Common.{◌∷◌, [], slice_get, ap, ◌∙◌, arith}
use Rattle.history_lock.proofs.Places.{given_end, given_longer}
use Rattle.run_tests.proofs.shared.started.Goals as goal

pub returns-clause-third : goal.returns-clause-third
returns-clause-third c = let a = c.pop.new.self.ok.0 in let b = c.in_ok-third.ensures.len in let n = c.in-Ok-start.ensures.one_each in let three = c.in-Ok.ensures.three in
    let p = c.in-Ok-start.ensures.passes 2 c.in_ok-third.third (given_end _ _ _ 2 c.in_ok-third.ensures.items (omega arith)) in (p.0, ap (λ part. part.client) p.1)

pub returns-clause-second : goal.returns-clause-second
returns-clause-second c = let a = c.pop-2.new.self.ok.0 in let b = c.in_ok-third.ensures.len in let d = c.in_ok-second.ensures.len in let n = c.in-Ok-start.ensures.one_each in let three = c.in-Ok.ensures.three in
    let here = given_end _ _ _ 1 c.in_ok-second.ensures.items (omega arith) in
    let p = c.in-Ok-start.ensures.passes 1 c.in_ok-second.second (ap (λ l. slice_get l 1) c.in_ok-third.ensures.items ∙ given_longer _ (c.in_ok-third.third ∷ []) 1 _ here) in (p.0, ap (λ part. part.client) p.1)

pub returns-clause-first : goal.returns-clause-first
returns-clause-first c = let a = c.pop-3.new.self.ok.0 in let b = c.in_ok-third.ensures.len in let d = c.in_ok-second.ensures.len in let e = c.in_ok-first.ensures.len in let n = c.in-Ok-start.ensures.one_each in let three = c.in-Ok.ensures.three in
    let here = given_end _ _ _ 0 c.in_ok-first.ensures.items (omega arith) in
    let there = ap (λ l. slice_get l 0) c.in_ok-second.ensures.items ∙ given_longer _ (c.in_ok-second.second ∷ []) 0 _ here in
    let p = c.in-Ok-start.ensures.passes 0 c.in_ok-first.first (ap (λ l. slice_get l 0) c.in_ok-third.ensures.items ∙ given_longer _ (c.in_ok-third.third ∷ []) 0 _ there) in (p.0, ap (λ part. part.client) p.1)
