-- What a closure answers that captures references.
use Rattle.std.specs.Fn.{Called, ReturnsEach, AlwaysReturns}
use Rattle.std.proofs.Common.{List, [], ◌∷◌}
use denote.Param.Members.{Mut}

-- a fact of the closure that each call keeps tells what each call answers
module _ {F X R : Type 0} (g : Mut F X R) (P : X → R → Type 0) (I : F → Type 0) (step : (f : F) (a : X) (r : R) (f' : F) → Called g f a r f' → I f → P a r × I f') where
  answers_each : (xs : List X) (f : F) → I f → ReturnsEach g P f xs
  answers_each [] f i = tt
  answers_each (a ∷ xs) f i = λ r f' c. let s = step f a r f' c i in (s.0, answers_each xs f' s.1)

  pub answers_by : (f : F) → I f → AlwaysReturns g P f
  answers_by f i = record { at = λ xs. answers_each xs f i }
