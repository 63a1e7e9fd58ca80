-- What the answers of the lock's calls say, case by case.
use Rattle.history_lock.specs.declared.answers.TurnAnswer.{TurnAnswer}
use Rattle.history_lock.specs.declared.answers.TurnAnswer.TheVariants.{Did, Busy, Refused}
use Rattle.history_lock.specs.declared.answers.Looked.{Looked}
use Rattle.history_lock.specs.declared.answers.Looked.TheVariants.{Saw, Busy as Unseen, NoMemory}

module _ {O C W : Type 0} where
  abbrev pub IfDid : TurnAnswer O C W → (O → Type 0) → Type 0
  IfDid (Did out) P = P out
  IfDid (Busy back) P = Unit {0}
  IfDid (Refused back why) P = Unit {0}

  abbrev pub IfBusy : TurnAnswer O C W → (C → Type 0) → Type 0
  IfBusy (Did out) P = Unit {0}
  IfBusy (Busy back) P = P back
  IfBusy (Refused back why) P = Unit {0}

  abbrev pub IfRefused : TurnAnswer O C W → (C → W → Type 0) → Type 0
  IfRefused (Did out) P = Unit {0}
  IfRefused (Busy back) P = Unit {0}
  IfRefused (Refused back why) P = P back why

module _ {S : Type 0} where
  abbrev pub IfSaw : Looked S → (S → Type 0) → Type 0
  IfSaw (Saw shown) P = P shown
  IfSaw Unseen P = Unit {0}
  IfSaw NoMemory P = Unit {0}

  abbrev pub OnUnseen : Looked S → Type 0 → Type 0
  OnUnseen (Saw shown) P = Unit {0}
  OnUnseen Unseen P = P
  OnUnseen NoMemory P = Unit {0}

  abbrev pub OnNoMemory : Looked S → Type 0 → Type 0
  OnNoMemory (Saw shown) P = Unit {0}
  OnNoMemory Unseen P = Unit {0}
  OnNoMemory NoMemory P = P
