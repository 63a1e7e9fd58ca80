use Rattle.fsa_machine.proofs.machine.StoreMachine.turn.Given as goal

-- the ledger is that of the blank
abbrev pub ghosts-turn_uncounted : goal.ghosts-turn_uncounted
ghosts-turn_uncounted g a = record { name = a.blank.name; parts = a.blank.parts }
