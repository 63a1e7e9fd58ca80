use Rattle.run_tests.proofs.turns.each_try_is_one_step.Given as goal

-- the ledger is that of the blank
abbrev pub ghosts-tries_of_a_lock_that_waits_twice : goal.ghosts-tries_of_a_lock_that_waits_twice
ghosts-tries_of_a_lock_that_waits_twice g a = record { name = a.blank.name; parts = a.blank.parts }
