use Rattle.test_calls.proofs.runs.first_write.Given as goal

abbrev pub ghosts-run : goal.ghosts-run
ghosts-run g a = record { wire = a.opening }
