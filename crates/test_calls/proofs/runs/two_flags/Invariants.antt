use Rattle.test_calls.proofs.runs.two_flags.Given as goal

abbrev pub ghosts-run : goal.ghosts-run
ghosts-run a b = record { wire = b.opening }
