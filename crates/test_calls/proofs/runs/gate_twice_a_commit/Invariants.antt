use Rattle.test_calls.proofs.runs.gate_twice_a_commit.Given as goal

abbrev pub ghosts-run : goal.ghosts-run
ghosts-run a b = record { wire = b.opening }
