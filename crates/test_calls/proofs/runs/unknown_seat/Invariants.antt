use Rattle.test_calls.proofs.runs.unknown_seat.Given as goal

abbrev pub ghosts-run : goal.ghosts-run
ghosts-run a b = record { wire = b.opening }
