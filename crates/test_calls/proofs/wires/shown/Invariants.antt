use Rattle.test_calls.proofs.wires.shown.Given as goal

abbrev pub ghosts-play : goal.ghosts-play
ghosts-play g a = record { wire = a.opening }
