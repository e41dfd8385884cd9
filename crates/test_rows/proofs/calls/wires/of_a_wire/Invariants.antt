use Rattle.test_rows.proofs.calls.wires.of_a_wire.Given as goal

abbrev pub ghosts-turn : goal.ghosts-turn
ghosts-turn g a = record { wire = a.opening }
