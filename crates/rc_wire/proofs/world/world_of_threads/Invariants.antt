use Rattle.rc_wire.proofs.world.world_of_threads.Given as goal

abbrev pub ghosts-run : goal.ghosts-run
ghosts-run g a = record { wire = a.opening }
