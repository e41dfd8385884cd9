use Rattle.std.proofs.Common.{◌≡◌}
use Rattle.rc_world.specs.Happened.{replayed}
use Rattle.rc_runs.specs.declared.cutting.Keeping.TheVariants.{All}
use Rattle.rc_runs.specs.Stops.{gathered, start_of}
use Rattle.rc_runs.proofs.cutting.Keeping.keeps_all.Given as goal

-- the hosts so far start as they do where all is kept
abbrev pub invariant-loop-host : goal.invariant-loop-host
invariant-loop-host l =
    gathered (start_of l.self (replayed l.world)) l.host ≡ gathered (start_of All (replayed l.world)) l.host
