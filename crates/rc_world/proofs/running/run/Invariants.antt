use Rattle.std.proofs.Common.{◌≡◌, take}
use Rattle.rc_world.specs.Happened.{with_events, AllHappen}
use Rattle.rc_world.proofs.running.run.Given as goal

-- the events so far have happened
abbrev pub invariant-loop-index : goal.invariant-loop-index
invariant-loop-index g l = (l.world ≡ with_events l.fn.world (take l.index l.events)) × AllHappen l.fn.world (take l.index l.events)
