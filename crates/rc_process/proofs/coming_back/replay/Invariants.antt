use Rattle.std.proofs.Common.{◌≡◌, take}
use Rattle.rc_world.specs.NodeView.{node_seen}
use Rattle.rc_keeping.specs.Standing.{node_given}
use Rattle.rc_process.proofs.coming_back.replay.Given as goal

-- the works so far have been given
abbrev pub invariant-loop-work : goal.invariant-loop-work
invariant-loop-work g l = node_seen l.node ≡ node_given (node_seen l.fn.node) (take l.work-index l.works)
