use Rattle.std.proofs.Common.{◌≡◌, ◌≤◌, ◌-◌, ◌++◌}
use Rattle.rc_headroll.specs.LogData.{log_of}
use Rattle.rc_master.specs.Beginnings.{IsBeginning}
use Rattle.rc_master.proofs.SegmentLists.{commits_to}
use Rattle.rc_master.proofs.again.add_commits_again.Given as goal

-- the Commits of the segments so far
abbrev pub invariant-loop-seg : goal.invariant-loop-seg
invariant-loop-seg l = record {
  known : l.done ≤ (log_of l.log).head;
  so_far : l.sent.items ≡ l.initial.sent.items ++ commits_to (log_of l.log) l.done;
  begun : IsBeginning l.initial.sent.items l.sent.items;
}

-- the segments that are left
abbrev pub decreases-loop-seg : goal.decreases-loop-seg
decreases-loop-seg l = (log_of l.log).head - l.done
