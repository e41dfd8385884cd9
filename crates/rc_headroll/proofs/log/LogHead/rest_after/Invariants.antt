use Rattle.std.proofs.Common.{◌≡◌, ◌-◌, length}
use Rattle.rc_headroll.specs.LogData.{log_of, before_of}
use Rattle.rc_headroll.proofs.log.LogHead.rest_after.Given as goal

-- the log is as it was
abbrev pub invariant-loop-seg : goal.invariant-loop-seg
invariant-loop-seg l = record {
  log : log_of l.self ≡ log_of l.fn.self;
  before : before_of l.self ≡ before_of l.fn.self;
  counted : l.self.counted ≡ l.fn.self.counted;
}

-- the segments that are left
abbrev pub decreases-loop-seg : goal.decreases-loop-seg
decreases-loop-seg l = length l.self.segments - l.done
