use Rattle.std.proofs.Common.{◌≡◌, ◌≤◌, length}
use Rattle.rc_model.specs.Model.{with_freed, old_head_of}
use Rattle.rc_headroll.specs.LogData.{log_of, before_of}
use Rattle.rc_headroll.proofs.LogSteps.{left_to}
use Rattle.rc_headroll.proofs.log.LogHead.free_each.Given as goal

-- those among the numbers so far that are left out were freed
abbrev pub invariant-loop-index : goal.invariant-loop-index
invariant-loop-index l = record {
  freed : log_of l.self ≡ with_freed (left_to (log_of l.fn.self) l.index) (log_of l.fn.self);
  before : before_of l.self ≡ before_of l.fn.self;
  counted : l.self.counted ≡ l.fn.self.counted;
  all : l.count ≡ length (old_head_of (log_of l.fn.self)).digest;
  place : l.place ≤ l.index;
}
