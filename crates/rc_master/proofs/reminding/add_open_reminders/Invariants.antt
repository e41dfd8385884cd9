use Rattle.std.proofs.Common.{◌≡◌, ◌≤◌, ◌-◌, ◌++◌}
use Rattle.rc_model.specs.Model.{numbers_to, reminds_open}
use Rattle.rc_headroll.specs.LogData.{log_of, before_of}
use Rattle.rc_master.specs.Beginnings.{IsBeginning}
use Rattle.rc_master.proofs.reminding.add_open_reminders.Given as goal

-- the reminders of the segments so far
abbrev pub invariant-loop-seg : goal.invariant-loop-seg
invariant-loop-seg l = record {
  known : l.done ≤ (log_of l.log).head;
  so_far : l.sent.items ≡ l.initial.sent.items ++ reminds_open (before_of l.log) (log_of l.log) (numbers_to l.done);
  begun : IsBeginning l.initial.sent.items l.sent.items;
}

-- the segments that are left
abbrev pub decreases-loop-seg : goal.decreases-loop-seg
decreases-loop-seg l = (log_of l.log).head - l.done
