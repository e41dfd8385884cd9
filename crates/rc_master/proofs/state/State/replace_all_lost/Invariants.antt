use Rattle.std.proofs.Common.{◌≡◌, ◌≤◌, ◌-◌, ◌++◌}
use Rattle.rc_model.specs.Model.{numbers_to, replaces_lost_of}
use Rattle.rc_headroll.specs.LogData.{log_of}
use Rattle.rc_headroll.specs.Soundness.{IsRoused}
use Rattle.rc_master.specs.View.{state_view, before_step, IsNoted}
use Rattle.rc_master.proofs.state.State.replace_all_lost.Given as goal

abbrev pub invariant-loop-seg : goal.invariant-loop-seg
invariant-loop-seg l = record {
  known : l.done ≤ (log_of l.self.log).head;
  roused : IsRoused l.self.known l.self.log;
  noted : IsNoted l.self;
  back : before_step l.self ≡ before_step l.fn.self;
  head : (log_of l.self.log).head ≡ (log_of l.fn.self.log).head;
  state : state_view l.self ≡ (replaces_lost_of (numbers_to l.done) (state_view l.fn.self)).0;
  sends : l.sent.items ≡ l.fn.sent.items ++ (replaces_lost_of (numbers_to l.done) (state_view l.fn.self)).1;
}

-- the segments that are left
abbrev pub decreases-loop-seg : goal.decreases-loop-seg
decreases-loop-seg l = (log_of l.self.log).head - l.done
