use Rattle.rc_model.specs.Measure.{measure}
use Rattle.rc_master.specs.View.{state_view, before_step, IsNoted}
use Rattle.rc_master.proofs.Settling.{IsOnTheWay}
use Rattle.std.proofs.Common.{◌≡◌}
use Rattle.rc_master.proofs.state.State.settle.Given as goal

abbrev pub invariant-rules : goal.invariant-rules
invariant-rules l = record {
  noted : IsNoted l.self;
  before : before_step l.self ≡ before_step l.fn.self;
  way : IsOnTheWay (state_view l.fn.self) (state_view l.self) l.fn.sent.items l.sent.items;
}

abbrev pub decreases-rules : goal.decreases-rules
decreases-rules l = measure (state_view l.self)
