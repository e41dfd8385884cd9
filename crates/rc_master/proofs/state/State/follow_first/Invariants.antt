use Rattle.std.proofs.Common.{◌≡◌, drop}
use Rattle.rc_master.specs.Rules.{first_of, follows_rest}
use Rattle.rc_master.specs.View.{state_view, before_step, IsNoted}
use Rattle.rc_master.proofs.state.State.follow_first.Given as goal

-- no rule so far applies
abbrev pub invariant-loop-rule : goal.invariant-loop-rule
invariant-loop-rule l = record {
  noted : IsNoted l.self;
  before : before_step l.self ≡ before_step l.fn.self;
  same : state_view l.self ≡ state_view l.fn.self;
  sends : l.sent.items ≡ l.fn.sent.items;
  left : first_of (drop l.rule-index l.rule-items) (state_view l.fn.self) ≡ follows_rest (state_view l.fn.self);
}
