use Rattle.std.proofs.Common.{◌≡◌, ◌++◌, ◌≤◌, length, take}
use Rattle.rc_model.specs.MasterStep.{takes_plan}
use Rattle.rc_master.specs.View.{state_view, before_step, IsNoted}
use Rattle.rc_master.proofs.state.State.take_plan.Given as goal

abbrev pub invariant-loop-part : goal.invariant-loop-part
invariant-loop-part l = record {
  noted : IsNoted l.self;
  back : before_step l.self ≡ before_step l.fn.self;
  kept : l.self.kept ≤ length l.self.tasks.items;
  state : state_view l.self ≡ (takes_plan l.attempt l.crashed l.rows (take l.part-index l.parts) (state_view l.fn.self)).0;
  sends : l.sent.items ≡ l.fn.sent.items ++ (takes_plan l.attempt l.crashed l.rows (take l.part-index l.parts) (state_view l.fn.self)).1;
}
