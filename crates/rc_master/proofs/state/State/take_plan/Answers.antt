use Rattle.std.proofs.Common.{◌∙◌, arith}
use Rattle.rc_master.specs.View.{state_view}
use Rattle.rc_master.proofs.Repeating.{plan-step-at}
use Rattle.rc_master.proofs.state.State.take_plan.Goals as goal

pub loop-part-preserved : goal.loop-part-preserved
loop-part-preserved c =
    let step = plan-step-at c.args.attempt c.args.crashed c.args.rows.now c.args.parts.now c.loop-part.part-index _
    (state_view c.args.self.now) (state_view c.loop-part.self) (state_view c.begin_part.new.self)
    c.args.sent.now.items c.loop-part.sent.items c.begin_part.new.sent.items (omega arith)
    c.loop-part.invariant.state c.loop-part.invariant.sends c.in_ok-begin_part.ensures.state c.in_ok-begin_part.ensures.sends in
    record {
      noted = c.in_ok-begin_part.ensures.noted;
      back = c.in_ok-begin_part.ensures.before ∙ c.loop-part.invariant.back;
      kept = c.in_ok-begin_part.ensures.kept;
      state = step.0;
      sends = step.1;
    }
