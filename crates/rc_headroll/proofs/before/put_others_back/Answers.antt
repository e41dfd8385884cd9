use Rattle.std.proofs.Common.{ℕ, List, sym, ap, ◌∙◌}
use Rattle.rc_config.specs.declared.state.SegmentState.{SegmentState}
use Rattle.rc_config.specs.Lists.{segment_at}
use Rattle.rc_headroll.specs.Before.{other_back, others_back}
use Rattle.rc_headroll.proofs.GoingBack.{others_back-push, others_back-none, nothing-left}
use Rattle.rc_headroll.proofs.before.put_others_back.Goals as goal

pub loop-seg-preserved : goal.loop-seg-preserved
loop-seg-preserved c = record {
  back =
      others_back-push c.args.head c.pop.new.self.kept c.loop-seg.others.kept c.in-Some.seg c.in-Some.state
      (segment_at c.loop-seg.segments) (segment_at c.put_other_back.new.segments) c.in-Some.ensures.kept c.in-Some.ensures.once
      (c.put_other_back.ensures ∙ ap (λ seg. other_back c.args.head seg c.in-Some.state (segment_at c.loop-seg.segments)) c.from.ensures)
      ∙ c.loop-seg.invariant.back;
  room = c.pop.ensures.room ∙ c.loop-seg.invariant.room;
}

pub returns-clause-back : goal.returns-clause-back
returns-clause-back c =
    let none = nothing-left c.loop-seg.others.kept c.in_default.ensures.found in
    sym (others_back-none c.args.head (segment_at c.loop-seg.segments))
    ∙ ap (λ (others : List (ℕ × SegmentState)). others_back c.args.head others (segment_at c.loop-seg.segments)) (sym none)
    ∙ c.loop-seg.invariant.back
