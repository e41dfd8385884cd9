use Rattle.std.proofs.Common.{sym, ap, ◌∙◌, Option}
use Rattle.rc_config.specs.declared.state.SegmentState.{SegmentState}
use Rattle.rc_config.specs.Lists.{segment_at}
use Rattle.rc_headroll.specs.Before.{one_back}
use Rattle.rc_headroll.proofs.GoingBack.{one_back-none}
use Rattle.rc_headroll.proofs.before.put_kept_back.Goals as goal

pub returns-in_default : goal.returns-in_default
returns-in_default c =
    one_back-none (segment_at c.args.segments.now) c.args.seg
    ∙ ap (λ (kept : Option SegmentState). one_back c.args.seg kept (segment_at c.args.segments.now)) (sym c.in_default.is)
