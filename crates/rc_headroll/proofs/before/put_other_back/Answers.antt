use Rattle.std.proofs.Common.{◌∙◌, arith}
use Rattle.rc_config.specs.Lists.{segment_at}
use Rattle.rc_headroll.proofs.GoingBack.{other_back-then, other_back-last, other_back-zero}
use Rattle.rc_headroll.proofs.before.put_other_back.Goals as goal
use Rattle.rc_headroll.proofs.before.put_other_back.Goals.{else-seg-gt0-via-then-seg-gt0+else-seg-head, else-seg-gt0-via-else-seg-gt0}

pub returns-then-seg-head : goal.returns-then-seg-head
returns-then-seg-head c =
    c.put_one_back.ensures ∙ other_back-then (segment_at c.args.segments.now) c.args.head c.args.seg c.args.state.now
    (omega arith) (omega arith)

pub returns-else-seg-gt0 : goal.returns-else-seg-gt0
returns-else-seg-gt0 c = elim c.else-seg-gt0.branch [
  | else-seg-gt0-via-then-seg-gt0+else-seg-head w ↦ other_back-last (segment_at c.args.segments.now) c.args.head
      c.args.seg c.args.state.now (omega arith)
  | else-seg-gt0-via-else-seg-gt0 w ↦ other_back-zero (segment_at c.args.segments.now) c.args.head c.args.seg c.args.state.now (omega arith)
]
