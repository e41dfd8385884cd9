use Rattle.std.proofs.Common.{◌≡◌, length}
use Rattle.rc_headroll.specs.Before.{others_back}
use Rattle.rc_config.specs.Lists.{segment_at}
use Rattle.rc_headroll.proofs.before.put_others_back.Given as goal

-- once the others are put back too, all of them are
abbrev pub invariant-loop-seg : goal.invariant-loop-seg
invariant-loop-seg l = record {
  back : others_back l.fn.head l.others.kept (segment_at l.segments)
      ≡ others_back l.fn.head l.fn.others.kept (segment_at l.fn.segments);
  room : l.others.room ≡ l.fn.others.room;
}

abbrev pub decreases-loop-seg : goal.decreases-loop-seg
decreases-loop-seg l = length l.others.kept
