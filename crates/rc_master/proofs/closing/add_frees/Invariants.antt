use Rattle.std.proofs.Common.{◌≡◌, ◌++◌, drop}
use Rattle.rc_model.specs.FollowUps.{frees_segments}
use Rattle.rc_headroll.specs.LogData.{log_of}
use Rattle.rc_master.specs.Beginnings.{IsBeginning}
use Rattle.rc_master.proofs.closing.add_frees.Given as goal

-- the messages so far, and then those of the segments that are left
abbrev pub invariant-loop-seg : goal.invariant-loop-seg
invariant-loop-seg l = record {
  rest :
      l.sent.items ++ frees_segments (log_of l.log) (drop l.seg-index l.segs)
      ≡ l.initial.sent.items ++ frees_segments (log_of l.log) l.segs;
  begun : IsBeginning l.initial.sent.items l.sent.items;
}
