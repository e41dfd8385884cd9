use Rattle.std.proofs.Common.{◌≡◌, true, take, filter}
use Rattle.rc_model.specs.Master.{is_dead_segment}
use Rattle.rc_headroll.specs.LogData.{log_of}
use Rattle.rc_master.specs.Keeper.{keeper}
use Rattle.rc_master.proofs.dead.dead_segments.Given as goal

abbrev pub invariant-loop-seg : goal.invariant-loop-seg
invariant-loop-seg l = record {
  dead : l.dead.items ≡ filter (is_dead_segment (keeper true (log_of l.log))) (take l.seg-index l.segs);
  log : l.log ≡ l.initial.log;
  same : l.ownership ≡ l.initial.ownership;
}
