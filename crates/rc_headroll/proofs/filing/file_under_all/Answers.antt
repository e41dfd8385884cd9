use Rattle.std.proofs.Common.{arith}
use Rattle.rc_headroll.proofs.FiledLemmas.{filed-next}
use Rattle.rc_headroll.proofs.filing.file_under_all.Goals as goal

pub loop-member-preserved : goal.loop-member-preserved
loop-member-preserved c = record {
  filed = filed-next c.loop-member.filed.entries c.file_under.new.filed.entries c.args.seg c.args.members.now
      c.loop-member.member-index _ (omega (arith, c.loop-member-test.true, c.loop-member.auto.member-index-end))
      c.file_under.ensures.others c.loop-member.invariant.filed c.in_ok-file_under.ensures.filed;
  others = λ id other was. c.file_under.ensures.others id other (c.loop-member.invariant.others id other was);
}
