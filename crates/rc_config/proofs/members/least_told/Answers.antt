use Rattle.std.proofs.Common.{◌<◌, length, arith}
use Rattle.rc_config.proofs.MemberLemmas.{least_told-more, no_member}
use Rattle.rc_config.proofs.members.least_told.Goals as goal

pub loop-member-preserved : goal.loop-member-preserved
loop-member-preserved c =
    let h : c.loop-member.member-index < length c.in-Some.others.now = omega arith in (
      c.loop-member.invariant.0,
      c.loop-member.invariant.1,
      rw (least_told-more c.loop-member.invariant.0 c.in-Some.others.now c.loop-member.member-index no_member h)
          (rw (← c.loop-member.invariant.2, ← c.told_len.ensures) c.min-least.ensures),
    )
