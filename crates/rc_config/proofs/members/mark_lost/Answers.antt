use Rattle.std.proofs.Common.{◌<◌, length, arith}
use Rattle.rc_model.specs.Config.{lost_if_crashed}
use Rattle.rc_config.proofs.MemberLemmas.{map_over_step}
use Rattle.rc_config.proofs.members.mark_lost.Goals as goal

pub loop-member-preserved : goal.loop-member-preserved
loop-member-preserved c =
    let h : c.loop-member.member-index < length c.args.members.now = omega arith in
    let within : c.loop-member.member-index < length c.loop-member.members = omega arith in
    rw (c.lost_if_crashed.ensures) (map_over_step (lost_if_crashed c.args.servers.now) c.args.members.now
    c.loop-member.members c.loop-member.member-index within h c.loop-member.invariant)
