use Rattle.std.proofs.Common.{◌<◌, length, arith}
use Rattle.rc_model.specs.Config.{new_member}
use Rattle.rc_config.proofs.MemberLemmas.{map_over_step}
use Rattle.rc_config.proofs.members.begin_anew.Goals as goal

pub loop-member-preserved : goal.loop-member-preserved
loop-member-preserved c =
    let h : c.loop-member.member-index < length c.args.members.now = omega arith in
    let within : c.loop-member.member-index < length c.loop-member.members = omega arith in
    rw (c.new_member.ensures) (map_over_step (λ member. new_member member.id) c.args.members.now c.loop-member.members
    c.loop-member.member-index within h c.loop-member.invariant)
