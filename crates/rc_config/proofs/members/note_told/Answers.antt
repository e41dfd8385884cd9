use Rattle.std.proofs.Common.{◌<◌, length, arith}
use Rattle.rc_model.specs.Config.{told_if_heard}
use Rattle.rc_config.proofs.MemberLemmas.{map_over_step}
use Rattle.rc_config.proofs.members.note_told.Goals as goal

pub loop-member-preserved : goal.loop-member-preserved
loop-member-preserved c =
    let h : c.loop-member.member-index < length c.args.members.now = omega arith in
    let within : c.loop-member.member-index < length c.loop-member.members = omega arith in
    rw (c.told_if_heard.ensures) (map_over_step (told_if_heard c.args.from c.args.len c.args.closed) c.args.members.now
    c.loop-member.members c.loop-member.member-index within h c.loop-member.invariant)
