use Rattle.std.proofs.Common.{◌<◌, inl, inr, length, arith}
use Rattle.std.proofs.lemmas.List.{set-get_or}
use Rattle.rc_config.proofs.MemberLemmas.{replaces_lost, replaces_no_more, no_member}
use Rattle.rc_config.proofs.replacing.replace.Goals as goal
use Rattle.rc_config.proofs.replacing.replace.Goals.{then-member+then-next-ids, else-member, else-member-via-then-member+else-next-ids}
use Rattle.rc_config.proofs.replacing.replace.Goals.{else-member-via-else-member}

pub loop-member-preserved : goal.loop-member-preserved
loop-member-preserved c =
    let inside : c.loop-member.member-index < length c.args.members.now = omega (arith, c.loop-member.invariant.same_length) in
    elim c.if-member.branch [
      | then-member+then-next-ids w ↦
          rw (w.members-is, w.new_member.ensures, w.next-is)
          (replaces_lost c.args.members.now c.loop-member.members c.args.ids.now c.loop-member.member-index c.loop-member.next
          inside w.if-next-ids.true c.loop-member.invariant w.if-member.true)
      | else-member w ↦ elim w.else-member.branch [
        | else-member-via-then-member+else-next-ids w' ↦
            rw (w.members-is, w'.members-is, set-get_or c.loop-member.members c.loop-member.member-index no_member, w.next-is)
            (replaces_no_more c.args.members.now c.loop-member.members c.args.ids.now c.loop-member.member-index c.loop-member.next
            inside c.loop-member.invariant (inr w'.if-next-ids.false))
        | else-member-via-else-member w' ↦
            rw (w.members-is, w'.members-is, set-get_or c.loop-member.members c.loop-member.member-index no_member, w.next-is)
            (replaces_no_more c.args.members.now c.loop-member.members c.args.ids.now c.loop-member.member-index c.loop-member.next
            inside c.loop-member.invariant (inl w'.if-member.false))
      ]
    ]
