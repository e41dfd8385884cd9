use Rattle.rc_config.proofs.MemberLemmas.{ReplacesSoFar}
use Rattle.rc_config.proofs.replacing.replace.Given as goal

-- the members so far are replaced, the others are as they were
abbrev pub invariant-loop-member : goal.invariant-loop-member
invariant-loop-member l = ReplacesSoFar l.fn.members l.members l.ids l.member-index l.next
