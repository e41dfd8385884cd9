use Rattle.rc_step_laws.proofs.Membership.{members_were_placed}
use Rattle.rc_step_laws.proofs.member_laws.members_are_who_was_placed.Goals as goal

pub returns : goal.returns
returns c = members_were_placed
