use Rattle.rc_owner_laws.proofs.Completing.{parts-complete-with-their-own}
use Rattle.rc_owner_laws.proofs.parts.parts_complete_with_their_own.Goals as goal

pub returns : goal.returns
returns c = parts-complete-with-their-own
