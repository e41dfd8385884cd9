use Rattle.rc_audit.proofs.PlaceLemmas.{one_way_told}
use Rattle.rc_audit.proofs.evidence.Evidence.is_made_one_way.Goals as goal

pub returns-in-None : goal.returns-in-None
returns-in-None c = one_way_told c.args.self.now.messages.now c.args.master c.args.seg c.args.offset _ c.in-None.ensures

pub returns-in-Some : goal.returns-in-Some
returns-in-Some c = one_way_told c.args.self.now.messages.now c.args.master c.args.seg c.args.offset _ c.in-Some.ensures
