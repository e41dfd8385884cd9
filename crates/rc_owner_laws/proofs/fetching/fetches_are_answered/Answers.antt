use Rattle.rc_owner_laws.proofs.Fetches.{fetches-are-answered}
use Rattle.rc_owner_laws.proofs.fetching.fetches_are_answered.Goals as goal

pub returns : goal.returns
returns c = fetches-are-answered
