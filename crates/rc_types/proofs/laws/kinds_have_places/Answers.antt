use Rattle.rc_types.proofs.Places.{same_place}
use Rattle.rc_types.proofs.laws.kinds_have_places.Goals as goal

pub returns : goal.returns
returns c = same_place
