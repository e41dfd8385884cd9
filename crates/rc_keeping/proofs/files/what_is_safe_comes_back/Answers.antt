use Rattle.rc_keeping.proofs.Back.{cuts-are-left, what-is-left}
use Rattle.rc_keeping.proofs.files.what_is_safe_comes_back.Goals as goal

pub returns : goal.returns
returns c = record { cuts = cuts-are-left; back = what-is-left }
