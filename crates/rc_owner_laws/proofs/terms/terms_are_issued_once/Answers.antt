use Rattle.rc_owner_laws.proofs.Issued.{terms-are-issued-once}
use Rattle.rc_owner_laws.proofs.TermReplays.{terms-world}
use Rattle.rc_owner_laws.proofs.terms.terms_are_issued_once.Goals as goal

pub returns : goal.returns
returns c = record { once = terms-are-issued-once; hold = terms-world }
