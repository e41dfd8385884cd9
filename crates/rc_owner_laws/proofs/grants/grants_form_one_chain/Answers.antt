use Rattle.rc_owner_laws.proofs.OwnersOrdered.{one-chain, earlier-less, granted-once}
use Rattle.rc_owner_laws.proofs.grants.grants_form_one_chain.Goals as goal

pub returns : goal.returns
returns c = record { chain = one-chain; less = earlier-less; once = granted-once }
