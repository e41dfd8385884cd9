use Rattle.rc_owner_laws.proofs.Chained.{points-have-one-chain, terms-rise, points-are-granted-once}
use Rattle.rc_owner_laws.proofs.owners.owners_form_one_chain.Goals as goal

pub returns : goal.returns
returns c = record { chain = points-have-one-chain; less = terms-rise; once = points-are-granted-once }
