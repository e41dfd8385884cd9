use Rattle.rc_step_laws.proofs.Clauses.{nothing-missing, nothing-invented}
use Rattle.rc_step_laws.proofs.facts.facts_suffice.Goals as goal

pub returns : goal.returns
returns c = record { there = nothing-missing; one_entry = nothing-invented }
