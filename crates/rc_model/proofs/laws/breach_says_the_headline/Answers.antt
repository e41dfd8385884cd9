use Rattle.rc_model.proofs.Befores.{is_before-finds, is_before-found}
use Rattle.rc_model.proofs.Headlines.{breach_is_headline, dropped_is_missing}
use Rattle.rc_model.proofs.laws.breach_says_the_headline.Goals as goal

pub returns-clause-headline : goal.returns-clause-headline
returns-clause-headline c = breach_is_headline

pub returns-clause-dropped : goal.returns-clause-dropped
returns-clause-dropped c = dropped_is_missing

pub returns-clause-before : goal.returns-clause-before
returns-clause-before c = λ grants earlier later. (is_before-finds grants, is_before-found grants)
