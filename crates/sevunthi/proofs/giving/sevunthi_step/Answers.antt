use Rattle.sevunthi.proofs.giving.sevunthi_step.Goals as goal

pub returns-clause-taken : goal.returns-clause-taken
returns-clause-taken c = λ done work is. cc (c.step_in-answer.ensures.taken done work is)

pub returns-clause-possible : goal.returns-clause-possible
returns-clause-possible c = λ done work is. cc (c.step_in-answer.ensures.possible done work is)
