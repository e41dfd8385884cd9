use Rattle.sevunthi.proofs.making.sevunthi_come_back.Goals as goal

pub returns-in-Err-clause-save : goal.returns-in-Err-clause-save
returns-in-Err-clause-save c = λ e. c.in-Err.ensures.none (c.number_of.ensures.save e)

pub returns-in-Err-clause-short : goal.returns-in-Err-clause-short
returns-in-Err-clause-short c = λ e. c.in-Err.ensures.short (c.number_of.ensures.short e)

pub returns-in-Err-clause-used_up : goal.returns-in-Err-clause-used_up
returns-in-Err-clause-used_up c = λ e. c.in-Err.ensures.full (c.number_of.ensures.used_up e)
