use Rattle.std.proofs.Common.{string_bytes}
use Rattle.rc_sim.proofs.NoBreaches.{no_breach_of, clean_is_none}
use Rattle.rc_sim.proofs.cutting.cut_explored.Goals as goal

pub returns-clause-cut_short : goal.returns-clause-cut_short
returns-clause-cut_short g c count same =
    let answer = c.in_ok-answer.answer in
    let begun = c.write_answer.ensures.cut_short count same in
    (answer.verdict, string_bytes answer.text, c.in_ok-answer.ensures.ok, begun.0, begun.1)

pub returns-clause-no_breach : goal.returns-clause-no_breach
returns-clause-no_breach g c =
    let answer = c.in_ok-answer.answer in
    no_breach_of c.write_answer.result answer.verdict
    c.write_answer.ensures.verdict (clean_is_none answer.verdict c.in_ok-answer.ensures.ok.1.0)
