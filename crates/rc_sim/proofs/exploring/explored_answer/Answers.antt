use Rattle.std.proofs.Common.{string_bytes, IfOk, sym, subst}
use Rattle.rc_sim.specs.Verdicts.{Explored}
use Rattle.rc_sim.proofs.exploring.explored_answer.Goals as goal

pub returns-then-save : goal.returns-then-save
returns-then-save c = record {
  ok = subst (λ save. IfOk c.saved.result (λ answer. Explored save answer.verdict (string_bytes answer.text)))
      (sym c.if-save.true) c.saved.ensures.ok;
}

pub returns-else-save : goal.returns-else-save
returns-else-save c = record {
  ok = subst (λ save. IfOk c.reported.result (λ answer. Explored save answer.verdict (string_bytes answer.text)))
      (sym c.if-save.false) c.reported.ensures.ok;
}
