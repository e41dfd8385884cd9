use Rattle.std.proofs.Common.{◌++◌, sym, ap, ◌∙◌}
use Rattle.std.proofs.lemmas.Result.{on_ok_weaker}
use Rattle.rc_coordinator.specs.View.{state_view}
use Rattle.rc_coordinator.proofs.RuleLemmas.{attempt-there}
use Rattle.rc_coordinator.proofs.state.State.decide.Goals as goal

pub returns-in-Ok-clause-state : goal.returns-in-Ok-clause-state
returns-in-Ok-clause-state g c =
    let there = attempt-there (state_view c.args.self.now) c.in-Ok.choice.number c.in-Ok.ensures.place.0 c.in-Ok.ensures.place.1 in
    on_ok_weaker c.decide_on.result (λ after. after there.0 there.1 ∙
    ap (λ r. r.0) (sym (c.in-Ok.ensures.chosen there.0 there.1))) c.decide_on.ensures.state

pub returns-in-Ok-clause-sends : goal.returns-in-Ok-clause-sends
returns-in-Ok-clause-sends g c =
    let there = attempt-there (state_view c.args.self.now) c.in-Ok.choice.number c.in-Ok.ensures.place.0 c.in-Ok.ensures.place.1 in
    on_ok_weaker c.decide_on.result (λ after. after there.0 (c.in-Ok.ensures.master there.0 there.1) ∙
    ap (λ r. c.args.sent.now.items ++ r.1) (sym (c.in-Ok.ensures.chosen there.0 there.1))) c.decide_on.ensures.sends
