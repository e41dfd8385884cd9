use Rattle.std.proofs.Common.{append-nil, sym, ◌∙◌, arith}
use Rattle.rc_coordinator.specs.View.{state_view}
use Rattle.rc_coordinator.proofs.RuleLemmas.{follows-quietly, follows-beginning}
use Rattle.rc_coordinator.proofs.state.State.follow.Goals as goal

pub returns-then-not-begins-clause-state : goal.returns-then-not-begins-clause-state
returns-then-not-begins-clause-state g c =
    let old = state_view c.args.self.now in
    let rule = follows-quietly old c.args.servers c.args.gone (sym c.if-not-begins.true ∙ c.in_ok-begins.ensures) in
    grind (arith, rule)

pub returns-then-not-begins-clause-sends : goal.returns-then-not-begins-clause-sends
returns-then-not-begins-clause-sends g c =
    let old = state_view c.args.self.now in
    let rule = follows-quietly old c.args.servers c.args.gone (sym c.if-not-begins.true ∙ c.in_ok-begins.ensures) in
    grind (arith, rule, append-nil)

pub returns-clause-state : goal.returns-clause-state
returns-clause-state g c =
    let old = state_view c.args.self.now in
    let rule = follows-beginning old c.args.servers c.args.gone (sym c.if-not-begins.false ∙ c.in_ok-begins.ensures) in
    grind (arith, rule)

pub returns-clause-sends : goal.returns-clause-sends
returns-clause-sends g c =
    let old = state_view c.args.self.now in
    let rule = follows-beginning old c.args.servers c.args.gone (sym c.if-not-begins.false ∙ c.in_ok-begins.ensures) in
    grind (arith, rule)
