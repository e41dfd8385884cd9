use Rattle.std.proofs.Common.{◌++◌, List, sym, ap, ◌∙◌}
use Rattle.std.proofs.lemmas.List.{append-nil}
use Rattle.rc_model.specs.Model.{Master, Message}
use Rattle.rc_master.specs.Rules.{follows_rest}
use Rattle.rc_master.specs.View.{state_view}
use Rattle.rc_master.proofs.Phases.{went-did, went-still, stays-all, stays-still, all-applied, all-state, all-sends}
use Rattle.rc_master.proofs.state.State.follow_undue.Goals as goal

pub returns-then-branch-clause-applied : goal.returns-then-branch-clause-applied
returns-then-branch-clause-applied c =
    went-did (state_view c.args.self.now) c.requires.undue (sym c.if-branch.true ∙ c.in_ok-follow_phase.ensures.applied)

pub returns-then-branch-clause-state : goal.returns-then-branch-clause-state
returns-then-branch-clause-state c =
    c.in_ok-follow_phase.ensures.state
    ∙ ap (λ (done : Master × List Message). done.0)
    (went-still (state_view c.args.self.now) c.requires.undue (sym c.if-branch.true ∙ c.in_ok-follow_phase.ensures.applied))

pub returns-then-branch-clause-sends : goal.returns-then-branch-clause-sends
returns-then-branch-clause-sends c =
    c.in_ok-follow_phase.ensures.sends
    ∙ ap (λ (done : Master × List Message). c.args.sent.now.items ++ done.1)
    (went-still (state_view c.args.self.now) c.requires.undue (sym c.if-branch.true ∙ c.in_ok-follow_phase.ensures.applied))

pub returns-clause-applied : goal.returns-clause-applied
returns-clause-applied c =
    let stays = sym c.if-branch.false ∙ c.in_ok-follow_phase.ensures.applied in
    all-applied c.follow_first.result (λ m. follows_rest m) (state_view c.args.self.now) (state_view c.follow_phase.new.self)
    (c.in_ok-follow_phase.ensures.state
    ∙ ap (λ (done : Master × List Message). done.0) (stays-still (state_view c.args.self.now) c.requires.undue stays))
    (stays-all (state_view c.args.self.now) c.requires.undue stays) c.follow_first.ensures.applied

pub returns-clause-state : goal.returns-clause-state
returns-clause-state c =
    let stays = sym c.if-branch.false ∙ c.in_ok-follow_phase.ensures.applied in
    all-state c.follow_first.result (λ m. follows_rest m) (state_view c.args.self.now) (state_view c.follow_phase.new.self)
    (c.in_ok-follow_phase.ensures.state
    ∙ ap (λ (done : Master × List Message). done.0) (stays-still (state_view c.args.self.now) c.requires.undue stays))
    (stays-all (state_view c.args.self.now) c.requires.undue stays) (state_view c.follow_first.new.self) c.follow_first.ensures.state

pub returns-clause-sends : goal.returns-clause-sends
returns-clause-sends c =
    let stays = sym c.if-branch.false ∙ c.in_ok-follow_phase.ensures.applied in
    all-sends c.follow_first.result (λ m. follows_rest m) (state_view c.args.self.now) (state_view c.follow_phase.new.self)
    (c.in_ok-follow_phase.ensures.state
    ∙ ap (λ (done : Master × List Message). done.0) (stays-still (state_view c.args.self.now) c.requires.undue stays))
    (stays-all (state_view c.args.self.now) c.requires.undue stays)
    c.args.sent.now.items c.follow_phase.new.sent.items c.follow_first.new.sent.items
    (c.in_ok-follow_phase.ensures.sends
    ∙ ap (λ (done : Master × List Message). c.args.sent.now.items ++ done.1)
    (stays-still (state_view c.args.self.now) c.requires.undue stays)
    ∙ append-nil c.args.sent.now.items)
    c.follow_first.ensures.sends
