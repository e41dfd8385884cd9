use Rattle.std.proofs.Common.{rules, sym, ◌∙◌}
use Rattle.rc_master.specs.View.{state_view}
use Rattle.rc_master.proofs.Settling.{way-start, apart-some, round-on, round-end}
use Rattle.rc_master.proofs.state.State.settle.Goals as goal

pub rules-init : goal.rules-init
rules-init c = record {
  noted = c.requires.noted;
  before = search rules;
  way = way-start (state_view c.args.self.now) c.args.sent.now.items (apart-some _ c.requires.noted.replicas);
}

pub rules-smaller : goal.rules-smaller
rules-smaller c =
    (round-on (state_view c.args.self.now) (state_view c.rules.self) (state_view c.follow_up.new.self)
    c.args.sent.now.items c.rules.sent.items c.follow_up.new.sent.items
    c.rules.invariant.way (sym c.if-branch.true ∙ c.in_ok-follow_up.ensures.applied) c.in_ok-follow_up.ensures.state
    c.in_ok-follow_up.ensures.sends).1

pub rules-preserved : goal.rules-preserved
rules-preserved c = record {
  noted = c.in_ok-follow_up.ensures.noted;
  before = c.in_ok-follow_up.ensures.before ∙ c.rules.invariant.before;
  way = (round-on (state_view c.args.self.now) (state_view c.rules.self) (state_view c.follow_up.new.self)
      c.args.sent.now.items c.rules.sent.items c.follow_up.new.sent.items
      c.rules.invariant.way (sym c.if-branch.true ∙ c.in_ok-follow_up.ensures.applied) c.in_ok-follow_up.ensures.state
      c.in_ok-follow_up.ensures.sends).0;
}

pub returns-clause-state : goal.returns-clause-state
returns-clause-state c =
    (round-end (state_view c.args.self.now) (state_view c.rules.self) (state_view c.follow_up.new.self)
    c.args.sent.now.items c.rules.sent.items c.follow_up.new.sent.items
    c.rules.invariant.way (sym c.if-branch.false ∙ c.in_ok-follow_up.ensures.applied) c.in_ok-follow_up.ensures.state
    c.in_ok-follow_up.ensures.sends).0

pub returns-clause-sends : goal.returns-clause-sends
returns-clause-sends c =
    (round-end (state_view c.args.self.now) (state_view c.rules.self) (state_view c.follow_up.new.self)
    c.args.sent.now.items c.rules.sent.items c.follow_up.new.sent.items
    c.rules.invariant.way (sym c.if-branch.false ∙ c.in_ok-follow_up.ensures.applied) c.in_ok-follow_up.ensures.state
    c.in_ok-follow_up.ensures.sends).1
