use Rattle.std.proofs.Common.{◌≡◌, ◌++◌, List, sym, ap, ◌∙◌, subst}
use Rattle.rc_model.specs.Model.{Message, Master}
use Rattle.rc_master.proofs.Outer.{ticks-up}
use Rattle.rc_master.specs.Quiet.{IsQuiet}
use Rattle.rc_master.specs.View.{Moment, now_of, state_view}
use Rattle.rc_master.proofs.state.State.tick.Goals as goal

pub returns-in-Err-clause-quiet : goal.returns-in-Err-clause-quiet
returns-in-Err-clause-quiet c =
    let back : now_of c.restore.new.self ≡ now_of c.args.self.now =
    c.restore.ensures ∙ (c.try_tick.ensures.before ∙ c.begin.ensures.before) in
    subst IsQuiet (sym (ap (λ (m : Moment). m.master) back)) c.requires.quiet

pub returns-clause-state : goal.returns-clause-state
returns-clause-state c =
    let begun : state_view c.begin.new.self ≡ state_view c.args.self.now = ap (λ (m : Moment). m.master) c.begin.ensures.now in
    c.in_default.ensures.state
    ∙ ap (λ (r : Master × List Message). r.0) (ticks-up (state_view c.begin.new.self) (state_view c.args.self.now) begun c.if-self.false)

pub returns-clause-sends : goal.returns-clause-sends
returns-clause-sends c =
    let begun : state_view c.begin.new.self ≡ state_view c.args.self.now = ap (λ (m : Moment). m.master) c.begin.ensures.now in
    c.in_default.ensures.sends
    ∙ ap (λ (r : Master × List Message). c.args.sent.now.items ++ r.1)
    (ticks-up (state_view c.begin.new.self) (state_view c.args.self.now) begun c.if-self.false)
