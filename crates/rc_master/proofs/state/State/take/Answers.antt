use Rattle.std.proofs.Common.{◌≡◌, ◌++◌, List, sym, ap, ◌∙◌, subst}
use Rattle.std.proofs.lemmas.List.{append-nil}
use Rattle.rc_model.specs.Model.{Message, Master, master_takes_first}
use Rattle.rc_master.specs.Quiet.{IsQuiet}
use Rattle.rc_master.specs.View.{state_view}
use Rattle.rc_master.proofs.Quiet.{takes-quiet, on_ok-then}
use Rattle.rc_master.proofs.state.State.take.Goals as goal

pub returns-then-is_quiet_message-clause-state : goal.returns-then-is_quiet_message-clause-state
returns-then-is_quiet_message-clause-state c =
    let old : Master = state_view c.args.self.now in
    on_ok-then c.take_quiet.result
    (λ (e : state_view c.take_quiet.new.self ≡ (master_takes_first old c.args.from c.args.body.now).0).
    e ∙ ap (λ (r : Master × List Message). r.0)
    (sym (takes-quiet old c.args.from c.args.body.now c.if-self.false (subst IsQuiet e c.take_quiet.ensures.quiet)
    c.take_quiet.ensures.silent)))
    c.take_quiet.ensures.state

pub returns-then-is_quiet_message-clause-sends : goal.returns-then-is_quiet_message-clause-sends
returns-then-is_quiet_message-clause-sends c =
    let old : Master = state_view c.args.self.now in
    on_ok-then c.take_quiet.result
    (λ (e : state_view c.take_quiet.new.self ≡ (master_takes_first old c.args.from c.args.body.now).0).
    sym (append-nil c.args.sent.now.items) ∙ ap (λ (r : Master × List Message). c.args.sent.now.items ++ r.1)
    (sym (takes-quiet old c.args.from c.args.body.now c.if-self.false (subst IsQuiet e c.take_quiet.ensures.quiet)
    c.take_quiet.ensures.silent)))
    c.take_quiet.ensures.state
