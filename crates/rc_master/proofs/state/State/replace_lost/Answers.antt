use Rattle.std.proofs.Common.{◌++◌, List, sym, ap, ◌∙◌}
use Rattle.std.proofs.lemmas.List.{append-nil}
use Rattle.rc_model.specs.Model.{Message, Master}
use Rattle.rc_headroll.specs.LogData.{log_of}
use Rattle.rc_headroll.proofs.ListRuleLemmas.{replaces-unconcerned}
use Rattle.rc_master.specs.View.{state_view}
use Rattle.rc_master.proofs.Notes.{loses-same, notes-same}
use Rattle.rc_master.proofs.Repeating.{lost-refused, lost-in}
use Rattle.rc_master.proofs.state.State.replace_lost.Goals as goal

pub returns-then-not-is_concerned-clause-state : goal.returns-then-not-is_concerned-clause-state
returns-then-not-is_concerned-clause-state c =
    ap (λ (r : Master × List Message). r.0)
    (sym (replaces-unconcerned (state_view c.args.self.now) c.args.seg (sym c.is_concerned.ensures ∙ c.if-not-is_concerned.true)))

pub returns-then-not-is_concerned-clause-sends : goal.returns-then-not-is_concerned-clause-sends
returns-then-not-is_concerned-clause-sends c =
    sym (append-nil c.args.sent.now.items)
    ∙ ap (λ (r : Master × List Message). c.args.sent.now.items ++ r.1)
    (sym (replaces-unconcerned (state_view c.args.self.now) c.args.seg (sym c.is_concerned.ensures ∙ c.if-not-is_concerned.true)))

pub returns-in_ok-add_places-in-Ok-clause-noted : goal.returns-in_ok-add_places-in-Ok-clause-noted
returns-in_ok-add_places-in-Ok-clause-noted c =
    notes-same _ _ _ _ (loses-same c.args.self.now.known c.args.seg (log_of c.args.self.now.log)
    (log_of c.lose.new.self) _ c.in-Ok.ensures.ok).0 c.requires.noted

pub returns-in_ok-unless_memory-in-Err-clause-state : goal.returns-in_ok-unless_memory-in-Err-clause-state
returns-in_ok-unless_memory-in-Err-clause-state c =
    ap (λ (r : Master × List Message). r.0)
    (sym (lost-refused (state_view c.args.self.now) c.args.seg (log_of c.lose.new.self) _ _
    (sym (c.is_freed.ensures) ∙ c.if-is_freed.false) c.in-Err.ensures.err
    c.in_ok-unless_memory-in-Err.ensures))

pub returns-in_ok-unless_memory-in-Err-clause-sends : goal.returns-in_ok-unless_memory-in-Err-clause-sends
returns-in_ok-unless_memory-in-Err-clause-sends c =
    sym (append-nil c.args.sent.now.items)
    ∙ ap (λ (r : Master × List Message). c.args.sent.now.items ++ r.1)
    (sym (lost-refused (state_view c.args.self.now) c.args.seg (log_of c.lose.new.self) _ _
    (sym (c.is_freed.ensures) ∙ c.if-is_freed.false) c.in-Err.ensures.err
    c.in_ok-unless_memory-in-Err.ensures))

pub returns-in_ok-unless_memory-in-Err-clause-noted : goal.returns-in_ok-unless_memory-in-Err-clause-noted
returns-in_ok-unless_memory-in-Err-clause-noted c =
    notes-same _ _ _ _ (loses-same c.args.self.now.known c.args.seg (log_of c.args.self.now.log) (log_of c.lose.new.self) _
    (lost-in (state_view c.args.self.now) c.args.seg (log_of c.lose.new.self) _ _ c.in-Err.ensures.err
    c.in_ok-unless_memory-in-Err.ensures)).0 c.requires.noted

pub returns-in_ok-unless_memory-in-Err-clause-head : goal.returns-in_ok-unless_memory-in-Err-clause-head
returns-in_ok-unless_memory-in-Err-clause-head c =
    (loses-same c.args.self.now.known c.args.seg (log_of c.args.self.now.log) (log_of c.lose.new.self) _
    (lost-in (state_view c.args.self.now) c.args.seg (log_of c.lose.new.self) _ _ c.in-Err.ensures.err
    c.in_ok-unless_memory-in-Err.ensures)).1
