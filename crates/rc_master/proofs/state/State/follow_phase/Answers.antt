use Rattle.std.proofs.Common.{◌∙◌, List, ◌++◌, ap, sym}
use Rattle.std.proofs.lemmas.List.{append-nil}
use Rattle.rc_model.specs.Model.{Phase, Log, Message, with_log}
use Rattle.rc_headroll.specs.LogData.{log_of}
use Rattle.rc_headroll.specs.Advancing.{advanced}
use Rattle.rc_master.specs.Rules.{tells_phase}
use Rattle.rc_master.specs.View.{state_view}
use Rattle.rc_master.proofs.Notes.{same-shut, notes-same}
use Rattle.rc_master.proofs.Phases.{phase-did, phase-state, phase-tells, phase-silent, same-next}
use Rattle.rc_master.proofs.state.State.follow_phase.Goals as goal

pub returns-then-not-advance-clause-applied : goal.returns-then-not-advance-clause-applied
returns-then-not-advance-clause-applied c = c.if-not-advance.ensures.advances ∙ phase-did (state_view c.args.self.now)

pub returns-then-not-advance-clause-state : goal.returns-then-not-advance-clause-state
returns-then-not-advance-clause-state c =
    ap (with_log (state_view c.args.self.now)) c.advance.ensures.state ∙ phase-state (state_view c.args.self.now)

pub returns-then-not-advance-clause-sends : goal.returns-then-not-advance-clause-sends
returns-then-not-advance-clause-sends c =
    sym (append-nil c.args.sent.now.items)
    ∙ ap (λ (more : List Message). c.args.sent.now.items ++ more)
    (sym (phase-silent (state_view c.args.self.now) c.if-not-advance.ensures.advances))

pub returns-then-not-advance-clause-noted : goal.returns-then-not-advance-clause-noted
returns-then-not-advance-clause-noted c =
    rw c.advance.ensures.state
    (notes-same _ _ _ _ (same-next _) (notes-same _ _ _ _ (same-shut _) c.requires.noted))

pub returns-clause-applied : goal.returns-clause-applied
returns-clause-applied c = c.if-not-advance.ensures.advances ∙ phase-did (state_view c.args.self.now)

pub returns-clause-state : goal.returns-clause-state
returns-clause-state c =
    ap (with_log (state_view c.args.self.now)) c.advance.ensures.state ∙ phase-state (state_view c.args.self.now)

pub returns-clause-sends : goal.returns-clause-sends
returns-clause-sends c =
    c.in_ok-tell_phase.ensures
    ∙ ap (λ (log : Log). c.args.sent.now.items ++ tells_phase c.phase-was.result log) c.advance.ensures.state
    ∙ ap (λ (phase : Phase). c.args.sent.now.items ++ tells_phase phase (advanced (log_of c.args.self.now.log))) c.phase-was.ensures
    ∙ ap (λ (more : List Message). c.args.sent.now.items ++ more)
    (phase-tells (state_view c.args.self.now) c.if-not-advance.ensures.advances)

pub returns-clause-noted : goal.returns-clause-noted
returns-clause-noted c =
    rw c.advance.ensures.state
    (notes-same _ _ _ _ (same-next _) (notes-same _ _ _ _ (same-shut _) c.requires.noted))
