use Rattle.std.proofs.Common.{sym, subst, ap, ◌∙◌}
use Rattle.rc_runs.specs.Letters.{Waits}
use Rattle.rc_runs.specs.Settling.{due_from}
use Rattle.rc_world.specs.Happened.{replayed}
use Rattle.rc_runs.proofs.runs.Run.next_due.Goals as goal

pub returns-clause-due : goal.returns-clause-due
returns-clause-due g c =
    let world = replayed c.self.inside.world in
    c.next_due.ensures world.events (subst (λ sent. Waits world.events sent c.self.inside.mail)
    (sym c.sent.ensures.messages) c.self.invariant.waits)
    ∙ ap (λ sent. due_from c.args.passing.now world.events sent c.args.from) c.sent.ensures.messages
    ∙ ap (λ w. due_from c.args.passing.now (replayed w).events (replayed w).sent c.args.from) c.self.view_is
