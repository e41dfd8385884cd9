use Rattle.std.proofs.Common.{refl, ◌∙◌}
use Rattle.rc_model.specs.Coordinator.{attempt_at}
use Rattle.rc_attempts.specs.Lookups.{knowing}
use Rattle.rc_coordinator.specs.View.{state_view}
use Rattle.rc_coordinator.proofs.RuleLemmas.{part-by_numbers}
use Rattle.rc_coordinator.proofs.state.State.part_of_sender.Goals as goal

pub returns : goal.returns
returns g c =
    let now = state_view c.args.self.now in
    c.part_of_sender.ensures
    ∙ part-by_numbers (knowing now.attempts c.args.self.now.recoveries.current) now refl c.args.id c.args.number c.args.term
    (attempt_at now c.args.number)
