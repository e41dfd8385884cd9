use Rattle.std.proofs.Common.{◌++◌, ap, ◌∙◌}
use Rattle.std.proofs.lemmas.Result.{on_ok_weaker}
use Rattle.rc_coordinator.specs.Book.{Book, coordinator_of}
use Rattle.rc_model.specs.Nodes.{coordinator_step}
use Rattle.rc_coordinator.proofs.coordinator.Coordinator.step_into.Goals as goal

pub returns-clause-state : goal.returns-clause-state
returns-clause-state g c =
    on_ok_weaker c.step_into.result (λ ok. ok ∙ ap (λ (book : Book). (coordinator_step (coordinator_of book) c.args.work.now).0)
    c.self.view_is) c.step_into.ensures.state

pub returns-clause-sends : goal.returns-clause-sends
returns-clause-sends g c =
    on_ok_weaker c.step_into.result
    (λ ok. ok ∙ ap (λ (book : Book). c.args.sent.now.items ++ (coordinator_step (coordinator_of book) c.args.work.now).1)
    c.self.view_is) c.step_into.ensures.sends
