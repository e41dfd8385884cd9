use Rattle.std.proofs.Common.{◌++◌, ap, ◌∙◌}
use Rattle.std.proofs.lemmas.Result.{on_ok_weaker}
use Rattle.rc_model.specs.CoordinatorStep.{coordinator_takes}
use Rattle.rc_coordinator.specs.Book.{Book, coordinator_of}
use Rattle.rc_coordinator.proofs.coordinator.Coordinator.take.Goals as goal

pub returns-clause-state : goal.returns-clause-state
returns-clause-state g c =
    on_ok_weaker c.take.result
    (λ ok. ok ∙ ap (λ (book : Book).
    (coordinator_takes (coordinator_of book) c.args.message.now.from c.args.message.now.body).0) c.self.view_is)
    c.take.ensures.state

pub returns-clause-sends : goal.returns-clause-sends
returns-clause-sends g c =
    on_ok_weaker c.take.result
    (λ ok. ok ∙ ap (λ (book : Book). c.args.sent.now.items ++
    (coordinator_takes (coordinator_of book) c.args.message.now.from c.args.message.now.body).1) c.self.view_is)
    c.take.ensures.sends
